-- Files by their names.
use Rattle.std.specs.Prelude.{Result, Ok, Err, MatchResult}

-- a weaker property of the value that a call returns
pub available_by : {V E : Type 0} (r : Result V E) (A B : V → Type 0) (C : E → Type 0) → ((v : V) → A v → B v)
    → MatchResult r A C → MatchResult r B C
available_by (Ok v) A B C gives h = gives v h
available_by (Err e) A B C gives h = h

-- Lemmas that later crates may cite.
use Rattle.std.proofs.Common.{◌≡◌, ℕ, ◌+◌, ◌<◌, ◌≤◌, Bool, true, false, cond, not, List, [], ◌∷◌, length, take, drop, Option, Some, None, refl, ap, arith, nat_lt}
use Rattle.std.specs.List.{slice_split, onto_first, position, position_or_len}
use Rattle.std.proofs.lemmas.List.Splits.{slice_split_first}
use Rattle.std.proofs.lemmas.Option.{cond_some}
use borrow.Author.Tests.{ltb-true, ltb-false}
use Rattle.std.proofs.KnownBytes.{Appends-nil, Consumes-nil}
use Rattle.script_loop.specs.Serves.{ReadsAndWrites}

-- nothing read and nothing written
pub Moves-none : (a w : Option (List ℕ)) → ReadsAndWrites a a [] w w []
Moves-none a w = record { consumed = Consumes-nil a; appended = Appends-nil w }

slice_split-none : (p : ℕ → Bool) (xs : List ℕ) → length xs ≤ position_or_len p xs → slice_split p xs ≡ xs ∷ []
slice_split-none p [] h = refl
slice_split-none p (x ∷ xs) h =
    let step = elim (p x) as (λ v. length (x ∷ xs) ≤ cond (not v) (1 + position_or_len p xs) 0
    → cond v ([] ∷ slice_split p xs) (onto_first x (slice_split p xs)) ≡ (x ∷ xs) ∷ []) [
      | true ↦ λ g. absurd (omega arith)
      | false ↦ λ g. ap (λ (t : List (List ℕ)). onto_first x t) (slice_split-none p xs (omega arith))
    ] in step h

none_not : {A : Type 0} (b : Bool) (x : A) → cond b (Some x) None ≡ None → b ≡ false
none_not true x e = cc
none_not false x e = refl

-- the first part of a text, up to a byte that passes the test, and what is left
pub split-cut : (p : ℕ → Bool) (text : List ℕ) (at : ℕ) → position p text ≡ Some at
    → slice_split p text ≡ take at text ∷ slice_split p (drop (at + 1) text)
split-cut p text at e =
    let found = cond_some (nat_lt (position_or_len p text) (length text)) (position_or_len p text) at e in
    let within : position_or_len p text < length text = ltb-true _ _ found.0 in
    rw (← found.1) (slice_split_first p text 0 within)

-- a text of one part
pub split-one : (p : ℕ → Bool) (text : List ℕ) → position p text ≡ None → slice_split p text ≡ text ∷ []
split-one p text e =
    let found = none_not (nat_lt (position_or_len p text) (length text)) (position_or_len p text) e in
    slice_split-none p text (ltb-false _ _ found)

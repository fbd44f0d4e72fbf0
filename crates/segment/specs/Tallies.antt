-- The counters of each host's packets (this project's own).
use Rattle.std.specs.Prelude.{ℕ, zero, suc, List, [], ◌∷◌, slice_get, slice_set, Option, Some, None}
use Rattle.rand_pcg.specs.Lcg.{Lcg}
use Rattle.flat_model.specs.Machine.Count.{more_by}
use Rattle.segment.specs.Chances.{chances_at, fate_of}
use Rattle.segment.specs.Flying.{Flying}
use Rattle.segment.specs.declared.chances.Chances.{Chances}
use Rattle.segment.specs.declared.chances.Fate.{Fate}
use Rattle.segment.specs.declared.chances.Fate.TheVariants.{Lost, Once, Twice}
use Rattle.segment.specs.declared.tally.Tally.{Tally}

-- nothing was counted
abbrev pub nothing_counted : Tally
nothing_counted = record { sent = 0; lost = 0; repeated = 0; received = 0 }

-- one more packet was sent to the wire, with this fate
abbrev pub tally_counted : Fate → Tally → Tally
tally_counted Lost t = record t { sent = more_by 1 t.sent; lost = more_by 1 t.lost }
tally_counted (Once wait) t = record t { sent = more_by 1 t.sent }
tally_counted (Twice first second) t = record t { sent = more_by 1 t.sent; repeated = more_by 1 t.repeated }

-- one more packet arrived
abbrev pub with_one : Tally → Tally
with_one t = record t { received = more_by 1 t.received }

-- this many packets arrived, one after another
abbrev pub with_received : ℕ → Tally → Tally
with_received zero t = t
with_received (suc n) t = with_received n (with_one t)

-- with the count at a place changed by this function, if there is one
abbrev pub set_if : List Tally → ℕ → Fate → Option Tally → List Tally
set_if tallies place fate None = tallies
set_if tallies place fate (Some t) = slice_set tallies place (tally_counted fate t)

-- a packet of the host at a place is counted
abbrev pub with_tally : ℕ → Fate → List Tally → List Tally
with_tally place fate tallies = set_if tallies place fate (slice_get tallies place)

-- these packets are counted, one after another
abbrev pub tallied : List Chances → List Flying → Lcg → List Tally → List Tally
tallied chances [] g tallies = tallies
tallied chances (f ∷ fs) g tallies =
    let fate = fate_of (chances_at chances f.sender) g in
    tallied chances fs fate.1 (with_tally f.sender fate.0 tallies)

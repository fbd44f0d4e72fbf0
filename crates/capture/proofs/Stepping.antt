-- Steps of a reader.
use Rattle.std.proofs.Common.{◌≡◌, ℕ, ◌+◌, ◌-◌, ◌^◌, min, List, Option, Some, None, Result, refl, sym, ap, subst, ◌∙◌}
use Rattle.capture.specs.Places.{FindsIn, Place, Reading, StepGives, Steps, StepsAfter}
use Rattle.capture.specs.Steps.{further}
use Rattle.capture.specs.declared.blocks.Found.{Found}
use Rattle.capture.specs.declared.fault.Fault.{Fault}
use Rattle.capture.specs.declared.fault.FaultAt.{FaultAt}
use Rattle.capture.specs.declared.records.Record.{Record}

-- no fault ended reading
pub none_of : (fault : Option Fault) → ((f : Fault) → fault ≡ Some f → ⊥) → fault ≡ None
none_of None other = refl
none_of (Some f) other = absurd (other f refl)

-- a step: what was found, and the result that is returned for it
pub stepped : (now : Reading) (place : Place) (fault : Option Fault) (bytes : List ℕ) (new : Reading)
    (result : Result (Option Record) Fault) (mid : Place) (buffer : List ℕ) (out : Result (Option Found) FaultAt)
    → record { place = place; fault = fault; bytes = bytes } ≡ now → fault ≡ None
    → FindsIn place.format place mid buffer out → mid.number ≡ place.number → StepGives mid buffer out result new
    → Steps now new result
stepped now place fault bytes new result mid buffer out view none finds number shows =
    let step : StepsAfter None place new result = (mid, buffer, out, finds, number, shows) in
    subst (λ (r : Reading). Steps r new result) view
    (subst (λ (f : Option Fault). StepsAfter f place new result) (sym none) step)

-- the place of a reader after a record
pub moved : (mid : Place) (buffer : List ℕ) (number offset : ℕ) → number ≡ min (mid.number + 1) (2 ^ 64 - 1)
    → offset ≡ further mid.offset buffer
    → record mid { number = number; offset = offset }
    ≡ record mid { number = min (mid.number + 1) (2 ^ 64 - 1); offset = further mid.offset buffer }
moved mid buffer number offset number_is offset_is =
    ap (λ (n : ℕ). record mid { number = n; offset = offset }) number_is
    ∙ ap (λ (n : ℕ). record mid { number = min (mid.number + 1) (2 ^ 64 - 1); offset = n }) offset_is

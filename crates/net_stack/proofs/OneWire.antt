-- Two stacks on a wire are two machines on it.
use Rattle.flat_model.specs.Runs.Run.{Turn}
use Rattle.flat_model.specs.Machine.Ledger.{exact_ledger}
use Rattle.flat_model.specs.declared.config.Config.{Config}
use Rattle.flat_model.specs.Machine.State.{State}
use Rattle.flat_wire.specs.Ever.{AreWiredForEver, AreWiredWhole}
use Rattle.flat_wire.specs.Trail.{IsTrail, trail_turns}
use Rattle.flat_wire.specs.Wire.{AreWired}
use Rattle.net_stack.specs.Runs.{AreCallsOf, PassedCall, steps_of, turns_of_calls}
use Rattle.net_stack.specs.Stack.{StackView, state_of}
use Rattle.net_stack.specs.Wire.{AreOnOneWire, AreOnOneWireForEver, AreOnOneWireWhole}
use Rattle.net_stack.proofs.Runs.{calls_run}
use Rattle.std.proofs.Common.{◌≡◌, ℕ, List, [], ◌∷◌, refl, ap, subst}

pub wired : (first second : Config) (sent came : List Turn) (s t : StackView) → AreOnOneWire first second sent came s t
    → AreWired exact_ledger exact_ledger first second sent came (state_of s) (state_of t)
wired first second sent came s t w = record {
  first_boots = w.first_boots;
  second_boots = w.second_boots;
  first_runs = calls_run first w.first_start s sent w.first_starts w.first_calls;
  second_runs = calls_run second w.second_start t came w.second_starts w.second_calls;
  not_addr = w.not_addr;
  not_bcast = w.not_bcast;
  few = w.few;
  wire = w.wire;
}

pub wired_whole : (first second : Config) (sent came : List Turn) (s t : StackView)
    → AreOnOneWireWhole first second sent came s t
    → AreWiredWhole exact_ledger exact_ledger first second sent came (state_of s) (state_of t)
wired_whole first second sent came s t w = record {
  first_boots = w.first_boots;
  second_boots = w.second_boots;
  first_runs = calls_run first w.first_start s sent w.first_starts w.first_calls;
  second_runs = calls_run second w.second_start t came w.second_starts w.second_calls;
  not_addr = w.not_addr;
  not_bcast = w.not_bcast;
  whole = w.whole;
  wire = w.wire;
}

trail : (first last : StackView) (calls : List PassedCall) → AreCallsOf first calls last
    → IsTrail exact_ledger (state_of first) (steps_of calls) (state_of last)
trail first last [] same = ap state_of same
trail first last (call ∷ calls) (from, is, turn, later) =
    (ap state_of from, is, turn, trail call.new last calls later)

pub wired_for_ever : (first second : Config) (sent : List PassedCall) (came : List Turn) (s t : StackView)
    (born : ℕ → ℕ)
    → AreOnOneWireForEver first second sent came s t born
    → AreWiredForEver exact_ledger exact_ledger first second (steps_of sent) came (state_of s) (state_of t) born
wired_for_ever first second sent came s t born w = record {
  first_boots = w.first_boots;
  second_boots = w.second_boots;
  first_runs =
      subst (λ (m : State). IsTrail exact_ledger m (steps_of sent) (state_of s)) w.first_starts
      (trail w.first_start s sent w.first_calls);
  second_runs = calls_run second w.second_start t came w.second_starts w.second_calls;
  not_addr = w.not_addr;
  not_bcast = w.not_bcast;
  wire = w.wire;
  near = w.near;
}

pub turns_are : (calls : List PassedCall) → trail_turns (steps_of calls) ≡ turns_of_calls calls
turns_are [] = refl
turns_are (call ∷ calls) = ap (λ (turns : List Turn). call.turn ∷ turns) (turns_are calls)

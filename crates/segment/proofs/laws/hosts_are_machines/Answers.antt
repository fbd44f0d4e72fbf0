use Rattle.std.proofs.Common.{List, [], ◌∷◌, refl, ap, subst}
use Rattle.flat_model.specs.Machine.Ledger.{exact_ledger}
use Rattle.flat_model.specs.Machine.State.{State}
use Rattle.flat_model.specs.Runs.Run.{Leads, Turn}
use Rattle.net_stack.specs.Stack.{StackView, state_of}
use Rattle.net_stack.specs.Runs.{AreCalls}
use Rattle.segment.specs.Segment.{no_hosts}
use Rattle.segment.specs.Law.{turns_of}
use Rattle.segment.proofs.Bare.{are_bare}
use Rattle.segment.proofs.History.{Started, began}
use Rattle.segment.proofs.laws.hosts_are_machines.Goals as goal

leads : (first last : StackView) (turns : List Turn) → AreCalls first turns last
    → Leads exact_ledger (state_of first) turns (state_of last)
leads first last [] same = ap state_of same
leads first last (turn ∷ turns) (is, mid, call, later) = (is, state_of mid, call, leads mid last turns later)

pub returns : goal.returns
returns ctx room k c t acts last done bare is_c is_t =
    let s : Started c (turns_of k acts) t =
    began k c t acts (no_hosts room) last (are_bare acts (no_hosts room) last done bare) refl done is_c is_t in
    subst (λ (m : State). Leads exact_ledger m (turns_of k acts) (state_of t)) s.2
    (leads s.0 t (turns_of k acts) s.3)

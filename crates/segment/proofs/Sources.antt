-- The packets that wait for a host's link have an address of that host as their source.
use Rattle.std.proofs.Common.{◌≡◌, List, [], ◌∷◌, sym, subst}
use Rattle.flat_model.specs.Machine.State.{IsConfig, State, boot}
use Rattle.flat_model.specs.Runs.Run.{Turn}
use Rattle.flat_model.specs.declared.config.Config.{Config}
use Rattle.flat_ether.proofs.Lemmas as host
use Rattle.flat_ether.proofs.Lemmas.{IsSourced, goes_on_sourced}
use Rattle.net_stack.specs.Stack.{StackView, state_of}
use Rattle.net_stack.specs.Runs.{AreCalls}

pub boot_sourced : (c : Config) (s : State) → IsConfig c → s ≡ boot c → IsSourced c s
boot_sourced c s is e = subst (IsSourced c) (sym e) (host.boot_sourced c is)

pub calls_sourced : (c : Config) (s t : StackView) (turns : List Turn) → IsSourced c (state_of s) → AreCalls s turns t
    → IsSourced c (state_of t)
calls_sourced c s t [] k e = subst (λ (x : StackView). IsSourced c (state_of x)) (sym e) k
calls_sourced c s t (turn ∷ turns) k (is, mid, step, later) =
    calls_sourced c mid t turns (goes_on_sourced c (state_of s) (state_of mid) turn.event turn.reply k is step) later

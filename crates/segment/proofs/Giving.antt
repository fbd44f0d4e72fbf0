-- The packets that the hosts give, one host after another.
use Rattle.std.proofs.Common.{◌≡◌, ℕ, ◌+◌, ◌<◌, List, ◌++◌, length, get_or, Option, Some, sym, ap, ◌∙◌, add-one, arith}
use Rattle.std.specs.Prelude.{slice_get}
use Rattle.net_stack.specs.Stack.{StackView}
use Rattle.net_stack.specs.Runs.{AreCalls}
use Rattle.segment.specs.Flying.{transmits_of, sent_by, waiting}
use Rattle.segment.specs.Segment.{given_below, waiting_in}
use Rattle.segment.proofs.Walking.{IsWalked, get_at}

pub given_next : (place : ℕ) (old now : List StackView) (s d : StackView)
    → IsWalked (λ p x y. AreCalls x (transmits_of (waiting x)) y) old now place
    → place < length now → s ≡ get_or now place d
    → given_below old (place + 1) ≡ given_below old place ++ sent_by place (waiting s)
given_next place old now s d w within is =
    let here : slice_get old place ≡ Some s = sym (w.rest place (omega arith)) ∙ get_at now place s d within is in
    ap (given_below old) (add-one place)
    ∙ ap (λ (x : Option StackView). given_below old place ++ sent_by place (waiting_in x)) here

use Rattle.std.proofs.Common.{◌≡◌, ℕ, sym, ap, ◌∙◌, arith}
use Rattle.capture.specs.Bodies.{ticks_by}
use Rattle.capture.proofs.Options.{ticks_none}
use Rattle.capture.proofs.pcapng.body.ticks_in.Goals as goal

pub returns : goal.returns
returns c =
    let z : 0 ≡ c.options.left = omega (arith, c.options-test.false) in
    sym (ticks_none c.args.order c.options.rest.now) ∙ ap (λ (k : ℕ). ticks_by k c.args.order c.options.rest.now) z
    ∙ c.options.invariant

use Rattle.std.proofs.Common.{◌≡◌, ℕ, ◌+◌, ◌-◌, ◌*◌, min, ap, ◌∙◌, arith}
use Rattle.std.specs.Prelude.{nat_lt}
use Rattle.flat_model.specs.Fragments.Cuts.{Part}
use Rattle.ether_host.proofs.share.share_at.Goals as goal

pub returns : goal.returns
returns c =
    let offset : ℕ = c.args.at * c.args.chunk in
    let end : offset + c.args.chunk ≡ (c.args.at + 1) * c.args.chunk = omega arith in
    let made : ℕ → ℕ → Part = λ size past. record { offset = offset; size = size; more = nat_lt past c.args.len } in
    ap (λ k. made k (offset + c.args.chunk)) c.min-size.ensures
    ∙ ap (made (min c.args.chunk (c.args.len - offset))) end

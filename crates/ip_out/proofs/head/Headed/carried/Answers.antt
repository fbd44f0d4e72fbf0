use Rattle.std.proofs.Common.{ℕ, ◌-◌, drop, take, sym, ap, ◌∙◌, arith}
use Rattle.std.proofs.lemmas.List.{drop-take}
use Rattle.ip_out.proofs.head.Headed.carried.Goals as goal

pub returns : goal.returns
returns c =
    sym (drop-take 20 (c.u16_at-total.result - 20) c.args.self.now.packet.now)
    ∙ ap (λ (n : ℕ). drop 20 (take n c.args.self.now.packet.now)) (omega (arith, c.u16_at-total.ensures))

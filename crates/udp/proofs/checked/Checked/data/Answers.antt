use Rattle.std.proofs.Common.{ℕ, ◌-◌, drop, take, sym, ap, ◌∙◌, arith}
use Rattle.std.proofs.lemmas.List.{drop-take}
use Rattle.udp.proofs.checked.Checked.data.Goals as goal

pub returns-clause-value : goal.returns-clause-value
returns-clause-value c =
    sym (drop-take 28 (c.args.self.now.end - 28) c.args.self.now.packet.now)
    ∙ ap (λ (n : ℕ). drop 28 (take n c.args.self.now.packet.now))
    (omega (arith, c.args.self.now.is_checked.headers))

use Rattle.std.proofs.Common.{ℕ, ap, ◌∙◌}
use Rattle.ip_out.specs.Headings.{bytes_with, head_bytes}
use Rattle.ip_out.proofs.head.write_head.Goals as goal

pub returns : goal.returns
unfolding head_bytes
returns c = c.write_with.ensures ∙ ap (λ (sum : ℕ). bytes_with c.args.head sum) c.checksum_of-sum.ensures

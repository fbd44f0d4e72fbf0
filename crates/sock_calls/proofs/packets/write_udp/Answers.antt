use Rattle.std.proofs.Common.{List, ℕ, ◌++◌, ap, ◌∙◌}
use Rattle.sock_calls.proofs.packets.write_udp.Goals as goal

pub returns : goal.returns
returns c = ap (λ (h : List ℕ). h ++ c.args.bytes.now) c.put_udp.ensures ∙ c.header_for.ensures

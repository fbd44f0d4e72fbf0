use Rattle.std.proofs.Common.{arith, rules}
use Rattle.play_line.proofs.Laws.{table_digits}
use Rattle.play_line.proofs.bytes.digits.Goals as goal

pub returns : goal.returns
returns c = let t = table_digits c.args.byte (omega arith) in search (rules, t)

use Rattle.std.proofs.Common.{arith, rules}
use Rattle.play_line.proofs.Laws.{table_digits}
use Rattle.play_text.proofs.escape.digits.Goals as goal

pub returns : goal.returns
returns c = let t = table_digits c.args.byte (omega arith) in search (rules, t)

use Rattle.std.proofs.Common.{sym, arith}
use Rattle.std.proofs.lemmas.List.{take_all}
use Rattle.play_script.proofs.printer.front_of.Goals as goal

pub returns-then-name-le-NAME-clause-is : goal.returns-then-name-le-NAME-clause-is
returns-then-name-le-NAME-clause-is c = sym (take_all 4096 c.args.name.now (omega arith))

use Rattle.play_script.specs.Views.{ask_of, plain_line}
use Rattle.play_script.proofs.AnswerLemmas.{Executed-some}
use Rattle.stack_call.specs.Moves.{StackSteps}
use Rattle.play_script.proofs.execute.execute_line.Goals as goal

pub returns-in-Some : goal.returns-in-Some
returns-in-Some g c =
    Executed-some StackSteps g.F.Folder.may_have (plain_line c.args.line.now) (ask_of c.in-Some.ask)
    c.execute_ask.result _ _ c.execute_ask.new.report.reply_line c.in-Some.ensures.asks c.execute_ask.ensures

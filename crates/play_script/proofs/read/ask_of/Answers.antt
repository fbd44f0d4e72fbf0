use Rattle.std.proofs.Common.{sym, ◌∙◌}
use Rattle.play_script.proofs.LineLemmas.{asks_nothing}
use Rattle.play_script.proofs.read.ask_of.Goals as goal

pub returns-in-None-clause-asks : goal.returns-in-None-clause-asks
returns-in-None-clause-asks c =
    asks_nothing c.args.plain.now c.in-None.ensures.event c.in_default-limit_of.ensures
    c.in_default-ticks_of.ensures
    (sym c.in_default-topic_of.is ∙ c.topic_of.ensures) c.in_default.ensures.is
    (sym c.if-is_settings.ensures)

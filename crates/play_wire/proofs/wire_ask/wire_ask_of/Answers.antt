use Rattle.std.proofs.Common.{◌∙◌, sym}
use Rattle.play_wire.proofs.WireLemmas.{asks_as, asks_none}
use Rattle.play_wire.proofs.wire_ask.wire_ask_of.Goals as goal

pub returns-in-Some : goal.returns-in-Some
returns-in-Some c =
    asks_as c.args.plain.now _ c.in-Some.asked _ c.form_of.result c.first_word.ensures
    (sym c.command_of.ensures ∙ c.in-Some.is) c.form_of.ensures

pub returns-in-None : goal.returns-in-None
returns-in-None c =
    asks_none c.args.plain.now _ _ c.first_word.ensures (sym c.command_of.ensures ∙ c.in-None.is)

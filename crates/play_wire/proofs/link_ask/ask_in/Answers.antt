use Rattle.std.proofs.Common.{◌∙◌, sym}
use Rattle.play_wire.proofs.LinkLemmas.{asks_as, asks_none, fits_asked}
use Rattle.play_wire.proofs.link_ask.ask_in.Goals as goal

pub returns-in-Some-clause-is : goal.returns-in-Some-clause-is
returns-in-Some-clause-is c =
    asks_as c.args.plain.now _ c.in-Some.asked _ c.form_of.result c.first_word.ensures
    (sym c.command_of.ensures ∙ c.in-Some.is) c.form_of.ensures

pub returns-in-Some-clause-fits : goal.returns-in-Some-clause-fits
returns-in-Some-clause-fits c = fits_asked _ _ _ c.form_of.ensures

pub returns-in-None-clause-is : goal.returns-in-None-clause-is
returns-in-None-clause-is c =
    asks_none c.args.plain.now _ _ c.first_word.ensures (sym c.command_of.ensures ∙ c.in-None.is)

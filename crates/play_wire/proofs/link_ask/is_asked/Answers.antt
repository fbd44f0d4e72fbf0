use Rattle.std.proofs.Common.{◌∙◌, refl, sym}
use Rattle.std.specs.Prelude.{slice_get}
use Rattle.segment.specs.Inside.{view}
use Rattle.play_wire.specs.Inside.{link_asked}
use Rattle.play_wire.proofs.LinkLemmas.{for_its_link, for_no_link}
use Rattle.play_wire.proofs.link_ask.is_asked.Goals as goal

pub returns-in-Some : goal.returns-in-Some
returns-in-Some c =
    sym (for_its_link (slice_get (view c.args.segment.now).links c.args.place) (link_asked c.args.ask.now)
    c.in-Some.field-0 (sym c.link.ensures ∙ c.in-Some.is))

pub returns-in-None : goal.returns-in-None
returns-in-None c =
    c.is_of_link.ensures
    ∙ sym (for_no_link (slice_get (view c.args.segment.now).links c.args.place) (link_asked c.args.ask.now) _
    (sym c.link.ensures ∙ c.in-None.is) refl)

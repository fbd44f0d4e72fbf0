use Rattle.std.proofs.Common.{◌∙◌, sym}
use Rattle.std.specs.Prelude.{slice_get}
use Rattle.flat_ether.specs.Links.{LinkState}
use Rattle.segment.specs.Inside.{view}
use Rattle.play_wire.specs.Inside.{link_asked}
use Rattle.play_wire.proofs.LinkLemmas.{link_there, no_link_by}
use Rattle.play_wire.proofs.link_line.execute_link.Goals as goal

pub execute_there-requires-clause-link : goal.execute_there-requires-clause-link
execute_there-requires-clause-link c =
    link_there (slice_get (view c.args.segment.now).links c.args.place) c.in-Some.field-0
    (sym c.link.ensures ∙ c.in-Some.is)

pub returns-in-None : goal.returns-in-None
returns-in-None c =
    no_link_by (λ (l : LinkState). l.link) c.args.place (link_asked c.args.ask) (view c.args.segment.now)
    (sym c.link.ensures ∙ c.in-None.is)

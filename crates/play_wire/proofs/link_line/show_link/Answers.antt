use Rattle.std.proofs.Common.{◌∙◌, sym}
use Rattle.flat_ether.specs.Claims.{address_state}
use Rattle.flat_ether.specs.Links.{LinkState}
use Rattle.segment.specs.Inside.{view}
use Rattle.play_wire.specs.Links.{Counts}
use Rattle.play_wire.proofs.LinkLemmas.{link_shown, no_link_by}
use Rattle.play_wire.proofs.link_line.show_link.Goals as goal

pub returns-in_default : goal.returns-in_default
returns-in_default c =
    no_link_by (λ (l : LinkState). l.link) c.args.place Counts (view c.args.segment.now)
    (sym c.link.ensures ∙ c.in_default.is)

pub returns-in_default-address : goal.returns-in_default-address
returns-in_default-address c =
    no_link_by (λ (l : LinkState). address_state l.claim) c.args.place Counts (view c.args.segment.now)
    (sym c.address.ensures ∙ c.in_default-address.is)

pub returns-in_default-link_tallies : goal.returns-in_default-link_tallies
returns-in_default-link_tallies c =
    no_link_by (λ (l : LinkState). l.tallies) c.args.place Counts (view c.args.segment.now)
    (sym c.link_tallies.ensures ∙ c.in_default-link_tallies.is)

pub returns : goal.returns
returns c =
    link_shown c.args.place (view c.args.segment.now) c.in-Some-address.state c.report_link.new.reply_line
    c.report_link.new.below (sym c.in-Some-address.is ∙ c.address.ensures) c.report_link.ensures

use Rattle.std.proofs.Common.{sym, ◌∙◌}
use Rattle.pcb_table.specs.Apart.{has_fd}
use Rattle.pcb_table.proofs.Places.{no_place, placed}
use Rattle.pcb_table.proofs.search.locate_by_walk.Goals as goal

pub returns-in-None : goal.returns-in-None
returns-in-None c = no_place (has_fd c.args.fd) c.args.blocks.now (sym c.index_of.ensures ∙ c.in-None.is)

pub returns-in-Some : goal.returns-in-Some
returns-in-Some c = placed c.args.fd c.args.blocks.now c.in-Some.index _ (sym c.index_of.ensures ∙ c.in-Some.is)

use Rattle.std.proofs.Common.{◌≡◌, find, is_some, true, sym, subst, arith, inl, inr}
use Rattle.std.proofs.lemmas.Bool.{cases_eq}
use Rattle.pcb_table.specs.Apart.{has_fd}
use Rattle.pcb_table.proofs.Places.{located_some}
use Rattle.pcb_table.proofs.Circle.{some_fd_free}
use Rattle.pcb_table.proofs.ports.lowest_free.Goals as goal

-- otherwise each descriptor would be in use
pub unreachable-requires : goal.unreachable-requires
unreachable-requires c =
    some_fd_free _ c.requires.few (λ k least most. c.loop-fd.invariant k least (omega (arith, c.loop-fd-test.false)))

pub loop-fd-preserved : goal.loop-fd-preserved
loop-fd-preserved c = λ k least less. elim (cases_eq k c.loop-fd.fd) [
  | inl e ↦ subst (λ j. is_some (find (has_fd j) c.args.blocks.now) ≡ true) (sym e)
      (located_some c.loop-fd.fd c.in-Some._at.index c.args.blocks.now c.in-Some._at.block c.in-Some.ensures)
  | inr ne ↦ c.loop-fd.invariant k least (omega arith)
]

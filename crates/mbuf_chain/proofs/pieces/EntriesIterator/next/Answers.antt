use Rattle.std.proofs.Common.{sym, ◌∙◌}
use Rattle.mbuf_chain.proofs.Reading.{reads, next_entry, one_less}
use Rattle.mbuf_chain.proofs.pieces.EntriesIterator.next.Goals as goal

pub invariant_of-self : goal.invariant_of-self
invariant_of-self c = (reads _ _ _ _ c.in_ok-cell.was c.self.invariant c.head-head.ensures.value).rest

pub returns-clause-steps : goal.returns-clause-steps
returns-clause-steps c =
    sym c.self.view_is ∙ next_entry _ _ _ _ (reads _ _ _ _ c.in_ok-cell.was c.self.invariant c.head-head.ensures.value)

pub returns-clause-goes : goal.returns-clause-goes
returns-clause-goes c =
    record {
      on = λ _. (
        tt,
        tt,
        one_less _ _ _
            (sym c.self.view_is ∙ next_entry _ _ _ _
            (reads _ _ _ _ c.in_ok-cell.was c.self.invariant c.head-head.ensures.value)),
      );
      keeps = tt;
      rests = λ _. tt;
    }

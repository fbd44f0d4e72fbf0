use Rattle.std.proofs.Common.{sym, ◌∙◌, ap}
use Rattle.mbuf_pool.specs.Store.{stored_part}
use Rattle.mbuf_chain.proofs.Reading.{reads, one_less}
use Rattle.mbuf_chain.proofs.Reported.{next_reported}
use Rattle.mbuf_chain.proofs.pieces.MbufHeadsIterator.next.Goals as goal

pub invariant_of-self : goal.invariant_of-self
invariant_of-self c = (reads _ _ _ _ c.in_ok-cell.was c.self.invariant c.head-head.ensures.value).rest

pub returns-clause-steps : goal.returns-clause-steps
returns-clause-steps c =
    sym c.self.view_is ∙ next_reported _ _ _ _ _ _ c.in_ok-cell.was c.self.invariant c.head-head.ensures.value
    c.of.ensures
    (c.bytes-bytes.ensures.value ∙ ap (stored_part c.self.inside.store.now) c.data_of.ensures)

pub returns-clause-goes : goal.returns-clause-goes
returns-clause-goes c =
    record {
      on = λ _. (
        tt,
        tt,
        one_less _ _ _
            (sym c.self.view_is ∙ next_reported _ _ _ _ _ _ c.in_ok-cell.was c.self.invariant c.head-head.ensures.value
            c.of.ensures
            (c.bytes-bytes.ensures.value ∙ ap (stored_part c.self.inside.store.now) c.data_of.ensures)),
      );
      keeps = tt;
      rests = λ _. tt;
    }

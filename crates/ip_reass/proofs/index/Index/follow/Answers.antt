use Rattle.std.proofs.Common.{ℕ, List, ap, sym, subst, arith}
use Rattle.std.specs.Prelude.{remove}
use Rattle.ip_reass.specs.Inside.Index.{AreFirst, rows_left}
use Rattle.ip_reass.specs.declared.arrival.Arrival.{Arrival}
use Rattle.ip_reass.proofs.IndexAfter.{first_past, first_same, none_first, other_left}
use Rattle.ip_reass.proofs.index.Index.follow.Goals as goal

pub returns-in_default-clause-rows : goal.returns-in_default-clause-rows
returns-in_default-clause-rows c = λ bs first.
    first_same c.args.self.now.buckets bs (rows_left c.args.arrival.now c.args.place bs) first
    (sym (other_left c.args.arrival.now c.args.place bs c.in_default.not-Whole))

pub returns-then-place-len-clause-rows : goal.returns-then-place-len-clause-rows
returns-then-place-len-clause-rows c = λ bs first.
    first_same c.args.self.now.buckets (remove bs c.args.place) (rows_left c.args.arrival.now c.args.place bs)
    (first_past c.args.self.now.buckets bs c.args.place first (omega (arith, c.if-place-len.true, c.len.ensures.is)))
    (ap (λ (a : Arrival). rows_left a c.args.place bs) (sym c.in-Whole.is))

pub returns-else-indexes_fragments-clause-rows : goal.returns-else-indexes_fragments-clause-rows
returns-else-indexes_fragments-clause-rows c = λ bs first.
    let left = rows_left c.args.arrival.now c.args.place bs in
    subst (λ (xs : List ℕ). AreFirst xs left) (sym c.clear.ensures.rows) (none_first left)

use Rattle.std.proofs.Common.{ℕ, List, sym, subst}
use Rattle.ip_reass.specs.Inside.Index.{AreFirst}
use Rattle.ip_reass.proofs.IndexAfter.{first_same, none_first}
use Rattle.ip_reass.proofs.index.Index.clear_if.Goals as goal

pub returns-then-lost-clause-rows : goal.returns-then-lost-clause-rows
returns-then-lost-clause-rows c = λ bs cs first same.
    subst (λ (xs : List ℕ). AreFirst xs cs) (sym c.clear.ensures.rows) (none_first cs)

pub returns-else-lost-clause-rows : goal.returns-else-lost-clause-rows
returns-else-lost-clause-rows c = λ bs cs first same.
    first_same c.args.self.now.buckets bs cs first (same c.if-lost.false)

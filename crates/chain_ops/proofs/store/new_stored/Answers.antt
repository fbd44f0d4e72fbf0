use Rattle.std.proofs.Common.{◌≡◌, ℕ, ◌<◌, Bool, true, false, cond, List, Option, Some}
use Rattle.std.proofs.lemmas.Result.{IfOk-weaker}
use Rattle.std.proofs.lemmas.Bool.{false≢true}
use Rattle.mbuf_chain.specs.Chain.{PoolView, references, Adds}
use Rattle.mbuf_chain.specs.Steps.{one_mbuf}
use Rattle.chain_ops.specs.Stored.{IsClusterTaken}
use Rattle.chain_ops.proofs.store.new_stored.Goals as goal

in_cluster : (p q : PoolView) (d : ℕ) (header : Bool) (xs : List ℕ) (large plain : ℕ) (b : Bool) → b ≡ true → (k : ℕ)
    → k < p.clusters → references p k ≡ 0
    → Adds p q d (one_mbuf header (record { bytes = xs; start = large; cluster = Some k }) d)
    → (o : Option ℕ) × IsClusterTaken p b o
    × Adds p q d (one_mbuf header (record { bytes = xs; start = cond b large plain; cluster = o }) d)
in_cluster p q d header xs large plain true e k lt none a = (Some k, (lt, none), a)
in_cluster p q d header xs large plain false e k lt none a = absurd (false≢true e)

pub returns-then-is_large-clause-ok : goal.returns-then-is_large-clause-ok
returns-then-is_large-clause-ok c =
    IfOk-weaker c.new_cluster_with.result _ _
    (λ d t. in_cluster c.args.pool.now c.new_cluster_with.new.self d c.args.header c.args.bytes.now c.args.large
    c.args.plain c.args.is_large c.if-is_large.true t.0 t.1 t.2 t.3) c.new_cluster_with.ensures.ok

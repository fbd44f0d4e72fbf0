use Rattle.std.proofs.Common.{◌≡◌, ℕ, cond, List, [], ◌∷◌, length, count_by, ap, ◌∙◌, arith}
use Rattle.std.specs.Prelude.{Result, Ok, Err, OnOk}
use Rattle.std.proofs.lemmas.Result.{IfOk-weaker, on_err_weaker, on_ok_weaker}
use Rattle.std.proofs.lemmas.List.Sums.{sum_by-cons}
use Rattle.flat_model.specs.Amounts.Layout.{Room, Plain, is_cluster}
use Rattle.chain_ops.specs.Stored.{rooms_for}
use Rattle.chain_ops.proofs.Filling.{filled_one, has, lacks}
use Rattle.chain_ops.proofs.Laws.Makes.{makes_new}
use Rattle.chain_ops.proofs.Stored.{few_rooms, few_stored, none_free}
use Rattle.chain_ops.proofs.store.store.Goals as goal
use Rattle.chain_ops.proofs.store.store.Goals.{In-InMbuf}

-- the bytes fit in one plain mbuf
rooms : (c : In-InMbuf) → rooms_for c.args.large (length c.args.bytes.now) ≡ Plain (length c.args.bytes.now) ∷ []
rooms c = few_rooms c.args.large (length c.args.bytes.now) c.requires.large (omega (arith, c.in-InMbuf.ensures.0))

no_cluster : (c : In-InMbuf) → count_by is_cluster (rooms_for c.args.large (length c.args.bytes.now)) ≡ 0
no_cluster c =
    omega (
      arith,
      ap (count_by is_cluster) (rooms c),
      sum_by-cons (λ (r : Room). cond {A = ℕ} (is_cluster r) 1 0) (Plain (length c.args.bytes.now)) [],
    )

pub returns-in-InMbuf-clause-ok : goal.returns-in-InMbuf-clause-ok
returns-in-InMbuf-clause-ok c =
    IfOk-weaker c.new_plain_with.result _ _ (λ d a.
    let m = makes_new a in (
      [],
      none_free c.args.pool.now,
      omega (arith, no_cluster (goal.at.returns-in-InMbuf-clause-ok c).In-InMbuf),
      record {
        adds = m.adds;
        front = m.front;
        entries =
            m.entries ∙ few_stored c.args.large c.args.ends c.first_start-start.result c.args.bytes.now c.requires.large
            (omega (arith, c.in-InMbuf.ensures.0)) c.first_start-start.ensures.value;
      },
    )) c.new_plain_with.ensures.ok

pub returns-in-InMbuf-clause-enough : goal.returns-in-InMbuf-clause-enough
returns-in-InMbuf-clause-enough c =
    let at = (goal.at.returns-in-InMbuf-clause-enough c).In-InMbuf in
    on_ok_weaker c.new_plain_with.result (λ less. (
      omega (arith, less, ap (λ (rs : List Room). length rs) (rooms at)),
      omega (arith, no_cluster at),
    )) c.new_plain_with.ensures.free

pub returns-in-InCluster-clause-ok : goal.returns-in-InCluster-clause-ok
returns-in-InCluster-clause-ok c =
    IfOk-weaker c.new_cluster_with.result _ _
    (λ d a. filled_one c.args.pool.now c.new_cluster_with.new.self d a.0 c.args.large c.args.ends c.args.bytes.now
    c.requires.large (omega (arith, c.in-InCluster.ensures.0)) (omega (arith, c.in-InCluster.ensures.1)) a.1 a.2 a.3)
    c.new_cluster_with.ensures.ok

pub returns-in-InCluster-clause-err : goal.returns-in-InCluster-clause-err
returns-in-InCluster-clause-err c =
    on_err_weaker c.new_cluster_with.result
    (lacks c.args.large (length c.args.bytes.now) c.requires.large (omega (arith, c.in-InCluster.ensures.0))
    (omega (arith, c.in-InCluster.ensures.1)) c.args.pool.now) c.new_cluster_with.ensures.err

both : {T E P Q R : Type 0} (r : Result T E) → (P → Q → R) → OnOk r P → OnOk r Q → OnOk r R
both (Ok x) f p q = f p q
both (Err e) f p q = tt

pub returns-in-InCluster-clause-enough : goal.returns-in-InCluster-clause-enough
returns-in-InCluster-clause-enough c =
    both c.new_cluster_with.result
    (has c.args.large (length c.args.bytes.now) c.requires.large (omega (arith, c.in-InCluster.ensures.0))
    (omega (arith, c.in-InCluster.ensures.1)) c.args.pool.now) c.new_cluster_with.ensures.free
    c.new_cluster_with.ensures.cluster

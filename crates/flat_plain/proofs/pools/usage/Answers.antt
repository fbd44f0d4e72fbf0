use Rattle.std.proofs.Common.{◌≡◌, ℕ, ◌+◌, ◌≤◌, List, max, cond, sym, ◌∙◌, ap, subst, arith, eq-eqb}
use Rattle.std.specs.Prelude.{◌==◌}
use Rattle.std.proofs.lemmas.Bool.{ne_eqb}
use Rattle.flat_model.specs.Amounts.Weight.{times}
use Rattle.flat_plain.specs.Weights.{plain_weight}
use Rattle.flat_plain.proofs.Weighing.{AreCounted, one_counted, usage_is}
use Rattle.flat_plain.proofs.pools.usage.Goals as goal
use Rattle.flat_plain.proofs.pools.usage.Goals.{then-count-eq0, else-count-eq0}

counted_more : (bag : List ℕ) (k free refs most count more top : ℕ) → AreCounted bag k free refs most
    → count ≡ times k bag → count ≤ 65536 → more ≡ cond (count == 0) 1 0
    → top ≡ max most count → AreCounted bag (k + 1) (free + more) (refs + count) top
counted_more bag k free refs most count more top a is few one greatest =
    subst (λ (n : ℕ). AreCounted bag (k + 1) (free + more) (refs + count) n) (sym greatest)
    (one_counted bag k free refs most count more a is few one)

pub loop-c-preserved : goal.loop-c-preserved
loop-c-preserved c =
    let more : c.if-count-eq0.free_clusters ≡ cond (c.times_of-count.result == 0) 1 0 = elim c.if-count-eq0.branch [
      | then-count-eq0 w ↦ w.free_clusters-is
          ∙ sym (ap (λ b. cond {A = ℕ} b 1 0) (eq-eqb c.times_of-count.result 0 w.if-count-eq0.true))
      | else-count-eq0 w ↦ w.free_clusters-is
          ∙ sym (ap (λ b. cond {A = ℕ} b 1 0) (ne_eqb c.times_of-count.result 0 w.if-count-eq0.false))
    ] in
    counted_more c.as_slice-bag.result.now c.loop-c.c c.loop-c.free_clusters c.loop-c.refs c.loop-c.most
    c.times_of-count.result c.if-count-eq0.free_clusters c.max-most.result
    c.loop-c.invariant c.times_of-count.ensures.number c.times_of-count.ensures.most more c.max-most.ensures

pub returns : goal.returns
returns c = λ s m n same.
    let all : c.loop-c.c ≡ c.args.clusters = omega arith in
    usage_is s (plain_weight c.args.held.now) c.args.mbufs c.args.clusters c.loop-c.free_clusters c.loop-c.refs
    c.loop-c.most c.saturating_sub-free_mbufs.result m n same
    (subst (λ (k : ℕ). AreCounted c.args.held.now.bag.items k c.loop-c.free_clusters c.loop-c.refs c.loop-c.most) all
    (subst (λ (bag : List ℕ). AreCounted bag c.loop-c.c c.loop-c.free_clusters c.loop-c.refs c.loop-c.most)
    c.as_slice-bag.ensures.value c.loop-c.invariant))
    (omega (arith, c.saturating_sub-free_mbufs.ensures, c.from.ensures))

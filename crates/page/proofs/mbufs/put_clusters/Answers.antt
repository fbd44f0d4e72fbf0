use Rattle.std.proofs.Common.{◌≡◌, ◌++◌, ℕ, Option, sym, ap, ◌∙◌, arith}
use Rattle.std.specs.Prelude.{unwrap_or}
use Rattle.page.specs.States.{below, cluster_object, counted_text}
use Rattle.page.proofs.Lines.{more_below, next_cluster, no_cluster}
use Rattle.page.proofs.mbufs.put_clusters.Goals as goal

pub returns-in-None : goal.returns-in-None
returns-in-None c =
    let p = c.args.stack.now.pool in
    let at = c.clusters.cluster in
    let end : c.clusters.cluster ≡ p.clusters =
    omega (arith, c.clusters.invariant.within, no_cluster p at (sym c.in-None.is ∙ c.references.ensures)) in
    c.clusters.invariant.items
    ∙ ap (λ (n : ℕ). c.args.text.now.items ++ below (cluster_object c.args.stack.now) n) end

pub clusters-preserved : goal.clusters-preserved
clusters-preserved c =
    let p = c.args.stack.now.pool in
    let at = c.clusters.cluster in
    let is = sym c.in-Some.is ∙ c.references.ensures in
    record {
      within = omega (arith, next_cluster p at c.in-Some.count is);
      items =
          more_below (cluster_object c.args.stack.now) at c.args.text.now.items c.clusters.text.items _
          c.clusters.invariant.items
          (c.in_ok-put_counted-in-Some.ensures
          ∙ ap (λ (o : Option ℕ). c.clusters.text.items ++ counted_text at (unwrap_or o 0)) is);
    }

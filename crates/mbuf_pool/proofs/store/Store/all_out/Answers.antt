use Rattle.std.proofs.Common.{ℕ, Option, None, sym, subst, []}
use Rattle.mbuf_pool.specs.Inside.AllOut.{IsAllOut}
use Rattle.mbuf_pool.specs.Inside.Fields.{seen_in, IsAccount}
use Rattle.mbuf_pool.proofs.Booting.{out_sound, all_out, heads_are}
use Rattle.mbuf_pool.proofs.store.Store.all_out.Goals as goal

pub returns : goal.returns
returns c =
    subst (λ (f : Option ℕ). IsAllOut (seen_in c.in_ok-region.region c.in_ok-counts.counts.items f) c.args.sizes)
    (sym c.new-2.ensures)
    (all_out c.args.sizes c.in_ok-region.region c.in_ok-counts.counts.items c.requires.mbufs.0 c.requires.mbufs.1
    c.requires.clusters c.in_ok-region.ensures
    (c.in_ok-counts.ensures.items_if_clones_equal (λ y e. e)))

pub invariant_of-result : goal.invariant_of-result
invariant_of-result c =
    let ones = c.in_ok-counts.ensures.items_if_clones_equal (λ y e. e) in
    let z = c.args.sizes in let r = c.in_ok-region.region in let counts = c.in_ok-counts.counts.items in (
      sym (heads_are z r counts c.requires.mbufs.0 c.requires.mbufs.1 c.requires.clusters c.in_ok-region.ensures ones),
      subst (λ (f : Option ℕ). IsAccount r counts f 0 c.new-3.result 0) (sym c.new-2.ensures)
          (subst (λ (f : Option ℕ). IsAccount r counts None 0 f 0) (sym c.new-3.ensures) (
            [],
            [],
            out_sound z r counts c.requires.mbufs.0 c.requires.mbufs.1 c.requires.clusters c.in_ok-region.ensures
                ones,
          )),
    )

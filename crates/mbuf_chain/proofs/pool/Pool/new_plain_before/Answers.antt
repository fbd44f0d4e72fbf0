use Rattle.std.proofs.Common.{◌<◌, ◌≡◌, length, true, false, None, arith, sym, ap, ◌∙◌, subst}
use Rattle.mbuf_pool.specs.Cells.{Head, IsLink}
use Rattle.mbuf_pool.specs.Store.{mbufs_out}
use Rattle.mbuf_pool.proofs.Laws.{free_or_out}
use Rattle.mbuf_chain.specs.Chain.{PoolView, alone, chain_of, held_mbufs, string}
use Rattle.mbuf_chain.specs.Steps.{one_mbuf}
use Rattle.mbuf_chain.specs.Inside.Cells.{Taken, pool_of}
use Rattle.mbuf_chain.proofs.Before.{Blank, IsPut, back_below, back_short, blank, has_back}
use Rattle.mbuf_chain.proofs.Made.{none_free}
use Rattle.mbuf_chain.proofs.Stores.{taken}
use Rattle.mbuf_chain.proofs.pool.Pool.new_plain_before.Goals as goal
use Rattle.mbuf_chain.proofs.pool.Pool.new_plain_before.Goals.{In-Ok}

pub head_before-requires : goal.head_before-requires
head_before-requires c =
    omega (
      arith,
      c.requires.high,
      c.requires.len,
      ap (λ (p : PoolView). length (string (chain_of p c.args.back))) c.self.view_is,
      back_short (has_back c.self.invariant c.self.view_is (λ _. c.args.back) c.requires.back),
    )

pub get_with-requires : goal.get_with-requires
get_with-requires c =
    subst (λ (h : Head). IsLink h.next × IsLink h.next_packet) (sym c.head_before.ensures)
    ((back_below (has_back c.self.invariant c.self.view_is c.into_number-back.ensures c.requires.back), tt))

pub unreachable-requires : goal.unreachable-requires
unreachable-requires c =
    let none : mbufs_out c.self.inside.store ≡ length c.self.inside.store.mbufs =
    omega (arith, free_or_out c.self.inside.store, c.in_default.ensures.err) in
    omega (
      arith,
      none_free _ c.self.invariant none,
      subst (λ (p : PoolView). held_mbufs p < p.mbufs) (sym c.self.view_is) c.requires.free,
    )

-- the new mbuf, before its bytes are written
made : (c : In-Ok)
    → Blank c.self.inside.store c.get_with.new.self c.in-Ok.first c.into_number-back.result c.args.start c.args.bytes.now
made c =
    blank c.self.inside.store c.get_with.new.self c.in-Ok.first c.into_number-back.result c.args.start c.args.len
    c.args.bytes.now
    (has_back c.self.invariant c.self.view_is c.into_number-back.ensures c.requires.back)
    (subst (λ (p : PoolView). (chain_of p c.into_number-back.result).front ≡ alone false) (sym c.self.view_is)
    (subst (λ k. (chain_of c.args.self.now k).front ≡ alone false) (sym c.into_number-back.ensures) c.requires.bare))
    (subst (λ (h : Head). Taken c.self.inside.store c.get_with.new.self c.in-Ok.first h) c.head_before.ensures
    (taken _ _ _ _ c.in-Ok.ensures.ok)) c.get_with.ensures.store c.requires.low c.requires.high
    (c.requires.len ∙ (λ i. length (string (chain_of (sym c.self.view_is i) (sym c.into_number-back.ensures i)))))

pub write_in-requires : goal.write_in-requires
write_in-requires c =
    let m = made (goal.at.write_in-requires c).In-Ok in
    record { can = m.can; cluster = m.cluster; low = m.low; high = m.high }

pub returns : goal.returns
returns c =
    subst (λ (p : PoolView). IsPut p c.args.back (pool_of c.write_in.new.store) c.in-Ok.first
    (one_mbuf true (record { bytes = c.args.bytes.now; start = c.args.start; cluster = None }) c.in-Ok.first))
    c.self.view_is
    (subst (λ k. IsPut (pool_of c.self.inside.store) k (pool_of c.write_in.new.store) c.in-Ok.first
    (one_mbuf true (record { bytes = c.args.bytes.now; start = c.args.start; cluster = None }) c.in-Ok.first))
    c.into_number-back.ensures
    ((made (goal.at.returns c).In-Ok).done c.write_in.new.store c.write_in.ensures.writes))

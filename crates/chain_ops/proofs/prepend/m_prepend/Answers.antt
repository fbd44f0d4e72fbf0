use Rattle.std.proofs.Common.{◌<◌, ℕ, length, arith, ap, sym, ◌∙◌, subst}
use Rattle.std.proofs.lemmas.Result.{err_from_is_err_and}
use Rattle.mbuf_chain.specs.Chain.{ChainView, PoolView, IsLive, IsPlace, chain_of, leading_space, flat_bytes}
use Rattle.mbuf_chain.proofs.Laws.Owners.{live_adds, shown_adds}
use Rattle.mbuf_chain.proofs.Laws.Steps.{live_beside}
use Rattle.chain_ops.proofs.Laws.Strings.{prepended_bytes}
use Rattle.chain_ops.proofs.Joins.{prepended_in, prepended_new, at_end_fits, need_none, need_one, low_at_most}
use Rattle.chain_ops.specs.Rooms.{room_low}
use Rattle.mbuf_chain.proofs.Laws.Accounts.{held-adds}
use Rattle.chain_ops.proofs.prepend.m_prepend.Goals as goal
use Rattle.chain_ops.proofs.prepend.m_prepend.Goals.{Else-len-leading_space}

pub returns-then-len-leading_space-clause-ok : goal.returns-then-len-leading_space-clause-ok
returns-then-len-leading_space-clause-ok c =
    prepended_in _ _ _ _ c.args.bytes.now c.first-first.ensures.place c.first-first.ensures.index
    (omega (arith, c.if-len-leading_space.true, c.leading_space.ensures.value)) c.put_front.ensures

pub first-at-requires : goal.first-at-requires
first-at-requires c = live_adds c.in_ok-new.ensures.ok

pub new_plain_with-requires-clause-high : goal.new_plain_with-requires-clause-high
new_plain_with-requires-clause-high c =
    omega (
      arith,
      c.at_end.ensures,
      at_end_fits (room_low c.has_header-header.result) (length c.args.bytes.now)
          (omega (arith, low_at_most c.has_header-header.result, c.requires.most)),
    )

pub link-requires-clause-front : goal.link-requires-clause-front
link-requires-clause-front c =
    subst (IsLive c.new_plain_with.new.self) (sym c.replace-old.ensures.after) (live_adds c.in_ok-new.ensures.ok)

pub link-requires-clause-back : goal.link-requires-clause-back
link-requires-clause-back c =
    subst (IsLive c.new_plain_with.new.self) (sym c.replace-old.ensures.value)
    (live_beside _ _ _ _ c.in_ok-new.ensures.ok _ c.requires.live)

pub link-requires-clause-place : goal.link-requires-clause-place
link-requires-clause-place c =
    subst (λ (k : ℕ). IsPlace (chain_of c.new_plain_with.new.self k) c.first-at.result)
    (sym c.replace-old.ensures.after) c.first-at.ensures.place

pub link-requires-clause-last : goal.link-requires-clause-last
link-requires-clause-last c =
    omega (
      arith,
      c.first-at.ensures.index,
      ap (λ (k : ℕ). length (chain_of c.new_plain_with.new.self k).entries) c.replace-old.ensures.after,
      ap (λ (v : ChainView). length v.entries) (shown_adds c.in_ok-new.ensures.ok),
    )

lacks : (c : Else-len-leading_space)
    → leading_space (chain_of c.args.pool.now c.args.chain.now) 0 < length c.args.bytes.now
lacks c =
    omega (
      arith,
      c.if-len-leading_space.false,
      c.leading_space.ensures.value,
      ap (leading_space (chain_of c.args.pool.now c.args.chain.now)) c.first-first.ensures.index,
    )

pub returns-clause-ok : goal.returns-clause-ok
returns-clause-ok c =
    prepended_new c.args.pool.now c.new_plain_with.new.self _ c.args.chain.now c.replace-old.result c.in_ok-new.new
    _ _ _ c.args.bytes.now c.has_header-header.ensures (lacks (goal.at.returns-clause-ok c).Else-len-leading_space)
    c.at_end.ensures c.replace-old.ensures.value c.replace-old.ensures.after c.requires.live
    c.in_ok-new.ensures.ok
    c.link.ensures.change

pub returns-then-len-leading_space-clause-enough : goal.returns-then-len-leading_space-clause-enough
returns-then-len-leading_space-clause-enough c =
    let v : ChainView = chain_of c.args.pool.now c.args.chain.now in
    omega (
      arith,
      c.laws.ensures.few,
      need_none v (length c.args.bytes.now)
          (omega (
            arith,
            c.if-len-leading_space.true,
            c.leading_space.ensures.value,
            ap (leading_space v) c.first-first.ensures.index,
          )),
    )

pub returns-clause-enough : goal.returns-clause-enough
returns-clause-enough c =
    omega (
      arith,
      c.laws-2.ensures.few,
      held-adds c.in_ok-new.ensures.ok,
      ap (λ (s : PoolView). s.mbufs) c.in_ok-new.ensures.ok.pool,
      need_one (chain_of c.args.pool.now c.args.chain.now) (length c.args.bytes.now)
          (lacks (goal.at.returns-clause-enough c).Else-len-leading_space),
    )

pub returns-then-len-leading_space-clause-string : goal.returns-then-len-leading_space-clause-string
returns-then-len-leading_space-clause-string c =
    ap flat_bytes (returns-then-len-leading_space-clause-ok c).entries
    ∙ prepended_bytes (chain_of c.args.pool.now c.args.chain.now) c.args.bytes.now

pub returns-clause-string : goal.returns-clause-string
returns-clause-string c =
    ap flat_bytes (returns-clause-ok c).entries
    ∙ prepended_bytes (chain_of c.args.pool.now c.args.chain.now) c.args.bytes.now

pub returns-in_err-new-clause-ok : goal.returns-in_err-new-clause-ok
returns-in_err-new-clause-ok c = rw (err_from_is_err_and c.from_residual.result c.from_residual.ensures.1).1 tt

pub returns-in_err-new-clause-string : goal.returns-in_err-new-clause-string
returns-in_err-new-clause-string c = rw (err_from_is_err_and c.from_residual.result c.from_residual.ensures.1).1 tt

pub returns-in_err-new-clause-enough : goal.returns-in_err-new-clause-enough
returns-in_err-new-clause-enough c = rw (err_from_is_err_and c.from_residual.result c.from_residual.ensures.1).1 tt

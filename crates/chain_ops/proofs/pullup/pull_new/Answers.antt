use Rattle.std.proofs.Common.{ℕ, ◌++◌, Bool, None, length, take, arith, ap, sym, ◌∙◌, subst}
use Rattle.std.proofs.lemmas.Result.{err_from_is_err_and}
use Rattle.mbuf_chain.specs.Chain.{Entry, ChainView, PoolView, IsLive, HasTrailingSpace, chain_of, entry_of, without, alone, flat_bytes}
use Rattle.mbuf_chain.specs.Steps.{empty_entry}
use Rattle.mbuf_chain.proofs.Laws.Owners.{live_adds, shown_adds}
use Rattle.mbuf_chain.proofs.Laws.Accounts.{held-adds}
use Rattle.mbuf_chain.proofs.Laws.Steps.{live_beside, new_entry, base_new}
use Rattle.chain_ops.specs.Rooms.{room_low}
use Rattle.chain_ops.specs.Pulls.{moved}
use Rattle.chain_ops.proofs.Laws.Steps.{kept_adds}
use Rattle.chain_ops.proofs.Laws.Makes.{makes_as}
use Rattle.chain_ops.proofs.Joins.{low_at_most}
use Rattle.chain_ops.proofs.pullup.pull_new.Goals as goal

pub first-at-requires : goal.first-at-requires
first-at-requires c = live_adds c.in_ok-new.ensures.ok

pub pull-requires-clause-back : goal.pull-requires-clause-back
pull-requires-clause-back c =
    subst (IsLive c.new_plain.new.self) (sym c.replace-old.ensures.value)
    (live_beside _ _ _ _ c.in_ok-new.ensures.ok _ c.requires.live)

pub pull-requires-clause-last : goal.pull-requires-clause-last
pull-requires-clause-last c =
    omega (
      arith,
      c.first-at.ensures.index,
      ap (λ (k : ℕ). length (chain_of c.new_plain.new.self k).entries) c.replace-old.ensures.after,
      ap (λ (v : ChainView). length v.entries) (shown_adds c.in_ok-new.ensures.ok),
    )

pub pull-requires-clause-plain : goal.pull-requires-clause-plain
pull-requires-clause-plain c =
    ap (λ (k : ℕ). (entry_of (chain_of c.new_plain.new.self k) c.first-at.result.index).cluster)
    c.replace-old.ensures.after
    ∙ ap (λ (e : Entry). e.cluster)
    (new_entry c.args.pool.now c.new_plain.new.self _ _ _ _ c.in_ok-new.ensures.ok c.first-at.ensures.index)

pub pull-requires-clause-room : goal.pull-requires-clause-room
pull-requires-clause-room c =
    subst (λ (k : ℕ). HasTrailingSpace (entry_of (chain_of c.new_plain.new.self k) c.first-at.result.index) c.args.n)
    (sym c.replace-old.ensures.after)
    (subst (λ (e : Entry). HasTrailingSpace e c.args.n)
    (sym (new_entry c.args.pool.now c.new_plain.new.self _ _ _ _ c.in_ok-new.ensures.ok c.first-at.ensures.index))
    (omega (arith, c.room_low.ensures, low_at_most c.has_header-header.result, c.requires.most)))

pub pull-requires-clause-len : goal.pull-requires-clause-len
pull-requires-clause-len c = λ t.
    c.counted_len-counted.ensures t
    ∙ sym (ap (λ (n : ℕ). length (flat_bytes (chain_of c.new_plain.new.self n).entries)) c.replace-old.ensures.value
    ∙ ap (λ (x : ChainView). length (flat_bytes x.entries))
    (kept_adds c.args.pool.now c.new_plain.new.self _ c.args.chain.now _ c.in_ok-new.ensures.ok c.requires.live))

pub returns-clause-ok : goal.returns-clause-ok
returns-clause-ok c =
    let p : PoolView = c.args.pool.now in
    let k : ℕ = c.args.chain.now in
    let v : ChainView = chain_of p k in
    let q : PoolView = c.new_plain.new.self in
    let d : ℕ = c.in_ok-new.new in
    let a = c.in_ok-new.ensures.ok in
    let i : ℕ = c.first-at.result.index in
    let base =
    (λ j. without (without q (c.replace-old.ensures.value j)) (c.replace-old.ensures.after j))
    ∙ base_new p q k d _ c.requires.live a in
    let front =
    ap (λ (n : ℕ). (chain_of q n).front) c.replace-old.ensures.after ∙ ap (λ (x : ChainView). x.front) (shown_adds a)
    ∙ ap alone c.has_header-header.ensures in
    let first =
    ap (λ (n : ℕ). entry_of (chain_of q n) i) c.replace-old.ensures.after
    ∙ new_entry p q d i _ _ a c.first-at.ensures.index
    ∙ ap (λ (s : ℕ). empty_entry s None) c.room_low.ensures
    ∙ ap (λ (h : Bool). empty_entry (room_low h) None) c.has_header-header.ensures in
    let rest =
    ap (λ (n : ℕ). (chain_of q n).entries) c.replace-old.ensures.value
    ∙ ap (λ (x : ChainView). x.entries) (kept_adds p q d k _ a c.requires.live) in
    makes_as (without p k) (alone v.front.header) _ c.pull.ensures base front
    (λ j. take (c.first-at.ensures.index j) (chain_of q c.replace-old.new.dest).entries
    ++ moved c.args.n (first j) (rest j))

pub returns-clause-enough : goal.returns-clause-enough
returns-clause-enough c =
    omega (
      arith,
      c.laws.ensures.few,
      held-adds c.in_ok-new.ensures.ok,
      ap (λ (s : PoolView). s.mbufs) c.in_ok-new.ensures.ok.pool,
    )

pub returns-in_err-new-clause-ok : goal.returns-in_err-new-clause-ok
returns-in_err-new-clause-ok c = rw (err_from_is_err_and c.from_residual.result c.from_residual.ensures.1).1 tt

pub returns-in_err-new-clause-enough : goal.returns-in_err-new-clause-enough
returns-in_err-new-clause-enough c = rw (err_from_is_err_and c.from_residual.result c.from_residual.ensures.1).1 tt

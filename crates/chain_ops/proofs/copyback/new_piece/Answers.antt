use Rattle.std.proofs.Common.{◌≡◌, ℕ, ◌++◌, false, None, List, length, take, replicate, arith, ap, sym, ◌∙◌, subst}
use Rattle.std.proofs.lemmas.List.{length-take, length-replicate}
use Rattle.std.proofs.lemmas.Result.{err_from_is_err_and}
use Rattle.mbuf_chain.specs.Chain.{Entry, PoolView, HasTrailingSpace, chain_of, entry_in, with_chain, entry_of, Adds}
use Rattle.mbuf_chain.specs.Steps.{one_mbuf, with_back, with_entry, empty_entry}
use Rattle.mbuf_chain.proofs.Laws.Owners.{live_adds}
use Rattle.mbuf_chain.proofs.Laws.Steps.{place_after, new_entry, filled}
use Rattle.chain_ops.proofs.Laws.Steps.{plain_unshared}
use Rattle.chain_ops.proofs.Writes.{tail_first}
use Rattle.chain_ops.proofs.copyback.new_piece.Goals as goal
use Rattle.chain_ops.proofs.copyback.new_piece.Goals.{After-put_back}

pub first-at-requires : goal.first-at-requires
first-at-requires c = live_adds c.in_ok-chain.ensures.ok

pub put_back-requires-clause-unshared : goal.put_back-requires-clause-unshared
put_back-requires-clause-unshared c =
    plain_unshared c.new_plain.new.self (entry_in c.new_plain.new.self c.in_ok-chain.chain c.first-at.result)
    (ap (λ (e : Entry). e.cluster)
    (new_entry c.args.pool.now c.new_plain.new.self c.in_ok-chain.chain c.first-at.result.index _ _
    c.in_ok-chain.ensures.ok c.first-at.ensures.index))

pub put_back-requires-clause-fits : goal.put_back-requires-clause-fits
put_back-requires-clause-fits c =
    subst (λ (e : Entry). HasTrailingSpace e (length c.zeros.result.now))
    (sym (new_entry c.args.pool.now c.new_plain.new.self c.in_ok-chain.chain c.first-at.result.index _ _
    c.in_ok-chain.ensures.ok c.first-at.ensures.index))
    (omega (
      arith,
      ap (λ (xs : List ℕ). length xs) c.zeros.ensures,
      length-replicate {A = ℕ} c.min-blank.result 0,
      c.min-blank.ensures,
    ))

pub put_back-requires-2-clause-live : goal.put_back-requires-2-clause-live
put_back-requires-2-clause-live c =
    live_adds (filled _ _ _ _ _ _ _ _ c.in_ok-chain.ensures.ok c.first-at.ensures.index c.put_back.ensures)

pub put_back-requires-2-clause-place : goal.put_back-requires-2-clause-place
put_back-requires-2-clause-place c = place_after _ _ _ _ _ _ c.put_back.ensures c.first-at.ensures.place

first_filled : (p q r : PoolView) (d i : ℕ) (xs : List ℕ) → Adds p q d (one_mbuf false (empty_entry 20 None) d) → i ≡ 0
    → r ≡ with_chain q d (with_entry (chain_of q d) i (with_back (entry_of (chain_of q d) i) xs))
    → Adds p r d (one_mbuf false (with_back (empty_entry 20 None) xs) d)
first_filled p q r d i xs a first is =
    filled p q r d i false (empty_entry 20 None) (with_back (empty_entry 20 None) xs) a first
    (is ∙ ap (λ (e : Entry). with_chain q d (with_entry (chain_of q d) i (with_back e xs)))
    (new_entry p q d i false (empty_entry 20 None) a first))

zeroed : (c : After-put_back) → Adds c.args.pool.now c.put_back.new.self c.in_ok-chain.chain
    (one_mbuf false (with_back (empty_entry 20 None) c.zeros.result.now) c.in_ok-chain.chain)
zeroed c =
    first_filled c.args.pool.now c.new_plain.new.self c.put_back.new.self c.in_ok-chain.chain c.first-at.result.index
    c.zeros.result.now c.in_ok-chain.ensures.ok c.first-at.ensures.index c.put_back.ensures

zeroed_entry : (c : After-put_back) → entry_in c.put_back.new.self c.in_ok-chain.chain c.first-at.result
    ≡ with_back (empty_entry 20 None) c.zeros.result.now
zeroed_entry c =
    new_entry c.args.pool.now c.put_back.new.self c.in_ok-chain.chain c.first-at.result.index _ _ (zeroed c)
    c.first-at.ensures.index

pub put_back-requires-2-clause-unshared : goal.put_back-requires-2-clause-unshared
put_back-requires-2-clause-unshared c =
    plain_unshared c.put_back.new.self (entry_in c.put_back.new.self c.in_ok-chain.chain c.first-at.result)
    (ap (λ (e : Entry). e.cluster) (zeroed_entry (goal.at.put_back-requires-2-clause-unshared c).After-put_back))

pub put_back-requires-2-clause-fits : goal.put_back-requires-2-clause-fits
put_back-requires-2-clause-fits c =
    subst (λ (e : Entry). HasTrailingSpace e (length (take c.min-count.result c.args.bytes.now)))
    (sym (zeroed_entry (goal.at.put_back-requires-2-clause-fits c).After-put_back))
    (omega (
      arith,
      ap (λ (xs : List ℕ). length xs) c.zeros.ensures,
      length-replicate {A = ℕ} c.min-blank.result 0,
      c.min-blank.ensures,
      c.min-count.ensures,
      length-take c.min-count.result c.args.bytes.now,
    ))

pub returns-clause-ok : goal.returns-clause-ok
returns-clause-ok c =
    let q : PoolView = c.put_back.new.self in
    let d : ℕ = c.in_ok-chain.chain in
    let i : ℕ = c.first-at.result.index in
    let xs : List ℕ = c.zeros.result.now in
    let ys : List ℕ = take c.min-count.result c.args.bytes.now in
    let at = (goal.at.returns-clause-ok c).After-put_back in
    let all : xs ++ ys ≡ take 108 (replicate c.args.gap 0 ++ c.args.bytes.now) =
    ap (λ (zs : List ℕ). zs ++ ys) c.zeros.ensures
    ∙ tail_first c.args.gap c.min-blank.result c.min-count.result c.args.bytes.now c.min-blank.ensures
    c.min-count.ensures in
    filled c.args.pool.now q c.put_back-2.new.self d i false (with_back (empty_entry 20 None) xs)
    (record { bytes = take 108 (replicate c.args.gap 0 ++ c.args.bytes.now); start = 20; cluster = None })
    (zeroed at) c.first-at.ensures.index
    (c.put_back-2.ensures ∙ ap (λ (e : Entry). with_chain q d (with_entry (chain_of q d) i (with_back e ys)))
    (zeroed_entry at)
    ∙ ap (λ (zs : List ℕ). let e : Entry = record { bytes = zs; start = 20; cluster = None } in
    with_chain q d (with_entry (chain_of q d) i e)) all)

pub returns-in_err-chain-clause-ok : goal.returns-in_err-chain-clause-ok
returns-in_err-chain-clause-ok c = rw (err_from_is_err_and c.from_residual.result c.from_residual.ensures.1).1 tt

use Rattle.std.proofs.Common.{◌≡◌, ℕ, ◌+◌, ◌-◌, ◌<◌, ◌++◌, Result, Ok, Err, OnErr, List, [], ◌∷◌, length, take, drop, replicate, None, arith, ap, sym, refl, ◌∙◌, append_assoc, append-nil}
use Rattle.std.proofs.lemmas.List.{length-append, length-take, length-replicate, length-drop}
use Rattle.std.proofs.lemmas.Result.{err_from_is_err_and}
use Rattle.mbuf_chain.specs.Chain.{Entry, ChainView, PoolView, chain_of, without}
use Rattle.mbuf_chain.proofs.Laws.Owners.{live_adds}
use Rattle.mbuf_chain.proofs.Laws.Steps.{live_beside, live_shown, place_beside, linked_new}
use Rattle.chain_ops.specs.Makes.{LacksMbufs}
use Rattle.chain_ops.specs.Writes.{in_plain}
use Rattle.chain_ops.proofs.Laws.Makes.{makes_new, makes_then, makes_undone, makes_held, makes_mbufs}
use Rattle.chain_ops.proofs.Laws.Steps.{kept_adds, string_one}
use Rattle.chain_ops.proofs.Writes.{in_plain-some, in_plain-none, tail_left}
use Rattle.chain_ops.proofs.copyback.new_tail.Goals as goal

on_err : {T E P : Type 0} (r : Result T E) → P → OnErr r P
on_err (Ok x) h = tt
on_err (Err y) h = h

-- the number of bytes that are left
size : (z : ℕ) (xs : List ℕ) → length (replicate z 0 ++ xs) ≡ z + length xs
size z xs = omega (arith, length-append (replicate z 0) xs, length-replicate {A = ℕ} z 0)

abbrev first_entry : List ℕ → Entry
first_entry xs = record { bytes = take 108 xs; start = 20; cluster = None }

some : (z : ℕ) (xs : List ℕ) → 0 < z + length xs → 0 < length (in_plain (replicate z 0 ++ xs))
some z xs h =
    omega (
      arith,
      ap (λ (es : List Entry). length es)
          (in_plain-some (replicate z 0 ++ xs) (omega (arith, h, size z xs))),
    )

-- one more mbuf was made
step : (done now : List Entry) (z z' n : ℕ) (xs later : List ℕ) → 0 < z + length xs → z' ≡ z - 108 → n ≡ 108 - z
    → later ≡ drop n xs → now ≡ done ++ (first_entry (replicate z 0 ++ xs) ∷ [])
    → now ++ in_plain (replicate z' 0 ++ later) ≡ done ++ in_plain (replicate z 0 ++ xs)
step done now z z' n xs later h ez en el made =
    let left : replicate z' 0 ++ later ≡ drop 108 (replicate z 0 ++ xs) =
    (λ j. replicate (ez j) 0 ++ el j) ∙ ap (λ (k : ℕ). replicate (z - 108) 0 ++ drop k xs) en ∙ tail_left z xs in
    (λ j. made j ++ in_plain (left j))
    ∙ append_assoc done (first_entry (replicate z 0 ++ xs) ∷ []) (in_plain (drop 108 (replicate z 0 ++ xs)))
    ∙ ap (λ (es : List Entry). done ++ es) (sym (in_plain-some (replicate z 0 ++ xs) (omega (arith, h, size z xs))))

pub returns-in_err-chain-clause-err : goal.returns-in_err-chain-clause-err
returns-in_err-chain-clause-err c =
    let lacks : LacksMbufs c.args.pool.now (length (in_plain (replicate c.args.gap 0 ++ c.args.bytes.now))) =
    omega (arith, c.in_err-chain.ensures.err, some c.args.gap c.args.bytes.now c.requires.some) in
    on_err c.from_residual.result lacks

pub first-last-requires : goal.first-last-requires
first-last-requires c = live_adds c.in_ok-chain.ensures.ok

pub mbufs-init : goal.mbufs-init
mbufs-init c =
    let m = makes_new c.in_ok-chain.ensures.ok in
    record {
      made = record { adds = m.adds; front = m.front; entries = refl };
      all =
          step [] _ c.args.gap c.saturating_sub-blank.result _ c.args.bytes.now c.after-rest.result.now c.requires.some
          c.saturating_sub-blank.ensures c.saturating_sub.ensures c.after-rest.ensures m.entries;
      most =
          omega (
            arith,
            c.requires.most,
            c.saturating_sub-blank.ensures,
            ap (λ (xs : List ℕ). length xs) c.after-rest.ensures,
            length-drop c.saturating_sub.result c.args.bytes.now,
          );
      last = c.first-last.ensures.place;
      end = omega (arith, c.first-last.ensures.index, ap (λ (es : List Entry). length es) m.entries);
    }

pub returns-in_default-clause-err : goal.returns-in_default-clause-err
returns-in_default-clause-err c =
    let m = c.mbufs.invariant.made in
    let rest : List ℕ = replicate c.mbufs.blank 0 ++ c.mbufs.rest.now in
    omega (
      arith,
      some c.mbufs.blank c.mbufs.rest.now (omega arith),
      c.in_default.ensures.err,
      makes_held m,
      makes_mbufs m,
      ap (λ (es : List Entry). length es) c.mbufs.invariant.all,
      length-append (chain_of c.mbufs.pool c.in_ok-chain.chain).entries (in_plain rest),
    )

pub returns-in_default-clause-same : goal.returns-in_default-clause-same
returns-in_default-clause-same c =
    makes_undone _ c.mbufs.invariant.made
    (c.free_chain.ensures ∙ ap (λ (s : PoolView). without s c.in_ok-chain.chain) c.in_default.ensures.same)

pub link_counted-last-requires-clause-front : goal.link_counted-last-requires-clause-front
link_counted-last-requires-clause-front c =
    live_beside _ _ _ _ c.in-Ok.ensures.ok _ (live_shown _ _ _ _ c.mbufs.invariant.made.adds.pool)

pub link_counted-last-requires-clause-back : goal.link_counted-last-requires-clause-back
link_counted-last-requires-clause-back c = live_adds c.in-Ok.ensures.ok

pub link_counted-last-requires-clause-place : goal.link_counted-last-requires-clause-place
link_counted-last-requires-clause-place c =
    place_beside _ _ _ _ _ _ c.in-Ok.ensures.ok (live_shown _ _ _ _ c.mbufs.invariant.made.adds.pool)
    c.mbufs.invariant.last

pub link_counted-last-requires-clause-last : goal.link_counted-last-requires-clause-last
link_counted-last-requires-clause-last c =
    c.mbufs.invariant.end ∙ ap (λ (v : ChainView). length v.entries)
    (sym (kept_adds _ _ _ _ _ c.in-Ok.ensures.ok (live_shown _ _ _ _ c.mbufs.invariant.made.adds.pool)))

pub link_counted-last-requires-clause-len : goal.link_counted-last-requires-clause-len
link_counted-last-requires-clause-len c =
    let rest : List ℕ = replicate c.mbufs.blank 0 ++ c.mbufs.rest.now in
    omega (
      arith,
      string_one _ _ _ _ _ c.in-Ok.ensures.ok,
      length-take 108 rest,
      size c.mbufs.blank c.mbufs.rest.now,
      c.min-len.ensures,
    )

pub mbufs-preserved : goal.mbufs-preserved
mbufs-preserved c =
    let p : PoolView = c.mbufs.pool in
    let d : ℕ = c.in_ok-chain.chain in
    let inv = c.mbufs.invariant in
    let r : PoolView = c.link_counted-last.new.self in
    let is =
    linked_new p _ r d _ _ (live_shown c.args.pool.now p d _ inv.made.adds.pool) c.in-Ok.ensures.ok
    c.link_counted-last.ensures.change in
    let m = makes_then r _ inv.made is in
    let done : List Entry = (chain_of p d).entries in
    record {
      made = record { adds = m.adds; front = m.front ∙ inv.made.front; entries = refl };
      all =
          step done _ c.mbufs.blank c.saturating_sub-blank-in-mbufs.result _ c.mbufs.rest.now
          c.after-rest-in-mbufs.result.now (omega arith) c.saturating_sub-blank-in-mbufs.ensures
          c.saturating_sub-in-mbufs.ensures c.after-rest-in-mbufs.ensures m.entries
          ∙ inv.all;
      most =
          omega (
            arith,
            inv.most,
            c.saturating_sub-blank-in-mbufs.ensures,
            ap (λ (xs : List ℕ). length xs) c.after-rest-in-mbufs.ensures,
            length-drop c.saturating_sub-in-mbufs.result c.mbufs.rest.now,
          );
      last = c.link_counted-last.ensures.place;
      end =
          omega (
            arith,
            c.link_counted-last.ensures.index,
            inv.end,
            ap (λ (es : List Entry). length es) m.entries,
            length-append done (first_entry (replicate c.mbufs.blank 0 ++ c.mbufs.rest.now) ∷ []),
          );
    }

pub returns-clause-ok : goal.returns-clause-ok
returns-clause-ok c =
    let m = c.mbufs.invariant.made in
    let done : List Entry = (chain_of c.mbufs.pool c.in_ok-chain.chain).entries in
    let rest : List ℕ = replicate c.mbufs.blank 0 ++ c.mbufs.rest.now in
    record {
      adds = m.adds;
      front = m.front;
      entries =
          sym (append-nil done) ∙ ap (λ (es : List Entry). done ++ es)
          (sym (in_plain-none rest (omega (arith, size c.mbufs.blank c.mbufs.rest.now)))) ∙ c.mbufs.invariant.all;
    }

pub returns-clause-enough : goal.returns-clause-enough
returns-clause-enough c =
    let m = returns-clause-ok c in
    omega (arith, makes_held m, makes_mbufs m, c.laws.ensures.few)

pub returns-in_err-chain-clause-ok : goal.returns-in_err-chain-clause-ok
returns-in_err-chain-clause-ok c = rw (err_from_is_err_and c.from_residual.result c.from_residual.ensures.1).1 tt

pub returns-in_err-chain-clause-enough : goal.returns-in_err-chain-clause-enough
returns-in_err-chain-clause-enough c = rw (err_from_is_err_and c.from_residual.result c.from_residual.ensures.1).1 tt

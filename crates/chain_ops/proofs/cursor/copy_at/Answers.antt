use Rattle.std.proofs.Common.{◌≡◌, ◌==◌, ℕ, ◌+◌, ◌<◌, ◌++◌, Bool, List, [], ◌∷◌, length, drop, arith, ap, sym, refl, ◌∙◌, append-nil}
use Rattle.std.proofs.lemmas.Bool.{some_since, and_parts, eqb-true}
use Rattle.std.proofs.lemmas.Option.{MatchOption-at_some}
use Rattle.std.proofs.lemmas.List.{length-append}
use Rattle.std.proofs.lemmas.Result.{err_from_is_err_and}
use Rattle.mbuf_chain.specs.declared.place.Segment.{Segment}
use Rattle.mbuf_chain.specs.Chain.{IsPlace, Entry, ChainView, PoolView, chain_of, entry_of, alone, without}
use Rattle.mbuf_chain.proofs.Laws.Owners.{live_adds}
use Rattle.chain_ops.specs.Copies.{copied, copied_entry, copied_from}
use Rattle.chain_ops.proofs.Laws.Makes.{makes_new, makes_then, makes_undone, makes_live, makes_kept, makes_held, makes_mbufs}
use Rattle.chain_ops.proofs.Laws.Steps.{place_in}
use Rattle.chain_ops.proofs.Lists.{flat_at, flat_after, copied_none, copied_some, copied_start, copied_step, cursor_left, cursor_inside, cursor_first}
use Rattle.chain_ops.proofs.cursor.copy_at.Goals as goal
use Rattle.chain_ops.proofs.cursor.copy_at.Goals.{After-unwrap-at}

pub overflow_sub-segment : goal.overflow_sub-segment
overflow_sub-segment c =
    omega (arith, cursor_inside _ _ c.requires.cursor, ap (λ (x : Segment). x.len) c.segment.ensures.value)

pub new_copy-requires-clause-within : goal.new_copy-requires-clause-within
new_copy-requires-clause-within c =
    omega (
      arith,
      cursor_inside _ _ c.requires.cursor,
      ap (λ (x : Segment). x.len) c.segment.ensures.value,
      c.min-first.ensures,
    )

pub new_copy-requires-clause-headed : goal.new_copy-requires-clause-headed
new_copy-requires-clause-headed c = λ t.
    let both = and_parts _ (c.args.from.off == 0) (sym c.copy_header-header.ensures ∙ t) in
    (both.0, cursor_first _ c.args.from c.requires.cursor (eqb-true c.args.from.off 0 both.1))

pub first-last-requires : goal.first-last-requires
first-last-requires c = live_adds c.in_ok-copy.ensures.ok

pub mbufs-init : goal.mbufs-init
mbufs-init c =
    let v : ChainView = chain_of c.args.pool.now c.args.chain.now in
    let m = makes_new c.in_ok-copy.ensures.ok in
    let len = ap (λ (x : Segment). x.len) c.segment.ensures.value in
    record {
      made = record { adds = m.adds; front = m.front; entries = refl };
      all =
          copied_start v c.args.from.place c.copy_header-header.result c.args.from.off c.args.len c.args.from.skip
          c.min-first.result c.segment.result.len _
          c.requires.cursor.place c.requires.cursor.position c.requires.some len c.min-first.ensures m.entries;
      place = c.requires.cursor.place;
      within =
          omega (
            arith,
            cursor_left v c.args.from c.requires.cursor,
            cursor_inside v c.args.from c.requires.cursor,
            flat_at v c.args.from.place c.requires.cursor.place,
            len,
            c.min-first.ensures,
            c.requires.within,
          );
      last = c.first-last.ensures.place;
      end = omega (arith, c.first-last.ensures.index, ap (λ (es : List Entry). length es) m.entries);
    }

pub next-requires-clause-live : goal.next-requires-clause-live
next-requires-clause-live c = makes_live _ c.mbufs.invariant.made c.requires.live

pub next-requires-clause-place : goal.next-requires-clause-place
next-requires-clause-place c =
    place_in c.args.pool.now c.mbufs.pool _ _ (makes_kept _ c.mbufs.invariant.made c.requires.live)
    c.mbufs.invariant.place

pub unwrap-at-requires : goal.unwrap-at-requires
unwrap-at-requires c =
    some_since _ _ _ c.next.ensures
    (λ e. omega (
      arith,
      flat_after (chain_of c.args.pool.now c.args.chain.now).entries c.mbufs.at.index
          (e ∙ ap (λ (w : ChainView). length w.entries) (makes_kept _ c.mbufs.invariant.made c.requires.live)),
      c.mbufs.invariant.within,
      c.mbufs-test.true,
    ))

-- the mbuf after the one that was copied from is in the chain as it was
after : (c : After-unwrap-at) → IsPlace (chain_of c.args.pool.now c.args.chain.now) c.unwrap-at.result
    × (c.unwrap-at.result.index ≡ c.mbufs.at.index + 1)
after c =
    let next = MatchOption-at_some _ _ _ c.unwrap-at.ensures c.next.ensures in
    let kept = makes_kept c.args.chain.now c.mbufs.invariant.made c.requires.live in
    (place_in c.mbufs.pool c.args.pool.now _ _ (sym kept) next.0, next.1)

pub returns-in_default-clause-err : goal.returns-in_default-clause-err
returns-in_default-clause-err c =
    let v : ChainView = chain_of c.args.pool.now c.args.chain.now in
    let m = c.mbufs.invariant.made in
    let next = after (goal.at.returns-in_default-clause-err c).After-unwrap-at in
    let some : 0 < length (copied_from 20 (drop (c.mbufs.at.index + 1) v.entries) 0 c.mbufs.left) =
    omega (
      arith,
      copied_some 20 v c.unwrap-at.result 0 c.mbufs.left next.0 c.mbufs-test.true,
      ap (λ (i : ℕ). length (copied_from 20 (drop i v.entries) 0 c.mbufs.left)) next.1,
    ) in
    omega (
      arith,
      some,
      c.in_default.ensures.err,
      makes_held m,
      makes_mbufs m,
      ap (λ (es : List Entry). length es) c.mbufs.invariant.all,
      length-append (chain_of c.mbufs.pool c.in_ok-copy.copy).entries
          (copied_from 20 (drop (c.mbufs.at.index + 1) v.entries) 0 c.mbufs.left),
      ap (λ (h : Bool). length (copied h v.entries c.args.from.off c.args.len)) c.copy_header-header.ensures,
    )

pub returns-in_default-clause-same : goal.returns-in_default-clause-same
returns-in_default-clause-same c =
    makes_undone _ c.mbufs.invariant.made
    (c.free_chain.ensures ∙ ap (λ (s : PoolView). without s c.in_ok-copy.copy) c.in_default.ensures.same)

pub mbufs-preserved : goal.mbufs-preserved
mbufs-preserved c =
    let v : ChainView = chain_of c.args.pool.now c.args.chain.now in
    let was = c.mbufs.invariant.made in
    let kept = makes_kept c.args.chain.now was c.requires.live in
    let m = makes_then c.append_copy.new.pool _ was c.in-Ok.ensures.ok.1 in
    let next = after (goal.at.mbufs-preserved c).After-unwrap-at in
    let len =
    ap (λ (x : Segment). x.len) c.segment-in-mbufs.ensures.value
    ∙ ap (λ (w : ChainView). length (entry_of w c.unwrap-at.result.index).bytes) kept in
    let done : List Entry = (chain_of c.mbufs.pool c.in_ok-copy.copy).entries in
    let now =
    m.entries ∙ ap (λ (w : ChainView). done
    ++ (copied_entry 20 (entry_of w c.unwrap-at.result.index) 0 c.min-n.result ∷ [])) kept in
    record {
      made = record { adds = m.adds; front = m.front ∙ was.front; entries = refl };
      all =
          copied_step v c.unwrap-at.result c.mbufs.at.index c.mbufs.left c.min-n.result c.segment-in-mbufs.result.len
          done
          _ next.0 next.1 c.mbufs-test.true len c.min-n.ensures now
          ∙ c.mbufs.invariant.all;
      place = next.0;
      within =
          omega (
            arith,
            flat_at v c.unwrap-at.result next.0,
            len,
            c.min-n.ensures,
            c.mbufs.invariant.within,
            ap (λ (i : ℕ). length (Rattle.mbuf_chain.specs.Chain.flat_bytes (drop i v.entries))) next.1,
          );
      last = c.in-Ok.ensures.ok.2;
      end =
          omega (
            arith,
            c.in-Ok.ensures.ok.3,
            c.mbufs.invariant.end,
            ap (λ (es : List Entry). length es) now,
            length-append done (copied_entry 20 (entry_of v c.unwrap-at.result.index) 0 c.min-n.result ∷ []),
          );
    }

pub returns-clause-ok : goal.returns-clause-ok
returns-clause-ok c =
    let done : List Entry = (chain_of c.mbufs.pool c.in_ok-copy.copy).entries in
    let rest : List Entry = drop (c.mbufs.at.index + 1) (chain_of c.args.pool.now c.args.chain.now).entries in
    let none : 0 ≡ c.mbufs.left = omega arith in
    record {
      adds = c.mbufs.invariant.made.adds;
      front = c.mbufs.invariant.made.front ∙ ap alone c.copy_header-header.ensures;
      entries =
          sym (append-nil done) ∙ ap (λ (es : List Entry). done ++ es) (sym (copied_none 20 rest 0))
          ∙ ap (λ (n : ℕ). done ++ copied_from 20 rest 0 n) none
          ∙ c.mbufs.invariant.all
          ∙ ap (λ (h : Bool). copied h (chain_of c.args.pool.now c.args.chain.now).entries c.args.from.off c.args.len)
          c.copy_header-header.ensures;
    }

pub returns-clause-enough : goal.returns-clause-enough
returns-clause-enough c =
    let m = returns-clause-ok c in
    omega (arith, makes_held m, makes_mbufs m, c.laws.ensures.few)

pub returns-in_err-copy-clause-ok : goal.returns-in_err-copy-clause-ok
returns-in_err-copy-clause-ok c = rw (err_from_is_err_and c.from_residual.result c.from_residual.ensures.1).1 tt

pub returns-in_err-copy-clause-enough : goal.returns-in_err-copy-clause-enough
returns-in_err-copy-clause-enough c = rw (err_from_is_err_and c.from_residual.result c.from_residual.ensures.1).1 tt

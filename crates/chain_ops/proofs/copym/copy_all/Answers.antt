use Rattle.std.proofs.Common.{◌+◌, ◌++◌, Bool, List, [], ◌∷◌, length, drop, arith, ap, sym, refl, ◌∙◌, append-nil}
use Rattle.std.proofs.lemmas.List.{length-append}
use Rattle.std.proofs.lemmas.Result.{err_from_is_err_and}
use Rattle.mbuf_chain.specs.declared.place.Segment.{Segment}
use Rattle.mbuf_chain.specs.Chain.{Entry, ChainView, PoolView, chain_of, entry_of, alone, without}
use Rattle.mbuf_chain.proofs.Laws.Owners.{live_adds}
use Rattle.chain_ops.specs.Rooms.{room_low}
use Rattle.chain_ops.specs.Copies.{copied_all, copied_entry}
use Rattle.chain_ops.proofs.Laws.Makes.{makes_new, makes_then, makes_undone, makes_live, makes_kept, makes_held, makes_mbufs}
use Rattle.chain_ops.proofs.Laws.Steps.{place_in}
use Rattle.chain_ops.proofs.Lists.{none_after, all_start, all_step, all_some}
use Rattle.chain_ops.proofs.copym.copy_all.Goals as goal

pub first-last-requires : goal.first-last-requires
first-last-requires c = live_adds c.in_ok-copy.ensures.ok

pub mbufs-init : goal.mbufs-init
mbufs-init c =
    let v : ChainView = chain_of c.args.pool.now c.args.chain.now in
    let m = makes_new c.in_ok-copy.ensures.ok in
    let len = ap (λ (x : Segment). x.len) c.segment-len.ensures.value in
    record {
      made = record { adds = m.adds; front = m.front; entries = refl };
      all =
          all_start v c.first-at.result c.has_header-header.result c.segment-len.result.len _ c.first-at.ensures.place
          c.first-at.ensures.index len m.entries;
      place = c.first-at.ensures.place;
      last = c.first-last.ensures.place;
      end = omega (arith, c.first-last.ensures.index, ap (λ (es : List Entry). length es) m.entries);
    }

pub next-requires-clause-live : goal.next-requires-clause-live
next-requires-clause-live c = makes_live _ c.mbufs.invariant.made c.requires

pub next-requires-clause-place : goal.next-requires-clause-place
next-requires-clause-place c =
    place_in c.args.pool.now c.mbufs.pool _ _ (makes_kept _ c.mbufs.invariant.made c.requires) c.mbufs.invariant.place

pub returns-in_default-append_copy-clause-err : goal.returns-in_default-append_copy-clause-err
returns-in_default-append_copy-clause-err c =
    let v : ChainView = chain_of c.args.pool.now c.args.chain.now in
    let m = c.mbufs.invariant.made in
    let place = place_in c.mbufs.pool c.args.pool.now _ _ (sym (makes_kept _ m c.requires)) c.in-Some.ensures.0 in
    omega (
      arith,
      all_some v c.in-Some.place c.mbufs.at.index place c.in-Some.ensures.1,
      c.in_default-append_copy.ensures.err,
      makes_held m,
      makes_mbufs m,
      ap (λ (es : List Entry). length es) c.mbufs.invariant.all,
      length-append (chain_of c.mbufs.pool c.in_ok-copy.copy).entries
          (copied_all 20 (drop (c.mbufs.at.index + 1) v.entries)),
      ap (λ (h : Bool). length (copied_all (room_low h) v.entries)) c.has_header-header.ensures,
    )

pub returns-in_default-append_copy-clause-same : goal.returns-in_default-append_copy-clause-same
returns-in_default-append_copy-clause-same c =
    makes_undone _ c.mbufs.invariant.made
    (c.free_chain.ensures ∙ ap (λ (s : PoolView). without s c.in_ok-copy.copy) c.in_default-append_copy.ensures.same)

pub mbufs-preserved : goal.mbufs-preserved
mbufs-preserved c =
    let v : ChainView = chain_of c.args.pool.now c.args.chain.now in
    let was = c.mbufs.invariant.made in
    let kept = makes_kept c.args.chain.now was c.requires in
    let m = makes_then c.append_copy.new.pool _ was c.in-Ok.ensures.ok.1 in
    let place = place_in c.mbufs.pool c.args.pool.now _ _ (sym kept) c.in-Some.ensures.0 in
    let len =
    ap (λ (x : Segment). x.len) c.segment-n.ensures.value
    ∙ ap (λ (w : ChainView). length (entry_of w c.in-Some.place.index).bytes) kept in
    let done : List Entry = (chain_of c.mbufs.pool c.in_ok-copy.copy).entries in
    let now =
    m.entries ∙ ap (λ (w : ChainView). done
    ++ (copied_entry 20 (entry_of w c.in-Some.place.index) 0 c.segment-n.result.len ∷ [])) kept in
    record {
      made = record { adds = m.adds; front = m.front ∙ was.front; entries = refl };
      all =
          all_step v c.in-Some.place c.mbufs.at.index c.segment-n.result.len done _ place c.in-Some.ensures.1 len now
          ∙ c.mbufs.invariant.all;
      place = place;
      last = c.in-Ok.ensures.ok.2;
      end =
          omega (
            arith,
            c.in-Ok.ensures.ok.3,
            c.mbufs.invariant.end,
            ap (λ (es : List Entry). length es) now,
            length-append done (copied_entry 20 (entry_of v c.in-Some.place.index) 0 c.segment-n.result.len ∷ []),
          );
    }

pub returns-clause-ok : goal.returns-clause-ok
returns-clause-ok c =
    let done : List Entry = (chain_of c.mbufs.pool c.in_ok-copy.copy).entries in
    let end =
    c.in_default.ensures
    ∙ ap (λ (w : ChainView). length w.entries) (makes_kept _ c.mbufs.invariant.made c.requires) in
    record {
      adds = c.mbufs.invariant.made.adds;
      front = c.mbufs.invariant.made.front ∙ ap alone c.has_header-header.ensures;
      entries =
          sym (append-nil done) ∙ ap (λ (es : List Entry). done ++ copied_all 20 es)
          (sym (none_after _ c.mbufs.at.index end))
          ∙ c.mbufs.invariant.all
          ∙ ap (λ (h : Bool). copied_all (room_low h) (chain_of c.args.pool.now c.args.chain.now).entries)
          c.has_header-header.ensures;
    }

pub returns-clause-enough : goal.returns-clause-enough
returns-clause-enough c =
    let m = returns-clause-ok c in
    omega (arith, makes_held m, makes_mbufs m, c.laws.ensures.few)

pub returns-in_err-copy-clause-ok : goal.returns-in_err-copy-clause-ok
returns-in_err-copy-clause-ok c = rw (err_from_is_err_and c.from_residual.result c.from_residual.ensures.1).1 tt

pub returns-in_err-copy-clause-enough : goal.returns-in_err-copy-clause-enough
returns-in_err-copy-clause-enough c = rw (err_from_is_err_and c.from_residual.result c.from_residual.ensures.1).1 tt

use Rattle.std.proofs.Common.{◌≡◌, ℕ, ◌-◌, ◌++◌, List, [], length, take, drop, arith, ap, sym, refl, ◌∙◌, subst}
use Rattle.std.specs.Prelude.{slice_set}
use Rattle.std.proofs.lemmas.List.{length-drop, length-append, length-take}
use Rattle.mbuf_chain.specs.declared.place.Segment.{Segment}
use Rattle.mbuf_chain.specs.Chain.{Entry, ChainView, PoolView, HasTrailingSpace, chain_of, entry_of, flat_bytes, without}
use Rattle.mbuf_chain.specs.Steps.{narrowed}
use Rattle.mbuf_chain.proofs.Laws.Owners.{shown_with, kept_with, chain_left}
use Rattle.mbuf_chain.proofs.Laws.Steps.{place_after}
use Rattle.chain_ops.specs.Pulls.{moved}
use Rattle.chain_ops.proofs.Laws.Makes.{makes_new}
use Rattle.chain_ops.proofs.Laws.Steps.{place_in}
use Rattle.chain_ops.proofs.Trims.{length_now, entries_now}
use Rattle.mbuf_chain.proofs.Laws.Two.{HasTwo, two_start, two_first, two_second, two_next, kept_next, two_freed, two_linked}
use Rattle.chain_ops.proofs.Joins.{last_split, one_entry, first_split, pull_moved, part_step, stop_step, entry_now, room_left, first_bytes, set_first}
use Rattle.chain_ops.proofs.pullup.pull.Goals as goal
use Rattle.chain_ops.proofs.pullup.pull.Goals.{After-append, After-append-in-mbufs, After-narrow}

pub mbufs-init : goal.mbufs-init
mbufs-init c = record {
  two = two_start _ _ _ c.requires.front c.requires.back c.requires.apart;
  front = refl;
  all = refl;
  place = c.requires.place;
  end = c.requires.last;
  plain = c.requires.plain;
  bytes = c.requires.len;
  room = c.requires.room;
}

-- ---- a part of the first mbuf's bytes was appended, and taken from it
kept : (c : After-append) → chain_of c.append.new.self c.mbufs.back ≡ chain_of c.mbufs.pool c.mbufs.back
kept c =
    kept_with c.mbufs.pool c.append.new.self c.args.into.now _ c.mbufs.back c.append.ensures
    (λ e. c.mbufs.invariant.two.apart (sym e))

two : (c : After-narrow) → HasTwo (without (without c.args.pool.now c.args.second) c.args.into.now) c.narrow.new.self
    c.args.into.now c.mbufs.back
two c =
    two_second c.narrow.new.self _ (two_first c.append.new.self _ c.mbufs.invariant.two c.append.ensures)
    c.narrow.ensures

front : (c : After-narrow) → chain_of c.narrow.new.self c.args.into.now ≡ chain_of c.append.new.self c.args.into.now
front c =
    kept_with c.append.new.self c.narrow.new.self c.mbufs.back _ c.args.into.now c.narrow.ensures
    c.mbufs.invariant.two.apart

back : (c : After-narrow) → chain_of c.append.new.self c.mbufs.back ≡ chain_of c.mbufs.pool c.mbufs.back
    → (chain_of c.narrow.new.self c.mbufs.back).entries
    ≡ slice_set (chain_of c.mbufs.pool c.mbufs.back).entries c.first-from.result.index
    (narrowed (entry_of (chain_of c.mbufs.pool c.mbufs.back) c.first-from.result.index) c.mbufs.left
    (c.segment-size.result.len - c.mbufs.left))
back c is =
    entries_now _ _ _ _ _ c.narrow.ensures
    ∙ ap (λ (x : ChainView). slice_set x.entries c.first-from.result.index
    (narrowed (entry_of x c.first-from.result.index) c.mbufs.left (c.segment-size.result.len - c.mbufs.left))) is

pub narrow-requires-clause-live : goal.narrow-requires-clause-live
narrow-requires-clause-live c = (two_first c.append.new.self _ c.mbufs.invariant.two c.append.ensures).live_second

pub narrow-requires-clause-place : goal.narrow-requires-clause-place
narrow-requires-clause-place c =
    place_in c.mbufs.pool c.append.new.self _ _ (kept (goal.at.narrow-requires-clause-place c).After-append)
    c.first-from.ensures.place

pub narrow-requires-clause-within : goal.narrow-requires-clause-within
narrow-requires-clause-within c =
    omega (
      arith,
      c.if-left-size.true,
      ap (λ (x : Segment). x.len) c.segment-size.ensures.value,
      ap (λ (v : ChainView). length (entry_of v c.first-from.result.index).bytes)
          (kept (goal.at.narrow-requires-clause-within c).After-append),
    )

pub link_rest-requires-clause-front : goal.link_rest-requires-clause-front
link_rest-requires-clause-front c = (two (goal.at.link_rest-requires-clause-front c).After-narrow).live_first

pub link_rest-requires-clause-back : goal.link_rest-requires-clause-back
link_rest-requires-clause-back c = (two (goal.at.link_rest-requires-clause-back c).After-narrow).live_second

pub link_rest-requires-clause-place : goal.link_rest-requires-clause-place
link_rest-requires-clause-place c =
    place_in c.append.new.self c.narrow.new.self _ _ (front (goal.at.link_rest-requires-clause-place c).After-narrow)
    (place_after _ _ _ _ _ _ c.append.ensures c.mbufs.invariant.place)

pub link_rest-requires-clause-last : goal.link_rest-requires-clause-last
link_rest-requires-clause-last c =
    c.mbufs.invariant.end
    ∙ sym (ap (λ (v : ChainView). length v.entries) (front (goal.at.link_rest-requires-clause-last c).After-narrow)
    ∙ length_now _ _ _ _ _ c.append.ensures)

pub link_rest-requires-clause-len : goal.link_rest-requires-clause-len
link_rest-requires-clause-len c = λ t.
    let at = goal.at.link_rest-requires-clause-len c in
    let w : ChainView = chain_of c.mbufs.pool c.mbufs.back in
    let j : ℕ = c.first-from.result.index in
    let g : Entry = narrowed (entry_of w j) c.mbufs.left (c.segment-size.result.len - c.mbufs.left) in
    let now =
    back at.After-narrow (kept at.After-append)
    ∙ ap (λ (i : ℕ). slice_set w.entries i g) c.first-from.ensures.index
    ∙ set_first w.entries g (omega (arith, c.first-from.ensures.place.within)) in
    omega (
      arith,
      c.mbufs.invariant.bytes t,
      ap (λ (es : List Entry). length (flat_bytes es)) now,
      length-append g.bytes (flat_bytes (drop 1 w.entries)),
      length-take (c.segment-size.result.len - c.mbufs.left) (drop c.mbufs.left (entry_of w j).bytes),
      length-drop c.mbufs.left (entry_of w j).bytes,
      first_bytes w c.first-from.result c.first-from.ensures.place c.first-from.ensures.index,
      ap (λ (x : Segment). x.len) c.segment-size.ensures.value,
      c.saturating_sub.ensures,
      c.if-left-size.true,
    )

pub returns-then-left-size : goal.returns-then-left-size
returns-then-left-size c =
    let at = goal.at.returns-then-left-size c in
    let w : ChainView = chain_of c.mbufs.pool c.mbufs.back in
    let j : ℕ = c.first-from.result.index in
    let shown = shown_with _ c.link_rest.new.pool _ _ c.link_rest.ensures in
    let now = ap (λ (x : ChainView). x.entries) (front at.After-narrow) ∙ entries_now _ _ _ _ _ c.append.ensures in
    let rest = back at.After-narrow (kept at.After-append) in
    record {
      adds = (makes_new (two_linked c.link_rest.new.pool _ (two at.After-narrow) c.link_rest.ensures)).adds;
      front =
          ap (λ (x : ChainView). x.front) shown
          ∙ ap (λ (x : ChainView). x.front) (front at.After-narrow ∙ shown_with c.mbufs.pool _ _ _ c.append.ensures)
          ∙ c.mbufs.invariant.front;
      entries = ap (λ (x : ChainView). x.entries) shown ∙ (λ k. now k ++ rest k)
          ∙ part_step (chain_of c.mbufs.pool c.args.into.now).entries w.entries
          c.args.last.index j c.mbufs.left c.segment-size.result.len (entry_of w j)
          (drop 1 w.entries) c.mbufs.invariant.end c.first-from.ensures.index
          (first_split w c.first-from.result c.first-from.ensures.place c.first-from.ensures.index)
          (ap (λ (x : Segment). x.len) c.segment-size.ensures.value) c.mbufs-test.true c.if-left-size.true
          ∙ c.mbufs.invariant.all;
    }

-- ---- all bytes of the first mbuf were appended
two_all : (c : After-append-in-mbufs) → HasTwo (without (without c.args.pool.now c.args.second) c.args.into.now)
    c.append-in-mbufs.new.self c.args.into.now c.mbufs.back
two_all c = two_first c.append-in-mbufs.new.self _ c.mbufs.invariant.two c.append-in-mbufs.ensures

kept_all : (c : After-append-in-mbufs)
    → chain_of c.append-in-mbufs.new.self c.mbufs.back ≡ chain_of c.mbufs.pool c.mbufs.back
kept_all c =
    kept_with c.mbufs.pool c.append-in-mbufs.new.self c.args.into.now _ c.mbufs.back c.append-in-mbufs.ensures
    (λ e. c.mbufs.invariant.two.apart (sym e))

moved_all : (c : After-append-in-mbufs)
    → take c.args.last.index (chain_of c.append-in-mbufs.new.self c.args.into.now).entries
    ++ moved (c.mbufs.left - c.segment-size.result.len)
    (entry_of (chain_of c.append-in-mbufs.new.self c.args.into.now) c.args.last.index)
    (drop 1 (chain_of c.mbufs.pool c.mbufs.back).entries)
    ≡ take c.args.last.index (chain_of c.args.pool.now c.args.into.now).entries
    ++ moved c.args.n (entry_of (chain_of c.args.pool.now c.args.into.now) c.args.last.index)
    (chain_of c.args.pool.now c.args.second).entries
moved_all c =
    pull_moved c.mbufs.pool c.append-in-mbufs.new.self c.args.into.now c.mbufs.back c.args.last c.first-from.result
    c.segment-size.result.len c.mbufs.left c.append-in-mbufs.ensures c.mbufs.invariant.place
    c.first-from.ensures.place c.first-from.ensures.index (ap (λ (x : Segment). x.len) c.segment-size.ensures.value)
    c.mbufs-test.true c.if-left-size.false ∙ c.mbufs.invariant.all

pub drop_first-requires : goal.drop_first-requires
drop_first-requires c = (two_all (goal.at.drop_first-requires c).After-append-in-mbufs).live_second

pub returns-in_default : goal.returns-in_default
returns-in_default c =
    let at = (goal.at.returns-in_default c).After-append-in-mbufs in
    let w : ChainView = chain_of c.mbufs.pool c.mbufs.back in
    let now : ChainView = chain_of c.append-in-mbufs.new.self c.args.into.now in
    let same : chain_of c.drop_first.new.pool c.args.into.now ≡ now =
    ap (λ (s : PoolView). chain_of s c.args.into.now) c.in_default.ensures.1
    ∙ chain_left c.append-in-mbufs.new.self c.mbufs.back c.args.into.now c.mbufs.invariant.two.apart in
    let none : drop 1 w.entries ≡ [] =
    one_entry w.entries _ (drop 1 w.entries)
    (first_split w c.first-from.result c.first-from.ensures.place c.first-from.ensures.index)
    (sym (ap (λ (x : ChainView). length x.entries) (kept_all at)) ∙ c.in_default.ensures.0) in
    record {
      adds = (makes_new (two_freed c.drop_first.new.pool (two_all at) c.in_default.ensures.1)).adds;
      front =
          ap (λ (x : ChainView). x.front) (same ∙ shown_with c.mbufs.pool _ _ _ c.append-in-mbufs.ensures)
          ∙ c.mbufs.invariant.front;
      entries = ap (λ (x : ChainView). x.entries) same
          ∙ sym (last_split now.entries c.args.last.index
          (c.mbufs.invariant.end ∙ sym (length_now _ _ _ _ _ c.append-in-mbufs.ensures)))
          ∙ ap (λ (es : List Entry). take c.args.last.index now.entries
          ++ moved (c.mbufs.left - c.segment-size.result.len) (entry_of now c.args.last.index) es) (sym none)
          ∙ moved_all at;
    }

pub mbufs-smaller : goal.mbufs-smaller
mbufs-smaller c =
    omega (
      arith,
      ap (λ (es : List Entry). length es) c.in-Some.ensures.entries,
      ap (λ (x : ChainView). length (drop 1 x.entries)) (kept_all (goal.at.mbufs-smaller c).After-append-in-mbufs),
      length-drop 1 (chain_of c.mbufs.pool c.mbufs.back).entries,
      c.first-from.ensures.place.within,
    )

pub mbufs-preserved : goal.mbufs-preserved
mbufs-preserved c =
    let at = (goal.at.mbufs-preserved c).After-append-in-mbufs in
    let i : ℕ = c.args.last.index in
    let left : ℕ = c.mbufs.left - c.segment-size.result.len in
    let same = kept_next c.drop_first.new.pool c.in-Some.rest (two_all at) c.in-Some.ensures.adds in
    let len = ap (λ (x : Segment). x.len) c.segment-size.ensures.value in
    let rest = c.in-Some.ensures.entries ∙ ap (λ (x : ChainView). drop 1 x.entries) (kept_all at) in
    let entry =
    ap (λ (x : ChainView). entry_of x i) same
    ∙ entry_now _ _ _ _ _ c.mbufs.invariant.place.within c.append-in-mbufs.ensures in
    record {
      two = two_next c.drop_first.new.pool c.in-Some.rest (two_all at) c.in-Some.ensures.adds;
      front =
          ap (λ (x : ChainView). x.front) (same ∙ shown_with c.mbufs.pool _ _ _ c.append-in-mbufs.ensures)
          ∙ c.mbufs.invariant.front;
      all = (λ j. take i (same j).entries ++ moved left (entry_of (same j) i) (rest j)) ∙ moved_all at;
      place =
          place_in c.append-in-mbufs.new.self c.drop_first.new.pool _ _ same
          (place_after _ _ _ _ _ _ c.append-in-mbufs.ensures c.mbufs.invariant.place);
      end =
          c.mbufs.invariant.end ∙ sym (ap (λ (x : ChainView). length x.entries) same
          ∙ length_now _ _ _ _ _ c.append-in-mbufs.ensures);
      plain = ap (λ (e : Entry). e.cluster) entry ∙ c.mbufs.invariant.plain;
      bytes = λ t.
          omega (
            arith,
            c.mbufs.invariant.bytes t,
            first_bytes (chain_of c.mbufs.pool c.mbufs.back) c.first-from.result c.first-from.ensures.place
                c.first-from.ensures.index,
            len,
            ap (λ (es : List Entry). length (flat_bytes es)) rest,
            c.saturating_sub-bytes.ensures,
          );
      room =
          subst (λ (e : Entry). HasTrailingSpace e left) (sym entry)
          (room_left (entry_of (chain_of c.mbufs.pool c.args.into.now) i)
          (entry_of (chain_of c.mbufs.pool c.mbufs.back) c.first-from.result.index)
          c.segment-size.result.len c.mbufs.left c.mbufs.invariant.room len c.if-left-size.false);
    }

pub returns : goal.returns
returns c =
    let m = makes_new (two_linked c.link_rest-2.new.pool _ c.mbufs.invariant.two c.link_rest-2.ensures) in
    let shown = shown_with _ c.link_rest-2.new.pool _ _ c.link_rest-2.ensures in
    record {
      adds = m.adds;
      front = ap (λ (x : ChainView). x.front) shown ∙ c.mbufs.invariant.front;
      entries =
          ap (λ (x : ChainView). x.entries) shown
          ∙ stop_step (chain_of c.mbufs.pool c.args.into.now).entries (chain_of c.mbufs.pool c.mbufs.back).entries
          c.args.last.index c.mbufs.left c.mbufs.invariant.end (omega arith)
          ∙ c.mbufs.invariant.all;
    }

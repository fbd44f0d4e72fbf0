use Rattle.std.proofs.Common.{◌≡◌, ℕ, ◌++◌, List, [], length, take, drop, arith, ap, sym, refl, ◌∙◌}
use Rattle.std.proofs.lemmas.List.{length-drop}
use Rattle.mbuf_chain.specs.declared.place.Segment.{Segment}
use Rattle.mbuf_chain.specs.Chain.{Entry, ChainView, PoolView, chain_of, entry_of, without}
use Rattle.mbuf_chain.proofs.Laws.Owners.{shown_with, kept_with, chain_left}
use Rattle.mbuf_chain.proofs.Laws.Steps.{place_after}
use Rattle.chain_ops.specs.Joins.{cat, filled_up}
use Rattle.chain_ops.proofs.Laws.Makes.{makes_new}
use Rattle.chain_ops.proofs.Laws.Steps.{place_in}
use Rattle.chain_ops.proofs.Trims.{length_now}
use Rattle.mbuf_chain.proofs.Laws.Two.{HasTwo, two_start, two_first, two_next, kept_next, two_freed, two_linked}
use Rattle.chain_ops.proofs.Joins.{cat_last, last_split, fill_end, one_entry, first_split, cat_moved}
use Rattle.chain_ops.proofs.cat.join.Goals as goal
use Rattle.chain_ops.proofs.cat.join.Goals.{After-append, In_default}

-- ---- after the first mbuf's bytes were appended
two : (c : After-append) → HasTwo (without (without c.args.pool.now c.args.second) c.args.chain.now) c.append.new.self
    c.args.chain.now c.mbufs.back
two c = two_first c.append.new.self _ c.mbufs.invariant.two c.append.ensures

kept : (c : After-append) → chain_of c.append.new.self c.mbufs.back ≡ chain_of c.mbufs.pool c.mbufs.back
kept c =
    kept_with c.mbufs.pool c.append.new.self c.args.chain.now _ c.mbufs.back c.append.ensures
    (λ e. c.mbufs.invariant.two.apart (sym e))

moved : (c : After-append) → take c.args.last.index (chain_of c.append.new.self c.args.chain.now).entries
    ++ filled_up (entry_of (chain_of c.append.new.self c.args.chain.now) c.args.last.index)
    (drop 1 (chain_of c.mbufs.pool c.mbufs.back).entries)
    ≡ cat (chain_of c.args.pool.now c.args.chain.now).entries (chain_of c.args.pool.now c.args.second).entries
moved c =
    cat_moved c.mbufs.pool c.append.new.self c.args.chain.now c.mbufs.back c.args.last c.first-from.result
    c.segment-len.result.len c.append.ensures c.mbufs.invariant.place c.first-from.ensures.place
    c.first-from.ensures.index (ap (λ (x : Segment). x.len) c.segment-len.ensures.value)
    (omega (arith, c.if-trailing_space-len.false, c.trailing_space.ensures.value)) ∙ c.mbufs.invariant.all

-- the second chain had no other mbuf: the first is as it was
same : (c : In_default) → chain_of c.drop_first.new.pool c.args.chain.now ≡ chain_of c.append.new.self c.args.chain.now
same c =
    ap (λ (s : PoolView). chain_of s c.args.chain.now) c.in_default.ensures.1
    ∙ chain_left c.append.new.self c.mbufs.back c.args.chain.now c.mbufs.invariant.two.apart

pub mbufs-init : goal.mbufs-init
mbufs-init c = record {
  two = two_start _ _ _ c.requires.front c.requires.back c.requires.apart;
  front = refl;
  all =
      sym (cat_last (chain_of c.args.pool.now c.args.chain.now).entries (chain_of c.args.pool.now c.args.second).entries
      c.args.last.index c.requires.last);
  place = c.requires.place;
  end = c.requires.last;
}

pub returns-then-trailing_space-len-clause-makes : goal.returns-then-trailing_space-len-clause-makes
returns-then-trailing_space-len-clause-makes c =
    let v : ChainView = chain_of c.mbufs.pool c.args.chain.now in
    let w : ChainView = chain_of c.mbufs.pool c.mbufs.back in
    let m = makes_new (two_linked c.link.new.self _ c.mbufs.invariant.two c.link.ensures.change) in
    let shown = shown_with _ c.link.new.self _ _ c.link.ensures.change in
    let split = first_split w c.first-from.result c.first-from.ensures.place c.first-from.ensures.index in
    let len = ap (λ (x : Segment). x.len) c.segment-len.ensures.value in
    record {
      adds = m.adds;
      front = ap (λ (x : ChainView). x.front) shown ∙ c.mbufs.invariant.front;
      entries = ap (λ (x : ChainView). x.entries) shown
          ∙ ap (λ (es : List Entry). v.entries ++ es) split
          ∙ fill_end v.entries c.args.last.index (entry_of w c.first-from.result.index) (drop 1 w.entries)
          c.mbufs.invariant.end (omega (arith, c.if-trailing_space-len.true, c.trailing_space.ensures.value, len))
          ∙ ap (λ (es : List Entry). take c.args.last.index v.entries ++ filled_up (entry_of v c.args.last.index) es)
          (sym split)
          ∙ c.mbufs.invariant.all;
    }

pub drop_first-requires : goal.drop_first-requires
drop_first-requires c = (two (goal.at.drop_first-requires c).After-append).live_second

pub returns-in_default-clause-makes : goal.returns-in_default-clause-makes
returns-in_default-clause-makes c =
    let at = (goal.at.returns-in_default-clause-makes c).After-append in
    let left = same (goal.at.returns-in_default-clause-makes c).In_default in
    let w : ChainView = chain_of c.mbufs.pool c.mbufs.back in
    let now : ChainView = chain_of c.append.new.self c.args.chain.now in
    let none : drop 1 w.entries ≡ [] =
    one_entry w.entries _ (drop 1 w.entries)
    (first_split w c.first-from.result c.first-from.ensures.place c.first-from.ensures.index)
    (sym (ap (λ (x : ChainView). length x.entries) (kept at)) ∙ c.in_default.ensures.0) in
    record {
      adds = (makes_new (two_freed c.drop_first.new.pool (two at) c.in_default.ensures.1)).adds;
      front =
          ap (λ (x : ChainView). x.front) (left ∙ shown_with c.mbufs.pool _ _ _ c.append.ensures)
          ∙ c.mbufs.invariant.front;
      entries = ap (λ (x : ChainView). x.entries) left
          ∙ sym (last_split now.entries c.args.last.index
          (c.mbufs.invariant.end ∙ sym (length_now _ _ _ _ _ c.append.ensures)))
          ∙ ap (λ (es : List Entry). take c.args.last.index now.entries
          ++ filled_up (entry_of now c.args.last.index) es) (sym none) ∙ moved at;
    }

pub mbufs-smaller : goal.mbufs-smaller
mbufs-smaller c =
    omega (
      arith,
      ap (λ (es : List Entry). length es) c.in-Some.ensures.entries,
      ap (λ (x : ChainView). length (drop 1 x.entries)) (kept (goal.at.mbufs-smaller c).After-append),
      length-drop 1 (chain_of c.mbufs.pool c.mbufs.back).entries,
      c.first-from.ensures.place.within,
    )

pub mbufs-preserved : goal.mbufs-preserved
mbufs-preserved c =
    let at = (goal.at.mbufs-preserved c).After-append in
    let i : ℕ = c.args.last.index in
    let left = kept_next c.drop_first.new.pool c.in-Some.rest (two at) c.in-Some.ensures.adds in
    let rest = c.in-Some.ensures.entries ∙ ap (λ (x : ChainView). drop 1 x.entries) (kept at) in
    record {
      two = two_next c.drop_first.new.pool c.in-Some.rest (two at) c.in-Some.ensures.adds;
      front =
          ap (λ (x : ChainView). x.front) (left ∙ shown_with c.mbufs.pool _ _ _ c.append.ensures)
          ∙ c.mbufs.invariant.front;
      all = (λ j. take i (left j).entries ++ filled_up (entry_of (left j) i) (rest j)) ∙ moved at;
      place =
          place_in c.append.new.self c.drop_first.new.pool _ _ left
          (place_after _ _ _ _ _ _ c.append.ensures c.mbufs.invariant.place);
      end =
          c.mbufs.invariant.end ∙ sym (ap (λ (x : ChainView). length x.entries) left
          ∙ length_now _ _ _ _ _ c.append.ensures);
    }

pub returns-in_default-clause-place : goal.returns-in_default-clause-place
returns-in_default-clause-place c =
    place_in c.append.new.self c.drop_first.new.pool _ _ (same (goal.at.returns-in_default-clause-place c).In_default)
    (place_after _ _ _ _ _ _ c.append.ensures c.mbufs.invariant.place)

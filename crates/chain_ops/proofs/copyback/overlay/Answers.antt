use Rattle.std.proofs.Common.{◌≡◌, ℕ, ◌+◌, ◌-◌, ◌<◌, ◌++◌, ◌==◌, Bool, true, false, List, [], ◌∷◌, length, take, drop, arith, ap, sym, refl, ◌∙◌}
use Rattle.std.proofs.lemmas.Bool.{eqb-true, false≢true}
use Rattle.std.proofs.lemmas.List.{take-append-drop, drop-set-lt, length-drop}
use Rattle.mbuf_chain.specs.declared.place.Segment.{Segment}
use Rattle.mbuf_chain.specs.Chain.{Entry, ChainView, PoolView, chain_of, entry_of, references}
use Rattle.mbuf_chain.specs.Steps.{with_entries_in}
use Rattle.mbuf_chain.proofs.Laws.Steps.{live_shown, place_after}
use Rattle.chain_ops.specs.Writes.{is_shared, is_writable, overlaid}
use Rattle.chain_ops.proofs.Lists.{at_entry}
use Rattle.chain_ops.proofs.Trims.{changed_none, changed_step, entries_now, length_now, walk_end}
use Rattle.chain_ops.proofs.Writes.{writable_parts, overlay_all, overlaid-none, counts_stay}
use Rattle.chain_ops.proofs.copyback.overlay.Goals as goal
use Rattle.chain_ops.proofs.copyback.overlay.Goals.{After-after-rest, After-segment-len}

no_bytes : (xs : List ℕ) → length xs ≡ 0 → xs ≡ []
no_bytes [] z = refl
no_bytes (x ∷ xs) z = absurd (omega arith)

pub next-requires-clause-live : goal.next-requires-clause-live
next-requires-clause-live c = live_shown _ _ _ _ c.overlay_mbuf.ensures

pub next-requires-clause-place : goal.next-requires-clause-place
next-requires-clause-place c = place_after _ _ _ _ _ _ c.overlay_mbuf.ensures c.mbufs.invariant.place

pub mbufs-smaller : goal.mbufs-smaller
mbufs-smaller c =
    omega (arith, c.in-Some.ensures.1, c.in-Some.ensures.0.within, length_now _ _ _ _ _ c.overlay_mbuf.ensures)

pub mbufs-init : goal.mbufs-init
mbufs-init c =
    let p : PoolView = c.args.pool.now in
    let es : List Entry = (chain_of p c.args.chain.now).entries in
    record {
      step = changed_none _ _ c.requires.live;
      all = ap (λ (i : ℕ). take i es ++ overlaid (drop i es) c.args.off c.args.bytes.now) c.first-at.ensures.index;
      place = c.first-at.ensures.place;
      counts = λ k. refl;
      writable =
          ap (λ (i : ℕ). is_writable (references p) (drop i es) c.args.off (length c.args.bytes.now))
          c.first-at.ensures.index ∙ c.requires.writable;
    }

some_bytes : (xs : List ℕ) (b : Bool) → b ≡ (length xs == 0) → b ≡ false → 0 < length xs
some_bytes [] b is test = absurd (false≢true (sym test ∙ is))
some_bytes (x ∷ xs) b is test = omega arith

-- ---- one turn
parts : (c : After-segment-len)
    → (c.mbufs.skip < length (entry_of (chain_of c.mbufs.pool c.args.chain.now) c.mbufs.at.index).bytes
    → is_shared (references c.args.pool.now)
    (entry_of (chain_of c.mbufs.pool c.args.chain.now) c.mbufs.at.index).cluster ≡ false)
    × (is_writable (references c.args.pool.now)
    (drop (c.mbufs.at.index + 1) (chain_of c.mbufs.pool c.args.chain.now).entries)
    (c.mbufs.skip - length (entry_of (chain_of c.mbufs.pool c.args.chain.now) c.mbufs.at.index).bytes)
    (length c.mbufs.rest.now
    - (length (entry_of (chain_of c.mbufs.pool c.args.chain.now) c.mbufs.at.index).bytes - c.mbufs.skip)) ≡ true)
parts c =
    let v : ChainView = chain_of c.mbufs.pool c.args.chain.now in
    let xs : List ℕ = c.mbufs.rest.now in
    writable_parts (references c.args.pool.now) (entry_of v c.mbufs.at.index) (drop (c.mbufs.at.index + 1) v.entries)
    c.mbufs.skip (length xs) (some_bytes xs _ c.is_empty.ensures c.mbufs-test.true)
    (ap (λ (es : List Entry). is_writable (references c.args.pool.now) es c.mbufs.skip (length xs))
    (sym (at_entry v c.mbufs.at c.mbufs.invariant.place)) ∙ c.mbufs.invariant.writable)

later : (c : After-after-rest)
    → c.after-rest.result.now ≡ drop (c.segment-len.result.len - c.mbufs.skip) c.mbufs.rest.now
later c = c.after-rest.ensures ∙ ap (λ (n : ℕ). drop n c.mbufs.rest.now) c.saturating_sub.ensures

len : (c : After-segment-len)
    → c.segment-len.result.len ≡ length (entry_of (chain_of c.mbufs.pool c.args.chain.now) c.mbufs.at.index).bytes
len c = ap (λ (x : Segment). x.len) c.segment-len.ensures.value

pub overlay_mbuf-requires-clause-unshared : goal.overlay_mbuf-requires-clause-unshared
overlay_mbuf-requires-clause-unshared c = λ l.
    (λ j. is_shared (λ k. c.mbufs.invariant.counts k j)
    (entry_of (chain_of c.mbufs.pool c.args.chain.now) c.mbufs.at.index).cluster)
    ∙ (parts (goal.at.overlay_mbuf-requires-clause-unshared c).After-segment-len).0 l

pub mbufs-preserved : goal.mbufs-preserved
mbufs-preserved c =
    let here = goal.at.mbufs-preserved c in
    let q : PoolView = c.mbufs.pool in
    let r : PoolView = c.overlay_mbuf.new.pool in
    let v : ChainView = chain_of q c.args.chain.now in
    let at = c.mbufs.at in
    let e : Entry = entry_of v at.index in
    let inv = c.mbufs.invariant in
    let left : List ℕ = c.after-rest.result.now in
    let skip : c.saturating_sub-skip.result ≡ c.mbufs.skip - length e.bytes =
    c.saturating_sub-skip.ensures ∙ ap (λ (n : ℕ). c.mbufs.skip - n) (len here.After-segment-len) in
    let size : length left ≡ length c.mbufs.rest.now - (length e.bytes - c.mbufs.skip) =
    omega (
      arith,
      ap (λ (ys : List ℕ). length ys) (later here.After-after-rest),
      length-drop (c.segment-len.result.len - c.mbufs.skip) c.mbufs.rest.now,
      len here.After-segment-len,
    ) in
    let after : drop c.in-Some.place.index (chain_of r c.args.chain.now).entries ≡ drop (at.index + 1) v.entries =
    (λ j. drop (c.in-Some.ensures.1 j) (entries_now q r c.args.chain.now at.index _ c.overlay_mbuf.ensures j))
    ∙ drop-set-lt (at.index + 1) v.entries at.index _ (omega arith) in
    record {
      step = changed_step _ _ _ _ _ _ inv.step c.overlay_mbuf.ensures;
      all =
          ap (λ (n : ℕ). take c.in-Some.place.index (chain_of r c.args.chain.now).entries
          ++ overlaid (drop c.in-Some.place.index (chain_of r c.args.chain.now).entries) n left)
          c.saturating_sub-skip.ensures
          ∙ overlay_all q r c.args.chain.now at c.mbufs.skip c.in-Some.place.index c.segment-len.result.len
          c.mbufs.rest.now left inv.place (len here.After-segment-len) (later here.After-after-rest)
          c.overlay_mbuf.ensures c.in-Some.ensures.1 ∙ inv.all;
      place = c.in-Some.ensures.0;
      counts =
          λ n. counts_stay q r c.args.chain.now at.index n _ (live_shown _ _ _ _ inv.step) inv.place.within refl
          c.overlay_mbuf.ensures ∙ inv.counts n;
      writable =
          (λ j. is_writable (references c.args.pool.now) (after j) (skip j) (size j))
          ∙ (parts here.After-segment-len).1;
    }

pub returns-in_default : goal.returns-in_default
returns-in_default c =
    let here = goal.at.returns-in_default c in
    let i : ℕ = c.mbufs.at.index in
    let end =
    walk_end (chain_of c.overlay_mbuf.new.pool c.args.chain.now).entries
    (λ es. overlaid es (c.mbufs.skip - c.segment-len.result.len) c.after-rest.result.now) i c.in_default.ensures refl in
    let all =
    overlay_all c.mbufs.pool c.overlay_mbuf.new.pool c.args.chain.now c.mbufs.at c.mbufs.skip (i + 1)
    c.segment-len.result.len c.mbufs.rest.now c.after-rest.result.now c.mbufs.invariant.place
    (len here.After-segment-len) (later here.After-after-rest) c.overlay_mbuf.ensures refl in
    changed_step _ _ _ _ _ _ c.mbufs.invariant.step c.overlay_mbuf.ensures
    ∙ ap (with_entries_in c.args.pool.now c.args.chain.now) (sym end ∙ all ∙ c.mbufs.invariant.all)

pub returns : goal.returns
returns c =
    let es : List Entry = (chain_of c.mbufs.pool c.args.chain.now).entries in
    let i : ℕ = c.mbufs.at.index in
    let xs : List ℕ = c.mbufs.rest.now in
    let none : xs ≡ [] = no_bytes xs (eqb-true (length xs) 0 (sym c.is_empty.ensures ∙ c.mbufs-test.false)) in
    c.mbufs.invariant.step
    ∙ ap (with_entries_in c.args.pool.now c.args.chain.now)
    (sym (take-append-drop i es) ∙ ap (λ (fs : List Entry). take i es ++ fs)
    (sym (overlaid-none (drop i es) c.mbufs.skip))
    ∙ ap (λ (ys : List ℕ). take i es ++ overlaid (drop i es) c.mbufs.skip ys) (sym none) ∙ c.mbufs.invariant.all)

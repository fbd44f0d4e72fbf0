-- Entries of one chain changed one after another.
use Rattle.std.proofs.Common.{◌≡◌, ℕ, ◌+◌, ◌-◌, ◌≤◌, min, List, [], ◌∷◌, ◌++◌, length, take, drop, refl, sym, ap, ◌∙◌, arith, append-nil}
use Rattle.std.specs.Prelude.{slice_set}
use Rattle.std.proofs.lemmas.List.{take_all, take-append-drop, length-set}
use Rattle.mbuf_chain.specs.declared.place.Place.{Place}
use Rattle.mbuf_chain.specs.Chain.{Entry, ChainView, PoolView, chain_of, entry_of, IsLive, IsPlace, with_chain}
use Rattle.mbuf_chain.specs.Steps.{with_entry, with_entries_in, narrowed}
use Rattle.mbuf_chain.proofs.Laws.Maps.{insert-insert, insert_same}
use Rattle.mbuf_chain.proofs.Laws.Owners.{shown_with}
use Rattle.chain_ops.specs.Trims.{without_first, only_first}
use Rattle.chain_ops.proofs.Lists.{at_entry, walk_set, none_after}

pub changed_none : (p : PoolView) (c : ℕ) → IsLive p c → p ≡ with_entries_in p c (chain_of p c).entries
changed_none p c live =
    let same : with_chain p c (chain_of p c) ≡ p =
    λ i. record { mbufs = p.mbufs; clusters = p.clusters; chains = insert_same p.chains c (chain_of p c) live i } in
    sym same

-- one more entry was changed
pub changed_entry : (p q r : PoolView) (c i : ℕ) (e : Entry) → q ≡ with_entries_in p c (chain_of q c).entries
    → r ≡ with_chain q c (with_entry (chain_of q c) i e)
    → r ≡ with_entries_in p c (slice_set (chain_of q c).entries i e)
changed_entry p q r c i e was is =
    let v : ChainView = record (chain_of p c) { entries = (chain_of q c).entries } in
    let shown : chain_of q c ≡ v = shown_with p q c v was in
    is ∙ ap (λ (w : ChainView). with_chain q c (record w { entries = slice_set (chain_of q c).entries i e })) shown
    ∙ ap (λ (s : PoolView). with_chain s c (record v { entries = slice_set (chain_of q c).entries i e })) was
    ∙ (λ j. record {
      mbufs = p.mbufs;
      clusters = p.clusters;
      chains = insert-insert p.chains c v (record v { entries = slice_set (chain_of q c).entries i e }) j;
    })

pub entries_now : (q r : PoolView) (c i : ℕ) (e : Entry) → r ≡ with_chain q c (with_entry (chain_of q c) i e)
    → (chain_of r c).entries ≡ slice_set (chain_of q c).entries i e
entries_now q r c i e is = ap (λ (w : ChainView). w.entries) (shown_with q r c (with_entry (chain_of q c) i e) is)

-- a walk that has reached its last entry
pub walk_end : (es : List Entry) (F : List Entry → List Entry) (i : ℕ) → i + 1 ≡ length es → F [] ≡ []
    → take (i + 1) es ++ F (drop (i + 1) es) ≡ es
walk_end es F i e none =
    (λ j. take_all (i + 1) es (omega arith) j ++ F (none_after es i e j)) ∙ ap (λ (xs : List Entry). es ++ xs) none
    ∙ append-nil es

-- ---- bytes removed from the front
pub trim_step : (v : ChainView) (at : Place) (left skip len : ℕ) → IsPlace v at
    → len ≡ length (entry_of v at.index).bytes → skip ≡ min left len
    → take (at.index + 1) (slice_set v.entries at.index (narrowed (entry_of v at.index) skip (len - skip)))
    ++ without_first (left - skip)
    (drop (at.index + 1) (slice_set v.entries at.index (narrowed (entry_of v at.index) skip (len - skip))))
    ≡ take at.index v.entries ++ without_first left (drop at.index v.entries)
trim_step v at left skip len place is cut =
    let e : Entry = entry_of v at.index in
    let rest : List Entry = drop (at.index + 1) v.entries in
    let cut' : skip ≡ min left (length e.bytes) = cut ∙ ap (min left) is in
    let less : left - skip ≡ left - length e.bytes = omega arith in
    walk_set (without_first (left - skip)) v.entries at.index (narrowed e skip (len - skip)) place.within
    ∙ (λ j. take at.index v.entries ++ (narrowed e (cut' j) (is j - cut' j) ∷ without_first (less j) rest))
    ∙ ap (λ (es : List Entry). take at.index v.entries ++ without_first left es) (sym (at_entry v at place))

pub trim_nothing : (es : List Entry) → without_first 0 es ≡ es
trim_nothing [] = refl
trim_nothing (e ∷ es) =
    let n : ℕ = length e.bytes in
    let all : take (n - min 0 n) (drop (min 0 n) e.bytes) ≡ e.bytes =
    (λ j. take (zero_min n j) (drop (min_zero n j) e.bytes)) ∙ take_all n e.bytes (omega arith) in
    let here : narrowed e (min 0 n) (n - min 0 n) ≡ e =
    λ j. record { bytes = all j; start = zero_more e.start n j; cluster = e.cluster } in
    let after : without_first (0 - n) es ≡ es = ap (λ (k : ℕ). without_first k es) (nothing_less n) ∙ trim_nothing es in
    λ j. here j ∷ after j
  where
    min_zero : (n : ℕ) → min 0 n ≡ 0
    min_zero n = omega arith

    zero_min : (n : ℕ) → n - min 0 n ≡ n
    zero_min n = omega arith

    zero_more : (s n : ℕ) → s + min 0 n ≡ s
    zero_more s n = omega arith

    nothing_less : (n : ℕ) → 0 - n ≡ 0
    nothing_less n = omega arith

-- ---- bytes kept at the front
pub keep_step : (v : ChainView) (at : Place) (left kept len : ℕ) → IsPlace v at
    → len ≡ length (entry_of v at.index).bytes → kept ≡ min left len
    → take (at.index + 1) (slice_set v.entries at.index (narrowed (entry_of v at.index) 0 kept))
    ++ only_first (left - kept) (drop (at.index + 1)
    (slice_set v.entries at.index (narrowed (entry_of v at.index) 0 kept)))
    ≡ take at.index v.entries ++ only_first left (drop at.index v.entries)
keep_step v at left kept len place is cut =
    let e : Entry = entry_of v at.index in
    let rest : List Entry = drop (at.index + 1) v.entries in
    let cut' : kept ≡ min left (length e.bytes) = cut ∙ ap (min left) is in
    let less : left - kept ≡ left - length e.bytes = omega arith in
    walk_set (only_first (left - kept)) v.entries at.index (narrowed e 0 kept) place.within
    ∙ (λ j. take at.index v.entries ++ (narrowed e 0 (cut' j) ∷ only_first (less j) rest))
    ∙ ap (λ (es : List Entry). take at.index v.entries ++ only_first left es) (sym (at_entry v at place))

pub length_now : (q r : PoolView) (c i : ℕ) (e : Entry) → r ≡ with_chain q c (with_entry (chain_of q c) i e)
    → length (chain_of r c).entries ≡ length (chain_of q c).entries
length_now q r c i e is =
    ap (λ (es : List Entry). length es) (entries_now q r c i e is) ∙ length-set (chain_of q c).entries i e

pub trim_all : (q r : PoolView) (c : ℕ) (at : Place) (left skip len next : ℕ) → IsPlace (chain_of q c) at
    → len ≡ length (entry_of (chain_of q c) at.index).bytes → skip ≡ min left len
    → r ≡ with_chain q c (with_entry (chain_of q c) at.index
    (narrowed (entry_of (chain_of q c) at.index) skip (len - skip))) → next ≡ at.index + 1
    → take next (chain_of r c).entries ++ without_first (left - skip) (drop next (chain_of r c).entries)
    ≡ take at.index (chain_of q c).entries ++ without_first left (drop at.index (chain_of q c).entries)
trim_all q r c at left skip len next place is cut step nx =
    let e : Entry = narrowed (entry_of (chain_of q c) at.index) skip (len - skip) in
    let now : (chain_of r c).entries ≡ slice_set (chain_of q c).entries at.index e =
    entries_now q r c at.index e step in
    (λ j. take (nx j) (now j) ++ without_first (left - skip) (drop (nx j) (now j)))
    ∙ trim_step (chain_of q c) at left skip len place is cut

pub keep_all : (q r : PoolView) (c : ℕ) (at : Place) (left kept len next : ℕ) → IsPlace (chain_of q c) at
    → len ≡ length (entry_of (chain_of q c) at.index).bytes → kept ≡ min left len
    → r ≡ with_chain q c (with_entry (chain_of q c) at.index (narrowed (entry_of (chain_of q c) at.index) 0 kept))
    → next ≡ at.index + 1
    → take next (chain_of r c).entries ++ only_first (left - kept) (drop next (chain_of r c).entries)
    ≡ take at.index (chain_of q c).entries ++ only_first left (drop at.index (chain_of q c).entries)
keep_all q r c at left kept len next place is cut step nx =
    let e : Entry = narrowed (entry_of (chain_of q c) at.index) 0 kept in
    let now : (chain_of r c).entries ≡ slice_set (chain_of q c).entries at.index e =
    entries_now q r c at.index e step in
    (λ j. take (nx j) (now j) ++ only_first (left - kept) (drop (nx j) (now j)))
    ∙ keep_step (chain_of q c) at left kept len place is cut

pub changed_step : (p q r : PoolView) (c i : ℕ) (e : Entry) → q ≡ with_entries_in p c (chain_of q c).entries
    → r ≡ with_chain q c (with_entry (chain_of q c) i e) → r ≡ with_entries_in p c (chain_of r c).entries
changed_step p q r c i e was is =
    changed_entry p q r c i e was is ∙ ap (with_entries_in p c) (sym (entries_now q r c i e is))

-- all bytes to remove are in the first mbuf
pub trim_first : (p q : PoolView) (c : ℕ) (at : Place) (n len : ℕ) → IsLive p c → IsPlace (chain_of p c) at
    → at.index ≡ 0 → len ≡ length (entry_of (chain_of p c) at.index).bytes → n ≤ len
    → q ≡ with_chain p c (with_entry (chain_of p c) at.index (narrowed (entry_of (chain_of p c) at.index) n (len - n)))
    → q ≡ with_entries_in p c (without_first n (chain_of p c).entries)
trim_first p q c at n len live place first is within step =
    let es : List Entry = (chain_of q c).entries in
    let i : ℕ = at.index + 1 in
    let none : n - n ≡ 0 = omega arith in
    let same : take i es ++ without_first (n - n) (drop i es) ≡ es =
    ap (λ (k : ℕ). take i es ++ without_first k (drop i es)) none
    ∙ ap (λ (xs : List Entry). take i es ++ xs) (trim_nothing (drop i es)) ∙ take-append-drop i es in
    let all = trim_all p q c at n n len i place is (omega arith) step refl in
    changed_step p p q c at.index (narrowed (entry_of (chain_of p c) at.index) n (len - n)) (changed_none p c live) step
    ∙ ap (with_entries_in p c) (sym same ∙ all
    ∙ ap (λ (k : ℕ). take k (chain_of p c).entries ++ without_first n (drop k (chain_of p c).entries)) first)

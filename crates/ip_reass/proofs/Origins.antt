-- A packet whose origin is known: its weight after its header is pulled up, and that its arrival is that of the flat
-- machine.
use Rattle.std.proofs.Common.{◌≡◌, ◌⊎◌, ℕ, suc, ◌+◌, ◌-◌, ◌<◌, ◌≤◌, ◌++◌, min, cond, Bool, true, false, not, List, [], ◌∷◌, length, drop, take, Option, None, Some, is_some, get_or, refl, sym, ap, ◌∙◌, subst, arith, inl, inr, length-drop, length-append}
use Rattle.std.proofs.lemmas.List.{append-nil, length-take, take-append-drop}
use Rattle.std.specs.Prelude.{filter_map, nat_le}
use Rattle.std.specs.List.{cons_option}
use Rattle.std.proofs.lemmas.Bool.{false≢true, cases_lt, le-leb, lt-leb, lt-ltb, le-ltb, eq-eqb, ne_eqb, and_left, cond-true, cond-false}
use Rattle.flat_model.specs.Machine.Fate.{told}
use Rattle.flat_model.specs.declared.fate.Fate.{Fate}
use Rattle.flat_model.specs.declared.counters.Why.TheVariants.{NoBufs}
use Rattle.flat_model.specs.Amounts.Weight.{Weight, ◌⊕◌}
use Rattle.flat_model.specs.Fragments.Overlay.{Fragment}
use Rattle.flat_model.specs.Machine.State.{State}
use Rattle.flat_model.specs.Machine.Ledger.{exact_ledger}
use Rattle.flat_model.specs.Machine.Arrival.{Origin, By_wire, Looped, is_bad_fragment, counts_fragment, JoinsAs, FragmentArrivesAs, PullsUpAs, TestsAs, Ended}
use Rattle.flat_model.specs.Machine.Arrival as flat
use Rattle.mbuf_chain.specs.Chain.{Entry, ChainView, PoolView, chain_of, entry_of, no_entry, flat_bytes, string}
use Rattle.mbuf_chain.specs.Steps.{narrowed, with_back, empty_entry}
use Rattle.chain_ops.specs.Pulls as ops
use Rattle.chain_ops.specs.Pulls.{moved, pulled_len}
use Rattle.chain_ops.specs.Rooms.{room_low}
use Rattle.ledger.specs.Accounts.{entries_weight}
use Rattle.ip_out.specs.declared.head.IpHead.{IpHead}
use Rattle.ip_reass.specs.Fragments.{fragment_of}
use Rattle.ip_reass.specs.AtOnce as at_once
use Rattle.ip_reass.specs.Arrivals.{flat_head, key_in, carried_at, CameBy, pulled_entries, carried_entries}
use Rattle.ip_reass.specs.Layouts.{fragment_carried, PullsUpHeader, ChainArrives}
use Rattle.ip_reass.proofs.ArriveLemmas.{carried_bytes}
use Rattle.ip_reass.proofs.Edits.{weight_trimmed}

-- ---- the weight of a packet after its header is pulled up
abbrev bag_of : List Entry → List ℕ
bag_of es = filter_map (λ (e : Entry). e.cluster) es

-- no more bytes are moved
moved_none : (x : Entry) (es : List Entry) (n : ℕ) → n ≡ 0 → moved n x es ≡ x ∷ es
moved_none x [] n z = refl
moved_none x (e ∷ es) n z = cond-true _ _ _ (eq-eqb n 0 z)

-- all bytes of the next entry are moved, and it is dropped
moved_whole : (x e : Entry) (es : List Entry) (n : ℕ) → 0 < n → length e.bytes ≡ n
    → moved n x (e ∷ es) ≡ with_back x e.bytes ∷ es
moved_whole x e es n some same =
    cond-false _ _ _ (ne_eqb n 0 (λ z. absurd (omega arith)))
    ∙ (cond-true _ _ _ (le-leb (length e.bytes) n (omega arith))
    ∙ moved_none (with_back x e.bytes) es (n - length e.bytes) (omega arith))

-- some bytes of the next entry are moved
pub moved_part : (x e : Entry) (es : List Entry) (n : ℕ) → 0 < n → n < length e.bytes
    → moved n x (e ∷ es) ≡ with_back x (take n e.bytes) ∷ narrowed e n (length e.bytes - n) ∷ es
moved_part x e es n some less =
    cond-false _ _ _ (ne_eqb n 0 (λ z. absurd (omega arith))) ∙ cond-false _ _ _ (lt-leb (length e.bytes) n less)

pulled_weighs : (e x : Entry) (es : List Entry) (k n total : ℕ) → e.cluster ≡ Some k → x.cluster ≡ None
    → length e.bytes ≤ total → n ≡ min 40 total → 0 < n → (total ≤ length e.bytes) ⊎ (40 < length e.bytes)
    → entries_weight (moved n x (e ∷ es)) ≡ flat.pulled_up total (entries_weight (e ∷ es))
pulled_weighs e x es k n total is none long n_is some holds = elim (cases_lt 40 total) [
  | inl more ↦
      let less : n < length e.bytes = elim holds [ inl a ↦ omega arith | inr a ↦ omega arith ] in
      let mbufs : length (with_back x (take n e.bytes) ∷ narrowed e n (length e.bytes - n) ∷ es) ≡ length (e ∷ es) + 1 =
      omega arith in
      let bag : bag_of (with_back x (take n e.bytes) ∷ narrowed e n (length e.bytes - n) ∷ es) ≡ bag_of (e ∷ es) =
      ap (λ (o : Option ℕ). cons_option o (cons_option e.cluster (bag_of es))) none in
      ap entries_weight (moved_part x e es n some less)
      ∙ ((λ i. record { mbufs = mbufs i; bag = bag i }) ∙ sym (cond-true _ _ _ (lt-ltb 40 total more)))
  | inr fewer ↦
      let same : length e.bytes ≡ n = elim holds [ inl a ↦ omega arith | inr a ↦ absurd (omega arith) ] in
      let bag : bag_of (with_back x e.bytes ∷ es) ≡ drop 1 (bag_of (e ∷ es)) =
      ap (λ (o : Option ℕ). cons_option o (bag_of es)) none
      ∙ ap (λ (o : Option ℕ). drop 1 (cons_option o (bag_of es))) (sym is) in
      ap entries_weight (moved_whole x e es n some same)
      ∙ ((λ i. record { mbufs = suc (length es); bag = bag i }) ∙ sym (cond-false _ _ _ (le-ltb 40 total fewer)))
]

-- **the weight of a packet whose first mbuf is a cluster, after its header is pulled up, is the flat machine's**
pub pulled_is : (v : ChainView) → is_some (entry_of v 0).cluster ≡ true → 20 ≤ length (string v)
    → (length (string v) ≤ length (entry_of v 0).bytes) ⊎ (40 < length (entry_of v 0).bytes)
    → entries_weight (ops.entries_pulled v 20) ≡ flat.pulled_up (length (string v)) (entries_weight v.entries)
pulled_is v is some holds = ap entries_weight plain ∙ go v.entries is some holds
  where
    plain : ops.entries_pulled v 20
        ≡ moved (pulled_len 20 v.entries) (empty_entry (room_low v.front.header) None) v.entries
    plain = cond-false _ _ _ (and_left _ _ (ap not is))

    cluster_of : (o : Option ℕ) → is_some o ≡ true → (k : ℕ) × (o ≡ Some k)
    cluster_of None e = absurd (false≢true e)
    cluster_of (Some k) e = (k, refl)

    go : (es : List Entry) → is_some (get_or es 0 no_entry).cluster ≡ true → 20 ≤ length (flat_bytes es)
        → (length (flat_bytes es) ≤ length (get_or es 0 no_entry).bytes) ⊎ (40 < length (get_or es 0 no_entry).bytes)
        → entries_weight (moved (pulled_len 20 es) (empty_entry (room_low v.front.header) None) es)
        ≡ flat.pulled_up (length (flat_bytes es)) (entries_weight es)
    go [] e l h = absurd (false≢true e)
    go (e ∷ es) is l h =
        let k = cluster_of e.cluster is in
        pulled_weighs e (empty_entry (room_low v.front.header) None) es k.0 (pulled_len 20 (e ∷ es))
        (length (flat_bytes (e ∷ es))) k.1 refl (omega (arith, length-append e.bytes (flat_bytes es))) (omega arith)
        (omega arith) h

-- ---- the fragment that joins
carried_is : (v : ChainView) (h : IpHead) (es : List Entry) (w : Weight) → es ≡ carried_entries v
    → entries_weight (pulled_entries v) ≡ w
    → fragment_of (record { offset = h.offset; more = h.more; entries = es })
    ≡ record { offset = h.offset; bytes = drop 20 (string v); more = h.more; weight = w }
carried_is v h es w e is =
    let bytes : flat_bytes es ≡ drop 20 (string v) = ap flat_bytes e ∙ carried_bytes v in
    let weight : entries_weight es ≡ w = ap entries_weight e ∙ (weight_trimmed 20 (pulled_entries v) ∙ is) in
    λ i. record { offset = h.offset; bytes = bytes i; more = h.more; weight = weight i }

-- a first cluster from the wire holds more than 40 bytes of the packet, or all of it
pub holds_of : (origin : Origin) (v : ChainView) → CameBy origin v → is_some (entry_of v 0).cluster ≡ true
    → (length (string v) ≤ length (entry_of v 0).bytes) ⊎ (40 < length (entry_of v 0).bytes)
holds_of Looped v came cluster = absurd (false≢true (sym (ap is_some came) ∙ cluster))
holds_of (By_wire received) v came cluster = came.holds

-- ---- the step

-- the fragment that a packet carries, of that weight
abbrev with_weight : IpHead → ChainView → Weight → Fragment
with_weight h v w = record { offset = h.offset; bytes = drop 20 (string v); more = h.more; weight = w }

-- **if a packet's chain shows its origin, its arrival is the flat machine's for that origin**
pub view_arrives : (fate : Fate) (held : Weight) (origin : Origin) (h : IpHead) (v : ChainView) (old new : State) →
    CameBy origin v
    → length (string v) ≡ h.total → 20 ≤ h.total
    → ChainArrives (told fate) held h v old new
    → FragmentArrivesAs exact_ledger (told fate) origin held (flat_head h)
    (record { bytes = drop 20 (string v); weight = entries_weight v.entries }) old new
view_arrives fate held origin h v old new came total least step = record {
  yes = λ bad. step.yes (ap (is_bad_fragment (flat_head h)) (sym size) ∙ bad);
  no = λ good. pulls origin came (step.no (ap (is_bad_fragment (flat_head h)) (sym size) ∙ good));
}
  where
    size : length (drop 20 (string v)) ≡ h.total - 20
    size = omega (arith, length-drop 20 (string v))

    plain : is_some (entry_of v 0).cluster ≡ false
        → JoinsAs exact_ledger (told fate) held (key_in h) (fragment_of (fragment_carried v h))
        (counts_fragment old) new
        → JoinsAs exact_ledger (told fate) held (key_in h) (with_weight h v (entries_weight v.entries))
        (counts_fragment old) new
    plain is joins =
        subst (λ (f : Fragment). JoinsAs exact_ledger (told fate) held (key_in h) f (counts_fragment old) new)
        (carried_is v h (carried_entries v) (entries_weight v.entries) refl (ap entries_weight (cond-false _ _ _ is)))
        joins

    whole_size : length (string v) ≡ 20 + length (drop 20 (string v))
    whole_size = omega (arith, size)

    in_cluster : (received : ℕ) → CameBy (By_wire received) v → is_some (entry_of v 0).cluster ≡ true
        → TestsAs exact_ledger (counts_fragment old) (held ⊕ entries_weight v.entries) 1 (told fate (Ended NoBufs) new)
        (λ mid. JoinsAs exact_ledger (told fate) held (key_in h) (fragment_of (fragment_carried v h)) mid new)
        → TestsAs exact_ledger (counts_fragment old) (held ⊕ entries_weight v.entries) 1 (told fate (Ended NoBufs) new)
        (λ mid. JoinsAs exact_ledger (told fate) held (key_in h)
        (with_weight h v (flat.pulled_up (20 + length (drop 20 (string v))) (entries_weight v.entries))) mid new)
    in_cluster received came cluster tests =
        let weight : entries_weight (pulled_entries v)
        ≡ flat.pulled_up (20 + length (drop 20 (string v))) (entries_weight v.entries) =
        ap entries_weight (cond-true _ _ _ cluster)
        ∙ (pulled_is v cluster (omega (arith, total, least)) (holds_of (By_wire received) v came cluster)
        ∙ ap (λ (m : ℕ). flat.pulled_up m (entries_weight v.entries)) whole_size) in
        subst (λ (f : Fragment). TestsAs exact_ledger (counts_fragment old) (held ⊕ entries_weight v.entries) 1
        (told fate (Ended NoBufs) new)
        (λ mid. JoinsAs exact_ledger (told fate) held (key_in h) f mid new))
        (carried_is v h (carried_entries v)
        (flat.pulled_up (20 + length (drop 20 (string v))) (entries_weight v.entries))
        refl weight) tests

    pulls : (o : Origin) → CameBy o v
        → PullsUpHeader (told fate) v held (counts_fragment old) new
        (λ mid. JoinsAs exact_ledger (told fate) held (key_in h) (fragment_of (fragment_carried v h)) mid new)
        → PullsUpAs exact_ledger (told fate) o held (entries_weight v.entries) (20 + length (drop 20 (string v)))
        (counts_fragment old) new
        (λ w mid. JoinsAs exact_ledger (told fate) held (key_in h) (with_weight h v w) mid new)
    pulls Looped o_came s = plain (ap is_some o_came) (s.no (ap is_some o_came))
    pulls (By_wire received) o_came s = record {
      yes = λ large. in_cluster received o_came (o_came.cluster ∙ large) (s.yes (o_came.cluster ∙ large));
      no = λ small. plain (o_came.cluster ∙ small) (s.no (o_came.cluster ∙ small));
    }

-- the same for a chain of a pool
pub fragment_arrives : (fate : Fate) (held : Weight) (origin : Origin) (h : IpHead) (p : PoolView) (n : ℕ)
    (old new : State)
    → CameBy origin (chain_of p n) → length (string (chain_of p n)) ≡ h.total → 20 ≤ h.total
    → ChainArrives (told fate) held h (chain_of p n) old new
    → FragmentArrivesAs exact_ledger (told fate) origin held (flat_head h) (carried_at p n) old new
fragment_arrives fate held origin h p n old new came total least step =
    view_arrives fate held origin h (chain_of p n) old new came total least step

-- **so is the arrival of a packet that is queued directly: that of a packet in this cluster, or in two mbufs**
abbrev pub stored_weight : Bool → ℕ → Weight
stored_weight is_large k = cond is_large (record { mbufs = 1; bag = k ∷ [] }) (record { mbufs = 2; bag = [] })

pub stored_arrives : (fate : Fate) (held : Weight) (h : IpHead) (packet : List ℕ) (k : ℕ) (old new : State) → 100 <
    length packet
    → h.total ≡ length packet
    → ChainArrives (told fate) held h (at_once.as_stored packet k) old new
    → FragmentArrivesAs exact_ledger (told fate) (By_wire (length packet)) held (flat_head h)
    (record { bytes = drop 20 packet; weight = stored_weight (nat_le 208 (length packet)) k }) old new
stored_arrives fate held h packet k old new many total step = go (nat_le 208 (length packet)) refl step
  where
    two : string (at_once.in_mbufs packet) ≡ packet
    two = ap (λ (xs : List ℕ). take 100 packet ++ xs) (append-nil (drop 100 packet)) ∙ take-append-drop 100 packet

    go : (b : Bool) → nat_le 208 (length packet) ≡ b → ChainArrives (told fate) held h
        (at_once.stored_by b packet k) old new
        → FragmentArrivesAs exact_ledger (told fate) (By_wire (length packet)) held (flat_head h)
        (record { bytes = drop 20 packet; weight = stored_weight b k }) old new
    go true large comes =
        subst (λ (xs : List ℕ). FragmentArrivesAs exact_ledger (told fate) (By_wire (length packet)) held (flat_head h)
        (record { bytes = drop 20 xs; weight = record { mbufs = 1; bag = k ∷ [] } }) old new) (append-nil packet)
        (view_arrives fate held (By_wire (length packet)) h (at_once.in_cluster packet k) old new
        (record { cluster = sym large; holds = inl (omega (arith, length-append packet [])) })
        (omega (arith, length-append packet [])) (omega arith) comes)
    go false small comes =
        subst (λ (xs : List ℕ). FragmentArrivesAs exact_ledger (told fate) (By_wire (length packet)) held (flat_head h)
        (record { bytes = drop 20 xs; weight = record { mbufs = 2; bag = [] } }) old new) two
        (view_arrives fate held (By_wire (length packet)) h (at_once.in_mbufs packet) old new
        (record { cluster = sym small; holds = inr (omega (arith, length-take 100 packet)) })
        (omega (arith, ap (λ (xs : List ℕ). length xs) two, total)) (omega arith) comes)

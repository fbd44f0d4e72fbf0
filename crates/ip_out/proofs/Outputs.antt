-- The packets of a datagram, one after another.
use Rattle.std.proofs.Common.{◌≡◌, ℕ, zero, suc, ◌+◌, ◌-◌, ◌*◌, ◌/◌, ◌%◌, ◌<◌, ◌≤◌, min, Bool, true, false, List, [], ◌∷◌, ◌++◌, length, take, drop, map, refl, sym, ap, ◌∙◌, subst, arith, None, Some, Option, unwrap_or, inl, inr}
use Rattle.std.specs.Prelude.{nat_le, nat_lt, sum_by, filter_map, slice_index_or}
use Rattle.std.specs.List.{range_with_len, insert, cons_option}
use Rattle.std.specs.FinMap as finmap
use Rattle.std.proofs.lemmas.Bool.{cond-true, cond-false, le-leb, lt-leb, le-ltb}
use Rattle.std.proofs.lemmas.List.{map-append}
use Rattle.std.proofs.lemmas.List.Edits.{insert_end}
use Rattle.std.proofs.lemmas.List.Sums.{sum_by-cons, sum_by-take-le}
use Rattle.std.proofs.lemmas.List.FromFn.{map-range_with_len_more, sum_by-map-range_with_len_more, take-map-range_with_len}
use Rattle.flat_model.specs.Amounts.Weight.{Weight, Item, mbuf, ◌⊕◌}
use Rattle.flat_model.specs.Fragments.Cuts.{Part, part, cuts, chunk}
use Rattle.flat_model.specs.Amounts.Layout as flat
use Rattle.flat_model.specs.Amounts.Layout.{weight_of, entries_met}
use Rattle.flat_model.specs.Machine.Sending.{items, later_weight}
use Rattle.mbuf_chain.specs.Chain.{Entry, ChainView, PoolView, IsLive, chain_of, no_chain, no_entry, flat_bytes, string, alone, held_mbufs, mbufs_of}
use Rattle.mbuf_chain.specs.Owners.{Moves}
use Rattle.mbuf_chain.specs.Train.{TrainView, QueuedPacket, queued_packet_of, queued_packets, numbers, IsHeld}
use Rattle.mbuf_chain.proofs.Laws.Owners.{moves_trans}
use Rattle.mbuf_chain.proofs.Laws.Accounts.{held_moves}
use Rattle.mbuf_chain.proofs.Laws.Trains.{beside_adds, moves_new, length-queued_packets}
use Rattle.ledger.specs.Accounts as ledger
use Rattle.ledger.specs.Accounts.{item_of}
use Rattle.chain_ops.specs.Makes.{Makes}
use Rattle.chain_ops.specs.Copies.{copied}
use Rattle.chain_ops.specs.Weights.{layout_entries, HaveBytes}
use Rattle.chain_ops.proofs.Laws.Strings.{copied_bytes}
use Rattle.ip_out.specs.declared.head.IpHead.{IpHead}
use Rattle.ip_out.specs.Headings.{head_bytes}
use Rattle.ip_out.specs.Packets.{part_head, part_need, AreBegunPlain}
use Rattle.ip_out.specs.Inside.{head_entry, later_item, parts_to, IsLater, IsCutInto}
use Rattle.ip_out.proofs.Counting.{div_cases, mul_more}

-- ---- the parts
chunk_unit : (c k : ℕ) → c ≡ k * 8 → c % 8 ≡ 0
chunk_unit c k e = omega (arith, e)

abbrev same_parts : List Part → List Part → Type 0
same_parts xs ys = xs ≡ ys

pub cut_none : (n mtu : ℕ) → n ≤ 65515 → 20 + n ≤ mtu → IsCutInto n mtu 65528 1
unfolding cuts
cut_none n mtu short h = record {
  some = omega arith;
  least = omega arith;
  most = omega arith;
  unit = refl;
  parts = cond-true {A = List Part} (nat_le (20 + n) mtu) _ _ (le-leb (20 + n) mtu h)
      ∙ (let off : 0 ≡ 0 * 65528 = omega arith in let size : n ≡ min 65528 (n - 0 * 65528) = omega arith in
      let more : false ≡ nat_lt ((0 + 1) * 65528) n = sym (le-ltb ((0 + 1) * 65528) n (omega arith)) in
      one_part off size more);
  inside = λ i some lt. absurd (omega arith);
}
  where
    one_part : {o s : ℕ} {m : Bool} → 0 ≡ o → n ≡ s → false ≡ m
        → same_parts (record { offset = 0; size = n; more = false } ∷ [])
        (record { offset = o; size = s; more = m } ∷ [])
    one_part eo es em = λ i. record { offset = eo i; size = es i; more = em i } ∷ []

pub cut_some : (n mtu c : ℕ) → 68 ≤ mtu → mtu ≤ 65535 → mtu < 20 + n → c ≡ chunk mtu
    → IsCutInto n mtu c ((n + (c - 1)) / c)
unfolding cuts
cut_some n mtu c least top h e =
    let big : 48 ≤ c = omega (arith, e) in
    let wide : c ≤ 65535 = omega (arith, e) in
    let k : ℕ = (n + (c - 1)) / c in
    let some : 0 < k = elim (div_cases (n + (c - 1)) c 1 (omega (arith, big))) [
      | inl lt ↦ absurd (omega (arith, lt.0, h, least))
      | inr ge ↦ omega (arith, ge.1)
    ] in
    let all : cuts n mtu ≡ map (part n c) (range_with_len 0 k) =
    cond-false {A = List Part} (nat_le (20 + n) mtu) _ _ (lt-leb (20 + n) mtu h)
    ∙ ap (λ (j : ℕ). map (part n j) (range_with_len 0 ((n + (j - 1)) / j))) (sym e) in
    record {
      some = some;
      least = omega (arith, big);
      most = wide;
      unit = chunk_unit c ((mtu - 20) / 8) e;
      parts = all ∙ first_of (part n c) k some;
      inside = λ i pos lt. elim (div_cases (n + (c - 1)) c (i + 1) (omega (arith, big))) [
        | inl l ↦ absurd (omega (arith, l.1, lt))
        | inr ge ↦ omega (arith, ge.0, mul_more i c, big)
      ];
    }
  where
    first_of : (f : ℕ → Part) (k : ℕ) → 0 < k → map f (range_with_len 0 k) ≡ f 0 ∷ map f (range_with_len 1 (k - 1))
    first_of f zero pos = absurd (omega arith)
    first_of f (suc k) pos = let e : k ≡ suc k - 1 = omega arith in ap (λ (j : ℕ). f 0 ∷ map f (range_with_len 1 j)) e

-- ---- one later packet
drop_both : (a b : ℕ) (xs : List ℕ) → drop (a + b) xs ≡ drop b (drop a xs)
drop_both zero b xs = let e : zero + b ≡ b = omega arith in ap (λ (k : ℕ). drop k xs) e
drop_both (suc a) b [] = drop_nil (suc a + b) ∙ sym (drop_nil b)
  where
    drop_nil : (k : ℕ) → drop {A = ℕ} k [] ≡ []
    drop_nil zero = refl
    drop_nil (suc k) = refl
drop_both (suc a) b (x ∷ xs) = let e : suc a + b ≡ suc (a + b) = omega arith in
    ap (λ (k : ℕ). drop k (x ∷ xs)) e ∙ drop_both a b xs

pub length-placed : (es : List Entry) → length (layout_entries es) ≡ length es
length-placed [] = refl
length-placed (e ∷ es) = ap suc (length-placed es)

bag-placed : (es : List Entry) → filter_map (λ (x : flat.LayoutEntry). x.cluster) (layout_entries es)
    ≡ filter_map (λ (e : Entry). e.cluster) es
bag-placed [] = refl
bag-placed (e ∷ es) = ap (cons_option e.cluster) (bag-placed es)

-- the weight of entries is the same by both definitions
pub weight-placed : (es : List Entry) → weight_of (layout_entries es) ≡ ledger.entries_weight es
weight-placed es = λ i. record { mbufs = length-placed es i; bag = bag-placed es i }

-- the weight of the copy of a range is that of the entries that share a byte with it (a law of chain_ops)
abbrev pub CopyWeighs : Type 0
CopyWeighs =
    (header : Bool) (es : List Entry) (off len : ℕ) → HaveBytes es → 0 < len
    → weight_of (layout_entries (copied header es off len)) ≡ weight_of
    (entries_met (layout_entries es) off (off + len))

pub later_is : CopyWeighs → (v : ChainView) (h : IpHead) (p : Part) → HaveBytes v.entries → 0 < p.size
    → item_of (head_entry (part_head h p) ∷ copied false v.entries (20 + p.offset) p.size) ≡ later_item v h p
later_is law v h p some pos =
    let es : List Entry = copied false v.entries (20 + p.offset) p.size in
    let bytes : flat_bytes es ≡ take p.size (drop p.offset (drop 20 (string v))) =
    copied_bytes false v.entries (20 + p.offset) p.size ∙ ap (take p.size) (drop_both 20 p.offset (string v)) in
    let w : ledger.entries_weight es
    ≡ weight_of (entries_met (layout_entries v.entries) (20 + p.offset) (20 + p.offset + p.size)) =
    sym (weight-placed es) ∙ law false v.entries (20 + p.offset) p.size some pos in
    let one : ledger.entries_weight (head_entry (part_head h p) ∷ es) ≡ mbuf ⊕ ledger.entries_weight es =
    (let m : suc (length es) ≡ 1 + length es = omega arith in
    λ i. record { mbufs = m i; bag = (ledger.entries_weight es).bag }) in
    λ i. record { bytes = head_bytes (part_head h p) ++ bytes i; weight = (one ∙ ap (λ (x : Weight). mbuf ⊕ x) w) i }

pub need_copied : CopyWeighs → (v : ChainView) (p : Part) → HaveBytes v.entries → 0 < p.size
    → 1 + length (copied false v.entries (20 + p.offset) p.size) ≡ part_need v p
need_copied law v p some pos =
    omega (
      arith,
      ap (λ (w : Weight). w.mbufs) (law false v.entries (20 + p.offset) p.size some pos),
      length-placed (copied false v.entries (20 + p.offset) p.size),
    )

-- ---- chains other than the new packets
pub kept_moves : {p q : PoolView} {ys : List ℕ} (c : ℕ) → Moves p [] q ys → IsLive p c
    → (chain_of q c ≡ chain_of p c) × IsLive q c
kept_moves {p} {q} c m live =
    let e : finmap.get q.chains c ≡ finmap.get p.chains c = m.others c live refl in
    let shown : chain_of q c ≡ chain_of p c = ap (λ (o : Option ChainView). unwrap_or o no_chain) e in
    (shown, e ∙ live ∙ ap {B = Option ChainView} Some (sym shown))

pub weigh_numbers : (q : PoolView) (xs : List ℕ)
    → sum_by (λ (k : ℕ). mbufs_of (chain_of q k)) xs
    ≡ sum_by (λ (it : Item). it.weight.mbufs)
    (map (λ (queued_packet : QueuedPacket). item_of queued_packet.entries) (map (queued_packet_of q) xs))
weigh_numbers q [] = refl
weigh_numbers q (x ∷ xs) =
    omega (
      arith,
      weigh_numbers q xs,
      sum_by-cons (λ (k : ℕ). mbufs_of (chain_of q k)) x xs,
      sum_by-cons (λ (it : Item). it.weight.mbufs) (item_of (chain_of q x).entries)
          (map (λ (queued_packet : QueuedPacket). item_of queued_packet.entries) (map (queued_packet_of q) xs)),
    )

pub weigh_parts : (v : ChainView) (h : IpHead) (ps : List Part)
    → sum_by (λ (it : Item). it.weight.mbufs) (map (later_item v h) ps) ≡ sum_by (part_need v) ps
weigh_parts v h [] = refl
weigh_parts v h (p ∷ ps) =
    omega (
      arith,
      weigh_parts v h ps,
      sum_by-cons (λ (it : Item). it.weight.mbufs) (later_item v h p) (map (later_item v h) ps),
      sum_by-cons (part_need v) p ps,
    )

pub held_later : {p q : PoolView} {t : TrainView} {v : ChainView} {h : IpHead} {ps : List Part} → IsLater p q t v h ps
    → held_mbufs q ≡ held_mbufs p + sum_by (part_need v) ps
held_later {p} {q} {t} {v} {h} {ps} l =
    omega (
      arith,
      held_moves l.moves (λ k. omega arith),
      weigh_numbers q (numbers q t),
      ap (sum_by (λ (it : Item). it.weight.mbufs)) l.items,
      weigh_parts v h ps,
    )

-- ---- a packet is added to the train
pub plain_more : (cs : List QueuedPacket) (c : QueuedPacket) → AreBegunPlain cs
    → (slice_index_or c.entries 0 no_entry).cluster ≡ None → AreBegunPlain (cs ++ c ∷ [])
plain_more [] c all one = (one, tt)
plain_more (x ∷ cs) c all one = (all.0, plain_more cs c all.1 one)

pub later_more : {p q r s : PoolView} {t u : TrainView} {v : ChainView} {h : IpHead} {ps qs : List Part} {d : ℕ}
    {es : List Entry} (x : Part) → IsLater p q t v h ps → Makes q r d (alone true) es
    → (slice_index_or es 0 no_entry).cluster ≡ None → item_of es ≡ later_item v h x → qs ≡ ps ++ x ∷ []
    → queued_packets s u ≡ insert (queued_packets r t) t.len
    (record { number = d; entries = (chain_of r d).entries; tag = 0 }) → IsHeld s u
    → Moves r (d ∷ numbers r t) s (numbers s u) → IsLater p s u v h qs
later_more {p} {q} {r} {s} {t} {u} {v} {h} {ps} {qs} {d} {es} x l m first is more in_queued_packets held moves =
    let beside = beside_adds t m.adds l.held in
    let f : QueuedPacket → Item = λ queued_packet. item_of queued_packet.entries in
    let c : QueuedPacket = record { number = d; entries = (chain_of r d).entries; tag = 0 } in
    let at : t.len ≡ length (queued_packets r t) = sym (length-queued_packets r t beside.held) in
    let queued_packets_are : queued_packets s u ≡ queued_packets q t ++ c ∷ [] =
    in_queued_packets ∙ ap (λ (k : ℕ). insert (queued_packets r t) k c) at ∙ insert_end (queued_packets r t) c
    ∙ ap (λ (xs : List QueuedPacket). xs ++ c ∷ []) beside.queued_packets in
    let item : f c ≡ later_item v h x = ap item_of m.entries ∙ is in
    record {
      held = held;
      moves = moves_trans l.moves (moves_trans (moves_new t m.adds l.held) moves);
      items =
          ap (map f) queued_packets_are ∙ map-append f (queued_packets q t) (c ∷ []) ∙ (λ i. l.items i ++ item i ∷ [])
          ∙ sym (map-append (later_item v h) ps (x ∷ [])) ∙ ap (map (later_item v h)) (sym more);
      plain =
          subst AreBegunPlain (sym queued_packets_are)
          (plain_more (queued_packets q t) c l.plain
          (ap (λ (fs : List Entry). (slice_index_or fs 0 no_entry).cluster) m.entries ∙ first));
    }

pub parts_more : (n c i : ℕ) → 0 < i → parts_to n c (i + 1) ≡ parts_to n c i ++ part n c i ∷ []
parts_more n c i some = let e : i + 1 - 1 ≡ i - 1 + 1 = omega arith in
    ap (λ (k : ℕ). map (part n c) (range_with_len 1 k)) e ∙ map-range_with_len_more (part n c) 1 (i - 1) i (omega arith)

-- part i and the later parts before it need at most what all later parts need
pub need_among : (v : ChainView) (n c i k : ℕ) → 0 < i → i < k
    → sum_by (part_need v) (parts_to n c i) + part_need v (part n c i) ≤ sum_by (part_need v) (parts_to n c k)
need_among v n c i k some lt =
    let more = sum_by-map-range_with_len_more (part_need v) (part n c) 1 (i - 1) i (omega arith) in
    let prefix = take-map-range_with_len (part n c) 1 (k - 1) (i - 1 + 1) (omega arith) in
    omega (arith, more, ap (sum_by (part_need v)) prefix, sum_by-take-le (part_need v) (parts_to n c k) (i - 1 + 1))

pub part_some : (n c i : ℕ) → 0 < c → i * c < n → 0 < (part n c i).size
part_some n c i some h = omega arith

-- the offsets of parts
pub offset_unit : (i c : ℕ) → c % 8 ≡ 0 → i * c % 8 ≡ 0
offset_unit zero c h = omega arith
offset_unit (suc i) c h =
    let more : suc i * c ≡ i * c + c = omega arith in
    omega (arith, offset_unit i c h, more)

-- ---- the number of packets
pub items_length : (es : List flat.LayoutEntry) (f : Part → List ℕ) (ps : List Part)
    → length {A = Item} (items es f ps) ≡ length ps
items_length es f [] = refl
items_length es f (p ∷ ps) = ap suc (go ps)
  where
    go : (qs : List Part) → length {A = Item}
        (map (λ (q : Part). record { bytes = f q; weight = later_weight es q }) qs) ≡ length qs
    go [] = refl
    go (q ∷ qs) = ap suc (go qs)

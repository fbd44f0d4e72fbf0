-- The first packet: the chain itself, trimmed, with its header written over its first bytes.
use Rattle.std.proofs.Common.{◌≡◌, ℕ, zero, suc, ◌+◌, ◌-◌, ◌*◌, ◌<◌, ◌≤◌, min, false, List, [], ◌∷◌, ◌++◌, length, take, drop, map, refl, sym, ap, ◌∙◌, subst, arith, None}
use Rattle.std.specs.List.{insert, cons_option}
use Rattle.std.specs.Prelude.{slice_set, slice_index_or, sum_by}
use Rattle.std.proofs.lemmas.List.Sums.{sum_by-cons}
use Rattle.std.proofs.lemmas.Bool.{le-ltb}
use Rattle.std.proofs.lemmas.List.{length-take, length-append, append_assoc, map-append}
use Rattle.std.proofs.lemmas.List.Edits.{insert_end}
use Rattle.flat_model.specs.Amounts.Weight.{Item}
use Rattle.flat_model.specs.Fragments.Cuts.{Part, part, cuts}
use Rattle.flat_model.specs.Amounts.Layout.{weight_of}
use Rattle.flat_model.specs.Machine.Sending.{items}
use Rattle.mbuf_chain.specs.declared.place.Place.{Place}
use Rattle.mbuf_chain.specs.Chain.{Entry, ChainView, PoolView, IsLive, chain_of, entry_of, entry_in, no_entry, flat_bytes, string, with_chain, held_mbufs, mbufs_of}
use Rattle.mbuf_chain.specs.Steps.{narrowed, overwritten, with_entry, with_entry_in}
use Rattle.mbuf_chain.specs.Owners.{Moves, times_among, IsOwned}
use Rattle.mbuf_chain.specs.Train.{TrainView, QueuedPacket, queued_packets, numbers, IsHeld}
use Rattle.mbuf_chain.proofs.Laws.Owners.{owned_more, moves_trans, moves_beside, times_same, moves_within, live_at_most, live_one, shown_with}
use Rattle.mbuf_chain.proofs.Laws.Steps.{live_shown}
use Rattle.mbuf_chain.proofs.Laws.Accounts.{held_moves}
use Rattle.mbuf_chain.proofs.Laws.Trains.{Beside, beside_with, length-queued_packets}
use Rattle.chain_ops.specs.Weights.{layout_entries}
use Rattle.chain_ops.specs.Trims.{only_first}
use Rattle.chain_ops.proofs.Laws.Strings.{keep_enough, only_first_bytes}
use Rattle.ledger.specs.Accounts as ledger
use Rattle.ledger.specs.Accounts.{item_of}
use Rattle.ip_out.specs.declared.head.IpHead.{IpHead}
use Rattle.ip_out.specs.Headings.{head_bytes}
use Rattle.ip_out.specs.Packets.{train_packets, packets_of, chain_parts, part_need, later_need, part_head, part_bytes, AreBegunPlain, BeginPlain, IsDatagramChain}
use Rattle.ip_out.specs.Inside.{later_item, parts_to, IsLater, IsCutInto}
use Rattle.ip_out.proofs.Later.{length_head}
use Rattle.ip_out.proofs.Outputs.{cut_none, kept_moves, plain_more, weight-placed, weigh_numbers, weigh_parts, length-placed}

-- ---- bytes and weight
only_weight : (k : ℕ) (es : List Entry) → ledger.entries_weight (only_first k es) ≡ ledger.entries_weight es
only_weight k [] = refl
only_weight k (e ∷ es) =
    let w = only_weight (k - length e.bytes) es in
    λ i. record { mbufs = suc (w i).mbufs; bag = cons_option e.cluster (w i).bag }

nothing_left : (a k : ℕ) → drop (suc a) (take {A = ℕ} k []) ≡ []
nothing_left a zero = refl
nothing_left a (suc k) = refl

drop_take : (a s : ℕ) (xs : List ℕ) → drop a (take (a + s) xs) ≡ take s (drop a xs)
drop_take zero s xs = let e : zero + s ≡ s = omega arith in ap (λ (k : ℕ). take k xs) e
drop_take (suc a) zero [] = nothing_left a (suc a + zero)
drop_take (suc a) (suc s) [] = nothing_left a (suc a + suc s)
drop_take (suc a) s (x ∷ xs) = let e : suc a + s ≡ suc (a + s) = omega arith in
    ap (λ (k : ℕ). drop (suc a) (take k (x ∷ xs))) e ∙ drop_take a s xs

drop_front : (n : ℕ) (xs ys : List ℕ) → n ≤ length xs → drop n xs ++ ys ≡ drop n (xs ++ ys)
drop_front zero xs ys h = refl
drop_front (suc n) [] ys h = absurd (omega arith)
drop_front (suc n) (x ∷ xs) ys h = drop_front n xs ys (omega arith)

pub first_is : (es : List Entry) (k s : ℕ) (hdr : List ℕ) → 20 ≤ length (slice_index_or es 0 no_entry).bytes
    → k ≡ 20 + s → length hdr ≡ 20
    → item_of (slice_set (only_first k es) 0 (overwritten (slice_index_or (only_first k es) 0 no_entry) 0 hdr))
    ≡ record { bytes = hdr ++ take s (drop 20 (flat_bytes es)); weight = weight_of (layout_entries es) }
first_is [] k s hdr room e len = absurd (omega arith)
first_is (f ∷ es) k s hdr room e len =
    let g : Entry = narrowed f 0 (min k (length f.bytes)) in
    let rest : List ℕ = flat_bytes (only_first (k - length f.bytes) es) in
    let long : 20 ≤ length g.bytes = omega (arith, length-take (min k (length f.bytes)) f.bytes, room, e) in
    let bytes : (hdr ++ drop (0 + length hdr) g.bytes) ++ rest ≡ hdr ++ take s (drop 20 (flat_bytes (f ∷ es))) =
    append_assoc hdr (drop (0 + length hdr) g.bytes) rest
    ∙ (let n : 0 + length hdr ≡ 20 = omega (arith, len) in ap (λ (m : ℕ). hdr ++ (drop m g.bytes ++ rest)) n)
    ∙ ap (λ (xs : List ℕ). hdr ++ xs)
    (drop_front 20 g.bytes rest long ∙ ap (drop 20) (only_first_bytes k (f ∷ es))
    ∙ ap (λ (m : ℕ). drop 20 (take m (flat_bytes (f ∷ es)))) e ∙ drop_take 20 s (flat_bytes (f ∷ es))) in
    λ i. record { bytes = bytes i; weight = (only_weight k (f ∷ es) ∙ sym (weight-placed (f ∷ es))) i }

-- ---- the pool
abbrev pub trimmed : ChainView → ℕ → ChainView
trimmed v k = record v { entries = only_first k v.entries }

pub apart_later : {p q : PoolView} {ys : List ℕ} (c : ℕ) → Moves p [] q ys → IsLive p c → times_among c ys ≡ 0
apart_later {p} {q} {ys} c m live = omega (arith, m.owned c, live_at_most q c, live_one p c live)

pub only_some : (es : List Entry) (k : ℕ) → 20 ≤ length (slice_index_or es 0 no_entry).bytes → 20 ≤ k
    → (20 ≤ length (slice_index_or (only_first k es) 0 no_entry).bytes)
    × ((slice_index_or (only_first k es) 0 no_entry).cluster ≡ (slice_index_or es 0 no_entry).cluster)
only_some [] k room h = absurd (omega arith)
only_some (f ∷ es) k room h = (omega (arith, length-take (min k (length f.bytes)) f.bytes, room, h), refl)

-- the first mbuf of the chain after it was trimmed
pub entry_trimmed : {p q r : PoolView} {ys : List ℕ} (c k : ℕ) (at : Place) → Moves p [] q ys → IsLive p c
    → r ≡ with_chain q c (trimmed (chain_of q c) k) → at.index ≡ 0
    → entry_in r c at ≡ entry_of (trimmed (chain_of p c) k) 0
entry_trimmed {p} {q} {r} c k at m live is first =
    (λ i. entry_of ((shown_with q r c (trimmed (chain_of q c) k) is) i) (first i))
    ∙ ap (λ (v : ChainView). entry_of (trimmed v k) 0) (kept_moves c m live).0

pub record Written (p q s : PoolView) (t : TrainView) (c k : ℕ) (hdr : List ℕ) : Type 0 where
  pub live : IsLive s c
  pub shown : chain_of s c ≡ with_entry (trimmed (chain_of p c) k) 0
      (overwritten (entry_of (trimmed (chain_of p c) k) 0) 0 hdr)
  pub beside : Beside q s t
  pub apart : times_among c (numbers s t) ≡ 0
  pub moves : Moves p (c ∷ []) s (c ∷ numbers s t)

pub written : {p q r s : PoolView} {t : TrainView} (c k : ℕ) (at : Place) (hdr : List ℕ) → Moves p [] q (numbers q t)
    → IsHeld q t → IsLive p c
    → r ≡ with_chain q c (trimmed (chain_of q c) k) → at.index ≡ 0
    → s ≡ with_entry_in r c at (overwritten (entry_in r c at) 0 hdr) → Written p q s t c k hdr
written {p} {q} {r} {s} {t} c k at hdr m held live is_r index is_s =
    let apart : times_among c (numbers q t) ≡ 0 = apart_later c m live in
    let one : Beside q r t = beside_with q r c (trimmed (chain_of q c) k) t is_r apart held in
    let apart_r : times_among c (numbers r t) ≡ 0 = ap (times_among c) one.numbers ∙ apart in
    let w : ChainView = with_entry (chain_of r c) at.index (overwritten (entry_in r c at) 0 hdr) in
    let two : Beside r s t = beside_with r s c w t is_s apart_r one.held in
    let shown_r : chain_of r c ≡ trimmed (chain_of p c) k =
    shown_with q r c (trimmed (chain_of q c) k) is_r ∙ ap (λ (v : ChainView). trimmed v k) (kept_moves c m live).0 in
    let live_q : IsLive q c = (kept_moves c m live).1 in
    let live_r : IsLive r c = live_shown q r c (trimmed (chain_of q c) k) is_r in
    let first : Moves p (c ∷ []) q (c ∷ numbers q t) =
    moves_beside (c ∷ []) (c ∷ numbers q t) (c ∷ []) m (λ j. omega arith) (λ j. omega arith) in
    let here : (xs : List ℕ) → 0 < times_among c (c ∷ xs) = λ xs. omega (arith, times_same c xs) in
    let then_r : Moves q (c ∷ numbers q t) r (c ∷ numbers q t) =
    moves_within q r c (trimmed (chain_of q c) k) (c ∷ numbers q t) live_q (here (numbers q t)) is_r in
    let then_s : Moves r (c ∷ numbers q t) s (c ∷ numbers q t) =
    moves_within r s c w (c ∷ numbers q t) live_r (here (numbers q t)) is_s in
    let same : numbers s t ≡ numbers q t = two.numbers ∙ one.numbers in
    record {
      live = live_shown r s c w is_s;
      shown =
          shown_with r s c w is_s ∙ (λ i. with_entry (shown_r i) (index i)
          (overwritten (entry_of (shown_r i) (index i)) 0 hdr));
      beside = record { held = two.held; numbers = same; queued_packets = two.queued_packets ∙ one.queued_packets };
      apart = ap (times_among c) same ∙ apart;
      moves =
          subst (λ (xs : List ℕ). Moves p (c ∷ []) s (c ∷ xs)) (sym same)
          (moves_trans first (moves_trans then_r then_s));
    }

-- ---- a chain that isn't cut
-- the chain's header is written, and a train is held too
pub record IsHeaded (p s : PoolView) (t : TrainView) (c k : ℕ) (hdr : List ℕ) : Type 0 where
  pub live : IsLive s c
  pub shown : chain_of s c ≡ with_entry (trimmed (chain_of p c) k) 0
      (overwritten (entry_of (trimmed (chain_of p c) k) 0) 0 hdr)
  pub beside : Beside p s t
  pub apart : times_among c (numbers s t) ≡ 0
  pub moves : Moves p (c ∷ numbers p t) s (c ∷ numbers s t)

pub headed_whole : {p s : PoolView} (t : TrainView) (c k : ℕ) (at : Place) (hdr : List ℕ) → IsHeld p t
    → times_among c (numbers p t) ≡ 0 → IsLive p c → k ≡ length (string (chain_of p c))
    → at.index ≡ 0 → s ≡ with_entry_in p c at (overwritten (entry_in p c at) 0 hdr) → IsHeaded p s t c k hdr
headed_whole {p} {s} t c k at hdr held apart live long index is =
    let v : ChainView = chain_of p c in
    let w : ChainView = with_entry v at.index (overwritten (entry_in p c at) 0 hdr) in
    let b : Beside p s t = beside_with p s c w t is apart held in
    let stays : v ≡ trimmed v k =
    ap (λ (es : List Entry). record v { entries = es }) (sym (keep_enough k v.entries (omega (arith, long)))) in
    let within : Moves p (c ∷ numbers p t) s (c ∷ numbers p t) =
    moves_within p s c w (c ∷ numbers p t) live (omega (arith, times_same c (numbers p t))) is in
    record {
      live = live_shown p s c w is;
      shown =
          shown_with p s c w is ∙ (λ i. with_entry (stays i) (index i)
          (overwritten (entry_of (stays i) (index i)) 0 hdr));
      beside = b;
      apart = ap (times_among c) b.numbers ∙ apart;
      moves = subst (λ (xs : List ℕ). Moves p (c ∷ numbers p t) s (c ∷ xs)) (sym b.numbers) within;
    }

pub head_whole : (h h0 : IpHead) (n : ℕ) → n ≤ 65515 → h0 ≡ record h { total = 20 + n; more = false; offset = 0 }
    → h0 ≡ part_head h (part n 65528 0)
head_whole h h0 n short is =
    let total : 20 + n ≡ 20 + (part n 65528 0).size = omega arith in
    let more : false ≡ (part n 65528 0).more = sym (le-ltb ((0 + 1) * 65528) n (omega arith)) in
    let offset : 0 ≡ (part n 65528 0).offset = omega arith in
    is ∙ (λ j. record h { total = total j; more = more j; offset = offset j })

-- ---- all packets
-- the first packet, and then those of the later parts
pub packets_from : (p s : PoolView) (c n size k count mtu : ℕ) (h h0 : IpHead) (hdr : List ℕ)
    → IsDatagramChain (chain_of p c) → n + 20 ≡ length (string (chain_of p c)) → IsCutInto n mtu size count
    → k ≡ 20 + min size n → h0 ≡ part_head h (part n size 0) → hdr ≡ head_bytes h0 → length hdr ≡ 20
    → chain_of s c ≡ with_entry (trimmed (chain_of p c) k) 0 (overwritten (entry_of (trimmed (chain_of p c) k) 0) 0 hdr)
    → item_of (chain_of s c).entries ∷ map (later_item (chain_of p c) h) (parts_to n size count)
    ≡ packets_of (chain_of p c) h mtu
packets_from p s c n size k count mtu h h0 hdr d len is_cut ek eh eb el shown =
    let v : ChainView = chain_of p c in
    let fits : min size n ≡ (part n size 0).size = omega arith in
    let first : item_of (chain_of s c).entries
    ≡ record { bytes = hdr ++ take (min size n) (drop 20 (string v)); weight = weight_of (layout_entries v.entries) } =
    ap (λ (y : ChainView). item_of y.entries) shown ∙ first_is v.entries k (min size n) hdr d.room ek el in
    let off : 0 ≡ (part n size 0).offset = omega arith in
    let bytes : hdr ++ take (min size n) (drop 20 (string v)) ≡ part_bytes h (drop 20 (string v)) (part n size 0) =
    (λ i. (eb ∙ ap head_bytes eh) i ++ take (fits i) (drop (off i) (drop 20 (string v)))) in
    let whole : items (layout_entries v.entries) (part_bytes h (drop 20 (string v)))
    (part n size 0 ∷ parts_to n size count)
    ≡ packets_of v h mtu =
    ap (items (layout_entries v.entries) (part_bytes h (drop 20 (string v)))) (sym is_cut.parts)
    ∙ (let e : n ≡ length (string v) - 20 = omega (arith, len) in
    ap (λ (m : ℕ). items (layout_entries v.entries) (part_bytes h (drop 20 (string v))) (cuts m mtu)) e) in
    (λ i. first i ∷ map (later_item v h) (parts_to n size count))
    ∙ ap (λ (xs : List ℕ). record { bytes = xs; weight = weight_of (layout_entries v.entries) }
    ∷ map (later_item v h) (parts_to n size count)) bytes ∙ whole

pub packets_are : {p q s : PoolView} {t : TrainView} (z : PoolView) (u : TrainView) (c n size k count mtu : ℕ)
    (h h0 : IpHead) (hdr : List ℕ) → IsDatagramChain (chain_of p c) → n + 20 ≡ length (string (chain_of p c))
    → IsCutInto n mtu size count
    → IsLater p q t (chain_of p c) h (parts_to n size count) → k ≡ 20 + min size n → h0 ≡ part_head h (part n size 0)
    → hdr ≡ head_bytes h0 → length hdr ≡ 20 → Written p q s t c k hdr
    → queued_packets z u ≡ insert (queued_packets s t) 0
    (record { number = c; entries = (chain_of s c).entries; tag = 0 })
    → train_packets z u ≡ packets_of (chain_of p c) h mtu
packets_are {p} {q} {s} {t} z u c n size k count mtu h h0 hdr d len is_cut l ek eh eb el w in_queued_packets =
    let f : QueuedPacket → Item = λ queued_packet. item_of queued_packet.entries in
    let x : QueuedPacket = record { number = c; entries = (chain_of s c).entries; tag = 0 } in
    let all : train_packets z u ≡ f x ∷ train_packets q t =
    ap (map f) in_queued_packets ∙ ap (λ (xs : List QueuedPacket). f x ∷ map f xs) w.beside.queued_packets in
    all ∙ (λ i. f x ∷ l.items i) ∙ packets_from p s c n size k count mtu h h0 hdr d len is_cut ek eh eb el w.shown

-- the first packet begins in a plain mbuf
cluster_written : (es : List Entry) (k : ℕ) (hdr : List ℕ) → (slice_index_or es 0 no_entry).cluster ≡ None
    → (slice_index_or (slice_set (only_first k es) 0 (overwritten (slice_index_or (only_first k es) 0 no_entry) 0 hdr))
    0 no_entry).cluster ≡ None
cluster_written [] k hdr plain = refl
cluster_written (e ∷ es) k hdr plain = plain

pub begun_plain : {p q s : PoolView} {t : TrainView} (z : PoolView) (u : TrainView) (c k : ℕ) (hdr : List ℕ)
    → IsDatagramChain (chain_of p c) → BeginPlain q t → Written p q s t c k hdr
    → queued_packets z u ≡ insert (queued_packets s t) 0
    (record { number = c; entries = (chain_of s c).entries; tag = 0 }) → BeginPlain z u
begun_plain {p} {q} {s} {t} z u c k hdr d later w in_queued_packets =
    let x : QueuedPacket = record { number = c; entries = (chain_of s c).entries; tag = 0 } in
    subst AreBegunPlain (sym (in_queued_packets ∙ ap (λ (xs : List QueuedPacket). x ∷ xs) w.beside.queued_packets)) (
      ap (λ (v : ChainView). (entry_of v 0).cluster) w.shown
          ∙ cluster_written (chain_of p c).entries k hdr d.plain,
      later,
    )

pub string_long : (es : List Entry) → 20 ≤ length (slice_index_or es 0 no_entry).bytes → 20 ≤ length (flat_bytes es)
string_long [] h = absurd (omega arith)
string_long (e ∷ es) h = omega (arith, length-append e.bytes (flat_bytes es), h)

-- a chain that isn't cut is added after the packets of a train
last_in : {p s : PoolView} {t : TrainView} (z : PoolView) (u : TrainView) {c k : ℕ} {hdr : List ℕ}
    → IsHeaded p s t c k hdr
    → queued_packets z u ≡ insert (queued_packets s t) t.len
    (record { number = c; entries = (chain_of s c).entries; tag = 0 })
    → queued_packets z u ≡ queued_packets p t ++ record { number = c; entries = (chain_of s c).entries; tag = 0 } ∷ []
last_in {p} {s} {t} z u {c} w in_queued_packets =
    let x : QueuedPacket = record { number = c; entries = (chain_of s c).entries; tag = 0 } in
    in_queued_packets ∙ ap (λ (k : ℕ). insert (queued_packets s t) k x) (sym (length-queued_packets s t w.beside.held))
    ∙ insert_end (queued_packets s t) x
    ∙ ap (λ (xs : List QueuedPacket). xs ++ x ∷ []) w.beside.queued_packets

pub whole_added : {p s : PoolView} {t : TrainView} (z : PoolView) (u : TrainView) (c k mtu : ℕ) (h : IpHead)
    (hdr : List ℕ) → IsDatagramChain (chain_of p c) → k ≡ length (string (chain_of p c)) → k ≤ mtu
    → hdr ≡ head_bytes (record h { total = k; more = false; offset = 0 }) → IsHeaded p s t c k hdr
    → queued_packets z u ≡ insert (queued_packets s t) t.len
    (record { number = c; entries = (chain_of s c).entries; tag = 0 })
    → train_packets z u ≡ train_packets p t ++ packets_of (chain_of p c) h mtu
whole_added {p} {s} {t} z u c k mtu h hdr d is fits eb w in_queued_packets =
    let f : QueuedPacket → Item = λ queued_packet. item_of queued_packet.entries in
    let x : QueuedPacket = record { number = c; entries = (chain_of s c).entries; tag = 0 } in
    let h0 : IpHead = record h { total = k; more = false; offset = 0 } in
    let n : ℕ = k - 20 in
    let long : 20 ≤ length (string (chain_of p c)) = string_long (chain_of p c).entries d.room in
    let short : n ≤ 65515 = omega (arith, is, d.most) in
    let total : k ≡ 20 + n = omega (arith, is, long) in
    let one : f x ∷ [] ≡ packets_of (chain_of p c) h mtu =
    packets_from p s c n 65528 k 1 mtu h h0 hdr d (omega (arith, is, long))
    (cut_none n mtu short (omega (arith, fits, total))) (omega (arith, total, short))
    (head_whole h h0 n short (λ j. record h { total = total j; more = false; offset = 0 })) eb
    (ap (λ (xs : List ℕ). length xs) eb ∙ length_head h0) w.shown in
    ap (map f) (last_in z u w in_queued_packets) ∙ map-append f (queued_packets p t) (x ∷ [])
    ∙ ap (λ (xs : List Item). train_packets p t ++ xs) one

pub plain_added : {p s : PoolView} {t : TrainView} (z : PoolView) (u : TrainView) (c k : ℕ) (hdr : List ℕ)
    → IsDatagramChain (chain_of p c) → IsHeaded p s t c k hdr
    → queued_packets z u ≡ insert (queued_packets s t) t.len
    (record { number = c; entries = (chain_of s c).entries; tag = 0 }) → BeginPlain p t → BeginPlain z u
plain_added {p} {s} {t} z u c k hdr d w in_queued_packets before =
    let x : QueuedPacket = record { number = c; entries = (chain_of s c).entries; tag = 0 } in
    subst AreBegunPlain (sym (last_in z u w in_queued_packets))
    (plain_more (queued_packets p t) x before
    (ap (λ (v : ChainView). (entry_of v 0).cluster) w.shown ∙ cluster_written (chain_of p c).entries k hdr d.plain))

-- the number of mbufs that the packets take besides those of the chain
pub held_packets : {p z : PoolView} (t : TrainView) (c n size k mtu : ℕ) (h : IpHead) → Moves p (c ∷ []) z (numbers z t)
    → IsLive p c → IsCutInto n mtu size k → n + 20 ≡ length (string (chain_of p c))
    → train_packets z t ≡ packets_of (chain_of p c) h mtu → held_mbufs z ≡ held_mbufs p + later_need (chain_of p c) mtu
held_packets {p} {z} t c n size k mtu h m live is_cut len is =
    let v : ChainView = chain_of p c in
    let e : length (string v) - 20 ≡ n = omega (arith, len) in
    let parts : chain_parts v mtu ≡ part n size 0 ∷ parts_to n size k = ap (λ (j : ℕ). cuts j mtu) e ∙ is_cut.parts in
    let all : train_packets z t ≡ record
    { bytes = part_bytes h (drop 20 (string v)) (part n size 0); weight = weight_of (layout_entries v.entries) }
    ∷ map (later_item v h) (parts_to n size k) =
    is ∙ ap (items (layout_entries v.entries) (part_bytes h (drop 20 (string v)))) parts in
    let one : IsOwned p (c ∷ []) = owned_more p c [] (λ j. omega arith) live refl in
    omega (
      arith,
      held_moves m one,
      sum_by-cons (λ (j : ℕ). mbufs_of (chain_of p j)) c [],
      weigh_numbers z (numbers z t),
      ap (sum_by (λ (it : Item). it.weight.mbufs)) all,
      sum_by-cons (λ (it : Item). it.weight.mbufs)
          (record {
            bytes = part_bytes h (drop 20 (string v)) (part n size 0);
            weight = weight_of (layout_entries v.entries);
          })
          (map (later_item v h) (parts_to n size k)),
      weigh_parts v h (parts_to n size k),
      length-placed v.entries,
      ap (λ (ps : List Part). sum_by (part_need v) (drop 1 ps)) parts,
    )

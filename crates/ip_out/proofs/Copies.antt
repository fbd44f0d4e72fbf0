-- A datagram that is sent both ways: a copy of its chain, and the packets of both chains.
use Rattle.std.proofs.Common.{◌≡◌, ◌≢◌, ℕ, suc, ◌+◌, ◌-◌, Bool, true, List, [], ◌∷◌, ◌++◌, length, take, drop, map, Option, Some, unwrap_or, refl, sym, ap, ◌∙◌, subst, arith, take_all}
use Rattle.std.specs.Prelude.{nat_lt, slice_index_or, sum_by}
use Rattle.std.specs.FinMap as finmap
use Rattle.flat_model.specs.Amounts.Weight.{Item}
use Rattle.flat_model.specs.Fragments.Cuts.{Part, cuts}
use Rattle.flat_model.specs.Amounts.Layout.{entries_met}
use Rattle.flat_model.specs.Machine.Sending.{items}
use Rattle.std.proofs.lemmas.List.{length-map}
use Rattle.mbuf_chain.specs.Chain.{Entry, ChainView, PoolView, IsLive, chain_of, no_chain, no_entry, flat_bytes, string, alone, held_mbufs, with_chain, without}
use Rattle.mbuf_chain.specs.Owners.{Moves, IsOwned, times_among}
use Rattle.mbuf_chain.specs.Train.{TrainView, QueuedPacket, queued_packets, numbers, IsHeld}
use Rattle.mbuf_chain.proofs.Laws.Maps.{insert_same}
use Rattle.mbuf_chain.proofs.Laws.Owners.{times-append, times_other, live_one, live_adds, moves_adds, moves_trans, moves_beside, moves_nothing, moves_reordered, owned_more}
use Rattle.mbuf_chain.proofs.Laws.Steps.{adds_in_place, live_beside}
use Rattle.mbuf_chain.proofs.Laws.Trains.{Beside, beside_moves, length-queued_packets}
use Rattle.chain_ops.specs.Makes.{Makes}
use Rattle.chain_ops.specs.Copies.{copied_all}
use Rattle.chain_ops.specs.Weights.{layout_entries, HaveBytes}
use Rattle.chain_ops.proofs.Laws.Makes.{makes_kept, makes_held, apart_made}
use Rattle.chain_ops.proofs.Laws.Strings.{copied_all_bytes}
use Rattle.chain_ops.proofs.Laws.Weights.{copied_all-placed}
use Rattle.ledger.specs.Accounts.{item_of}
use Rattle.ip_out.specs.declared.head.IpHead.{IpHead}
use Rattle.ip_out.specs.Packets.{IsDatagramChain, train_packets, packets_of, chain_parts, part_bytes, later_need}
use Rattle.ip_out.proofs.Outputs.{items_length}
use Rattle.ip_out.proofs.Sends.{aside_gone}

-- ---- the copy
whole : (xs : List ℕ) → take (length xs) (drop 0 xs) ≡ xs
whole xs = take_all (length xs) xs (omega arith)

have_bytes : (room : ℕ) (es : List Entry) → HaveBytes es → HaveBytes (copied_all room es)
have_bytes room [] h = h
have_bytes room (e ∷ es) h = (omega (arith, h.0, ap (λ (xs : List ℕ). length xs) (whole e.bytes)), have_bytes 20 es h.1)

pub length_copied : (room : ℕ) (es : List Entry) → length (copied_all room es) ≡ length es
length_copied room [] = refl
length_copied room (e ∷ es) = ap suc (length_copied 20 es)

first_copied : (room : ℕ) (es : List Entry)
    → ((slice_index_or (copied_all room es) 0 no_entry).cluster ≡ (slice_index_or es 0 no_entry).cluster)
    × (length (slice_index_or (copied_all room es) 0 no_entry).bytes ≡ length (slice_index_or es 0 no_entry).bytes)
first_copied room [] = (refl, refl)
first_copied room (e ∷ es) = (refl, ap (λ (xs : List ℕ). length xs) (whole e.bytes))

-- a chain d is a copy of chain c
pub record IsCopied (p q : PoolView) (c d : ℕ) (h : IpHead) (mtu : ℕ) : Type 0 where
  pub same : chain_of q c ≡ chain_of p c
  pub live : IsLive q c
  pub copy : IsLive q d
  pub apart : c ≢ d
  pub datagram : IsDatagramChain (chain_of q d)
  pub same_packets : packets_of (chain_of q d) h mtu ≡ packets_of (chain_of p c) h mtu
  pub same_need : later_need (chain_of q d) mtu ≡ later_need (chain_of p c) mtu
  pub held : held_mbufs q ≡ held_mbufs p + length (chain_of p c).entries
  pub moves : Moves p (c ∷ []) q (d ∷ c ∷ [])

pub copied : {p q : PoolView} (c d room : ℕ) (header : Bool) (h : IpHead) (mtu : ℕ)
    → Makes p q d (alone header) (copied_all room (chain_of p c).entries) → header ≡ true → IsLive p c
    → IsDatagramChain (chain_of p c) → IsCopied p q c d h mtu
copied {p} {q} c d room header h mtu m headed live dg =
    let es : List Entry = (chain_of p c).entries in
    let w : ChainView = chain_of q d in
    let placed_is : layout_entries w.entries ≡ layout_entries es = ap layout_entries m.entries ∙ copied_all-placed room
    es in
    let bytes : string w ≡ flat_bytes es = ap flat_bytes m.entries ∙ copied_all_bytes room es in
    let first = first_copied room es in
    record {
      same = makes_kept c m live;
      live = live_beside p q d (chain_of q d) m.adds c live;
      copy = live_adds m.adds;
      apart = apart_made c m live;
      datagram = record {
        headed = ap (λ f. f.header) m.front ∙ headed;
        plain = ap (λ (fs : List Entry). (slice_index_or fs 0 no_entry).cluster) m.entries ∙ first.0 ∙ dg.plain;
        room =
            omega (
              arith,
              ap (λ (fs : List Entry). length (slice_index_or fs 0 no_entry).bytes) m.entries,
              first.1,
              dg.room,
            );
        bytes = subst HaveBytes (sym m.entries) (have_bytes room es dg.bytes);
        most = omega (arith, ap (λ (xs : List ℕ). length xs) bytes, dg.most);
      };
      same_packets = λ i. items (placed_is i) (part_bytes h (drop 20 (bytes i))) (cuts (length (bytes i) - 20) mtu);
      same_need =
          λ i. sum_by (λ (x : Part). 1 + length (entries_met (placed_is i) (20 + x.offset) (20 + x.offset + x.size)))
          (drop 1 (cuts (length (bytes i) - 20) mtu));
      held = omega (arith, makes_held m, length_copied room es);
      moves = moves_beside (c ∷ []) (d ∷ c ∷ []) (c ∷ []) (moves_adds m.adds) (λ k. omega arith) (λ k. omega arith);
    }

-- ---- one chain while the packets of the other are made
pub kept_other : {p q : PoolView} {xs ys : List ℕ} (k : ℕ) → Moves p xs q ys → IsLive p k → times_among k xs ≡ 0
    → (chain_of q k ≡ chain_of p k) × IsLive q k
kept_other {p} {q} k m live none =
    let e : finmap.get q.chains k ≡ finmap.get p.chains k = m.others k live none in
    let shown : chain_of q k ≡ chain_of p k = ap (λ (o : Option ChainView). unwrap_or o no_chain) e in
    (shown, e ∙ live ∙ ap {B = Option ChainView} Some (sym shown))

pub not_among : (c d : ℕ) → c ≢ d → times_among d (c ∷ []) ≡ 0
not_among c d ne = times_other d c [] (λ e. ne (sym e))

-- chain c became a train, and chain d is unchanged
pub record IsFirst (q r : PoolView) (c d : ℕ) (t : TrainView) : Type 0 where
  pub same : chain_of r d ≡ chain_of q d
  pub live : IsLive r d
  pub apart : times_among d (numbers r t) ≡ 0
  pub owned : IsOwned r (numbers r t ++ d ∷ [])
  pub moves : Moves q (d ∷ c ∷ []) r (numbers r t ++ d ∷ [])

pub first_sent : {q r : PoolView} (c d : ℕ) (t : TrainView) → Moves q (c ∷ []) r (numbers r t) → IsLive q d → c ≢ d
    → IsHeld r t → IsFirst q r c d t
first_sent {q} {r} c d t m live ne held =
    let none = not_among c d ne in
    let kept = kept_other d m live none in
    let apart : times_among d (numbers r t) ≡ 0 =
    omega (arith, m.owned d, none, live_one q d live, live_one r d kept.1) in
    let more = owned_more r d (numbers r t) held.owned kept.1 apart in
    record {
      same = kept.0;
      live = kept.1;
      apart = apart;
      owned = λ k. omega (arith, more k, times-append k (numbers r t) (d ∷ []));
      moves =
          moves_beside (d ∷ c ∷ []) (numbers r t ++ d ∷ []) (d ∷ []) m (λ k. omega arith)
          (λ k. omega (arith, times-append k (numbers r t) (d ∷ [])));
    }

-- chain d became a train too
pub record IsSecond (p s : PoolView) (r : PoolView) (c : ℕ) (t u : TrainView) : Type 0 where
  pub held : IsHeld s t
  pub same_queued : queued_packets s t ≡ queued_packets r t
  pub same_packets : train_packets s t ≡ train_packets r t
  pub moves : Moves p (c ∷ []) s (numbers s t ++ numbers s u)

pub second_sent : {p q r s : PoolView} (c d : ℕ) (t u : TrainView) → Moves p (c ∷ []) q (d ∷ c ∷ []) → IsFirst q r c d t
    → Moves r (d ∷ []) s (numbers s u) → IsHeld r t → IsSecond p s r c t u
second_sent {p} {q} {r} {s} c d t u one f m held =
    let b : Beside r s t = beside_moves t m f.owned held in
    let last : Moves r (numbers r t ++ d ∷ []) s (numbers s t ++ numbers s u) =
    moves_beside (numbers r t ++ d ∷ []) (numbers s t ++ numbers s u) (numbers r t) m
    (λ k. times-append k (numbers r t) (d ∷ []))
    (λ k. omega (arith, times-append k (numbers s t) (numbers s u), ap (times_among k) b.numbers)) in
    record {
      held = b.held;
      same_queued = b.queued_packets;
      same_packets = ap (map (λ (queued_packet : QueuedPacket). item_of queued_packet.entries)) b.queued_packets;
      moves = moves_trans one (moves_trans f.moves last);
    }

-- ---- refusals
-- the copy is freed, and then the train
pub then_freed : {r s z : PoolView} (d : ℕ) (t : TrainView) → s ≡ without r d → IsLive r d → IsHeld r t
    → times_among d (numbers r t) ≡ 0 → Moves s (numbers s t) z [] → Moves r (numbers r t ++ d ∷ []) z []
then_freed {r} {s} {z} d t is live held apart freed =
    let gone = aside_gone d t is live held apart in
    moves_trans (moves_reordered (numbers r t ++ d ∷ []) (numbers s t) gone.1
    (λ k. omega (arith, times-append k (numbers r t) (d ∷ []))) (λ k. refl)) freed

-- if chain c becomes no chains, it was removed, and the others are unchanged
pub gone_whole : {p s : PoolView} (c : ℕ) → Moves p (c ∷ []) s [] → IsLive p c → s ≡ without p c
gone_whole {p} {s} c m live =
    let whole : p ≡ with_chain p c (chain_of p c) =
    λ i. record {
      mbufs = p.mbufs;
      clusters = p.clusters;
      chains = sym (insert_same p.chains c (chain_of p c) live) i;
    } in
    moves_nothing (moves_trans (moves_adds (adds_in_place p p c (chain_of p c) whole)) m)

-- ---- the number of packets
pub is_cut : (p : PoolView) (t : TrainView) (v : ChainView) (h : IpHead) (mtu : ℕ) → IsHeld p t
    → train_packets p t ≡ packets_of v h mtu → nat_lt 1 t.len ≡ nat_lt 1 (length (chain_parts v mtu))
is_cut p t v h mtu held is =
    let n : t.len ≡ length (chain_parts v mtu) =
    sym (length-queued_packets p t held)
    ∙ sym (length-map (queued_packets p t) (λ (queued_packet : QueuedPacket). item_of queued_packet.entries))
    ∙ ap (λ (xs : List Item). length xs) is
    ∙ items_length (layout_entries v.entries) (part_bytes h (drop 20 (string v))) (chain_parts v mtu) in
    ap (nat_lt 1) n

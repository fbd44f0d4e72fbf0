-- The packets of a datagram and the output queue.
use Rattle.std.proofs.Common.{◌≡◌, ℕ, ◌+◌, ◌-◌, ◌<◌, ◌≤◌, Bool, true, false, List, [], ◌∷◌, ◌++◌, length, take, drop, map, sym, ap, ◌∙◌, subst, arith, append-nil, inr}
use Rattle.std.specs.Prelude.{nat_lt}
use Rattle.std.proofs.lemmas.Bool.{lt-ltb, le-ltb, ltb-false}
use Rattle.std.proofs.lemmas.List.{length-append, take_all}
use Rattle.params.specs.declared.TheConstants.{OUTPUT_QUEUE_PACKETS}
use Rattle.flat_model.specs.Amounts.Weight.{Item}
use Rattle.flat_model.specs.Fragments.Cuts.{Part, part}
use Rattle.mbuf_chain.specs.Chain.{ChainView, PoolView, IsLive, string, without}
use Rattle.mbuf_chain.specs.Owners.{Moves, IsOwned, times_among}
use Rattle.mbuf_chain.specs.Train.{TrainView, QueuedPacket, queued_packets, numbers, IsHeld}
use Rattle.mbuf_chain.proofs.Laws.Owners.{times-append, moves_beside, moves_trans, moves_without, owned_more, owned_beside}
use Rattle.mbuf_chain.proofs.Laws.Trains.{Beside, beside_moves}
use Rattle.chain_ops.specs.Weights.{layout_entries}
use Rattle.ledger.specs.Accounts.{item_of}
use Rattle.ip_out.specs.declared.head.IpHead.{IpHead}
use Rattle.ip_out.specs.Packets.{IsDatagramChain, train_packets, packets_of, part_bytes, chain_parts}
use Rattle.ip_out.specs.Queues.{IsOutputQueue}
use Rattle.ip_out.proofs.Firsts.{string_long}
use Rattle.ip_out.proofs.Outputs.{cut_none, items_length}
use Rattle.ip_out.proofs.Queues.{packets_len, taken_50}

-- chain c became other chains, and a train is unchanged
pub record IsAside (p q : PoolView) (c : ℕ) (ys : List ℕ) (t : TrainView) : Type 0 where
  pub held : IsHeld q t
  pub same_numbers : numbers q t ≡ numbers p t
  pub same_queued : queued_packets q t ≡ queued_packets p t
  pub same_packets : train_packets q t ≡ train_packets p t
  pub owned : IsOwned q (numbers q t ++ ys)
  pub moves : Moves p (c ∷ numbers p t) q (numbers q t ++ ys)

pub aside : {p q : PoolView} {ys : List ℕ} (c : ℕ) (t : TrainView) → Moves p (c ∷ []) q ys → IsLive p c → IsHeld p t
    → times_among c (numbers p t) ≡ 0 → IsAside p q c ys t
aside {p} {q} {ys} c t m live held apart =
    let before : (k : ℕ) → times_among k (numbers p t ++ c ∷ []) ≡ times_among k (c ∷ numbers p t) =
    λ k. omega (arith, times-append k (numbers p t) (c ∷ [])) in
    let owned : IsOwned p (numbers p t ++ c ∷ []) =
    λ k. omega (arith, before k, owned_more p c (numbers p t) held.owned live apart k) in
    let b : Beside p q t = beside_moves t m owned held in
    let after : IsOwned q (numbers p t ++ ys) = owned_beside (numbers p t) m owned in
    let same : (k : ℕ) → times_among k (numbers q t ++ ys) ≡ times_among k (numbers p t ++ ys) =
    λ k. ap (λ (xs : List ℕ). times_among k (xs ++ ys)) b.numbers in
    record {
      held = b.held;
      same_numbers = b.numbers;
      same_queued = b.queued_packets;
      same_packets = ap (map (λ (queued_packet : QueuedPacket). item_of queued_packet.entries)) b.queued_packets;
      owned = λ k. omega (arith, same k, after k);
      moves =
          moves_beside (c ∷ numbers p t) (numbers q t ++ ys) (numbers p t) m (λ k. omega arith)
          (λ k. same k ∙ times-append k (numbers p t) ys);
    }

-- the chain was removed, and only the train is left
pub aside_gone : {p q : PoolView} (c : ℕ) (t : TrainView) → q ≡ without p c → IsLive p c → IsHeld p t
    → times_among c (numbers p t) ≡ 0
    → IsHeld q t × Moves p (c ∷ numbers p t) q (numbers q t)
aside_gone {p} {q} c t is live held apart =
    let a = aside c t (moves_without p q c live is) live held apart in
    (a.held, subst (Moves p (c ∷ numbers p t) q) (append-nil (numbers q t)) a.moves)

-- all packets fit into the queue
pub all_fit : (items : List Item) → nat_lt OUTPUT_QUEUE_PACKETS (length items) ≡ false
    → take OUTPUT_QUEUE_PACKETS items ≡ items
all_fit items h = take_all OUTPUT_QUEUE_PACKETS items (ltb-false OUTPUT_QUEUE_PACKETS (length items) h)

-- ---- a datagram that isn't cut
-- it has one part
pub one_part : (v : ChainView) (k mtu : ℕ) → IsDatagramChain v → k ≡ length (string v) → k ≤ mtu
    → chain_parts v mtu ≡ part (length (string v) - 20) 65528 0 ∷ []
one_part v k mtu d is fits =
    let long : 20 ≤ length (string v) = string_long v.entries d.room in
    (cut_none (length (string v) - 20) mtu (omega (arith, d.most)) (omega (arith, is, fits, long))).parts

-- and one packet
pub one_packet : (v : ChainView) (h : IpHead) (k mtu : ℕ) → IsDatagramChain v → k ≡ length (string v) → k ≤ mtu
    → length (packets_of v h mtu) ≡ 1
one_packet v h k mtu d is fits =
    items_length (layout_entries v.entries) (part_bytes h (drop 20 (string v))) (chain_parts v mtu)
    ∙ ap (λ (ps : List Part). length ps) (one_part v k mtu d is fits)

-- a queue takes that packet, or is full
pub record TakesOne (p q : PoolView) (t u : TrainView) (lost : Bool) (ys : List Item) : Type 0 where
  pub items : train_packets q u ≡ take OUTPUT_QUEUE_PACKETS (train_packets p t ++ ys)
  pub is_lost : lost ≡ nat_lt OUTPUT_QUEUE_PACKETS (length (train_packets p t ++ ys))

pub no_room : (p q : PoolView) (t : TrainView) (ys : List Item) → IsOutputQueue p t → OUTPUT_QUEUE_PACKETS ≤ t.len
    → length ys ≡ 1 → train_packets q t ≡ train_packets p t → TakesOne p q t t true ys
no_room p q t ys is full one same = record {
  items =
      same ∙ sym (taken_50 (train_packets p t) ys (omega (arith, packets_len p t is.held, is.room))
      (inr (omega (arith, packets_len p t is.held, is.room, full))));
  is_lost =
      sym (lt-ltb OUTPUT_QUEUE_PACKETS (length (train_packets p t ++ ys))
      (omega (arith, length-append (train_packets p t) ys, packets_len p t is.held, full, one)));
}

pub room : (p q : PoolView) (t u : TrainView) (ys : List Item) → IsOutputQueue p t → t.len < OUTPUT_QUEUE_PACKETS
    → length ys ≡ 1 → train_packets q u ≡ train_packets p t ++ ys → TakesOne p q t u false ys
room p q t u ys is few one more =
    let fits : length (train_packets p t ++ ys) ≤ OUTPUT_QUEUE_PACKETS =
    omega (arith, length-append (train_packets p t) ys, packets_len p t is.held, few, one) in
    record {
      items = more ∙ sym (take_all OUTPUT_QUEUE_PACKETS (train_packets p t ++ ys) fits);
      is_lost = sym (le-ltb OUTPUT_QUEUE_PACKETS (length (train_packets p t ++ ys)) fits);
    }

-- ---- the packets of a datagram, the queue, and the packets that come back
pub record IsSentOut (p q r : PoolView) (c : ℕ) (o looped : TrainView) (o' : TrainView) : Type 0 where
  pub held : IsHeld r looped
  pub same_packets : train_packets r looped ≡ train_packets q looped
  pub same_queued : queued_packets r looped ≡ queued_packets q looped
  pub moves : Moves p (c ∷ numbers p o) r (numbers r looped ++ numbers r o')

-- the queue and the packets for the link share no chain
pub link_owned : {p q : PoolView} {c : ℕ} (o link looped : TrainView)
    → IsAside p q c (numbers q link ++ numbers q looped) o → IsOwned q (numbers q o ++ numbers q link)
link_owned {p} {q} o link looped a = λ k. omega (
  arith,
  a.owned k,
  times-append k (numbers q o) (numbers q link ++ numbers q looped),
  times-append k (numbers q o) (numbers q link),
  times-append k (numbers q link) (numbers q looped),
)

pub sent_out : {p q r : PoolView} {c : ℕ} (o link looped o' : TrainView)
    → IsAside p q c (numbers q link ++ numbers q looped) o → IsHeld q looped
    → Moves q (numbers q o ++ numbers q link) r (numbers r o') → IsSentOut p q r c o looped o'
sent_out {p} {q} {r} {c} o link looped o' a held m =
    let sums : (k : ℕ) → times_among k (numbers q o ++ (numbers q link ++ numbers q looped))
    ≡ times_among k (numbers q looped) + times_among k (numbers q o ++ numbers q link) =
    λ k. omega (
      arith,
      times-append k (numbers q o) (numbers q link ++ numbers q looped),
      times-append k (numbers q o) (numbers q link),
      times-append k (numbers q link) (numbers q looped),
    ) in
    let owned : IsOwned q (numbers q looped ++ (numbers q o ++ numbers q link)) =
    λ k. omega (arith, a.owned k, sums k, times-append k (numbers q looped) (numbers q o ++ numbers q link)) in
    let b : Beside q r looped = beside_moves looped m owned held in
    record {
      held = b.held;
      same_packets = ap (map (λ (queued_packet : QueuedPacket). item_of queued_packet.entries)) b.queued_packets;
      same_queued = b.queued_packets;
      moves =
          moves_trans a.moves (moves_beside (numbers q o ++ (numbers q link ++ numbers q looped))
          (numbers r looped ++ numbers r o') (numbers q looped) m sums
          (λ k. omega (arith, ap (times_among k) b.numbers, times-append k (numbers r looped) (numbers r o'))));
    }

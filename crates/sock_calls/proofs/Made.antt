-- The packets of a send.
use Rattle.std.proofs.Common.{◌≡◌, ℕ, ◌+◌, ◌-◌, ◌≤◌, Bool, true, false, cond, List, [], ◌∷◌, ◌++◌, length, map, take, refl, sym, ap, ◌∙◌, arith}
use Rattle.std.specs.Prelude.{◌==◌, ◌||◌, nat_lt}
use Rattle.std.proofs.lemmas.List.{length-drop}
use Rattle.params.specs.declared.TheConstants.{OUTPUT_QUEUE_PACKETS}
use Rattle.flat_model.specs.Amounts.Weight.{Item}
use Rattle.flat_model.specs.Fragments.Cuts.{cuts}
use Rattle.flat_model.specs.Machine.Send.{to_link, to_self}
use Rattle.flat_model.specs.Machine.Sending as sending
use Rattle.flat_model.specs.Machine.Sending.{is_looped, mtu_to}
use Rattle.flat_model.specs.declared.config.Config.{Config}
use Rattle.mbuf_chain.specs.Chain.{PoolView, ChainView, chain_of, string}
use Rattle.mbuf_chain.specs.Owners.{Moves}
use Rattle.mbuf_chain.specs.Train.{TrainView, QueuedPacket, IsHeld, numbers}
use Rattle.mbuf_chain.proofs.Laws.Owners.{moves_trans}
use Rattle.mbuf_chain.proofs.Laws.Trains.{Beside, beside_adds, moves_new}
use Rattle.chain_ops.specs.Makes.{Makes, LacksMbufs}
use Rattle.chain_ops.proofs.Laws.Makes.{makes_mbufs}
use Rattle.ip_out.specs.declared.head.IpHead.{IpHead}
use Rattle.ip_out.specs.declared.sending.Sent.{Sent}
use Rattle.ip_out.specs.declared.ways.Way.{Way}
use Rattle.ledger.specs.Accounts.{item_of}
use Rattle.ip_out.specs.Packets.{train_packets, packets_of, chain_parts, BeginPlain}
use Rattle.ip_out.specs.Queues.{IsOutputQueue}
use Rattle.ip_out.specs.Ways as ways
use Rattle.ip_out.specs.Ways.{way_need}
use Rattle.ip_out.proofs.Laws.{packets_sent, sending_head}
use Rattle.sock_calls.specs.Inside.Putting.{IsRouted, IsFreeFor, IsBuilt, AreMade, way_of}
use Rattle.sock_calls.proofs.SentRooms.{has_mbufs, need_clusters, need_is_way}

-- the buffers that were free are enough for them
pub packets_fit : {p q : PoolView} {chain mtu : ℕ} {way : Way} (c : Config) (x : sending.Sending) → IsRouted c
    → (x.to.ip ≡ c.bcast → length x.bytes + 28 ≤ c.mtu) → IsFreeFor p c x.to.ip (length x.bytes)
    → IsBuilt p x q chain → way ≡ way_of c x.to.ip → mtu ≡ mtu_to c x.to.ip
    → LacksMbufs q (way_need way (chain_of q chain) mtu) → ⊥
packets_fit {p} {q} {chain} {mtu} {way} c x routed fits free b way_is mtu_is lacks =
    let n : ℕ = length x.bytes in
    let v : ChainView = chain_of q chain in
    let m : Makes p q chain v.front v.entries = record { adds = b.lies.made; front = refl; entries = refl } in
    let same : way_need way v mtu ≡ way_need (way_of c x.to.ip) v (mtu_to c x.to.ip) =
    λ i. way_need (way_is i) v (mtu_is i) in
    omega (
      arith,
      lacks,
      same,
      need_is_way c x.to.ip n v b.clusters routed fits b.lies.placed b.lies.size,
      has_mbufs p c x.to.ip n free,
      b.lies.held,
      makes_mbufs m,
    )

link_is : (c : Config) (ip : ℕ) (items : List Item) → ways.to_link_by (way_of c ip) items ≡ to_link c ip items
link_is c ip items = go (is_looped c ip) (ip == c.bcast)
  where
    go : (u t : Bool) → ways.to_link_by (cond u Way.Loopback (cond t Way.Both Way.Link)) items
        ≡ cond {A = List Item} u [] items
    go true t = refl
    go false true = refl
    go false false = refl

back_is : (c : Config) (ip : ℕ) (items : List Item) → ways.to_self_by (way_of c ip) items ≡ to_self c ip items
back_is c ip items = go (is_looped c ip) (ip == c.bcast)
  where
    go : (u t : Bool) → ways.to_self_by (cond u Way.Loopback (cond t Way.Both Way.Link)) items
        ≡ cond {A = List Item} (u || t) items []
    go true t = refl
    go false true = refl
    go false false = refl

pub packets_made : {p q r : PoolView} {chain mtu : ℕ} {way : Way} {head : IpHead} {o u : TrainView} {made : Sent}
    (c : Config) (x : sending.Sending) → IsBuilt p x q chain → way ≡ way_of c x.to.ip → mtu ≡ mtu_to c x.to.ip
    → head ≡ sending_head x
    → IsHeld p o → train_packets r u ≡ take OUTPUT_QUEUE_PACKETS
    (train_packets q o ++ ways.to_link_by way (packets_of (chain_of q chain) head mtu))
    → made.is_lost ≡ nat_lt OUTPUT_QUEUE_PACKETS
    (length (train_packets q o ++ ways.to_link_by way (packets_of (chain_of q chain) head mtu)))
    → train_packets r made.looped ≡ ways.to_self_by way (packets_of (chain_of q chain) head mtu)
    → made.is_cut ≡ nat_lt 1 (length (chain_parts (chain_of q chain) mtu)) → IsHeld r made.looped
    → BeginPlain r made.looped
    → IsOutputQueue r u → Moves q (chain ∷ numbers q o) r (numbers r made.looped ++ numbers r u)
    → AreMade p c x o r made u
packets_made {p} {q} {r} {chain} {mtu} {way} {head} {o} {u} {made} c x b way_is mtu_is head_is waits out lost back cut
    held plain queue moves =
    let v : ChainView = chain_of q chain in
    let items_are : packets_of v head mtu ≡ sending.packets c b.clusters x =
    (λ i. packets_of v (head_is i) (mtu_is i)) ∙ packets_sent c b.clusters x v b.lies.placed
    (omega (arith, b.lies.size))
    b.datagram in
    let size : length (string v) - 20 ≡ length (sending.datagram x) =
    omega (arith, length-drop 20 (string v), ap (λ (xs : List ℕ). length xs) b.datagram) in
    let beside : Beside p q o = beside_adds o b.lies.made waits in
    let before : train_packets q o ≡ train_packets p o =
    ap (map (λ (queued_packet : QueuedPacket). item_of queued_packet.entries))
    beside.queued_packets in
    let linked : ways.to_link_by way (packets_of v head mtu) ≡ to_link c x.to.ip (sending.packets c b.clusters x) =
    (λ i. ways.to_link_by (way_is i) (items_are i)) ∙ link_is c x.to.ip (sending.packets c b.clusters x) in
    let all : train_packets q o ++ ways.to_link_by way (packets_of v head mtu) ≡ train_packets p o
    ++ to_link c x.to.ip (sending.packets c b.clusters x) = λ i. before i ++ linked i in
    record {
      clusters = b.clusters;
      number = b.lies.number ∙ sym (need_clusters c x.to.ip (length x.bytes));
      free = b.lies.free;
      out = out ∙ ap (take OUTPUT_QUEUE_PACKETS) all;
      back =
          back ∙ (λ i. ways.to_self_by (way_is i) (items_are i)) ∙ back_is c x.to.ip (sending.packets c b.clusters x);
      is_cut = cut ∙ (λ i. nat_lt 1 (length (cuts (size i) (mtu_is i))));
      is_lost = lost ∙ ap (λ (l : List Item). nat_lt OUTPUT_QUEUE_PACKETS (length l)) all;
      queue = queue;
      held = held;
      plain = plain;
      moves = moves_trans (moves_new o b.lies.made waits) moves;
    }

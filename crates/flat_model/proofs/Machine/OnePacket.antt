-- A packet with a whole datagram for one socket is queued.
use Rattle.std.proofs.Common.{◌≡◌, ℕ, ◌+◌, Bool, true, false, List, length, Some, refl, sym, ◌∙◌, ap, subst, arith, cond, eq-eqb, ◌⊎◌, inl, inr}
use Rattle.std.specs.Prelude.{◌==◌}
use Rattle.std.specs.List.{AllByRecursion as Each}
use Rattle.flat_model.specs.Amounts.Weight.{Weight, Item, nothing, mbuf, ◌⊕◌}
use Rattle.flat_model.specs.Amounts.Layout.{Need, entries_on, need_of, weight_of, wire}
use Rattle.flat_model.specs.Packets.Header.{head_of, udp_bytes}
use Rattle.flat_model.specs.Sockets.Fits as Fits
use Rattle.flat_model.specs.Machine.Event.{Reply, Comes}
use Rattle.flat_model.specs.Machine.Arrival.{Appends, Arrives, By_wire, GoesTo, counts_packet, with_datagram}
use Rattle.flat_model.specs.Machine.State.{State, Socket, Datagram, change_socket, socket_at}
use Rattle.flat_model.specs.Machine.Ledger.{HasBuffers, exact_ledger, need_mbufs, reclaimed}
use Rattle.flat_model.specs.Machine.Step.{Step}
use Rattle.flat_model.specs.Runs.Consistent.{IsConsistent, IsSocket}
use Rattle.flat_model.specs.Runs.Isolation.{IsQueuedFor, IsQueuedLast, IsWholeFor, KeepLimits, PoolHasRoom, datagram_in, held_and, memory_of_need, sender_in, with_address}
use Rattle.flat_model.proofs.Lists.Each.{by_choice}
use Rattle.flat_model.proofs.Machine.Isolated.{never_dropped, never_lacks}
use Rattle.flat_model.proofs.Machine.Kept.{still_there}
use Rattle.flat_model.proofs.Machine.KeptLists.{AreIn, matching_in}
use Rattle.flat_model.proofs.Machine.Placed.{placed_mbufs, placed_memory}
use Rattle.flat_model.proofs.Machine.Sockets.{find-changed}

module _ (packet : List ℕ) (clusters : List ℕ) (to : Socket) (m new : State) (are : Each (IsSocket m.config) m.sockets)
    (within : KeepLimits m) (for : IsWholeFor m packet to) (at : socket_at to.fd m ≡ Some to)
    (few : length clusters ≡ (need_of (wire (length packet))).clusters)
    (room : PoolHasRoom (with_address (need_of (wire (length packet)))) m)
    (fit : Fits.fits to.limit to.queue (length (udp_bytes (datagram_in packet)))
    (memory_of_need (need_of (wire (length packet)))) ≡ true) where
  abbrev weight : Weight
  weight = weight_of (entries_on clusters (wire (length packet)))

  mbufs_are : weight.mbufs ≡ (need_of (wire (length packet))).mbufs
  mbufs_are = placed_mbufs clusters (wire (length packet))

  memory_is : Fits.memory_of weight ≡ memory_of_need (need_of (wire (length packet)))
  memory_is = placed_memory clusters (wire (length packet)) few

  bag_is : length weight.bag ≡ (need_of (wire (length packet))).clusters
  bag_is = omega (arith, mbufs_are, memory_is)

  abbrev item : Item
  item = record { bytes = udp_bytes (datagram_in packet); weight = weight }

  space : PoolHasRoom (held_and (record { mbufs = 0 + weight.mbufs; bag = weight.bag }) (need_mbufs 1))
      (counts_packet m)
  space = record {
    limits = room.limits;
    mbufs = omega (arith, room.mbufs, mbufs_are);
    clusters = omega (arith, room.clusters, bag_is);
  }

  appended : Arrives exact_ledger (By_wire (length packet)) nothing (record { bytes = packet; weight = weight }) m new
      → Appends exact_ledger nothing (sender_in packet) item to (counts_packet m) new
  appended h =
      subst (λ (tos : List Socket). GoesTo exact_ledger nothing (sender_in packet) item (head_of packet).destination tos
      (counts_packet m) new) for.one
      (((((h.none for.sound).yes for.ours).no for.whole).yes for.udp).none for.right)

  queued : IsQueuedFor to (sender_in packet) item (counts_packet m) new → IsQueuedLast packet to new
  queued q = record {
    me = with_datagram d to;
    found = ap (socket_at to.fd) q.queued ∙ changed ∙ ap (λ (b : Bool). Some (cond b (with_datagram d to) to))
        (eq-eqb to.fd to.fd refl);
    weight = d.item.weight;
    queue = refl;
  }
    where
      d : Datagram
      d = record { sender = sender_in packet; item = record item { weight = mbuf ⊕ weight } }

      changed : socket_at to.fd (change_socket to.fd (with_datagram d) q.mid)
          ≡ Some (cond (to.fd == to.fd) (with_datagram d to) to)
      changed = find-changed to.fd to.fd (with_datagram d) q.mid.sockets to (λ x. refl)
          (still_there m.config (counts_packet m) q.mid to.fd to q.from at)

  pub received : Arrives exact_ledger (By_wire (length packet)) nothing
      (record { bytes = packet; weight = weight }) m new
      → IsQueuedLast packet to new
  received h =
      queued (never_dropped (counts_packet m) new nothing (sender_in packet) item to are within space
      (ap (Fits.fits to.limit to.queue (length item.bytes)) memory_is ∙ fit) (appended h))

pub comes_received : (s new : State) (packet : List ℕ) (reply : Reply) (to : Socket) → IsConsistent s → KeepLimits s
    → IsWholeFor s packet to
    → Fits.fits to.limit to.queue (length (udp_bytes (datagram_in packet)))
    (memory_of_need (need_of (wire (length packet)))) ≡ true
    → PoolHasRoom (with_address (need_of (wire (length packet)))) s → Step s (Comes packet) reply new
    → IsQueuedLast packet to new
comes_received s new packet reply to is within for fit room (done, (answer, mid, buffers, rest)) =
    let need : Need = need_of (wire (length packet)) in
    let less : PoolHasRoom (held_and nothing need) s =
    record {
      limits = room.limits;
      mbufs = omega (arith, room.mbufs);
      clusters = omega (arith, room.clusters);
    } in
    let enough : answer ≡ true = never_lacks s mid nothing need answer is.sockets within less buffers in
    by_choice rest (λ t (clusters, taken, h). go mid (from answer mid buffers) clusters taken.number h)
    (λ f r. absurd (never (sym enough ∙ f)))
  where
    never : true ≡ false → ⊥
    never e = cc

    from : (answer : Bool) (mid : State)
        → HasBuffers exact_ledger s nothing (need_of (wire (length packet))) answer mid
        → (mid ≡ s) ⊎ (mid ≡ reclaimed s)
    from true mid (inl h) = inl h.1
    from true mid (inr h) = inr h.1
    from false mid h = inr h.1

    at : socket_at to.fd s ≡ Some to
    at = (subst (Each (AreIn s)) for.one (matching_in s (head_of packet).destination _ is.distinct).0).0

    go : (mid : State) → (mid ≡ s) ⊎ (mid ≡ reclaimed s) → (clusters : List ℕ)
        → length clusters ≡ (need_of (wire (length packet))).clusters
        → Arrives exact_ledger (By_wire (length packet)) nothing
        (record { bytes = packet; weight = weight_of (entries_on clusters (wire (length packet))) }) mid new
        → IsQueuedLast packet to new
    go mid (inl e) clusters few h =
        received packet clusters to s new is.sockets within for at few room fit
        (subst (λ (m : State). Arrives exact_ledger (By_wire (length packet)) nothing
        (record { bytes = packet; weight = weight_of (entries_on clusters (wire (length packet))) }) m new) e h)
    go mid (inr e) clusters few h =
        received packet clusters to (reclaimed s) new is.sockets within
        (record {
          sound = for.sound;
          ours = for.ours;
          whole = for.whole;
          udp = for.udp;
          right = for.right;
          one = for.one;
        }) at few (record { limits = room.limits; mbufs = room.mbufs; clusters = room.clusters }) fit
        (subst (λ (m : State). Arrives exact_ledger (By_wire (length packet)) nothing
        (record { bytes = packet; weight = weight_of (entries_on clusters (wire (length packet))) }) m new) e h)

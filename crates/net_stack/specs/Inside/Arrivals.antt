-- Packets that arrive, for every rest of the machine (`ipintr` of volume 2, chapter 8; the form with a pool's view is
-- this project's own).
use Rattle.std.specs.Prelude.{◌≡◌, ℕ, ◌+◌, ◌%◌, List, [], ◌∷◌, length, count_by, Bool, true, false, Option, Some, None, Result, Ok, Err, ◌==◌, ◌||◌}
use Rattle.params.specs.declared.TheConstants.{FIRST_DESCRIPTOR, MAX_SOCKETS}
use Rattle.flat_model.specs.Amounts.Weight.{Weight, ◌⊕◌, nothing}
use Rattle.flat_model.specs.Machine.State.{State, Unfinished, ends, limited_broadcast, loopback}
use Rattle.flat_model.specs.Machine.Ledger.{exact_ledger}
use Rattle.flat_model.specs.Packets.Header.{head_fault, head_of}
use Rattle.flat_model.specs.Machine.Arrival.{Origin, By_wire, FragmentArrivesAs, ArrivesAs, AllArrive, counts_packet, is_fragment}
use Rattle.flat_model.specs.Machine.Fate.{mark, nobody, told}
use Rattle.pcb_table.specs.Table.{Table}
use Rattle.flat_model.specs.declared.counters.Counters.{Counters}
use Rattle.flat_model.specs.declared.counters.Why.{Why}
use Rattle.flat_model.specs.declared.counters.Why.TheVariants.{UdpFullSocket}
use Rattle.flat_model.specs.declared.fate.Fate.{Fate}
use Rattle.flat_model.specs.declared.fate.Fate.TheVariants.{Delivered, Kept, Completed, Dropped}
use Rattle.flat_model.specs.declared.fate.Reached.{Reached}
use Rattle.flat_model.specs.Amounts.Layout.{Need, is_cluster, entries_on, wire}
use Rattle.flat_model.specs.Machine.Step.{ComesInAs}
use Rattle.mbuf_chain.specs.Chain.{PoolView, alone, chain_of, string}
use Rattle.chain_ops.specs.Makes.{Makes}
use Rattle.chain_ops.specs.Stored.{AreFree, stored_first}
use Rattle.chain_ops.specs.Weights.{layout_entries}
use Rattle.mbuf_chain.specs.Owners.{Moves}
use Rattle.mbuf_chain.specs.Train.{TrainView, numbers}
use Rattle.ledger.specs.Accounts.{IsAccounted, item_at, weight_at, weight_owned}
use Rattle.ledger.specs.Reserve.{Reserves}
use Rattle.ip_out.specs.Headings.{head_in}
use Rattle.ip_out.specs.Packets.{train_packets}
use Rattle.ip_out.specs.declared.head.IpHead.{IpHead}
use Rattle.ip_reass.specs.Arrivals.{CameBy, carried_at, flat_head}
use Rattle.ip_reass.specs.Table.{TableView, held_all, unfinished}
use Rattle.sock_calls.specs.Sockets.{SocksView, with_net}
use Rattle.sock_calls.specs.Delivery.{NetView, IsAccountedAt, KeepsParts, net_state}
use Rattle.sock_calls.specs.Whole.{IsWireWeight}
use Rattle.net_stack.specs.declared.host.Ending.{Ending}
use Rattle.net_stack.specs.declared.host.Ending.TheVariants.{Got, Lost, Many, Waits, Joined, JoinedEnds, Ends}

-- an address for which a machine with these two addresses accepts packets
abbrev pub is_ours_or_all : ℕ → ℕ → ℕ → Bool
is_ours_or_all addr bcast ip = (((ip == addr) || (ip == bcast)) || (ip == loopback)) || (ip == limited_broadcast)

-- the header of a packet for this machine, in which no test finds a fault
pub record IsHeadForUs (s : SocksView) (packet : List ℕ) (head : IpHead) : Type 0 where
  pub faultless : head_fault packet ≡ None
  pub says : head ≡ head_in packet
  pub ours : is_ours_or_all s.pcbs.addr s.pcbs.bcast head.dst ≡ true

-- the fate of a packet that carries this whole datagram
abbrev pub fate_of : Result Reached Why → Fate
fate_of (Ok reached) = Delivered reached
fate_of (Err why) = Dropped why

-- ---- the fate of a packet that ended so, where the last datagram in a chain was for these sockets

abbrev pub one_socket : ℕ → Option Why → Reached
one_socket place lack = mark lack (FIRST_DESCRIPTOR + place % MAX_SOCKETS) nobody

abbrev pub fate_by : Ending → Reached → Fate
fate_by (Got place) reached = Delivered (one_socket place None)
fate_by (Lost place) reached = Delivered (one_socket place (Some UdpFullSocket))
fate_by Many reached = Delivered reached
fate_by Waits reached = Kept
fate_by Joined reached = Completed (Ok reached)
fate_by (JoinedEnds why) reached = Completed (Err why)
fate_by (Ends why) reached = Dropped why

abbrev pub of_whole : Result Unit Why → Ending
of_whole (Ok done) = Many
of_whole (Err why) = Ends why

abbrev pub of_completed : Result Unit Why → Ending
of_completed (Ok done) = Joined
of_completed (Err why) = JoinedEnds why

-- chain c, a packet, ends for this cause, whatever else the machine has
abbrev pub EndsInChain : PoolView → SocksView → ℕ → Why → Type 0
EndsInChain p s c why = (us : List Unfinished) (a : Counters) (rest : State) (held : Weight) (origin : Origin)
    → ArrivesAs exact_ledger (told (Dropped why)) origin held (item_at p c) (with_net p s us a rest)
    (ends why (counts_packet (with_net p s us a rest)))

-- chain c arrived: a fragment with the header `head` and the length in that header. This became of it.
pub record IsFragmentTaken (v : NetView) (c : ℕ) (head : IpHead) (fate : Fate) (u : NetView) : Type 0 where
  pub step : (rest : State) (held : Weight) (origin : Origin) → CameBy origin (chain_of v.pool c)
      → IsAccountedAt v rest (held ⊕ weight_at v.pool c)
      → FragmentArrivesAs exact_ledger (told fate) origin held (flat_head head) (carried_at v.pool c)
      (net_state v rest) (net_state u rest)
  pub parts : KeepsParts v (c ∷ []) u []

-- chain c, a packet, arrived, and this became of it
pub record IsArrived (v : NetView) (c : ℕ) (fate : Fate) (u : NetView) : Type 0 where
  pub step : (rest : State) (held : Weight) (origin : Origin) → CameBy origin (chain_of v.pool c)
      → IsAccountedAt v rest (held ⊕ weight_at v.pool c)
      → ArrivesAs exact_ledger (told fate) origin held (item_at v.pool c) (net_state v rest) (net_state u rest)
  pub parts : KeepsParts v (c ∷ []) u []

-- The packets of a train arrived, one after another.
pub record HaveArrived (v : NetView) (t : TrainView) (u : NetView) : Type 0 where
  pub step : (rest : State) → IsAccountedAt v rest (weight_owned v.pool (numbers v.pool t))
      → AllArrive exact_ledger (train_packets v.pool t) (net_state v rest) (net_state u rest)
  pub parts : KeepsParts v (numbers v.pool t) u []

-- The front of a train arrived: any arrival of the remaining packets completes an arrival of all.
pub record AreArriving (v : NetView) (t : TrainView) (u : NetView) (left : TrainView) : Type 0 where
  pub goes : (rest new : State) → IsAccountedAt v rest (weight_owned v.pool (numbers v.pool t))
      → AllArrive exact_ledger (train_packets u.pool left) (net_state u rest) new
      → AllArrive exact_ledger (train_packets v.pool t) (net_state v rest) new
  pub parts : KeepsParts v (numbers v.pool t) u (numbers u.pool left)

-- ---- from the wire

-- chain c was made with these bytes, in the layout of a packet from the wire, with clusters that were free
pub record IsPacketStored (p : PoolView) (bytes : List ℕ) (q : PoolView) (c : ℕ) : Type 0 where
  pub clusters : List ℕ
  pub free : AreFree p clusters
  pub number : length clusters ≡ count_by is_cluster (wire (length bytes))
  pub made : Makes p q c (alone true) (stored_first 0 false clusters (wire (length bytes)) bytes)
  pub layout : layout_entries (stored_first 0 false clusters (wire (length bytes)) bytes)
      ≡ entries_on clusters (wire (length bytes))
  pub bytes_are : string (chain_of q c) ≡ bytes

-- these bytes came from the wire, into new buffers, or into none if the pool had too few, and this became of them
pub record HasCome (v : NetView) (packet : List ℕ) (fate : Fate) (u : NetView) : Type 0 where
  pub step : (rest : State) → IsAccountedAt v rest nothing
      → ComesInAs exact_ledger (told fate) packet (net_state v rest) (net_state u rest)
  pub parts : KeepsParts v [] u []

-- the pool was tested for a packet's buffers, and if they weren't free, the unfinished datagrams were freed
pub record IsAsked (p : PoolView) (r : TableView) (a : Counters) (need : Need) (answer : Bool) (q : PoolView)
    (t : TableView) (b : Counters) : Type 0 where
  pub reserves : (s : State) (held : Weight) → s.unfinished ≡ unfinished p r.datagrams → s.counters ≡ a
      → IsAccounted p s held
      → Reserves s held need answer (record s { unfinished = unfinished q t.datagrams; counters = b }) q
  pub moves : Moves p (held_all p r.datagrams) q (held_all q t.datagrams)

-- This becomes of a packet whose buffers are free, and only the cause is counted, whichever clusters these are.
abbrev pub EndsFor : NetView → List ℕ → Fate → Why → Type 0
EndsFor v packet fate why =
    (rest : State) (w : Weight) → IsWireWeight (length packet) w
    → ArrivesAs exact_ledger (told fate) (By_wire (length packet)) nothing (record { bytes = packet; weight = w })
    (net_state v rest)
    (ends why (counts_packet (net_state v rest)))

-- a packet for the machine with these control blocks that isn't a fragment
pub record IsWholeForUs (t : Table) (packet : List ℕ) : Type 0 where
  pub ours : is_ours_or_all t.addr t.bcast (head_of packet).destination ≡ true
  pub whole : is_fragment (head_of packet) ≡ false

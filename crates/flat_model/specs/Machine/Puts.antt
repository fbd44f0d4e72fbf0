-- A send up to the arrival of the packets that come back (this project's own). Together with that arrival it is `Goes`,
-- by `put_goes` of proofs/Laws. `Goes` isn't defined by `Puts`, because the machine's own definitions don't use words
-- that only contracts of the code need.
use Rattle.std.specs.Prelude.{◌≡◌, ℕ, if◌then◌else◌, List, length}
use Rattle.flat_model.specs.Amounts.Weight.{Item}
use Rattle.flat_model.specs.Machine.Event.{Reply, Sent, Refused}
use Rattle.flat_model.specs.declared.errno.Errno.TheVariants.{NoBufs}
use Rattle.flat_model.specs.declared.errno.Lack.TheVariants.{Queue}
use Rattle.flat_model.specs.Machine.State.{State, Socket}
use Rattle.flat_model.specs.Machine.Calls.{GetsPort, source_for}
use Rattle.flat_model.specs.Machine.Sending.{Sending, packets, parts_of}
use Rattle.flat_model.specs.Machine.Ledger.{Ledger, AreTaken}
use Rattle.flat_model.specs.declared.address.Addr.{Addr}
use Rattle.flat_model.specs.Machine.Send.{need_to, to_link, to_self, overflows, enqueued, spent}

-- the state after a send whose packets are `out`: those for the link are in the output queue, and `looped` are to come
-- back
pub record QueuesPackets (fd : ℕ) (out : List Item) (x : Sending) (old : State) (reply : Reply) (looped : List Item)
    (new : State) : Type 0 where
  pub back : looped ≡ to_self old.config x.to.ip out
  pub state : new ≡ enqueued (to_link old.config x.to.ip out) (spent fd x.port (parts_of old.config x) old)
  pub answer : reply ≡ (if overflows (spent fd x.port (parts_of old.config x) old) (to_link old.config x.to.ip out)
      then Refused (NoBufs Queue) else Sent (length x.bytes))

module _ (L : Ledger) where
  -- a send that has its buffers, up to the arrival of the packets that come back
  abbrev pub Puts : ℕ → Socket → Addr → List ℕ → State → Reply → List Item → State → Type 0
  Puts fd me to bytes old reply looped new =
      (port : ℕ) × (named : State) × (clusters : List ℕ)
      × GetsPort old me.local me.port port named
      × AreTaken L old (need_to old.config to.ip (length bytes)).clusters clusters
      × (let x : Sending = record {
        id = old.next_id;
        source = source_for old.config me to.ip;
        to = to;
        port = port;
        bytes = bytes;
      } in
      QueuesPackets fd (packets named.config clusters x) x named reply looped new)

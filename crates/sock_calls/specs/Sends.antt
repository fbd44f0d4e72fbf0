-- A send that tests the pool once (this project's own). If the pool has too few buffers it's refused, and changes
-- nothing. The machine with unfinished datagrams then frees them and sends again: both together are its one `Sends`, by
-- `sends_at_once` and `sends_again` of proofs/Laws.
use Rattle.std.specs.Prelude.{◌≡◌, ℕ, Bool, List, [], length, Option}
use Rattle.flat_model.specs.Amounts.Choice.{Choice, Case}
use Rattle.flat_model.specs.Amounts.Weight.{Item, nothing}
use Rattle.flat_model.specs.Packets.Header.{first_fault}
use Rattle.flat_model.specs.Machine.Event.{Reply}
use Rattle.flat_model.specs.Machine.State.{State, Socket, socket_at}
use Rattle.flat_model.specs.Machine.Ledger.{Ledger}
use Rattle.flat_model.specs.Machine.Calls.{Refuses}
use Rattle.flat_model.specs.Machine.Send.{send_faults, target, need_to}
use Rattle.flat_model.specs.Machine.Puts.{Puts}
use Rattle.flat_model.specs.declared.address.Addr.{Addr}
use Rattle.flat_model.specs.declared.errno.Errno.{Errno}
use Rattle.flat_model.specs.declared.errno.Errno.TheVariants.{BadDescriptor, NoBufs}
use Rattle.flat_model.specs.declared.errno.Lack.TheVariants.{Pool}

-- refused, without packets that come back
abbrev pub RefusesAll : Errno → State → Reply → List Item → State → Type 0
RefusesAll errno old reply looped new = Refuses errno old reply new × (looped ≡ [])

module _ (L : Ledger) where
  -- A send by an open socket: refused for its first fault, or if the pool has too few buffers now; otherwise it's sent,
  -- and `looped` has the packets that are to come back.
  abbrev pub SendsBy : ℕ → Option Addr → List ℕ → Socket → State → Reply → List Item → State → Type 0
  SendsBy fd to bytes me old reply looped new = Case (first_fault (send_faults old me to (length bytes)))
      (let a : Addr = target old me to in
      (yes : Bool) × L.has old nothing (need_to old.config a.ip (length bytes)) yes
      × Choice yes (Puts L fd me a bytes old reply looped new) (RefusesAll (NoBufs Pool) old reply looped new))
      (λ errno. RefusesAll errno old reply looped new)

  -- the same for a descriptor, which may not be open
  abbrev pub SendsOnce : ℕ → Option Addr → List ℕ → State → Reply → List Item → State → Type 0
  SendsOnce fd to bytes old reply looped new = Case (socket_at fd old) (RefusesAll BadDescriptor old reply looped new)
      (λ me. SendsBy fd to bytes me old reply looped new)

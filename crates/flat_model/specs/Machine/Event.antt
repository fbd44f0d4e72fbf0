-- The events of the machine, and its replies: the socket calls (volume 2, chapters 15, 16 and 22), the wire, the clock,
-- and two queries (this project's own). Every socket call returns immediately.
use Rattle.std.specs.Prelude.{ℕ, ◌<◌, ◌≤◌, ◌^◌, Bool, List, length, Option, All, ⊤, IfSome}
use Rattle.params.specs.declared.TheConstants.{IP_MAX_PACKET}
use Rattle.flat_model.specs.declared.address.Addr.{Addr}
use Rattle.flat_model.specs.declared.errno.Errno.{Errno}
use Rattle.flat_model.specs.declared.option.Opt.{Opt}
use Rattle.flat_model.specs.declared.usage.Mbstat.{Mbstat}
use Rattle.flat_model.specs.declared.counters.Counters.{Counters}

pub data Event : Type 0 where
  Open : Event  -- `socket`
  Bind : (fd : ℕ) (address : Addr) → Event
  Connect : (fd : ℕ) (address : Addr) → Event
  Send : (fd : ℕ) (to : Option Addr) (bytes : List ℕ) → Event  -- `sendto`, or without an address `send`
  Receive : (fd most : ℕ) → Event  -- `recvfrom` of at most `most` bytes
  Close : (fd : ℕ) → Event
  Set_option : (fd : ℕ) (option : Opt) (on : Bool) → Event  -- `setsockopt`
  Set_limit : (fd limit : ℕ) → Event  -- `setsockopt` with SO_RCVBUF
  Comes : (packet : List ℕ) → Event  -- a packet arrives from the wire
  Transmit : Event  -- the link takes the oldest packet of the output queue
  Tick : Event  -- the clock ticks: in 4.4BSD each half second
  Ask_counters : Event
  Ask_usage : Event

-- the replies; a call that fails says why
pub data Reply : Type 0 where
  Done : Reply
  Opened : (fd : ℕ) → Reply
  Sent : (n : ℕ) → Reply
  Received : (sender : Addr) (bytes : List ℕ) → Reply
  Given : (packet : Option (List ℕ)) → Reply
  Counted : (counters : Counters) → Reply
  Shown : (usage : Mbstat) → Reply
  Refused : (errno : Errno) → Reply

-- ---- the ranges of the numbers that callers pass: numbers are unbounded here, and have types in the code

-- every number is a byte
abbrev pub IsBytes : List ℕ → Type 0
IsBytes bytes = All (λ byte. byte < 256) bytes

-- an address of 32 bits, and a port of 16
pub record IsAddr (a : Addr) : Type 0 where
  pub ip : a.ip < 2 ^ 32
  pub port : a.port < 2 ^ 16

-- an event with numbers in their ranges; a packet is at most as long as IP allows
abbrev pub IsEvent : Event → Type 0
IsEvent (Bind fd address) = IsAddr address
IsEvent (Connect fd address) = IsAddr address
IsEvent (Send fd to bytes) = IfSome to IsAddr × IsBytes bytes
IsEvent (Comes packet) = IsBytes packet × (length packet ≤ IP_MAX_PACKET)
IsEvent (Set_limit fd limit) = limit < 2 ^ 16
IsEvent _ = ⊤

-- The results of queries about the sockets, as functions of the flat machine's state: `getsockname`, `getpeername` and
-- `getsockopt` (volume 2, chapters 15 and 17), `FIONREAD` and `select` (chapters 15 and 16); one query for all fields
-- of a socket, and one for all readable sockets, are this project's own.
use Rattle.std.specs.Prelude.{ℕ, zero, suc, ◌+◌, ◌^◌, Bool, false, not, ◌==◌, if◌then◌else◌, List, [], ◌∷◌, length, Option, None, Some, Result, Ok, Err}
use Rattle.params.specs.declared.TheConstants.{FIRST_DESCRIPTOR, MAX_SOCKETS}
use Rattle.flat_model.specs.Machine.State.{State, Socket, Datagram, socket_at}
use Rattle.flat_model.specs.Sockets.Fits as queue
use Rattle.flat_model.specs.declared.errno.Errno.{Errno}
use Rattle.flat_model.specs.declared.errno.Errno.TheVariants.{BadDescriptor, WouldBlock}
use Rattle.sock_calls.specs.declared.questions.SocketName.{SocketName}
use Rattle.sock_calls.specs.declared.questions.NextDatagram.{NextDatagram}

-- ---- one socket

-- its local address, its peer, and its options
abbrev pub socket_name_of : Socket → SocketName
socket_name_of me = record {
  local = me.local;
  port = me.port;
  peer = me.peer;
  broadcast = me.broadcast;
  reuse_port = me.reuse_port;
}

abbrev pub name_or_fault : Option Socket → Result SocketName Errno
name_or_fault None = Err BadDescriptor
name_or_fault (Some me) = Ok (socket_name_of me)

-- the name of a descriptor's socket; an error if no such socket is open
abbrev pub socket_name : ℕ → State → Result SocketName Errno
socket_name fd s = name_or_fault (socket_at fd s)

-- the oldest of these datagrams; an error if the queue is empty
abbrev pub oldest_datagram : List Datagram → Result NextDatagram Errno
oldest_datagram [] = Err WouldBlock
oldest_datagram (d ∷ later) = Ok (record { sender = d.sender; len = length d.item.bytes; waiting = suc (length later) })

abbrev pub next_in : Option Socket → Result NextDatagram Errno
next_in None = Err BadDescriptor
next_in (Some me) = oldest_datagram me.queue

-- the oldest datagram in a descriptor's socket; an error if no such socket is open, or if its queue is empty
abbrev pub next_datagram : ℕ → State → Result NextDatagram Errno
next_datagram fd s = next_in (socket_at fd s)

abbrev pub bytes_waiting : Option Socket → Result ℕ Errno
bytes_waiting None = Err BadDescriptor
bytes_waiting (Some me) = Ok (queue.bytes_queued me.queue)

-- How many bytes wait in a descriptor's socket, with 16 for each sender's address (`sb_cc` of chapter 16); an error if
-- no such socket is open.
abbrev pub bytes_queued_at : ℕ → State → Result ℕ Errno
bytes_queued_at fd s = bytes_waiting (socket_at fd s)

abbrev pub memory_behind : Option Socket → Result ℕ Errno
memory_behind None = Err BadDescriptor
memory_behind (Some me) = Ok (queue.memory_queued me.queue)

-- How much memory the datagrams in a descriptor's socket take (`sb_mbcnt` of chapter 16); an error if no such socket is
-- open.
abbrev pub memory_queued_at : ℕ → State → Result ℕ Errno
memory_queued_at fd s = memory_behind (socket_at fd s)

abbrev pub limit_of : Option Socket → Result ℕ Errno
limit_of None = Err BadDescriptor
limit_of (Some me) = Ok me.limit

-- The size in bytes that a program has chosen for a descriptor's receive queue, or 0 (`sb_hiwat` of chapter 16); an
-- error if no such socket is open.
abbrev pub receive_limit_at : ℕ → State → Result ℕ Errno
receive_limit_at fd s = limit_of (socket_at fd s)

-- ---- all sockets

-- the set of the numbers below a limit for which the test holds, as one number: bit k is for k
unfoldable pub set_below : (ℕ → Bool) → ℕ → ℕ
set_below test zero = 0
set_below test (suc n) = set_below test n + (if test n then 2 ^ n else 0)

-- a datagram waits
abbrev pub waits_in : Option Socket → Bool
waits_in None = false
waits_in (Some me) = not (length me.queue == 0)

-- the descriptors with a queued datagram: bit k is for descriptor 3 + k
abbrev pub readable : State → ℕ
readable s = set_below (λ k. waits_in (socket_at (FIRST_DESCRIPTOR + k) s)) MAX_SOCKETS

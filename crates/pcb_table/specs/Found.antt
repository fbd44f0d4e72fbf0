-- The results of lookups, and of calls on an open descriptor, as facts on each machine that has the blocks (this
-- project's own).
use Rattle.std.specs.Prelude.{◌≡◌, ℕ, ◌≤◌, List, map, All, Option, Some, None, Result, MatchResult}
use Rattle.flat_model.specs.Amounts.Weight.{times}
use Rattle.flat_model.specs.Machine.State.{State, Socket, change_socket}
use Rattle.flat_model.specs.Packets.Header.{first_fault}
use Rattle.flat_model.specs.Machine.Calls.{GetsPort, IsNextPort, read_addr, source_for}
use Rattle.flat_model.specs.Machine.Send.{address_faults}
use Rattle.flat_model.specs.declared.address.Addr.{Addr}
use Rattle.flat_model.specs.declared.errno.Errno.{Errno}
use Rattle.pcb_table.specs.declared.block.Block.{Block}
use Rattle.pcb_table.specs.Table.{Table, Queues, block_at, machine, socket_with, sockets_with}

-- the search finds the socket of the descriptor, or nothing, whatever is queued
abbrev pub Finds : (List Socket → Option Socket) → Table → Option ℕ → Type 0
Finds search t None = (queues : Queues) → search (sockets_with queues t) ≡ None
Finds search t (Some fd) =
    (b : Block) × (b.fd ≡ fd) × (block_at fd t ≡ Some b)
    × ((queues : Queues) → search (sockets_with queues t) ≡ Some (socket_with queues b))

-- it finds the sockets of these descriptors, in this order, and none twice
pub record FindsAll (search : List Socket → List Socket) (t : Table) (fds : List ℕ) : Type 0 where
  pub found : List Block
  pub named : fds ≡ map (λ b. b.fd) found
  pub once : (fd : ℕ) → times fd fds ≤ 1
  pub are_open : All (λ b. block_at b.fd t ≡ Some b) found
  pub sockets : (queues : Queues) → search (sockets_with queues t) ≡ map (socket_with queues) found

-- ---- calls on an open descriptor

-- the source of its packets to the address
abbrev pub SendsFrom : Table → ℕ → ℕ → ℕ → Type 0
SendsFrom t fd ip source =
    (rest : State) (queues : Queues) (b : Block) → block_at fd t ≡ Some b
    → source ≡ source_for (machine rest queues t).config (socket_with queues b) ip

-- a destination is refused for the first fault of a send's address, otherwise it's the translated address
abbrev pub ChecksDestination : Table → ℕ → Addr → Result Addr Errno → Type 0
ChecksDestination t fd a result =
    (rest : State) (queues : Queues) (b : Block) → block_at fd t ≡ Some b →
    MatchResult result
    (λ to. (first_fault (address_faults (machine rest queues t) (socket_with queues b) (Some a)) ≡ None)
    × (to ≡ read_addr (machine rest queues t).config a))
    (λ errno. first_fault (address_faults (machine rest queues t) (socket_with queues b) (Some a)) ≡ Some errno)

-- only the socket of the descriptor is changed
abbrev pub Changes : Table → ℕ → (Socket → Socket) → Table → Type 0
Changes old fd change new =
    (rest : State) (queues : Queues) → machine rest queues new ≡ change_socket fd change (machine rest queues old)

-- The socket has this port now: the one that it had, or otherwise the next free one, which is then chosen.
pub record EnsuresPort (old : Table) (fd port : ℕ) (new : Table) : Type 0 where
  pub last : Option ℕ
  pub gets : (rest : State) (queues : Queues) (b : Block) → block_at fd old ≡ Some b →
      GetsPort (machine rest queues old) b.local b.port port (machine rest queues (record old { last_port = last }))
  pub changes : Changes (record old { last_port = last }) fd (λ socket. record socket { port = Some port }) new

-- the next port that a bind to any address would choose
abbrev pub ChoosesNext : Table → ℕ → Type 0
ChoosesNext t port = (rest : State) (queues : Queues) → IsNextPort (machine rest queues t) None port

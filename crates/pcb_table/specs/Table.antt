-- The control blocks of a machine (volume 2 chapter 22), and the machines that have them (this project's own).
use Rattle.std.specs.Prelude.{◌≡◌, ℕ, ◌+◌, ◌-◌, ◌==◌, not, List, ◌∷◌, map, filter, find, Option, Some, IsSome, IsNone, unwrap_or, ◌≤◌}
use Rattle.params.specs.declared.TheConstants.{FIRST_DESCRIPTOR, MAX_SOCKETS}
use Rattle.flat_model.specs.declared.lookup_key.LookupKey.{LookupKey}
use Rattle.flat_model.specs.Machine.State.{State, Socket, Datagram}
use Rattle.flat_model.specs.Machine.Event.{Event, Reply}
use Rattle.flat_model.specs.Machine.Step.{Step}
use Rattle.flat_model.specs.declared.address.Addr.{Addr}
use Rattle.pcb_table.specs.declared.block.Block.{Block}

-- This project's record for the list of control blocks and the two variables of volume 2 chapter 22.
pub record Table : Type 0 where
  pub addr : ℕ
  pub bcast : ℕ
  pub blocks : List Block  -- the youngest first
  pub last_port : Option ℕ  -- the last ephemeral port chosen

abbrev pub block_at : ℕ → Table → Option Block
block_at fd t = find (λ block. block.fd == fd) t.blocks

abbrev pub IsOpen : ℕ → Table → Type 0
IsOpen fd t = IsSome (block_at fd t)

-- the open descriptors, in the order of the blocks
abbrev pub descriptors : Table → List ℕ
descriptors t = map (λ b. b.fd) t.blocks

-- the same descriptors are open, in the same order
abbrev pub KeepsOpen : Table → Table → Type 0
KeepsOpen old new = descriptors new ≡ descriptors old

-- one more is open, and its block is the youngest
pub record OpensOnly (old : Table) (fd : ℕ) (new : Table) : Type 0 where
  pub before : IsNone (block_at fd old)
  pub after : descriptors new ≡ fd ∷ descriptors old

-- this one is no longer open, and the others are in the same order
pub record ClosesOnly (old : Table) (fd : ℕ) (new : Table) : Type 0 where
  pub before : IsOpen fd old
  pub after : descriptors new ≡ filter (λ k. not (k == fd)) (descriptors old)

-- ---- the machines that have these blocks

-- Receive queues by descriptor. The table doesn't use them: its contracts hold with any.
abbrev pub Queues : Type 0
Queues = ℕ → List Datagram

abbrev pub socket_with : Queues → Block → Socket
socket_with queues b = record {
  fd = b.fd;
  local = b.local;
  port = b.port;
  peer = b.peer;
  broadcast = b.broadcast;
  reuse_port = b.reuse_port;
  limit = b.receive_limit;
  queue = queues b.fd;
}

abbrev pub sockets_with : Queues → Table → List Socket
sockets_with queues t = map (socket_with queues) t.blocks

-- the machine with these blocks and queues, and otherwise the machine `rest`
abbrev pub machine : State → Queues → Table → State
machine rest queues t = record rest {
  config = record (rest.config) { addr = t.addr; bcast = t.bcast };
  sockets = sockets_with queues t;
  last_port = t.last_port;
}

-- In each machine that has these blocks, the event leads to one with those blocks, with this reply.
abbrev pub IsCall : Table → Event → Reply → Table → Type 0
IsCall old event reply new =
    (rest : State) (queues : Queues) → Step (machine rest queues old) event reply (machine rest queues new)

-- ---- what is looked for

-- by a packet: its values all count as set, 0 among them
abbrev pub packet_key : ℕ → ℕ → Addr → LookupKey
packet_key destination port source = record { local = Some destination; port = Some port; peer = Some source }

-- ---- a block's addresses and ports

-- with 0 where unset
abbrev pub local_of : Block → Addr
local_of b = record { ip = unwrap_or b.local 0; port = unwrap_or b.port 0 }

abbrev pub peer_of : Block → Addr
peer_of b = unwrap_or b.peer (record { ip = 0; port = 0 })

pub record IsDescriptor (fd : ℕ) : Type 0 where
  pub least : FIRST_DESCRIPTOR ≤ fd
  pub most : fd ≤ FIRST_DESCRIPTOR + MAX_SOCKETS - 1

-- The invariants of the fields of a table, and the index of a block (this project's own).
use Rattle.std.specs.Prelude.{◌≡◌, ℕ, ◌+◌, ◌<◌, ◌≤◌, Bool, true, false, is_some, ◌&&◌, ◌==◌, not, List, length, get_or, slice_index_or, count_by, find, Option, Some, None, IsSome, unwrap_or}
use Rattle.params.specs.declared.TheConstants.{FIRST_DESCRIPTOR, FIRST_EPHEMERAL_PORT, LAST_EPHEMERAL_PORT}
use Rattle.pcb_table.specs.Apart.{has_fd, has_four}
use Rattle.pcb_table.specs.declared.block.Block.{Block}
use Rattle.pcb_table.specs.declared.block.Connection.{Connection}
use Rattle.pcb_table.specs.declared.blocks.Index.{Index}
use Rattle.pcb_table.specs.declared.search.Place.{Place}

-- the block has the descriptor, the addresses and the ports of this connection
abbrev pub is_connected_as : Connection → Block → Bool
is_connected_as c b = has_fd c.fd b && has_four c.local.ip c.local.port c.peer b

-- the connection is that of a block
abbrev pub IsCached : List Block → Option Connection → Type 0
IsCached bs None = Unit {0}
IsCached bs (Some c) = 0 < count_by (is_connected_as c) bs

-- the last port chosen is ephemeral
abbrev pub IsInCircle : Option ℕ → Type 0
IsInCircle None = Unit {0}
IsInCircle (Some port) = (FIRST_EPHEMERAL_PORT ≤ port) × (port ≤ LAST_EPHEMERAL_PORT)

-- the lowest descriptor that no block has
pub record IsLowestUnused (bs : List Block) (fd : ℕ) : Type 0 where
  pub least : FIRST_DESCRIPTOR ≤ fd
  pub free : find (has_fd fd) bs ≡ None
  pub passed : (k : ℕ) → FIRST_DESCRIPTOR ≤ k → k < fd → IsSome (find (has_fd k) bs)

-- the block is at this index, and has the descriptor
pub record IsLocated (fd : ℕ) (bs : List Block) (index : ℕ) (block : Block) : Type 0 where
  pub within : index < length bs
  pub is : (d : Block) → slice_index_or bs index d ≡ block
  pub named : block.fd ≡ fd

abbrev pub Locates : ℕ → List Block → Option Place → Type 0
Locates fd bs None = find (has_fd fd) bs ≡ None
Locates fd bs (Some place) = IsLocated fd bs place.index place.block

-- the port of a block in the index: 0 if it has none
abbrev pub port_or_zero : Block → ℕ
port_or_zero b = unwrap_or b.port 0

-- the port of each block is in the list of ports, at the index of the block
abbrev pub HasPorts : List Block → List ℕ → Type 0
HasPorts bs ports = (k : ℕ) (d : Block) → k < length bs → get_or ports k 0 ≡ port_or_zero (slice_index_or bs k d)

-- none of the n ports from this index on is the port
abbrev pub PassesLanes : List ℕ → ℕ → ℕ → ℕ → Type 0
PassesLanes ports port at n = (k : ℕ) → at ≤ k → k < at + n → (get_or ports k 0 == port) ≡ false

-- whether a block is connected
abbrev pub is_connected : Block → Bool
is_connected b = is_some b.peer

-- if the index says that none is connected, none is
abbrev pub ImpliesNoneConnected : Bool → List Block → Type 0
ImpliesNoneConnected none bs = none ≡ true → find is_connected bs ≡ None

-- whether a block has a receive limit
abbrev pub has_limit : Block → Bool
has_limit b = not (b.receive_limit == 0)

-- if the index says that none has a receive limit, none has
abbrev pub ImpliesNoneLimited : Bool → List Block → Type 0
ImpliesNoneLimited none bs = none ≡ true → find has_limit bs ≡ None

-- what the index says of these blocks is true
pub record IsIndexOf (bs : List Block) (i : Index) : Type 0 where
  pub ports : HasPorts bs i.ports
  pub none_connected : ImpliesNoneConnected i.none_connected bs
  pub none_limited : ImpliesNoneLimited i.none_limited bs

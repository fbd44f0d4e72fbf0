-- The searches and refusals of flat_model on blocks, which have no queues (volume 2 sections 22.5 to 22.8). The private
-- functions' clauses name them; the public contracts name flat_model's.
use Rattle.std.specs.Prelude.{◌≡◌, ℕ, ◌<◌, Bool, true, false, ◌==◌, ◌&&◌, ◌||◌, not, if◌then◌else◌, List, [], ◌∷◌, filter, find, Option, Some, None, is_some}
use Rattle.std.specs.Option.{option_or}
use Rattle.flat_model.specs.declared.lookup_key.LookupKey.{LookupKey}
use Rattle.flat_model.specs.Sockets.Lookup.{agree, are_same, is_addr, up_to_first}
use Rattle.flat_model.specs.Machine.Calls.{ephemeral_ports, port_after, is_ours, is_reached, source_for, unless_zero}
use Rattle.flat_model.specs.declared.address.Addr.{Addr}
use Rattle.flat_model.specs.declared.config.Config.{Config}
use Rattle.flat_model.specs.declared.errno.Errno.{Errno}
use Rattle.flat_model.specs.declared.errno.Errno.TheVariants.{Invalid, AddressInUse, AddressNotAvailable, HostUnreachable}
use Rattle.pcb_table.specs.declared.interface.Interface.{Interface}
use Rattle.pcb_table.specs.declared.block.Block.{Block}
use Rattle.pcb_table.specs.Apart.{plain, does_match, has_score}

-- the two parts of a match: the port, and the addresses
abbrev pub has_port : ℕ → Block → Bool
has_port port b = are_same b.port (Some port)

abbrev pub does_agree : LookupKey → Block → Bool
does_agree q b = agree ◌==◌ b.local q.local && agree is_addr b.peer q.peer

-- the blocks from the first one that has the port on
abbrev pub from_port : ℕ → List Block → List Block
from_port port [] = []
from_port port (b ∷ bs) = if has_port port b then b ∷ bs else from_port port bs

abbrev pub youngest_block : ℕ → LookupKey → List Block → Option Block
youngest_block k q bs = find (has_score k q) bs

abbrev pub best_block : LookupKey → List Block → Option Block
best_block q bs = option_or (youngest_block 0 q bs) (option_or (youngest_block 1 q bs) (youngest_block 2 q bs))

abbrev pub receiving_blocks : LookupKey → List Block → List Block
receiving_blocks q bs = up_to_first (λ b. not b.reuse_port) (filter (does_match q) bs)

-- ---- ports

abbrev pub key_port : Option ℕ → ℕ → LookupKey
key_port local port = record { local = local; port = Some port; peer = None }

abbrev pub is_used : List Block → Option ℕ → ℕ → Bool
is_used bs local port = is_some (best_block (key_port local port) bs)

-- the first port in the circle after the last one chosen that no block has
pub record IsFreePort (bs : List Block) (last local : Option ℕ) (port : ℕ) : Type 0 where
  pub turns : ℕ
  pub within : turns < ephemeral_ports
  pub here : port ≡ port_after last turns
  pub free : is_used bs local port ≡ false
  pub passed : (k : ℕ) → k < turns → is_used bs local (port_after last k) ≡ true

-- The requested port, or otherwise the next free one; and the last port chosen then.
abbrev pub GivesPort : List Block → Option ℕ → Option ℕ → Option ℕ → ℕ → Option ℕ → Type 0
GivesPort bs last local (Some asked) port later = (port ≡ asked) × (later ≡ last)
GivesPort bs last local None port later = IsFreePort bs last local port × (later ≡ Some port)

-- ---- refusals

-- a configuration with this interface
abbrev pub interface_config : Interface → Config
interface_config i = record { addr = i.addr; bcast = i.bcast; mtu = 0; mbufs = 0; clusters = 0; first_id = 0 }

abbrev pub lacks_option : Option Block → Bool
lacks_option None = false
lacks_option (Some b) = not b.reuse_port

-- whether a bind of the block to this address and port matches another block that prevents it
abbrev pub is_in_way : List Block → Block → Option ℕ → ℕ → Bool
is_in_way bs me local port =
    if me.reuse_port then lacks_option (youngest_block 0 (key_port local port) bs) else is_used bs local port

abbrev pub block_bind_faults : Config → List Block → Block → Addr → List (Bool × Errno)
block_bind_faults c bs me a =
    (is_some me.port || is_some me.local, Invalid)
    ∷ (not ((a.ip == 0) || is_ours c a.ip), AddressNotAvailable)
    ∷ (not (a.port == 0) && is_in_way bs me (unless_zero a.ip) a.port, AddressInUse)
    ∷ []

abbrev pub block_connect_faults : Config → List Block → Block → Addr → List (Bool × Errno)
block_connect_faults c bs me a =
    (a.port == 0, AddressNotAvailable)
    ∷ (not (is_reached a.ip), HostUnreachable)
    ∷ (
      is_some (youngest_block 0 (record { local = Some (source_for c (plain me) a.ip); port = me.port; peer = Some a })
          bs),
      AddressInUse,
    )
    ∷ []

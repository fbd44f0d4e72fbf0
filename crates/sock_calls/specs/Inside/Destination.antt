-- The destination of a send, and the errors before its buffers are checked (`sosend` and `udp_output` of volume 2,
-- chapters 16 and 23).
use Rattle.std.specs.Prelude.{◌≡◌, ℕ, ◌+◌, Bool, nat_lt, ◌&&◌, not, is_none, List, [], ◌∷◌, Option, Some, None, Result, MatchResult}
use Rattle.params.specs.declared.TheConstants.{IP_UDP_HEADERS, UDP_SEND_SPACE}
use Rattle.flat_model.specs.Machine.State.{State}
use Rattle.flat_model.specs.Packets.Header.{first_fault}
use Rattle.flat_model.specs.Machine.Send.{send_faults, address_faults, target}
use Rattle.flat_model.specs.declared.address.Addr.{Addr}
use Rattle.flat_model.specs.declared.errno.Errno.{Errno}
use Rattle.flat_model.specs.declared.errno.Errno.TheVariants.{Access, DestinationRequired, MessageSize}
use Rattle.pcb_table.specs.declared.block.Block.{Block}
use Rattle.pcb_table.specs.Table.{Table, Queues, block_at, machine, socket_with}

-- the checks before that of the address: that there is one, and that the datagram isn't too long
abbrev pub early_faults : Option Addr → Option Addr → ℕ → List (Bool × Errno)
early_faults to peer n = (is_none to && is_none peer, DestinationRequired) ∷ (nat_lt UDP_SEND_SPACE n, MessageSize) ∷ []

-- the checks of a send to the broadcast address
abbrev pub broadcast_faults : Bool → Bool → ℕ → ℕ → List (Bool × Errno)
broadcast_faults to_all allowed mtu n = (to_all && not allowed, Access)
    ∷ (to_all && nat_lt mtu (n + IP_UDP_HEADERS), MessageSize) ∷ []

-- the address of a send is refused for the first of its faults, otherwise it's the translated address, or the peer's
abbrev pub FindsTarget : Table → ℕ → Option Addr → Result Addr Errno → Type 0
FindsTarget t fd to result =
    (rest : State) (queues : Queues) (b : Block) → block_at fd t ≡ Some b →
    MatchResult result
    (λ a. (first_fault (address_faults (machine rest queues t) (socket_with queues b) to) ≡ None)
    × (a ≡ target (machine rest queues t) (socket_with queues b) to))
    (λ errno. first_fault (address_faults (machine rest queues t) (socket_with queues b) to) ≡ Some errno)

-- a send of n bytes is refused for the first of its faults, otherwise it goes to this address
abbrev pub ChecksSend : Table → ℕ → ℕ → Option Addr → ℕ → Result Addr Errno → Type 0
ChecksSend t mtu fd to n result =
    (rest : State) (queues : Queues) (b : Block) → block_at fd t ≡ Some b → rest.config.mtu ≡ mtu →
    MatchResult result
    (λ a. (first_fault (send_faults (machine rest queues t) (socket_with queues b) to n) ≡ None)
    × (a ≡ target (machine rest queues t) (socket_with queues b) to))
    (λ errno. first_fault (send_faults (machine rest queues t) (socket_with queues b) to n) ≡ Some errno)

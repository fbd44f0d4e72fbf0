-- What a host shows, and the state that it means (this project's own).
use Rattle.std.specs.Prelude.{◌≡◌, ℕ, ◌==◌, Bool, true, false, List, Option, Some, None}
use Rattle.std.specs.List.{count_by}
use Rattle.std.specs.Borrow.{Lends, MutBor, Fml}
use Rattle.flat_model.specs.Machine.Fate.{Fated}
use Rattle.flat_model.specs.declared.config.Config.{Config}
use Rattle.flat_model.specs.declared.fate.Fate.{Fate}
use Rattle.flat_ether.specs.Frames.{body_of, kind_of}
use Rattle.flat_ether.specs.Hosts.{Host}
use Rattle.flat_ether.specs.Options.{plain}
use Rattle.flat_ether.specs.Links.{LinkState, WaitingPacket}
use Rattle.flat_ether.specs.Settings.{link_fault}
use Rattle.flat_ether.specs.declared.link.FrameKind.{FrameKind}
use Rattle.flat_ether.specs.declared.link.FrameKind.TheVariants.{Packet}
use Rattle.flat_ether.specs.declared.link.Link.{Link}
use Rattle.net_stack.specs.Boots as boots
use Rattle.net_stack.specs.Stack.{StackView, state_of}
use Rattle.net_stack.specs.contracts.stack.Stack.{the_row as stack_row}
use Rattle.ether_host.specs.contracts.host.EtherHost.{the_row}
use Rattle.ether_host.specs.Inside.{link_seen}
use Rattle.ether_host.specs.declared.host.EtherHost.{EtherHost}
use Rattle.ether_host.specs.declared.host.EtherFault.{EtherFault}
use Rattle.ether_host.specs.declared.host.EtherFault.TheVariants.{BadLink, Unbooted}

pub record HostView : Type 0 where
  pub stack : StackView
  pub link : LinkState

abbrev pub host_view : EtherHost → HostView
host_view h = record { stack = h.stack; link = link_seen h.layer }

-- the host of a stack and a link
abbrev pub halves : StackView → LinkState → Host
halves s l = record { machine = state_of s; link = l }

-- the host that it means
abbrev pub host_of : HostView → Host
host_of v = record { machine = state_of v.stack; link = v.link }

-- what is told of a frame that arrives: the fate of its packet, or nothing if it has none for the stack
abbrev pub TellsKind : FrameKind → List ℕ → Option Fate → Host → Host → Type 0
TellsKind Packet f (Some fate) old new = Fated old.machine (plain (body_of f)) fate new.machine
TellsKind Packet f None old new = ⊥
TellsKind _ f told old new = told ≡ None

abbrev pub TellsFrame : List ℕ → Option Fate → Host → Host → Type 0
TellsFrame f told old new = TellsKind (kind_of old.link.config old.link.link.mac f) f told old new

-- the host ends with the last value of the reference as its stack
abbrev pub LendsStack : MutBor EtherHost → MutBor StackView → Fml
LendsStack h r = Lends the_row stack_row h r (λ s. record h.now { stack = s })

abbrev pub waits_for : ℕ → WaitingPacket → Bool
waits_for hop it = it.hop == hop

-- how many packets wait for the hardware address of this next hop
abbrev pub held_for : ℕ → LinkState → ℕ
held_for hop link = count_by (waits_for hop) link.held

-- why there is no host: the link is tested first
abbrev pub IsHostUnbooted : Config → Link → EtherFault → Type 0
IsHostUnbooted c l (BadLink fault) = link_fault c l ≡ Some fault
IsHostUnbooted c l (Unbooted fault) = (link_fault c l ≡ None) × boots.IsUnbooted c fault

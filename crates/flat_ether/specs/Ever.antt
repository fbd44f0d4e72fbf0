-- Two hosts on one Ethernet without end (this project's own). The premises are those of two machines on a wire, for the
-- turns of the hosts' machines.
use Rattle.std.specs.Prelude.{◌≡◌, ◌≢◌, ℕ, List, [], ◌∷◌, ◌++◌, length, map, filter_map, All, Option, Some, None}
use Rattle.flat_model.specs.Machine.Event.{Comes, Done, Tick}
use Rattle.flat_model.specs.Machine.State.{IsConfig, State}
use Rattle.flat_model.specs.Runs.Run.{Turn}
use Rattle.flat_model.specs.declared.config.Config.{Config}
use Rattle.flat_wire.specs.Ever.{AreNear, IsMadeBySend, IsShortSend}
use Rattle.flat_wire.specs.Trail.{PassedStep}
use Rattle.flat_wire.specs.Wire.{ComesFrom, packet_in}
use Rattle.flat_ether.specs.Frames.{body_of, kind_of}
use Rattle.flat_ether.specs.Options.{plain}
use Rattle.flat_ether.specs.Hosts.{HostAct, AreHostActs, IsHostAct, Host, host_up, Comes_in, Goes_out, Clock, Calls, Asks_error}
use Rattle.flat_ether.specs.Laws.{IsInFrames, frames_out, packets_to}
use Rattle.flat_ether.specs.declared.link.Link.{Link}
use Rattle.flat_ether.specs.declared.link.FrameKind.{FrameKind}
use Rattle.flat_ether.specs.declared.link.FrameKind.TheVariants.{Packet, Martian, Arp, Other}
use Rattle.flat_ether.specs.declared.mac.Mac.{Mac}

-- an act, and the host before and after it
pub record PassedAct : Type 0 where
  pub old : Host
  pub act : HostAct
  pub new : Host

-- these acts, one after another, lead from the first host to the last
abbrev pub ArePassed : Host → List PassedAct → Host → Type 0
ArePassed old [] new = new ≡ old
ArePassed old (p ∷ later) new = (p.old ≡ old) × IsHostAct p.old p.act p.new × ArePassed p.new later new

abbrev pub acts_passed : List PassedAct → List HostAct
acts_passed passed = map (λ (p : PassedAct). p.act) passed

-- the turn of the machine when a frame of this kind arrives
abbrev pub turn_if : FrameKind → List ℕ → Option Turn
turn_if Packet f = Some (record { event = Comes (plain (body_of f)); reply = Done })
turn_if Martian f = None
turn_if Arp f = None
turn_if Other f = None

-- the turn of the machine in an act; those in which the link takes its packets aren't among them
abbrev pub turn_of_act : Config → Mac → HostAct → Option Turn
turn_of_act c mac (Comes_in f) = turn_if (kind_of c mac f) f
turn_of_act c mac (Goes_out f) = None
turn_of_act c mac Clock = Some (record { event = Tick; reply = Done })
turn_of_act c mac (Calls turn) = Some turn
turn_of_act c mac (Asks_error fd fault) = None

abbrev pub turns_of_acts : Config → Mac → List HostAct → List Turn
turns_of_acts c mac acts = filter_map (turn_of_act c mac) acts

-- the same turn, with the machine before and after it
abbrev pub step_by : Option Turn → State → State → Option PassedStep
step_by None old new = None
step_by (Some turn) old new = Some (record { old = old; turn = turn; new = new })

abbrev pub step_of_act : Config → Mac → PassedAct → Option PassedStep
step_of_act c mac p = step_by (turn_of_act c mac p.act) p.old.machine p.new.machine

abbrev pub steps_of_acts : Config → Mac → List PassedAct → List PassedStep
steps_of_acts c mac passed = filter_map (step_of_act c mac) passed

-- Two hosts from their start, as in `AreOnEthernet`. The first sends any number of datagrams, but none that is longer
-- than one packet.
pub record AreOnEthernetWhole (c d : Config) (l m : Link) (sent came : List HostAct) (s t : Host) : Type 0 where
  pub first_boots : IsConfig c
  pub second_boots : IsConfig d
  pub first_acts : AreHostActs (host_up c l) sent s
  pub second_acts : AreHostActs (host_up d m) came t
  pub not_addr : c.addr ≢ d.addr
  pub not_bcast : c.addr ≢ d.bcast
  pub whole : All (λ (turn : Turn). IsShortSend c.mtu turn.event) (turns_of_acts c l.mac sent)
  pub wire : All (λ packet. ComesFrom c.addr packet → IsInFrames (frames_out sent) packet) (packets_to d m.mac came)

-- Two hosts from their start; the first sends any number of datagrams of any length. Each UDP packet that arrived at
-- the second from the first's address was made by a send of the first, whose number `born` gives for each turn of the
-- second. Two fragments that arrived with fewer than 60 ticks between them come from sends that are fewer than 65,536
-- apart.
pub record AreOnEthernetForEver (c d : Config) (l m : Link) (sent : List PassedAct) (came : List HostAct) (s t : Host)
    (born : ℕ → ℕ) : Type 0 where
  pub first_boots : IsConfig c
  pub second_boots : IsConfig d
  pub first_acts : ArePassed (host_up c l) sent s
  pub second_acts : AreHostActs (host_up d m) came t
  pub not_addr : c.addr ≢ d.addr
  pub not_bcast : c.addr ≢ d.bcast
  pub wire : (before after : List Turn) (turn : Turn) (packet : List ℕ)
      → turns_of_acts d m.mac came ≡ before ++ turn ∷ after → packet_in turn ≡ Some packet → ComesFrom c.addr packet
      → IsMadeBySend (steps_of_acts c l.mac sent) (born (length before)) packet
  pub near : AreNear c.addr (turns_of_acts d m.mac came) born

-- A host on an Ethernet: the flat machine and its link, and each step of both (this project's own).
use Rattle.std.specs.Prelude.{◌≡◌, ℕ, ◌+◌, ◌-◌, ◌≤◌, ◌==◌, Bool, filter, filter_map, take, if◌then◌else◌, List, [], ◌∷◌, length, is_some, Option, Some, None, Result, Ok, Err}
use Rattle.params.specs.declared.TheConstants.{IP_MAX_PACKET}
use Rattle.flat_model.specs.Amounts.Weight.{Item}
use Rattle.flat_model.specs.Machine.Event.{Tick, Done, IsEvent, IsBytes}
use Rattle.flat_model.specs.Machine.Fate.{Fated}
use Rattle.flat_model.specs.Machine.State.{Key, State, Socket, Unfinished, boot, socket_at}
use Rattle.flat_model.specs.Machine.Step.{Step}
use Rattle.flat_model.specs.Runs.Run.{Turn}
use Rattle.flat_model.specs.declared.config.Config.{Config}
use Rattle.flat_model.specs.declared.fate.Fate.{Fate}
use Rattle.flat_ether.specs.Claims.{is_claimed}
use Rattle.flat_ether.specs.Frames.{body_of, mac_at, same_mac, kind_of}
use Rattle.flat_ether.specs.declared.error.NetFault.{NetFault}
use Rattle.flat_model.specs.declared.errno.Errno.{Errno}
use Rattle.flat_model.specs.declared.errno.Errno.TheVariants.{BadDescriptor}
use Rattle.flat_ether.specs.Options.{has_options, plain}
use Rattle.flat_ether.specs.Links.{LinkState, Gives, answers_fate, gives_claim, gives_own, receives_arp, ignores, link_up, refuses, sends, takes_error, ticks, with_place}
use Rattle.flat_ether.specs.declared.link.Link.{Link}
use Rattle.flat_ether.specs.declared.link.FrameKind.{FrameKind}
use Rattle.flat_ether.specs.declared.link.FrameKind.TheVariants.{Packet, Martian, Arp, Other}
use Rattle.flat_ether.specs.declared.sizes.TheConstants.{ETHER_HEADER, EXPIRED_DATAGRAMS}

pub record Host : Type 0 where
  pub machine : State
  pub link : LinkState

abbrev pub host_up : Config → Link → Host
host_up c l = record { machine = boot c; link = link_up c l }

-- ---- a frame arrives

-- the frame is addressed to this host, not broadcast
abbrev pub is_to_us : LinkState → List ℕ → Bool
is_to_us s f = same_mac (mac_at 0 f) s.link.mac

-- what the link does with a packet of which this became in the machine: a broadcast one gets no reply, and no error is
-- taken from it
abbrev pub answers : List ℕ → Fate → LinkState → LinkState
answers f fate s = if is_to_us s f then answers_fate (body_of f) fate s else s

-- a packet is copied without its options to the last place for packets that wait: if that's in use, the one that has
-- waited longest is dropped
abbrev pub makes_place : List ℕ → LinkState → LinkState
makes_place came s = if has_options came then with_place s else s

-- a packet is given to the machine without its options, and the link replies to what came by what became of it
pub record TakesPacket (f : List ℕ) (old new : Host) : Type 0 where
  pub fate : Fate
  pub machine : Fated old.machine (plain (body_of f)) fate new.machine
  pub link : new.link ≡ answers f fate (makes_place (body_of f) old.link)

abbrev pub ReceivesKind : FrameKind → List ℕ → Host → Host → Type 0
ReceivesKind Packet f old new = TakesPacket f old new
ReceivesKind Martian f old new = new ≡ record old { link = refuses old.link }
ReceivesKind Arp f old new = new ≡ record old { link = receives_arp (body_of f) old.link }
ReceivesKind Other f old new = new ≡ record old { link = ignores old.link }

abbrev pub TakesFrame : List ℕ → Host → Host → Type 0
TakesFrame f old new = ReceivesKind (kind_of old.link.config old.link.link.mac f) f old new

-- ---- a frame is sent

-- what happens to the machine's packets, one after another, until one is sent: the frame, the packets that still wait
-- for the link, and the link afterwards
pub record Drained : Type 0 where
  pub frame : Option (List ℕ)
  pub output : List Item
  pub link : LinkState

abbrev pub or_drains : Gives → List Item → Drained → Drained
or_drains (None, s) later rest = rest
or_drains (Some frame, s) later rest = record { frame = Some frame; output = later; link = s }

abbrev pub drained : List Item → LinkState → Drained
drained [] s = record { frame = None; output = []; link = s }
drained (item ∷ later) s = or_drains (sends item.bytes s) later (drained later (sends item.bytes s).1)

-- the machine with these packets left in its output queue
abbrev pub with_output_left : State → List Item → State
with_output_left s output = record s { output = output }

-- the machine has no packet that can be sent now: a packet that waits since then may need an ARP request
abbrev pub gives_after : Host → Drained → Option (List ℕ) × Host
gives_after h d =
    if is_some d.frame
    then (d.frame, record { machine = with_output_left h.machine d.output; link = d.link })
    else ((gives_own d.link).0, record { machine = with_output_left h.machine d.output; link = (gives_own d.link).1 })

abbrev pub gives_drained : Host → LinkState → Option (List ℕ) × Host
gives_drained h s = gives_after h (drained h.machine.output s)

-- the link's own frames first, then the machine's packets, and then the requests for packets that wait because of them
abbrev pub gives_claimed : Host → Option (List ℕ) × Host
gives_claimed h =
    let own = gives_own h.link in
    if is_some own.0 then (own.0, record h { link = own.1 }) else gives_drained h own.1

-- a probe, if one is due
abbrev pub gives_probe : Host → Option (List ℕ) × Host
gives_probe h = ((gives_claim h.link).0, record h { link = (gives_claim h.link).1 })

-- the next frame for the link, and the host then: until it has its address, it sends only probes
abbrev pub gives : Host → Option (List ℕ) × Host
gives h = if is_claimed h.link.claim then gives_claimed h else gives_probe h

-- ---- a query for an error

abbrev pub error_of_socket : Option Socket → Host → Result (Option NetFault) Errno × Host
error_of_socket None h = (Err BadDescriptor, h)
error_of_socket (Some me) h =
    (Ok (takes_error me.port me.peer h.link).0, record h { link = (takes_error me.port me.peer h.link).1 })

-- what other hosts reported for the datagrams that a connected socket sent to its peer, and the host then: each error
-- is returned once
abbrev pub last_error : ℕ → Host → Result (Option NetFault) Errno × Host
last_error fd h = error_of_socket (socket_at fd h.machine) h

-- ---- the clock

-- an unfinished datagram that the next tick drops
abbrev pub expires : Unfinished → Bool
expires u = u.ticks - 1 == 0

-- its key, if its first byte has arrived
abbrev pub first_key : Unfinished → Option Key
first_key u = if is_some (u.bytes 0) then Some u.key else None

-- those of the oldest datagrams that the next tick drops
abbrev pub expired_keys : State → List Key
expired_keys s = filter_map first_key (take EXPIRED_DATAGRAMS (filter expires s.unfinished))

pub record Ticks (old new : Host) : Type 0 where
  pub machine : Step old.machine Tick Done new.machine
  pub link : new.link ≡ ticks (expired_keys old.machine) old.link

-- ---- whole runs

-- what is done with a host: a frame arrives, the link takes the next one, the clock ticks, a call is made on its stack,
-- or an error is queried
pub data HostAct : Type 0 where
  Comes_in : (frame : List ℕ) → HostAct
  Goes_out : (frame : Option (List ℕ)) → HostAct
  Clock : HostAct
  Calls : (turn : Turn) → HostAct
  Asks_error : (fd : ℕ) → (fault : Result (Option NetFault) Errno) → HostAct

pub record CallsMachine (turn : Turn) (old new : Host) : Type 0 where
  pub event : IsEvent turn.event
  pub machine : Step old.machine turn.event turn.reply new.machine
  pub link : new.link ≡ old.link

abbrev pub IsHostAct : Host → HostAct → Host → Type 0
IsHostAct old (Comes_in f) new = IsBytes f × (length f ≤ ETHER_HEADER + IP_MAX_PACKET) × TakesFrame f old new
IsHostAct old (Goes_out f) new = (f, new) ≡ gives old
IsHostAct old Clock new = Ticks old new
IsHostAct old (Calls turn) new = CallsMachine turn old new
IsHostAct old (Asks_error fd fault) new = (fault, new) ≡ last_error fd old

abbrev pub AreHostActs : Host → List HostAct → Host → Type 0
AreHostActs old [] new = new ≡ old
AreHostActs old (act ∷ acts) new = (mid : Host) × IsHostAct old act mid × AreHostActs mid acts new

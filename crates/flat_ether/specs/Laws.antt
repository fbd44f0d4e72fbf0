-- What holds for whole runs of a host (this project's own).
use Rattle.std.specs.Prelude.{◌≡◌, ◌≢◌, ◌⊎◌, ℕ, ◌<◌, ◌≤◌, ◌+◌, ◌/◌, ◌%◌, ◌^◌, List, [], ◌∷◌, ◌++◌, length, slice_index, filter_map, option_to_list, All, Contains, Option, Some, None, Bool, true, ◌==◌, ◌&&◌, if◌then◌else◌}
use Rattle.params.specs.declared.TheConstants.{PROTOCOL_UDP}
use Rattle.flat_model.specs.Machine.Ledger.{exact_ledger}
use Rattle.flat_model.specs.Machine.Count.{value_of}
use Rattle.flat_model.specs.Packets.Header.{head_of, u16_at}
use Rattle.flat_model.specs.declared.address.Addr.{Addr}
use Rattle.flat_model.specs.declared.counter.Counter.TheVariants.{IpLocalout}
use Rattle.flat_model.specs.Machine.State.{IsConfig, Socket, Datagram, boot}
use Rattle.flat_model.specs.Runs.Run.{Turn, Leads}
use Rattle.flat_model.specs.Machine.Calls.{is_ours}
use Rattle.flat_wire.specs.Wire.{ComesFrom, IsAnswered, WasSent, ip_source, packet_in, packet_out}
use Rattle.flat_ether.specs.Frames.{arp_bytes, arp_of, body_of, ether_broadcast, frame, is_host_mac, kind_of, mac_at, no_mac}
use Rattle.flat_ether.specs.Icmp.{echo_reply, error_reply}
use Rattle.flat_ether.specs.Options.{plain}
use Rattle.flat_ether.specs.Hosts.{HostAct, AreHostActs, Host, host_up, Comes_in, Goes_out, Clock, Calls, Asks_error}
use Rattle.flat_ether.specs.Links.{is_sound_arp, route_to}
use Rattle.flat_model.specs.declared.config.Config.{Config}
use Rattle.flat_ether.specs.declared.link.Link.{Link}
use Rattle.flat_ether.specs.declared.link.FrameKind.{FrameKind}
use Rattle.flat_ether.specs.declared.link.FrameKind.TheVariants.{Packet, Martian, Arp, Other}
use Rattle.flat_ether.specs.declared.link.Route.TheVariants.{All as To_all, Hop}
use Rattle.flat_ether.specs.declared.mac.Mac.{Mac}
use Rattle.flat_ether.specs.declared.tallies.Tallies.{Tallies}
use Rattle.flat_ether.specs.declared.sizes.TheConstants.{ETHER_TYPE_ARP, ETHER_TYPE_IP}

-- ---- what arrives

-- the packet of a frame of this kind, without its options
abbrev pub packet_if : FrameKind → List ℕ → List (List ℕ)
packet_if Packet f = plain (body_of f) ∷ []
packet_if Martian f = []
packet_if Arp f = []
packet_if Other f = []

-- the packets that are given to the machine in an act: that of a frame for the host, or one that the program passes to
-- `rx`
abbrev pub packets_in : Config → Mac → HostAct → List (List ℕ)
packets_in c mac (Comes_in f) = packet_if (kind_of c mac f) f
packets_in c mac (Goes_out f) = []
packets_in c mac Clock = []
packets_in c mac (Calls turn) = filter_map packet_in (turn ∷ [])
packets_in c mac (Asks_error fd fault) = []

abbrev pub packets_to : Config → Mac → List HostAct → List (List ℕ)
packets_to c mac [] = []
packets_to c mac (act ∷ acts) = packets_in c mac act ++ packets_to c mac acts

-- how many packets that can't come from a link a frame of this kind brings (RFC 1122, section 3.2.1.3)
abbrev pub martian_if : FrameKind → ℕ
martian_if Packet = 0
martian_if Martian = 1
martian_if Arp = 0
martian_if Other = 0

abbrev pub martian_in : Config → Mac → HostAct → ℕ
martian_in c mac (Comes_in f) = martian_if (kind_of c mac f)
martian_in c mac (Goes_out f) = 0
martian_in c mac Clock = 0
martian_in c mac (Calls turn) = 0
martian_in c mac (Asks_error fd fault) = 0

-- how many such packets arrived in these acts
abbrev pub martians_in : Config → Mac → List HostAct → ℕ
martians_in c mac [] = 0
martians_in c mac (act ∷ acts) = martian_in c mac act + martians_in c mac acts

-- ---- what is sent

abbrev pub frame_in : HostAct → List (List ℕ)
frame_in (Comes_in f) = f ∷ []
frame_in (Goes_out f) = []
frame_in Clock = []
frame_in (Calls turn) = []
frame_in (Asks_error fd fault) = []

abbrev pub frame_out : HostAct → List (List ℕ)
frame_out (Comes_in f) = []
frame_out (Goes_out f) = option_to_list f
frame_out Clock = []
frame_out (Calls turn) = []
frame_out (Asks_error fd fault) = []

-- the frames that were sent
abbrev pub frames_out : List HostAct → List (List ℕ)
frames_out [] = []
frames_out (act ∷ acts) = frame_out act ++ frames_out acts

-- the ARP packets among the frames for the host
abbrev pub arp_if : FrameKind → List ℕ → Option (List ℕ)
arp_if Packet f = None
arp_if Martian f = None
arp_if Arp f = Some (body_of f)
arp_if Other f = None

-- this ARP packet gives the hardware address of the host with this address
abbrev pub is_arp_from : Link → ℕ → List ℕ → Bool
is_arp_from l ip b = is_sound_arp l b && ((arp_of b).ip == ip)

abbrev pub given_in : Link → ℕ → Option (List ℕ) → Option Mac → Option Mac
given_in l ip None before = before
given_in l ip (Some b) before = if is_arp_from l ip b then Some (arp_of b).mac else before

-- the hardware address that the most recent of these frames gives for an address; the list begins with the most recent
abbrev pub last_given : Config → Link → ℕ → List (List ℕ) → Option Mac
last_given c l ip [] = None
last_given c l ip (f ∷ before) = given_in l ip (arp_if (kind_of c l.mac f) f) (last_given c l ip before)

-- the reply to the packet of one of these frames, with some identification
abbrev pub IsReply : Config → List (List ℕ) → List (List ℕ) → Type 0
IsReply c frames reply =
    (frame : List ℕ) × Contains frames frame
    × (id : ℕ) × ((reply ≡ echo_reply c id (body_of frame))
    ⊎ ((kind code : ℕ) × (reply ≡ error_reply c id kind code (body_of frame))))

-- the machine gave the packet, or it's part of the reply to the packet of a frame that arrived before
abbrev pub IsMade : Config → List (List ℕ) → List (List ℕ) → List ℕ → Type 0
IsMade c frames given packet =
    Contains given packet
    ⊎ ((reply : List (List ℕ)) × IsReply c frames reply × Contains reply packet)

-- to the broadcast address if that is the packet's route; otherwise to the hardware address that was given last for its
-- next hop
abbrev pub IsRoute : Config → Link → List (List ℕ) → List ℕ → Mac → Type 0
IsRoute c l frames packet mac =
    ((route_to c l packet ≡ To_all) × (mac ≡ ether_broadcast))
    ⊎ ((hop : ℕ) × (route_to c l packet ≡ Hop hop) × (last_given c l hop frames ≡ Some mac))

-- the frame has such a packet, whole
pub record CarriesPacket (c : Config) (l : Link) (frames given : List (List ℕ)) (f : List ℕ) : Type 0 where
  pub packet : List ℕ
  pub mac : Mac
  pub frame_is : f ≡ frame mac l.mac ETHER_TYPE_IP packet
  pub made : IsMade c frames given packet
  pub route : IsRoute c l frames packet mac

-- a frame with an ARP packet of the host, which has its address as the sender's, or 0 in a probe; it's sent to the
-- broadcast address, or to one that a host can have
pub record IsOwnArp (c : Config) (l : Link) (f : List ℕ) : Type 0 where
  pub op : ℕ
  pub sender : ℕ
  pub sender_is : (sender ≡ c.addr) ⊎ (sender ≡ 0)
  pub to : Mac
  pub to_is : (to ≡ ether_broadcast) ⊎ (is_host_mac to ≡ true)
  pub target_mac : Mac
  pub target : ℕ
  pub frame_is : f ≡ frame to l.mac ETHER_TYPE_ARP (arp_bytes op l.mac sender target_mac target)

abbrev pub IsFrameSent : Config → Link → List (List ℕ) → List (List ℕ) → List ℕ → Type 0
IsFrameSent c l frames given f = IsOwnArp c l f ⊎ CarriesPacket c l frames given f

-- the frames that arrived before an act and in it, the most recent first
abbrev pub frames_then : HostAct → List (List ℕ) → List (List ℕ)
frames_then act before = frame_in act ++ before

-- Each frame that is sent in one of these acts is sent so, after the frames that arrived before it. `given` are the
-- packets that the machine gave.
abbrev pub AreSent : Config → Link → List (List ℕ) → List (List ℕ) → List HostAct → Type 0
AreSent c l given before [] = Unit {0}
AreSent c l given before (act ∷ acts) =
    All (IsFrameSent c l before given) (frame_out act) × AreSent c l given (frames_then act before) acts

-- These acts are turns of the machine. In these turns the packets of the frames for the host arrived, in their order.
-- Each frame that was sent is an ARP packet of the host, or has a packet that the machine gave or that is part of a
-- reply. Each packet that still waits for a hardware address is one that the machine gave: no reply waits among them.
pub record MakesTurns (c : Config) (l : Link) (acts : List HostAct) (new : Host) : Type 0 where
  pub turns : List Turn
  pub leads : Leads exact_ledger (boot c) turns new.machine
  pub came : filter_map packet_in turns ≡ packets_to c l.mac acts
  pub went : AreSent c l (filter_map packet_out turns) [] acts
  pub waits : All (λ h. Contains (filter_map packet_out turns) h.packet) new.link.held

-- ---- the source addresses that a host uses

-- the packet's source is one of the host's addresses
abbrev pub IsOwn : Config → List ℕ → Type 0
IsOwn c packet = is_ours c (ip_source packet) ≡ true

-- the frame is sent to the broadcast address, or to one that isn't a group's (its first byte is even) and not all zeros
abbrev pub IsToHost : List ℕ → Type 0
IsToHost f =
    (mac_at 0 f ≡ ether_broadcast) ⊎ (((mac_at 0 f).high / 256 % 2 ≡ 0) × (mac_at 0 f ≢ no_mac))

-- how many replies and errors the host accepted to send
abbrev pub answered : Tallies → ℕ
answered t = t.echoes + t.unreachable + t.expired

-- the packet has this identification
abbrev pub HasId : ℕ → List ℕ → Type 0
HasId id packet = (head_of packet).id ≡ id

-- the frame has no packet that is longer than this
abbrev pub IsWithin : ℕ → List ℕ → Type 0
IsWithin mtu f = u16_at 12 f ≡ ETHER_TYPE_IP → length (body_of f) ≤ mtu

-- the frame has a packet of UDP
abbrev pub IsUdpFrame : List ℕ → Type 0
IsUdpFrame f = (u16_at 12 f ≡ ETHER_TYPE_IP) × (slice_index (body_of f) 9 ≡ PROTOCOL_UDP)

-- ---- two hosts

-- one of these frames has the packet
abbrev pub IsInFrames : List (List ℕ) → List ℕ → Type 0
IsInFrames frames packet = (f : List ℕ) × Contains frames f × (u16_at 12 f ≡ ETHER_TYPE_IP) × (body_of f ≡ packet)

-- Two hosts from their start. Each UDP packet that arrived at the second one with the first one's address was in a
-- frame that the first one gave, in any order and any number of times; the first one sent fewer than 65,536 times; and
-- the second one doesn't have the first one's address.
pub record AreOnEthernet (c d : Config) (l m : Link) (sent came : List HostAct) (s t : Host) : Type 0 where
  pub first_boots : IsConfig c
  pub second_boots : IsConfig d
  pub first_acts : AreHostActs (host_up c l) sent s
  pub second_acts : AreHostActs (host_up d m) came t
  pub not_addr : c.addr ≢ d.addr
  pub not_bcast : c.addr ≢ d.bcast
  pub few : value_of IpLocalout s.machine.counters < 2 ^ 16
  pub wire : All (λ packet. ComesFrom c.addr packet → IsInFrames (frames_out sent) packet) (packets_to d m.mac came)

-- Then each datagram that `recvfrom` of the second one returns with the first one's address as the sender's was sent
-- so, by turns that the first one's acts are: `before` are the second one's acts until then.
pub record WasReceivedOnEthernet (c d : Config) (l m : Link) (sent before : List HostAct) (s : Host) (fd most : ℕ)
    (sender : Addr) (bytes : List ℕ) : Type 0 where
  pub makes : MakesTurns c l sent s
  pub then' : Host
  pub makes_then : MakesTurns d m before then'
  pub was : WasSent exact_ledger exact_ledger c d makes.turns makes_then.turns s.machine fd most sender bytes

-- Then each datagram in a queue of the second one with the first one's address as its sender was sent so, by turns that
-- the first one's acts are.
pub record WasSentOnEthernet (c d : Config) (l : Link) (sent : List HostAct) (s : Host) (socket : Socket)
    (datagram : Datagram) : Type 0 where
  pub makes : MakesTurns c l sent s
  pub to : Addr
  pub answered : IsAnswered exact_ledger c makes.turns s.machine datagram.sender.port to datagram.item.bytes
  pub port : socket.port ≡ Some to.port
  pub here : (to.ip ≡ d.addr) ⊎ (to.ip ≡ d.bcast)

-- ---- any number of hosts

-- the frames that arrived in these acts, and the packets that the program itself passed to `rx`
abbrev pub frames_in : List HostAct → List (List ℕ)
frames_in [] = []
frames_in (act ∷ acts) = frame_in act ++ frames_in acts

abbrev pub handed_in : HostAct → List (List ℕ)
handed_in (Comes_in f) = []
handed_in (Goes_out f) = []
handed_in Clock = []
handed_in (Calls turn) = filter_map packet_in (turn ∷ [])
handed_in (Asks_error fd fault) = []

abbrev pub packets_handed : List HostAct → List (List ℕ)
packets_handed [] = []
packets_handed (act ∷ acts) = handed_in act ++ packets_handed acts

-- another host, and all that was done with it
pub record OtherHost : Type 0 where
  pub config : Config
  pub link : Link
  pub acts : List HostAct
  pub last : Host

-- it ran from its start, and has an address other than this one
pub record IsOther (address : ℕ) (o : OtherHost) : Type 0 where
  pub boots : IsConfig o.config
  pub done : AreHostActs (host_up o.config o.link) o.acts o.last
  pub not_addr : address ≢ o.config.addr
  pub not_bcast : address ≢ o.config.bcast

-- the first host or another one gave the frame, or it has no UDP packet with this address, which is the first host's
abbrev pub IsUnforged : ℕ → List HostAct → List ℕ → Type 0
IsUnforged address sent f =
    Contains (frames_out sent) f ⊎ ((o : OtherHost) × IsOther address o × Contains (frames_out o.acts) f)
    ⊎ ¬ ComesFrom address (body_of f)

-- Two hosts of any number on one Ethernet. Each frame that arrived at the second one is one that a host gave, in any
-- order and any number of times, or has no UDP packet with the first one's address; and the program itself passed the
-- second one no such packet. The first one sent fewer than 65,536 times, and no other host has its address. The first
-- seven members are those of `AreOnEthernet`: written out, they can be read without it.
pub record AreAmongHosts (c d : Config) (l m : Link) (sent came : List HostAct) (s t : Host) : Type 0 where
  pub first_boots : IsConfig c
  pub second_boots : IsConfig d
  pub first_acts : AreHostActs (host_up c l) sent s
  pub second_acts : AreHostActs (host_up d m) came t
  pub not_addr : c.addr ≢ d.addr
  pub not_bcast : c.addr ≢ d.bcast
  pub few : value_of IpLocalout s.machine.counters < 2 ^ 16
  pub frames : All (IsUnforged c.addr sent) (frames_in came)
  pub handed : All (λ packet. ¬ ComesFrom c.addr packet) (packets_handed came)

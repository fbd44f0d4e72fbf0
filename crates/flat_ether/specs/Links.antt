-- The link state that a host keeps as well as the machine, and its steps (volume 2, chapters 4 and 21; RFC 826). All
-- steps are functions: no result is left open.
use Rattle.std.specs.Prelude.{ℕ, ◌+◌, ◌-◌, ◌*◌, ◌%◌, nat_lt, nat_le, Bool, ◌==◌, ◌&&◌, ◌||◌, not, if◌then◌else◌, List, [], ◌∷◌, ◌++◌, length, min, map, filter, position, drop, remove, slice_get, slice_index_or, slice_set, Option, Some, None, is_some, Result, Ok, Err, take}
use Rattle.params.specs.declared.TheConstants.{IP_HEADER}
use Rattle.flat_model.specs.Packets.Header.{head_of, u32_at}
use Rattle.flat_model.specs.Machine.Arrival.{key_of}
use Rattle.flat_model.specs.Machine.Count.{more_by}
use Rattle.flat_model.specs.Machine.State.{Key}
use Rattle.flat_model.specs.declared.config.Config.{Config}
use Rattle.flat_model.specs.declared.counters.Why.{Why}
use Rattle.flat_model.specs.declared.fate.Fate.{Fate}
use Rattle.flat_model.specs.declared.fate.Fate.TheVariants.{Delivered, Kept, Completed, Dropped}
use Rattle.flat_model.specs.declared.fate.Reached.{Reached}
use Rattle.flat_ether.specs.Claims.{claim_due, claim_sent, claim_ticks, claim_up, conflicts, is_claimed}
use Rattle.flat_ether.specs.Errors.{error_at, error_in, error_fault, add_error}
use Rattle.flat_ether.specs.declared.error.NetFault.{NetFault}
use Rattle.flat_ether.specs.declared.error.SocketError.{SocketError}
use Rattle.flat_model.specs.declared.address.Addr.{Addr}
use Rattle.flat_ether.specs.Frames.{frame, ether_broadcast, no_mac, arp_bytes, arp_of, is_arp, is_host_mac, same_mac}
use Rattle.flat_ether.specs.Routes.{is_neighbour, route}
use Rattle.flat_ether.specs.Icmp.{answer_to, echo_reply, error_for, error_reply, expired_error, is_first, is_no_protocol, is_quote_of, quote_of}
use Rattle.flat_ether.specs.declared.answer.Answer.{Answer}
use Rattle.flat_ether.specs.declared.answer.Answer.TheVariants.{Echo, Error, Silence}
use Rattle.flat_ether.specs.declared.arp.Arp.{Arp}
use Rattle.flat_ether.specs.declared.claim.Claim.{Claim}
use Rattle.flat_ether.specs.declared.claim.ClaimFrame.{ClaimFrame}
use Rattle.flat_ether.specs.declared.claim.ClaimFrame.TheVariants.{Probe, Announcement, Nothing}
use Rattle.flat_ether.specs.declared.link.Link.{Link}
use Rattle.flat_ether.specs.declared.link.Route.{Route}
use Rattle.flat_ether.specs.declared.link.Route.TheVariants.{All, Hop, NoRoute}
use Rattle.flat_ether.specs.declared.mac.Mac.{Mac}
use Rattle.flat_ether.specs.declared.neighbour.Neighbour.{Neighbour}
use Rattle.flat_ether.specs.declared.neighbour.PendingReply.{PendingReply}
use Rattle.flat_ether.specs.declared.tallies.Tallies.{Tallies}
use Rattle.flat_ether.specs.declared.sizes.TheConstants.{ETHER_MTU, ETHER_TYPE_IP, ETHER_TYPE_ARP, ARP_REQUEST, ARP_REPLY, NEIGHBOURS, ARP_KEEP_TICKS, ARP_POLLS, ARP_RETRY_TICKS, ARP_TRIES, ERRORS_A_TICK, FIRST_FRAGMENTS, HELD_PACKETS, PENDING_REPLIES, TIME_EXCEEDED}

-- a packet that waits for the hardware address of its next hop
pub record WaitingPacket : Type 0 where
  pub hop : ℕ
  pub packet : List ℕ

-- The machine's configuration and its link; the neighbours, the most recently updated last; the senders to which an ARP
-- reply is due; the packets that wait, the oldest first; the packets of the ICMP reply that waits, and its next hop;
-- the identification of the next ICMP reply, apart from the machine's own; what errors quote of the first fragments
-- that arrived last, the newest first; the errors that no call has fetched yet; the claim to the address; how many more
-- ICMP errors may be sent before the next tick; and the counters.
pub record LinkState : Type 0 where
  pub config : Config
  pub link : Link
  pub neighbours : List Neighbour
  pub replies : List PendingReply
  pub held : List WaitingPacket
  pub answer : List (List ℕ)
  pub answer_hop : ℕ
  pub answer_id : ℕ
  pub firsts : List (List ℕ)
  pub errors : List SocketError
  pub claim : Claim
  pub errors_left : ℕ
  pub tallies : Tallies

-- nothing was counted
abbrev pub no_tallies : Tallies
no_tallies =
    record {
      ignored = 0;
      martians = 0;
      bad_arp = 0;
      conflicts = 0;
      replies_dropped = 0;
      no_route = 0;
      held_dropped = 0;
      unresolved = 0;
      too_long = 0;
      echoes = 0;
      unreachable = 0;
      limited = 0;
      icmp_dropped = 0;
      expired = 0;
    }

-- a link that has just started
abbrev pub link_up : Config → Link → LinkState
link_up c l =
    record {
      config = c;
      link = l;
      neighbours = [];
      replies = [];
      held = [];
      answer = [];
      answer_hop = 0;
      answer_id = c.first_id;
      firsts = [];
      errors = [];
      claim = claim_up l.probe;
      errors_left = ERRORS_A_TICK;
      tallies = no_tallies;
    }

abbrev pub ignores : LinkState → LinkState
ignores s = record s { tallies = record s.tallies { ignored = more_by 1 s.tallies.ignored } }

-- a packet with addresses that can't come from a link
abbrev pub refuses : LinkState → LinkState
refuses s = record s { tallies = record s.tallies { martians = more_by 1 s.tallies.martians } }

-- ---- the table

abbrev pub has_ip : ℕ → Neighbour → Bool
has_ip ip n = n.ip == ip

abbrev pub neighbour_place : ℕ → List Neighbour → Option ℕ
neighbour_place ip ns = position (has_ip ip) ns

abbrev pub mac_in : Option Neighbour → Option Mac
mac_in None = None
mac_in (Some n) = n.mac

abbrev pub mac_known : Option ℕ → List Neighbour → Option Mac
mac_known None ns = None
mac_known (Some at) ns = mac_in (slice_get ns at)

-- the hardware address last received for an address
abbrev pub mac_of : ℕ → List Neighbour → Option Mac
mac_of ip ns = mac_known (neighbour_place ip ns) ns

-- a full table loses its first entry
abbrev pub with_room : List Neighbour → List Neighbour
with_room ns = if nat_lt (length ns) NEIGHBOURS then ns else drop 1 ns

abbrev pub put_at : Option ℕ → Neighbour → List Neighbour → List Neighbour
put_at None n ns = with_room ns ++ n ∷ []
put_at (Some at) n ns = slice_set ns at n

-- replaces the one with its address, or is added at the end
abbrev pub put : Neighbour → List Neighbour → List Neighbour
put n ns = put_at (neighbour_place n.ip ns) n ns

-- ---- an ARP packet arrives (`in_arpinput` of volume 2, chapter 21)

-- one with a hardware address that was received now
abbrev pub neighbour_from : Arp → Neighbour
neighbour_from a = record { ip = a.ip; mac = Some a.mac; ticks = ARP_KEEP_TICKS; tries = 0 }

-- Its sender is learned if it's in the table already, or if the packet is for this host (RFC 826, "Packet Reception").
abbrev pub is_learned : LinkState → Arp → Bool
is_learned s a =
    is_neighbour s.config s.link a.ip && (is_some (neighbour_place a.ip s.neighbours) || (a.target == s.config.addr))

abbrev pub learns : Arp → LinkState → LinkState
learns a s = if is_learned s a then record s { neighbours = put (neighbour_from a) s.neighbours } else s

-- a request for the address that this host uses
abbrev pub is_asked : LinkState → Arp → Bool
is_asked s a = is_claimed s.claim && ((a.op == ARP_REQUEST) && (a.target == s.config.addr))

abbrev pub queues_reply : Arp → LinkState → LinkState
queues_reply a s =
    if is_asked s a
    then (
    if nat_lt (length s.replies) PENDING_REPLIES
    then record s { replies = s.replies ++ record { mac = a.mac; ip = a.ip } ∷ [] }
    else record s { tallies = record s.tallies { replies_dropped = more_by 1 s.tallies.replies_dropped } })
    else s

abbrev pub counts_bad_arp : LinkState → LinkState
counts_bad_arp s = record s { tallies = record s.tallies { bad_arp = more_by 1 s.tallies.bad_arp } }

abbrev pub counts_conflict : LinkState → LinkState
counts_conflict s =
    record s { claim = conflicts s.claim; tallies = record s.tallies { conflicts = more_by 1 s.tallies.conflicts } }

-- a probe for this host's address from a host that wants to use it (RFC 5227, section 2.1.1)
abbrev pub is_rival : LinkState → Arp → Bool
is_rival s a = not (is_claimed s.claim) && ((a.op == ARP_REQUEST) && ((a.ip == 0) && (a.target == s.config.addr)))

-- another host has this one's address, or probes for it while this one does
abbrev pub is_conflict : LinkState → Arp → Bool
is_conflict s a = (a.ip == s.config.addr) || is_rival s a

-- in the right form, not from this host itself, and from a hardware address that one host can have (RFC 1812, section
-- 3.3.2, for a group's)
abbrev pub is_sound_arp : Link → List ℕ → Bool
is_sound_arp l b = is_arp b && (not (same_mac (arp_of b).mac l.mac) && is_host_mac (arp_of b).mac)

abbrev pub receives_arp : List ℕ → LinkState → LinkState
receives_arp b s =
    if is_sound_arp s.link b
    then (if is_conflict s (arp_of b) then queues_reply (arp_of b) (counts_conflict s)
    else queues_reply (arp_of b) (learns (arp_of b) s))
    else counts_bad_arp s

-- ---- a packet is sent (`ether_output`, `arpresolve`)

abbrev pub counts_too_long : LinkState → LinkState
counts_too_long s = record s { tallies = record s.tallies { too_long = more_by 1 s.tallies.too_long } }

abbrev pub counts_no_route : LinkState → LinkState
counts_no_route s = record s { tallies = record s.tallies { no_route = more_by 1 s.tallies.no_route } }

abbrev pub takes_place : ℕ → List ℕ → LinkState → LinkState
takes_place hop packet s = record s { held = s.held ++ record { hop = hop; packet = packet } ∷ [] }

-- the one that has waited longest is dropped
abbrev pub drops_first : LinkState → LinkState
drops_first s =
    record s { held = drop 1 s.held; tallies = record s.tallies { held_dropped = more_by 1 s.tallies.held_dropped } }

-- a place is free: if need be, that of the one that has waited longest
abbrev pub with_place : LinkState → LinkState
with_place s = if nat_lt (length s.held) HELD_PACKETS then s else drops_first s

-- a packet waits; if no place is free, it takes that of the one that has waited longest
abbrev pub holds_packet : ℕ → List ℕ → LinkState → LinkState
holds_packet hop packet s =
    if nat_lt ETHER_MTU (length packet)
    then counts_too_long s
    else takes_place hop packet (with_place s)

-- one whose hardware address isn't known, and for which a request is due
abbrev pub unknown : ℕ → Neighbour
unknown ip = record { ip = ip; mac = None; ticks = 0; tries = 0 }

abbrev pub asks : ℕ → LinkState → LinkState
asks hop s =
    if is_some (neighbour_place hop s.neighbours) then s else record s { neighbours = put (unknown hop) s.neighbours }

-- the frame sent now, if there is one, and the link afterwards
abbrev pub Gives : Type 0
Gives = Option (List ℕ) × LinkState

abbrev pub to_hop : ℕ → List ℕ → LinkState → Option Mac → Gives
to_hop hop packet s None = (None, asks hop (holds_packet hop packet s))
to_hop hop packet s (Some mac) = (Some (frame mac s.link.mac ETHER_TYPE_IP packet), s)

abbrev pub by_route : List ℕ → LinkState → Route → Gives
by_route packet s All = (Some (frame ether_broadcast s.link.mac ETHER_TYPE_IP packet), s)
by_route packet s (Hop hop) = to_hop hop packet s (mac_of hop s.neighbours)
by_route packet s NoRoute = (None, counts_no_route s)

-- the route of a packet; one without a header has none
abbrev pub route_to : Config → Link → List ℕ → Route
route_to c l packet = if nat_lt (length packet) IP_HEADER then NoRoute else route c l (u32_at 16 packet)

abbrev pub route_of : LinkState → List ℕ → Route
route_of s packet = route_to s.config s.link packet

abbrev pub sends : List ℕ → LinkState → Gives
sends packet s = by_route packet s (route_of s packet)

-- ---- the host's own frames

-- an ARP request of the host that has this address as the sender's
abbrev pub request : LinkState → Mac → ℕ → ℕ → List ℕ
request s to sender target = frame to s.link.mac ETHER_TYPE_ARP (arp_bytes ARP_REQUEST s.link.mac sender no_mac target)

-- a probe has no sender address, and an announcement requests the host's own address (RFC 5227, section 1.1)
abbrev pub claim_frame : ClaimFrame → LinkState → Gives
claim_frame Nothing s = (None, s)
claim_frame Probe s = (Some (request s ether_broadcast 0 s.config.addr), record s { claim = claim_sent s.claim })
claim_frame Announcement s =
    (Some (request s ether_broadcast s.config.addr s.config.addr), record s { claim = claim_sent s.claim })

abbrev pub gives_claim : LinkState → Gives
gives_claim s = claim_frame (claim_due s.claim) s

-- the ARP reply that has been due longest
abbrev pub replies_to : List PendingReply → LinkState → Gives
replies_to [] s = (None, s)
replies_to (o ∷ later) s = (
  Some (frame o.mac s.link.mac ETHER_TYPE_ARP (arp_bytes ARP_REPLY s.link.mac s.config.addr o.mac o.ip)),
  record s { replies = later },
)

abbrev pub gives_reply : LinkState → Gives
gives_reply s = replies_to s.replies s

-- a neighbour whose entry expires soon gets another request
abbrev pub is_poll_due : Neighbour → Bool
is_poll_due n = nat_lt n.tries ARP_POLLS && nat_le (n.ticks + n.tries * ARP_RETRY_TICKS) (ARP_POLLS * ARP_RETRY_TICKS)

-- a request is due
abbrev pub is_request_due : Neighbour → Bool
is_request_due n = if is_some n.mac then is_poll_due n else (n.ticks == 0) && nat_lt n.tries ARP_TRIES

abbrev pub asked_again : Neighbour → Neighbour
asked_again n = record n { ticks = if is_some n.mac then n.ticks else ARP_RETRY_TICKS; tries = min (n.tries + 1) 255 }

-- the request for a known neighbour goes to it only, otherwise to the broadcast address
abbrev pub asked_at : Option Mac → Mac
asked_at None = ether_broadcast
asked_at (Some mac) = mac

abbrev pub asks_of : ℕ → Neighbour → LinkState → Gives
asks_of at n s = (
  Some (request s (asked_at n.mac) s.config.addr n.ip),
  record s { neighbours = slice_set s.neighbours at (asked_again n) },
)

abbrev pub asks_at : Option ℕ → LinkState → Gives
asks_at None s = (None, s)
asks_at (Some at) s = asks_of at (slice_index_or s.neighbours at (unknown 0)) s

-- a request for the first neighbour for which one is due
abbrev pub gives_request : LinkState → Gives
gives_request s = asks_at (position is_request_due s.neighbours) s

-- ---- packets that waited

-- the next place
abbrev pub one_on : Option (ℕ × Mac) → Option (ℕ × Mac)
one_on None = None
one_on (Some found) = Some (found.0 + 1, found.1)

abbrev pub ready_or : Option Mac → Option (ℕ × Mac) → Option (ℕ × Mac)
ready_or (Some mac) later = Some (0, mac)
ready_or None later = one_on later

-- the place of the first waiting packet whose next hop is known now, with that hop's hardware address
abbrev pub first_ready : List Neighbour → List WaitingPacket → Option (ℕ × Mac)
first_ready ns [] = None
first_ready ns (h ∷ hs) = ready_or (mac_of h.hop ns) (first_ready ns hs)

abbrev pub sends_held : ℕ → Mac → Option WaitingPacket → LinkState → Gives
sends_held at mac None s = (None, s)
sends_held at mac (Some h) s =
    (Some (frame mac s.link.mac ETHER_TYPE_IP h.packet), record s { held = remove s.held at })

abbrev pub sends_at : Option (ℕ × Mac) → LinkState → Gives
sends_at None s = (None, s)
sends_at (Some found) s = sends_held found.0 found.1 (slice_get s.held found.0) s

abbrev pub gives_held : LinkState → Gives
gives_held s = sends_at (first_ready s.neighbours s.held) s

-- The next packet of the ICMP reply is sent if the hardware address of its next hop is known. Until then all of the
-- reply waits in its own place, and not among the packets that wait. After the last one the place is free.
abbrev pub sends_answer : Option (List ℕ) → Option Mac → LinkState → Gives
sends_answer None mac s = (None, s)
sends_answer (Some packet) None s = (None, s)
sends_answer (Some packet) (Some mac) s =
    (Some (frame mac s.link.mac ETHER_TYPE_IP packet), record s { answer = drop 1 s.answer })

abbrev pub gives_answer : LinkState → Gives
gives_answer s = sends_answer (slice_get s.answer 0) (mac_of s.answer_hop s.neighbours) s

-- the first, or if it gives no frame, the second
abbrev pub or_then : Gives → (LinkState → Gives) → Gives
or_then g next = if is_some g.0 then g else next g.1

-- what the link sends by itself: announcements, replies, requests, packets that waited, and the ICMP reply
abbrev pub gives_own : LinkState → Gives
gives_own s = or_then (or_then (or_then (or_then (gives_claim s) gives_reply) gives_request) gives_held) gives_answer

-- ---- the clock (`arptimer` of volume 2, chapter 21)

abbrev pub neighbour_aged : Neighbour → Neighbour
neighbour_aged n = record n { ticks = n.ticks - 1 }

-- it's still known, or another request may be sent
abbrev pub neighbour_stays : Neighbour → Bool
neighbour_stays n = nat_lt 0 n.ticks || (not (is_some n.mac) && nat_lt n.tries ARP_TRIES)

-- its next hop is known or requested
abbrev pub is_resolvable : List Neighbour → WaitingPacket → Bool
is_resolvable ns h = is_some (neighbour_place h.hop ns)

abbrev pub keeps : List Neighbour → LinkState → LinkState
keeps ns s =
    let held : List WaitingPacket = filter (is_resolvable ns) s.held in
    record s {
      neighbours = ns;
      held = held;
      tallies = record s.tallies { unresolved = more_by (length s.held - length held) s.tallies.unresolved };
    }

-- packets of an ICMP reply still wait
abbrev pub is_answering : LinkState → Bool
is_answering s = is_some (slice_get s.answer 0)

abbrev pub counts_icmp_dropped : LinkState → LinkState
counts_icmp_dropped s = record s { tallies = record s.tallies { icmp_dropped = more_by 1 s.tallies.icmp_dropped } }

-- the reply that waits is dropped if its next hop is neither known nor requested any more
abbrev pub keeps_answer : LinkState → LinkState
keeps_answer s =
    if is_answering s && not (is_some (neighbour_place s.answer_hop s.neighbours))
    then counts_icmp_dropped (record s { answer = [] })
    else s

-- entries that expired are removed, and the packets that waited for them are dropped
abbrev pub ages : LinkState → LinkState
ages s =
    keeps (filter neighbour_stays (map neighbour_aged s.neighbours))
    (record s { claim = claim_ticks s.claim; errors_left = ERRORS_A_TICK })

-- ---- ICMP

-- A reply is being sent: the hardware address of its next hop is known.
abbrev pub is_busy : LinkState → Bool
is_busy s = is_answering s && is_some (mac_of s.answer_hop s.neighbours)

-- a reply that waits for a hardware address makes way for a newer one
abbrev pub makes_way : LinkState → LinkState
makes_way s = if is_answering s then counts_icmp_dropped s else s

-- A reply takes the place and the next identification. The hardware address of its next hop is requested if it isn't
-- known.
abbrev pub puts_answer : ℕ → List (List ℕ) → LinkState → LinkState
puts_answer hop packets s =
    asks hop (record s { answer = packets; answer_hop = hop; answer_id = (s.answer_id + 1) % 65536 })

abbrev pub counts_echo : LinkState → LinkState
counts_echo s = record s { tallies = record s.tallies { echoes = more_by 1 s.tallies.echoes } }

abbrev pub counts_unreachable : LinkState → LinkState
counts_unreachable s = record s { tallies = record s.tallies { unreachable = more_by 1 s.tallies.unreachable } }

abbrev pub counts_expired : LinkState → LinkState
counts_expired s = record s { tallies = record s.tallies { expired = more_by 1 s.tallies.expired } }

-- an error of this type
abbrev pub counts_error : ℕ → LinkState → LinkState
counts_error kind s = if kind == TIME_EXCEEDED then counts_expired s else counts_unreachable s

-- the limit of errors for one tick is reached
abbrev pub limits : LinkState → LinkState
limits s = record s { tallies = record s.tallies { limited = more_by 1 s.tallies.limited } }

abbrev pub puts_echo : ℕ → List ℕ → LinkState → LinkState
puts_echo hop came s = counts_echo (puts_answer hop (echo_reply s.config s.answer_id came) s)

abbrev pub puts_error : ℕ → ℕ → ℕ → List ℕ → LinkState → LinkState
puts_error hop kind code came s =
    counts_error kind (puts_answer hop (error_reply s.config s.answer_id kind code came)
    (record s { errors_left = s.errors_left - 1 }))

abbrev pub reports_error : ℕ → ℕ → ℕ → List ℕ → LinkState → LinkState
reports_error hop kind code came s =
    if nat_lt 0 s.errors_left then puts_error hop kind code came (makes_way s) else limits s

-- a reply by way of this next hop
abbrev pub answers_by : ℕ → Answer → List ℕ → LinkState → LinkState
answers_by hop Silence came s = s
answers_by hop Echo came s = puts_echo hop came (makes_way s)
answers_by hop (Error kind code) came s = reports_error hop kind code came s

-- no reply is broadcast
abbrev pub answers_on : Route → Answer → List ℕ → LinkState → LinkState
answers_on All a came s = s
answers_on (Hop hop) a came s = answers_by hop a came s
answers_on NoRoute a came s = counts_no_route s

-- a reply to a packet, to its sender
abbrev pub answers_now : Answer → List ℕ → LinkState → LinkState
answers_now a came s =
    if is_busy s then counts_icmp_dropped s else answers_on (route s.config s.link (head_of came).source) a came s

abbrev pub answers_with : Answer → List ℕ → LinkState → LinkState
answers_with Silence came s = s
answers_with Echo came s = answers_now Echo came s
answers_with (Error kind code) came s = answers_now (Error kind code) came s

-- ---- errors that other hosts report

abbrev pub adds_error : Option SocketError → LinkState → LinkState
adds_error None s = s
adds_error (Some e) s = record s { errors = add_error e s.errors }

-- a packet of an unknown protocol may report an error
abbrev pub adds_error_if : Bool → List ℕ → LinkState → LinkState
adds_error_if no_protocol came s = if no_protocol then adds_error (error_in s.config came) s else s

abbrev pub fault_in : Option SocketError → Option NetFault
fault_in None = None
fault_in (Some e) = Some (error_fault e.code)

abbrev pub takes_at : Option ℕ → LinkState → Option NetFault × LinkState
takes_at None s = (None, s)
takes_at (Some at) s = (fault_in (slice_get s.errors at), record s { errors = remove s.errors at })

-- the error for datagrams from a port to an address is returned once
abbrev pub takes_error : Option ℕ → Option Addr → LinkState → Option NetFault × LinkState
takes_error None peer s = (None, s)
takes_error (Some port) None s = (None, s)
takes_error (Some port) (Some peer) s = takes_at (error_at port peer s.errors) s

-- ---- what became of a packet

-- a whole packet was dropped
abbrev pub answers_dropped : List ℕ → Why → LinkState → LinkState
answers_dropped came why s =
    adds_error_if (is_no_protocol why) came (answers_with (answer_to s.config came why) came s)

-- a fragment waits for the others
abbrev pub keeps_first : List ℕ → LinkState → LinkState
keeps_first came s =
    if is_first s.config came then record s { firsts = take FIRST_FRAGMENTS (quote_of came ∷ s.firsts) } else s

abbrev pub quote_in : Option ℕ → List (List ℕ) → Option (List ℕ)
quote_in None firsts = None
quote_in (Some at) firsts = slice_get firsts at

abbrev pub quote_with : Key → List (List ℕ) → Option (List ℕ)
quote_with k firsts = quote_in (position (is_quote_of k) firsts) firsts

-- what an error quotes of the datagram that this fragment completed: the fragment, if it's the first one
abbrev pub quote_for : List ℕ → LinkState → Option (List ℕ)
quote_for came s =
    if is_first s.config came
    then Some (quote_of came)
    else if nat_lt (length came) IP_HEADER then None else quote_with (key_of (head_of came)) s.firsts

abbrev pub answers_first : Option (List ℕ) → Why → LinkState → LinkState
answers_first None why s = s
answers_first (Some quote) why s = answers_with (error_for quote why) quote s

-- a fragment completed its datagram
abbrev pub answers_whole : List ℕ → Result Reached Why → LinkState → LinkState
answers_whole came (Ok reached) s = s
answers_whole came (Err why) s = answers_first (quote_for came s) why s

abbrev pub answers_fate : List ℕ → Fate → LinkState → LinkState
answers_fate came (Delivered reached) s = s
answers_fate came Kept s = keeps_first came s
answers_fate came (Completed whole) s = answers_whole came whole s
answers_fate came (Dropped why) s = answers_dropped came why s

-- ---- a tick

-- the source of a datagram that expired gets an error, if its first fragment is still known
abbrev pub answers_expired : Option (List ℕ) → LinkState → LinkState
answers_expired None s = s
answers_expired (Some quote) s = answers_with (expired_error quote) quote s

abbrev pub reports_expired : List Key → LinkState → LinkState
reports_expired [] s = s
reports_expired (k ∷ ks) s = reports_expired ks (answers_expired (quote_with k s.firsts) s)

-- a tick in which the machine drops the unfinished datagrams with these keys, whose first fragment has arrived (RFC
-- 792, "Time Exceeded"; RFC 1122, section 3.3.2)
abbrev pub ticks : List Key → LinkState → LinkState
ticks expired s = reports_expired expired (keeps_answer (ages s))

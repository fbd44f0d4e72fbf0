-- The effect of a call on the two halves of a host, the stack and the link, and how its result code encodes the reply
-- (this project's own).
use Rattle.std.specs.Prelude.{◌≡◌, ℕ, ℤ, pos, negsuc, ◌+◌, ◌<◌, ◌≤◌, ◌==◌, if◌then◌else◌, true, false, List, length, Option, Some, None, option_map, IfSome, Result, Ok, Err, slice_get}
use Rattle.params.specs.declared.TheConstants.{IP_MAX_PACKET}
use Rattle.flat_ether.specs.Claims.{address_state}
use Rattle.flat_ether.specs.Hosts.{TakesFrame, Ticks, gives, last_error}
use Rattle.flat_ether.specs.Links.{LinkState, link_up}
use Rattle.flat_ether.specs.Settings.{link_fault}
use Rattle.flat_ether.specs.declared.claim.AddressState.{AddressState}
use Rattle.flat_ether.specs.declared.claim.AddressState.TheVariants.{Probing, Conflict, InUse}
use Rattle.flat_ether.specs.declared.error.NetFault.{NetFault}
use Rattle.flat_ether.specs.declared.error.NetFault.TheVariants.{Refused, Unreachable}
use Rattle.flat_ether.specs.declared.fault.LinkFault.{LinkFault}
use Rattle.flat_ether.specs.declared.fault.LinkFault.TheVariants.{Mtu, GroupMac, NoMac, Addr, Mask, WideMask, HostNumber, Bcast, Gateway}
use Rattle.flat_ether.specs.declared.neighbour.Neighbour.{Neighbour}
use Rattle.flat_ether.specs.declared.sizes.TheConstants.{ETHER_HEADER, ETHER_MTU}
use Rattle.flat_model.specs.declared.errno.Errno.{Errno}
use Rattle.flat_model.specs.declared.fate.Fate.{Fate}
use Rattle.net_stack.specs.Stack.{StackView}
use Rattle.ether_host.specs.Fronts.{buffer_front}
use Rattle.ether_host.specs.Inside.{link_seen}
use Rattle.ether_host.specs.View.{HostView, TellsFrame, host_of}
use Rattle.libbsdudp.specs.declared.link_handle.LinkHandle.{LinkHandle}
use Rattle.libbsdudp.specs.declared.link_plain.CLink.{CLink}
use Rattle.libbsdudp.specs.declared.link_plain.CNeighbour.{CNeighbour}
use Rattle.libbsdudp.specs.declared.link_plain.CTallies.{CTallies}
use Rattle.libbsdudp.specs.declared.plain.CConfig.{CConfig}
use Rattle.libbsdudp.specs.declared.plain.CFate.{CFate}
use Rattle.libbsdudp.specs.Answers.{no_stack, bad_length, invalid, given_code, refusal_code}
use Rattle.libbsdudp.specs.LinkPlain.{plain_link, c_neighbour, c_tallies}
use Rattle.libbsdudp.specs.Plain.{c_frame_fate, config_of}

-- EOPNOTSUPP, 45
abbrev pub no_link : ℤ
no_link = negsuc 44

-- the link that a handle holds
abbrev pub handle_link : LinkHandle → Option LinkState
handle_link h = if h.live == 1651731563 then option_map (λ b. link_seen b.layer) h.held.kept else None

-- the halves of a host
abbrev pub both : StackView → LinkState → HostView
both s l = record { stack = s; link = l }

-- A call on both halves. Without a stack the result is -ENXIO, and without a link -EOPNOTSUPP; then both are unchanged,
-- and `idle` says that the rest is unchanged. If there are both, `call` says what happens to them.
abbrev pub AnswersHost : Option StackView → Option LinkState → ℤ → Option StackView → Option LinkState → Type 0
    → (HostView → HostView → Type 0) → Type 0
AnswersHost None l answer s_after l_after idle call = (answer ≡ no_stack) × (s_after ≡ None) × (l_after ≡ l) × idle
AnswersHost (Some s) None answer s_after l_after idle call =
    (answer ≡ no_link) × (s_after ≡ Some s) × (l_after ≡ None) × idle
AnswersHost (Some s) (Some l) answer s_after l_after idle call =
    (n : HostView) × (s_after ≡ Some n.stack) × (l_after ≡ Some n.link) × call (both s l) n

-- a call on the link only
abbrev pub AnswersLink : Option LinkState → ℤ → Option LinkState → Type 0 → (LinkState → LinkState → Type 0) → Type 0
AnswersLink None answer after idle call = (answer ≡ no_link) × (after ≡ None) × idle
AnswersLink (Some l) answer after idle call = (n : LinkState) × (after ≡ Some n) × call l n

-- ---- the calls, each as one fact, so that proofs unfold it only on request

-- `receive`: the result is 0, or -EMSGSIZE if the frame is longer than one with the longest packet, and then nothing
-- changes
pub record Arrives (frame : List ℕ) (answer : ℤ) (h n : HostView) : Type 0 where
  pub long : ETHER_HEADER + IP_MAX_PACKET < length frame → (answer ≡ bad_length) × (n ≡ h)
  pub takes : length frame ≤ ETHER_HEADER + IP_MAX_PACKET → (answer ≡ pos 0) × TakesFrame frame (host_of h) (host_of n)

-- what a frame does, and what became of its packet
pub record HasFrameFate (frame : List ℕ) (shown : CFate) (h n : HostView) : Type 0 where
  pub told : Option Fate
  pub is : shown ≡ c_frame_fate told
  pub takes : TakesFrame frame (host_of h) (host_of n)
  pub fated : TellsFrame frame told (host_of h) (host_of n)

-- `receive_fate`: the result is 0, or -EMSGSIZE as for `receive`, and then nothing changes
pub record ArrivesFate (frame : List ℕ) (answer : ℤ) (old new : CFate) (h n : HostView) : Type 0 where
  pub long : ETHER_HEADER + IP_MAX_PACKET < length frame → (answer ≡ bad_length) × (n ≡ h) × (new ≡ old)
  pub takes : length frame ≤ ETHER_HEADER + IP_MAX_PACKET → (answer ≡ pos 0) × HasFrameFate frame new h n

-- a frame is at the front of the buffer, or no frame is queued
pub record GivesFrame (buffer : List ℕ) (answer : ℤ) (h n : HostView) : Type 0 where
  pub reported : Option ℕ
  pub is : answer ≡ given_code reported
  pub fits : IfSome reported (λ len. len ≤ length buffer)
  pub step : (buffer_front reported buffer, host_of n) ≡ gives (host_of h)

-- `transmit`: the result is the frame's length, 0 if no frame is queued, or -EMSGSIZE if the buffer is too short, or
-- the stack's packets are too long for an Ethernet, and then nothing changes
pub record IsFramed (before buffer : List ℕ) (answer : ℤ) (h n : HostView) : Type 0 where
  pub short : length before < ETHER_HEADER + ETHER_MTU → (answer ≡ bad_length) × (n ≡ h) × (buffer ≡ before)
  pub wide : ETHER_MTU < h.stack.config.mtu → (answer ≡ bad_length) × (n ≡ h) × (buffer ≡ before)
  pub gives : ETHER_HEADER + ETHER_MTU ≤ length before → h.stack.config.mtu ≤ ETHER_MTU → GivesFrame buffer answer h n

-- 0 if nothing was reported, ECONNREFUSED (61) or EHOSTUNREACH (65) as in 4.4BSD's `so_error`, or the error of the call
abbrev pub fault_code : Result (Option NetFault) Errno → ℤ
fault_code (Ok None) = pos 0
fault_code (Ok (Some Refused)) = pos 61
fault_code (Ok (Some Unreachable)) = pos 65
fault_code (Err errno) = refusal_code errno

-- `last_error`: what other hosts reported about a socket's datagrams, which the link then clears; the stack is
-- unchanged
pub record ReportsError (fd : ℕ) (answer : ℤ) (h n : HostView) : Type 0 where
  pub reported : Result (Option NetFault) Errno
  pub is : answer ≡ fault_code reported
  pub same : n.stack ≡ h.stack
  pub step : (reported, host_of n) ≡ last_error fd (host_of h)

-- `tick`: the result is 0
pub record HasHostTicked (answer : ℤ) (h n : HostView) : Type 0 where
  pub is : answer ≡ pos 0
  pub ticked : Ticks (host_of h) (host_of n)

-- a query: the link is unchanged, and the result describes it
pub record IsLinkAsked (Says : LinkState → Type 0) (l n : LinkState) : Type 0 where
  pub same : n ≡ l
  pub says : Says l

-- 1 if the address is in use, 0 while the host probes for it, and -EADDRINUSE if another host has it
abbrev pub address_code : AddressState → ℤ
address_code Probing = pos 0
address_code InUse = pos 1
address_code Conflict = negsuc 47

pub record ReportsAddress (answer : ℤ) (l : LinkState) : Type 0 where
  pub is : answer ≡ address_code (address_state l.claim)

-- the counters
pub record ReportsTallies (answer : ℤ) (tallies : CTallies) (l : LinkState) : Type 0 where
  pub is : answer ≡ pos 0
  pub reported : tallies ≡ c_tallies l.tallies

-- a neighbour is written, or the result is -EINVAL if no neighbour has this index
abbrev pub IsNeighbour : Option Neighbour → ℤ → CNeighbour → CNeighbour → Type 0
IsNeighbour (Some n) answer old new = (answer ≡ pos 0) × (new ≡ c_neighbour n)
IsNeighbour None answer old new = (answer ≡ invalid) × (new ≡ old)

pub record ReportsNeighbour (i : ℕ) (answer : ℤ) (old new : CNeighbour) (l : LinkState) : Type 0 where
  pub is : IsNeighbour (slice_get l.neighbours i) answer old new

-- ---- booting and ending a link

-- 0, or the place of a wrong setting's fault
abbrev pub setting_code : Option LinkFault → ℤ
setting_code None = pos 0
setting_code (Some Mtu) = pos 1
setting_code (Some GroupMac) = pos 2
setting_code (Some NoMac) = pos 3
setting_code (Some Addr) = pos 4
setting_code (Some Mask) = pos 5
setting_code (Some WideMask) = pos 6
setting_code (Some HostNumber) = pos 7
setting_code (Some Bcast) = pos 8
setting_code (Some Gateway) = pos 9

pub record NamesFault (config : CConfig) (link : CLink) (answer : ℤ) : Type 0 where
  pub is : answer ≡ setting_code (link_fault (config_of config) (plain_link link))

-- 0, or -ENOMEM
abbrev pub link_boot_code : Option LinkState → ℤ
link_boot_code (Some l) = pos 0
link_boot_code None = negsuc 11

-- a link without neighbours, or an allocation failed
pub record IsLinkUp (config : CConfig) (link : CLink) (answer : ℤ) (after : Option LinkState) : Type 0 where
  pub is : answer ≡ link_boot_code after
  pub up : IfSome after (λ l. l ≡ link_up (config_of config) (plain_link link))

pub record HasLinkBooted (config : CConfig) (link : CLink) (answer : ℤ) (after : Option LinkState) : Type 0 where
  pub bad : (fault : LinkFault) → link_fault (config_of config) (plain_link link) ≡ Some fault
      → (answer ≡ invalid) × (after ≡ None)
  pub good : link_fault (config_of config) (plain_link link) ≡ None → IsLinkUp config link answer after

-- A link is booted into a handle without one. If the handle has a link, that link is unchanged, and the result is
-- -ENXIO.
abbrev pub IsLinkBooted : Option LinkState → CConfig → CLink → ℤ → Option LinkState → Type 0
IsLinkBooted (Some l) config link answer after = (answer ≡ no_stack) × (after ≡ Some l)
IsLinkBooted None config link answer after = HasLinkBooted config link answer after

-- A link is ended. If there was none, the result is -EOPNOTSUPP.
abbrev pub IsLinkEnded : Option LinkState → ℤ → Option LinkState → Type 0
IsLinkEnded (Some l) answer after = (answer ≡ pos 0) × (after ≡ None)
IsLinkEnded None answer after = (answer ≡ no_link) × (after ≡ None)

-- What a host's link knows and has counted, as text (this project's own).
use Rattle.std.specs.Prelude.{ℕ, ◌==◌, List, [], ◌∷◌, ◌++◌, length, flat_map, codes, decimal, if◌then◌else◌, nat_lt, Option, Some, None, Result, Ok, Err}
use Rattle.flat_model.specs.Scripts.Errnos.{errno_number, name_of}
use Rattle.flat_model.specs.declared.counters.Counters.{Counters}
use Rattle.flat_model.specs.declared.errno.Errno.{Errno}
use Rattle.flat_ether.specs.declared.claim.AddressState.{AddressState}
use Rattle.flat_ether.specs.declared.claim.AddressState.TheVariants as state
use Rattle.flat_ether.specs.declared.error.NetFault.{NetFault}
use Rattle.flat_ether.specs.declared.error.NetFault.TheVariants as net
use Rattle.flat_ether.specs.declared.neighbour.Neighbour.{Neighbour}
use Rattle.flat_ether.specs.declared.tallies.Tallies.{Tallies}
use Rattle.play_script.specs.Outcomes.{reply_line, drops_text}
use Rattle.play_wire.specs.declared.link_count.LinkCount.{LinkCount}
use Rattle.play_wire.specs.declared.link_count.LinkCount.TheVariants.{Ignored, Martians, BadArp, Conflicts, RepliesDropped, NoRoute, HeldDropped, Unresolved, TooLong, Echoes, Unreachable, Limited, IcmpDropped, Expired}

-- ---- neighbours

abbrev pub neighbours_text : List Neighbour → List ℕ
neighbours_text neighbours =
    decimal (length neighbours) ++ (if length neighbours == 1 then codes " neighbour" else codes " neighbours")

-- ---- counts

abbrev pub link_count_name : LinkCount → List ℕ
link_count_name Ignored = codes "ignored"
link_count_name Martians = codes "martians"
link_count_name BadArp = codes "bad_arp"
link_count_name Conflicts = codes "conflicts"
link_count_name RepliesDropped = codes "replies_dropped"
link_count_name NoRoute = codes "no_route"
link_count_name HeldDropped = codes "held_dropped"
link_count_name Unresolved = codes "unresolved"
link_count_name TooLong = codes "too_long"
link_count_name Echoes = codes "echoes"
link_count_name Unreachable = codes "unreachable"
link_count_name Limited = codes "limited"
link_count_name IcmpDropped = codes "icmp_dropped"
link_count_name Expired = codes "expired"

abbrev pub link_count : LinkCount → Tallies → ℕ
link_count Ignored it = it.ignored
link_count Martians it = it.martians
link_count BadArp it = it.bad_arp
link_count Conflicts it = it.conflicts
link_count RepliesDropped it = it.replies_dropped
link_count NoRoute it = it.no_route
link_count HeldDropped it = it.held_dropped
link_count Unresolved it = it.unresolved
link_count TooLong it = it.too_long
link_count Echoes it = it.echoes
link_count Unreachable it = it.unreachable
link_count Limited it = it.limited
link_count IcmpDropped it = it.icmp_dropped
link_count Expired it = it.expired

-- in the order in which they're printed
abbrev pub all_link_counts : List LinkCount
all_link_counts =
    Ignored
    ∷ Martians
    ∷ BadArp
    ∷ Conflicts
    ∷ RepliesDropped
    ∷ NoRoute
    ∷ HeldDropped
    ∷ Unresolved
    ∷ TooLong
    ∷ Echoes
    ∷ Unreachable
    ∷ Limited
    ∷ IcmpDropped
    ∷ Expired
    ∷ []

-- a count that went up
abbrev pub rise_text : Tallies → Tallies → LinkCount → List ℕ
rise_text before after which =
    if nat_lt (link_count which before) (link_count which after)
    then codes " counted " ++ link_count_name which
    else []

abbrev pub rises_text : Tallies → Tallies → List ℕ
rises_text before after = flat_map (rise_text before after) all_link_counts

-- ---- a link

abbrev pub state_text : AddressState → List ℕ
state_text state.Probing = codes "probes for its address"
state_text state.Conflict = codes "another host has its address"
state_text state.InUse = codes "uses its address"

-- ---- a frame, and an error

-- Why the stack dropped the contents of a frame, as for a packet that arrived, and what the link counted.
abbrev pub received_text : Counters → Tallies → Counters → Tallies → List ℕ
received_text before link_before after link_after =
    reply_line (codes "ok") (drops_text before after) ++ rises_text link_before link_after

abbrev pub error_text : Result (Option NetFault) Errno → List ℕ
error_text (Ok None) = codes "none"
error_text (Ok (Some net.Refused)) = codes "refused"
error_text (Ok (Some net.Unreachable)) = codes "unreachable"
error_text (Err errno) = codes "error " ++ decimal (errno_number errno) ++ codes " " ++ name_of errno

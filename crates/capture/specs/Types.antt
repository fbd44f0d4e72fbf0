-- The numbers of link types (tcpdump.org/linktypes.html).
use Rattle.std.specs.Prelude.{ℕ, Option, Some, None, ◌==◌, if◌then◌else◌}
use Rattle.capture.specs.declared.pcap.link_type.LinkType.{LinkType}
use Rattle.capture.specs.declared.pcap.link_type.LinkType.TheVariants.{Null, Ethernet, Ppp, Raw, Loop, LinuxCooked, Ipv4, LinuxCooked2}

-- the link type of a number
unfoldable pub link_type_of : ℕ → Option LinkType
link_type_of n =
    if n == 0 then Some Null else
    if n == 1 then Some Ethernet else
    if n == 9 then Some Ppp else
    if n == 12 then Some Raw else
    if n == 14 then Some Raw else
    if n == 101 then Some Raw else
    if n == 108 then Some Loop else
    if n == 113 then Some LinuxCooked else
    if n == 228 then Some Ipv4 else
    if n == 276 then Some LinuxCooked2 else None

-- the number that a link type is written as
abbrev pub link_number : LinkType → ℕ
link_number Null = 0
link_number Ethernet = 1
link_number Ppp = 9
link_number Raw = 101
link_number Loop = 108
link_number LinuxCooked = 113
link_number Ipv4 = 228
link_number LinuxCooked2 = 276

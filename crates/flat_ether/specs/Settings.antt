-- Which settings of a host on an Ethernet are wrong, and for what reason (RFC 1122, section 3.2.1.3; RFC 950). A
-- network of two addresses has no broadcast address (RFC 3021): its mask is refused, because the stack needs one.
use Rattle.std.specs.Prelude.{ℕ, ◌+◌, ◌-◌, ◌/◌, ◌%◌, ◌^◌, nat_le, nat_lt, Bool, true, ◌==◌, ◌&&◌, ◌||◌, not, [], ◌∷◌, bit_and, bit_or, Option, Some, None}
use Rattle.params.specs.declared.TheConstants.{FIRST_MULTICAST, MIN_MTU}
use Rattle.flat_model.specs.Packets.Header.{first_fault}
use Rattle.flat_model.specs.declared.config.Config.{Config}
use Rattle.flat_ether.specs.Frames.{is_loopback, no_mac, same_mac}
use Rattle.flat_ether.specs.Routes.{is_neighbour}
use Rattle.flat_ether.specs.declared.fault.LinkFault.{LinkFault}
use Rattle.flat_ether.specs.declared.fault.LinkFault.TheVariants.{Mtu, GroupMac, NoMac, Addr, Mask, WideMask, HostNumber, Bcast, Gateway}
use Rattle.flat_ether.specs.declared.link.Link.{Link}
use Rattle.flat_ether.specs.declared.sizes.TheConstants.{ETHER_MTU}

abbrev pub is_ether_mtu : ℕ → Bool
is_ether_mtu mtu = nat_le MIN_MTU mtu && nat_le mtu ETHER_MTU

-- an address that a host may have, as `IsHost` of the machine says: 1.0.0.0 to 223.255.255.255, and not in 127/8
abbrev pub is_host_address : ℕ → Bool
is_host_address ip = nat_le (2 ^ 24) ip && (nat_lt ip FIRST_MULTICAST && not (is_loopback ip))

-- the zeros of a mask as ones: the greatest host number
abbrev pub hosts_under : ℕ → ℕ
hosts_under mask = 4294967295 - mask

-- ones followed by zeros: the greatest host number and the number of addresses share no bit
abbrev pub is_ones_and_zeros : ℕ → Bool
is_ones_and_zeros mask = bit_and (hosts_under mask) (hosts_under mask + 1) == 0

-- and at most 30 ones: a network has a first and a last address, and at least two others
abbrev pub is_mask : ℕ → Bool
is_mask mask = is_ones_and_zeros mask && nat_le 3 (hosts_under mask)

-- the first address of the host's network, with the host number 0
abbrev pub first_on_net : Config → Link → ℕ
first_on_net c l = bit_and c.addr l.mask

-- the last one, whose host number is all ones
abbrev pub last_on_net : Config → Link → ℕ
last_on_net c l = bit_or c.addr (hosts_under l.mask)

abbrev pub is_net_end : Config → Link → ℕ → Bool
is_net_end c l ip = (ip == first_on_net c l) || (ip == last_on_net c l)

-- the gateway is another host on the network, if there is one
abbrev pub has_gateway : Config → Link → Option ℕ → Bool
has_gateway c l None = true
has_gateway c l (Some gateway) = is_neighbour c l gateway && not (is_net_end c l gateway)

-- The first setting that is wrong. The sizes of the pool are settings of the machine alone.
abbrev pub link_fault : Config → Link → Option LinkFault
link_fault c l = first_fault (
    (not (is_ether_mtu c.mtu), Mtu)
    ∷ (not (l.mac.high / 256 % 2 == 0), GroupMac)
    ∷ (same_mac l.mac no_mac, NoMac)
    ∷ (not (is_host_address c.addr), Addr)
    ∷ (not (is_mask l.mask), Mask)
    ∷ (not (is_host_address (last_on_net c l)), WideMask)
    ∷ (is_net_end c l c.addr, HostNumber)
    ∷ (not (c.bcast == last_on_net c l), Bcast)
    ∷ (not (has_gateway c l l.gateway), Gateway)
    ∷ [])

-- The route of a packet on the link (RFC 1122, section 3.3.1).
use Rattle.std.specs.Prelude.{ℕ, Bool, ◌==◌, ◌&&◌, not, if◌then◌else◌, bit_and, Option, Some, None}
use Rattle.flat_model.specs.Machine.Arrival.{is_broadcast}
use Rattle.flat_model.specs.declared.config.Config.{Config}
use Rattle.flat_ether.specs.declared.link.Link.{Link}
use Rattle.flat_ether.specs.declared.link.Route.{Route}
use Rattle.flat_ether.specs.declared.link.Route.TheVariants.{All, Hop, NoRoute}

-- it has the bits of this host's address under the mask
abbrev pub is_near : Config → Link → ℕ → Bool
is_near c l ip = bit_and ip l.mask == bit_and c.addr l.mask

-- it may be that of another host on the link
abbrev pub is_neighbour : Config → Link → ℕ → Bool
is_neighbour c l ip = is_near c l ip && (not (ip == 0) && (not (ip == c.addr) && not (ip == c.bcast)))

abbrev pub by_gateway : Option ℕ → Route
by_gateway None = NoRoute
by_gateway (Some gateway) = Hop gateway

abbrev pub route : Config → Link → ℕ → Route
route c l ip = if is_broadcast c ip then All else if is_near c l ip then Hop ip else by_gateway l.gateway

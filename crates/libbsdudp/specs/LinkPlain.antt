-- The meaning of C's structs for a link (this project's own).
use Rattle.std.specs.Prelude.{ℕ, ◌==◌, not, if◌then◌else◌, Option, Some, None, is_some, unwrap_or}
use Rattle.flat_ether.specs.declared.link.Link.{Link}
use Rattle.flat_ether.specs.declared.mac.Mac.{Mac}
use Rattle.flat_ether.specs.declared.mac.TheConstants.{NO_MAC}
use Rattle.flat_ether.specs.declared.neighbour.Neighbour.{Neighbour}
use Rattle.flat_ether.specs.declared.tallies.Tallies.{Tallies}
use Rattle.libbsdudp.specs.declared.link_plain.CLink.{CLink}
use Rattle.libbsdudp.specs.declared.link_plain.CNeighbour.{CNeighbour}
use Rattle.libbsdudp.specs.declared.link_plain.CTallies.{CTallies}
use Rattle.libbsdudp.specs.Plain.{flag_number}

-- 0 means "no gateway"
abbrev pub gateway_of : ℕ → Option ℕ
gateway_of n = if n == 0 then None else Some n

abbrev pub plain_link : CLink → Link
plain_link l =
    record {
      mac = record { high = l.mac_high; low = l.mac_low };
      mask = l.mask;
      gateway = gateway_of l.gateway;
      probe = not (l.probe == 0);
    }

-- 0 for a hardware address that isn't known
abbrev pub c_neighbour : Neighbour → CNeighbour
c_neighbour n =
    let mac : Mac = unwrap_or n.mac NO_MAC in
    record {
      ip = n.ip;
      mac_low = mac.low;
      mac_high = mac.high;
      ticks = n.ticks;
      tries = n.tries;
      known = flag_number (is_some n.mac);
    }

abbrev pub c_tallies : Tallies → CTallies
c_tallies t = record {
  ignored = t.ignored;
  martians = t.martians;
  bad_arp = t.bad_arp;
  conflicts = t.conflicts;
  replies_dropped = t.replies_dropped;
  no_route = t.no_route;
  held_dropped = t.held_dropped;
  unresolved = t.unresolved;
  too_long = t.too_long;
  echoes = t.echoes;
  unreachable = t.unreachable;
  limited = t.limited;
  icmp_dropped = t.icmp_dropped;
  expired = t.expired;
}

-- The headers of a packet as the page gets them (RFC 791, section 3.1; RFC 768). The numbers are those of the fields,
-- and the right checksums are those of play_why.
use Rattle.std.specs.Prelude.{◌≡◌, ◌⊎◌, ◌*◌, ◌/◌, ◌%◌, ℕ, List, length, drop, nat_lt, if◌then◌else◌, slice_index, Err}
use Rattle.flat_model.specs.Packets.Header.{u16_at, u32_at}
use Rattle.page.specs.Served.{outcome_number}
use Rattle.page.specs.declared.headers.PageHeader.{PageHeader}
use Rattle.params.specs.declared.TheConstants.{FRAGMENT_UNIT, IP_HEADER, IP_UDP_HEADERS}
use Rattle.play_why.specs.Values.{pseudo_sum, right_header_sum, right_udp_sum}
use Rattle.script_loop.specs.declared.fault.RunFault.TheVariants.{Memory}

abbrev pub no_header : PageHeader
no_header = record {
  parts = 0;
  version = 0;
  words = 0;
  service = 0;
  total = 0;
  id = 0;
  flags = 0;
  offset = 0;
  ttl = 0;
  protocol = 0;
  sum = 0;
  right_sum = 0;
  source = 0;
  destination = 0;
  source_port = 0;
  destination_port = 0;
  udp_len = 0;
  udp_sum = 0;
  right_udp_sum = 0;
  pseudo_sum = 0;
}

-- for a packet of 20 bytes or more
abbrev pub ip_struct : List ℕ → PageHeader
ip_struct p = record no_header {
  parts = 1;
  version = slice_index p 0 / 16;
  words = slice_index p 0 % 16;
  service = slice_index p 1;
  total = u16_at 2 p;
  id = u16_at 4 p;
  flags = u16_at 6 p / 8192;
  offset = u16_at 6 p % 8192 * FRAGMENT_UNIT;
  ttl = slice_index p 8;
  protocol = slice_index p 9;
  sum = u16_at 10 p;
  right_sum = right_header_sum p;
  source = u32_at 12 p;
  destination = u32_at 16 p;
}

-- for a packet of 28 bytes or more, whose datagram begins after 20
abbrev pub udp_struct : List ℕ → PageHeader
udp_struct p = record (ip_struct p) {
  parts = 2;
  source_port = u16_at 0 (drop IP_HEADER p);
  destination_port = u16_at 2 (drop IP_HEADER p);
  udp_len = u16_at 4 (drop IP_HEADER p);
  udp_sum = u16_at 6 (drop IP_HEADER p);
  right_udp_sum = right_udp_sum p (drop IP_HEADER p);
  pseudo_sum = pseudo_sum p (drop IP_HEADER p);
}

abbrev pub header_struct : List ℕ → PageHeader
header_struct p =
    if nat_lt (length p) IP_HEADER then no_header
    else if nat_lt (length p) IP_UDP_HEADERS then ip_struct p
    else udp_struct p

-- The packet's headers were decoded; or memory ran out, and nothing was written.
abbrev pub Headed : List ℕ → ℕ → PageHeader → PageHeader → Type 0
Headed packet answer before after =
    ((answer ≡ 0) × (after ≡ header_struct packet)) ⊎ ((answer ≡ outcome_number (Err Memory)) × (after ≡ before))

-- The header of a packet without its options (this project's own).
use Rattle.std.specs.Prelude.{ℕ, ◌+◌, false, List}
use Rattle.params.specs.declared.TheConstants.{IP_HEADER, IP_DEFAULT_TTL}
use Rattle.flat_model.specs.Packets.Header.{head_of}
use Rattle.ip_out.specs.declared.head.IpHead.{IpHead}

-- its fields, for a packet that carries n bytes
abbrev pub short_head : List ℕ → ℕ → IpHead
short_head came n = record {
  tos = 0;
  total = IP_HEADER + n;
  id = (head_of came).id;
  dont = false;
  more = (head_of came).more;
  offset = (head_of came).offset;
  ttl = IP_DEFAULT_TTL;
  proto = (head_of came).protocol;
  src = (head_of came).source;
  dst = (head_of came).destination;
}

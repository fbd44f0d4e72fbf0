-- Which datagram a fragment belongs to, and where in it (RFC 791, section 3.2).
use Rattle.std.specs.Prelude.{ℕ, ◌*◌, ◌%◌, ◌==◌, ◌&&◌, ◌||◌, Bool, not, nat_lt, List, length, slice_index, if◌then◌else◌, Option, Some, None}
use Rattle.params.specs.declared.TheConstants.{IP_HEADER}
use Rattle.flat_model.specs.Packets.Header.{u16_at, u32_at}
use Rattle.flat_model.specs.declared.fragment_key.FragmentKey.{FragmentKey}

-- two fragments belong to one datagram
abbrev pub same_key : FragmentKey → FragmentKey → Bool
same_key a b =
    (a.source == b.source) && ((a.destination == b.destination) && ((a.id == b.id) && (a.protocol == b.protocol)))

-- the key of a packet with a header of 20 bytes, if it is a fragment
abbrev pub key_of : List ℕ → Option FragmentKey
key_of p =
    if nat_lt (length p) IP_HEADER || (not (slice_index p 0 == 69) || u16_at 6 p % 16_384 == 0) then None
    else Some (record {
      source = u32_at 12 p;
      destination = u32_at 16 p;
      id = u16_at 4 p;
      protocol = slice_index p 9;
    })

abbrev pub offset_of : List ℕ → ℕ
offset_of p = u16_at 6 p % 8192 * 8

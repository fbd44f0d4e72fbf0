-- Checksums that the sender's card should have filled in after the packet was captured (this project's own).
use Rattle.std.specs.Prelude.{ℕ, ◌/◌, ◌%◌, ◌==◌, ◌&&◌, Bool, nat_le, List, ◌∷◌, ◌++◌, length, slice_index, take, drop}
use Rattle.params.specs.declared.TheConstants.{IP_UDP_HEADERS, PROTOCOL_UDP, UDP_HEADER}
use Rattle.flat_model.specs.Packets.Header.{u16_at}
use Rattle.play_why.specs.Values.{carried_of, pseudo_sum, right_udp_sum}

-- a UDP datagram that isn't in fragments, after an IP header without options
abbrev pub is_whole : List ℕ → Bool
is_whole p =
    nat_le IP_UDP_HEADERS (length p)
    && ((slice_index p 0 == 69) && ((slice_index p 9 == PROTOCOL_UDP) && (u16_at 6 p % 16_384 == 0)))

-- its checksum is the sum of only the pseudo header
unfoldable pub is_left_to_card : List ℕ → Bool
is_left_to_card p =
    is_whole p
    && (nat_le UDP_HEADER (length (carried_of p)) && (u16_at 6 (carried_of p) == pseudo_sum p (carried_of p)))

abbrev pub with_sum : ℕ → List ℕ → List ℕ
with_sum sum p = take 26 p ++ sum / 256 ∷ sum % 256 ∷ drop 28 p

-- the packet with the right checksum
unfoldable pub filled_in : List ℕ → List ℕ
filled_in p = with_sum (right_udp_sum p (carried_of p)) p

-- IP options of packets that arrive (RFC 791, section 3.1; RFC 1122, section 3.2.1.8; `ip_dooptions` of volume 2,
-- chapter 9). The machine drops packets with options, so it gets them without options.
use Rattle.std.specs.Prelude.{ℕ, zero, suc, ◌+◌, ◌-◌, ◌*◌, ◌/◌, ◌%◌, nat_lt, nat_le, Bool, ◌==◌, ◌&&◌, ◌||◌, not, if◌then◌else◌, List, [], ◌∷◌, length, take, drop, slice_index}
use Rattle.params.specs.declared.TheConstants.{IP_HEADER}
use Rattle.flat_model.specs.Packets.Checksum.{folded_sum}
use Rattle.flat_model.specs.Packets.Header.{head_of, packet, total_of}
use Rattle.flat_ether.specs.declared.sizes.TheConstants.{ETHER_MTU, OPTION_END, OPTION_LOOSE_ROUTE, OPTION_NONE, OPTION_RECORD_ROUTE, OPTION_STRICT_ROUTE}

-- the bytes of a packet's header
abbrev pub header_size : List ℕ → ℕ
header_size came = slice_index came 0 % 16 * 4

-- what a packet carries, up to its total length
abbrev pub carried_in : List ℕ → List ℕ
carried_in came = drop (header_size came) (take (total_of came) came)

-- ---- the options of a header

-- the bytes of an option, by its kind and what follows that
abbrev pub option_size : ℕ → List ℕ → ℕ
option_size kind rest = if kind == OPTION_NONE then 1 else slice_index rest 0

-- An option that is accepted, by its kind and what follows that: it has a length, it's no source route, and a record
-- route points to a place after its pointer. Its other bytes are ignored.
abbrev pub is_option : ℕ → List ℕ → Bool
is_option kind rest =
    (kind == OPTION_NONE) || (nat_le 2 (slice_index rest 0) && (not (kind == OPTION_LOOSE_ROUTE)
    && (not (kind == OPTION_STRICT_ROUTE)
    && (not (kind == OPTION_RECORD_ROUTE) || (nat_le 3 (slice_index rest 0) && nat_le 4 (slice_index rest 1))))))

-- These bytes are whole options that are accepted, one after another, up to the last byte or an end of the list. The
-- first n bytes belong to an option that began before them.
abbrev pub are_options : ℕ → List ℕ → Bool
are_options n [] = n == 0
are_options zero (kind ∷ rest) =
    (kind == OPTION_END) || (is_option kind rest && are_options (option_size kind rest - 1) rest)
are_options (suc n) (byte ∷ rest) = are_options n rest

abbrev pub options_in : List ℕ → List ℕ
options_in came = drop IP_HEADER (take (header_size came) came)

-- ---- a packet without its options

-- The lengths of the header and of the packet fit, the checksum covers the whole header, and all options are accepted.
-- Without them the packet fits in an Ethernet frame.
abbrev pub is_sound : List ℕ → Bool
is_sound came =
    nat_le (header_size came) (total_of came)
    && (nat_le (total_of came) (length came) && (nat_le (IP_HEADER + (total_of came - header_size came)) ETHER_MTU
    && ((folded_sum (take (header_size came) came) == 65535) && are_options 0 (options_in came))))

-- a packet of version 4 with more than five words of header, and options that are accepted
abbrev pub has_options : List ℕ → Bool
has_options came =
    nat_le IP_HEADER (length came)
    && ((slice_index came 0 / 16 == 4) && (nat_lt 5 (slice_index came 0 % 16) && is_sound came))

-- A header of five words with all that the machine reads of the first one, and what the packet carries. The machine
-- reads neither type of service nor time to live.
abbrev pub without_options : List ℕ → List ℕ
without_options came = packet (head_of came) (carried_in came)

-- What the machine gets of a packet. Options that are malformed, and source routes, reach it: it drops the packet and
-- counts it.
unfoldable pub plain : List ℕ → List ℕ
plain came = if has_options came then without_options came else came

-- Texts, piece by piece (this project's own).
use Rattle.std.specs.Prelude.{ℕ, ◌+◌, ◌-◌, ◌*◌, ◌==◌, List, [], ◌∷◌, ◌++◌, length, codes, decimal, if◌then◌else◌, Option, Some, None}
use Rattle.hex.specs.Hex.{encode_lower}
use Rattle.params.specs.declared.TheConstants.{PROTOCOL_UDP}
use Rattle.flat_ether.specs.Frames.{mac_bytes}
use Rattle.flat_ether.specs.declared.mac.Mac.{Mac}
use Rattle.flat_model.specs.Scripts.Grammar.{address_text}
use Rattle.flat_model.specs.declared.address.Addr.{Addr}
use Rattle.play_text.specs.Bytes.{difference, seen}
use Rattle.play_text.specs.Strings.{string_text}
use Rattle.play_text.specs.declared.piece.Piece.{Piece}
use Rattle.play_text.specs.declared.piece.Piece.TheVariants.{Text, Either, Number, Long, Maybe, Amount, Address, End, Hardware, Way, Range, Quoted, Reply, Apart}

-- a number, or these bytes if there is no number
abbrev pub number_or : Option ℕ → List ℕ → List ℕ
number_or (Some n) none = decimal n
number_or None none = none

-- `1 packet`, `2 packets`
abbrev pub amount : ℕ → List ℕ → List ℕ
amount n what = decimal n ++ codes " " ++ what ++ (if n == 1 then [] else codes "s")

-- `10.0.0.1:7`
abbrev pub end_text : Addr → List ℕ
end_text a = address_text a.ip ++ codes ":" ++ decimal a.port

-- bytes in two digits each, with colons between them
abbrev pub octets_text : List ℕ → List ℕ
octets_text [] = []
octets_text (b ∷ []) = encode_lower (b ∷ [])
octets_text (b ∷ c ∷ bs) = encode_lower (b ∷ []) ++ codes ":" ++ octets_text (c ∷ bs)

-- `02:00:00:00:00:01`
abbrev pub mac_text : Mac → List ℕ
mac_text m = octets_text (mac_bytes m)

abbrev pub protocol_text : ℕ → List ℕ
protocol_text protocol = if protocol == PROTOCOL_UDP then codes "udp" else codes "protocol " ++ decimal protocol

-- protocol and addresses, without ports
abbrev pub way_text : ℕ → ℕ → ℕ → List ℕ
way_text protocol source destination =
    protocol_text protocol ++ codes " " ++ address_text source ++ codes " > " ++ address_text destination

-- a range of bytes of a datagram: its offset and its length
abbrev pub range_text : ℕ → ℕ → List ℕ
range_text offset n =
    if n == 0 then codes "no byte"
    else codes "bytes " ++ decimal offset ++ codes " to " ++ decimal (offset + n - 1)

abbrev pub piece_text : Piece → List ℕ
piece_text (Text bytes) = bytes.now
piece_text (Either first this other) = if first then this.now else other.now
piece_text (Number n) = decimal n
piece_text (Long n) = decimal n
piece_text (Maybe n none) = number_or n none.now
piece_text (Amount n what) = amount n what.now
piece_text (Address ip) = address_text ip
piece_text (End end) = end_text end
piece_text (Hardware mac) = mac_text mac
piece_text (Way protocol source destination) = way_text protocol source destination
piece_text (Range offset n) = range_text offset n
piece_text (Quoted bytes) = string_text bytes.now
piece_text (Reply form reply) = seen form reply.now
piece_text (Apart form wanted reply) = difference form wanted.now reply.now

abbrev pub pieces_after : List ℕ → List Piece → List ℕ
pieces_after text [] = text
pieces_after text (piece ∷ pieces) = pieces_after (text ++ piece_text piece) pieces

-- one after another
abbrev pub text_of : List Piece → List ℕ
text_of pieces = pieces_after [] pieces

-- ---- the maximum length of each piece in bytes

abbrev pub piece_room : Piece → ℕ
piece_room (Text bytes) = length bytes.now
piece_room (Either first this other) = length this.now + length other.now
piece_room (Number n) = 10
piece_room (Long n) = 20
piece_room (Maybe n none) = length none.now + 20
piece_room (Amount n what) = length what.now + 12
piece_room (Address ip) = 15
piece_room (End end) = 26
piece_room (Hardware mac) = 17
piece_room (Way protocol source destination) = 53
piece_room (Range offset n) = 40
piece_room (Quoted bytes) = 6 * length bytes.now + 2
piece_room (Reply form reply) = length reply.now + 2
piece_room (Apart form wanted reply) = 48

abbrev pub pieces_room : List Piece → ℕ
pieces_room [] = 0
pieces_room (piece ∷ pieces) = piece_room piece + pieces_room pieces

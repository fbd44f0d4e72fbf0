-- The words that may follow the bytes of a described packet (this project's own). The fields are those of RFC 791,
-- section 3.1, and of RFC 768.
use Rattle.std.specs.Prelude.{ℕ, Bool, List, [], ◌∷◌, codes, bytes_eq, Option, Some, None}
use Rattle.std.specs.List.{find}
use Rattle.play_line.specs.declared.fault.Fault.{Fault}
use Rattle.play_line.specs.declared.fault.Fault.TheVariants.{NoId, NoTtl, NotUpTo15, NotUpTo255, NotUpTo65535}
use Rattle.play_packet.specs.declared.mark.Field.{Field}
use Rattle.play_packet.specs.declared.mark.Field.TheVariants as field
use Rattle.play_packet.specs.declared.mark.Mark.{Mark}
use Rattle.play_packet.specs.declared.mark.Mark.TheVariants as mark
use Rattle.play_packet.specs.declared.mark.Payload.{Payload}
use Rattle.play_packet.specs.declared.mark.Payload.TheVariants.{Udp, Raw}

-- ---- fields that hold a number

abbrev pub field_name : Field → List ℕ
field_name field.Version = codes "version"
field_name field.Ihl = codes "ihl"
field_name field.Tos = codes "tos"
field_name field.Len = codes "len"
field_name field.Id = codes "id"
field_name field.Ttl = codes "ttl"
field_name field.Protocol = codes "proto"
field_name field.Sum = codes "sum"
field_name field.UdpLen = codes "udplen"
field_name field.UdpSum = codes "udpsum"

-- the greatest number that fits into the field
abbrev pub most_number : Field → ℕ
most_number field.Version = 15
most_number field.Ihl = 15
most_number field.Tos = 255
most_number field.Len = 65535
most_number field.Id = 65535
most_number field.Ttl = 255
most_number field.Protocol = 255
most_number field.Sum = 65535
most_number field.UdpLen = 65535
most_number field.UdpSum = 65535

-- the fault for any other number
abbrev pub number_fault : Field → Fault
number_fault field.Version = NotUpTo15
number_fault field.Ihl = NotUpTo15
number_fault field.Tos = NotUpTo255
number_fault field.Len = NotUpTo65535
number_fault field.Id = NoId
number_fault field.Ttl = NoTtl
number_fault field.Protocol = NotUpTo255
number_fault field.Sum = NotUpTo65535
number_fault field.UdpLen = NotUpTo65535
number_fault field.UdpSum = NotUpTo65535

-- ---- all words

abbrev pub mark_name : Mark → List ℕ
mark_name (mark.Number f) = field_name f
mark_name mark.Offset = codes "off"
mark_name mark.Start = codes "at"
mark_name mark.Size = codes "size"
mark_name mark.Reserved = codes "rf"
mark_name mark.Whole = codes "df"
mark_name mark.More = codes "mf"
mark_name mark.BadSum = codes "badsum"
mark_name mark.BadUdp = codes "badudp"
mark_name mark.NoSum = codes "nosum"

-- the words for the IP header, and for the data that the packet carries
abbrev pub ip_marks : List Mark
ip_marks =
    mark.Number field.Version
    ∷ mark.Number field.Ihl
    ∷ mark.Number field.Tos
    ∷ mark.Number field.Len
    ∷ mark.Number field.Id
    ∷ mark.Reserved
    ∷ mark.Whole
    ∷ mark.More
    ∷ mark.Offset
    ∷ mark.Number field.Ttl
    ∷ mark.Number field.Protocol
    ∷ mark.Number field.Sum
    ∷ mark.BadSum
    ∷ mark.Start
    ∷ mark.Size
    ∷ []

-- the words for a UDP header
abbrev pub udp_marks : List Mark
udp_marks = mark.Number field.UdpLen ∷ mark.Number field.UdpSum ∷ mark.BadUdp ∷ mark.NoSum ∷ []

abbrev pub says_mark : List ℕ → Mark → Bool
says_mark word m = bytes_eq word (mark_name m)

abbrev pub or_named : Option Mark → Option Mark → Option Mark
or_named (Some m) other = Some m
or_named None other = other

-- the meaning of a word for a packet with this payload
abbrev pub mark_named : Payload → List ℕ → Option Mark
mark_named Raw word = find (says_mark word) ip_marks
mark_named Udp word = or_named (find (says_mark word) ip_marks) (find (says_mark word) udp_marks)

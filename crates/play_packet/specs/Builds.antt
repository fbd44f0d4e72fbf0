-- The packet that the words of a line describe, field by field (RFC 791, section 3.1; RFC 768).
use Rattle.std.specs.Prelude.{◌≡◌, ℕ, ◌+◌, ◌-◌, ◌*◌, ◌/◌, ◌%◌, ◌==◌, ◌&&◌, false, List, [], ◌∷◌, ◌++◌, length, take, drop, if◌then◌else◌, codes, nat_lt, Option, Some, None, unwrap_or, Result, Ok, Err}
use Rattle.params.specs.declared.TheConstants.{FRAGMENT_UNIT, IP_DEFAULT_TTL, IP_HEADER, IP_MAX_DATA, PROTOCOL_UDP, UDP_HEADER}
use Rattle.flat_model.specs.Packets.Checksum.{checksum}
use Rattle.flat_model.specs.Packets.Header.{Head, address_bytes, flag, not_zero, pseudo_header, two_bytes}
use Rattle.flat_model.specs.Scripts.Texts.{hex_text}
use Rattle.play_line.specs.Line.{column_of}
use Rattle.play_line.specs.declared.fault.Fault.TheVariants.{NoBytes, PastEnd, TooLarge}
use Rattle.play_line.specs.declared.fault.SyntaxError.{SyntaxError}
use Rattle.play_packet.specs.Forms.{misfit, and_then, form_of, payload_of, word_place}
use Rattle.play_packet.specs.Numbers.{word_bytes}
use Rattle.play_packet.specs.declared.form.Form.{Form}
use Rattle.play_packet.specs.declared.form.Sum.{Sum}
use Rattle.play_packet.specs.declared.form.Sum.TheVariants.{Right, Wrong, Given}
use Rattle.play_packet.specs.declared.mark.Payload.{Payload}
use Rattle.play_packet.specs.declared.mark.Payload.TheVariants.{Udp, Raw}
use Rattle.play_packet.specs.declared.places.Misfit.{Misfit}
use Rattle.play_packet.specs.declared.places.NumberAt.{NumberAt}

-- one more than a checksum: always different from it, and never 0
abbrev pub wrong : ℕ → ℕ
wrong sum = sum % 65535 + 1

abbrev pub value_or : ℕ → Option NumberAt → ℕ
value_or default None = default
value_or default (Some number) = number.value

-- ---- the datagram

-- the value of the checksum field, given the right checksum
abbrev pub written_sum : Sum → ℕ → ℕ
written_sum Right right = right
written_sum Wrong right = wrong right
written_sum (Given sum) right = sum

-- the length field of its header, if it carries n bytes
abbrev pub udp_len_of : Form → ℕ → ℕ
udp_len_of f n = unwrap_or f.udp_len (UDP_HEADER + n)

-- The datagram that carries these bytes. The checksum covers the number of bytes that the header's length says.
unfoldable pub datagram_of_form : Form → List ℕ → List ℕ
datagram_of_form f s =
    let n : ℕ = udp_len_of f (length s) in
    let front : List ℕ = two_bytes f.source.port ++ two_bytes f.destination.port ++ two_bytes n in
    let covered : List ℕ = front ++ 0 ∷ 0 ∷ take (n - UDP_HEADER) s in
    let right : ℕ = not_zero (checksum (pseudo_header f.source.ip f.destination.ip n ++ covered)) in
    front ++ two_bytes (written_sum f.udp_sum right) ++ s

-- ---- the packet

-- the ten bytes before the header's checksum, for a packet that carries n bytes
abbrev pub front_of_form : Form → ℕ → List ℕ
front_of_form f n =
    (16 * (unwrap_or f.version 4 % 16) + unwrap_or f.ihl 5 % 16)
    ∷ unwrap_or f.tos 0
    ∷ two_bytes (unwrap_or f.len (IP_HEADER + n))
    ++ two_bytes (unwrap_or f.id 1)
    ++ two_bytes (flag f.reserved 32768 + flag f.whole 16384 + flag f.more 8192
    + unwrap_or f.offset 0 / FRAGMENT_UNIT)
    ++ unwrap_or f.ttl IP_DEFAULT_TTL
    ∷ unwrap_or f.protocol PROTOCOL_UDP
    ∷ []

-- the packet that carries these bytes; the checksum covers the 20 bytes of the header
unfoldable pub packet_of : Form → List ℕ → List ℕ
packet_of f carried =
    let front : List ℕ = front_of_form f (length carried) in
    let addresses : List ℕ = address_bytes f.source.ip f.destination.ip in
    let right : ℕ = checksum (front ++ 0 ∷ 0 ∷ addresses) in
    front ++ two_bytes (written_sum f.sum right) ++ addresses ++ carried

-- the header fields that this stack itself can set
abbrev pub head_of_form : Form → Head
head_of_form f = record {
  id = unwrap_or f.id 1;
  more = f.more;
  offset = unwrap_or f.offset 0;
  protocol = unwrap_or f.protocol PROTOCOL_UDP;
  source = f.source.ip;
  destination = f.destination.ip;
}

-- the form uses only what this stack can set
pub record IsOwn (f : Form) : Type 0 where
  pub version : f.version ≡ None
  pub ihl : f.ihl ≡ None
  pub tos : f.tos ≡ None
  pub len : f.len ≡ None
  pub reserved : f.reserved ≡ false
  pub whole : f.whole ≡ false
  pub ttl : f.ttl ≡ None
  pub sum : f.sum ≡ Right

-- ---- what can't be built

abbrev pub place_or_zero : Option NumberAt → ℕ
place_or_zero None = 0
place_or_zero (Some number) = number.place

-- the packet carries the selected part of a datagram or of the line's bytes, or all the rest
abbrev pub cut_of : Form → ℕ → List ℕ → Result (List ℕ) Misfit
cut_of f place whole =
    let start : ℕ = value_or 0 f.start in
    let left : ℕ = length whole - start in
    let size : ℕ = value_or left f.size in
    if left == 0 && nat_lt 0 start then misfit PastEnd (place_or_zero f.start)
    else if nat_lt left size then misfit PastEnd (place_or_zero f.size)
    else if nat_lt IP_MAX_DATA size then misfit TooLarge place
    else Ok (packet_of f (take size (drop start whole)))

abbrev pub sent_bytes : Payload → Form → List ℕ → List ℕ
sent_bytes Udp f sent = datagram_of_form f sent
sent_bytes Raw f sent = sent

-- a datagram has at most 65,535 bytes, including 8 for its header
abbrev pub built : Form → ℕ → Option (List ℕ) → Result (List ℕ) Misfit
built f place None = misfit NoBytes place
built f place (Some sent) =
    if nat_lt 65527 (length sent) then misfit TooLarge place else cut_of f place (sent_bytes f.payload f sent)

-- ---- the plain line

-- the packet that the words after `rx udp` or `rx raw` describe
abbrev pub packet_named : Payload → List ℕ → Result (List ℕ) Misfit
packet_named payload text = and_then (form_of payload text) (λ t.
    built t.0 t.1.place (word_bytes (take t.1.len (drop t.1.place text))))

abbrev pub plain_packet : List ℕ → List ℕ → Result (List ℕ) Misfit → Result (List ℕ) SyntaxError
plain_packet line text (Ok bytes) = Ok (codes "rx " ++ hex_text bytes)
plain_packet line text (Err e) = Err (record { fault = e.fault; column = column_of line (word_place text e.place) })

abbrev pub named_as : Option Payload → List ℕ → List ℕ → Result (List ℕ) SyntaxError
named_as None line text = Ok text
named_as (Some payload) line text = plain_packet line text (packet_named payload text)

-- The plain line for the words of the line `line`: `rx` with the packet that they describe, or the words unchanged if
-- they don't describe one. If there is an error, it is returned with the column of the wrong word, or of the last word
-- if one is missing.
abbrev pub named : List ℕ → List ℕ → Result (List ℕ) SyntaxError
named line text = named_as (payload_of text) line text

-- The description of a packet by the words of a line (this project's own).
--
-- A word is identified by the position of its first byte in the plain line.
use Rattle.std.specs.Prelude.{ℕ, ◌+◌, ◌%◌, ◌==◌, ◌||◌, Bool, true, false, List, [], ◌∷◌, zero, suc, length, take, drop, position, if◌then◌else◌, codes, bytes_eq, nat_lt, Option, Some, None, is_some, Result, Ok, Err}
use Rattle.flat_model.specs.declared.address.Addr.{Addr}
use Rattle.play_line.specs.Bytes.{place_or_end}
use Rattle.play_line.specs.declared.fault.Fault.{Fault}
use Rattle.play_line.specs.declared.fault.Fault.TheVariants.{NoArrow, NoBytes, NoCount, NoOffset, NoMore, NoSize, UnknownWord, GivenTwice}
use Rattle.play_packet.specs.Ends.{end_as, missing_end}
use Rattle.play_packet.specs.Marks.{mark_named, most_number, number_fault}
use Rattle.play_packet.specs.Numbers.{number_in}
use Rattle.play_packet.specs.declared.form.Form.{Form}
use Rattle.play_packet.specs.declared.form.Sum.{Sum}
use Rattle.play_packet.specs.declared.form.Sum.TheVariants.{Right, Wrong, Given}
use Rattle.play_packet.specs.declared.mark.Field.{Field}
use Rattle.play_packet.specs.declared.mark.Field.TheVariants as field
use Rattle.play_packet.specs.declared.mark.Mark.{Mark}
use Rattle.play_packet.specs.declared.mark.Mark.TheVariants as mark
use Rattle.play_packet.specs.declared.mark.Payload.{Payload}
use Rattle.play_packet.specs.declared.mark.Payload.TheVariants.{Udp, Raw}
use Rattle.play_packet.specs.declared.places.Misfit.{Misfit}
use Rattle.play_packet.specs.declared.places.Span.{Span}
use Rattle.play_packet.specs.declared.places.NumberAt.{NumberAt}

abbrev pub misfit : {A : Type 0} → Fault → ℕ → Result A Misfit
misfit fault place = Err (record { fault = fault; place = place })

-- the next step, unless there was an error
abbrev pub and_then : {A B : Type 0} → Result A Misfit → (A → Result B Misfit) → Result B Misfit
and_then (Ok a) more = more a
and_then (Err e) more = Err e

-- ---- words

-- up to the next space
abbrev pub first_word : List ℕ → List ℕ
first_word text = take (place_or_end (position (λ byte. byte == 32) text) text) text

-- the word that begins at a position
unfoldable pub word_at : List ℕ → ℕ → Option (List ℕ)
word_at text at = if nat_lt (length text) at then None else Some (first_word (drop at text))

-- the position of the last word, after the first `at` bytes and the last position so far
abbrev pub last_after : ℕ → ℕ → List ℕ → ℕ
last_after place at [] = place
last_after place at (byte ∷ bytes) = last_after (if byte == 32 then at + 1 else place) (at + 1) bytes

abbrev pub last_place : List ℕ → ℕ
last_place text = last_after 0 0 text

-- the position of a word, or of the last word if it is missing
abbrev pub word_place : List ℕ → ℕ → ℕ
word_place text at = if nat_lt (length text) at then last_place text else at

abbrev pub with_word : {A : Type 0} → Fault → ℕ → Option (List ℕ) → (List ℕ → ℕ → Result A Misfit)
    → Result A Misfit
with_word fault at None more = misfit fault at
with_word fault at (Some word) more = more word (at + length word + 1)

-- a word that must be present, and the position of the one after it
abbrev pub needs : {A : Type 0} → Fault → List ℕ → ℕ → (List ℕ → ℕ → Result A Misfit) → Result A Misfit
needs fault text at more = with_word fault at (word_at text at) more

abbrev pub is_word : List ℕ → Option (List ℕ) → Bool
is_word sought None = false
is_word sought (Some word) = bytes_eq word sought

-- the payload for the word after `rx`
abbrev pub payload_in : Option (List ℕ) → Option Payload
payload_in word =
    if is_word (codes "udp") word then Some Udp else if is_word (codes "raw") word then Some Raw else None

-- the payload of the packet that a line describes, if it describes one
abbrev pub payload_of : List ℕ → Option Payload
payload_of text = if is_word (codes "rx") (word_at text 0) then payload_in (word_at text 3) else None

abbrev pub or_misfit : {A : Type 0} → Result A Fault → ℕ → ℕ → Result (A × ℕ) Misfit
or_misfit (Ok a) at after = Ok (a, after)
or_misfit (Err fault) at after = misfit fault at

abbrev pub end_read : Payload → List ℕ → ℕ → Result (Addr × ℕ) Misfit
end_read payload text at = needs (missing_end payload) text at (λ word after. or_misfit (end_as payload word) at after)

abbrev pub arrow_at : List ℕ → ℕ → Result ℕ Misfit
arrow_at text at = needs NoArrow text at (λ word after.
    if bytes_eq word (codes ">") then Ok after else misfit NoArrow at)

-- the position of the word with the bytes, and its length
abbrev pub span_at : List ℕ → ℕ → Result (Span × ℕ) Misfit
span_at text at = needs NoBytes text at (λ word after. Ok (record { place = at; len = length word }, after))

abbrev pub number_or_misfit : Option ℕ → Fault → ℕ → ℕ → Result (NumberAt × ℕ) Misfit
number_or_misfit (Some value) fault at after = Ok (record { value = value; place = at }, after)
number_or_misfit None fault at after = misfit fault at

abbrev pub number_at : Fault → ℕ → List ℕ → ℕ → Result (NumberAt × ℕ) Misfit
number_at fault most text at =
    needs NoCount text at (λ word after. number_or_misfit (number_in most word) fault at after)

-- the offset of a fragment, a multiple of 8
abbrev pub offset_at : List ℕ → ℕ → Result (NumberAt × ℕ) Misfit
offset_at text at = and_then (number_at NoOffset 65528 text at) (λ t.
    if t.0.value % 8 == 0 then Ok (t.0, t.1) else misfit NoOffset t.0.place)

-- whether more fragments follow it
abbrev pub more_at : List ℕ → ℕ → Result (Bool × ℕ) Misfit
more_at text at = needs NoMore text at (λ word after.
    if bytes_eq word (codes "more") then Ok (true, after) else
    if bytes_eq word (codes "last") then Ok (false, after) else misfit NoMore at)

-- ---- the optional words, each at most once

-- before the first of them
abbrev pub fresh : Payload → Addr → Addr → Form
fresh payload source destination = record {
  payload = payload;
  source = source;
  destination = destination;
  version = None;
  ihl = None;
  tos = None;
  len = None;
  id = None;
  reserved = false;
  whole = false;
  more = false;
  offset = None;
  ttl = None;
  protocol = None;
  sum = Right;
  start = None;
  size = None;
  udp_len = None;
  udp_sum = Right;
}

abbrev pub is_said : Sum → Bool
is_said Right = false
is_said Wrong = true
is_said (Given sum) = true

-- a word has set this field already
abbrev pub has_number : Form → Field → Bool
has_number f field.Version = is_some f.version
has_number f field.Ihl = is_some f.ihl
has_number f field.Tos = is_some f.tos
has_number f field.Len = is_some f.len
has_number f field.Id = is_some f.id
has_number f field.Ttl = is_some f.ttl
has_number f field.Protocol = is_some f.protocol
has_number f field.Sum = is_said f.sum
has_number f field.UdpLen = is_some f.udp_len
has_number f field.UdpSum = is_said f.udp_sum

-- this was set already; `at` also sets what `off` and `mf` set
abbrev pub has : Form → Mark → Bool
has f (mark.Number which) = has_number f which
has f mark.Offset = is_some f.offset
has f mark.Start = is_some f.offset || f.more
has f mark.Size = is_some f.size
has f mark.Reserved = f.reserved
has f mark.Whole = f.whole
has f mark.More = f.more || is_some f.start
has f mark.BadSum = is_said f.sum
has f mark.BadUdp = is_said f.udp_sum
has f mark.NoSum = is_said f.udp_sum

-- with this number in a field
abbrev pub holding : Form → Field → ℕ → Form
holding f field.Version n = record f { version = Some n }
holding f field.Ihl n = record f { ihl = Some n }
holding f field.Tos n = record f { tos = Some n }
holding f field.Len n = record f { len = Some n }
holding f field.Id n = record f { id = Some n }
holding f field.Ttl n = record f { ttl = Some n }
holding f field.Protocol n = record f { protocol = Some n }
holding f field.Sum n = record f { sum = Given n }
holding f field.UdpLen n = record f { udp_len = Some n }
holding f field.UdpSum n = record f { udp_sum = Given n }

abbrev pub with_field : Form → Field → List ℕ → ℕ → Result (Form × ℕ) Misfit
with_field f which text at = and_then (number_at (number_fault which) (most_number which) text at) (λ t.
    Ok (holding f which t.0.value, t.1))

abbrev pub with_offset : Form → List ℕ → ℕ → Result (Form × ℕ) Misfit
with_offset f text at = and_then (offset_at text at) (λ t. Ok (record f { offset = Some t.0.value }, t.1))

-- the offset in the datagram of the data that the packet carries; its header has it too
abbrev pub with_start : Form → List ℕ → ℕ → Result (Form × ℕ) Misfit
with_start f text at = and_then (offset_at text at) (λ t. and_then (more_at text t.1) (λ m.
    Ok (record f { offset = Some t.0.value; start = Some t.0; more = m.0 }, m.1)))

abbrev pub with_size : Form → List ℕ → ℕ → Result (Form × ℕ) Misfit
with_size f text at = and_then (number_at NoSize 65515 text at) (λ t. Ok (record f { size = Some t.0 }, t.1))

-- with a flag, or with a checksum that has no number after it
abbrev pub flagged : Form → Mark → Form
flagged f mark.Reserved = record f { reserved = true }
flagged f mark.Whole = record f { whole = true }
flagged f mark.More = record f { more = true }
flagged f mark.BadSum = record f { sum = Wrong }
flagged f mark.BadUdp = record f { udp_sum = Wrong }
flagged f mark.NoSum = record f { udp_sum = Given 0 }
flagged f _ = f

-- after a word with this meaning, whose arguments begin at a position
abbrev pub with_mark : Form → Mark → List ℕ → ℕ → Result (Form × ℕ) Misfit
with_mark f (mark.Number which) text at = with_field f which text at
with_mark f mark.Offset text at = with_offset f text at
with_mark f mark.Start text at = with_start f text at
with_mark f mark.Size text at = with_size f text at
with_mark f flag text at = Ok (flagged f flag, at)

abbrev pub marked : Form → Option Mark → List ℕ → ℕ → ℕ → Result (Form × ℕ) Misfit
marked f None text at after = misfit UnknownWord at
marked f (Some m) text at after = if has f m then misfit GivenTwice at else with_mark f m text after

-- after this word at this position, and its arguments
unfoldable pub with_word_at : Form → List ℕ → List ℕ → ℕ → Result (Form × ℕ) Misfit
with_word_at f word text at = marked f (mark_named f.payload word) text at (at + length word + 1)

-- ---- all words

-- the result for a word, or a default if it is missing
abbrev pub if_word : {A : Type 0} → Option (List ℕ) → A → (List ℕ → A) → A
if_word None other more = other
if_word (Some word) other more = more word

-- the words from a position on; there are at most n
abbrev pub form_after : ℕ → List ℕ → Form → ℕ → Result Form Misfit
form_after zero text f at = Ok f
form_after (suc n) text f at = if_word (word_at text at) (Ok f) (λ word.
    and_then (with_word_at f word text at) (λ t. form_after n text t.0 t.1))

-- the description after `rx udp` or `rx raw`, and the word with the bytes
abbrev pub form_of : Payload → List ℕ → Result (Form × Span) Misfit
form_of payload text =
    and_then (end_read payload text 7) (λ s. and_then (arrow_at text s.1) (λ a.
    and_then (end_read payload text a) (λ d. and_then (span_at text d.1) (λ b.
    and_then (form_after (length text) text (fresh payload s.0 d.0) b.1) (λ f. Ok (f, b.0))))))

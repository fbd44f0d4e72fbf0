-- The plain line of a line of a play script: its words with one space between each two, without its comment, and with
-- hexadecimal digits for all bytes (this project's own).
use Rattle.std.specs.Prelude.{ℕ, ◌+◌, ◌-◌, ◌*◌, ◌==◌, ◌≤◌, ◌&&◌, ◌||◌, not, Bool, true, false, List, [], ◌∷◌, ◌++◌, zero, suc, length, take, drop, if◌then◌else◌, codes, bytes_eq, nat_lt, nat_le, Result, Ok, Err}
use Rattle.std.specs.Borrow.{Bor}
use Rattle.play_line.specs.Bytes.{stop, next, is_next, front, skip, part_at}
use Rattle.play_line.specs.declared.bytes.Class.TheVariants.{Word}
use Rattle.play_line.specs.declared.fault.Fault.TheVariants.{NoBytes, TooManyBytes, TooLong}
use Rattle.play_line.specs.declared.fault.SyntaxError.{SyntaxError}
use Rattle.play_line.specs.declared.fault.Misread.{Misread}
use Rattle.play_line.specs.declared.line.Reader.{Reader}
use Rattle.play_line.specs.declared.line.TheConstants.{LONGEST, WHOLE}
use Rattle.play_line.specs.declared.part.Part.{Part}
use Rattle.play_line.specs.declared.part.TheConstants.{MOST_DIGITS}

-- a line so far
pub record LineFront : Type 0 where
  pub plain : List ℕ  -- its plain line
  pub begin : ℕ  -- the position there at which the last word begins
  pub awaits : ℕ  -- how many words further on the bytes of the line are, or 0
  pub ended : Bool  -- the line is finished
  pub left : List ℕ

abbrev pub fresh_front : List ℕ → LineFront
fresh_front line = record { plain = []; begin = 0; awaits = 0; ended = false; left = line }

-- ---- which words must be bytes

-- the number of words between this first word of a line and its bytes
abbrev pub places : List ℕ → ℕ
places word =
    if bytes_eq word (codes "rx") then 1 else
    if bytes_eq word (codes "send") then 2 else
    if bytes_eq word (codes "sendto") then 4 else 0

-- the word after `rx` that begins the description of a packet
abbrev pub begins_packet : List ℕ → Bool
begins_packet word = bytes_eq word (codes "udp") || bytes_eq word (codes "raw")

-- the same after one more word: in the description of a packet, both endpoints with `>` between them come before the
-- bytes
abbrev pub next_awaits : List ℕ → ℕ → List ℕ → ℕ
next_awaits plain awaits word =
    if is_next 61 word then 0
    else if length plain == 0 then places word
    else if bytes_eq plain (codes "rx") && begins_packet word then 4
    else awaits - 1

-- `-` for no bytes, or `pcap` for a capture
abbrev pub needs_no_digits : List ℕ → List ℕ → Bool
needs_no_digits plain word = bytes_eq word (codes "-")
    || (bytes_eq plain (codes "rx") && (begins_packet word || bytes_eq word (codes "pcap")))

-- it is at the position of the bytes, or `*` or `+` follows it
abbrev pub has_digits : List ℕ → ℕ → List ℕ → List ℕ → Bool
has_digits plain awaits word rest =
    is_next 42 rest || (is_next 43 (skip rest) || (awaits == 1 && not (needs_no_digits plain word)))

-- ---- words

-- this many more copies of a piece
abbrev pub appended : List ℕ → ℕ → List ℕ → List ℕ
appended done zero piece = done
appended done (suc n) piece = appended done n piece ++ piece

abbrev pub with_part : LineFront → Part × List ℕ → Result LineFront Misread
with_part f t =
    if nat_lt MOST_DIGITS ((length f.plain - f.begin) + t.0.count * length t.0.piece) then stop TooManyBytes t.1
    else if nat_lt LONGEST (length f.plain + t.0.count * length t.0.piece) then stop TooLong t.1
    else Ok (record f { plain = appended f.plain t.0.count t.0.piece; left = t.1 })

-- the next n bytes, or a text or a pattern
abbrev pub part_in : Bool → ℕ → LineFront → Result LineFront Misread
part_in hex n f = next (part_at hex n f.left) (with_part f)

-- after `+`, which joins bytes to the word before it
unfoldable pub joined_part : LineFront → Result LineFront Misread
joined_part f = part_in true (front Word f.left) f

-- a space comes before a word, except for the first word, and for `=` directly after another word
abbrev pub is_apart : List ℕ → List ℕ → List ℕ → Bool
is_apart plain left at = nat_lt 0 (length plain) && nat_lt (length at) (length left)

-- the position in the plain line at which it begins
abbrev pub begin_after : Bool → ℕ → ℕ
begin_after apart len = if apart then len + 1 else len

-- up to the next sign, except `=` as its first byte
abbrev pub word_len : List ℕ → ℕ
word_len left = if is_next 61 left then 1 + front Word (drop 1 left) else front Word left

abbrev pub opened : Bool → List ℕ → LineFront → LineFront
opened apart word f = record f {
  plain = if apart then f.plain ++ 32 ∷ [] else f.plain;
  begin = begin_after apart (length f.plain);
  awaits = next_awaits f.plain f.awaits word;
}

-- a word of n bytes, if it's neither a text nor a pattern
abbrev pub word_in : Bool → ℕ → LineFront → Result LineFront Misread
word_in apart n f =
    part_in (has_digits f.plain f.awaits (take n f.left) (drop n f.left)) n (opened apart (take n f.left) f)

-- the line ends here, or its comment begins
abbrev pub is_end : List ℕ → Bool
is_end [] = true
is_end (byte ∷ rest) = byte == 35

-- the next word, or the next bytes that `+` joins; not the word that begins at the goal
abbrev pub step_at : ℕ → Bool → LineFront → Result LineFront Misread
step_at goal apart f =
    if is_end f.left then Ok (record f { ended = true })
    else if is_next 43 f.left
    then (if length f.plain == 0 then stop NoBytes f.left else joined_part (record f { left = skip (drop 1 f.left) }))
    else if apart && nat_le LONGEST (length f.plain) then stop TooLong f.left
    else if begin_after apart (length f.plain) == goal then Ok (record f { ended = true })
    else word_in apart (word_len f.left) f

unfoldable pub step : ℕ → LineFront → Result LineFront Misread
step goal f = step_at goal (is_apart f.plain f.left (skip f.left)) (record f { left = skip f.left })

-- ---- a line

-- the next n words and joined bytes
abbrev pub line_after : ℕ → ℕ → LineFront → Result LineFront Misread
line_after zero goal f = Ok f
line_after (suc n) goal f = next (step goal f) (λ g. if g.ended then Ok g else line_after n goal g)

-- all of them: each takes at least one byte
abbrev pub line_read : ℕ → List ℕ → Result LineFront Misread
line_read goal line = line_after (length line) goal (fresh_front line)

-- the column of the first byte that is left, the first column being 1
abbrev pub column_at : List ℕ → ℕ → ℕ
column_at line left = 1 + (length line - left)

abbrev pub plain_of : List ℕ → Result LineFront Misread → Result (List ℕ) SyntaxError
plain_of line (Ok f) = Ok f.plain
plain_of line (Err e) = Err (record { fault = e.fault; column = column_at line e.left })

-- the plain line of a line, or the error in it
abbrev pub expanded : List ℕ → Result (List ℕ) SyntaxError
expanded line = plain_of line (line_read WHOLE line)

abbrev pub left_of : Result LineFront Misread → ℕ
left_of (Ok f) = length f.left
left_of (Err e) = e.left

-- the column of the word that begins at this position of the plain line, or the column after the line's last byte
abbrev pub column_of : List ℕ → ℕ → ℕ
column_of line place = column_at line (left_of (line_read place line))

-- ---- the values in the code

abbrev pub reader_front : Reader → List ℕ → LineFront
reader_front r left = record { plain = r.plain; begin = r.begin; awaits = r.awaits; ended = r.ended; left = left }

abbrev pub done_or : Result Unit Misread → LineFront → Result LineFront Misread
done_or (Ok done) f = Ok f
done_or (Err e) f = Err e

abbrev pub front_or : Result (Bor (List ℕ)) Misread → Reader → Result LineFront Misread
front_or (Ok left) r = Ok (reader_front r left.now)
front_or (Err e) r = Err e

-- the bytes of a slice
abbrev pub now_or : Result (Bor (List ℕ)) SyntaxError → Result (List ℕ) SyntaxError
now_or (Ok text) = Ok text.now
now_or (Err error) = Err error

-- a plain line has 262,144 bytes at most
abbrev pub IsShort : Result (Bor (List ℕ)) SyntaxError → Type 0
IsShort (Ok text) = length text.now ≤ LONGEST
IsShort (Err error) = Unit {0}

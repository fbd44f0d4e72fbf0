-- The syntax of bytes in play scripts: hexadecimal digits, texts and patterns, some of them repeated (this project's
-- own).
--
-- Each definition parses one element at the beginning of the rest of a line, and returns it with the rest after it. If
-- the element isn't there, parsing stops at the first byte that is wrong; its column is that of the error.
use Rattle.std.specs.Prelude.{ℕ, ◌+◌, ◌-◌, ◌*◌, ◌/◌, ◌%◌, ◌==◌, ◌&&◌, ◌||◌, not, Bool, true, false, List, [], ◌∷◌, ◌++◌, zero, suc, length, take, drop, position, fold, min, if◌then◌else◌, nat_lt, nat_le, Option, Some, None, Result, Ok, Err}
use Rattle.std.specs.Borrow.{Bor}
use Rattle.play_line.specs.declared.bytes.Class.{Class}
use Rattle.play_line.specs.declared.bytes.Class.TheVariants.{Blank, Decimal, Hex, Word}
use Rattle.play_line.specs.declared.fault.Fault.{Fault}
use Rattle.play_line.specs.declared.fault.Fault.TheVariants.{NotHex, OddDigits, NoBytes, NotJoined, EmptyText, UnendedText, UnknownEscape, NoCount, ZeroCount, TooManyBytes}
use Rattle.play_line.specs.declared.fault.Misread.{Misread}
use Rattle.play_line.specs.declared.part.Part.{Part}
use Rattle.play_line.specs.declared.part.TheConstants.{MOST_DIGITS}

-- parsing stops before these bytes
abbrev pub stop : {A : Type 0} → Fault → List ℕ → Result A Misread
stop fault left = Err (record { fault = fault; left = length left })

-- the next step, unless parsing has stopped
abbrev pub next : {A B : Type 0} → Result A Misread → (A → Result B Misread) → Result B Misread
next (Ok a) more = more a
next (Err e) more = Err e

-- the element that was parsed, with the rest
abbrev pub Left : Type 0 → Type 0
Left A = Result (A × List ℕ) Misread

-- ---- single bytes

-- a space, a tab or a carriage return
abbrev pub is_blank : ℕ → Bool
is_blank byte = byte == 32 || (byte == 9 || byte == 13)

abbrev pub is_decimal : ℕ → Bool
is_decimal byte = nat_le 48 byte && nat_le byte 57

-- the end of a word: a blank, or one of # " + * @ =
abbrev pub is_sign : ℕ → Bool
is_sign byte = is_blank byte
    || (byte == 35 || (byte == 34 || (byte == 43 || (byte == 42 || (byte == 64 || byte == 61)))))

abbrev pub is_in : Class → ℕ → Bool
is_in Blank byte = is_blank byte
is_in Decimal byte = is_decimal byte
is_in Hex byte = is_decimal byte || ((nat_le 65 byte && nat_le byte 70) || (nat_le 97 byte && nat_le byte 102))
is_in Word byte = not (is_sign byte)

-- the two digits of a byte, in lower case
abbrev pub digit : ℕ → ℕ
digit value = if nat_lt value 10 then 48 + value else 87 + value

abbrev pub digits : ℕ → List ℕ
digits byte = digit (byte / 16) ∷ digit (byte % 16) ∷ []

-- the byte that a byte of a text represents, after a backslash or without one: \n, \r, \t, \0, \\ and \"
abbrev pub meaning : Bool → ℕ → Option ℕ
meaning false byte = Some byte
meaning true byte =
    if byte == 110 then Some 10 else
    if byte == 114 then Some 13 else
    if byte == 116 then Some 9 else
    if byte == 48 then Some 0 else
    if byte == 92 then Some 92 else
    if byte == 34 then Some 34 else None

-- ---- the leading bytes

abbrev pub place_or_end : Option ℕ → List ℕ → ℕ
place_or_end (Some at) left = at
place_or_end None left = length left

-- how many leading bytes are in a class
abbrev pub front : Class → List ℕ → ℕ
front class left = place_or_end (position (λ byte. not (is_in class byte)) left) left

abbrev pub skip : List ℕ → List ℕ
skip left = drop (front Blank left) left

-- the first byte is this one
abbrev pub is_next : ℕ → List ℕ → Bool
is_next byte [] = false
is_next byte (first ∷ rest) = first == byte

-- ---- texts

abbrev pub if_some : Option ℕ → (ℕ → Left (List ℕ)) → Left (List ℕ) → Left (List ℕ)
if_some (Some byte) more other = more byte
if_some None more other = other

-- the digits of a text after those of its bytes so far; the last byte was a backslash if `escaped`
abbrev pub text_after : List ℕ → Bool → List ℕ → Left (List ℕ)
text_after done escaped [] = stop UnendedText []
text_after done escaped (byte ∷ rest) =
    if not escaped && byte == 34 then (if length done == 0 then stop EmptyText (byte ∷ rest) else Ok (done, rest))
    else if not escaped && byte == 92 then text_after done true rest
    else if nat_lt MOST_DIGITS (length done + 2) then stop TooManyBytes (byte ∷ rest)
    else if_some (meaning escaped byte)
    (λ meant. text_after (done ++ digits meant) false rest)
    (stop UnknownEscape (byte ∷ rest))

-- ---- numbers and patterns

-- the number for these digits, or 65,536 if it is larger than that
abbrev pub digits_value : List ℕ → ℕ
digits_value word = fold (λ value byte. min 65536 (10 * value + (byte - 48))) 0 word

-- a number of 1 to 65,535, written as n digits
abbrev pub repeats_read : List ℕ → ℕ → Left ℕ
repeats_read left n =
    if n == 0 then stop NoCount left
    else if digits_value (take n left) == 0 then stop ZeroCount (drop n left)
    else if nat_lt 65535 (digits_value (take n left)) then stop TooManyBytes (drop n left)
    else Ok (digits_value (take n left), drop n left)

abbrev pub count_at : List ℕ → Left ℕ
count_at left = repeats_read left (front Decimal left)

-- the bytes 0, 1, 2 .. 255, 0 .., this many of them
abbrev pub counting : ℕ → List ℕ
counting zero = []
counting (suc n) = counting n ++ digits (n % 256)

-- ---- parts

-- the next n bytes; if `hex`, they must be hexadecimal digits, two for each byte
abbrev pub word_read : Bool → ℕ → List ℕ → Left (List ℕ)
word_read hex n left =
    if n == 0 then stop NoBytes left
    else if nat_lt MOST_DIGITS n then stop TooManyBytes (drop n left)
    else if hex && nat_lt (front Hex left) n then stop NotHex (drop (front Hex left) left)
    else if hex && n % 2 == 1 then stop OddDigits (drop n left)
    else Ok (take n left, drop n left)

-- a blank, a comment, `+`, an expectation or the end of the line comes next
abbrev pub is_closed : List ℕ → Bool
is_closed [] = true
is_closed (byte ∷ rest) = is_blank byte || (byte == 35 || (byte == 43 || byte == 61))

-- this many copies of a piece, followed by the end of the word, or `+`
abbrev pub copies : List ℕ → ℕ → List ℕ → Left Part
copies piece count left =
    if is_closed left then Ok (record { piece = piece; count = count }, left) else stop NotJoined left

-- the number of copies after `*`, or one
abbrev pub repeated : List ℕ → List ℕ → Left Part
repeated piece left =
    if is_next 42 left then next (count_at (drop 1 left)) (λ t. copies piece t.0 t.1) else copies piece 1 left

-- a text, or the next n bytes as they are written
abbrev pub piece_read : Bool → ℕ → List ℕ → Left (List ℕ)
piece_read hex n left = if is_next 34 left then text_after [] false (drop 1 left) else word_read hex n left

-- the same, or a pattern
abbrev pub part_at : Bool → ℕ → List ℕ → Left Part
part_at hex n left =
    if is_next 64 left then next (count_at (drop 1 left)) (λ t. copies (counting t.0) 1 t.1)
    else next (piece_read hex n left) (λ t. repeated t.0 t.1)

-- ---- the values in the code

abbrev pub with_left : {A : Type 0} → A → Result (Bor (List ℕ)) Misread → Left A
with_left a (Ok left) = Ok (a, left.now)
with_left a (Err e) = Err e

abbrev pub count_now : Result (ℕ × Bor (List ℕ)) Misread → Left ℕ
count_now (Ok t) = Ok (t.0, t.1.now)
count_now (Err e) = Err e

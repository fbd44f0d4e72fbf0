-- The bytes of a reply in readable form: as a text, and abbreviated if there are many (this project's own).
use Rattle.std.specs.Prelude.{ℕ, ◌+◌, ◌-◌, ◌/◌, ◌%◌, ◌==◌, ◌&&◌, ◌||◌, not, bytes_eq, Bool, true, false, List, [], ◌∷◌, ◌++◌, zero, suc, length, take, drop, position, flat_map, if◌then◌else◌, codes, decimal, nat_lt, nat_le, min, is_some, Option, Some, None, Result, Ok, Err}
use Rattle.hex.specs.Hex.{decode_sized}
use Rattle.hex.specs.declared.error.FromHexError.{FromHexError}
use Rattle.play_text.specs.declared.bytes.ByteForm.{ByteForm}
use Rattle.play_text.specs.declared.bytes.ByteForm.TheVariants.{Digits, Cut, Texts}
use Rattle.play_text.specs.declared.bytes.TheConstants.{WHOLE, FRONT, BACK}

-- ---- a text

-- printable ASCII
abbrev pub is_printed : ℕ → Bool
is_printed byte = nat_le 32 byte && nat_le byte 126

-- a text may contain it: a line feed, a carriage return and a tab as an escape
abbrev pub is_readable : ℕ → Bool
is_readable byte = is_printed byte || (byte == 10 || (byte == 13 || (byte == 9 || byte == 0)))

-- a text may contain all of them, and at least one is printable
abbrev pub are_readable : List ℕ → Bool
are_readable bytes =
    is_some (position (λ byte. is_printed byte) bytes)
    && not (is_some (position (λ byte. not (is_readable byte)) bytes))

-- a byte as it is written in a text of a script
abbrev pub written : ℕ → List ℕ
written byte =
    if byte == 10 then 92 ∷ 110 ∷ []
    else if byte == 13 then 92 ∷ 114 ∷ []
    else if byte == 9 then 92 ∷ 116 ∷ []
    else if byte == 0 then 92 ∷ 48 ∷ []
    else if byte == 34 || byte == 92 then 92 ∷ byte ∷ []
    else byte ∷ []

-- in quotes
abbrev pub quoted : List ℕ → List ℕ
quoted bytes = 34 ∷ (flat_map written bytes ++ 34 ∷ [])

-- ---- bytes

-- the text of the bytes if they could be decoded, otherwise their digits
abbrev pub decoded_text : Result (List ℕ) FromHexError → List ℕ → List ℕ
decoded_text (Ok bytes) digits = if are_readable bytes then quoted bytes else digits
decoded_text (Err e) digits = digits

-- the text for digits
abbrev pub digits_text : Bool → List ℕ → List ℕ
digits_text texts digits = if texts then decoded_text (decode_sized digits (length digits / 2)) digits else digits

-- the first 32 bytes, the last 8, and the total number
abbrev pub cut_text : Bool → List ℕ → List ℕ
cut_text texts digits =
    digits_text texts (take FRONT digits) ++ codes ".."
    ++ digits_text texts (drop (length digits - BACK) digits)
    ++ codes " (" ++ decimal (length digits / 2) ++ codes " bytes)"

-- a lower-case digit
abbrev pub is_digit : ℕ → Bool
is_digit byte = (nat_le 48 byte && nat_le byte 57) || (nat_le 97 byte && nat_le byte 102)

-- the digits of bytes, as they are in a reply
abbrev pub are_digits : List ℕ → Bool
are_digits word = length word % 2 == 0 && not (is_some (position (λ byte. not (is_digit byte)) word))

-- more than 64 bytes
abbrev pub is_long : List ℕ → Bool
is_long digits = nat_lt WHOLE (length digits)

abbrev pub word_text : Bool → List ℕ → List ℕ
word_text texts word =
    if not (are_digits word) then word
    else if is_long word then cut_text texts word
    else digits_text texts word

-- ---- a reply

abbrev pub begins_with : List ℕ → List ℕ → Bool
begins_with text word = bytes_eq (take (length word) text) word

abbrev pub place_or : Option ℕ → ℕ → ℕ
place_or (Some at) len = at
place_or None len = len

-- how many bytes come before the first space
abbrev pub word_len : List ℕ → ℕ
word_len text = place_or (position (λ byte. byte == 32) text) (length text)

abbrev pub after_word : List ℕ → List ℕ
after_word text = drop (word_len text + 1) text

-- a reply from its bytes on: after `packet`, or after `from` and the sender's address and port
abbrev pub bytes_on : List ℕ → List ℕ
bytes_on reply =
    if begins_with reply (codes "packet ") then after_word reply
    else if begins_with reply (codes "from ") then after_word (after_word (after_word reply))
    else []

-- the word with its bytes, or nothing
abbrev pub bytes_word : List ℕ → List ℕ
bytes_word reply = take (word_len (bytes_on reply)) (bytes_on reply)

-- the part before its bytes, the text for the bytes, and the rest
abbrev pub shown : Bool → List ℕ → List ℕ
shown texts reply =
    take (length reply - length (bytes_on reply)) reply ++ word_text texts (bytes_word reply)
    ++ drop (word_len (bytes_on reply)) (bytes_on reply)

-- in each format
abbrev pub seen : ByteForm → List ℕ → List ℕ
seen Digits reply = reply
seen Cut reply = shown false reply
seen Texts reply = shown true reply

-- ---- two replies

-- how many leading bytes are the same
abbrev pub alike : List ℕ → List ℕ → ℕ
alike [] others = zero
alike (byte ∷ bytes) [] = zero
alike (byte ∷ bytes) (other ∷ others) = if byte == other then suc (alike bytes others) else zero

-- where bytes first differ, one list of which is abbreviated, if neither ends there
abbrev pub apart_text : List ℕ → List ℕ → List ℕ
apart_text first second =
    if (is_long first || is_long second) && nat_lt (alike first second) (min (length first) (length second))
    then codes ", which differ from byte " ++ decimal (alike first second / 2) ++ codes " on"
    else []

-- the same for the bytes of two replies, unless all digits are printed
abbrev pub difference : ByteForm → List ℕ → List ℕ → List ℕ
difference Digits wanted reply = []
difference Cut wanted reply = apart_text (bytes_word wanted) (bytes_word reply)
difference Texts wanted reply = apart_text (bytes_word wanted) (bytes_word reply)

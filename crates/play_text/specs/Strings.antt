-- JSON strings (RFC 8259 section 7), in ASCII only.
use Rattle.std.specs.Prelude.{ℕ, ◌/◌, ◌%◌, ◌==◌, ◌||◌, List, [], ◌∷◌, ◌++◌, flat_map, nat_lt, if◌then◌else◌}
use Rattle.std.specs.Char.{digit_char}

-- a backslash, `u00` and two lower-case digits
abbrev pub code_text : ℕ → List ℕ
code_text byte = 92 ∷ 117 ∷ 48 ∷ 48 ∷ digit_char (byte / 16) ∷ digit_char (byte % 16) ∷ []

-- The representation of a byte in a string. A quote and a backslash get a backslash before them. A control character,
-- and a byte that isn't ASCII, is written as its number. So each byte is the character with its number.
abbrev pub escaped_byte : ℕ → List ℕ
escaped_byte byte =
    if byte == 34 || byte == 92 then 92 ∷ byte ∷ []
    else if nat_lt byte 32 || nat_lt 126 byte then code_text byte
    else byte ∷ []

abbrev pub escaped : List ℕ → List ℕ
escaped = flat_map escaped_byte

-- in quotes
abbrev pub string_text : List ℕ → List ℕ
string_text bytes = 34 ∷ (escaped bytes ++ 34 ∷ [])

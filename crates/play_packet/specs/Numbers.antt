-- Numbers and bytes as words (this project's own).
use Rattle.std.specs.Prelude.{ℕ, ◌==◌, ◌||◌, List, [], length, take, if◌then◌else◌, codes, bytes_eq, decimal, nat_le, nat_lt, Option, Some, None, Result, Ok, Err}
use Rattle.std.specs.Str.Parse.{digits_value}
use Rattle.hex.specs.Hex.{decode_of}
use Rattle.hex.specs.declared.error.FromHexError.{FromHexError}

-- the number of at most `most` that a word is the printed form of
abbrev pub number_in : ℕ → List ℕ → Option ℕ
number_in most word =
    let n : ℕ = digits_value 10 word in
    if bytes_eq word (decimal n) then (if nat_le n most then Some n else None) else None

abbrev pub some_bytes : Result (List ℕ) FromHexError → Option (List ℕ)
some_bytes (Ok bytes) = if length bytes == 0 || nat_lt 65535 (length bytes) then None else Some bytes
some_bytes (Err fault) = None

-- the bytes of a word, as in any line: a dash for no bytes, or the digits of 1 to 65,535 bytes
abbrev pub word_bytes : List ℕ → Option (List ℕ)
word_bytes word = if bytes_eq word (codes "-") then Some [] else some_bytes (decode_of word)

-- this many bytes from the front of a buffer, if any
abbrev pub front_of_room : List ℕ → Option ℕ → Option (List ℕ)
front_of_room buffer None = None
front_of_room buffer (Some n) = Some (take n buffer)

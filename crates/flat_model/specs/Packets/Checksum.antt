-- The Internet checksum (RFC 1071, section 1; RFC 791, section 3.1 "Header Checksum").
use Rattle.std.specs.Prelude.{ℕ, zero, suc, ◌+◌, ◌-◌, ◌*◌, ◌%◌, List, [], ◌∷◌}

-- the sum of the big-endian words of 16 bits; an odd last byte is the high half of a word
abbrev pub word_sum : List ℕ → ℕ
word_sum [] = 0
word_sum (high ∷ []) = 256 * high
word_sum (high ∷ low ∷ bytes) = 256 * high + low + word_sum bytes

-- The result of adding a sum's part above 16 bits to its low 16 bits until it fits. 65,536 counts as 1, so the
-- remainder modulo 65,535 stays the same; the result is 0 only for 0.
abbrev pub fold16 : ℕ → ℕ
fold16 zero = 0
fold16 (suc less) = less % 65535 + 1

-- the folded sum of bytes; it is 65,535 for correct data that include their checksum
abbrev pub folded_sum : List ℕ → ℕ
folded_sum bytes = fold16 (word_sum bytes)

-- the contents of the checksum field, for bytes that have 0 there: the ones' complement of their sum
abbrev pub checksum : List ℕ → ℕ
checksum bytes = 65535 - folded_sum bytes

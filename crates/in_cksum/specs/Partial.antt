-- The state of a sum over pieces, given the bytes so far (this project's own).
use Rattle.std.specs.Prelude.{ℕ, ◌%◌, ◌==◌, Bool, List, length}
use Rattle.flat_model.specs.Packets.Checksum.{folded_sum}

-- the folded sum of the bytes so far, and whether the next byte is the low half of a word
pub record Partial : Type 0 where
  pub total : ℕ
  pub is_odd : Bool

abbrev pub sum_of : List ℕ → Partial
sum_of bytes = record { total = folded_sum bytes; is_odd = length bytes % 2 == 1 }

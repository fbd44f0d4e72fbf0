-- The results of queries about the output queue (this project's own).
use Rattle.std.specs.Prelude.{ℕ, List, [], ◌∷◌, length, slice_get, Option, None, Some, option_map}
use Rattle.flat_model.specs.Amounts.Weight.{Item}

-- how many bytes the oldest of these packets has
abbrev pub oldest_length : List Item → Option ℕ
oldest_length [] = None
oldest_length (item ∷ later) = Some (length item.bytes)

-- the bytes of the packet with this index in the queue, if there is one
abbrev pub nth_packet : ℕ → List Item → Option (List ℕ)
nth_packet i output = option_map (λ (item : Item). item.bytes) (slice_get output i)

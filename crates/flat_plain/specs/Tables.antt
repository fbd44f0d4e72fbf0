-- A table of the programs as a map of the definitions (this project's own).
use Rattle.std.specs.Prelude.{ℕ, Bool, false, List, Option, Some, None, slice_index_or, filter_map}
use Rattle.flat_model.specs.Amounts.Weight.{Weight}
use Rattle.flat_model.specs.Fragments.Overlay as Overlay
use Rattle.flat_model.specs.Fragments.Overlay.{Held, Map}
use Rattle.flat_plain.specs.declared.maps.Cell.{Cell}
use Rattle.flat_plain.specs.declared.maps.Fragment.{Fragment}

-- this many mbufs, and the clusters that are `Some`
abbrev pub weight_of_mbufs : ℕ → List (Option ℕ) → Weight
weight_of_mbufs mbufs clusters = record { mbufs = mbufs; bag = filter_map (λ c. c) clusters }

abbrev pub held_of : Option Cell → Option Held
held_of None = None
held_of (Some cell) =
    Some (record {
      byte = cell.byte;
      piece = record { first = cell.first; more = cell.more; weight = weight_of_mbufs cell.mbufs cell.clusters };
    })

-- there is no byte after the table's end
abbrev pub plain_map : List (Option Cell) → Map
plain_map cells offset = held_of (slice_index_or cells offset None)

abbrev pub plain_fragment : Fragment → List ℕ → Overlay.Fragment
plain_fragment f bytes =
    record { offset = f.offset; bytes = bytes; more = f.more; weight = weight_of_mbufs f.mbufs f.clusters }

-- whether more pieces follow the one at an offset
abbrev pub more_of : Option Held → Bool
more_of None = false
more_of (Some held) = held.piece.more

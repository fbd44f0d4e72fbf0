-- Weights and mbufs of the programs as those of the definitions (this project's own).
use Rattle.std.specs.Prelude.{ℕ, ◌==◌, if◌then◌else◌, List, map, Option, Some, None}
use Rattle.flat_model.specs.Amounts.Weight as flat
use Rattle.flat_model.specs.Amounts.Layout as Layout
use Rattle.flat_plain.specs.declared.maps.Cell.{Cell}
use Rattle.flat_plain.specs.declared.weights.Entry.{Entry}
use Rattle.flat_plain.specs.declared.weights.Weight.{Weight}
use Rattle.flat_plain.specs.Tables.{weight_of_mbufs}

abbrev pub plain_weight : Weight → flat.Weight
plain_weight w = record { mbufs = w.mbufs; bag = w.bag.items }

abbrev pub plain_entry : Entry → Layout.LayoutEntry
plain_entry e = record { size = e.size; cluster = e.cluster }

abbrev pub entries_of : List Entry → List Layout.LayoutEntry
entries_of entries = map plain_entry entries

abbrev pub entry_size : Layout.LayoutEntry → ℕ
entry_size e = e.size

-- the weight of the piece in the cell, if it begins at k
abbrev pub weight_begun : Option Cell → ℕ → flat.Weight
weight_begun None k = flat.nothing
weight_begun (Some cell) k = if cell.first == k then weight_of_mbufs cell.mbufs cell.clusters else flat.nothing

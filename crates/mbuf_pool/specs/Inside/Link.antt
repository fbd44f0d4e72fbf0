-- The link to the next free cluster, in the first four bytes of a free one, low byte first (this project's own).
use Rattle.std.specs.Prelude.{ℕ, ◌==◌, if◌then◌else◌, unwrap_or, Option, Some, None, List}
use Rattle.byteorder.specs.Endian.{little_number, little_bytes}
use Rattle.raw_cells.specs.declared.part.Part.{Part}
use Rattle.raw_cells.specs.declared.part.Buffer.TheVariants.{Cluster}

-- the link that a number encodes
abbrev pub link_from : ℕ → Option ℕ
link_from n = if n == 0xffffffff then None else Some n

-- the link that bytes encode
abbrev pub link_in : List ℕ → Option ℕ
link_in bytes = link_from (little_number 4 bytes)

-- the bytes of a link
abbrev pub link_bytes : Option ℕ → List ℕ
link_bytes link = little_bytes 4 (unwrap_or link 0xffffffff)

-- the part of a free cluster that contains its link
abbrev pub link_part : ℕ → Part
link_part c = record { buffer = Cluster c; start = 0; len = 4 }

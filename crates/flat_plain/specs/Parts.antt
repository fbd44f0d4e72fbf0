-- A part of the programs as a part of the definitions (this project's own).
use Rattle.flat_model.specs.Fragments.Cuts as Cuts
use Rattle.flat_plain.specs.declared.parts.Part.{Part}

abbrev pub part_of : Part → Cuts.Part
part_of p = record { offset = p.offset; size = p.size; more = p.more }

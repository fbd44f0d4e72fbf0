use Rattle.std.proofs.Common.{◌≡◌, map, vec_len}
use Rattle.std.specs.List.{range_with_len}
use Rattle.flat_model.specs.Fragments.Cuts as Cuts
use Rattle.flat_plain.specs.Parts.{part_of}
use Rattle.flat_plain.proofs.parts.cuts.Given as goal

abbrev pub invariant-loop-i : goal.invariant-loop-i
invariant-loop-i l =
    (map part_of l.parts.items ≡ map (Cuts.part l.n l.chunk) (range_with_len 0 l.i)) × (vec_len l.parts ≡ l.i)

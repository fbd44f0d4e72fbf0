use Rattle.std.proofs.Common.{take}
use Rattle.play_why.specs.Joined.{IsReassembled, IsWithin, fragments_of}
use Rattle.play_why.proofs.joined.insert_parts.Given as goal

abbrev pub invariant-loop-part : goal.invariant-loop-part
invariant-loop-part l = record {
  table : IsReassembled l.spots l.reach (fragments_of l.key (take l.part-index l.parts));
  within : IsWithin l.spots l.reach;
}

use Rattle.std.proofs.Common.{◌≡◌, ◌≤◌, take}
use Rattle.play_line.specs.Bytes.{digits_value}
use Rattle.play_line.proofs.bytes.value_of.Given as goal

abbrev pub invariant-loop-byte : goal.invariant-loop-byte
invariant-loop-byte l = record {
  same : l.value ≡ digits_value (take l.byte-index l.word);
  most : l.value ≤ 65536;
}

use Rattle.std.proofs.Common.{◌≡◌, false, [], drop}
use Rattle.play_line.specs.Bytes.{text_after}
use Rattle.play_line.proofs.bytes.read_text.Given as goal

abbrev pub invariant-loop-byte : goal.invariant-loop-byte
invariant-loop-byte l = record {
  same : text_after l.piece l.escaped (drop l.byte-index l.text) ≡ text_after [] false l.text;
  place : l.at ≡ l.byte-index;
}

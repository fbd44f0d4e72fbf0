use Rattle.std.proofs.Common.{◌≡◌, drop}
use Rattle.play_packet.specs.Forms.{last_after, last_place}
use Rattle.play_packet.proofs.words.last_place.Given as goal

abbrev pub invariant-loop-byte : goal.invariant-loop-byte
invariant-loop-byte l = record {
  same : last_after l.place l.at (drop l.byte-index l.text) ≡ last_place l.text;
  at : l.at ≡ l.byte-index;
}

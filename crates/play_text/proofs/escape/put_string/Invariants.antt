use Rattle.std.proofs.Common.{◌≡◌, ◌+◌, ◌*◌, ◌≤◌, ◌∷◌, ◌++◌, length, take, flat_map}
use Rattle.play_text.specs.Strings.{escaped_byte}
use Rattle.play_text.proofs.escape.put_string.Given as goal

abbrev pub invariant-loop-byte : goal.invariant-loop-byte
invariant-loop-byte g l = record {
  items : l.text ≡ l.fn.text ++ (34 ∷ flat_map escaped_byte (take l.byte-index l.bytes));
  len : length l.text ≤ length l.fn.text + (1 + 6 * l.byte-index);
  most : l.byte-index ≤ length l.bytes;
}

use Rattle.std.proofs.Common.{◌≡◌, ◌+◌, ◌*◌, ◌≤◌, ◌∷◌, ◌++◌, length, take, flat_map}
use Rattle.play_text.specs.Bytes.{written}
use Rattle.play_text.proofs.bytes.put_quoted.Given as goal

abbrev pub invariant-loop-byte : goal.invariant-loop-byte
invariant-loop-byte g l = record {
  items : l.text ≡ l.fn.text ++ (34 ∷ flat_map written (take l.byte-index l.items));
  len : length l.text ≤ length l.fn.text + (1 + 2 * l.byte-index);
  most : l.byte-index ≤ length l.items;
}

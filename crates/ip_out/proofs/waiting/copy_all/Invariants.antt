use Rattle.std.proofs.Common.{◌≡◌, ℕ, ◌+◌, ◌≤◌, ◌++◌, length, take, drop}
use Rattle.std.specs.List.{concat}
use Rattle.ip_out.proofs.waiting.copy_all.Given as goal

abbrev pub invariant-mbufs : goal.invariant-mbufs
invariant-mbufs l = record {
  within : l.at + length (concat l.piece-iterator) ≤ length l.initial.buffer;
  copied : take l.at l.buffer ++ concat l.piece-iterator ≡ concat l.fn.pieces;
  kept : (n : ℕ) → l.at ≤ n → drop n l.buffer ≡ drop n l.initial.buffer;
}

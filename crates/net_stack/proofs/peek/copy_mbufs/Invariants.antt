use Rattle.std.proofs.Common.{◌≡◌, ◌-◌, ◌≤◌, ◌++◌, length, take}
use Rattle.net_stack.specs.Questions.{bytes_in_mbufs}
use Rattle.net_stack.proofs.peek.copy_mbufs.Given as goal

abbrev pub invariant-mbufs : goal.invariant-mbufs
invariant-mbufs l = record {
  room : l.at ≤ length l.initial.to;
  left : length l.initial.to - l.at ≤ length (bytes_in_mbufs l.mbuf-iterator);
  copied : take l.at l.to ++ take (length l.initial.to - l.at) (bytes_in_mbufs l.mbuf-iterator)
      ≡ take (length l.initial.to) (bytes_in_mbufs l.fn.mbufs);
}

use Rattle.std.proofs.Common.{◌≡◌, ℕ, ◌+◌, ◌<◌, length, get_or}
use Rattle.params.specs.declared.TheConstants.{FIRST_DESCRIPTOR, MAX_SOCKETS}
use Rattle.sock_calls.specs.Questions.{next_datagram}
use Rattle.play_show.specs.Changes.{waiting_of}
use Rattle.net_stack.specs.Stack.{state_of}
use Rattle.play_show.proofs.snapshot.waiting_in_all.Given as goal

abbrev pub invariant-places : goal.invariant-places
invariant-places l = record {
  len : length l.waiting ≡ MAX_SOCKETS;
  counts : (k : ℕ) → k < l.place
      → get_or l.waiting k 0 ≡ waiting_of (next_datagram (FIRST_DESCRIPTOR + k) (state_of l.machine));
}

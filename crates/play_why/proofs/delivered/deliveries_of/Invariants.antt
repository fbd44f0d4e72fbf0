use Rattle.std.proofs.Common.{◌≡◌, ℕ, ◌+◌, ◌<◌, None, length, get_or}
use Rattle.params.specs.declared.TheConstants.{FIRST_DESCRIPTOR, MAX_SOCKETS}
use Rattle.net_stack.specs.Stack.{state_of}
use Rattle.play_why.specs.Findings.{delivered_at}
use Rattle.play_why.proofs.delivered.deliveries_of.Given as goal

abbrev pub invariant-places : goal.invariant-places
invariant-places l = record {
  len : length l.delivered ≡ MAX_SOCKETS;
  made : (k : ℕ) → k < l.place
      → get_or l.delivered k None ≡ delivered_at (FIRST_DESCRIPTOR + k) (state_of l.machine);
}

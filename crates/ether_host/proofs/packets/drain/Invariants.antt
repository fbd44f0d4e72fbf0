use Rattle.std.proofs.Common.{◌≡◌, ◌≤◌, List, length}
use Rattle.flat_model.specs.Amounts.Weight.{Item}
use Rattle.flat_ether.specs.Hosts.{drained, with_output_left}
use Rattle.net_stack.specs.Stack.{state_of}
use Rattle.ether_host.specs.Inside.{link_seen}
use Rattle.ether_host.proofs.packets.drain.Given as goal

abbrev pub invariant-loop-len : goal.invariant-loop-len
invariant-loop-len l = record {
  same : drained (state_of l.fn.stack).output (link_seen l.fn.layer)
      ≡ drained (state_of l.stack).output (link_seen l.layer);
  rest : (items : List Item) → with_output_left (state_of l.fn.stack) items ≡ with_output_left (state_of l.stack) items;
  mtu : l.stack.config.mtu ≤ 1500;
  room : 1514 ≤ length l.buffer;
}

abbrev pub decreases-loop-len : goal.decreases-loop-len
decreases-loop-len l = length (state_of l.stack).output

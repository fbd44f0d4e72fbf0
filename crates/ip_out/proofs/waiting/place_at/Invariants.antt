use Rattle.std.proofs.Common.{◌≡◌}
use Rattle.mbuf_chain.specs.Train.{IsQueuedPlace}
use Rattle.ip_out.proofs.waiting.place_at.Given as goal

abbrev pub invariant-packets : goal.invariant-packets
invariant-packets l = record {
  index : l.at.index ≡ l._passed;
  place : IsQueuedPlace l.pool l.train l.at;
}

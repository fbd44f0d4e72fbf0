use Rattle.std.proofs.Common.{◌≡◌, ◌+◌}
use Rattle.mbuf_chain.specs.Owners.{Moves}
use Rattle.mbuf_chain.specs.Train.{numbers, IsHeld}
use Rattle.mbuf_chain.proofs.reclaim.TrainReclaim.reclaim.Given as goal

-- some chains are freed; the others are still in the train
abbrev pub invariant-chains : goal.invariant-chains
invariant-chains l = record {
  len : l.self.len + l._freed ≡ l.fn.self.len;
  held : IsHeld l.pool l.self;
  moves : Moves l.fn.pool (numbers l.fn.pool l.fn.self) l.pool (numbers l.pool l.self);
}

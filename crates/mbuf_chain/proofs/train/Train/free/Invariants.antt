use Rattle.mbuf_chain.specs.Owners.{Moves}
use Rattle.mbuf_chain.specs.Train.{numbers, IsHeld}
use Rattle.mbuf_chain.proofs.train.Train.free.Given as goal

-- some chains are freed; the others are still in the train
abbrev pub invariant-chains : goal.invariant-chains
invariant-chains l = record {
  held : IsHeld l.pool l.self;
  moves : Moves l.fn.pool (numbers l.fn.pool l.fn.self) l.pool (numbers l.pool l.self);
}

abbrev pub decreases-chains : goal.decreases-chains
decreases-chains l = l.self.len

use Rattle.std.proofs.Common.{◌≡◌, ◌+◌, ◌∷◌, true, length}
use Rattle.mbuf_chain.specs.Chain.{IsLive, IsPlace, chain_of, alone}
use Rattle.mbuf_chain.specs.Owners.{times_among, Moves}
use Rattle.mbuf_chain.specs.Train.{numbers, IsHeld}
use Rattle.ip_reass.specs.Fragments.{joined_fragments, joined_after, queued}
use Rattle.ip_reass.proofs.queue.join_all.Given as goal

abbrev pub invariant-fragments : goal.invariant-fragments
invariant-fragments l = record {
  live : IsLive l.pool l.chain;
  held : IsHeld l.pool l.rest;
  apart : times_among l.chain (numbers l.pool l.rest) ≡ 0;
  front : (chain_of l.pool l.chain).front ≡ alone true;
  entries : joined_after (chain_of l.pool l.chain).entries (queued l.pool l.rest)
      ≡ joined_fragments (queued l.fn.pool l.fn.train);
  place : IsPlace (chain_of l.pool l.chain) l.last;
  end : l.last.index + 1 ≡ length (chain_of l.pool l.chain).entries;
  moves : Moves l.fn.pool (numbers l.fn.pool l.fn.train) l.pool (l.chain ∷ numbers l.pool l.rest);
}

abbrev pub decreases-fragments : goal.decreases-fragments
decreases-fragments l = l.rest.len

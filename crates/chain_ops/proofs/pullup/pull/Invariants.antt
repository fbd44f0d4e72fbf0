use Rattle.std.proofs.Common.{◌≡◌, ◌+◌, ◌++◌, true, None, length, take}
use Rattle.mbuf_chain.specs.Chain.{IsPlace, HasTrailingSpace, chain_of, entry_of, string, without}
use Rattle.chain_ops.specs.Pulls.{moved}
use Rattle.mbuf_chain.proofs.Laws.Two.{HasTwo}
use Rattle.chain_ops.proofs.pullup.pull.Given as goal

abbrev pub invariant-mbufs : goal.invariant-mbufs
invariant-mbufs l = record {
  two : HasTwo (without (without l.fn.pool l.fn.second) l.into) l.pool l.into l.back;
  front : (chain_of l.pool l.into).front ≡ (chain_of l.fn.pool l.into).front;
  all : take l.last.index (chain_of l.pool l.into).entries
      ++ moved l.left (entry_of (chain_of l.pool l.into) l.last.index) (chain_of l.pool l.back).entries
      ≡ take l.last.index (chain_of l.fn.pool l.into).entries
      ++ moved l.n (entry_of (chain_of l.fn.pool l.into) l.last.index) (chain_of l.fn.pool l.fn.second).entries;
  place : IsPlace (chain_of l.pool l.into) l.last;
  end : l.last.index + 1 ≡ length (chain_of l.pool l.into).entries;
  plain : (entry_of (chain_of l.pool l.into) l.last.index).cluster ≡ None;
  bytes : l.counted ≡ true → l.bytes ≡ length (string (chain_of l.pool l.back));
  room : HasTrailingSpace (entry_of (chain_of l.pool l.into) l.last.index) l.left;
}

abbrev pub decreases-mbufs : goal.decreases-mbufs
decreases-mbufs l = length (chain_of l.pool l.back).entries

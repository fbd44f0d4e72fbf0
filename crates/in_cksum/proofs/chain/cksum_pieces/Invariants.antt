use Rattle.std.proofs.Common.{◌≡◌, ℕ, List, ◌++◌, take, drop}
use Rattle.std.specs.List.{concat}
use Rattle.mbuf_chain.specs.Chain.{chain_of, string}
use Rattle.in_cksum.specs.Partial.{sum_of}
use Rattle.in_cksum.proofs.chain.cksum_pieces.Given as goal

abbrev pub invariant-mbufs : goal.invariant-mbufs
invariant-mbufs l = record {
  done : List ℕ;
  sum : (before : List ℕ) → l.fn.start ≡ sum_of before → l.sum ≡ sum_of (before ++ done);
  all : done ++ take l.left (drop l.skip (concat l.piece-iterator))
      ≡ take l.len (drop l.off (string (chain_of l.pool l.chain)));
}

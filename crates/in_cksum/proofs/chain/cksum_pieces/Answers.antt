use Rattle.std.proofs.Common.{◌≡◌, ℕ, ◌+◌, ◌-◌, ◌++◌, List, [], take, drop, ap, sym, ◌∙◌, arith, append_assoc, append-nil}
use Rattle.std.specs.List.{concat}
use Rattle.mbuf_chain.specs.Chain.{chain_of}
use Rattle.mbuf_chain.proofs.Laws.Iterators.{concat_pieces}
use Rattle.mbuf_chain.proofs.Laws.Lists.{drop_over}
use Rattle.in_cksum.specs.Partial.{sum_of}
use Rattle.in_cksum.proofs.Ranges.{piece_taken}
use Rattle.in_cksum.proofs.chain.cksum_pieces.Goals as goal

pub mbufs-init : goal.mbufs-init
mbufs-init c = record {
  done = [];
  sum = λ before known. known ∙ ap sum_of (sym (append-nil before));
  all =
      ap (λ (ps : List (List ℕ)). take c.args.len (drop c.args.off (concat ps)))
      (c.into_iter-piece-iterator.ensures.into_iter_gives ∙ c.pieces-piece-items.ensures)
      ∙ ap (λ (xs : List ℕ). take c.args.len (drop c.args.off xs))
      (concat_pieces (chain_of c.args.pool.now c.args.chain.now));
}

pub mbufs-preserved-then-skip-piece : goal.mbufs-preserved-then-skip-piece
mbufs-preserved-then-skip-piece c =
    let piece : List ℕ = c.in-Some.piece.now in
    let rest : List ℕ = concat c.next.new.self in
    let skip : ℕ = c.mbufs.skip in
    let k : ℕ = c.min-count.result in
    let inv = c.mbufs.invariant in
    let count : skip + k - skip ≡ k = omega arith in
    let part : List ℕ = take k (drop skip piece) in
    record {
      done = inv.done ++ part;
      sum = λ before known.
          c.add.ensures (before ++ inv.done) (inv.sum before known)
          ∙ ap (λ (n : ℕ). sum_of ((before ++ inv.done) ++ take n (drop skip piece))) count
          ∙ ap sum_of (append_assoc before inv.done part);
      all =
          append_assoc inv.done part (take (c.mbufs.left - k) rest)
          ∙ ap (λ (xs : List ℕ). inv.done ++ xs)
          (sym (piece_taken piece rest skip k c.mbufs.left (omega (arith, c.if-skip-piece.true)) c.min-count.ensures))
          ∙ ap (λ (ps : List (List ℕ)). inv.done ++ take c.mbufs.left (drop skip (concat ps)))
          (sym c.in-Some.ensures.steps)
          ∙ inv.all;
    }

pub mbufs-preserved : goal.mbufs-preserved
mbufs-preserved c =
    let piece : List ℕ = c.in-Some.piece.now in
    let rest : List ℕ = concat c.next.new.self in
    let inv = c.mbufs.invariant in
    record {
      done = inv.done;
      sum = inv.sum;
      all =
          ap (λ (xs : List ℕ). inv.done ++ take c.mbufs.left xs)
          (sym (drop_over c.mbufs.skip piece rest c.if-skip-piece.false))
          ∙ ap (λ (ps : List (List ℕ)). inv.done ++ take c.mbufs.left (drop c.mbufs.skip (concat ps)))
          (sym c.in-Some.ensures.steps)
          ∙ inv.all;
    }

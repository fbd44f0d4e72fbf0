use Rattle.std.proofs.Common.{◌≡◌, ℕ, min, ◌+◌, ◌-◌, ◌++◌, List, length, take, drop, ap, sym, ◌∙◌, arith, append_assoc}
use Rattle.std.specs.List.{concat}
use Rattle.std.proofs.lemmas.List.{length-append, length-take, length-drop}
use Rattle.std.proofs.lemmas.Slice.{take-put_mid}
use Rattle.mbuf_chain.proofs.Laws.Lists.{drop_over}
use Rattle.chain_ops.proofs.Laws.Lists.{piece_copied}
use Rattle.chain_ops.proofs.copydata.copy_pieces.Goals as goal

pub mbufs-preserved-then-skip-piece : goal.mbufs-preserved-then-skip-piece
mbufs-preserved-then-skip-piece c =
    let k : ℕ = c.min.result in
    let at : ℕ = c.mbufs.at in
    let skip : ℕ = c.mbufs.skip in
    let len : ℕ = length c.args.to.now in
    let piece : List ℕ = c.in-Some.piece.now in
    let rest : List ℕ = concat c.next.new.self in
    let count : skip + (at + k - at) - skip ≡ k = omega arith in
    let part : c.copy_from_slice.new.self ≡ take k (drop skip piece) =
    c.copy_from_slice.ensures.after ∙ ap (λ (n : ℕ). take n (drop skip piece)) count in
    let size : k ≡ min (length piece - skip) (len - at) = omega (arith, c.min.ensures, c.mbufs.auto.to) in
    let put =
    take-put_mid at _ c.mbufs.to c.copy_from_slice.new.self (at + k)
    (omega (
      arith,
      ap length part,
      length-take k (drop skip piece),
      length-drop skip piece,
      size,
      c.if-skip-piece.true,
    )) (omega (arith, c.mbufs.invariant.room, c.mbufs.auto.to)) in
    let less : len - (at + k) ≡ len - at - k = omega arith in
    let all = length-append c.in-Some.piece.now (concat c.next.new.self) in
    let was = ap (λ (ps : List (List ℕ)). length (concat ps)) c.in-Some.ensures.steps in
    record {
      room = omega (arith, c.min.ensures, c.mbufs.invariant.room);
      left = omega (arith, c.min.ensures, c.mbufs.invariant.left, all, was);
      copied =
          (λ j. put j ++ take (less j) rest)
          ∙ ap (λ (xs : List ℕ). (take at c.mbufs.to ++ xs) ++ take (len - at - k) rest) part
          ∙ append_assoc (take at c.mbufs.to) (take k (drop skip piece)) (take (len - at - k) rest)
          ∙ ap (λ (xs : List ℕ). take at c.mbufs.to ++ xs)
          (sym (piece_copied piece rest skip k (len - at) (omega (arith, c.if-skip-piece.true)) size))
          ∙ ap (λ (ps : List (List ℕ)). take at c.mbufs.to ++ take (len - at) (drop skip (concat ps)))
          (sym c.in-Some.ensures.steps)
          ∙ c.mbufs.invariant.copied;
    }

pub mbufs-preserved : goal.mbufs-preserved
mbufs-preserved c =
    let all = length-append c.in-Some.piece.now (concat c.next.new.self) in
    let was = ap (λ (ps : List (List ℕ)). length (concat ps)) c.in-Some.ensures.steps in
    record {
      room = c.mbufs.invariant.room;
      left = omega (arith, c.mbufs.invariant.left, all, was);
      copied =
          ap (λ (xs : List ℕ). take c.mbufs.at c.mbufs.to ++ take (length c.args.to.now - c.mbufs.at) xs)
          (sym (drop_over c.mbufs.skip c.in-Some.piece.now (concat c.next.new.self) c.if-skip-piece.false)
          ∙ ap (λ (ps : List (List ℕ)). drop c.mbufs.skip (concat ps)) (sym c.in-Some.ensures.steps))
          ∙ c.mbufs.invariant.copied;
    }

use Rattle.std.proofs.Common.{◌≡◌, ℕ, min, ◌+◌, ◌-◌, ◌++◌, List, length, take, ap, sym, ◌∙◌, arith, append_assoc}
use Rattle.std.proofs.lemmas.List.{length-append, length-take}
use Rattle.std.proofs.lemmas.Slice.{take-put_mid}
use Rattle.chain_ops.proofs.Laws.Lists.{piece_copied}
use Rattle.net_stack.specs.Questions.{bytes_in_mbufs}
use Rattle.net_stack.proofs.peek.copy_mbufs.Goals as goal

pub mbufs-preserved : goal.mbufs-preserved
mbufs-preserved c =
    let piece : List ℕ = c.in-Some.mbuf.1.now in
    let k : ℕ = c.min.result in
    let at : ℕ = c.mbufs.at in
    let len : ℕ = length c.args.to.now in
    let rest : List ℕ = bytes_in_mbufs c.next.new.self in
    let count : at + k - at ≡ k = omega arith in
    let part : c.copy_from_slice.new.self ≡ take k piece =
    c.copy_from_slice.ensures.after ∙ ap (λ (n : ℕ). take n piece) count in
    let size : k ≡ min (length piece - 0) (len - at) = omega (arith, c.min.ensures, c.mbufs.auto.to) in
    let less : len - (at + k) ≡ len - at - k = omega arith in
    let put =
    take-put_mid at _ c.mbufs.to c.copy_from_slice.new.self (at + k)
    (omega (arith, ap length part, length-take k piece, size))
    (omega (arith, c.min.ensures, c.mbufs.auto.to)) in
    let all = length-append piece rest in
    let was = ap (λ ms. length (bytes_in_mbufs ms)) c.in-Some.ensures.steps in
    record {
      room = omega (arith, c.min.ensures, c.mbufs.invariant.room);
      left = omega (arith, c.min.ensures, c.mbufs.invariant.left, all, was);
      copied =
          (λ j. put j ++ take (less j) rest)
          ∙ ap (λ (xs : List ℕ). (take at c.mbufs.to ++ xs) ++ take (len - at - k) rest) part
          ∙ append_assoc (take at c.mbufs.to) (take k piece) (take (len - at - k) rest)
          ∙ ap (λ (xs : List ℕ). take at c.mbufs.to ++ xs)
          (sym (piece_copied piece rest 0 k (len - at) (omega arith) size))
          ∙ ap (λ ms. take at c.mbufs.to ++ take (len - at) (bytes_in_mbufs ms)) (sym c.in-Some.ensures.steps)
          ∙ c.mbufs.invariant.copied;
    }

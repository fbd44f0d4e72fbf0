use Rattle.std.proofs.Common.{◌≡◌, ℕ, ◌+◌, ◌≤◌, List, ◌++◌, length, take, sym, ap, ◌∙◌, arith, append_assoc}
use Rattle.std.specs.List.{concat}
use Rattle.std.proofs.lemmas.List.{length-append}
use Rattle.std.proofs.lemmas.Slice.{take-put_mid, drop-put_mid}
use Rattle.ip_out.proofs.waiting.copy_all.Goals as goal

pub mbufs-preserved : goal.mbufs-preserved
mbufs-preserved c =
    let at : ℕ = c.mbufs.at in
    let piece : List ℕ = c.in-Some.piece.now in
    let rest : List ℕ = concat c.next.new.self in
    let part : c.copy_from_slice.new.self ≡ piece = c.copy_from_slice.ensures.after in
    let all = length-append piece rest in
    let was = ap (λ (ps : List (List ℕ)). length (concat ps)) c.in-Some.ensures.steps in
    let room : at ≤ length c.mbufs.buffer = omega (arith, c.mbufs.invariant.within, c.mbufs.auto.buffer) in
    let size : length c.copy_from_slice.new.self ≡ length piece = ap (λ (xs : List ℕ). length xs) part in
    record {
      within = omega (arith, c.mbufs.invariant.within, all, was);
      copied = ap (λ (xs : List ℕ). xs ++ rest)
          (take-put_mid at _ c.mbufs.buffer c.copy_from_slice.new.self (at + length piece) (omega (arith, size)) room)
          ∙ ap (λ (xs : List ℕ). (take at c.mbufs.buffer ++ xs) ++ rest) part
          ∙ append_assoc (take at c.mbufs.buffer) piece rest
          ∙ ap (λ (ps : List (List ℕ)). take at c.mbufs.buffer ++ concat ps) (sym c.in-Some.ensures.steps)
          ∙ c.mbufs.invariant.copied;
      kept =
          λ n le. drop-put_mid at _ c.mbufs.buffer c.copy_from_slice.new.self n (omega (arith, le)) room
          (omega (arith, size))
          ∙ c.mbufs.invariant.kept n (omega (arith, le));
    }

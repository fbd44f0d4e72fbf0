use Rattle.std.proofs.Common.{◌≡◌, ℕ, ◌+◌, ◌-◌, ◌*◌, ◌≤◌, length, List, [], ◌∷◌, slice_index_or, take, drop, take_all, ap, refl, ◌∙◌, arith}
use Rattle.flat_model.specs.Packets.Checksum.{fold16, word_sum}
use Rattle.flat_model.proofs.Packets.Folds.{fold16-add_first}
use Rattle.flat_model.proofs.checksum.fold.Goals as goal

-- one word more
word_added : (sum word left : ℕ) (s : List ℕ) → 2 ≤ length s → left ≡ length s
    → word ≡ slice_index_or s 0 0 * 256 + slice_index_or s 1 0
    → fold16 (fold16 (sum + word) + word_sum (take (left - 2) (drop 2 s))) ≡ fold16 (sum + word_sum s)
word_added sum word left [] long all is = absurd (omega arith)
word_added sum word left (a ∷ []) long all is = absurd (omega arith)
word_added sum word left (a ∷ b ∷ s) long all is =
    let whole : sum + word + word_sum s ≡ sum + word_sum (a ∷ b ∷ s) = omega arith in
    ap (λ t. fold16 (fold16 (sum + word) + word_sum t)) (take_all (left - 2) s (omega arith))
    ∙ fold16-add_first (sum + word) (word_sum s) ∙ ap fold16 whole

pub loop-rest-preserved : goal.loop-rest-preserved
loop-rest-preserved c =
    let rest = c.loop-rest.rest.now in (
      c.add_word-sum.type_inv,
      rw c.add_word-sum.ensures
          (word_added c.loop-rest.sum c.from_be_bytes.result (length rest) rest c.in-len2-up.len_at_least refl
          c.from_be_bytes.ensures ∙ c.loop-rest.invariant.1),
    )

use Rattle.std.proofs.Common.{◌≡◌, ℕ, min, List, length, drop, ap, sym, ◌∙◌, arith, inl, inr}
use Rattle.std.proofs.lemmas.Bool.{cases_lt}
use Rattle.std.proofs.lemmas.List.{drop_all, take_rest}
use Rattle.chain_ops.proofs.copyback.after.Goals as goal

drop_to : (m : ℕ) (xs : List ℕ) → drop (min (length xs) m) xs ≡ drop m xs
drop_to m xs = elim (cases_lt m (length xs)) [
  | inl l ↦ let same : min (length xs) m ≡ m = omega arith in ap (λ (k : ℕ). drop k xs) same
  | inr l ↦ drop_all (min (length xs) m) xs (omega arith) ∙ sym (drop_all m xs l)
]

pub returns : goal.returns
returns c =
    take_rest c.args.bytes.now c.min.result ∙ ap (λ (k : ℕ). drop k c.args.bytes.now) c.min.ensures
    ∙ drop_to c.args.count c.args.bytes.now

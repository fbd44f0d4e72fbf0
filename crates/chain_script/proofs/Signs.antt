-- Words that aren't signed numbers.
use Rattle.std.proofs.Common.{◌≡◌, ℕ, suc, ◌≤◌, ◌∷◌, ◌++◌, List, codes, sym, ◌∙◌, arith}
use Rattle.std.specs.Prelude.{ℤ, pos, negsuc, decimal}
use Rattle.std.proofs.lemmas.Fmt.{decimal_injective}
use Rattle.flat_model.specs.Scripts.Grammar.{IsNumber}
use Rattle.chain_script.specs.Lines.{IsSigned}

pub signed_none : (word : List ℕ) → ((n : ℕ) → IsNumber 65535 word n → ⊥)
    → ((n : ℕ) → suc n ≤ 65535 → word ≡ codes "-" ++ decimal (suc n) → ⊥)
    → (z : ℤ) → IsSigned word z → ⊥
signed_none word plain minus (pos n) h = plain n h
signed_none word plain minus (negsuc n) h = minus n h.0 h.1

-- 0 has no sign
pub no_minus_zero : (word digits : List ℕ) (sign m : ℕ) → word ≡ sign ∷ digits → digits ≡ decimal m → m ≡ 0 → (n : ℕ)
    → suc n ≤ 65535 → word ≡ codes "-" ++ decimal (suc n) → ⊥
no_minus_zero word digits sign m cut is zero n few e =
    let tail : digits ≡ decimal (suc n) = cc (sym cut ∙ e) in
    absurd (let same : m ≡ suc n = decimal_injective m (suc n) (omega (arith, zero)) (omega (arith, few))
    (sym is ∙ tail) in omega (arith, same, zero))

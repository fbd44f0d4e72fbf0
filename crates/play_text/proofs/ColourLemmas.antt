-- The position at which the causes of drops begin.
use Rattle.std.proofs.Common.{◌≡◌, ℕ, suc, ◌+◌, ◌<◌, false, List, ◌∷◌, length, drop, get_or, codes, refl, sym, ap, ◌∙◌, arith}
use Rattle.std.proofs.lemmas.List.{drop_more}
use Rattle.play_text.specs.Bytes.{begins_with}
use Rattle.play_text.specs.Forms.{drops_at}

next : (byte : ℕ) (bytes : List ℕ) → begins_with (byte ∷ bytes) (codes "dropped ") ≡ false
    → drops_at (byte ∷ bytes) ≡ suc (drops_at bytes)
next byte bytes h = rw h refl

pub step : (reply : List ℕ) (at : ℕ) → at < length reply → begins_with (drop at reply) (codes "dropped ") ≡ false
    → at + drops_at (drop at reply) ≡ at + 1 + drops_at (drop (at + 1) reply)
step reply at h none =
    let begins = drop_more reply at 0 h in
    ap (λ n. at + n) (ap drops_at begins
    ∙ next (get_or reply at 0) (drop (at + 1) reply) (ap (λ t. begins_with t (codes "dropped ")) (sym begins) ∙ none))
    ∙ omega arith

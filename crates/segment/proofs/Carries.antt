-- Carries, one after another.
use Rattle.std.proofs.Common.{◌≡◌, ℕ, zero, suc, Bool, true, false, refl, sym, ◌∙◌, subst}
use Rattle.segment.specs.Segment.{SegmentView, AreCarried, IsCarried, is_quiet_segment}

not_both : {A : Type 0} → (b : Bool) → b ≡ true → b ≡ false → A
not_both b t f = absurd (never (sym f ∙ t))
  where
    never : false ≡ true → ⊥
    never e = cc

-- one more, if something was left
pub carried_more : (n m : ℕ) (old mid last : SegmentView) → n ≡ suc m → is_quiet_segment old ≡ false → IsCarried old mid
    → AreCarried m mid last → AreCarried n old last
carried_more n m old mid last e left carried later = subst (λ k. AreCarried k old last) (sym e)
    (record { yes = λ quiet. not_both (is_quiet_segment old) quiet left; no = λ _. (mid, carried, later) })

-- no more, if nothing was left
pub carried_none : (n : ℕ) (old : SegmentView) → is_quiet_segment old ≡ true → AreCarried n old old
carried_none zero old quiet = refl
carried_none (suc n) old quiet = record { yes = λ _. refl; no = λ left. not_both (is_quiet_segment old) quiet left }

pub carried_end : (n : ℕ) (old : SegmentView) → n ≡ 0 → AreCarried n old old
carried_end n old e = subst (λ k. AreCarried k old old) (sym e) refl

-- Causes one after another.
use Rattle.std.proofs.Common.{◌≡◌, ℕ, suc, zero, ◌<◌, ◌≤◌, List, [], ◌∷◌, length, drop, get_or, if◌then◌else◌, refl, arith}
use Rattle.flat_model.specs.declared.counters.Counters.{Counters}
use Rattle.flat_model.specs.declared.counters.Why.{Why}
use Rattle.play_text.specs.Tables.{once_more}
use Rattle.play_text.specs.declared.count.Count.{Count}
use Rattle.play_why.specs.Verdicts.{is_blamed, blamed_by}
use Rattle.play_why.specs.declared.blame.Blame.{Blame}
use Rattle.play_why.specs.declared.seen.Seen.{Seen}

pub inserted_step : (blame : Blame) (r : Seen) (a b : Counters) (whys : List Why) (i : ℕ) (c : Count) (d : Why)
    → i < length whys
    → blamed_by blame r a b (drop i whys) c
    ≡ blamed_by blame r a b (drop (suc i) whys)
    (if is_blamed blame r a b (get_or whys i d) then once_more r.number c else c)
inserted_step blame r a b [] i c d less = absurd (omega (arith, less))
inserted_step blame r a b (why ∷ whys) zero c d less = refl
inserted_step blame r a b (why ∷ whys) (suc i) c d less = inserted_step blame r a b whys i c d (omega (arith, less))

pub inserted_end : (blame : Blame) (r : Seen) (a b : Counters) (whys : List Why) (i : ℕ) (c : Count) → length whys ≤ i
    → blamed_by blame r a b (drop i whys) c ≡ c
inserted_end blame r a b [] zero c past = refl
inserted_end blame r a b [] (suc i) c past = refl
inserted_end blame r a b (why ∷ whys) zero c past = absurd (omega (arith, past))
inserted_end blame r a b (why ∷ whys) (suc i) c past = inserted_end blame r a b whys i c (omega (arith, past))

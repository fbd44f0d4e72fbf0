-- The clusters that were seen, slot by slot.
use Rattle.std.proofs.Common.{◌≡◌, ℕ, zero, suc, ◌+◌, ◌<◌, List, [], ◌∷◌, length, drop, map, get_or, Option, Some, None, refl, ap, ◌∙◌, arith}
use Rattle.std.specs.Prelude.{IfOk, IfSome, Result, Ok, Err}
use Rattle.std.specs.Result.{result_ok}
use Rattle.mbuf_chain.specs.Chain.{PoolView, chain_of}
use Rattle.chain_script.specs.Machines.{entries_in}
use Rattle.chain_script.specs.Drawings.{collected_all, collected_slots}
use Rattle.chain_script.specs.Inside.Slots.{slot_of}

-- slot i, and those after it
pub collected_next : (p : PoolView) (seen : List ℕ) (slots : List (Option ℕ)) (i : ℕ) → i < length slots
    → collected_slots seen (drop i (map (slot_of p) slots))
    ≡ collected_slots (collected_all seen (entries_in (slot_of p (get_or slots i None))))
    (drop (i + 1) (map (slot_of p) slots))
collected_next p seen [] i within = absurd (omega (arith, within))
collected_next p seen (slot ∷ slots) zero within = refl
collected_next p seen (slot ∷ slots) (suc i) within = search
    (arith, collected_next p seen slots i (omega (arith, within)))

pub collected_held : (p : PoolView) (seen : List ℕ) (slots : List (Option ℕ)) (i c : ℕ) → i < length slots
    → get_or slots i None ≡ Some c
    → collected_slots seen (drop i (map (slot_of p) slots))
    ≡ collected_slots (collected_all seen (chain_of p c).entries) (drop (i + 1) (map (slot_of p) slots))
collected_held p seen slots i c within is =
    collected_next p seen slots i within
    ∙ ap (λ (o : Option ℕ). collected_slots (collected_all seen (entries_in (slot_of p o)))
    (drop (i + 1) (map (slot_of p) slots))) is

pub collected_none : (p : PoolView) (seen : List ℕ) (slots : List (Option ℕ)) (i : ℕ) → i < length slots
    → get_or slots i None ≡ None
    → collected_slots seen (drop i (map (slot_of p) slots)) ≡ collected_slots seen
    (drop (i + 1) (map (slot_of p) slots))
collected_none p seen slots i within is =
    collected_next p seen slots i within
    ∙ ap (λ (o : Option ℕ). collected_slots (collected_all seen (entries_in (slot_of p o)))
    (drop (i + 1) (map (slot_of p) slots))) is

-- what holds for a drawing holds for it as an option
pub drawn_kept : {A E : Type 0} (F : A → Type 0) (r : Result A E) → IfOk r F → IfSome (result_ok r) F
drawn_kept F (Ok text) is = is
drawn_kept F (Err fault) is = tt

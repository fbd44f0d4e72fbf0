-- The mbufs and clusters that the slots hold are those that the pool's chains hold.
use Rattle.std.proofs.Common.{◌≡◌, ℕ, ◌+◌, ◌<◌, ◌≤◌, ◌==◌, Bool, true, false, List, [], ◌∷◌, length, map, sum_by, count_by, Option, Some, None, refl, sym, ap, ◌∙◌, arith, inl, inr}
use Rattle.std.specs.Prelude.{◌||◌, nat_lt, nat_le}
use Rattle.std.specs.List.{range_with_len}
use Rattle.std.proofs.lemmas.List.Sums.{sum_by-cons}
use Rattle.std.proofs.lemmas.Bool.{cases_Bool, ltb-true, ltb-false, leb-false}
use Rattle.mbuf_chain.specs.Chain.{PoolView, chain_of, mbufs_of, references_of, refers, held_mbufs, references, free_clusters}
use Rattle.mbuf_chain.proofs.Laws.Accounts.{held_by_owners, references_by_owners}
use Rattle.chain_ops.specs.Makes.{HasMbufs, LacksMbufs}
use Rattle.chain_script.specs.Machines.{Slot, entries_in, mbufs_held, times_referred, clusters_free, lacks}
use Rattle.chain_script.specs.Inside.Slots.{slot_numbers, slot_of, machine_of, FitsSlots}

sum_slots : (f : Option Slot → ℕ) (g : ℕ → ℕ) (p : PoolView) → f None ≡ 0 → ((c : ℕ) → f (slot_of p (Some c)) ≡ g c)
    → (slots : List (Option ℕ))
    → sum_by f (map (slot_of p) slots) ≡ sum_by g (slot_numbers slots)
sum_slots f g p none some [] = refl
sum_slots f g p none some (None ∷ slots) =
    omega (arith, sum_by-cons f None (map (slot_of p) slots), none, sum_slots f g p none some slots)
sum_slots f g p none some (Some c ∷ slots) =
    omega (
      arith,
      sum_by-cons f (slot_of p (Some c)) (map (slot_of p) slots),
      sum_by-cons g c (slot_numbers slots),
      some c,
      sum_slots f g p none some slots,
    )

pub held_is : (p : PoolView) (slots : List (Option ℕ)) → FitsSlots p slots
    → mbufs_held (machine_of p slots) ≡ held_mbufs p
held_is p slots fits =
    sum_slots (λ s. length (entries_in s)) (λ k. mbufs_of (chain_of p k)) p refl (λ c. refl) slots
    ∙ sym (held_by_owners p (slot_numbers slots) fits)

pub count_is : (p : PoolView) (slots : List (Option ℕ)) (c : ℕ) → FitsSlots p slots
    → times_referred (machine_of p slots) c ≡ references p c
count_is p slots c fits =
    sum_slots (λ s. count_by (refers c) (entries_in s)) (λ k. references_of c (chain_of p k)) p refl (λ k. refl) slots
    ∙ sym (references_by_owners p (slot_numbers slots) c fits)

pub free_is : (p : PoolView) (slots : List (Option ℕ)) → FitsSlots p slots
    → clusters_free (machine_of p slots) ≡ free_clusters p
free_is p slots fits = (λ j. count_by (λ c. count_is p slots c fits j == 0) (range_with_len 0 p.clusters))

-- ---- whether too few buffers are free
pub lt_yes : (a b : ℕ) → a < b → nat_lt a b ≡ true
lt_yes a b h = elim (cases_Bool (nat_lt a b)) [ inl y ↦ y | inr n ↦ absurd (omega (arith, ltb-false a b n)) ]

pub lt_no : (a b : ℕ) → b ≤ a → nat_lt a b ≡ false
lt_no a b h = elim (cases_Bool (nat_lt a b)) [ inl y ↦ absurd (omega (arith, ltb-true a b y)) | inr n ↦ n ]

pub le_yes : (a b : ℕ) → a ≤ b → nat_le a b ≡ true
le_yes a b h = elim (cases_Bool (nat_le a b)) [ inl y ↦ y | inr n ↦ absurd (omega (arith, leb-false a b n)) ]

or_right : (x y : Bool) → y ≡ true → (x || y) ≡ true
or_right true y h = refl
or_right false y h = h

or_none : (x y : Bool) → x ≡ false → y ≡ false → (x || y) ≡ false
or_none x y hx hy = ap (λ (b : Bool). b || y) hx ∙ hy

pub has_all : (p : PoolView) (slots : List (Option ℕ)) (n m : ℕ) → FitsSlots p slots → HasMbufs p n
    → m ≤ free_clusters p
    → lacks (machine_of p slots) n m ≡ false
has_all p slots n m fits mbufs clusters =
    or_none (nat_lt p.mbufs (mbufs_held (machine_of p slots) + n)) (nat_lt (clusters_free (machine_of p slots)) m)
    (lt_no _ _ (omega (arith, held_is p slots fits, mbufs)))
    (lt_no _ _ (omega (arith, free_is p slots fits, clusters)))

pub lacks_mbufs : (p : PoolView) (slots : List (Option ℕ)) (n m : ℕ) → FitsSlots p slots → LacksMbufs p n
    → lacks (machine_of p slots) n m ≡ true
lacks_mbufs p slots n m fits mbufs =
    ap (λ (b : Bool). b || nat_lt (clusters_free (machine_of p slots)) m)
    (lt_yes p.mbufs (mbufs_held (machine_of p slots) + n) (omega (arith, held_is p slots fits, mbufs)))

pub lacks_clusters : (p : PoolView) (slots : List (Option ℕ)) (n m : ℕ) → FitsSlots p slots → free_clusters p < m
    → lacks (machine_of p slots) n m ≡ true
lacks_clusters p slots n m fits clusters =
    or_right (nat_lt p.mbufs (mbufs_held (machine_of p slots) + n)) (nat_lt (clusters_free (machine_of p slots)) m)
    (lt_yes _ _ (omega (arith, free_is p slots fits, clusters)))

-- Chains that are put into slots and taken from them.
use Rattle.std.proofs.Common.{◌≡◌, ◌≢◌, ℕ, zero, suc, ◌+◌, ◌<◌, List, [], ◌∷◌, ◌++◌, length, take, drop, map, replicate, set, get_or, sum_by, Option, Some, None, unwrap_or, refl, sym, ap, ◌∙◌, arith}
use Rattle.std.specs.FinMap as finmap
use Rattle.std.proofs.lemmas.Grind.{common_steps}
use Rattle.std.proofs.lemmas.List.{map-set, set-get_or, get_or-set_other, get_or_default, length-set}
use Rattle.std.proofs.lemmas.List.Sums.{sum_by-set, sum_by-cons}
use Rattle.mbuf_chain.specs.Chain.{ChainView, PoolView, IsLive, chain_of, no_chain}
use Rattle.mbuf_chain.specs.Owners.{times_among, live_at, Moves}
use Rattle.mbuf_chain.proofs.Laws.Owners.{times_same, live_at_most, live_from}
use Rattle.chain_script.specs.Machines.{Slot, with_slot, emptied}
use Rattle.chain_script.specs.Inside.Slots.{with_number, slot_numbers, slot_of, machine_of, FitsSlots}

-- ---- how often a number is in the slots
abbrev times_in : ℕ → Option ℕ → ℕ
times_in k slot = times_among k (with_number slot [])

times_slots : (k : ℕ) (slots : List (Option ℕ)) → times_among k (slot_numbers slots) ≡ sum_by (times_in k) slots
times_slots k [] = refl
times_slots k (None ∷ slots) = omega (arith, times_slots k slots, sum_by-cons (times_in k) None slots)
times_slots k (Some c ∷ slots) = omega (arith, times_slots k slots, sum_by-cons (times_in k) (Some c) slots)

pub times-set : (k : ℕ) (slots : List (Option ℕ)) (i : ℕ) (slot : Option ℕ) → i < length slots
    → times_among k (slot_numbers (set slots i slot)) + times_in k (get_or slots i None)
    ≡ times_among k (slot_numbers slots) + times_in k slot
times-set k slots i slot within =
    omega (
      arith,
      times_slots k slots,
      times_slots k (set slots i slot),
      sum_by-set (times_in k) slots i slot None within,
    )

-- ---- the views of the slots
pub slots_same : (p q : PoolView) (slots : List (Option ℕ))
    → ((k : ℕ) → 0 < times_among k (slot_numbers slots) → finmap.get q.chains k ≡ finmap.get p.chains k)
    → map (slot_of q) slots ≡ map (slot_of p) slots
slots_same p q [] same = refl
slots_same p q (None ∷ slots) same = ap (λ (ss : List (Option Slot)). None ∷ ss) (slots_same p q slots same)
slots_same p q (Some c ∷ slots) same =
    let here : chain_of q c ≡ chain_of p c =
    ap (λ (o : Option ChainView). unwrap_or o no_chain) (same c (omega (arith, times_same c (slot_numbers slots)))) in
    let rest : map (slot_of q) slots ≡ map (slot_of p) slots =
    slots_same p q slots (λ k h. same k (omega (arith, h))) in
    (λ j. Some (record { header = (here j).front.header; entries = (here j).entries }) ∷ rest j)

set-set : {A : Type 0} (xs : List A) (i : ℕ) (x y : A) → set (set xs i x) i y ≡ set xs i y
set-set [] i x y = refl
set-set (z ∷ xs) zero x y = refl
set-set (z ∷ xs) (suc i) x y = ap (λ (ys : List _). z ∷ ys) (set-set xs i x y)

-- ---- a chain of one slot, and the others
pub hand : (p : PoolView) (slots : List (Option ℕ)) (i c : ℕ) → FitsSlots p slots → i < length slots
    → get_or slots i None ≡ Some c
    → (k : ℕ) → times_among k (c ∷ slot_numbers (set slots i None)) ≡ live_at p k
hand p slots i c fits within is = λ k. omega (arith, times-set k slots i None within, ap (times_in k) is, fits k)

pub live_slot : (p : PoolView) (slots : List (Option ℕ)) (i c : ℕ) → FitsSlots p slots → i < length slots
    → get_or slots i None ≡ Some c → IsLive p c
live_slot p slots i c fits within is =
    live_from p c (omega (arith, hand p slots i c fits within is c, times_same c (slot_numbers (set slots i None))))

-- the views of the slots that a step doesn't change
others : (p q : PoolView) (rest : List (Option ℕ)) (us vs : List ℕ)
    → ((k : ℕ) → times_among k us + times_among k (slot_numbers rest) ≡ live_at p k) → Moves p us q vs
    → map (slot_of q) rest ≡ map (slot_of p) rest
others p q rest us vs all m =
    slots_same p q rest (λ k some. m.others k (live_from p k (omega (arith, all k, some)))
    (omega (arith, all k, some, live_at_most p k)))

abbrev shown : PoolView → ℕ → Option Slot
shown q d = slot_of q (Some d)

-- ---- the steps
-- a new chain in an empty slot
pub made_fits : (p q : PoolView) (slots : List (Option ℕ)) (i d : ℕ) → FitsSlots p slots → i < length slots
    → get_or slots i None ≡ None → Moves p [] q (d ∷ [])
    → FitsSlots q (set slots i (Some d))
made_fits p q slots i d fits within is m =
    λ k. omega (arith, times-set k slots i (Some d) within, ap (times_in k) is, fits k, m.owned k)

pub made : (p q : PoolView) (slots : List (Option ℕ)) (i d : ℕ) → FitsSlots p slots → Moves p [] q (d ∷ [])
    → machine_of q (set slots i (Some d))
    ≡ with_slot (machine_of p slots) i (chain_of q d).front.header (chain_of q d).entries
made p q slots i d fits m =
    let rest : map (slot_of q) slots ≡ map (slot_of p) slots =
    others p q slots [] (d ∷ []) (λ k. omega (arith, fits k)) m in
    let all : map (slot_of q) (set slots i (Some d)) ≡ set (map (slot_of p) slots) i (shown q d) =
    map-set (slot_of q) slots i (Some d) ∙ ap (λ (ss : List (Option Slot)). set ss i (shown q d)) rest in
    (λ j. record { mbufs = m.mbufs j; clusters = m.clusters j; slots = all j })

-- a chain that was changed, and may have another number
pub changed_fits : (p q : PoolView) (slots : List (Option ℕ)) (i c d : ℕ) → FitsSlots p slots → i < length slots
    → get_or slots i None ≡ Some c → Moves p (c ∷ []) q (d ∷ [])
    → FitsSlots q (set slots i (Some d))
changed_fits p q slots i c d fits within is m =
    λ k. omega (arith, times-set k slots i (Some d) within, ap (times_in k) is, fits k, m.owned k)

pub changed : (p q : PoolView) (slots : List (Option ℕ)) (i c d : ℕ) → FitsSlots p slots → i < length slots
    → get_or slots i None ≡ Some c → Moves p (c ∷ []) q (d ∷ [])
    → machine_of q (set slots i (Some d))
    ≡ with_slot (machine_of p slots) i (chain_of q d).front.header (chain_of q d).entries
changed p q slots i c d fits within is m =
    let rest : map (slot_of q) (set slots i None) ≡ map (slot_of p) (set slots i None) =
    others p q (set slots i None) (c ∷ []) (d ∷ []) (λ k. omega (arith, hand p slots i c fits within is k)) m in
    let all : map (slot_of q) (set slots i (Some d)) ≡ set (map (slot_of p) slots) i (shown q d) =
    ap (map (slot_of q)) (sym (set-set slots i None (Some d)))
    ∙ map-set (slot_of q) (set slots i None) i (Some d)
    ∙ ap (λ (ss : List (Option Slot)). set ss i (shown q d)) (rest ∙ map-set (slot_of p) slots i None)
    ∙ set-set (map (slot_of p) slots) i None (shown q d) in
    (λ j. record { mbufs = m.mbufs j; clusters = m.clusters j; slots = all j })

-- a chain that kept its number is in its slot as before
pub same_slot : (slots : List (Option ℕ)) (i c : ℕ) → get_or slots i None ≡ Some c → set slots i (Some c) ≡ slots
same_slot slots i c is = ap (set slots i) (sym is) ∙ set-get_or slots i None

-- a chain that was freed
pub freed_fits : (p q : PoolView) (slots : List (Option ℕ)) (i c : ℕ) → FitsSlots p slots → i < length slots
    → get_or slots i None ≡ Some c → Moves p (c ∷ []) q []
    → FitsSlots q (set slots i None)
freed_fits p q slots i c fits within is m = λ k. omega (arith, hand p slots i c fits within is k, m.owned k)

pub freed : (p q : PoolView) (slots : List (Option ℕ)) (i c : ℕ) → FitsSlots p slots → i < length slots
    → get_or slots i None ≡ Some c → Moves p (c ∷ []) q []
    → machine_of q (set slots i None) ≡ emptied (machine_of p slots) i
freed p q slots i c fits within is m =
    let rest : map (slot_of q) (set slots i None) ≡ map (slot_of p) (set slots i None) =
    others p q (set slots i None) (c ∷ []) [] (λ k. omega (arith, hand p slots i c fits within is k)) m in
    let all : map (slot_of q) (set slots i None) ≡ set (map (slot_of p) slots) i None =
    rest ∙ map-set (slot_of p) slots i None in
    (λ j. record { mbufs = m.mbufs j; clusters = m.clusters j; slots = all j })

-- two chains joined: that of slot i stays, and slot j is empty
apart_slots : (slots : List (Option ℕ)) (i j c : ℕ) → i ≢ j → get_or slots i None ≡ Some c
    → get_or (set slots j None) i None ≡ Some c
apart_slots slots i j c ne is = get_or-set_other slots j i None None ne ∙ is

pub pair : (p : PoolView) (slots : List (Option ℕ)) (i j c d : ℕ) → FitsSlots p slots → i < length slots
    → j < length slots
    → i ≢ j
    → get_or slots i None ≡ Some c → get_or slots j None ≡ Some d
    → (k : ℕ) → times_among k (c ∷ d ∷ []) + times_among k (slot_numbers (set (set slots j None) i None)) ≡ live_at p k
pair p slots i j c d fits wi wj ne first second = λ k.
    omega (
      arith,
      hand p slots j d fits wj second k,
      times-set k (set slots j None) i None (omega (arith, length-set slots j None)),
      ap (times_in k) (apart_slots slots i j c ne first),
    )

pub apart_chains : (p : PoolView) (slots : List (Option ℕ)) (i j c d : ℕ) → FitsSlots p slots → i < length slots
    → j < length slots → i ≢ j
    → get_or slots i None ≡ Some c → get_or slots j None ≡ Some d → c ≢ d
apart_chains p slots i j c d fits wi wj ne first second = λ same.
    absurd (omega (
      arith,
      pair p slots i j c d fits wi wj ne first second d,
      times_same d [],
      times_same d (d ∷ []),
      live_at_most p d,
      ap (λ (n : ℕ). times_among d (n ∷ d ∷ [])) same,
    ))

pub joined_fits : (p q : PoolView) (slots : List (Option ℕ)) (i j c d : ℕ) → FitsSlots p slots → i < length slots
    → j < length slots → i ≢ j
    → get_or slots i None ≡ Some c → get_or slots j None ≡ Some d → Moves p (c ∷ d ∷ []) q (c ∷ [])
    → FitsSlots q (set slots j None)
joined_fits p q slots i j c d fits wi wj ne first second m = λ k.
    omega (arith, hand p slots j d fits wj second k, m.owned k)

pub joined : (p q : PoolView) (slots : List (Option ℕ)) (i j c d : ℕ) → FitsSlots p slots → i < length slots
    → j < length slots → i ≢ j
    → get_or slots i None ≡ Some c → get_or slots j None ≡ Some d → Moves p (c ∷ d ∷ []) q (c ∷ [])
    → machine_of q (set slots j None)
    ≡ with_slot (emptied (machine_of p slots) j) i (chain_of q c).front.header (chain_of q c).entries
joined p q slots i j c d fits wi wj ne first second m =
    let left : List (Option ℕ) = set slots j None in
    let rest : map (slot_of q) (set left i None) ≡ map (slot_of p) (set left i None) =
    others p q (set left i None) (c ∷ d ∷ []) (c ∷ []) (pair p slots i j c d fits wi wj ne first second) m in
    let all : map (slot_of q) left ≡ set (set (map (slot_of p) slots) j None) i (shown q c) =
    ap (map (slot_of q)) (sym (same_slot left i c (apart_slots slots i j c ne first))
    ∙ sym (set-set left i None (Some c)))
    ∙ map-set (slot_of q) (set left i None) i (Some c)
    ∙ ap (λ (ss : List (Option Slot)). set ss i (shown q c)) (rest ∙ map-set (slot_of p) left i None)
    ∙ set-set (map (slot_of p) left) i None (shown q c)
    ∙ ap (λ (ss : List (Option Slot)). set ss i (shown q c)) (map-set (slot_of p) slots j None) in
    (λ j'. record { mbufs = m.mbufs j'; clusters = m.clusters j'; slots = all j' })

-- a chain split in two: slot i keeps the front, and the empty slot j gets the back
pub parted_fits : (p q : PoolView) (slots : List (Option ℕ)) (i j c d : ℕ) → FitsSlots p slots → i < length slots
    → j < length slots
    → get_or slots i None ≡ Some c → get_or slots j None ≡ None → Moves p (c ∷ []) q (c ∷ d ∷ [])
    → FitsSlots q (set slots j (Some d))
parted_fits p q slots i j c d fits wi wj first second m = λ k.
    omega (arith, times-set k slots j (Some d) wj, ap (times_in k) second, fits k, m.owned k)

pub parted : (p q : PoolView) (slots : List (Option ℕ)) (i j c d : ℕ) → FitsSlots p slots → i < length slots
    → j < length slots
    → get_or slots i None ≡ Some c → get_or slots j None ≡ None → Moves p (c ∷ []) q (c ∷ d ∷ [])
    → machine_of q (set slots j (Some d))
    ≡ with_slot (with_slot (machine_of p slots) i (chain_of q c).front.header (chain_of q c).entries) j
    (chain_of q d).front.header
    (chain_of q d).entries
parted p q slots i j c d fits wi wj first second m =
    let rest : map (slot_of q) (set slots i None) ≡ map (slot_of p) (set slots i None) =
    others p q (set slots i None) (c ∷ []) (c ∷ d ∷ []) (λ k. omega (arith, hand p slots i c fits wi first k)) m in
    let front : map (slot_of q) slots ≡ set (map (slot_of p) slots) i (shown q c) =
    ap (map (slot_of q)) (sym (same_slot slots i c first) ∙ sym (set-set slots i None (Some c)))
    ∙ map-set (slot_of q) (set slots i None) i (Some c)
    ∙ ap (λ (ss : List (Option Slot)). set ss i (shown q c)) (rest ∙ map-set (slot_of p) slots i None)
    ∙ set-set (map (slot_of p) slots) i None (shown q c) in
    let all : map (slot_of q) (set slots j (Some d)) ≡ set (set (map (slot_of p) slots) i (shown q c)) j (shown q d) =
    map-set (slot_of q) slots j (Some d) ∙ ap (λ (ss : List (Option Slot)). set ss j (shown q d)) front in
    (λ j'. record { mbufs = m.mbufs j'; clusters = m.clusters j'; slots = all j' })

-- the chain of a slot, whatever the default for a missing slot is
pub slot_is : (slots : List (Option ℕ)) (i : ℕ) (other : Option ℕ) (slot : Option ℕ) → i < length slots
    → get_or slots i other ≡ slot → get_or slots i None ≡ slot
slot_is slots i other slot within is = get_or_default slots i None other within ∙ is

-- ---- slots that are all empty
pub none_left : (slots : List (Option ℕ)) → ((k : ℕ) → k < length slots → get_or slots k None ≡ None)
    → slot_numbers slots ≡ []
none_left [] empty = refl
none_left (slot ∷ slots) empty =
    ap (λ (s : Option ℕ). with_number s (slot_numbers slots)) (empty 0 (omega arith))
    ∙ none_left slots (λ k lt. empty (suc k) (omega arith))

pub all_none : (slots : List (Option ℕ)) (n : ℕ) → length slots ≡ n → ((k : ℕ) → k < n → get_or slots k None ≡ None)
    → slots ≡ replicate n None
all_none [] zero long empty = refl
all_none [] (suc n) long empty = absurd (omega arith)
all_none (slot ∷ slots) zero long empty = absurd (omega arith)
all_none (slot ∷ slots) (suc n) long empty =
    (λ j. empty 0 (omega arith) j ∷ all_none slots n (omega arith) (λ k lt. empty (suc k) (omega arith)) j)

-- ---- a list whose elements were all written
pub take-written : {A : Type 0} (n : ℕ) (new old : List A) → length new ≡ n
    → take n (new ++ drop (length new) old) ≡ new
take-written n new old len = grind (arith, common_steps)

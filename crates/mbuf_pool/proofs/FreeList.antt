-- Linked lists of free places.
use Rattle.std.proofs.Common.{◌≡◌, ◌≢◌, ℕ, zero, suc, ◌+◌, ◌-◌, ◌<◌, ◌≤◌, Bool, cond, nat_eq, Option, None, Some, List, [], ◌∷◌, length, map, count_by, refl, sym, ap, ◌∙◌, subst, arith, inl, inr}
use Rattle.std.specs.List.{range_with_len}
use Rattle.std.proofs.lemmas.Bool.{cases_eq, eq-eqb, ne_eqb}
use Rattle.std.proofs.lemmas.List.Sums.{sum_by-cons}
use Rattle.std.proofs.lemmas.Option.{none-some, same_Some}
use Rattle.mbuf_pool.specs.Inside.FreeList.{times_listed, walk_free, AreLinkedPlaces, IsFreeList}

-- ---- how often a place is in a list
pub times-here : (k : ℕ) (xs : List ℕ) → times_listed k (k ∷ xs) ≡ suc (times_listed k xs)
times-here k xs = ap (λ b. cond {A = ℕ} b 1 0 + times_listed k xs) (eq-eqb k k refl) ∙ omega arith

pub times-there : (k x : ℕ) (xs : List ℕ) → x ≢ k → times_listed k (x ∷ xs) ≡ times_listed k xs
times-there k x xs ne = ap (λ b. cond {A = ℕ} b 1 0 + times_listed k xs) (ne_eqb x k ne) ∙ omega arith

-- ---- the links
-- the links stay valid if no place in the list gets another next one
pub links_kept : (f g : ℕ → Option ℕ) (n : ℕ) (at : Option ℕ) (l : List ℕ)
    → ((k : ℕ) → k < n → 0 < times_listed k l → g k ≡ f k) → AreLinkedPlaces f n at l → AreLinkedPlaces g n at l
links_kept f g n at [] kept h = h
links_kept f g n at (x ∷ xs) kept h =
    let here = kept x h.1 (omega (arith, times-here x xs)) in (
      h.0,
      h.1,
      subst (λ (m : Option ℕ). AreLinkedPlaces g n m xs) (sym here)
          (links_kept f g n (f x) xs (λ k lt p. kept k lt (omega arith)) h.2),
    )

-- following the links yields the list
pub walk_is : (next : ℕ → Option ℕ) (places n : ℕ) (at : Option ℕ) (l : List ℕ) → AreLinkedPlaces next places at l
    → length l ≤ n → walk_free next n at ≡ l
walk_is next places n at [] h le = ap (walk_free next n) h
walk_is next places zero at (x ∷ xs) h le = absurd (omega arith)
walk_is next places (suc n) at (x ∷ xs) h le =
    ap (walk_free next (suc n)) h.0 ∙ ap (λ (l : List ℕ). x ∷ l) (walk_is next places n (next x) xs h.2 (omega arith))

-- ---- the length of a free list
-- the sum of f over n places from a on
abbrev pub over_places : ℕ → ℕ → (ℕ → ℕ) → ℕ
over_places a zero f = 0
over_places a (suc n) f = f a + over_places (a + 1) n f

places_add : (a n : ℕ) (f g : ℕ → ℕ) → over_places a n (λ k. f k + g k) ≡ over_places a n f + over_places a n g
places_add a zero f g = refl
places_add a (suc n) f g = omega (arith, places_add (a + 1) n f g)

places_same : (a n : ℕ) (f g : ℕ → ℕ) → ((k : ℕ) → k < a + n → f k ≡ g k) → over_places a n f ≡ over_places a n g
places_same a zero f g h = refl
places_same a (suc n) f g h = λ i. h a (omega arith) i + places_same (a + 1) n f g (λ k lt. h k (omega arith)) i

places_zero : (a n : ℕ) (f : ℕ → ℕ) → ((k : ℕ) → a ≤ k → f k ≡ 0) → over_places a n f ≡ 0
places_zero a zero f h = refl
places_zero a (suc n) f h = omega (arith, h a (omega arith), places_zero (a + 1) n f (λ k le. h k (omega arith)))

-- one place is counted once
places_one : (x a n : ℕ) → a ≤ x → x < a + n → over_places a n (λ k. cond (nat_eq x k) 1 0) ≡ 1
places_one x a zero low high = absurd (omega arith)
places_one x a (suc n) low high =
    elim (cases_eq x a) [
      | inl e ↦
          let here : cond {A = ℕ} (nat_eq x a) 1 0 ≡ 1 = ap (λ b. cond {A = ℕ} b 1 0) (eq-eqb x a e) in
          omega (
            arith,
            places_zero (a + 1) n (λ k. cond (nat_eq x k) 1 0)
                (λ k le. ap (λ b. cond {A = ℕ} b 1 0) (ne_eqb x k (λ q. absurd (omega arith)))),
          )
      | inr ne ↦
          let here : cond {A = ℕ} (nat_eq x a) 1 0 ≡ 0 = ap (λ b. cond {A = ℕ} b 1 0) (ne_eqb x a ne) in
          omega (arith, places_one x (a + 1) n (omega arith) (omega arith))
    ]

-- the length of a linked list is the sum over all places of how often it contains each
all_times : (next : ℕ → Option ℕ) (n : ℕ) (at : Option ℕ) (l : List ℕ) → AreLinkedPlaces next n at l
    → over_places 0 n (λ k. times_listed k l) ≡ length l
all_times next n at [] h = places_zero 0 n (λ k. 0) (λ k le. refl)
all_times next n at (x ∷ xs) h =
    places_add 0 n (λ k. cond (nat_eq x k) 1 0) (λ k. times_listed k xs)
    ∙ omega (arith, places_one x 0 n (omega arith) (omega (arith, h.1)), all_times next n (next x) xs h.2)

counted : {X : Type 0} (p : X → Bool) (f : ℕ → X) (a n : ℕ)
    → count_by p (map f (range_with_len a n)) ≡ over_places a n (λ k. cond (p (f k)) 1 0)
counted p f a zero = refl
counted p f a (suc n) =
    sum_by-cons (λ x. cond {A = ℕ} (p x) 1 0) (f a) (map f (range_with_len (a + 1) n))
    ∙ ap (λ m. cond {A = ℕ} (p (f a)) 1 0 + m) (counted p f (a + 1) n)

-- if each place is counted as often as a linked list contains it, the count is the list's length
pub count_free : {X : Type 0} (p : X → Bool) (f : ℕ → X) (next : ℕ → Option ℕ) (n : ℕ) (at : Option ℕ) (l : List ℕ)
    → AreLinkedPlaces next n at l
    → ((k : ℕ) → k < n → cond {A = ℕ} (p (f k)) 1 0 ≡ times_listed k l)
    → count_by p (map f (range_with_len 0 n)) ≡ length l
count_free p f next n at l linked each =
    counted p f 0 n ∙ places_same 0 n (λ k. cond (p (f k)) 1 0) (λ k. times_listed k l) (λ k lt. each k (omega arith))
    ∙ all_times next n at l linked

-- a linked list with no place twice isn't longer than the number of places
pub few_free : (next : ℕ → Option ℕ) (n : ℕ) (at : Option ℕ) (l : List ℕ) → AreLinkedPlaces next n at l
    → ((k : ℕ) → times_listed k l ≤ 1) → length l ≤ n
few_free next n at l linked once = omega (arith, all_times next n at l linked, small 0 n)
  where
    small : (a m : ℕ) → over_places a m (λ k. times_listed k l) ≤ m
    small a zero = omega arith
    small a (suc m) = omega (arith, once a, small (a + 1) m)

-- ---- steps of a free list
module _ (next : ℕ → Option ℕ) (places : ℕ) where
  -- the first free place is the head of the list
  pub first_free : (k number : ℕ) (free : List ℕ) → IsFreeList next places (Some k) number free
      → (rest : List ℕ) × (free ≡ k ∷ rest) × (k < places)
  first_free k number [] h = absurd (none-some k (sym h.linked))
  first_free k number (x ∷ xs) h =
      let same : k ≡ x = same_Some k x h.linked.0 in
      (xs, ap (λ (y : ℕ). y ∷ xs) (sym same), subst (λ (y : ℕ). y < places) (sym same) h.linked.1)

  -- if there is no first place, nothing is free
  pub none_free : (number : ℕ) (free : List ℕ) → IsFreeList next places None number free → number ≡ 0
  none_free number [] h = h.size
  none_free number (x ∷ xs) h = absurd (none-some x h.linked.0)

  -- the first place is removed
  pub list_taken : (g : ℕ → Option ℕ) (k number : ℕ) (rest : List ℕ) → IsFreeList next places (Some k) number (k ∷ rest)
      → ((j : ℕ) → j < places → j ≢ k → g j ≡ next j)
      → IsFreeList g places (next k) (number - 1) rest
  list_taken g k number rest h kept =
      record {
        linked =
            links_kept next g places (next k) rest
            (λ j lt p. kept j lt (λ e. absurd
            (omega (arith, h.once k, times-here k rest, ap (λ (m : ℕ). times_listed m rest) e)))) h.linked.2;
        once = λ j. omega (arith, h.once j);
        size = omega (arith, h.size);
      }

  -- a place is added at the front
  pub list_put : (g : ℕ → Option ℕ) (first : Option ℕ) (k number : ℕ) (free : List ℕ)
      → IsFreeList next places first number free → k < places → times_listed k free ≡ 0 → g k ≡ first
      → ((j : ℕ) → j < places → j ≢ k → g j ≡ next j) → IsFreeList g places (Some k) (number + 1) (k ∷ free)
  list_put g first k number free h lt out here kept =
      let linked : AreLinkedPlaces g places first free =
      links_kept next g places first free
      (λ j below p. kept j below (λ e. absurd (omega (arith, out, ap (λ (m : ℕ). times_listed m free) e)))) h.linked in
      record {
        linked = (refl, lt, subst (λ (m : Option ℕ). AreLinkedPlaces g places m free) (sym here) linked);
        once = λ j. elim (cases_eq k j) [
          | inl e ↦ omega (arith, times-here k free, ap (λ (m : ℕ). times_listed m (k ∷ free)) e)
          | inr ne ↦ omega (arith, h.once j, times-there j k free ne)
        ];
        size = omega (arith, h.size);
      }

  -- none of the links in the list changes
  pub list_kept : (g : ℕ → Option ℕ) (first : Option ℕ) (number : ℕ) (free : List ℕ)
      → IsFreeList next places first number free → ((j : ℕ) → j < places → 0 < times_listed j free → g j ≡ next j)
      → IsFreeList g places first number free
  list_kept g first number free h kept =
      record { linked = links_kept next g places first free kept h.linked; once = h.once; size = h.size }

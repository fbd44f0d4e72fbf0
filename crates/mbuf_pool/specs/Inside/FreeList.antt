-- A list of free buffers that is linked through the buffers themselves (this project's own).
use Rattle.std.specs.Prelude.{◌≡◌, ℕ, zero, suc, ◌+◌, ◌<◌, ◌≤◌, cond, Option, None, Some, List, [], ◌∷◌, length, nat_eq}

-- how often k is in the list
abbrev pub times_listed : ℕ → List ℕ → ℕ
times_listed k [] = 0
times_listed k (x ∷ xs) = cond (nat_eq x k) 1 0 + times_listed k xs

-- the buffers along the links from `at` on, at most n of them
abbrev pub walk_free : (ℕ → Option ℕ) → ℕ → Option ℕ → List ℕ
walk_free next n None = []
walk_free next zero (Some k) = []
walk_free next (suc n) (Some k) = k ∷ walk_free next n (next k)

-- the buffers of the list are linked in its order, from `at` on, and each is below the number of buffers
abbrev pub AreLinkedPlaces : (ℕ → Option ℕ) → ℕ → Option ℕ → List ℕ → Type 0
AreLinkedPlaces next places at [] = at ≡ None
AreLinkedPlaces next places at (x ∷ xs) = (at ≡ Some x) × (x < places) × AreLinkedPlaces next places (next x) xs

-- the list is linked from the first buffer on, contains no buffer twice, and has this length
pub record IsFreeList (next : ℕ → Option ℕ) (places : ℕ) (first : Option ℕ) (number : ℕ) (free : List ℕ) : Type 0 where
  pub linked : AreLinkedPlaces next places first free
  pub once : (k : ℕ) → times_listed k free ≤ 1
  pub size : number ≡ length free

-- The sizes of the mbufs and clusters in which bytes are stored.
use Rattle.std.proofs.Common.{◌≡◌, ℕ, zero, suc, ◌-◌, ◌<◌, ◌≤◌, min, cond, Bool, true, false, List, [], ◌∷◌, refl, ap, ◌∙◌, arith}
use Rattle.std.specs.Prelude.{nat_le}
use Rattle.std.proofs.lemmas.Bool.{cond-true, cond-false, le-leb, lt-leb}
use Rattle.flat_model.specs.Amounts.Layout.{Room, Plain, Cluster, filled, next_room, or_empty, size_of}
use Rattle.chain_ops.specs.Stored.{rooms_for}

pub next_some : (large small left : ℕ) → 0 < large → 0 < small → 0 < left → 0 < size_of (next_room large small left)
next_some large small left l s m = go (nat_le 208 left)
  where
    go : (b : Bool) → 0 < size_of (cond b (Cluster (min left large)) (Plain (min left small)))
    go true = omega arith
    go false = omega arith

pub next_most : (large small left : ℕ) → size_of (next_room large small left) ≤ left
next_most large small left = go (nat_le 208 left)
  where
    go : (b : Bool) → size_of (cond b (Cluster (min left large)) (Plain (min left small))) ≤ left
    go true = omega arith
    go false = omega arith

fuel : (k j large small m : ℕ) → 0 < large → 0 < small → m ≤ k → m ≤ j → filled k large small m ≡ filled j large small m
unfolding filled
fuel zero zero large small m l s a b = refl
fuel zero (suc j) large small zero l s a b = refl
fuel zero (suc j) large small (suc m) l s a b = absurd (omega arith)
fuel (suc k) zero large small zero l s a b = refl
fuel (suc k) zero large small (suc m) l s a b = absurd (omega arith)
fuel (suc k) (suc j) large small zero l s a b = refl
fuel (suc k) (suc j) large small (suc m) l s a b =
    let some = next_some large small (suc m) l s (omega arith) in
    ap (λ (rooms : List Room). next_room large small (suc m) ∷ rooms)
    (fuel k j 2048 108 (suc m - size_of (next_room large small (suc m))) (omega arith) (omega arith)
    (omega (arith, some)) (omega (arith, some)))

-- the rooms for the bytes after those in the first mbuf
abbrev pub rest_rooms : ℕ → List Room
rest_rooms m = filled m 2048 108 m

pub rooms_step : (large small m : ℕ) → 0 < large → 0 < small → 0 < m
    → filled m large small m ≡ next_room large small m ∷ rest_rooms (m - size_of (next_room large small m))
unfolding filled
rooms_step large small zero l s some = absurd (omega arith)
rooms_step large small (suc m) l s some =
    let size = next_some large small (suc m) l s some in
    ap (λ (rooms : List Room). next_room large small (suc m) ∷ rooms)
    (fuel m (suc m - size_of (next_room large small (suc m))) 2048 108 (suc m - size_of (next_room large small (suc m)))
    (omega arith) (omega arith) (omega (arith, size)) (omega arith))

pub rest_none : rest_rooms 0 ≡ []
unfolding filled
rest_none = refl

-- ---- bytes that fit into one mbuf

one_room : (large n : ℕ) (room : Room) → large ≤ 56 → 0 < n → next_room (2048 - large) 100 n ≡ room → size_of room ≡ n
    → rooms_for large n ≡ room ∷ []
one_room large n room low some is size =
    let none : n - size_of room ≡ 0 = omega (arith, size) in
    ap or_empty (rooms_step (2048 - large) 100 n (omega (arith, low)) (omega arith) some)
    ∙ (λ j. or_empty (is j ∷ rest_rooms (n - size_of (is j)))) ∙ ap (λ (k : ℕ). room ∷ rest_rooms k) none
    ∙ ap (λ (rooms : List Room). room ∷ rooms) rest_none

-- in a plain mbuf
pub one_plain : (large n : ℕ) → large ≤ 56 → n ≤ 100 → rooms_for large n ≡ Plain n ∷ []
unfolding filled
one_plain large zero low few = refl
one_plain large (suc n) low few =
    let all : min (suc n) 100 ≡ suc n = omega (arith, few) in
    one_room large (suc n) (Plain (suc n)) low (omega arith)
    (cond-false {A = Room} _ _ _ (lt-leb 208 (suc n) (omega (arith, few))) ∙ ap Plain all) refl

-- in a cluster
pub one_cluster : (large n : ℕ) → large ≤ 56 → 208 ≤ n → n ≤ 2048 - large → rooms_for large n ≡ Cluster n ∷ []
one_cluster large n low many few =
    let all : min n (2048 - large) ≡ n = omega (arith, few) in
    one_room large n (Cluster n) low (omega (arith, many))
    (cond-true {A = Room} _ _ _ (le-leb 208 n many) ∙ ap Cluster all) refl

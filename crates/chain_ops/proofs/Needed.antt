-- How many buffers the bytes of a packet from the wire take.
use mir.Val.{bool_byte}
use Rattle.std.proofs.Common.{◌≡◌, ℕ, zero, suc, ◌+◌, ◌-◌, ◌<◌, ◌≤◌, min, max, Bool, true, false, cond, List, [], ◌∷◌, length, refl, sym, ap, ◌∙◌, arith}
use Rattle.std.specs.Prelude.{count_by, nat_le}
use Rattle.std.proofs.lemmas.Bool.{leb-true}
use Rattle.flat_model.specs.Amounts.Layout.{Room, Plain, Cluster, filled, is_cluster, need_of, next_room, or_empty, size_of, wire}
use Rattle.flat_model.proofs.Laws.{count_cons}
use Rattle.chain_ops.proofs.Laws.Rooms.{next_some, next_most, rest_rooms, rooms_step}

pub none_left : (small : ℕ) → filled 0 2048 small 0 ≡ []
unfolding filled
none_left small = refl

-- an empty packet takes one mbuf
pub need_is : (n : ℕ) → need_of (wire n)
    ≡ record { mbufs = max (length (filled n 2048 100 n)) 1; clusters = count_by is_cluster (filled n 2048 100 n) }
need_is n = go (filled n 2048 100 n)
  where
    go : (rooms : List Room) → need_of (or_empty rooms)
        ≡ record { mbufs = max (length rooms) 1; clusters = count_by is_cluster rooms }
    go [] = refl
    go (room ∷ rooms) = let m : length (room ∷ rooms) ≡ max (length (room ∷ rooms)) 1 = omega arith in
        λ i. record { mbufs = m i; clusters = count_by is_cluster (room ∷ rooms) }

pub record IsNext (small left size cluster : ℕ) : Type 0 where
  pub some : 0 < size
  pub most : size ≤ left
  pub one : cluster ≤ 1
  pub mbufs : length (filled left 2048 small left) ≡ 1 + length (filled (left - size) 2048 108 (left - size))
  pub clusters : count_by is_cluster (filled left 2048 small left)
      ≡ cluster + count_by is_cluster (filled (left - size) 2048 108 (left - size))

pub next_is : (small left size cluster : ℕ) → 0 < small → 0 < left → size ≡ size_of (next_room 2048 small left)
    → cluster ≡ cond (is_cluster (next_room 2048 small left)) 1 0 → IsNext small left size cluster
next_is small left size cluster s l is_size is_one =
    let rooms : filled left 2048 small left ≡ next_room 2048 small left ∷ filled (left - size) 2048 108 (left - size) =
    rooms_step 2048 small left (omega arith) s l
    ∙ ap (λ (k : ℕ). next_room 2048 small left ∷ rest_rooms (left - k)) (sym is_size) in
    record {
      some = omega (arith, is_size, next_some 2048 small left (omega arith) s l);
      most = omega (arith, is_size, next_most 2048 small left);
      one = omega (arith, is_one, at_most (is_cluster (next_room 2048 small left)));
      mbufs = omega (arith, ap (λ (x : List Room). length x) rooms);
      clusters =
          omega (
            arith,
            is_one,
            ap (count_by is_cluster) rooms,
            count_cons is_cluster (next_room 2048 small left) (filled (left - size) 2048 108 (left - size)),
          );
    }
  where
    at_most : (b : Bool) → cond {A = ℕ} b 1 0 ≤ 1
    at_most true = omega arith
    at_most false = omega arith

-- how many clusters the next mbuf takes
pub cluster_is : (small left : ℕ) (b : Bool) → b ≡ nat_le 208 left
    → bool_byte b ≡ cond {A = ℕ} (is_cluster (next_room 2048 small left)) 1 0
cluster_is small left b e = ap bool_byte e ∙ go (nat_le 208 left)
  where
    go : (t : Bool) → bool_byte t ≡ cond {A = ℕ}
        (is_cluster (cond t (Cluster (min left 2048)) (Plain (min left small)))) 1 0
    go true = refl
    go false = refl

small_room : (n : ℕ) → n ≤ 100 → next_room 2048 100 n ≡ Plain n
small_room n few = go (nat_le 208 n) refl
  where
    go : (b : Bool) → nat_le 208 n ≡ b → cond b (Cluster (min n 2048)) (Plain (min n 100)) ≡ Plain n
    go true e = let large : 208 ≤ n = leb-true 208 n e in absurd (omega arith)
    go false e = let all : min n 100 ≡ n = omega arith in ap Plain all

-- a short packet
pub small_need : (n : ℕ) → n ≤ 100 → need_of (wire n) ≡ record { mbufs = 1; clusters = 0 }
small_need zero few =
    need_is zero ∙ ap (λ (rooms : List Room). record
    { mbufs = max (length rooms) 1; clusters = count_by is_cluster rooms }) (none_left 100)
small_need (suc n) few =
    let room : next_room 2048 100 (suc n) ≡ Plain (suc n) = small_room (suc n) few in
    let next : IsNext 100 (suc n) (suc n) 0 =
    next_is 100 (suc n) (suc n) 0 (omega arith) (omega arith) (sym (ap size_of room))
    (sym (ap (λ (r : Room). cond {A = ℕ} (is_cluster r) 1 0) room)) in
    let left : suc n - suc n ≡ 0 = omega arith in
    let none : filled (suc n - suc n) 2048 108 (suc n - suc n) ≡ [] =
    ap (λ (k : ℕ). filled k 2048 108 k) left ∙ none_left 108 in
    let mbufs : max (length (filled (suc n) 2048 100 (suc n))) 1 ≡ 1 =
    omega (arith, next.mbufs, ap (λ (rooms : List Room). length rooms) none) in
    let clusters : count_by is_cluster (filled (suc n) 2048 100 (suc n)) ≡ 0 =
    omega (arith, next.clusters, ap (count_by is_cluster) none) in
    need_is (suc n) ∙ (λ i. record { mbufs = mbufs i; clusters = clusters i })

-- a packet that isn't empty takes at least one mbuf
pub some_mbuf : (n : ℕ) → 0 < n → 0 < length (filled n 2048 100 n)
some_mbuf n some =
    let next : IsNext 100 n (size_of (next_room 2048 100 n)) (cond (is_cluster (next_room 2048 100 n)) 1 0) =
    next_is 100 n _ _ (omega arith) some refl refl in
    omega (arith, next.mbufs)

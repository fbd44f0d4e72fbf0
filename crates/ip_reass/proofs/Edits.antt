-- Edits of lists, and entries without their first bytes.
use Rattle.std.proofs.Common.{◌≡◌, ℕ, zero, suc, ◌-◌, ◌<◌, List, [], ◌∷◌, ◌++◌, length, map, filter_map, get_or, set, take, drop, insert, remove, swap, refl, sym, ap, ◌∙◌, arith}
use Rattle.std.proofs.lemmas.List.{get_or_push, length_push, take_at}
use Rattle.std.specs.List.{cons_option}
use Rattle.mbuf_chain.specs.Chain.{Entry}
use Rattle.chain_ops.specs.Trims.{without_first}
use Rattle.ledger.specs.Accounts.{entries_weight}

-- ---- edits
module _ {X : Type 0} where
  pub insert_remove : (xs : List X) (i : ℕ) (y : X) → i < length xs → insert (remove xs i) i y ≡ set xs i y
  insert_remove [] i y l = absurd (omega arith)
  insert_remove (x ∷ xs) zero y l = refl
  insert_remove (x ∷ xs) (suc i) y l = ap (λ (zs : List X). x ∷ zs) (insert_remove xs i y (omega arith))

  pub take-remove : (xs : List X) (i : ℕ) → i < length xs → take i (remove xs i) ≡ take i xs
  take-remove [] i l = absurd (omega arith)
  take-remove (x ∷ xs) zero l = refl
  take-remove (x ∷ xs) (suc i) l = ap (λ (zs : List X). x ∷ zs) (take-remove xs i (omega arith))

  pub drop-remove : (xs : List X) (i : ℕ) → i < length xs → drop i (remove xs i) ≡ drop (suc i) xs
  drop-remove [] i l = absurd (omega arith)
  drop-remove (x ∷ xs) zero l = refl
  drop-remove (x ∷ xs) (suc i) l = drop-remove xs i (omega arith)

  moved : (xs : List X) (i : ℕ) (x d e : X) → i < length xs
      → set (set (insert xs i x) i (get_or (insert xs i x) (suc i) d)) (suc i) (get_or (insert xs i x) i e)
      ≡ insert xs (suc i) x
  moved [] i x d e l = absurd (omega arith)
  moved (z ∷ xs) zero x d e l = refl
  moved (z ∷ xs) (suc i) x d e l = ap (λ (zs : List X). z ∷ zs) (moved xs i x d e (omega arith))

  -- an inserted element is swapped with the next one
  pub swap-insert : (xs : List X) (i : ℕ) (x : X) → i < length xs
      → swap (insert xs i x) i (suc i) ≡ insert xs (suc i) x
  swap-insert [] i x l = absurd (omega arith)
  swap-insert (z ∷ xs) zero x l = refl
  swap-insert (z ∷ xs) (suc i) x l = ap (λ (zs : List X). z ∷ zs) (moved xs i x z z (omega arith))

  pub insert_end : (xs : List X) (i : ℕ) (x : X) → i ≡ length xs → insert xs i x ≡ xs ++ x ∷ []
  insert_end [] zero x e = refl
  insert_end [] (suc i) x e = absurd (omega arith)
  insert_end (z ∷ xs) zero x e = absurd (omega arith)
  insert_end (z ∷ xs) (suc i) x e = ap (λ (zs : List X). z ∷ zs) (insert_end xs i x (omega arith))

  pub insert_back : (xs : List X) (i : ℕ) (d : X) → i < length xs → insert (remove xs i) i (get_or xs i d) ≡ xs
  insert_back [] i d l = absurd (omega arith)
  insert_back (x ∷ xs) zero d l = refl
  insert_back (x ∷ xs) (suc i) d l = ap (λ (zs : List X). x ∷ zs) (insert_back xs i d (omega arith))

  pub last_same : (xs ys : List X) (x y : X) → xs ++ x ∷ [] ≡ ys ++ y ∷ [] → (xs ≡ ys) × (x ≡ y)
  last_same xs ys x y e =
      let n = length xs in
      let same : length ys ≡ n =
      omega (arith, ap (λ (zs : List X). length zs) e, length_push xs x, length_push ys y) in (
        sym (take_at xs (x ∷ []) n refl) ∙ ap (take n) e ∙ take_at ys (y ∷ []) n same,
        sym (get_or_push xs x x n refl) ∙ ap (λ (zs : List X). get_or zs n x) e ∙ get_or_push ys y x n same,
      )

  pub map-remove : {Y : Type 0} (f : X → Y) (xs : List X) (i : ℕ) → map f (remove xs i) ≡ remove (map f xs) i
  map-remove f [] zero = refl
  map-remove f [] (suc i) = refl
  map-remove f (x ∷ xs) zero = refl
  map-remove f (x ∷ xs) (suc i) = ap (λ zs. f x ∷ zs) (map-remove f xs i)

  pub map-insert : {Y : Type 0} (f : X → Y) (xs : List X) (i : ℕ) (y : X)
      → map f (insert xs i y) ≡ insert (map f xs) i (f y)
  map-insert f xs zero y = refl
  map-insert f [] (suc i) y = refl
  map-insert f (x ∷ xs) (suc i) y = ap (λ zs. f x ∷ zs) (map-insert f xs i y)

-- ---- trimming
trimmed_mbufs : (n : ℕ) (es : List Entry) → length (without_first n es) ≡ length es
trimmed_mbufs n [] = refl
trimmed_mbufs n (e ∷ es) = ap suc (trimmed_mbufs (n - length e.bytes) es)

trimmed_bag : (n : ℕ) (es : List Entry)
    → filter_map (λ (e : Entry). e.cluster) (without_first n es) ≡ filter_map (λ (e : Entry). e.cluster) es
trimmed_bag n [] = refl
trimmed_bag n (e ∷ es) = ap (cons_option e.cluster) (trimmed_bag (n - length e.bytes) es)

-- trimming frees no mbuf, so the weight is unchanged
pub weight_trimmed : (n : ℕ) (es : List Entry) → entries_weight (without_first n es) ≡ entries_weight es
weight_trimmed n es = λ i. record { mbufs = trimmed_mbufs n es i; bag = trimmed_bag n es i }

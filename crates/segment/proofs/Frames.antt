-- Frames and what they carry.
use Rattle.std.proofs.Common.{◌≡◌, ◌≢◌, ℕ, ◌+◌, ◌<◌, Bool, true, false, not, List, [], ◌∷◌, ◌++◌, length, map, take, drop, get_or, zero, suc, Some, refl, sym, ap, ◌∙◌, cond, subst, eq-eqb, arith}
use Rattle.std.specs.Prelude.{◌==◌, filter, nat_lt, slice_get, slice_set, slice_index_or, swap, remove}
use Rattle.std.proofs.lemmas.Bool.{ne_eqb}
use Rattle.std.proofs.lemmas.List.{append-nil, map-append, take_more}
use Rattle.std.proofs.lemmas.List.Elements.{filter-append}
use Rattle.rand_pcg.specs.Lcg.{Lcg}
use Rattle.segment.specs.Chances.{chances_at, drawn, reorder_at, shuffled_from}
use Rattle.segment.specs.Flying.{Flying, flying_aged, is_due, is_early}
use Rattle.segment.specs.Inside.{flying}
use Rattle.segment.specs.declared.chances.Chances.{Chances}
use Rattle.segment.specs.declared.frame.Frame.{Frame}

module _ {X Y : Type 0} (f : X → Y) where
  pub map_set : (xs : List X) (i : ℕ) (v : X) → map f (slice_set xs i v) ≡ slice_set (map f xs) i (f v)
  map_set [] i v = refl
  map_set (x ∷ xs) zero v = refl
  map_set (x ∷ xs) (suc i) v = ap (λ ys. f x ∷ ys) (map_set xs i v)

  map_at : (xs : List X) (i : ℕ) (d : X) (e : Y) → i < length xs
      → slice_index_or (map f xs) i e ≡ f (slice_index_or xs i d)
  map_at [] i d e h = absurd (omega arith)
  map_at (x ∷ xs) zero d e h = refl
  map_at (x ∷ xs) (suc i) d e h = map_at xs i d e (omega arith)

  pub map_swap : (xs : List X) (i j : ℕ) → i < length xs → j < length xs → map f (swap xs i j) ≡ swap (map f xs) i j
  map_swap [] i j h k = refl
  map_swap (d ∷ ys) i j h k =
      map_set (slice_set (d ∷ ys) i (slice_index_or (d ∷ ys) j d)) j (slice_index_or (d ∷ ys) i d)
      ∙ ap (λ zs. slice_set zs j (f (slice_index_or (d ∷ ys) i d))) (map_set (d ∷ ys) i (slice_index_or (d ∷ ys) j d))
      ∙ ap (λ v. slice_set (slice_set (map f (d ∷ ys)) i (f (slice_index_or (d ∷ ys) j d))) j v)
      (sym (map_at (d ∷ ys) i d (f d) h))
      ∙ ap (λ v. slice_set (slice_set (map f (d ∷ ys)) i v) j (slice_index_or (map f (d ∷ ys)) i (f d)))
      (sym (map_at (d ∷ ys) j d (f d) k))

  map_take : (n : ℕ) (xs : List X) → map f (take n xs) ≡ take n (map f xs)
  map_take zero xs = refl
  map_take (suc n) [] = refl
  map_take (suc n) (x ∷ xs) = ap (λ ys. f x ∷ ys) (map_take n xs)

  map_drop : (n : ℕ) (xs : List X) → map f (drop n xs) ≡ drop n (map f xs)
  map_drop zero xs = refl
  map_drop (suc n) [] = refl
  map_drop (suc n) (x ∷ xs) = map_drop n xs

  pub map_remove : (xs : List X) (i : ℕ) → map f (remove xs i) ≡ remove (map f xs) i
  map_remove xs i =
      map-append f (take i xs) (drop (suc i) xs) ∙ ap (λ ys. ys ++ map f (drop (suc i) xs)) (map_take i xs)
      ∙ ap (λ ys. take i (map f xs) ++ ys) (map_drop (suc i) xs)

  pub map_get : (xs : List X) (i : ℕ) (x : X) → i < length xs → x ≡ get_or xs i x → slice_get (map f xs) i ≡ Some (f x)
  map_get [] i x h e = absurd (omega arith)
  map_get (y ∷ xs) zero x h e = ap (λ z. Some (f z)) (sym e)
  map_get (y ∷ xs) (suc i) x h e = map_get xs i x (omega arith) e

-- ---- those that are due, and the others

next_frames : (all : List Frame) (i : ℕ) (frame : Frame) → i < length all → frame ≡ get_or all i frame
    → map flying (take (i + 1) all) ≡ map flying (take i all) ++ flying frame ∷ []
next_frames all i frame h is =
    ap (map flying) (take_more all i frame h ∙ ap (λ (f : Frame). take i all ++ f ∷ []) (sym is))
    ∙ map-append flying (take i all) (frame ∷ [])

-- what of the first frames is due, and the others a carry older
pub record Parted (all : List Frame) (i : ℕ) (now later : List Frame) : Type 0 where
  pub due : map flying now ≡ filter is_due (map flying (take i all))
  pub early : map flying later ≡ map flying_aged (filter is_early (map flying (take i all)))

pub none_parted : (all due early : List Frame) → due ≡ [] → early ≡ [] → Parted all 0 due early
none_parted all due early d e = record { due = ap (map flying) d; early = ap (map flying) e }

module _ (all due early : List Frame) (i : ℕ) (frame : Frame) (within : i < length all)
    (is : frame ≡ get_or all i frame) (so_far : Parted all i due early) where
  by_wait : (b : Bool) → (frame.wait == 0) ≡ b
      → (filter is_due (flying frame ∷ []) ≡ cond b (flying frame ∷ []) [])
      × (filter is_early (flying frame ∷ []) ≡ cond b [] (flying frame ∷ []))
  by_wait true e =
      (ap (λ (t : Bool). cond t (flying frame ∷ []) []) e, ap (λ (t : Bool). cond (not t) (flying frame ∷ []) []) e)
  by_wait false e =
      (ap (λ (t : Bool). cond t (flying frame ∷ []) []) e, ap (λ (t : Bool). cond (not t) (flying frame ∷ []) []) e)

  due_more : filter is_due (map flying (take (i + 1) all))
      ≡ filter is_due (map flying (take i all)) ++ filter is_due (flying frame ∷ [])
  due_more =
      ap (filter is_due) (next_frames all i frame within is)
      ∙ filter-append is_due (map flying (take i all)) (flying frame ∷ [])

  early_more : map flying_aged (filter is_early (map flying (take (i + 1) all)))
      ≡ map flying_aged (filter is_early (map flying (take i all)))
      ++ map flying_aged (filter is_early (flying frame ∷ []))
  early_more =
      ap (λ fs. map flying_aged (filter is_early fs)) (next_frames all i frame within is)
      ∙ ap (map flying_aged) (filter-append is_early (map flying (take i all)) (flying frame ∷ []))
      ∙ map-append flying_aged (filter is_early (map flying (take i all))) (filter is_early (flying frame ∷ []))

  pub one_due : (frame.wait == 0) ≡ true → Parted all (i + 1) (due ++ frame ∷ []) early
  one_due e =
      let one = by_wait true e in
      record {
        due =
            map-append flying due (frame ∷ []) ∙ ap (λ fs. fs ++ flying frame ∷ []) so_far.due
            ∙ ap (λ fs. filter is_due (map flying (take i all)) ++ fs) (sym one.0) ∙ sym due_more;
        early =
            so_far.early ∙ sym (append-nil (map flying_aged (filter is_early (map flying (take i all)))))
            ∙ ap (λ fs. map flying_aged (filter is_early (map flying (take i all))) ++ map flying_aged fs) (sym one.1)
            ∙ sym early_more;
      }

  pub one_early : (older : Frame) → flying older ≡ flying_aged (flying frame) → (frame.wait == 0) ≡ false
      → Parted all (i + 1) due (early ++ older ∷ [])
  one_early older aging e =
      let one = by_wait false e in
      record {
        due =
            so_far.due ∙ sym (append-nil (filter is_due (map flying (take i all))))
            ∙ ap (λ fs. filter is_due (map flying (take i all)) ++ fs) (sym one.0) ∙ sym due_more;
        early =
            map-append flying early (older ∷ []) ∙ ap (λ fs. fs ++ flying older ∷ []) so_far.early
            ∙ ap (λ f. map flying_aged (filter is_early (map flying (take i all))) ++ f ∷ []) aging
            ∙ ap (λ fs. map flying_aged (filter is_early (map flying (take i all))) ++ map flying_aged fs) (sym one.1)
            ∙ sym early_more;
      }

  -- the same, of lists that are so
  pub then_due : (now later : List Frame) → frame.wait ≡ 0 → now ≡ due ++ frame ∷ [] → later ≡ early
      → Parted all (i + 1) now later
  then_due now later e one same =
      subst (λ xs. Parted all (i + 1) xs later) (sym one)
      (subst (λ ys. Parted all (i + 1) (due ++ frame ∷ []) ys) (sym same) (one_due (eq-eqb frame.wait 0 e)))

  pub then_early : (now later : List Frame) (older : Frame) → frame.wait ≢ 0 → flying older ≡ flying_aged (flying frame)
      → later ≡ early ++ older ∷ [] → now ≡ due → Parted all (i + 1) now later
  then_early now later older e aging one same =
      subst (λ xs. Parted all (i + 1) xs later) (sym same)
      (subst (λ ys. Parted all (i + 1) due ys) (sym one) (one_early older aging (ne_eqb frame.wait 0 e)))

-- ---- one more pair of neighbours

pub shuffled_next : (chances : List Chances) (n m place : ℕ) (due new : List Frame) (frame : Frame) (g h : Lcg)
    (turned : Bool) (all : List Flying × Lcg) → m ≡ suc n → place + 1 < length due
    → frame ≡ get_or due place frame → turned ≡ nat_lt (drawn g).0 (chances_at chances frame.sender).reorder
    → h ≡ (drawn g).1 → new ≡ cond turned (swap due place (place + 1)) due
    → shuffled_from chances m place (map flying due) g ≡ all
    → shuffled_from chances n (place + 1) (map flying new) h ≡ all
shuffled_next chances n m place due new frame g h turned all more within is turn after now before =
    let fs : List Flying = map flying due in
    let limit : reorder_at chances (slice_get fs place) ≡ (chances_at chances frame.sender).reorder =
    ap (reorder_at chances) (map_get flying due place frame (omega arith) is) in
    let test : nat_lt (drawn g).0 (reorder_at chances (slice_get fs place)) ≡ turned =
    ap (nat_lt (drawn g).0) limit ∙ sym turn in
    ap (λ (k : Lcg). shuffled_from chances n (place + 1) (map flying new) k) after
    ∙ ap (λ (xs : List Frame). shuffled_from chances n (place + 1) (map flying xs) (drawn g).1) now
    ∙ ap (λ (ys : List Flying). shuffled_from chances n (place + 1) ys (drawn g).1)
    (go turned ∙ ap (λ (b : Bool). cond b (swap fs place (place + 1)) fs) (sym test))
    ∙ ap (λ k. shuffled_from chances k place fs g) (sym more)
    ∙ before
  where
    go : (b : Bool) → map flying (cond b (swap due place (place + 1)) due)
        ≡ cond b (swap (map flying due) place (place + 1)) (map flying due)
    go true = map_swap flying due place (place + 1) (omega arith) within
    go false = refl

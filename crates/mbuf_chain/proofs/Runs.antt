-- The links of a train: chains linked in order, after one is inserted, and after one is removed.
use Rattle.std.proofs.Common.{◌≡◌, ℕ, zero, suc, ◌<◌, List, [], ◌∷◌, ◌++◌, length, take, drop, Option, Some, None, slice_get, refl, sym, ap, ◌∙◌, subst, arith}
use Rattle.std.specs.List.{insert, remove}
use Rattle.std.proofs.lemmas.Option.{none-some, same_Some}
use Rattle.mbuf_chain.specs.Chain.{PoolView, chain_of}
use Rattle.mbuf_chain.specs.Owners.{times_among}
use Rattle.mbuf_chain.specs.Train.{follow, last_number}
use Rattle.mbuf_chain.proofs.Laws.Owners.{times_same}

-- the chains are linked in this order, from `at` on, and the last to none
abbrev pub IsRun : PoolView → Option ℕ → List ℕ → Type 0
IsRun p at [] = at ≡ None
IsRun p at (x ∷ xs) = (at ≡ Some x) × IsRun p (chain_of p x).front.after xs

pub run_follow : (p : PoolView) (at : Option ℕ) (xs : List ℕ) → IsRun p at xs → follow p (length xs) at ≡ xs
run_follow p at [] h = refl
run_follow p at (x ∷ xs) h =
    ap (follow p (suc (length xs))) h.0 ∙ ap (λ (ys : List ℕ). x ∷ ys) (run_follow p (chain_of p x).front.after xs h.1)

pub run_ends : (p : PoolView) (at : Option ℕ) (xs : List ℕ) → IsRun p at xs → follow p (suc (length xs)) at ≡ xs
run_ends p at [] h = ap (follow p 1) h
run_ends p at (x ∷ xs) h =
    ap (follow p (suc (suc (length xs)))) h.0
    ∙ ap (λ (ys : List ℕ). x ∷ ys) (run_ends p (chain_of p x).front.after xs h.1)

pub run_of : (p : PoolView) (n : ℕ) (at : Option ℕ) → length (follow p n at) ≡ n → follow p (suc n) at ≡ follow p n at
    → IsRun p at (follow p n at)
run_of p zero None e ends = refl
run_of p zero (Some c) e ends = absurd (omega (arith, ap length ends))
run_of p (suc n) None e ends = absurd (omega arith)
run_of p (suc n) (Some c) e ends =
    (refl, run_of p n (chain_of p c).front.after (omega arith) (ap (λ (xs : List ℕ). drop 1 xs) ends))

-- the links of these chains are unchanged
pub record SameLinks (p q : PoolView) (xs : List ℕ) : Type 0 where
  pub after : (k : ℕ) → 0 < times_among k xs → (chain_of q k).front.after ≡ (chain_of p k).front.after

pub run_same : (p q : PoolView) (at : Option ℕ) (xs : List ℕ) → SameLinks p q xs → IsRun p at xs → IsRun q at xs
run_same p q at [] s h = h
run_same p q at (x ∷ xs) s h =
    let below : IsRun q (chain_of p x).front.after xs =
    run_same p q (chain_of p x).front.after xs (record { after = λ k l. s.after k (omega (arith, l)) }) h.1 in
    (h.0, subst (λ (o : Option ℕ). IsRun q o xs) (sym (s.after x (omega (arith, times_same x xs)))) below)

-- chain b is now linked to c, and c to the chain that followed b
pub run_with : (p q : PoolView) (at : Option ℕ) (us : List ℕ) (b c : ℕ) (zs : List ℕ)
    → IsRun p at ((us ++ b ∷ []) ++ zs) → SameLinks p q us → SameLinks p q zs
    → (chain_of q b).front.after ≡ Some c → (chain_of q c).front.after ≡ (chain_of p b).front.after
    → IsRun q at ((us ++ b ∷ []) ++ c ∷ zs)
run_with p q at [] b c zs h su sz eb ec =
    (h.0, (eb, subst (λ (o : Option ℕ). IsRun q o zs) (sym ec) (run_same p q (chain_of p b).front.after zs sz h.1)))
run_with p q at (u ∷ us) b c zs h su sz eb ec =
    let below : IsRun q (chain_of p u).front.after ((us ++ b ∷ []) ++ c ∷ zs) =
    run_with p q (chain_of p u).front.after us b c zs h.1 (record { after = λ k l. su.after k (omega (arith, l)) }) sz
    eb ec in (
      h.0,
      subst (λ (o : Option ℕ). IsRun q o ((us ++ b ∷ []) ++ c ∷ zs))
          (sym (su.after u (omega (arith, times_same u us)))) below,
    )

-- chain b is now linked to the chain that followed c
pub run_without : (p q : PoolView) (at : Option ℕ) (us : List ℕ) (b c : ℕ) (zs : List ℕ)
    → IsRun p at ((us ++ b ∷ []) ++ c ∷ zs) → SameLinks p q us → SameLinks p q zs
    → (chain_of q b).front.after ≡ (chain_of p c).front.after → IsRun q at ((us ++ b ∷ []) ++ zs)
run_without p q at [] b c zs h su sz eb =
    (h.0, subst (λ (o : Option ℕ). IsRun q o zs) (sym eb) (run_same p q (chain_of p c).front.after zs sz h.1.1))
run_without p q at (u ∷ us) b c zs h su sz eb =
    let below : IsRun q (chain_of p u).front.after ((us ++ b ∷ []) ++ zs) =
    run_without p q (chain_of p u).front.after us b c zs h.1 (record { after = λ k l. su.after k (omega (arith, l)) })
    sz eb in (
      h.0,
      subst (λ (o : Option ℕ). IsRun q o ((us ++ b ∷ []) ++ zs)) (sym (su.after u (omega (arith, times_same u us))))
          below,
    )

-- the last chain of a run is linked to the chain after the run
pub run_next : (p : PoolView) (at : Option ℕ) (us : List ℕ) (b c : ℕ) (zs : List ℕ)
    → IsRun p at ((us ++ b ∷ []) ++ c ∷ zs) → (chain_of p b).front.after ≡ Some c
run_next p at [] b c zs h = h.1.0
run_next p at (u ∷ us) b c zs h = run_next p (chain_of p u).front.after us b c zs h.1

-- ---- the last of a list, and a list split at a place
pub last-append : (ys : List ℕ) (z : ℕ) (zs : List ℕ) → last_number (ys ++ z ∷ zs) ≡ last_number (z ∷ zs)
last-append [] z zs = refl
last-append (y ∷ []) z zs = refl
last-append (y ∷ x ∷ ys) z zs = last-append (x ∷ ys) z zs

pub last_is : (xs : List ℕ) (n : ℕ) → length xs ≡ suc n → slice_get xs n ≡ last_number xs
last_is [] n e = absurd (omega arith)
last_is (x ∷ []) zero e = refl
last_is (x ∷ []) (suc n) e = absurd (omega arith)
last_is (x ∷ y ∷ ys) zero e = absurd (omega arith)
last_is (x ∷ y ∷ ys) (suc n) e = last_is (y ∷ ys) n (omega arith)

-- an element before a place doesn't depend on the elements after it
pub get_front : (ys zs ws : List ℕ) (k : ℕ) → k < length ys → slice_get (ys ++ zs) k ≡ slice_get (ys ++ ws) k
get_front [] zs ws k h = absurd (omega arith)
get_front (y ∷ ys) zs ws zero h = refl
get_front (y ∷ ys) zs ws (suc k) h = get_front ys zs ws k (omega arith)

pub times_get : (xs : List ℕ) (i c : ℕ) → slice_get xs i ≡ Some c → 0 < times_among c xs
times_get [] i c e = absurd (none-some c e)
times_get (x ∷ xs) zero c e =
    subst (λ (j : ℕ). 0 < times_among c (j ∷ xs)) (sym (same_Some x c e)) (omega (arith, times_same c xs))
times_get (x ∷ xs) (suc i) c e = omega (arith, times_get xs i c e)

pub times_twice : (xs : List ℕ) (i c : ℕ) → slice_get xs i ≡ Some c → slice_get xs (suc i) ≡ Some c
    → 1 < times_among c xs
times_twice [] i c e f = absurd (none-some c e)
times_twice (x ∷ xs) zero c e f =
    subst (λ (j : ℕ). 1 < times_among c (j ∷ xs)) (sym (same_Some x c e))
    (omega (arith, times_same c xs, times_get xs zero c f))
times_twice (x ∷ xs) (suc i) c e f = omega (arith, times_twice xs i c e f)

-- a run from chain c on: the place of c in the list, and the run after c
pub record Passing (p : PoolView) (c : ℕ) (xs : List ℕ) (i : ℕ) : Type 0 where
  pub stands : slice_get xs i ≡ Some c
  pub rest : IsRun p (chain_of p c).front.after (drop (suc i) xs)

pub passing : (p : PoolView) (c : ℕ) (xs : List ℕ) (i : ℕ) → i < length xs → IsRun p (Some c) (drop i xs)
    → Passing p c xs i
passing p c [] i h r = absurd (omega arith)
passing p c (x ∷ xs) zero h r =
    record {
      stands = sym r.0;
      rest = subst (λ (k : ℕ). IsRun p (chain_of p k).front.after xs) (same_Some x c (sym r.0))
          r.1;
    }
passing p c (x ∷ xs) (suc i) h r =
    let below = passing p c xs i (omega arith) r in
    record { stands = below.stands; rest = below.rest }

-- a run that isn't at its end has a next chain
pub run_there : {A : Type 0} (p : PoolView) (at : Option ℕ) (xs : List ℕ) (i : ℕ) → i < length xs
    → IsRun p at (drop i xs) → at ≡ None → A
run_there p at [] i h r e = absurd (omega arith)
run_there p at (x ∷ xs) zero h r e = absurd (none-some x (sym e ∙ r.0))
run_there p at (x ∷ xs) (suc i) h r e = run_there p at xs i (omega arith) r e

pub record Split (xs : List ℕ) (i b : ℕ) : Type 0 where
  pub front : List ℕ
  pub back : List ℕ
  pub all : xs ≡ (front ++ b ∷ []) ++ back
  pub place : length (front ++ b ∷ []) ≡ suc i

pub split_at : (xs : List ℕ) (i b : ℕ) → slice_get xs i ≡ Some b → Split xs i b
split_at [] i b e = absurd (none-some b e)
split_at (x ∷ xs) zero b e =
    record { front = []; back = xs; all = ap (λ (y : ℕ). y ∷ xs) (same_Some x b e); place = refl }
split_at (x ∷ xs) (suc i) b e =
    let below = split_at xs i b e in
    record {
      front = x ∷ below.front;
      back = below.back;
      all = ap (λ (ys : List ℕ). x ∷ ys) below.all;
      place = ap suc below.place;
    }

module _ {X : Type 0} where
  take_front : (ys zs : List X) → take (length ys) (ys ++ zs) ≡ ys
  take_front [] zs = refl
  take_front (y ∷ ys) zs = ap (λ (xs : List X). y ∷ xs) (take_front ys zs)

  drop_front : (ys zs : List X) → drop (length ys) (ys ++ zs) ≡ zs
  drop_front [] zs = refl
  drop_front (y ∷ ys) zs = drop_front ys zs

  drop_one : (ys : List X) (z : X) (zs : List X) → drop (suc (length ys)) (ys ++ z ∷ zs) ≡ zs
  drop_one [] z zs = refl
  drop_one (y ∷ ys) z zs = drop_one ys z zs

  pub insert-append : (ys zs : List X) (i : ℕ) (x : X) → length ys ≡ i → insert (ys ++ zs) i x ≡ ys ++ x ∷ zs
  insert-append ys zs i x e =
      subst (λ (n : ℕ). take n (ys ++ zs) ++ x ∷ drop n (ys ++ zs) ≡ ys ++ x ∷ zs) e
      (ap (λ (us : List X). us ++ x ∷ drop (length ys) (ys ++ zs)) (take_front ys zs)
      ∙ ap (λ (vs : List X). ys ++ x ∷ vs) (drop_front ys zs))

  pub remove-append : (ys zs : List X) (i : ℕ) (x : X) → length ys ≡ i → remove (ys ++ x ∷ zs) i ≡ ys ++ zs
  remove-append ys zs i x e =
      subst (λ (n : ℕ). take n (ys ++ x ∷ zs) ++ drop (suc n) (ys ++ x ∷ zs) ≡ ys ++ zs) e
      (ap (λ (us : List X). us ++ drop (suc (length ys)) (ys ++ x ∷ zs)) (take_front ys (x ∷ zs))
      ∙ ap (λ (vs : List X). ys ++ vs) (drop_one ys x zs))

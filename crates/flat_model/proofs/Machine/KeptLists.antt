-- Lists in the proof that the machine keeps its invariant: counts, mbufs, and matching sockets.
use Rattle.std.proofs.Common.{◌≡◌, ℕ, ◌+◌, ◌≤◌, Bool, true, false, List, [], ◌∷◌, ◌++◌, map, refl, sym, ◌∙◌, ap, eq-eqb, arith, Option, Some, None, cond}
use Rattle.std.specs.Prelude.{◌==◌, not, count_by, find, filter, ⊤, option_to_list}
use Rattle.std.specs.List.{AllByRecursion as Each}
use Rattle.std.proofs.lemmas.Bool.{eqb-false, ne_eqb}
use Rattle.std.proofs.lemmas.Option.{none-some, same_Some}
use Rattle.flat_model.specs.declared.lookup_key.LookupKey.{LookupKey}
use Rattle.flat_model.specs.Amounts.Weight.{Weight, all_of}
use Rattle.flat_model.specs.Machine.State.{State, Socket, socket_at}
use Rattle.flat_model.specs.Machine.Arrival as Arrival
use Rattle.flat_model.specs.Sockets.Lookup.{best, receivers, matches, up_to_first}
use Rattle.std.specs.Option.{option_or}
use Rattle.flat_model.proofs.Lists.Each.{each-both, each-weaker, each-filter, each-find}
use Rattle.flat_model.proofs.Lists.Totals.{count_cons}

-- ---- counts in lists

pub count-map : {X : Type 0} (p : X → Bool) (f : X → X) → ((x : X) → p (f x) ≡ p x) → (xs : List X)
    → count_by p (map f xs) ≡ count_by p xs
count-map p f same [] = refl
count-map p f same (x ∷ xs) =
    let here : cond {A = ℕ} (p (f x)) 1 0 ≡ cond (p x) 1 0 = ap (λ b. cond {A = ℕ} b 1 0) (same x) in
    let rest = count-map p f same xs in
    omega (arith, count_cons p (f x) (map f xs), count_cons p x xs)

pub count-same : {X : Type 0} (p q : X → Bool) → ((x : X) → p x ≡ q x) → (xs : List X) → count_by p xs ≡ count_by q xs
count-same p q same [] = refl
count-same p q same (x ∷ xs) =
    let here : cond {A = ℕ} (p x) 1 0 ≡ cond (q x) 1 0 = ap (λ b. cond {A = ℕ} b 1 0) (same x) in
    let rest = count-same p q same xs in
    omega (arith, count_cons p x xs, count_cons q x xs)

pub count-filter : {X : Type 0} (p q : X → Bool) (xs : List X) → count_by p (filter q xs) ≤ count_by p xs
count-filter p q [] = omega arith
count-filter p q (x ∷ xs) = go (q x) (count-filter p q xs)
  where
    go : (b : Bool) → count_by p (filter q xs) ≤ count_by p xs
        → count_by p (cond b (x ∷ filter q xs) (filter q xs)) ≤ count_by p (x ∷ xs)
    go true le = omega (arith, count_cons p x (filter q xs), count_cons p x xs)
    go false le = omega (arith, count_cons p x xs)

pub no : {A : Type 0} → false ≡ true → A
no e = absurd (never e)
  where
    never : false ≡ true → ⊥
    never e = cc

pub none_found : {X : Type 0} (p : X → Bool) (xs : List X) → find p xs ≡ None → count_by p xs ≡ 0
none_found p [] e = refl
none_found p (x ∷ xs) e = go (p x) refl (none_found p xs) e (count_cons p x xs)
  where
    go : (b : Bool) → p x ≡ b → (find p xs ≡ None → count_by p xs ≡ 0) → cond b (Some x) (find p xs) ≡ None
        → count_by p (x ∷ xs) ≡ cond {A = ℕ} (p x) 1 0 + count_by p xs → count_by p (x ∷ xs) ≡ 0
    go true t rest e n = absurd (none-some x (sym e))
    go false t rest e n = let zero_here : cond {A = ℕ} (p x) 1 0 ≡ 0 = ap (λ b. cond {A = ℕ} b 1 0) t in
        let later = rest e in omega arith

pub find_after : {X : Type 0} (p : X → Bool) (xs : List X) (y : X) → find p xs ≡ None → p y ≡ true
    → find p (xs ++ y ∷ []) ≡ Some y
find_after p [] y e t = ap (λ b. cond b (Some y) None) t
find_after p (x ∷ xs) y e t = go (p x) refl (find_after p xs y) e
  where
    go : (b : Bool) → p x ≡ b → (find p xs ≡ None → p y ≡ true → find p (xs ++ y ∷ []) ≡ Some y)
        → cond b (Some x) (find p xs) ≡ None → cond b (Some x) (find p (xs ++ y ∷ [])) ≡ Some y
    go true s rest e = absurd (none-some x (sym e))
    go false s rest e = rest e t

-- ---- mbufs in lists

module _ {X : Type 0} (w : X → Weight) where
  pub mbufs-append : (xs ys : List X) → (all_of w (xs ++ ys)).mbufs ≡ (all_of w xs).mbufs + (all_of w ys).mbufs
  mbufs-append [] ys = omega arith
  mbufs-append (x ∷ xs) ys = let rest = mbufs-append xs ys in omega arith

  pub mbufs-filter : (p : X → Bool) (xs : List X) → (all_of w (filter p xs)).mbufs ≤ (all_of w xs).mbufs
  mbufs-filter p [] = omega arith
  mbufs-filter p (x ∷ xs) = go (p x) (mbufs-filter p xs)
    where
      go : (b : Bool) → (all_of w (filter p xs)).mbufs ≤ (all_of w xs).mbufs
          → (all_of w (cond b (x ∷ filter p xs) (filter p xs))).mbufs ≤ (all_of w (x ∷ xs)).mbufs
      go true le = omega arith
      go false le = omega arith

  pub mbufs-map : (f : X → X) → ((x : X) → (w (f x)).mbufs ≡ (w x).mbufs) → (xs : List X)
      → (all_of w (map f xs)).mbufs ≡ (all_of w xs).mbufs
  mbufs-map f same [] = refl
  mbufs-map f same (x ∷ xs) = let here = same x in let rest = mbufs-map f same xs in omega arith

  -- an element that is found, and the others
  pub mbufs-without : (p : X → Bool) (xs : List X) (x : X) → find p xs ≡ Some x
      → (all_of w (filter (λ y. not (p y)) xs)).mbufs + (w x).mbufs ≤ (all_of w xs).mbufs
  mbufs-without p [] x e = absurd (none-some x e)
  mbufs-without p (y ∷ ys) x e = go (p y) (mbufs-without p ys x) e
    where
      fewer : (zs : List X) → (all_of w (filter (λ y. not (p y)) zs)).mbufs ≤ (all_of w zs).mbufs
      fewer [] = omega arith
      fewer (z ∷ zs) = split (p z) (fewer zs)
        where
          split : (b : Bool) → (all_of w (filter (λ y. not (p y)) zs)).mbufs ≤ (all_of w zs).mbufs
              → (all_of w (cond (not b) (z ∷ filter (λ y. not (p y)) zs) (filter (λ y. not (p y)) zs))).mbufs
              ≤ (all_of w (z ∷ zs)).mbufs
          split true le = omega arith
          split false le = omega arith

      go : (b : Bool) → (find p ys ≡ Some x
          → (all_of w (filter (λ y. not (p y)) ys)).mbufs + (w x).mbufs
          ≤ (all_of w ys).mbufs) → cond b (Some y) (find p ys) ≡ Some x
          → (all_of w (cond (not b) (y ∷ filter (λ y. not (p y)) ys) (filter (λ y. not (p y)) ys))).mbufs + (w x).mbufs
          ≤ (all_of w (y ∷ ys)).mbufs
      go true rest e = let same : (w y).mbufs ≡ (w x).mbufs = ap (λ z. (w z).mbufs) (same_Some y x e) in
          let le = fewer ys in omega arith
      go false rest e = let le = rest e in omega arith

  unchanged : (p : X → Bool) (f : X → X) (xs : List X) → count_by p xs ≡ 0
      → (all_of w (map (λ x. cond (p x) (f x) x) xs)).mbufs ≡ (all_of w xs).mbufs
  unchanged p f [] e = refl
  unchanged p f (x ∷ xs) e = go (p x) refl (unchanged p f xs) (count_cons p x xs)
    where
      go : (b : Bool) → p x ≡ b → (count_by p xs ≡ 0
          → (all_of w (map (λ x. cond (p x) (f x) x) xs)).mbufs ≡ (all_of w xs).mbufs)
          → count_by p (x ∷ xs) ≡ cond {A = ℕ} (p x) 1 0 + count_by p xs
          → (w (cond b (f x) x)).mbufs + (all_of w (map (λ x. cond (p x) (f x) x) xs)).mbufs
          ≡ (w x).mbufs + (all_of w xs).mbufs
      go true t rest n = let one : cond {A = ℕ} (p x) 1 0 ≡ 1 = ap (λ b. cond {A = ℕ} b 1 0) t in absurd (omega arith)
      go false t rest n = let later = rest (omega arith) in omega arith

  -- At most one element changes, and gains at most k mbufs.
  pub mbufs-changed : (p : X → Bool) (f : X → X) (k : ℕ) → ((x : X) → (w (f x)).mbufs ≤ (w x).mbufs + k) → (xs : List X)
      → count_by p xs ≤ 1
      → (all_of w (map (λ x. cond (p x) (f x) x) xs)).mbufs ≤ (all_of w xs).mbufs + k
  mbufs-changed p f k le [] e = omega arith
  mbufs-changed p f k le (x ∷ xs) e = go (p x) refl (mbufs-changed p f k le xs) (unchanged p f xs) (count_cons p x xs)
    where
      go : (b : Bool) → p x ≡ b → (count_by p xs ≤ 1
          → (all_of w (map (λ x. cond (p x) (f x) x) xs)).mbufs ≤ (all_of w xs).mbufs + k)
          → (count_by p xs ≡ 0 → (all_of w (map (λ x. cond (p x) (f x) x) xs)).mbufs ≡ (all_of w xs).mbufs)
          → count_by p (x ∷ xs) ≡ cond {A = ℕ} (p x) 1 0 + count_by p xs
          → (w (cond b (f x) x)).mbufs + (all_of w (map (λ x. cond (p x) (f x) x) xs)).mbufs
          ≤ (w x).mbufs + (all_of w xs).mbufs + k
      go true t rest same n =
          let one : cond {A = ℕ} (p x) 1 0 ≡ 1 = ap (λ b. cond {A = ℕ} b 1 0) t in
          let later = same (omega arith) in
          let more = le x in
          omega arith
      go false t rest same n = let later = rest (omega arith) in omega arith

  -- The one that is found is replaced.
  pub mbufs-replaced : (p : X → Bool) (f : X → X) (k : ℕ) → ((x : X) → (w (f x)).mbufs ≡ k) → (xs : List X) (x : X)
      → count_by p xs ≤ 1 → find p xs ≡ Some x
      → (all_of w (map (λ x. cond (p x) (f x) x) xs)).mbufs + (w x).mbufs ≡ (all_of w xs).mbufs + k
  mbufs-replaced p f k is [] x c e = absurd (none-some x e)
  mbufs-replaced p f k is (y ∷ ys) x c e =
      go (p y) refl (mbufs-replaced p f k is ys x) (unchanged p f ys) (count_cons p y ys) e
    where
      go : (b : Bool) → p y ≡ b → (count_by p ys ≤ 1 → find p ys ≡ Some x
          → (all_of w (map (λ x. cond (p x) (f x) x) ys)).mbufs + (w x).mbufs ≡ (all_of w ys).mbufs + k)
          → (count_by p ys ≡ 0 → (all_of w (map (λ x. cond (p x) (f x) x) ys)).mbufs ≡ (all_of w ys).mbufs)
          → count_by p (y ∷ ys) ≡ cond {A = ℕ} (p y) 1 0 + count_by p ys → cond b (Some y) (find p ys) ≡ Some x
          → (w (cond b (f y) y)).mbufs + (all_of w (map (λ x. cond (p x) (f x) x) ys)).mbufs + (w x).mbufs
          ≡ (w y).mbufs + (all_of w ys).mbufs + k
      go true t rest same n e =
          let one : cond {A = ℕ} (p y) 1 0 ≡ 1 = ap (λ b. cond {A = ℕ} b 1 0) t in
          let it : (w y).mbufs ≡ (w x).mbufs = ap (λ z. (w z).mbufs) (same_Some y x e) in
          let now = is y in
          let later = same (omega arith) in
          omega arith
      go false t rest same n e = let later = rest (omega arith) e in omega arith

-- ---- sockets with descriptors that differ

abbrev pub AreIn : State → Socket → Type 0
AreIn s x = socket_at x.fd s ≡ Some x

abbrev pub Apart : List Socket → Type 0
Apart [] = ⊤
Apart (x ∷ xs) = Each {X = Socket} (λ y. (y.fd == x.fd) ≡ false) xs × Apart xs

none_pass : {X : Type 0} (p : X → Bool) (xs : List X) → count_by p xs ≡ 0 → Each (λ x. p x ≡ false) xs
none_pass p [] e = tt
none_pass p (x ∷ xs) e = go (p x) refl (none_pass p xs) (count_cons p x xs)
  where
    go : (b : Bool) → p x ≡ b → (count_by p xs ≡ 0 → Each (λ x. p x ≡ false) xs)
        → count_by p (x ∷ xs) ≡ cond {A = ℕ} (p x) 1 0 + count_by p xs → Each (λ x. p x ≡ false) (x ∷ xs)
    go true t rest n = let one : cond {A = ℕ} (p x) 1 0 ≡ 1 = ap (λ b. cond {A = ℕ} b 1 0) t in absurd (omega arith)
    go false t rest n = (t, rest (omega arith))

-- the only one with a descriptor is the one that is found
pub the_one : (fd : ℕ) (sockets : List Socket) (me : Socket) → count_by (λ (x : Socket). x.fd == fd) sockets ≤ 1
    → find (λ (x : Socket). x.fd == fd) sockets ≡ Some me
    → Each {X = Socket} (λ x. (x.fd == fd) ≡ true → x ≡ me) sockets
the_one fd [] me c e = tt
the_one fd (x ∷ xs) me c e = go (x.fd == fd) refl (the_one fd xs me) (count_cons (λ (y : Socket). y.fd == fd) x xs) e
  where
    go : (b : Bool) → (x.fd == fd) ≡ b
        → (count_by (λ (x : Socket). x.fd == fd) xs ≤ 1 → find (λ (x : Socket). x.fd == fd) xs ≡ Some me
        → Each {X = Socket} (λ x. (x.fd == fd) ≡ true → x ≡ me) xs)
        → count_by (λ (y : Socket). y.fd == fd) (x ∷ xs)
        ≡ cond {A = ℕ} (x.fd == fd) 1 0 + count_by (λ (y : Socket). y.fd == fd) xs
        → cond b (Some x) (find (λ (x : Socket). x.fd == fd) xs) ≡ Some me
        → Each {X = Socket} (λ x. (x.fd == fd) ≡ true → x ≡ me) (x ∷ xs)
    go true t rest n e =
        let one : cond {A = ℕ} (x.fd == fd) 1 0 ≡ 1 = ap (λ b. cond {A = ℕ} b 1 0) t in (
          (λ s. same_Some x me e),
          each-weaker (λ y f s. no (sym f ∙ s)) xs
              (none_pass (λ (y : Socket). y.fd == fd) xs (omega arith)),
        )
    go false t rest n e = (
      (λ s. no (sym t ∙ s)),
      rest (let zero_here : cond {A = ℕ} (x.fd == fd) 1 0
          ≡ 0 = ap (λ b. cond {A = ℕ} b 1 0) t in omega arith) e,
    )

apart_all : (sockets : List Socket) → ((fd : ℕ) → count_by (λ (x : Socket). x.fd == fd) sockets ≤ 1) → Apart sockets
apart_all [] h = tt
apart_all (x ∷ xs) h = (
  none_pass (λ (y : Socket). y.fd == x.fd) xs
      (let one : cond {A = ℕ} (x.fd == x.fd) 1 0 ≡ 1 = ap (λ b. cond {A = ℕ} b 1 0) (eq-eqb x.fd x.fd refl) in
      let le = h x.fd in omega (arith, count_cons (λ (y : Socket). y.fd == x.fd) x xs)),
  apart_all xs (λ fd. let le = h fd in omega (arith, count_cons (λ (y : Socket). y.fd == fd) x xs)),
)

find_in : (sockets : List Socket) → Apart sockets
    → Each {X = Socket} (λ x. find (λ (y : Socket). y.fd == x.fd) sockets ≡ Some x) sockets
find_in [] h = tt
find_in (x ∷ xs) h = (
  ap (λ b. cond b (Some x) (find (λ (y : Socket). y.fd == x.fd) xs)) (eq-eqb x.fd x.fd refl),
  each-both (λ y e f. ap (λ b. cond b (Some x) (find (λ (z : Socket). z.fd == y.fd) xs)) (turned y f) ∙ e) xs
      (find_in xs h.1) h.0,
)
  where
    turned : (y : Socket) → (y.fd == x.fd) ≡ false → (x.fd == y.fd) ≡ false
    turned y f = ne_eqb x.fd y.fd (λ e. eqb-false y.fd x.fd f (sym e))

apart_filter : (p : Socket → Bool) (xs : List Socket) → Apart xs → Apart (filter p xs)
apart_filter p [] h = tt
apart_filter p (x ∷ xs) h = go (p x) (apart_filter p xs h.1)
  where
    go : (b : Bool) → Apart (filter p xs) → Apart (cond b (x ∷ filter p xs) (filter p xs))
    go true rest = (each-filter {X = Socket} (λ y. (y.fd == x.fd) ≡ false) p xs h.0, rest)
    go false rest = rest

each_up_to : (P : Socket → Type 0) (p : Socket → Bool) (xs : List Socket) → Each P xs → Each P (up_to_first p xs)
each_up_to P p [] h = tt
each_up_to P p (x ∷ xs) h = go (p x) (each_up_to P p xs h.1)
  where
    go : (b : Bool) → Each P (up_to_first p xs) → Each P (cond b (x ∷ []) (x ∷ up_to_first p xs))
    go true rest = (h.0, tt)
    go false rest = (h.0, rest)

apart_up_to : (p : Socket → Bool) (xs : List Socket) → Apart xs → Apart (up_to_first p xs)
apart_up_to p [] h = tt
apart_up_to p (x ∷ xs) h = go (p x) (apart_up_to p xs h.1)
  where
    go : (b : Bool) → Apart (up_to_first p xs) → Apart (cond b (x ∷ []) (x ∷ up_to_first p xs))
    go true rest = (tt, tt)
    go false rest = (each_up_to (λ y. (y.fd == x.fd) ≡ false) p xs h.0, rest)

abbrev OfSome : (Socket → Type 0) → Option Socket → Type 0
OfSome P None = ⊤
OfSome P (Some x) = P x

some_found : (P : Socket → Type 0) (p : Socket → Bool) (xs : List Socket) → Each P xs → OfSome P (find p xs)
some_found P p xs h = go (find p xs) refl
  where
    go : (o : Option Socket) → find p xs ≡ o → OfSome P o
    go None e = tt
    go (Some x) e = (each-find P p xs x h e).0

some_or : (P : Socket → Type 0) (a b : Option Socket) → OfSome P a → OfSome P b → OfSome P (option_or a b)
some_or P None b x y = y
some_or P (Some s) b x y = x

each_some : (P : Socket → Type 0) (o : Option Socket) → OfSome P o → Each P (option_to_list o)
each_some P None h = tt
each_some P (Some x) h = (h, tt)

apart_some : (o : Option Socket) → Apart (option_to_list o)
apart_some None = tt
apart_some (Some x) = (tt, tt)

-- the sockets that match a datagram are open, and no two are the same
pub matching_in : (s : State) (destination : ℕ) (q : LookupKey)
    → ((fd : ℕ) → count_by (λ (x : Socket). x.fd == fd) s.sockets ≤ 1)
    → Each (AreIn s) (Arrival.matching_sockets s destination q) × Apart (Arrival.matching_sockets s destination q)
matching_in s destination q distinct = go (Arrival.is_broadcast s.config destination)
  where
    all : Apart s.sockets
    all = apart_all s.sockets distinct

    found : Each (AreIn s) s.sockets
    found = find_in s.sockets all

    go : (b : Bool) → Each (AreIn s) (cond b (receivers q s.sockets) (option_to_list (best q s.sockets)))
        × Apart (cond b (receivers q s.sockets) (option_to_list (best q s.sockets)))
    go true = (
      each_up_to (AreIn s) _ _ (each-filter (AreIn s) (matches q) s.sockets found),
      apart_up_to _ _ (apart_filter (matches q) s.sockets all),
    )
    go false = (
      each_some (AreIn s) (best q s.sockets)
          (some_or (AreIn s) _ _ (some_found (AreIn s) _ s.sockets found)
          (some_or (AreIn s) _ _ (some_found (AreIn s) _ s.sockets found) (some_found (AreIn s) _ s.sockets found))),
      apart_some (best q s.sockets),
    )

-- Facts of each element, by recursion; and what follows from facts by cases.
use Rattle.std.proofs.Common.{◌≡◌, ℕ, zero, suc, Bool, true, false, List, [], ◌∷◌, ◌++◌, map, take, refl, sym, Option, Some, None, cond, subst}
use Rattle.std.specs.Prelude.{find, filter}
use Rattle.flat_model.specs.Packets.Header.{first_fault}
use Rattle.flat_model.specs.Amounts.Choice.{Choice, Case}
use Rattle.std.specs.List.{AllByRecursion as Each}
use Rattle.std.proofs.lemmas.Option.{none-some, same_Some}

pub by_choice : {P Q R : Type 0} {b : Bool} → Choice b P Q → (b ≡ true → P → R) → (b ≡ false → Q → R) → R
by_choice {R = R} {b = b} c f g = go b refl
  where
    go : (t : Bool) → b ≡ t → R
    go true e = f e (c.yes e)
    go false e = g e (c.no e)

pub by_case : {T R : Type 0} {P : Type 0} {Q : T → Type 0} {o : Option T} → Case o P Q → (o ≡ None → P → R)
    → ((x : T) → o ≡ Some x → Q x → R) → R
by_case {T = T} {R = R} {o = o} c f g = go o refl
  where
    go : (t : Option T) → o ≡ t → R
    go None e = f e (c.none e)
    go (Some x) e = g x e (c.some x e)

module _ {X : Type 0} (P : X → Type 0) where
  pub each-map : (f : X → X) → ((x : X) → P x → P (f x)) → (xs : List X) → Each P xs → Each P (map f xs)
  each-map f keeps [] h = tt
  each-map f keeps (x ∷ xs) h = (keeps x h.0, each-map f keeps xs h.1)

  pub each-append : (xs ys : List X) → Each P xs → Each P ys → Each P (xs ++ ys)
  each-append [] ys h k = k
  each-append (x ∷ xs) ys h k = (h.0, each-append xs ys h.1 k)

  pub each-filter : (p : X → Bool) (xs : List X) → Each P xs → Each P (filter p xs)
  each-filter p [] h = tt
  each-filter p (x ∷ xs) h = go (p x) (each-filter p xs h.1)
    where
      go : (b : Bool) → Each P (filter p xs) → Each P (cond b (x ∷ filter p xs) (filter p xs))
      go true rest = (h.0, rest)
      go false rest = rest

  pub each-find : (p : X → Bool) (xs : List X) (x : X) → Each P xs → find p xs ≡ Some x → P x × (p x ≡ true)
  each-find p [] x h e = absurd (none-some x e)
  each-find p (y ∷ ys) x h e = go (each-find p ys x h.1) (p y) refl e
    where
      go : (find p ys ≡ Some x → P x × (p x ≡ true)) → (b : Bool) → p y ≡ b → cond b (Some y) (find p ys) ≡ Some x
          → P x × (p x ≡ true)
      go rest true t e = let same : y ≡ x = same_Some y x e in subst (λ z. P z × (p z ≡ true)) same (h.0, t)
      go rest false t e = rest e

pub each-both : {X : Type 0} {P Q R : X → Type 0} → ((x : X) → P x → Q x → R x) → (xs : List X) → Each P xs → Each Q xs
    → Each R xs
each-both f [] h k = tt
each-both f (x ∷ xs) h k = (f x h.0 k.0, each-both f xs h.1 k.1)

pub each-weaker : {X : Type 0} {P Q : X → Type 0} → ((x : X) → P x → Q x) → (xs : List X) → Each P xs → Each Q xs
each-weaker f [] h = tt
each-weaker f (x ∷ xs) h = (f x h.0, each-weaker f xs h.1)

pub each-map_to : {X Y : Type 0} {P : X → Type 0} (Q : Y → Type 0) (f : X → Y) → ((x : X) → P x → Q (f x))
    → (xs : List X) → Each P xs → Each Q (map f xs)
each-map_to Q f keeps [] h = tt
each-map_to Q f keeps (x ∷ xs) h = (keeps x h.0, each-map_to Q f keeps xs h.1)

pub each-take : {X : Type 0} (P : X → Type 0) (n : ℕ) (xs : List X) → Each P xs → Each P (take n xs)
each-take P zero xs h = tt
each-take P (suc n) [] h = tt
each-take P (suc n) (x ∷ xs) h = (h.0, each-take P n xs h.1)

-- no fault: no test passed
pub none_passed : {E : Type 0} (tests : List (Bool × E)) → first_fault tests ≡ None
    → Each (λ test. test.0 ≡ false) tests
none_passed [] e = tt
none_passed (test ∷ tests) e = go (none_passed tests) test.0 refl e
  where
    go : (first_fault tests ≡ None → Each (λ test. test.0 ≡ false) tests) → (b : Bool) → test.0 ≡ b
        → cond b (Some test.1) (first_fault tests) ≡ None → Each (λ test. test.0 ≡ false) (test ∷ tests)
    go rest true t e = absurd (none-some test.1 (sym e))
    go rest false t e = (t, rest e)

-- Fragments in order of offset, without overlap, and their map (this project's own lemmas).
use Rattle.std.proofs.Common.{◌≡◌, ℕ, zero, suc, ◌+◌, ◌-◌, ◌<◌, ◌≤◌, List, [], ◌∷◌, ◌++◌, length, get_or, take, drop, Option, None, Some, refl, sym, ap, ◌∙◌, subst, inl, inr, ◌⊎◌, arith, length-drop, get_or-drop}
use Rattle.std.proofs.lemmas.Bool.{cases_lt, le-leb, lt-leb, lt-ltb, le-ltb, and_from, and_left, and_right, cond-true, cond-false}
use Rattle.flat_model.specs.Fragments.Overlay.{Held}
use Rattle.flat_model.specs.Fragments.Overlay.{Fragment}
use Rattle.ip_reass.specs.Fragments.{end_of_fragment, own, map_of, Apart, AllEnd}
use Rattle.ip_reass.specs.Inside.Walks.{reach, AllAbove, trimmed, left_from}

-- ---- one fragment
pub known_here : (p : Fragment) (ps : List Fragment) (k : ℕ) → p.offset ≤ k → k < end_of_fragment p
    → map_of (p ∷ ps) k ≡ Some (own p k)
known_here p ps k a b = cond-true _ _ _ (and_from _ _ (le-leb p.offset k a) (lt-ltb k (end_of_fragment p) b))

pub known_below : (p : Fragment) (ps : List Fragment) (k : ℕ) → k < p.offset → map_of (p ∷ ps) k ≡ map_of ps k
known_below p ps k a = cond-false _ _ _ (and_left _ _ (lt-leb p.offset k a))

pub known_past : (p : Fragment) (ps : List Fragment) (k : ℕ) → end_of_fragment p ≤ k → map_of (p ∷ ps) k ≡ map_of ps k
known_past p ps k a = cond-false _ _ _ (and_right _ _ (le-ltb k (end_of_fragment p) a))

-- the position of an offset
pub data Place (p : Fragment) (k : ℕ) : Type 0 where
  below : k < p.offset → Place p k
  within : p.offset ≤ k → k < end_of_fragment p → Place p k
  past : end_of_fragment p ≤ k → Place p k

pub known_place : (p : Fragment) (k : ℕ) → Place p k
known_place p k = elim (cases_lt k p.offset) [
  | inl a ↦ below a
  | inr a ↦ elim (cases_lt k (end_of_fragment p)) [ inl b ↦ within a b | inr b ↦ past b ]
]

pub none_or_some : (o : Option Held) → (o ≡ None) ⊎ ((c : Held) × (o ≡ Some c))
none_or_some None = inl refl
none_or_some (Some c) = inr (c, refl)

-- ---- below the first fragment of a list nothing is known
pub nothing_below : (low : ℕ) (ps : List Fragment) (k : ℕ) → Apart low ps → k < low → map_of ps k ≡ None
nothing_below low [] k a l = refl
nothing_below low (p ∷ ps) k a l =
    known_below p ps k (omega arith) ∙ nothing_below (end_of_fragment p) ps k a.2 (omega arith)

pub reach_grows : (low : ℕ) (ps : List Fragment) → Apart low ps → low ≤ reach low ps
reach_grows low [] a = omega arith
reach_grows low (p ∷ ps) a = omega (arith, reach_grows (end_of_fragment p) ps a.2)

-- from the end of the last fragment on nothing is known
pub nothing_past : (low : ℕ) (ps : List Fragment) (k : ℕ) → Apart low ps → reach low ps ≤ k → map_of ps k ≡ None
nothing_past low [] k a l = refl
nothing_past low (p ∷ ps) k a l = known_past p ps k (omega (arith, reach_grows (end_of_fragment p) ps a.2))
    ∙ nothing_past (end_of_fragment p) ps k a.2 l

-- up to a nothing is known if all begin above it
pub nothing_upto : (a : ℕ) (ps : List Fragment) (k : ℕ) → AllAbove a ps → k ≤ a → map_of ps k ≡ None
nothing_upto a [] k h l = refl
nothing_upto a (p ∷ ps) k h l = known_below p ps k (omega arith) ∙ nothing_upto a ps k h.1 l

-- two lists joined
pub known_left : (xs ys : List Fragment) (k : ℕ) (c : Held) → map_of xs k ≡ Some c → map_of (xs ++ ys) k ≡ Some c
known_left [] ys k c e = absurd (let f : None ≡ Some c = e in cc)
known_left (p ∷ xs) ys k c e = elim (known_place p k) [
  | below a ↦ known_below p (xs ++ ys) k a ∙ known_left xs ys k c (sym (known_below p xs k a) ∙ e)
  | within a b ↦ known_here p (xs ++ ys) k a b ∙ (sym (known_here p xs k a b) ∙ e)
  | past a ↦ known_past p (xs ++ ys) k a ∙ known_left xs ys k c (sym (known_past p xs k a) ∙ e)
]

pub known_right : (xs ys : List Fragment) (k : ℕ) → map_of xs k ≡ None → map_of (xs ++ ys) k ≡ map_of ys k
known_right [] ys k e = refl
known_right (p ∷ xs) ys k e = elim (known_place p k) [
  | below a ↦ known_below p (xs ++ ys) k a ∙ known_right xs ys k (sym (known_below p xs k a) ∙ e)
  | within a b ↦ absurd (let f : Some (own p k) ≡ None = sym (known_here p xs k a b) ∙ e in cc)
  | past a ↦ known_past p (xs ++ ys) k a ∙ known_right xs ys k (sym (known_past p xs k a) ∙ e)
]

pub apart_join : (low : ℕ) (xs ys : List Fragment) → Apart low xs → Apart (reach low xs) ys → Apart low (xs ++ ys)
apart_join low [] ys a b = b
apart_join low (p ∷ xs) ys a b = (a.0, a.1, apart_join (end_of_fragment p) xs ys a.2 b)

pub apart_left : (low : ℕ) (xs ys : List Fragment) → Apart low (xs ++ ys) → Apart low xs
apart_left low [] ys a = tt
apart_left low (p ∷ xs) ys a = (a.0, a.1, apart_left (end_of_fragment p) xs ys a.2)

pub apart_right : (low : ℕ) (xs ys : List Fragment) → Apart low (xs ++ ys) → Apart (reach low xs) ys
apart_right low [] ys a = a
apart_right low (p ∷ xs) ys a = apart_right (end_of_fragment p) xs ys a.2

pub apart_lower : (low less : ℕ) (ps : List Fragment) → less ≤ low → Apart low ps → Apart less ps
apart_lower low less [] l a = tt
apart_lower low less (p ∷ ps) l a = (omega arith, a.1, a.2)

-- ---- the rest of the fragments after
pub data LeftAfter (e : ℕ) (p : Fragment) (ps : List Fragment) : Type 0 where
  left_whole : e ≤ p.offset → left_from e (p ∷ ps) ≡ p ∷ ps → LeftAfter e p ps
  left_none : end_of_fragment p ≤ e → left_from e (p ∷ ps) ≡ left_from e ps → LeftAfter e p ps
  left_cut : p.offset < e → e < end_of_fragment p → left_from e (p ∷ ps) ≡ trimmed (e - p.offset) p ∷ ps
      → LeftAfter e p ps

pub left_after : (e : ℕ) (p : Fragment) (ps : List Fragment) → LeftAfter e p ps
left_after e p ps = elim (cases_lt p.offset e) [
  | inr a ↦ left_whole a (cond-true _ _ _ (le-leb e p.offset a))
  | inl a ↦ elim (cases_lt e (end_of_fragment p)) [
    | inr b ↦ left_none b (cond-false _ _ _ (lt-leb e p.offset a) ∙ cond-true _ _ _ (le-leb (end_of_fragment p) e b))
    | inl b ↦ left_cut a b (cond-false _ _ _ (lt-leb e p.offset a) ∙ cond-false _ _ _ (lt-leb (end_of_fragment p) e b))
  ]
]

pub end_trimmed : (n : ℕ) (p : Fragment) → n ≤ length p.bytes → end_of_fragment (trimmed n p) ≡ end_of_fragment p
end_trimmed n p l = omega (arith, length-drop n p.bytes)

pub byte_trimmed : (n : ℕ) (p : Fragment) (k : ℕ) → p.offset + n ≤ k
    → get_or (drop n p.bytes) (k - (p.offset + n)) 0 ≡ get_or p.bytes (k - p.offset) 0
byte_trimmed n p k l =
    let same : n + (k - (p.offset + n)) ≡ k - p.offset = omega arith in
    get_or-drop n p.bytes (k - (p.offset + n)) 0 ∙ ap (λ (j : ℕ). get_or p.bytes j 0) same

pub left_from_none : (low e : ℕ) (ps : List Fragment) (k : ℕ) → Apart low ps → k < e → map_of (left_from e ps) k ≡ None
left_from_none low e [] k a l = refl
left_from_none low e (p ∷ ps) k a l = elim (left_after e p ps) [
  | left_whole h is ↦ ap (λ (qs : List Fragment). map_of qs k) is ∙ nothing_below e (p ∷ ps) k (h, a.1, a.2) l
  | left_none h is ↦ ap (λ (qs : List Fragment). map_of qs k) is ∙ left_from_none (end_of_fragment p) e ps k a.2 l
  | left_cut h m is ↦ ap (λ (qs : List Fragment). map_of qs k) is
      ∙ (known_below (trimmed (e - p.offset) p) ps k (omega arith)
      ∙ nothing_below (end_of_fragment p) ps k a.2 (omega arith))
]

pub left_from_apart : (low e : ℕ) (ps : List Fragment) → Apart low ps → Apart e (left_from e ps)
left_from_apart low e [] a = tt
left_from_apart low e (p ∷ ps) a = elim (left_after e p ps) [
  | left_whole h is ↦ subst (Apart e) (sym is) (h, a.1, a.2)
  | left_none h is ↦ subst (Apart e) (sym is) (left_from_apart (end_of_fragment p) e ps a.2)
  | left_cut h m is ↦ subst (Apart e) (sym is) (
    omega arith,
    omega (arith, length-drop (e - p.offset) p.bytes),
    apart_lower (end_of_fragment p) (end_of_fragment (trimmed (e - p.offset) p)) ps
        (omega (arith, end_trimmed (e - p.offset) p (omega arith))) a.2,
  )
]

-- ---- ends
module _ (n : ℕ) where
  pub AllEnd-append : (ps qs : List Fragment) → AllEnd n ps → AllEnd n qs → AllEnd n (ps ++ qs)
  AllEnd-append [] qs a b = b
  AllEnd-append (p ∷ ps) qs a b = (a.0, AllEnd-append ps qs a.1 b)

  pub AllEnd-take : (i : ℕ) (ps : List Fragment) → AllEnd n ps → AllEnd n (take i ps)
  AllEnd-take zero ps a = tt
  AllEnd-take (suc i) [] a = tt
  AllEnd-take (suc i) (p ∷ ps) a = (a.0, AllEnd-take i ps a.1)

  pub AllEnd-drop : (i : ℕ) (ps : List Fragment) → AllEnd n ps → AllEnd n (drop i ps)
  AllEnd-drop zero ps a = a
  AllEnd-drop (suc i) [] a = tt
  AllEnd-drop (suc i) (p ∷ ps) a = AllEnd-drop i ps a.1

  pub AllEnd-left_from : (e : ℕ) (ps : List Fragment) → AllEnd n ps → AllEnd n (left_from e ps)
  AllEnd-left_from e [] a = tt
  AllEnd-left_from e (p ∷ ps) a = elim (left_after e p ps) [
    | left_whole h is ↦ subst (AllEnd n) (sym is) a
    | left_none h is ↦ subst (AllEnd n) (sym is) (AllEnd-left_from e ps a.1)
    | left_cut h m is ↦ subst (AllEnd n) (sym is) (omega (arith, end_trimmed (e - p.offset) p (omega arith), a.0), a.1)
  ]

-- Laws of cuts.
use Rattle.std.proofs.Common.{◌≡◌, ℕ, ◌+◌, ◌-◌, ◌<◌, ◌≤◌, cond, Bool, true, false, List, [], ◌∷◌, ◌++◌, length, take, drop, Option, None, Some, is_some, sym, ap, ◌∙◌, arith}
use Rattle.std.proofs.lemmas.Bool.{cond-true, cond-false, eq-eqb, ne_eqb, le-leb, le-ltb, false≢true}
use Rattle.std.proofs.lemmas.List.{take_all, take_more_set, length-drop}
use Rattle.mbuf_chain.specs.Chain.{Entry, ChainView, PoolView, IsPlace, chain_of, entry_of, with_chain, Adds}
use Rattle.mbuf_chain.specs.Steps.{one_mbuf, empty_entry, with_entry, with_back, narrowed}
use Rattle.chain_ops.specs.Rooms.{at_end}
use Rattle.chain_ops.specs.Copies.{copied_entry}
use Rattle.chain_ops.specs.Rooms.{end_entry}
use Rattle.std.specs.Prelude.{slice_set}
use Rattle.std.specs.Option.{MatchOption}
use Rattle.mbuf_chain.specs.declared.place.Place.{Place}
use Rattle.mbuf_chain.proofs.Laws.Steps.{new_entry, filled}
use Rattle.chain_ops.proofs.Lists.{at_entry}
use Rattle.chain_ops.specs.Splits.{rest_of, split_front, split_back, split_need}

-- a new plain mbuf with the last bytes of an entry at its end
pub end_made : (p q r : PoolView) (c i start : ℕ) (e e' : Entry) (off n : ℕ) → off + n ≡ length e.bytes
    → start ≡ at_end true n → e' ≡ e
    → Adds p q c (one_mbuf true (empty_entry start None) c) → i ≡ 0
    → r ≡ with_chain q c (with_entry (chain_of q c) i
    (with_back (entry_of (chain_of q c) i) (take n (drop off e'.bytes))))
    → Adds p r c (one_mbuf true (end_entry true (drop off e.bytes)) c)
end_made p q r c i start e e' off n whole low same a first is =
    let size : length (drop off e.bytes) ≡ n = omega (arith, whole, length-drop off e.bytes) in
    let bytes : take n (drop off e'.bytes) ≡ drop off e.bytes =
    ap (λ (f : Entry). take n (drop off f.bytes)) same ∙ take_all n (drop off e.bytes) (omega (arith, size)) in
    let start' : start ≡ at_end true (length (drop off e.bytes)) = low ∙ ap (at_end true) (sym size) in
    let shown : with_back (entry_of (chain_of q c) i) (take n (drop off e'.bytes)) ≡ end_entry true (drop off e.bytes) =
    (λ j. with_back (new_entry p q c i true (empty_entry start None) a first j) (bytes j))
    ∙ ap (λ (s : ℕ). let f : Entry = record { bytes = drop off e.bytes; start = s; cluster = None } in f) start' in
    filled p q r c i true (empty_entry start None) (end_entry true (drop off e.bytes)) a first
    (is ∙ ap (λ (f : Entry). with_chain q c (with_entry (chain_of q c) i f)) shown)

-- ---- the first entries of the new chain
module _ (e : Entry) (off n : ℕ) (is : n ≡ length e.bytes - off) where
  rest : (header : Bool) → List Entry
  rest header =
      cond (is_some e.cluster) (narrowed e off (length e.bytes - off) ∷ [])
      (cond header (cond (Rattle.std.specs.Prelude.nat_le (length e.bytes - off) 100)
      (end_entry true (drop off e.bytes) ∷ [])
      (empty_entry 28 None ∷ copied_entry 20 e off (length e.bytes - off) ∷ [])) (copied_entry 20 e off
      (length e.bytes - off) ∷ []))

  some : (header : Bool) → 0 < n → rest_of header e off ≡ rest header
  unfolding rest
  some header p = cond-false {A = List Entry} _ _ _ (ne_eqb (length e.bytes - off) 0 (λ z. absurd (omega (arith, is))))

  pub rest-empty : n ≡ 0 → rest_of true e off ≡ empty_entry 28 None ∷ []
  rest-empty z = cond-true {A = List Entry} _ _ _ (eq-eqb (length e.bytes - off) 0 (omega (arith, is)))

  pub rest-shared : (header : Bool) → 0 < n → is_some e.cluster ≡ true → rest_of header e off ≡ narrowed e off n ∷ []
  unfolding rest
  rest-shared header p c =
      some header p ∙ cond-true {A = List Entry} _ _ _ c ∙ ap (λ (k : ℕ). narrowed e off k ∷ []) (sym is)

  pub rest-copy : 0 < n → is_some e.cluster ≡ false → rest_of false e off ≡ copied_entry 20 e off n ∷ []
  unfolding rest
  rest-copy p c =
      some false p ∙ cond-false {A = List Entry} _ _ _ c ∙ ap (λ (k : ℕ). copied_entry 20 e off k ∷ []) (sym is)

  pub rest-end : 0 < n → is_some e.cluster ≡ false → n ≤ 100
      → rest_of true e off ≡ end_entry true (drop off e.bytes) ∷ []
  unfolding rest
  rest-end p c le =
      some true p ∙ cond-false {A = List Entry} _ _ _ c
      ∙ cond-true {A = List Entry} _ _ _ (le-leb (length e.bytes - off) 100 (omega (arith, is)))

-- ---- the cut
pub front_done : (v : ChainView) (at : Place) (off : ℕ) → IsPlace v at → off ≤ length (entry_of v at.index).bytes
    → take (at.index + 1) (slice_set v.entries at.index (narrowed (entry_of v at.index) 0 off))
    ≡ take at.index v.entries ++ split_front (drop at.index v.entries) off
front_done v at off place h =
    let e : Entry = entry_of v at.index in
    take_more_set v.entries at.index (narrowed e 0 off) place.within
    ∙ ap (λ (es : List Entry). take at.index v.entries ++ es)
    (sym (ap (λ (es : List Entry). split_front es off) (at_entry v at place)
    ∙ cond-false {A = List Entry} _ _ _ (le-ltb (length e.bytes) off h)))

pub back_done : (v : ChainView) (at : Place) (off : ℕ) (h : Bool) → IsPlace v at
    → off ≤ length (entry_of v at.index).bytes
    → rest_of h (entry_of v at.index) off ++ drop (at.index + 1) v.entries ≡ split_back h (drop at.index v.entries) off
back_done v at off h place le =
    sym (ap (λ (es : List Entry). split_back h es off) (at_entry v at place)
    ∙ cond-false {A = List Entry} _ _ _ (le-ltb (length (entry_of v at.index).bytes) off le))

pub need_done : (v : ChainView) (at : Place) (off : ℕ) (h : Bool) → IsPlace v at
    → off ≤ length (entry_of v at.index).bytes
    → length (rest_of h (entry_of v at.index) off) ≡ split_need h (drop at.index v.entries) off
need_done v at off h place le =
    sym (ap (λ (es : List Entry). split_need h es off) (at_entry v at place)
    ∙ cond-false {A = ℕ} _ _ _ (le-ltb (length (entry_of v at.index).bytes) off le))

pub rest-none : (e : Entry) (off : ℕ) → off ≡ length e.bytes → rest_of false e off ≡ []
rest-none e off z = cond-true {A = List Entry} _ _ _ (eq-eqb (length e.bytes - off) 0 (omega arith))

pub whole_entry : (e : Entry) (off : ℕ) → off ≡ length e.bytes → narrowed e 0 off ≡ e
whole_entry e off z =
    let all : take off e.bytes ≡ e.bytes = take_all off e.bytes (omega arith) in
    let start : e.start + 0 ≡ e.start = omega arith in
    λ j. record { bytes = all j; start = start j; cluster = e.cluster }

pub is_end : {A : Type 0} (o : Option A) (P : Type 0) (Q : A → Type 0) → MatchOption o P Q
    → Rattle.std.specs.Option.is_none o ≡ true → P
is_end None P Q h e = h
is_end (Some x) P Q h e = absurd (false≢true e)

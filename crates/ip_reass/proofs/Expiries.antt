-- The datagrams that a tick drops, one after another.
use Rattle.std.proofs.Common.{◌≡◌, ℕ, ◌+◌, ◌-◌, ◌<◌, ◌≤◌, eqb, ltb, Bool, true, false, ◌&&◌, cond, List, [], ◌∷◌, ◌++◌, length, map, filter, get_or, set, take, drop, Option, Some, None, is_some, unwrap_or, refl, sym, ap, ◌∙◌, arith, inl, inr, append-nil}
use Rattle.std.proofs.lemmas.Bool.{cases_lt, cond-true, cond-false, lt-ltb, lt-leb, le-leb, eq-eqb, ne_eqb}
use Rattle.std.proofs.lemmas.List.{append_assoc, drop-set-lt, get_or-map, length-append, length-set, map-append, take-append-le, take_all, take_more, take_more_set}
use Rattle.std.proofs.lemmas.List.Elements.{filter-append}
use Rattle.std.proofs.lemmas.Option.{none-some}
use Rattle.params.specs.declared.TheConstants.{IP_MAX_DATA}
use Rattle.flat_model.specs.Fragments.Overlay.{Fragment, Held}
use Rattle.flat_model.specs.Machine.State.{Unfinished}
use Rattle.mbuf_chain.specs.Chain.{PoolView}
use Rattle.ip_reass.specs.Expiring.{IsListed, expired_among, to_expired}
use Rattle.ip_reass.specs.Fragments.{Apart, AllEnd, end_of_fragment, map_of, own}
use Rattle.ip_reass.specs.Inside.Walks.{fragment_at}
use Rattle.ip_reass.specs.Questions.{nth_of}
use Rattle.ip_reass.specs.Table.{unfinished, unfinished_of}
use Rattle.ip_reass.specs.declared.datagram.Datagram.{Datagram}
use Rattle.ip_reass.specs.declared.expiring.Expired.{Expired}
use Rattle.ip_reass.specs.declared.questions.HeldRange.{HeldRange}
use Rattle.ip_reass.proofs.Ranges.{held_by, nth_is, nth_past}

-- ---- the first byte

none_before : (fs : List Fragment) (low k : ℕ) → k < low → Apart low fs → map_of fs k ≡ None
none_before [] low k l a = refl
none_before (f ∷ fs) low k l a =
    cond-false _ (Some (own f k)) (map_of fs k)
    (ap (λ (b : Bool). b && ltb k (end_of_fragment f)) (lt-leb f.offset k (omega (arith, l, a.0))))
    ∙ none_before fs (end_of_fragment f) k (omega (arith, l, a.0)) a.2

-- it has arrived if the first fragment has offset 0
first_some : (f : Fragment) (fs : List Fragment) → Apart 0 (f ∷ fs) → eqb f.offset 0 ≡ is_some (map_of (f ∷ fs) 0)
first_some f fs a = elim (cases_lt 0 f.offset) [
  | inl l ↦ ne_eqb f.offset 0 (λ e. absurd (omega (arith, l, e)))
      ∙ sym (ap (λ (o : Option Held). is_some o) (none_before (f ∷ fs) f.offset 0 l (omega arith, a.1, a.2)))
  | inr l ↦ eq-eqb f.offset 0 (omega (arith, l))
      ∙ sym (ap (λ (o : Option Held). is_some o) (cond-true _ (Some (own f 0)) (map_of fs 0)
      (ap (λ (b : Bool). b && ltb 0 (end_of_fragment f)) (le-leb f.offset 0 (omega (arith, l)))
      ∙ lt-ltb 0 (end_of_fragment f) (omega (arith, a.1)))))
]

pub seen_first : (fs : List Fragment) (r : HeldRange) → Apart 0 fs → AllEnd IP_MAX_DATA fs
    → Some r ≡ nth_of (map_of fs) 0 → eqb r.offset 0 ≡ is_some (map_of fs 0)
seen_first [] r a e is = absurd (none-some r (sym (is ∙ nth_past [] 0 a e (omega arith))))
seen_first (f ∷ fs) r a e is =
    ap (λ (o : Option HeldRange). eqb (unwrap_or o r).offset 0) (is ∙ nth_is (f ∷ fs) 0 a e (omega arith))
    ∙ first_some f fs a

pub unseen_first : (fs : List Fragment) → Apart 0 fs → AllEnd IP_MAX_DATA fs → None ≡ nth_of (map_of fs) 0
    → false ≡ is_some (map_of fs 0)
unseen_first [] a e is = refl
unseen_first (f ∷ fs) a e is =
    absurd (none-some (held_by f) (is ∙ nth_is (f ∷ fs) 0 a e (omega arith)))

-- ---- a list with one more

pub listed_none : (old : List Expired) (count : ℕ) → IsListed old count [] old count
listed_none old count = record {
  number = omega arith;
  len = refl;
  listed = λ before is same. same ∙ ap (take (length old)) (sym (append-nil before));
  rest = λ k l. refl;
}

pub listed_past : (old : List Expired) (count : ℕ) (x : Expired) → length old ≤ count
    → IsListed old count (x ∷ []) old (count + 1)
listed_past old count x past = record {
  number = omega arith;
  len = refl;
  listed = λ before is same.
      take_all (count + 1) old (omega (arith, past)) ∙ sym (take_all count old past) ∙ same
      ∙ sym (take-append-le (length old) before (x ∷ []) (omega (arith, past, is)));
  rest = λ k l. refl;
}

pub listed_one : (old : List Expired) (count : ℕ) (x : Expired) → count < length old
    → IsListed old count (x ∷ []) (set old count x) (count + 1)
listed_one old count x within = record {
  number = omega arith;
  len = length-set old count x;
  listed = λ before is same.
      take_more_set old count x within
      ∙ ap (λ (l : List Expired). l ++ x ∷ []) (same ∙ take_all (length old) before (omega (arith, within, is)))
      ∙ sym (take_all (length old) (before ++ x ∷ []) (omega (arith, within, is, length-append before (x ∷ []))));
  rest = λ k l. drop-set-lt k old count x (omega (arith, l));
}

pub listed_more : {old mid new : List Expired} {from count now : ℕ} {xs ys : List Expired}
    → IsListed old from xs mid count → IsListed mid count ys new now → IsListed old from (xs ++ ys) new now
listed_more {old} {mid} {new} {from} {count} {now} {xs} {ys} a b = record {
  number = omega (arith, a.number, b.number, length-append xs ys);
  len = b.len ∙ a.len;
  listed = λ before is same.
      b.listed (before ++ xs) (omega (arith, is, a.number, length-append before xs))
      (a.listed before is same ∙ ap (λ (n : ℕ). take n (before ++ xs)) (sym a.len))
      ∙ ap (λ (n : ℕ). take n ((before ++ xs) ++ ys)) a.len
      ∙ ap (take (length old)) (append_assoc before xs ys);
  rest = λ k l. b.rest k l ∙ a.rest k (omega (arith, l, b.number));
}

-- ---- those among datagrams

pub none_expired : (u : Unfinished) → 1 < u.ticks → expired_among (u ∷ []) ≡ []
none_expired u l =
    ap (λ (b : Bool). map to_expired (cond b (u ∷ []) [])) (ne_eqb (u.ticks - 1) 0 (λ e. absurd (omega (arith, l, e))))

pub one_expired : (u : Unfinished) → u.ticks ≤ 1 → expired_among (u ∷ []) ≡ to_expired u ∷ []
one_expired u l =
    ap (λ (b : Bool). map to_expired (cond b (u ∷ []) [])) (eq-eqb (u.ticks - 1) 0 (omega (arith, l)))

pub more_expired : (p : PoolView) (ds : List Datagram) (i : ℕ) (d : Datagram) → i < length ds → d ≡ get_or ds i d
    → expired_among (unfinished p (take (i + 1) ds))
    ≡ expired_among (unfinished p (take i ds)) ++ expired_among (unfinished_of p d ∷ [])
more_expired p ds i d within is =
    ap (λ (l : List Datagram). expired_among (unfinished p l)) (take_more ds i d within)
    ∙ ap (λ (l : List Unfinished). expired_among l) (map-append (unfinished_of p) (take i ds) (get_or ds i d ∷ []))
    ∙ ap (λ (l : List Unfinished). map to_expired l)
    (filter-append (λ (u : Unfinished). eqb (u.ticks - 1) 0) (unfinished p (take i ds))
    (unfinished_of p (get_or ds i d) ∷ []))
    ∙ map-append to_expired (filter (λ (u : Unfinished). eqb (u.ticks - 1) 0) (unfinished p (take i ds)))
    (filter (λ (u : Unfinished). eqb (u.ticks - 1) 0) (unfinished_of p (get_or ds i d) ∷ []))
    ∙ ap (λ (x : Datagram). expired_among (unfinished p (take i ds)) ++ expired_among (unfinished_of p x ∷ [])) (sym is)

pub most_one : (u : Unfinished) → length (expired_among (u ∷ [])) ≤ 1
most_one u = elim (cases_lt 1 u.ticks) [
  | inl l ↦ omega (arith, ap (λ (xs : List Expired). length xs) (none_expired u l))
  | inr l ↦ omega (arith, ap (λ (xs : List Expired). length xs) (one_expired u l))
]

-- The rows of a table by the buckets of their keys.
use Rattle.std.proofs.Common.{◌≡◌, ℕ, zero, suc, ◌+◌, ◌-◌, ◌<◌, ◌≤◌, Bool, true, false, ◌&&◌, ◌==◌, eqb, cond, List, [], ◌∷◌, take, length, get_or, Some, None, refl, sym, ap, ◌∙◌, arith, inl, inr}
use Rattle.std.specs.Prelude.{find, slice_get, count_by}
use Rattle.std.proofs.lemmas.Bool.{cases_Bool, cases_eq, cases_lt, and_parts, eqb-true, eq-eqb, true≢false, false_from_ne_true}
use Rattle.std.proofs.lemmas.List.{length-map}
use Rattle.std.proofs.lemmas.List.Sums.{sum_by-cons}
use Rattle.flat_model.specs.Machine.State.{Key}
use Rattle.ip_reass.specs.Inside.Index.{bucket_of, buckets_of, upto_last}
use Rattle.ip_reass.specs.Table.{has_key}
use Rattle.ip_reass.specs.declared.datagram.Datagram.{Datagram}
use Rattle.ip_reass.proofs.Linked.{upto_here, upto_most, upto_past}

-- ---- the only row that passes

count_cons : (p : Datagram → Bool) (d : Datagram) (ds : List Datagram)
    → count_by p (d ∷ ds) ≡ cond (p d) 1 0 + count_by p ds
count_cons p d ds = sum_by-cons (λ x. cond (p x) 1 0) d ds

some_counts : (p : Datagram → Bool) (ds : List Datagram) (i : ℕ) (d : Datagram) → i < length ds
    → p (get_or ds i d) ≡ true → 1 ≤ count_by p ds
some_counts p [] i d lt met = absurd (omega arith)
some_counts p (x ∷ ds) zero d lt met = omega (arith, count_cons p x ds, ap (λ t. cond {A = ℕ} t 1 0) met)
some_counts p (x ∷ ds) (suc i) d lt met = omega (arith, count_cons p x ds, some_counts p ds i d (omega arith) met)

pub only_found : (p : Datagram → Bool) (ds : List Datagram) (i : ℕ) (d : Datagram) → i < length ds
    → p (get_or ds i d) ≡ true → count_by p ds ≤ 1 → (find p ds ≡ slice_get ds i) × (find p (take i ds) ≡ None)
only_found p [] i d lt met once = absurd (omega arith)
only_found p (x ∷ ds) zero d lt met once = (ap (λ t. cond t (Some x) (find p ds)) met, refl)
only_found p (x ∷ ds) (suc i) d lt met once = elim (cases_Bool (p x)) [
  | inl is ↦ absurd (omega (
    arith,
    count_cons p x ds,
    ap (λ t. cond {A = ℕ} t 1 0) is,
    some_counts p ds i d (omega arith) met,
  ))
  | inr is ↦
      let rest = only_found p ds i d (omega arith) met (omega (arith, count_cons p x ds)) in
      (ap (λ t. cond t (Some x) (find p ds)) is ∙ rest.0, ap (λ t. cond t (Some x) (find p (take i ds))) is ∙ rest.1)
]

-- the derived comparison of keys
regroup : (a b c d : Bool) → a && (b && (c && d)) ≡ ((a && b) && c) && d
regroup true true c d = refl
regroup true false c d = refl
regroup false b c d = refl

pub compared : (k : Key) (d : Datagram)
    → eqb d.key.source k.source && (eqb d.key.destination k.destination
    && (eqb d.key.id k.id && eqb d.key.protocol k.protocol)) ≡ has_key k d
compared k d =
    regroup (eqb d.key.source k.source) (eqb d.key.destination k.destination) (eqb d.key.id k.id)
    (eqb d.key.protocol k.protocol)

pub none_found : (p : Datagram → Bool) (ds : List Datagram)
    → ((k : ℕ) (d : Datagram) → k < length ds → p (get_or ds k d) ≡ false) → find p ds ≡ None
none_found p [] none = refl
none_found p (x ∷ ds) none =
    ap (λ t. cond t (Some x) (find p ds)) (none 0 x (omega arith))
    ∙ none_found p ds (λ k d lt. none (suc k) d (omega arith))

pub any_default : (ds : List Datagram) (i : ℕ) (a b : Datagram) → i < length ds → get_or ds i a ≡ get_or ds i b
any_default [] i a b lt = absurd (omega arith)
any_default (x ∷ ds) zero a b lt = refl
any_default (x ∷ ds) (suc i) a b lt = any_default ds i a b (omega arith)

-- ---- buckets

pub same_key : (k : Key) (d : Datagram) → has_key k d ≡ true → d.key ≡ k
same_key k d e =
    let three =
    and_parts (((d.key.source == k.source) && (d.key.destination == k.destination)) && (d.key.id == k.id))
    (d.key.protocol == k.protocol) e in
    let two =
    and_parts ((d.key.source == k.source) && (d.key.destination == k.destination)) (d.key.id == k.id) three.0 in
    let one = and_parts (d.key.source == k.source) (d.key.destination == k.destination) two.0 in
    λ i. record {
      source = eqb-true d.key.source k.source one.0 i;
      destination = eqb-true d.key.destination k.destination one.1 i;
      id = eqb-true d.key.id k.id two.1 i;
      protocol = eqb-true d.key.protocol k.protocol three.1 i;
    }

-- a row in another bucket has another key
elsewhere : (n : ℕ) (k : Key) (d : Datagram) → (bucket_of n d.key == bucket_of n k) ≡ false → has_key k d ≡ false
elsewhere n k d e =
    false_from_ne_true (has_key k d)
    (λ is. true≢false (sym (eq-eqb (bucket_of n d.key) (bucket_of n k) (ap (bucket_of n) (same_key k d is))) ∙ e))

bucket_at : (n : ℕ) (ds : List Datagram) (k : ℕ) (d : Datagram) → k < length ds
    → get_or (buckets_of n ds) k 0 ≡ bucket_of n (get_or ds k d).key
bucket_at n [] k d lt = absurd (omega arith)
bucket_at n (x ∷ ds) zero d lt = refl
bucket_at n (x ∷ ds) (suc k) d lt = bucket_at n ds k d (omega arith)

-- ---- the walk along a bucket

-- the rows from `rows` on have other keys, and the row before them is in the bucket
pub record Walked (n : ℕ) (key : Key) (ds : List Datagram) (rows : ℕ) : Type 0 where
  pub within : rows ≤ length ds
  pub none : (k : ℕ) (d : Datagram) → rows ≤ k → k < length ds → has_key key (get_or ds k d) ≡ false
  pub here : (j : ℕ) → rows ≡ suc j → get_or (buckets_of n ds) j 0 ≡ bucket_of n key

walked_from : (n : ℕ) (key : Key) (ds : List Datagram) (m rows : ℕ) → m ≤ length ds
    → rows ≡ upto_last (bucket_of n key) (buckets_of n ds) m
    → ((k : ℕ) (d : Datagram) → m ≤ k → k < length ds → has_key key (get_or ds k d) ≡ false) → Walked n key ds rows
walked_from n key ds m rows le is later = record {
  within = omega (arith, upto_most (bucket_of n key) (buckets_of n ds) m);
  none = λ k d from lt. elim (cases_lt k m) [
    | inl less ↦ elsewhere n key (get_or ds k d)
        (ap (λ b. b == bucket_of n key) (sym (bucket_at n ds k d lt))
        ∙ upto_past (bucket_of n key) (buckets_of n ds) m k (omega (arith, is, from)) less)
    | inr more ↦ later k d more lt
  ];
  here =
      λ j e. eqb-true (get_or (buckets_of n ds) j 0) (bucket_of n key)
      (upto_here (bucket_of n key) (buckets_of n ds) m j (sym is ∙ e));
}

pub walk_begins : (n : ℕ) (key : Key) (ds : List Datagram) (bs : List ℕ) (b rows : ℕ) → bs ≡ buckets_of n ds
    → b ≡ bucket_of n key → rows ≡ upto_last b bs (length bs) → Walked n key ds rows
walk_begins n key ds bs b rows same is e =
    let long : length bs ≡ length ds = ap length same ∙ length-map ds (λ (d : Datagram). bucket_of n d.key) in
    walked_from n key ds (length ds) rows (omega arith) (e ∙ (λ i. upto_last (is i) (same i) (long i)))
    (λ k d from lt. absurd (omega arith))

pub walk_goes_on : (n : ℕ) (key : Key) (ds : List Datagram) (bs : List ℕ) (rows place next : ℕ) (x : Datagram)
    → bs ≡ buckets_of n ds → 0 < rows → place ≡ rows - 1 → has_key key (get_or ds place x) ≡ false
    → next ≡ upto_last (get_or bs place 0) bs place → Walked n key ds rows → Walked n key ds next
walk_goes_on n key ds bs rows place next x same some at other e w =
    let row : rows ≡ suc place = omega (arith, some, at) in
    let mine : get_or bs place 0 ≡ bucket_of n key = ap (λ cs. get_or cs place 0) same ∙ w.here place row in
    walked_from n key ds place next (omega (arith, w.within, row)) (e ∙ (λ i. upto_last (mine i) (same i) place))
    (λ k d from lt. elim (cases_eq k place) [
      | inl is ↦ ap (λ j. has_key key (get_or ds j d)) is
          ∙ ap (has_key key) (any_default ds place d x (omega (arith, w.within, row))) ∙ other
      | inr ne ↦ w.none k d (omega (arith, row, from, ne)) lt
    ])

pub walk_ends : (n : ℕ) (key : Key) (ds : List Datagram) (rows : ℕ) → Walked n key ds rows → rows ≤ 0
    → find (has_key key) ds ≡ None
walk_ends n key ds rows w none = none_found (has_key key) ds (λ k d lt. w.none k d (omega (arith, none)) lt)

-- The links of an index after a row is added and after one is removed, and the rows to which they lead.
use Rattle.std.proofs.Common.{◌≡◌, ◌≢◌, ℕ, zero, suc, ◌+◌, ◌<◌, ◌≤◌, Bool, true, false, ◌==◌, cond, List, [], ◌∷◌, ◌++◌, take, length, get_or, set, get_or-set_same, length-set, refl, sym, ap, ◌∙◌, arith, inl, inr}
use Rattle.std.specs.Prelude.{remove}
use Rattle.std.proofs.lemmas.Bool.{cases_eq, eq-eqb, ne_eqb}
use Rattle.ip_reass.specs.Inside.Index.{AreLinked, buckets_in, upto_last}
use Rattle.ip_reass.specs.declared.index.Row.{Row}

-- ---- the last row of a bucket

pub upto_most : (b : ℕ) (bs : List ℕ) (n : ℕ) → upto_last b bs n ≤ n
upto_most b bs zero = omega arith
upto_most b bs (suc n) = go (get_or bs n 0 == b) (upto_most b bs n)
  where
    go : (t : Bool) → upto_last b bs n ≤ n → cond t (suc n) (upto_last b bs n) ≤ suc n
    go true le = omega arith
    go false le = omega (arith, le)

-- the rows after it are in other buckets
pub upto_past : (b : ℕ) (bs : List ℕ) (n k : ℕ) → upto_last b bs n ≤ k → k < n → (get_or bs k 0 == b) ≡ false
upto_past b bs zero k le lt = absurd (omega arith)
upto_past b bs (suc n) k le lt = go (get_or bs n 0 == b) refl le (upto_past b bs n k)
  where
    go : (t : Bool) → (get_or bs n 0 == b) ≡ t → cond t (suc n) (upto_last b bs n) ≤ k
        → (upto_last b bs n ≤ k → k < n → (get_or bs k 0 == b) ≡ false) → (get_or bs k 0 == b) ≡ false
    go true is le rest = absurd (omega arith)
    go false is le rest = elim (cases_eq k n) [
      | inl same ↦ ap (λ j. get_or bs j 0 == b) same ∙ is
      | inr other ↦ rest le (omega arith)
    ]

-- it is in the bucket
pub upto_here : (b : ℕ) (bs : List ℕ) (n j : ℕ) → upto_last b bs n ≡ suc j → (get_or bs j 0 == b) ≡ true
upto_here b bs zero j e = absurd (omega arith)
upto_here b bs (suc n) j e = go (get_or bs n 0 == b) refl e (upto_here b bs n j)
  where
    go : (t : Bool) → (get_or bs n 0 == b) ≡ t → cond t (suc n) (upto_last b bs n) ≡ suc j
        → (upto_last b bs n ≡ suc j → (get_or bs j 0 == b) ≡ true) → (get_or bs j 0 == b) ≡ true
    go true is e rest = let same : j ≡ n = omega arith in ap (λ k. get_or bs k 0 == b) same ∙ is
    go false is e rest = rest e

-- only the first n rows matter
pub upto_same : (b : ℕ) (bs cs : List ℕ) (n : ℕ) → ((k : ℕ) → k < n → get_or bs k 0 ≡ get_or cs k 0)
    → upto_last b bs n ≡ upto_last b cs n
upto_same b bs cs zero same = refl
upto_same b bs cs (suc n) same =
    let one : get_or bs n 0 ≡ get_or cs n 0 = same n (omega arith) in
    let rest = upto_same b bs cs n (λ k lt. same k (omega arith)) in
    λ i. cond (one i == b) (suc n) (rest i)

-- ---- rows

pub bucket_at : (rows : List Row) (n k : ℕ) (d : Row) → k < n → n ≤ length rows
    → get_or (buckets_in rows n) k 0 ≡ (get_or rows k d).bucket
bucket_at [] n k d lt le = absurd (omega arith)
bucket_at (r ∷ rows) zero k d lt le = absurd (omega arith)
bucket_at (r ∷ rows) (suc n) zero d lt le = refl
bucket_at (r ∷ rows) (suc n) (suc k) d lt le = bucket_at rows n k d (omega arith) (omega arith)

pub bucket_added : (rows : List Row) (n : ℕ) (r : Row) → n < length rows
    → buckets_in (set rows n r) (suc n) ≡ buckets_in rows n ++ r.bucket ∷ []
bucket_added [] n r lt = absurd (omega arith)
bucket_added (x ∷ rows) zero r lt = refl
bucket_added (x ∷ rows) (suc n) r lt = ap (λ bs. x.bucket ∷ bs) (bucket_added rows n r (omega arith))

pub bucket_pushed : (rows : List Row) (n : ℕ) (r : Row) → n < length rows
    → buckets_in (set rows n r) (n + 1) ≡ buckets_in rows n ++ r.bucket ∷ []
bucket_pushed rows n r lt = let one : n + 1 ≡ suc n = omega arith in
    ap (buckets_in (set rows n r)) one ∙ bucket_added rows n r lt

pub length-buckets_in : (rows : List Row) (n : ℕ) → n ≤ length rows → length (buckets_in rows n) ≡ n
length-buckets_in rows zero le = refl
length-buckets_in [] (suc n) le = absurd (omega arith)
length-buckets_in (x ∷ rows) (suc n) le = ap suc (length-buckets_in rows n (omega arith))

other_row : (rows : List Row) (n k : ℕ) (r d : Row) → k ≢ n → get_or (set rows n r) k d ≡ get_or rows k d
other_row [] n k r d ne = refl
other_row (x ∷ rows) zero zero r d ne = absurd (ne refl)
other_row (x ∷ rows) zero (suc k) r d ne = refl
other_row (x ∷ rows) (suc n) zero r d ne = refl
other_row (x ∷ rows) (suc n) (suc k) r d ne = other_row rows n k r d (λ e. ne (ap suc e))

other_last : (xs : List ℕ) (n k x : ℕ) → k ≢ n → get_or (set xs n x) k 0 ≡ get_or xs k 0
other_last [] n k x ne = refl
other_last (y ∷ xs) zero zero x ne = absurd (ne refl)
other_last (y ∷ xs) zero (suc k) x ne = refl
other_last (y ∷ xs) (suc n) zero x ne = refl
other_last (y ∷ xs) (suc n) (suc k) x ne = other_last xs n k x (λ e. ne (ap suc e))

-- one more row
pub linked_more : (lasts : List ℕ) (rows : List Row) (n : ℕ) (r : Row) → AreLinked lasts rows n → n < length rows
    → r.bucket < length lasts → r.before ≡ get_or lasts r.bucket 0
    → AreLinked (set lasts r.bucket (n + 1)) (set rows n r) (n + 1)
linked_more lasts rows n r are lt low before = record {
  within = omega (arith, length-set rows n r);
  befores = λ k d less. elim (cases_eq k n) [
    | inl e ↦
        let here : get_or (set rows n r) k d ≡ r =
        ap (λ j. get_or (set rows n r) j d) e ∙ get_or-set_same rows n r d lt in
        ap (λ (x : Row). x.before) here ∙ before ∙ are.lasts r.bucket low ∙ upto_same r.bucket old new n same
        ∙ (λ i. upto_last (sym here i).bucket new (sym e i))
    | inr ne ↦
        let there : get_or (set rows n r) k d ≡ get_or rows k d = other_row rows n k r d ne in
        ap (λ (x : Row). x.before) there ∙ are.befores k d (omega arith)
        ∙ upto_same (get_or rows k d).bucket old new k (λ j l. same j (omega arith))
        ∙ ap (λ (x : Row). upto_last x.bucket new k) (sym there)
  ];
  inside = λ k d less. elim (cases_eq k n) [
    | inl e ↦
        let here : get_or (set rows n r) k d ≡ r =
        ap (λ j. get_or (set rows n r) j d) e ∙ get_or-set_same rows n r d lt in
        omega (arith, ap (λ (x : Row). x.bucket) here, low, length-set lasts r.bucket (n + 1))
    | inr ne ↦ omega (
      arith,
      ap (λ (x : Row). x.bucket) (other_row rows n k r d ne),
      are.inside k d (omega arith),
      length-set lasts r.bucket (n + 1),
    )
  ];
  lasts = λ b less. elim (cases_eq b r.bucket) [
    | inl e ↦ ap (λ j. get_or (set lasts r.bucket (n + 1)) j 0) e ∙ get_or-set_same lasts r.bucket (n + 1) 0 low
        ∙ sym (reported b (eq-eqb (get_or new n 0) b (mine ∙ sym e)))
    | inr ne ↦ other_last lasts r.bucket b (n + 1) ne
        ∙ are.lasts b (omega (arith, less, length-set lasts r.bucket (n + 1))) ∙ upto_same b old new n same
        ∙ sym (passed b (ne_eqb (get_or new n 0) b (λ e. ne (sym e ∙ mine))))
  ];
}
  where
    old : List ℕ
    old = buckets_in rows n

    new : List ℕ
    new = buckets_in (set rows n r) (n + 1)

    same : (k : ℕ) → k < n → get_or old k 0 ≡ get_or new k 0
    same k l =
        bucket_at rows n k r l (omega arith)
        ∙ ap (λ (x : Row). x.bucket) (sym (other_row rows n k r r (λ e. absurd (omega (arith, e, l)))))
        ∙ sym (bucket_at (set rows n r) (n + 1) k r (omega arith) (omega (arith, length-set rows n r)))

    mine : get_or new n 0 ≡ r.bucket
    mine =
        bucket_at (set rows n r) (n + 1) n r (omega arith) (omega (arith, length-set rows n r))
        ∙ ap (λ (x : Row). x.bucket) (get_or-set_same rows n r r lt)

    one : n + 1 ≡ suc n
    one = omega arith

    reported : (b : ℕ) → (get_or new n 0 == b) ≡ true → upto_last b new (n + 1) ≡ n + 1
    reported b is = ap (upto_last b new) one ∙ ap (λ t. cond t (suc n) (upto_last b new n)) is ∙ sym one

    passed : (b : ℕ) → (get_or new n 0 == b) ≡ false → upto_last b new (n + 1) ≡ upto_last b new n
    passed b is = ap (upto_last b new) one ∙ ap (λ t. cond t (suc n) (upto_last b new n)) is

-- one row less
pub linked_less : (lasts : List ℕ) (rows : List Row) (n m : ℕ) (r d : Row) → AreLinked lasts rows n → n ≡ suc m
    → r ≡ get_or rows m d → AreLinked (set lasts r.bucket r.before) rows m
linked_less lasts rows n m r d are is row = record {
  within = omega (arith, are.within);
  befores =
      λ k e less. are.befores k e (omega arith)
      ∙ upto_same (get_or rows k e).bucket old new k (λ j l. same j (omega arith));
  inside = λ k e less. omega (arith, are.inside k e (omega arith), length-set lasts r.bucket r.before);
  lasts = λ b less. elim (cases_eq b r.bucket) [
    | inl e ↦
        ap (λ j. get_or (set lasts r.bucket r.before) j 0) e ∙ get_or-set_same lasts r.bucket r.before 0 low
        ∙ ap (λ (x : Row). x.before) row ∙ are.befores m d (omega arith)
        ∙ upto_same (get_or rows m d).bucket old new m same
        ∙ (λ i. upto_last ((ap (λ (x : Row). x.bucket) (sym row) ∙ sym e) i) new m)
    | inr ne ↦
        other_last lasts r.bucket b r.before ne ∙ are.lasts b (omega (arith, less, length-set lasts r.bucket r.before))
        ∙ ap (upto_last b old) is
        ∙ ap (λ t. cond t (suc m) (upto_last b old m)) (ne_eqb (get_or old m 0) b (λ e. ne (sym e ∙ mine)))
        ∙ upto_same b old new m same
  ];
}
  where
    old : List ℕ
    old = buckets_in rows n

    new : List ℕ
    new = buckets_in rows m

    same : (k : ℕ) → k < m → get_or old k 0 ≡ get_or new k 0
    same k l = bucket_at rows n k r (omega arith) are.within ∙ sym (bucket_at rows m k r l (omega (arith, are.within)))

    mine : get_or old m 0 ≡ r.bucket
    mine = bucket_at rows n m d (omega arith) are.within ∙ ap (λ (x : Row). x.bucket) (sym row)

    low : r.bucket < length lasts
    low = omega (arith, are.inside m d (omega arith), ap (λ (x : Row). x.bucket) row)

-- ---- the row at a place is removed

-- the remaining rows, up to one more
take_without : (bs : List ℕ) (i m : ℕ) → i ≤ m → suc m < length bs
    → take (suc m) (remove bs i) ≡ take m (remove bs i) ++ get_or bs (suc m) 0 ∷ []
take_without [] i m le lt = absurd (omega arith)
take_without (b ∷ bs) zero m le lt = take_one_more bs m (omega arith)
  where
    take_one_more : (cs : List ℕ) (m : ℕ) → m < length cs → take (suc m) cs ≡ take m cs ++ get_or cs m 0 ∷ []
    take_one_more [] m lt = absurd (omega arith)
    take_one_more (c ∷ cs) zero lt = refl
    take_one_more (c ∷ cs) (suc m) lt = ap (λ xs. c ∷ xs) (take_one_more cs m (omega arith))
take_without (b ∷ bs) (suc i) zero le lt = absurd (omega arith)
take_without (b ∷ bs) (suc i) (suc m) le lt = ap (λ xs. b ∷ xs) (take_without bs i m (omega arith) (omega arith))

take_before : (bs : List ℕ) (i : ℕ) → take i (remove bs i) ≡ take i bs
take_before [] zero = refl
take_before [] (suc i) = refl
take_before (b ∷ bs) zero = refl
take_before (b ∷ bs) (suc i) = ap (λ xs. b ∷ xs) (take_before bs i)

take_whole : (cs : List ℕ) (m : ℕ) → m ≡ length cs → take m cs ≡ cs
take_whole [] zero e = refl
take_whole [] (suc m) e = refl
take_whole (c ∷ cs) zero e = absurd (omega arith)
take_whole (c ∷ cs) (suc m) e = ap (λ xs. c ∷ xs) (take_whole cs m (omega arith))

take_rest : (bs : List ℕ) (i m : ℕ) → i < length bs → m + 1 ≡ length bs → take m (remove bs i) ≡ remove bs i
take_rest [] i m lt long = absurd (omega arith)
take_rest (b ∷ bs) zero m lt long = take_whole bs m (omega arith)
take_rest (b ∷ []) (suc i) m lt long = absurd (omega arith)
take_rest (b ∷ c ∷ bs) (suc i) zero lt long = absurd (omega arith)
take_rest (b ∷ c ∷ bs) (suc i) (suc m) lt long = ap (λ xs. b ∷ xs) (take_rest (c ∷ bs) i m (omega arith) (omega arith))

taken_in : (rows : List Row) (i n : ℕ) → i ≤ n → buckets_in rows i ≡ take i (buckets_in rows n)
taken_in rows zero n le = refl
taken_in rows (suc i) zero le = absurd (omega arith)
taken_in [] (suc i) (suc n) le = refl
taken_in (r ∷ rows) (suc i) (suc n) le = ap (λ bs. r.bucket ∷ bs) (taken_in rows i n (omega arith))

pub closed_none : (rows : List Row) (place n : ℕ) → place ≤ n
    → buckets_in rows place ≡ take place (remove (buckets_in rows n) place)
closed_none rows place n le = taken_in rows place n le ∙ sym (take_before (buckets_in rows n) place)

-- one more row is in its new place
pub closed_more : (lasts : List ℕ) (old rows : List Row) (place k n : ℕ) (d r : Row) → AreLinked lasts rows k
    → buckets_in rows k ≡ take k (remove (buckets_in old n) place)
    → ((j : ℕ) (e : Row) → k < j → get_or rows j e ≡ get_or old j e)
    → ((j : ℕ) (e : Row) → j < n → (get_or old j e).bucket < length lasts) → place ≤ k → k + 1 < n → n ≤ length old
    → length rows ≡ length old → r.bucket ≡ (get_or rows (k + 1) d).bucket → r.before ≡ get_or lasts r.bucket 0
    → AreLinked (set lasts r.bucket (k + 1)) (set rows k r) (k + 1)
    × (buckets_in (set rows k r) (k + 1) ≡ take (k + 1) (remove (buckets_in old n) place))
    × ((j : ℕ) (e : Row) → k + 1 < j → get_or (set rows k r) j e ≡ get_or old j e)
closed_more lasts old rows place k n d r are done rest low le lt long same mine before =
    let here : k < length rows = omega (arith, lt, long, same) in
    let from : r.bucket ≡ (get_or old (k + 1) d).bucket =
    mine ∙ ap (λ (x : Row). x.bucket) (rest (k + 1) d (omega arith)) in
    let one : k + 1 ≡ suc k = omega arith in
    let next : get_or (buckets_in old n) (suc k) 0 ≡ r.bucket =
    bucket_at old n (suc k) d (omega (arith, lt)) long ∙ sym (from ∙ ap (λ j. (get_or old j d).bucket) one) in (
      linked_more lasts rows k r are here (omega (arith, from, low (k + 1) d lt)) before,
      ap (buckets_in (set rows k r)) one ∙ bucket_added rows k r here ∙ (λ i. done i ++ sym next i ∷ [])
          ∙ sym (take_without (buckets_in old n) place k le (omega (arith, lt, long, length-buckets_in old n long)))
          ∙ ap (λ m. take m (remove (buckets_in old n) place)) (sym one),
      λ j e more. other_row rows k j r e (λ is. absurd (omega (arith, is, more))) ∙ rest j e (omega (arith, more)),
    )

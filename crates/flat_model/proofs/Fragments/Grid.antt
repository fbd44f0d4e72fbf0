-- The parts of a cut string, by their index.
use Rattle.std.proofs.Common.{◌≡◌, ℕ, zero, suc, ◌+◌, ◌-◌, ◌*◌, ◌%◌, ◌<◌, ◌≤◌, false, List, [], ◌∷◌, ◌++◌, length, map, take, drop, get_or, refl, sym, ◌∙◌, ap, subst, ◌⊎◌, inl, inr, arith, min}
use Rattle.std.specs.Prelude.{flat_map, nat_le}
use Rattle.std.specs.List.{range_with_len}
use Rattle.std.proofs.Math.Seq.{take-add}
use Rattle.std.proofs.Math.Nat.{le-div_iff_mul-le}
use Rattle.std.proofs.lemmas.List.{take_min, drop-drop, length-drop, length-map, take_all, append-nil}
use Rattle.std.proofs.lemmas.List.FromFn.{length-range_with_len, get_or-map-range_with_len}
use Rattle.std.proofs.lemmas.Bool.{cases_lt, le-leb, lt-leb, cond-true, cond-false}
use Rattle.flat_model.specs.Fragments.Cuts.{Part, part, chunk, chunks, cuts}
use Rattle.flat_model.specs.Runs.Laws.{bytes_of_part, CutsJoin}

-- a chunk has 8 bytes or more, and fits
pub chunk_some : (mtu : ℕ) → 28 ≤ mtu → 8 ≤ chunk mtu
chunk_some mtu h = omega arith

pub chunk_fits : (mtu : ℕ) → 28 ≤ mtu → 20 + chunk mtu ≤ mtu
chunk_fits mtu h = omega arith

chunk_even : (mtu : ℕ) → chunk mtu % 8 ≡ 0
chunk_even mtu = omega arith

-- there is a chunk for each byte
pub chunks_enough : (n c : ℕ) → 0 < c → n ≤ chunks n c * c
chunks_enough n c h = omega arith

pub chunks_needed : (n c i : ℕ) → 0 < c → i < chunks n c → i * c < n
chunks_needed n c i h l =
    let below : (i + 1) * c ≤ n + (c - 1) =
    (le-div_iff_mul-le {k = c} {x = i + 1} {y = n + (c - 1)} h).0 (omega arith) in
    omega arith

-- the bytes of the parts from the i-th on
pub parts_join : (s : List ℕ) (c i k : ℕ)
    → flat_map (bytes_of_part s) (map (part (length s) c) (range_with_len i k)) ≡ take (k * c) (drop (i * c) s)
parts_join s c i zero = let e : 0 * c ≡ 0 = omega arith in rw e refl
parts_join s c i (suc k) =
    let first : take (min c (length s - i * c)) (drop (i * c) s) ≡ take c (drop (i * c) s) =
    ap (λ m. take (min c m) (drop (i * c) s)) (sym (length-drop (i * c) s)) ∙ take_min c (drop (i * c) s) in
    let on : (i + 1) * c ≡ i * c + c = omega arith in
    let later : take (k * c) (drop ((i + 1) * c) s) ≡ take (k * c) (drop c (drop (i * c) s)) =
    ap (λ m. take (k * c) (drop m s)) on ∙ ap (take (k * c)) (sym (drop-drop c (i * c) s)) in
    let both : suc k * c ≡ c + k * c = omega arith in
    ap (λ rest. bytes_of_part s (part (length s) c i) ++ rest) (parts_join s c (i + 1) k)
    ∙ ap (λ x. x ++ take (k * c) (drop ((i + 1) * c) s)) first
    ∙ ap (λ rest. take c (drop (i * c) s) ++ rest) later
    ∙ sym (take-add c (k * c) (drop (i * c) s))
    ∙ ap (λ m. take m (drop (i * c) s)) (sym both)

-- the parts of a string that is cut
abbrev pub grid : ℕ → ℕ → List Part
grid n c = map (part n c) (range_with_len 0 (chunks n c))

pub cuts_short : (n mtu : ℕ) → 20 + n ≤ mtu → cuts n mtu ≡ record { offset = 0; size = n; more = false } ∷ []
unfolding cuts
cuts_short n mtu h = cond-true (nat_le (20 + n) mtu) _ _ (le-leb (20 + n) mtu h)

pub cuts_long : (n mtu : ℕ) → mtu < 20 + n → cuts n mtu ≡ grid n (chunk mtu)
unfolding cuts
cuts_long n mtu h = cond-false (nat_le (20 + n) mtu) _ _ (lt-leb (20 + n) mtu h)

pub length-grid : (n c : ℕ) → length (grid n c) ≡ chunks n c
length-grid n c = length-map (range_with_len 0 (chunks n c)) (part n c) ∙ length-range_with_len 0 (chunks n c)

pub get_or-grid : (n c k : ℕ) (d : Part) → k < chunks n c → get_or (grid n c) k d ≡ part n c k
get_or-grid n c k d h = get_or-map-range_with_len (part n c) 0 (chunks n c) k k d h (omega arith)

joined_long : (s : List ℕ) (c : ℕ) → 0 < c → flat_map (bytes_of_part s) (grid (length s) c) ≡ s
joined_long s c h =
    let none : 0 * c ≡ 0 = omega arith in
    parts_join s c 0 (chunks (length s) c)
    ∙ ap (λ m. take (chunks (length s) c * c) (drop m s)) none
    ∙ take_all (chunks (length s) c * c) s (chunks_enough (length s) c h)

-- a chunk that isn't the last is full
full_part : (n c k : ℕ) → 0 < c → k + 1 < chunks n c → (part n c k).size ≡ c
full_part n c k some h =
    let below : (k + 1) * c < n = chunks_needed n c (k + 1) some h in
    omega arith

pub cuts_join_lem : (s : List ℕ) (mtu : ℕ) → 28 ≤ mtu → CutsJoin s mtu
cuts_join_lem s mtu low = go (cases_lt mtu (20 + length s))
  where
    n : ℕ
    n = length s

    go : (mtu < 20 + length s) ⊎ (20 + length s ≤ mtu) → CutsJoin s mtu
    go (inr h) = record {
      joined = rw (cuts_short (length s) mtu h) (append-nil (take (length s) s) ∙ take_all (length s) s (omega arith));
      multiples = λ k d b. absurd (omega (arith, ap length (cuts_short (length s) mtu h), b));
      within = λ k d b. one k d b (cuts (length s) mtu) (cuts_short (length s) mtu h) b;
    }
      where
        one : (k : ℕ) (d : Part) → k < length (cuts (length s) mtu) → (ps : List Part)
            → ps ≡ record { offset = 0; size = length s; more = false } ∷ [] → k < length ps
            → 20 + (get_or ps k d).size ≤ mtu
        one k d b ps e l = rw e (at_zero k (subst (λ (qs : List Part). k < length qs) e l))
          where
            at_zero : (j : ℕ) → j < 1 → 20
                + (get_or (record { offset = 0; size = length s; more = false } ∷ []) j d).size ≤ mtu
            at_zero zero l = h
            at_zero (suc j) l = absurd (omega arith)
    go (inl h) = record {
      joined = rw (cuts_long (length s) mtu h) (joined_long s (chunk mtu) (omega (arith, chunk_some mtu low)));
      multiples = rw (cuts_long (length s) mtu h) λ k d b.
          let l : k + 1 < chunks (length s) (chunk mtu) = omega (arith, b, length-grid (length s) (chunk mtu)) in
          ap (λ (p : Part). p.size % 8) (get_or-grid (length s) (chunk mtu) k d (omega arith))
          ∙ ap (λ m. m % 8) (full_part (length s) (chunk mtu) k (omega (arith, chunk_some mtu low)) l)
          ∙ chunk_even mtu;
      within = rw (cuts_long (length s) mtu h) λ k d b.
          let l : k < chunks (length s) (chunk mtu) = omega (arith, b, length-grid (length s) (chunk mtu)) in
          let same : (get_or (grid (length s) (chunk mtu)) k d).size ≡ min (chunk mtu) (length s - k * chunk mtu) =
          ap (λ (p : Part). p.size) (get_or-grid (length s) (chunk mtu) k d l) in
          omega (arith, same, chunk_fits mtu low);
    }

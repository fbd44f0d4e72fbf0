-- The parts of a datagram by their index.
use Rattle.std.proofs.Common.{◌≡◌, ℕ, zero, suc, ◌+◌, ◌-◌, ◌*◌, ◌/◌, ◌%◌, ◌<◌, ◌≤◌, false, List, [], ◌∷◌, map, get_or, refl, sym, ◌∙◌, ap, subst, ◌⊎◌, inl, inr, arith, min}
use Rattle.std.specs.Prelude.{nat_lt, Contains}
use Rattle.std.specs.List.{range_with_len}
use Rattle.std.proofs.lemmas.Nat.{div_below, le-div}
use Rattle.std.proofs.lemmas.Bool.{cases_lt, le-ltb}
use Rattle.flat_model.specs.Fragments.Cuts.{Part, part, chunk, chunks, cuts}
use Rattle.flat_model.proofs.Laws.{chunk_some, chunks_needed, grid, length-grid, get_or-grid, cuts_short, cuts_long}

div-eq_of_range : (k m : ℕ) → 0 < k → k ≤ m → m < k + k → m / k ≡ 1
div-eq_of_range k m some low high =
    let lower : 1 ≤ m / k = le-div 1 m k some (omega arith) in
    let upper : m / k < 2 = div_below m k 2 some (omega arith) in
    omega arith

-- the parts of a string that isn't empty are always those of a grid
pub cuts_grid : (n mtu : ℕ) → 0 < n → 28 ≤ mtu → (c : ℕ) × (0 < c) × (cuts n mtu ≡ grid n c)
cuts_grid n mtu some low = go (cases_lt mtu (20 + n))
  where
    one_chunk : chunks n n ≡ 1
    one_chunk = div-eq_of_range n (n + (n - 1)) some (omega arith) (omega arith)

    one_part : part n n 0 ≡ record { offset = 0; size = n; more = false }
    one_part =
        let zero_is : 0 * n ≡ 0 = omega arith in
        let size_is : min n (n - 0 * n) ≡ n = omega arith in
        let more_is : nat_lt ((0 + 1) * n) n ≡ false = le-ltb ((0 + 1) * n) n (omega arith) in
        λ i. record { offset = zero_is i; size = size_is i; more = more_is i }

    go : (mtu < 20 + n) ⊎ (20 + n ≤ mtu) → (c : ℕ) × (0 < c) × (cuts n mtu ≡ grid n c)
    go (inl h) = (chunk mtu, omega (arith, chunk_some mtu low), cuts_long n mtu h)
    go (inr h) = (
      n,
      some,
      cuts_short n mtu h ∙ sym
          (ap (λ k. map (part n n) (range_with_len 0 k)) one_chunk ∙ ap (λ p. p ∷ []) one_part),
    )

-- the index of a part of the grid
pub index_of : (n c : ℕ) (p : Part) → 0 < c → Contains (grid n c) p → (i : ℕ) × (i < chunks n c) × (p ≡ part n c i)
index_of n c p some (k, h, e) =
    let l : k < chunks n c = omega (arith, h, length-grid n c) in
    (k, l, sym e ∙ get_or-grid n c k p l)

-- parts begin at multiples of 8
pub part_steps : (n mtu : ℕ) (p : Part) → 28 ≤ mtu → Contains (cuts n mtu) p → p.offset % 8 ≡ 0
part_steps n mtu p low is = go (cases_lt mtu (20 + n))
  where
    only : (x : Part) (k : ℕ) → k < 1 → get_or (x ∷ []) k p ≡ p → x.offset ≡ 0 → p.offset % 8 ≡ 0
    only x zero l e at = let same : x.offset ≡ p.offset = ap (λ (q : Part). q.offset) e in omega arith
    only x (suc k) l e at = absurd (omega arith)

    go : (mtu < 20 + n) ⊎ (20 + n ≤ mtu) → p.offset % 8 ≡ 0
    go (inl h) =
        let at =
        index_of n (chunk mtu) p (omega (arith, chunk_some mtu low))
        (subst (λ (ps : List Part). Contains ps p) (cuts_long n mtu h) is) in
        let same : p.offset ≡ at.0 * chunk mtu = ap (λ (q : Part). q.offset) at.2 in
        omega arith
    go (inr h) =
        let c : Contains (record { offset = 0; size = n; more = false } ∷ []) p =
        subst (λ (ps : List Part). Contains ps p) (cuts_short n mtu h) is in
        only _ c.0 c.1 c.2 refl

pub part_inside : (n mtu : ℕ) (p : Part) → 0 < n → 28 ≤ mtu → Contains (cuts n mtu) p → p.offset < n
part_inside n mtu p some low is =
    let g = cuts_grid n mtu some low in
    let at = index_of n g.0 p g.1 (subst (λ (ps : List Part). Contains ps p) g.2 is) in
    let same : p.offset ≡ at.0 * g.0 = ap (λ (q : Part). q.offset) at.2 in
    let inside : at.0 * g.0 < n = chunks_needed n g.0 at.0 g.1 at.1 in
    omega arith

-- Free clusters for a step, if the pool has enough.
use Rattle.std.proofs.Common.{◌≡◌, ℕ, ◌+◌, ◌<◌, ◌≤◌, Bool, true, false, cond, zero, suc, List, [], ◌∷◌, length, refl, ap, arith}
use Rattle.std.specs.Prelude.{count_by, ◌==◌}
use Rattle.std.specs.List.{AllByRecursion as Each, range_with_len}
use Rattle.std.proofs.lemmas.Bool.{eqb-true}
use Rattle.std.proofs.lemmas.List.Elements.{All-from_recursion}
use Rattle.flat_model.specs.Amounts.Weight.{nothing, times as bag_times}
use Rattle.flat_model.specs.Machine.Ledger as state
use Rattle.flat_model.specs.Machine.Ledger.{AreTaken, IsFree, exact_ledger}
use Rattle.flat_model.specs.Machine.State.{State}
use Rattle.flat_model.proofs.Laws.{count_cons}
use Rattle.mbuf_chain.specs.Chain.{PoolView, free_clusters}
use Rattle.ledger.specs.Accounts.{IsAccounted}
use Rattle.ledger.proofs.Accounts.{free_clusters_are}

-- ---- n numbers that pass a test, if at least n do

record Picked (f : ℕ → Bool) (at len n : ℕ) : Type 0 where
  found : List ℕ
  number : length found ≡ n
  within : Each (λ (c : ℕ). c < at + len) found
  passed : Each (λ (c : ℕ). f c ≡ true) found
  once : (c : ℕ) → bag_times c found ≤ 1
  above : (c : ℕ) → c < at → bag_times c found ≡ 0

each_more : (at len : ℕ) (xs : List ℕ) → Each (λ (c : ℕ). c < at + 1 + len) xs → Each (λ (c : ℕ). c < at + suc len) xs
each_more at len [] h = tt
each_more at len (x ∷ xs) h = (omega (arith, h.0), each_more at len xs h.1)

apart : (x c : ℕ) → c < x → (b : Bool) → (x == c) ≡ b → (x == c) ≡ false
apart x c lt true e = absurd (omega (arith, lt, eqb-true x c e))
apart x c lt false e = e

many : (f : ℕ → Bool) (at len n c : ℕ) (rest : Picked f (at + 1) len n) (b : Bool) → (at == c) ≡ b
    → bag_times c (at ∷ rest.found) ≤ 1
many f at len n c rest true e = omega (
  arith,
  count_cons (λ (j : ℕ). j == c) at rest.found,
  ap (λ (b : Bool). cond {A = ℕ} b 1 0) e,
  rest.above c (omega (arith, eqb-true at c e)),
)
many f at len n c rest false e = omega (
  arith,
  count_cons (λ (j : ℕ). j == c) at rest.found,
  ap (λ (b : Bool). cond {A = ℕ} b 1 0) e,
  rest.once c,
)

picked_here : (f : ℕ → Bool) (at len n : ℕ) → f at ≡ true → Picked f (at + 1) len n → Picked f at (suc len) (suc n)
picked_here f at len n e rest = record {
  found = at ∷ rest.found;
  number = omega (arith, rest.number);
  within = (omega arith, each_more at len rest.found rest.within);
  passed = (e, rest.passed);
  once = λ c. many f at len n c rest (at == c) refl;
  above = λ c lt. omega (
    arith,
    count_cons (λ (j : ℕ). j == c) at rest.found,
    rest.above c (omega (arith, lt)),
    ap (λ (b : Bool). cond {A = ℕ} b 1 0) (apart at c lt (at == c) refl),
  );
}

picked_later : (f : ℕ → Bool) (at len n : ℕ) → Picked f (at + 1) len n → Picked f at (suc len) n
picked_later f at len n rest = record {
  found = rest.found;
  number = rest.number;
  within = each_more at len rest.found rest.within;
  passed = rest.passed;
  once = rest.once;
  above = λ c lt. rest.above c (omega (arith, lt));
}

pick : (f : ℕ → Bool) (at len n : ℕ) → n ≤ count_by f (range_with_len at len) → Picked f at len n
pick f at len zero h = record {
  found = [];
  number = refl;
  within = tt;
  passed = tt;
  once = λ c. omega arith;
  above = λ c lt. refl;
}
pick f at zero (suc n) h = absurd (omega (arith, h))
pick f at (suc len) (suc n) h = go (f at) refl (λ le. pick f (at + 1) len n le) (λ le. pick f (at + 1) len (suc n) le)
  where
    go : (b : Bool) → f at ≡ b → (n ≤ count_by f (range_with_len (at + 1) len) → Picked f (at + 1) len n)
        → (suc n ≤ count_by f (range_with_len (at + 1) len) → Picked f (at + 1) len (suc n))
        → Picked f at (suc len) (suc n)
    go true e this that =
        let here : cond {A = ℕ} (f at) 1 0 ≡ 1 = ap (λ (b : Bool). cond {A = ℕ} b 1 0) e in
        picked_here f at len n e
        (this (omega (arith, h, here, count_cons f at (range_with_len (at + 1) len))))
    go false e this that =
        let here : cond {A = ℕ} (f at) 1 0 ≡ 0 = ap (λ (b : Bool). cond {A = ℕ} b 1 0) e in
        picked_later f at len (suc n)
        (that (omega (arith, h, here, count_cons f at (range_with_len (at + 1) len))))

each_free : (s : State) (xs : List ℕ) → Each (λ (c : ℕ). c < 0 + s.config.clusters) xs
    → Each (λ (c : ℕ). (state.count_of s nothing c == 0) ≡ true) xs → Each (IsFree s nothing) xs
each_free s [] h g = tt
each_free s (x ∷ xs) h g = (
  record { exists = omega (arith, h.0); free = eqb-true (state.count_of s nothing x) 0 g.0 },
  each_free s xs h.1 g.1,
)

-- ---- n clusters that a step may allocate, if at least n are free

pub some_free : (p : PoolView) (s : State) (n : ℕ) → IsAccounted p s nothing → n ≤ free_clusters p
    → (cs : List ℕ) × AreTaken exact_ledger s n cs
some_free p s n acc enough =
    let picked : Picked (λ (c : ℕ). state.count_of s nothing c == 0) 0 s.config.clusters n =
    pick (λ (c : ℕ). state.count_of s nothing c == 0) 0 s.config.clusters n
    (omega (arith, enough, free_clusters_are p s nothing acc)) in (
      picked.found,
      record {
        number = picked.number;
        distinct = picked.once;
        free = All-from_recursion (IsFree s nothing) picked.found (each_free s picked.found picked.within picked.passed);
      },
    )

-- What is free and what is held add up.
use Rattle.std.proofs.Common.{◌≡◌, ℕ, zero, suc, ◌+◌, ◌<◌, Bool, true, false, List, [], ◌∷◌, length, map, refl, sym, ◌∙◌, ap, arith, cond}
use Rattle.std.specs.Prelude.{◌==◌, count_by, sum, fold, max}
use Rattle.std.specs.List.{AllByRecursion as Each, range_with_len}
use Rattle.std.proofs.lemmas.Bool.{eqb-true, eqb-false}
use Rattle.std.proofs.lemmas.List.Sums.{sum_by-cons}
use Rattle.flat_model.specs.Amounts.Weight.{times, nothing}
use Rattle.flat_model.specs.Machine.State.{State}
use Rattle.flat_model.specs.Machine.Ledger.{weight_of_state, count_of, free_mbufs, free_clusters, usage_of}
use Rattle.flat_model.specs.Runs.Consistent.{IsConsistent}
use Rattle.flat_model.proofs.Lists.Totals.{total, zeros, total_le, total_add, total_spike, spike, count_cons, count-append}

sum_total : (g : ℕ → ℕ) (at n : ℕ) → sum (map g (range_with_len at n)) ≡ total g at n
unfolding total
sum_total g at zero = refl
sum_total g at (suc n) = let rest = sum_total g (at + 1) n in
    omega (arith, sum_by-cons (λ x. x) (g at) (map g (range_with_len (at + 1) n)))

total_same : (g h : ℕ → ℕ) (at n : ℕ) → ((k : ℕ) → g k ≡ h k) → total g at n ≡ total h at n
total_same g h at n e =
    let low = total_le g h at n (λ k l m. let same = e k in omega arith) in
    let high = total_le h g at n (λ k l m. let same = e k in omega arith) in
    omega arith

-- the counts of all clusters are the references
counts_are : (bag : List ℕ) (n : ℕ) → Each (λ k. k < n) bag → total (λ k. times k bag) 0 n ≡ length bag
counts_are [] n h = total_same (λ k. times k []) (λ k. 0) 0 n (λ k. refl) ∙ zeros 0 n
counts_are (x ∷ xs) n h =
    let split = total_same (λ k. times k (x ∷ xs)) (λ k. spike x 1 k + times k xs) 0 n each in
    let both = total_add (spike x 1) (λ k. times k xs) 0 n in
    let one = total_spike x 1 0 n (omega arith) (omega (arith, h.0)) in
    let rest = counts_are xs n h.1 in
    omega arith
  where
    turn : (k : ℕ) (a b : Bool) → (x == k) ≡ a → (k == x) ≡ b → cond {A = ℕ} a 1 0 ≡ cond b 1 0
    turn k true true e t = refl
    turn k false false e t = refl
    turn k true false e t = absurd (eqb-false _ _ t (sym (eqb-true _ _ e)))
    turn k false true e t = absurd (eqb-false _ _ e (sym (eqb-true _ _ t)))

    each : (k : ℕ) → times k (x ∷ xs) ≡ spike x 1 k + times k xs
    each k = let same = turn k (x == k) (k == x) refl refl in omega (arith, count_cons (λ j. j == k) x xs)

pub free_and_held : (s : State) → IsConsistent s → free_mbufs s nothing + (weight_of_state s).mbufs ≡ s.config.mbufs
free_and_held s is = let le = is.mbufs in omega arith

pub references_are : (s : State) → IsConsistent s → (usage_of s).refs ≡ length (weight_of_state s).bag
references_are s is =
    sum_total (count_of s nothing) 0 s.config.clusters
    ∙ total_same (count_of s nothing) (λ k. times k (weight_of_state s).bag) 0 s.config.clusters
    (λ k. let app = count-append (λ j. j == k) (weight_of_state s).bag [] in omega arith)
    ∙ counts_are (weight_of_state s).bag s.config.clusters is.clusters

all_pass : (p : ℕ → Bool) (at n : ℕ) → ((k : ℕ) → p k ≡ true) → count_by p (range_with_len at n) ≡ n
all_pass p at zero h = refl
all_pass p at (suc n) h =
    let rest = all_pass p (at + 1) n h in
    let here : cond {A = ℕ} (p at) 1 0 ≡ 1 = ap (λ b. cond {A = ℕ} b 1 0) (h at) in
    omega (arith, count_cons p at (range_with_len (at + 1) n))

all_free : (s : State) → s.sockets ≡ [] → s.unfinished ≡ [] → s.output ≡ []
    → (free_mbufs s nothing ≡ s.config.mbufs) × (free_clusters s nothing ≡ s.config.clusters)
all_free s es eu eo = (
  (let none : (weight_of_state s).mbufs ≡ 0 = rw (es, eu, eo) refl in omega arith),
  all_pass (λ c. count_of s nothing c == 0) 0 s.config.clusters (λ k. rw (es, eu, eo) refl),
)

sum_zero : (g : ℕ → ℕ) (at n : ℕ) → ((k : ℕ) → g k ≡ 0) → sum (map g (range_with_len at n)) ≡ 0
sum_zero g at n none = sum_total g at n ∙ total_same g (λ k. 0) at n none ∙ zeros at n

most_zero : (g : ℕ → ℕ) (at n : ℕ) → ((k : ℕ) → g k ≡ 0) → fold max 0 (map g (range_with_len at n)) ≡ 0
most_zero g at zero none = refl
most_zero g at (suc n) none = rw (none at) (most_zero g (at + 1) n none)

-- if nothing is held, all buffers are free and no cluster has references
pub none_held : (s : State) → s.sockets ≡ [] → s.unfinished ≡ [] → s.output ≡ []
    → usage_of s ≡ record {
      free_mbufs = s.config.mbufs;
      mbufs = s.config.mbufs;
      free_clusters = s.config.clusters;
      clusters = s.config.clusters;
      refs = 0;
      most = 0;
    }
none_held s es eu eo =
    let counts : (k : ℕ) → count_of s nothing k ≡ 0 = (λ k. rw (es, eu, eo) refl) in
    let free = all_free s es eu eo in
    let refs = sum_zero (count_of s nothing) 0 s.config.clusters counts in
    let most = most_zero (count_of s nothing) 0 s.config.clusters counts in
    rw (free.0, free.1, refs, most) refl

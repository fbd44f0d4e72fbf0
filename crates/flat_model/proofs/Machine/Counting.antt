-- Increasing a counter: one number of a list changes, and so does one counter's value.
use Rattle.std.proofs.Common.{◌≡◌, ℕ, ◌<◌, cond, List, length, map, get_or, set, refl, sym, ap, ◌∙◌, arith, inl, inr}
use Rattle.std.specs.Prelude.{◌==◌}
use Rattle.std.specs.List.{range_with_len}
use Rattle.std.proofs.lemmas.Bool.{cases_eq, eq-eqb, ne_eqb}
use Rattle.std.proofs.lemmas.Grind.{same_number_lists}
use Rattle.std.proofs.lemmas.List.{length-set, get_or-set_same, get_or-set_other}
use Rattle.std.proofs.lemmas.List.FromFn.{get_or-map-range_with_len, length-map-range_with_len}
use denote.Enum.Enum.{tag_below}
use denote.Enum.Declared.{variants}
use Rattle.flat_model.specs.Machine.Count.{all_counters, more_by, counter_place, value_of, counts_more}
use Rattle.flat_model.specs.contracts.counter.Counter.{the_type}
use Rattle.flat_model.specs.declared.counter.TheConstants.{COUNTERS}
use Rattle.flat_model.specs.declared.counter.Counter.{Counter}
use Rattle.flat_model.specs.declared.counters.Counters.{Counters}

-- a list with one number changed, by its values at each index
module _ (n : ℕ) (xs : List ℕ) (i : ℕ) (f : ℕ → ℕ) (long : length xs ≡ n) (lt : i < n) where
  abbrev pub changed : ℕ → ℕ
  changed j = cond (j == i) (f (get_or xs j 0)) (get_or xs j 0)

  at : (j : ℕ) → get_or (set xs i (f (get_or xs i 0))) j 0 ≡ changed j
  at j = elim (cases_eq j i) [
    | inl e ↦
        ap (λ k. get_or (set xs i (f (get_or xs i 0))) k 0) e
        ∙ get_or-set_same xs i (f (get_or xs i 0)) 0 (omega (arith, long, lt))
        ∙ ap (λ k. f (get_or xs k 0)) (sym e)
        ∙ ap (λ b. cond {A = ℕ} b (f (get_or xs j 0)) (get_or xs j 0)) (sym (eq-eqb j i e))
    | inr ne ↦ get_or-set_other xs i j (f (get_or xs i 0)) 0 ne
        ∙ ap (λ b. cond {A = ℕ} b (f (get_or xs j 0)) (get_or xs j 0)) (sym (ne_eqb j i ne))
  ]

  pub set_is : set xs i (f (get_or xs i 0)) ≡ map changed (range_with_len 0 n)
  set_is = same_number_lists _ _ (length-set xs i _ ∙ long ∙ sym (length-map-range_with_len changed 0 n))
      (λ j below. at j ∙ sym (get_or-map-range_with_len changed 0 n j j 0
      (omega (arith, below, length-set xs i (f (get_or xs i 0)), long)) (omega arith)))

-- the order of printing is that of the type
places : map counter_place all_counters ≡ range_with_len 0 COUNTERS
places = refl

at_places : (f : ℕ → ℕ) → map f (map counter_place all_counters) ≡ map (λ other. f (counter_place other)) all_counters
at_places f = refl

-- increasing the number at a counter's place increases that counter
pub counts_is : (counter : Counter) (k : ℕ) (c : Counters) (value : ℕ) → length c.values ≡ COUNTERS
    → value ≡ more_by k (value_of counter c)
    → ◌≡◌ {A = Counters} (record { values = set c.values (counter_place counter) value }) (counts_more counter k c)
counts_is counter k c value long is =
    let below : counter_place counter < COUNTERS = tag_below (variants the_type) (the_type.to counter) in
    ap (λ (xs : List ℕ). record { values = xs }) (
    ap (set c.values (counter_place counter)) is
    ∙ set_is COUNTERS c.values (counter_place counter) (more_by k) long below
    ∙ ap (map (changed COUNTERS c.values (counter_place counter) (more_by k) long below)) (sym places)
    ∙ at_places (changed COUNTERS c.values (counter_place counter) (more_by k) long below)
    )

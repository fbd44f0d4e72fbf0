-- The weight of a chain after a join.
use Rattle.std.proofs.Common.{◌≡◌, ℕ, suc, ◌+◌, ◌-◌, ◌*◌, ◌<◌, ◌≤◌, cond, false, List, [], ◌∷◌, ◌++◌, length, nat_eq, Option, None, Some, is_some, refl, sym, ap, subst, arith, inl, inr}
use Rattle.std.specs.Prelude.{◌⊎◌}
use Rattle.std.specs.List.{cons_option}
use Rattle.std.proofs.lemmas.Bool.{cases_lt, cond-false}
use Rattle.std.proofs.lemmas.List.{length-append, length-map}
use Rattle.std.proofs.lemmas.List.Sums.{sum_by-cons}
use Rattle.mbuf_chain.specs.Chain.{Entry, flat_bytes, trailing_space, room_end}
use Rattle.mbuf_chain.specs.Steps.{with_back}
use Rattle.flat_model.specs.Amounts.Weight.{Covers, times}
use Rattle.flat_model.specs.Amounts.Layout as flat
use Rattle.flat_model.specs.Amounts.Layout.{weight_of}
use Rattle.chain_ops.specs.Joins.{filled_up, cat}
use Rattle.chain_ops.specs.Weights.{layout_entries, IsEntryFit, AreFit}
use Rattle.chain_ops.proofs.Joins.{plain_with_room, fill-goes, fill-stops}

-- ---- the number of mbufs
filled_length : (e : Entry) (fs : List Entry) → length (filled_up e fs) ≤ suc (length fs)
filled_length e [] = omega arith
filled_length e (f ∷ fs) = go (cases_lt (length f.bytes) (trailing_space e)) (filled_length (with_back e f.bytes) fs)
  where
    go : (length f.bytes < trailing_space e) ⊎ (trailing_space e ≤ length f.bytes)
        → length (filled_up (with_back e f.bytes) fs) ≤ suc (length fs)
        → length (filled_up e (f ∷ fs)) ≤ suc (suc (length fs))
    go (inl h) ih = omega (arith, ih, ap (λ (xs : List Entry). length xs) (fill-goes e f fs h))
    go (inr h) ih = omega (arith, ap (λ (xs : List Entry). length xs) (fill-stops e f fs h))

pub cat_length : (es fs : List Entry) → length (cat es fs) ≤ length es + length fs
cat_length [] fs = omega arith
cat_length (e ∷ []) fs = omega (arith, filled_length e fs)
cat_length (e ∷ f ∷ es) fs = omega (arith, cat_length (f ∷ es) fs)

-- ---- the clusters
-- how often a cluster is in an entry, and in a list of them
one_at : ℕ → Option ℕ → ℕ
one_at c None = 0
one_at c (Some k) = cond (nat_eq k c) 1 0

refs : ℕ → List Entry → ℕ
unfolding one_at
refs c [] = 0
refs c (e ∷ es) = one_at c e.cluster + refs c es

times_cons : (c : ℕ) (o : Option ℕ) (bag : List ℕ) → times c (cons_option o bag) ≡ one_at c o + times c bag
unfolding one_at
times_cons c None bag = omega arith
times_cons c (Some k) bag = sum_by-cons (λ (j : ℕ). cond {A = ℕ} (nat_eq j c) 1 0) k bag

times_placed : (c : ℕ) (es : List Entry) → times c (weight_of (layout_entries es)).bag ≡ refs c es
unfolding refs
times_placed c [] = refl
times_placed c (e ∷ es) = omega (arith, times_cons c e.cluster (weight_of (layout_entries es)).bag, times_placed c es)

filled_refs : (c : ℕ) (e : Entry) (fs : List Entry) → refs c (filled_up e fs) ≤ one_at c e.cluster + refs c fs
unfolding refs
filled_refs c e [] = omega arith
filled_refs c e (f ∷ fs) = go (cases_lt (length f.bytes) (trailing_space e)) (filled_refs c (with_back e f.bytes) fs)
  where
    go : (length f.bytes < trailing_space e) ⊎ (trailing_space e ≤ length f.bytes)
        → refs c (filled_up (with_back e f.bytes) fs) ≤ one_at c e.cluster + refs c fs
        → refs c (filled_up e (f ∷ fs)) ≤ one_at c e.cluster + (one_at c f.cluster + refs c fs)
    go (inl h) ih = omega (arith, ih, ap (refs c) (fill-goes e f fs h))
    go (inr h) ih = omega (arith, ap (refs c) (fill-stops e f fs h))

cat_refs : (c : ℕ) (es fs : List Entry) → refs c (cat es fs) ≤ refs c es + refs c fs
unfolding refs
cat_refs c [] fs = omega arith
cat_refs c (e ∷ []) fs = omega (arith, filled_refs c e fs)
cat_refs c (e ∷ f ∷ es) fs = omega (arith, cat_refs c (f ∷ es) fs)

times-append : (c : ℕ) (xs ys : List ℕ) → times c (xs ++ ys) ≡ times c xs + times c ys
times-append c [] ys = omega arith
times-append c (x ∷ xs) ys =
    omega (
      arith,
      times-append c xs ys,
      sum_by-cons (λ (j : ℕ). cond {A = ℕ} (nat_eq j c) 1 0) x (xs ++ ys),
      sum_by-cons (λ (j : ℕ). cond {A = ℕ} (nat_eq j c) 1 0) x xs,
    )

pub cat_bag : (es fs : List Entry) (c : ℕ)
    → times c (weight_of (layout_entries (cat es fs))).bag
    ≤ times c ((weight_of (layout_entries es)).bag ++ (weight_of (layout_entries fs)).bag)
cat_bag es fs c =
    omega (
      arith,
      times_placed c (cat es fs),
      times_placed c es,
      times_placed c fs,
      cat_refs c es fs,
      times-append c (weight_of (layout_entries es)).bag (weight_of (layout_entries fs)).bag,
    )

-- ---- room
more_fit : (e f : Entry) → IsEntryFit e → length f.bytes < trailing_space e → IsEntryFit (with_back e f.bytes)
more_fit e f h room =
    let plain : e.cluster ≡ None = plain_with_room e (length f.bytes) room in
    let is : is_some e.cluster ≡ false = ap (λ (o : Option ℕ). is_some o) plain in
    let end : room_end e ≡ 128 = cond-false {A = ℕ} (is_some e.cluster) 2048 128 is in
    let back : trailing_space e ≡ 128 - e.start - length e.bytes =
    cond-false {A = ℕ} (is_some e.cluster) 0 (128 - e.start - length e.bytes) is in
    record { low = h.low; high = omega (arith, h.high, end, back, room, length-append e.bytes f.bytes) }

filled_fit : (e : Entry) (fs : List Entry) → IsEntryFit e → AreFit fs → AreFit (filled_up e fs)
filled_fit e [] h hs = (h, tt)
filled_fit e (f ∷ fs) h hs =
    go (cases_lt (length f.bytes) (trailing_space e))
    (λ room. filled_fit (with_back e f.bytes) fs (more_fit e f h room) hs.1)
  where
    go : (length f.bytes < trailing_space e) ⊎ (trailing_space e ≤ length f.bytes)
        → (length f.bytes < trailing_space e → AreFit (filled_up (with_back e f.bytes) fs))
        → AreFit (filled_up e (f ∷ fs))
    go (inl room) ih = subst AreFit (sym (fill-goes e f fs room)) (ih room)
    go (inr room) ih = subst AreFit (sym (fill-stops e f fs room)) (h, (hs.0, hs.1))

pub cat_fit : (es fs : List Entry) → AreFit es → AreFit fs → AreFit (cat es fs)
cat_fit [] fs h hs = hs
cat_fit (e ∷ []) fs h hs = filled_fit e fs h.0 hs
cat_fit (e ∷ f ∷ es) fs h hs = (h.0, cat_fit (f ∷ es) fs h.1 hs)

record Held (es : List Entry) : Type 0 where
  bag : length (weight_of (layout_entries es)).bag ≤ length (layout_entries es)
  room : length (flat_bytes es) ≤ 108 * (length (layout_entries es) - length (weight_of (layout_entries es)).bag)
      + 2048 * length (weight_of (layout_entries es)).bag

held : (es : List Entry) → AreFit es → Held es
held [] h = record { bag = omega arith; room = omega arith }
held (e ∷ es) h = go e.cluster h.0.low h.0.high (held es h.1)
  where
    go : (o : Option ℕ) → cond {A = ℕ} (is_some o) 0 20 ≤ e.start
        → e.start + length e.bytes ≤ cond {A = ℕ} (is_some o) 2048 128 → Held es
        → Held (record { bytes = e.bytes; start = e.start; cluster = o } ∷ es)
    go None low high t =
        record {
          bag = omega (arith, t.bag);
          room = omega (arith, t.bag, t.room, low, high, length-append e.bytes (flat_bytes es));
        }
    go (Some c) low high t =
        record {
          bag = omega (arith, t.bag);
          room = omega (arith, t.bag, t.room, low, high, length-append e.bytes (flat_bytes es));
        }

pub covers_fit : (es : List Entry) → 0 < length es → AreFit es
    → Covers (weight_of (layout_entries es)) (length (flat_bytes es))
covers_fit es some h =
    let t : Held es = held es h in
    record {
      some = omega (
        arith,
        some,
        length-map es (λ (e : Entry). let x : flat.LayoutEntry = record { size = length e.bytes; cluster = e.cluster }
            in
            x),
      );
      references = t.bag;
      room = t.room;
    }

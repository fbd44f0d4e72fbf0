-- Whatever the generator draws, a packet that is added or arrives is one of the packets that there were.
use Rattle.std.proofs.Common.{◌≡◌, ℕ, ◌+◌, ◌-◌, ◌*◌, ◌/◌, ◌%◌, ◌^◌, ◌<◌, ◌≤◌, Bool, true, false, List, [], ◌∷◌, ◌++◌, length, map, take, drop, zero, suc, cond, refl, arith}
use Rattle.std.specs.Prelude.{◌==◌, not, bit_xor, filter, nat_lt, slice_get, slice_set, slice_index_or, swap, remove, option_to_list}
use Rattle.std.proofs.Math.Nat.{div-le_self, div-lt_iff_lt-mul, mul-lt-mul_of_pos_right}
use Rattle.std.proofs.lemmas.Bool.{eqb-true, eqb-false}
use Rattle.std.proofs.lemmas.Nat.{or_lt}
use Rattle.std.specs.List.{AllByRecursion as Each}
use Rattle.rand_pcg.specs.Lcg.{Lcg}
use Rattle.flat_model.proofs.Laws.{each-append, each-filter, each-map, each-take}
use Rattle.segment.specs.Chances.{chances_at, copies_before, drawn, entering, fate_of, reorder_at, shuffled_from, wait_of}
use Rattle.segment.specs.Flying.{Flying, flying_aged, is_due, is_early, waits}
use Rattle.segment.specs.Segment.{SegmentView, leaving}
use Rattle.segment.specs.declared.chances.Chances.{Chances}
use Rattle.segment.specs.declared.chances.Fate.{Fate}
use Rattle.segment.specs.declared.chances.Fate.TheVariants.{Lost, Once, Twice}

module _ {X : Type 0} (P : X → Type 0) where
  each_set : (xs : List X) (i : ℕ) (v : X) → Each P xs → P v → Each P (slice_set xs i v)
  each_set [] i v h k = tt
  each_set (x ∷ xs) zero v h k = (k, h.1)
  each_set (x ∷ xs) (suc i) v h k = (h.0, each_set xs i v h.1 k)

  at : (xs : List X) (i : ℕ) (d : X) → Each P xs → P d → P (slice_index_or xs i d)
  at [] i d h k = k
  at (x ∷ xs) zero d h k = h.0
  at (x ∷ xs) (suc i) d h k = at xs i d h.1 k

  pub each_swap : (xs : List X) (i j : ℕ) → Each P xs → Each P (swap xs i j)
  each_swap [] i j h = tt
  each_swap (d ∷ ys) i j h =
      each_set (slice_set (d ∷ ys) i (slice_index_or (d ∷ ys) j d)) j (slice_index_or (d ∷ ys) i d)
      (each_set (d ∷ ys) i (slice_index_or (d ∷ ys) j d) h (at (d ∷ ys) j d h h.0)) (at (d ∷ ys) i d h h.0)

module _ (Q : List ℕ → Type 0) where
  abbrev Fly : List Flying → Type 0
  Fly = Each (λ (f : Flying). Q f.packet)

  each_copies : (fate : Fate) (f : Flying) (later : List Flying) → Q f.packet → Fly later
      → Fly (copies_before fate f later)
  each_copies Lost f later q h = h
  each_copies (Once wait) f later q h = (q, h)
  each_copies (Twice first second) f later q h = (q, (q, h))

  pub each_entering : (chances : List Chances) (fs : List Flying) (g : Lcg) → Fly fs → Fly (entering chances fs g).0
  each_entering chances [] g h = tt
  each_entering chances (f ∷ fs) g h =
      each_copies (fate_of (chances_at chances f.sender) g).0 f
      (entering chances fs (fate_of (chances_at chances f.sender) g).1).0 h.0
      (each_entering chances fs (fate_of (chances_at chances f.sender) g).1 h.1)

  pub each_shuffled : (chances : List Chances) (n place : ℕ) (fs : List Flying) (g : Lcg) → Fly fs
      → Fly (shuffled_from chances n place fs g).0
  each_shuffled chances zero place fs g h = h
  each_shuffled chances (suc n) place fs g h =
      each_shuffled chances n (place + 1)
      (cond (nat_lt (drawn g).0 (reorder_at chances (slice_get fs place))) (swap fs place (place + 1)) fs) (drawn g).1
      (go (nat_lt (drawn g).0 (reorder_at chances (slice_get fs place))))
    where
      go : (b : Bool) → Fly (cond b (swap fs place (place + 1)) fs)
      go true = each_swap (λ (f : Flying). Q f.packet) fs place (place + 1) h
      go false = h

  pub each_leaving : (v : SegmentView) → Fly v.flight → Fly (leaving v).0
  each_leaving v h =
      each_shuffled v.chances (length (filter is_due v.flight) - 1) 0 (filter is_due v.flight) v.random
      (each-filter (λ (f : Flying). Q f.packet) is_due v.flight h)

  pub each_stay : (fs : List Flying) → Fly fs → Fly (map flying_aged (filter is_early fs))
  each_stay fs h =
      each-map (λ (f : Flying). Q f.packet) flying_aged (λ f q. q) (filter is_early fs)
      (each-filter (λ (f : Flying). Q f.packet) is_early fs h)

module _ (P : Flying → Type 0) where
  -- ---- by hand

  each_drop : (n : ℕ) (fs : List Flying) → Each P fs → Each P (drop n fs)
  each_drop zero fs h = h
  each_drop (suc n) [] h = tt
  each_drop (suc n) (f ∷ fs) h = each_drop n fs h.1

  each_got : (fs : List Flying) (place : ℕ) → Each P fs → Each P (option_to_list (slice_get fs place))
  each_got [] place h = tt
  each_got (f ∷ fs) zero h = (h.0, tt)
  each_got (f ∷ fs) (suc place) h = each_got fs place h.1

  pub each_lost : (place : ℕ) (fs : List Flying) → Each P fs → Each P (remove fs place)
  each_lost place fs h =
      each-append P (take place fs) (drop (suc place) fs) (each-take P place fs h) (each_drop (suc place) fs h)

  pub each_repeated : (room place : ℕ) (fs : List Flying) → Each P fs
      → Each P (take room (fs ++ option_to_list (slice_get fs place)))
  each_repeated room place fs h =
      each-take P room (fs ++ option_to_list (slice_get fs place))
      (each-append P fs (option_to_list (slice_get fs place)) h (each_got fs place h))

  pub each_swapped : (both : Bool) (place other : ℕ) (fs : List Flying) → Each P fs
      → Each P (cond both (swap fs place other) fs)
  each_swapped true place other fs h = each_swap P fs place other h
  each_swapped false place other fs h = h

-- ---- delays

-- a number that the generator draws has 32 bits
drawn_short : (g : Lcg) → (drawn g).0 < 2 ^ 32
unfolding drawn
drawn_short g =
    let n : ℕ = bit_xor (g.state / 2 ^ 18) g.state / 2 ^ 27 % 2 ^ 32 in
    let small : n < 2 ^ 32 = omega arith in
    let k : ℕ = 2 ^ (g.state / 2 ^ 59 % 32) in
    or_lt 32 (n / k) _ (omega (arith, small, div-le_self n k)) (omega arith)

-- so no delay is longer than the longest one
wait_within : (c : Chances) (number : ℕ) → number < 2 ^ 32 → wait_of c number ≤ c.delay + c.jitter
wait_within c number short =
    let less : number * (c.jitter + 1) < (c.jitter + 1) * 2 ^ 32 =
    omega (arith, mul-lt-mul_of_pos_right {k = c.jitter + 1} short (omega arith)) in
    let most : number * (c.jitter + 1) / 2 ^ 32 < c.jitter + 1 =
    (div-lt_iff_lt-mul {k = 2 ^ 32} (omega arith)).1 less in
    omega (arith, most)

-- what enters with a delay
module _ (chances : List Chances) (P Q : Flying → Type 0)
    (sends : (f : Flying) (wait : ℕ) → wait ≤ (chances_at chances f.sender).delay + (chances_at chances f.sender).jitter
    → P f → Q (waits wait f)) where
  copy : (f : Flying) (g : Lcg) → P f → Q (waits (wait_of (chances_at chances f.sender) (drawn g).0) f)
  copy f g p =
      sends f (wait_of (chances_at chances f.sender) (drawn g).0)
      (wait_within (chances_at chances f.sender) (drawn g).0 (drawn_short g)) p

  -- what its fate is, with the numbers from this generator on
  abbrev once_or_twice : Chances → Lcg → Bool → Fate × Lcg
  once_or_twice c g b =
      let first = drawn g in
      cond b (Twice (wait_of c first.0) (wait_of c (drawn first.1).0), (drawn first.1).1)
      (Once (wait_of c first.0), first.1)

  abbrev lost_or_not : Chances → Lcg → Bool → Fate × Lcg
  lost_or_not c g b = cond b (Lost, g) (once_or_twice c (drawn g).1 (nat_lt (drawn g).0 c.repeat))

  twice : (f : Flying) (g : Lcg) (later : List Flying) (b : Bool) → P f → Each Q later
      → Each Q (copies_before (once_or_twice (chances_at chances f.sender) g b).0 f later)
  twice f g later true p h = (copy f g p, (copy f (drawn g).1 p, h))
  twice f g later false p h = (copy f g p, h)

  lost : (f : Flying) (g : Lcg) (later : List Flying) (b : Bool) → P f → Each Q later
      → Each Q (copies_before (lost_or_not (chances_at chances f.sender) g b).0 f later)
  lost f g later true p h = h
  lost f g later false p h =
      twice f (drawn g).1 later (nat_lt (drawn g).0 (chances_at chances f.sender).repeat) p h

  pub each_delayed : (fs : List Flying) (g : Lcg) → Each P fs → Each Q (entering chances fs g).0
  each_delayed [] g h = tt
  each_delayed (f ∷ fs) g h =
      lost f (drawn g).1 (entering chances fs (fate_of (chances_at chances f.sender) g).1).0
      (nat_lt (drawn g).0 (chances_at chances f.sender).loss) h.0
      (each_delayed fs (fate_of (chances_at chances f.sender) g).1 h.1)

-- what is due, and what isn't, by its delay
module _ (P Q : Flying → Type 0) where
  pub each_due : ((f : Flying) → f.wait ≡ 0 → P f → Q f) → (fs : List Flying) → Each P fs → Each Q (filter is_due fs)
  each_due due [] h = tt
  each_due due (f ∷ fs) h = go (f.wait == 0) refl (each_due due fs h.1)
    where
      go : (b : Bool) → (f.wait == 0) ≡ b → Each Q (filter is_due fs)
          → Each Q (cond b (f ∷ filter is_due fs) (filter is_due fs))
      go true e later = (due f (eqb-true f.wait 0 e) h.0, later)
      go false e later = later

  pub each_early : ((f : Flying) → 0 < f.wait → P f → Q (flying_aged f)) → (fs : List Flying) → Each P fs
      → Each Q (map flying_aged (filter is_early fs))
  each_early early [] h = tt
  each_early early (f ∷ fs) h = go (f.wait == 0) refl (each_early early fs h.1)
    where
      go : (b : Bool) → (f.wait == 0) ≡ b → Each Q (map flying_aged (filter is_early fs))
          → Each Q (map flying_aged (cond (not b) (f ∷ filter is_early fs) (filter is_early fs)))
      go true e later = later
      go false e later = (early f (omega (arith, eqb-false f.wait 0 e)) h.0, later)

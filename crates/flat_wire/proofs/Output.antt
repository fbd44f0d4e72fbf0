-- What a send adds to the output queue.
use Rattle.std.proofs.Common.{◌≡◌, ℕ, zero, suc, ◌+◌, ◌-◌, ◌*◌, ◌<◌, ◌≤◌, true, List, [], ◌∷◌, ◌++◌, length, map, take, refl, sym, ◌∙◌, ap, subst, ◌⊎◌, inl, inr, arith}
use Rattle.std.specs.Prelude.{Contains}
use Rattle.std.specs.List.{AllByRecursion as Each, range_with_len}
use Rattle.std.proofs.lemmas.List.{take-append-le, append_assoc, length-append, map-append, length-map}
use Rattle.std.proofs.lemmas.List.FromFn.{map-range_with_len_more}
use Rattle.std.proofs.lemmas.List.Elements.{All-contains_itself, recursion_from_All, Contains-append_left}
use Rattle.std.proofs.lemmas.Bool.{lt-ltb, cases_lt}
use Rattle.flat_model.specs.Amounts.Weight.{Item}
use Rattle.flat_model.specs.Amounts.Layout.{LayoutEntry}
use Rattle.flat_model.specs.Fragments.Cuts.{Part, part, chunks, cuts}
use Rattle.flat_model.specs.Machine.Sending.{items, later_weight}
use Rattle.flat_model.proofs.Laws.{each-append, each-map_to, each-both, each-take, chunks_needed, chunks_enough}
use Rattle.flat_wire.proofs.Grid.{cuts_grid}

abbrev pub all_bytes : List Item → List (List ℕ)
all_bytes xs = map (λ (item : Item). item.bytes) xs

pub bytes_of_packets : (entries : List LayoutEntry) (f : Part → List ℕ) (parts : List Part)
    → all_bytes (items entries f parts) ≡ map f parts
bytes_of_packets entries f [] = refl
bytes_of_packets entries f (p ∷ later) = ap (λ rest. f p ∷ rest) (go later)
  where
    go : (ps : List Part) → all_bytes (map (λ q. record { bytes = f q; weight = later_weight entries q }) ps) ≡ map f ps
    go [] = refl
    go (q ∷ qs) = ap (λ rest. f q ∷ rest) (go qs)

-- the parts before the last one, which all have more after them, and the last one, which doesn't
pub record IsSplit (parts : List Part) : Type 0 where
  pub front : List Part
  pub last : Part
  pub are : parts ≡ front ++ last ∷ []
  pub more : Each (λ p. p.more ≡ true) front

front_more : (n c i k : ℕ) → ((j : ℕ) → j < i + k → (j + 1) * c < n)
    → Each (λ p. p.more ≡ true) (map (part n c) (range_with_len i k))
front_more n c i zero h = tt
front_more n c i (suc k) h =
    (lt-ltb ((i + 1) * c) n (h i (omega arith)), front_more n c (i + 1) k (λ j l. h j (omega arith)))

pub cuts_split : (n mtu : ℕ) → 0 < n → 28 ≤ mtu → IsSplit (cuts n mtu)
cuts_split n mtu some low =
    let g = cuts_grid n mtu some low in
    let c : ℕ = g.0 in
    let any : 0 < chunks n c = go c (chunks n c) refl g.1 (chunks_enough n c g.1) in
    let count : chunks n c - 1 + 1 ≡ chunks n c = omega arith in
    record {
      front = map (part n c) (range_with_len 0 (chunks n c - 1));
      last = part n c (chunks n c - 1);
      are =
          g.2 ∙ ap (λ k. map (part n c) (range_with_len 0 k)) (sym count)
          ∙ map-range_with_len_more (part n c) 0 (chunks n c - 1) (chunks n c - 1) (omega arith);
      more = front_more n c 0 (chunks n c - 1) (λ j l. chunks_needed n c (j + 1) g.1 (omega arith));
    }
  where
    go : (c k : ℕ) → chunks n c ≡ k → 0 < c → n ≤ chunks n c * c → 0 < k
    go c zero e h l = let none : chunks n c * c ≡ 0 * c = ap (λ m. m * c) e in absurd (omega arith)
    go c (suc k) e h l = omega arith

-- The packets in a queue of at most so many after a send. If the send overflows the queue, its last packet isn't among
-- them.
pub each_queued : (Q : List ℕ → Type 0) (most : ℕ) (old : List (List ℕ)) (f : Part → List ℕ) (parts : List Part)
    → Each Q old
    → IsSplit parts
    → ((p : Part) → Contains parts p → ((p.more ≡ true) ⊎ (length old + length parts ≤ most)) → Q (f p))
    → Each Q (take most (old ++ map f parts))
each_queued Q most old f parts queued split good = go (cases_lt most (length old + length parts))
  where
    itself : Each (Contains parts) parts
    itself = recursion_from_All (Contains parts) parts (All-contains_itself parts)

    go : (most < length old + length parts) ⊎ (length old + length parts ≤ most)
        → Each Q (take most (old ++ map f parts))
    go (inr h) =
        each-take Q most _
        (each-append Q old (map f parts) queued (each-map_to Q f (λ p is. good p is (inr h)) parts itself))
    go (inl h) =
        let size : length parts ≡ length split.front + 1 =
        ap length split.are ∙ length-append split.front (split.last ∷ []) in
        let shape : old ++ map f parts ≡ (old ++ map f split.front) ++ f split.last ∷ [] =
        ap (λ ps. old ++ map f ps) split.are ∙ ap (λ ys. old ++ ys) (map-append f split.front (split.last ∷ []))
        ∙ sym (append_assoc old (map f split.front) (f split.last ∷ [])) in
        let long : most ≤ length (old ++ map f split.front) =
        omega (arith, length-append old (map f split.front), length-map split.front f) in
        let in_front : Each (Contains split.front) split.front =
        recursion_from_All (Contains split.front) split.front (All-contains_itself split.front) in
        let front_good : Each (λ p. Q (f p)) split.front =
        each-both (λ p is more. good p
        (subst (λ ps. Contains ps p) (sym split.are) (Contains-append_left split.front (split.last ∷ []) p is))
        (inl more)) split.front in_front split.more in
        subst (Each Q) (sym (ap (take most) shape
        ∙ take-append-le most (old ++ map f split.front) (f split.last ∷ []) long))
        (each-take Q most _
        (each-append Q old (map f split.front) queued (each-map_to Q f (λ p h. h) split.front front_good)))

-- what was added to a queue of at most so many
pub added : {X : Type 0} (most : ℕ) (old more made : List X) → old ++ made ≡ take most (old ++ more)
    → made ≡ take (most - length old) more
added most [] more made e = e ∙ ap (λ n. take n more) (sym (minus-nothing most))
  where
    minus-nothing : (n : ℕ) → n - 0 ≡ n
    minus-nothing n = omega arith
added zero (x ∷ old) more made e = absurd (none e)
  where
    none : x ∷ (old ++ made) ≡ [] → ⊥
    none e = cc
added (suc most) (x ∷ old) more made e =
    added most old more made (tails e) ∙ ap (λ n. take n more) (same most (length old))
  where
    tails : x ∷ (old ++ made) ≡ x ∷ take most (old ++ more) → old ++ made ≡ take most (old ++ more)
    tails e = cc

    same : (m n : ℕ) → m - n ≡ suc m - suc n
    same m n = omega arith

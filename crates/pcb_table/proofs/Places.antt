-- A block at an index, and the list after a write or a removal there.
use Rattle.std.proofs.Common.{subst, ◌≡◌, ℕ, zero, suc, ◌+◌, ◌<◌, ◌≤◌, Bool, true, false, not, cond, List, [], ◌∷◌, map, filter, find, length, get_or, set, position, count_by, nat_lt, All, Option, Some, None, is_some, refl, sym, ap, ◌∙◌, arith}
use Rattle.std.specs.Prelude.{remove, IfSome, OnSome}
use Rattle.std.specs.List.{position_or_len, AllByRecursion}
use Rattle.std.specs.Option.{option_or}
use Rattle.std.proofs.lemmas.Bool.{ltb-false, eq-eqb, eqb-true}
use Rattle.std.proofs.lemmas.List.Sums.{sum_by-set, sum_by-remove}
use Rattle.std.proofs.lemmas.List.Quantifiers.{position-Some}
use Rattle.std.proofs.lemmas.Option.{none-some, same_Some}
use Rattle.pcb_table.specs.declared.block.Block.{Block}
use Rattle.flat_model.specs.declared.lookup_key.LookupKey.{LookupKey}
use Rattle.flat_model.specs.Sockets.Lookup.{up_to_first}
use Rattle.pcb_table.specs.Table.{IsDescriptor}
use Rattle.pcb_table.specs.Inside.Search.{youngest_block, best_block, receiving_blocks}
use Rattle.pcb_table.specs.Apart.{does_match, has_score, has_fd, AreApart}
use Rattle.pcb_table.specs.Inside.Fields.{IsLocated}
use Rattle.flat_model.proofs.Laws.{count_cons}

-- ---- counts

-- 1 for a block that passes the test, otherwise 0
abbrev pub one_if : Bool → ℕ
one_if t = cond t 1 0

pub one_if-most : (t : Bool) → one_if t ≤ 1
one_if-most true = omega arith
one_if-most false = omega arith

module _ (p : Block → Bool) where
  pub counted-set : (bs : List Block) (i : ℕ) (y d : Block) → i < length bs
      → count_by p (set bs i y) + one_if (p (get_or bs i d)) ≡ count_by p bs + one_if (p y)
  counted-set bs i y d lt = sum_by-set (λ b. cond (p b) 1 0) bs i y d lt

  pub counted-remove : (bs : List Block) (i : ℕ) (d : Block) → i < length bs
      → count_by p (remove bs i) + one_if (p (get_or bs i d)) ≡ count_by p bs
  counted-remove bs i d lt = sum_by-remove (λ b. cond (p b) 1 0) bs i d lt

  pub counts_at : (bs : List Block) (i : ℕ) (d : Block) → i < length bs → p (get_or bs i d) ≡ true → 1 ≤ count_by p bs
  counts_at bs i d lt met = omega (arith, counted-remove bs i d lt, ap one_if met)

  pub none_counted : (bs : List Block) → find p bs ≡ None → count_by p bs ≡ 0
  none_counted [] e = refl
  none_counted (b ∷ bs) e = go (none_counted bs) (p b) refl e
    where
      go : (find p bs ≡ None → count_by p bs ≡ 0) → (t : Bool) → p b ≡ t → cond t (Some b) (find p bs) ≡ None
          → count_by p (b ∷ bs) ≡ 0
      go rest true met e = absurd (none-some b (sym e))
      go rest false missed e = omega (arith, count_cons p b bs, ap one_if missed, rest e)

  -- ---- the only block that passes

  module _ (f : Block → Block) where
    changed_none : (bs : List Block) → count_by p bs ≡ 0 → bs ≡ map (λ b. cond (p b) (f b) b) bs
    changed_none [] e = refl
    changed_none (b ∷ bs) e = go (changed_none bs) (p b) refl
      where
        go : (count_by p bs ≡ 0 → bs ≡ map (λ c. cond (p c) (f c) c) bs) → (t : Bool) → p b ≡ t
            → b ∷ bs ≡ cond t (f b) b ∷ map (λ c. cond (p c) (f c) c) bs
        go rest true met = absurd (omega (arith, count_cons p b bs, ap one_if met))
        go rest false missed = ap (λ cs. b ∷ cs) (rest (omega (arith, count_cons p b bs)))

    pub set_changes : (bs : List Block) (i : ℕ) (d : Block) → i < length bs → p (get_or bs i d) ≡ true
        → count_by p bs ≤ 1 → set bs i (f (get_or bs i d)) ≡ map (λ b. cond (p b) (f b) b) bs
    set_changes [] i d lt met once = absurd (omega arith)
    set_changes (b ∷ bs) zero d lt met once =
        λ i. cond (sym met i) (f b) b ∷ changed_none bs (omega (arith, count_cons p b bs, ap one_if met)) i
    set_changes (b ∷ bs) (suc k) d lt met once = go (set_changes bs k d (omega arith) met) (p b) refl
      where
        go : (count_by p bs ≤ 1 → set bs k (f (get_or bs k d)) ≡ map (λ c. cond (p c) (f c) c) bs) → (t : Bool)
            → p b ≡ t → b ∷ set bs k (f (get_or bs k d)) ≡ cond t (f b) b ∷ map (λ c. cond (p c) (f c) c) bs
        go rest true first =
            absurd (omega (arith, count_cons p b bs, ap one_if first, counts_at bs k d (omega arith) met))
        go rest false other = ap (λ cs. b ∷ cs) (rest (omega (arith, count_cons p b bs)))

    -- a change that keeps this block the same
    pub only_changes : (bs : List Block) (d : Block) → f d ≡ d → find p bs ≡ Some d → count_by p bs ≤ 1
        → bs ≡ map (λ b. cond (p b) (f b) b) bs
    only_changes [] d same e once = refl
    only_changes (b ∷ bs) d same e once = go (only_changes bs d same) (p b) refl e
      where
        go : (find p bs ≡ Some d → count_by p bs ≤ 1 → bs ≡ map (λ c. cond (p c) (f c) c) bs) → (t : Bool) → p b ≡ t
            → cond t (Some b) (find p bs) ≡ Some d → b ∷ bs ≡ cond t (f b) b ∷ map (λ c. cond (p c) (f c) c) bs
        go rest true met e =
            let is : b ≡ d = same_Some b d e in
            let kept : b ≡ f b = is ∙ sym same ∙ ap f (sym is) in
            λ i. kept i ∷ changed_none bs (omega (arith, once, count_cons p b bs, ap one_if met)) i
        go rest false missed e = ap (λ cs. b ∷ cs) (rest e (omega (arith, once, count_cons p b bs)))

  kept_all : (bs : List Block) → count_by p bs ≡ 0 → bs ≡ filter (λ b. not (p b)) bs
  kept_all [] e = refl
  kept_all (b ∷ bs) e = go (kept_all bs) (p b) refl
    where
      go : (count_by p bs ≡ 0 → bs ≡ filter (λ c. not (p c)) bs) → (t : Bool) → p b ≡ t
          → b ∷ bs ≡ cond (not t) (b ∷ filter (λ c. not (p c)) bs) (filter (λ c. not (p c)) bs)
      go rest true met = absurd (omega (arith, count_cons p b bs, ap one_if met))
      go rest false missed = ap (λ cs. b ∷ cs) (rest (omega (arith, count_cons p b bs)))

  pub remove_filters : (bs : List Block) (i : ℕ) (d : Block) → i < length bs → p (get_or bs i d) ≡ true
      → count_by p bs ≤ 1 → remove bs i ≡ filter (λ b. not (p b)) bs
  remove_filters [] i d lt met once = absurd (omega arith)
  remove_filters (b ∷ bs) zero d lt met once =
      kept_all bs (omega (arith, count_cons p b bs, ap one_if met))
      ∙ (λ i. cond (not (sym met i)) (b ∷ filter (λ c. not (p c)) bs) (filter (λ c. not (p c)) bs))
  remove_filters (b ∷ bs) (suc k) d lt met once = go (remove_filters bs k d (omega arith) met) (p b) refl
    where
      go : (count_by p bs ≤ 1 → remove bs k ≡ filter (λ c. not (p c)) bs) → (t : Bool) → p b ≡ t
          → b ∷ remove bs k ≡ cond (not t) (b ∷ filter (λ c. not (p c)) bs) (filter (λ c. not (p c)) bs)
      go rest true first =
          absurd (omega (arith, count_cons p b bs, ap one_if first, counts_at bs k d (omega arith) met))
      go rest false other = ap (λ cs. b ∷ cs) (rest (omega (arith, count_cons p b bs)))

  pub find_only : (bs : List Block) (i : ℕ) (d : Block) → i < length bs → p (get_or bs i d) ≡ true → count_by p bs ≤ 1
      → find p bs ≡ Some (get_or bs i d)
  find_only [] i d lt met once = absurd (omega arith)
  find_only (b ∷ bs) zero d lt met once = λ i. cond (met i) (Some b) (find p bs)
  find_only (b ∷ bs) (suc k) d lt met once = go (find_only bs k d (omega arith) met) (p b) refl
    where
      go : (count_by p bs ≤ 1 → find p bs ≡ Some (get_or bs k d)) → (t : Bool) → p b ≡ t
          → cond t (Some b) (find p bs) ≡ Some (get_or bs k d)
      go rest true first =
          absurd (omega (arith, count_cons p b bs, ap one_if first, counts_at bs k d (omega arith) met))
      go rest false other = rest (omega (arith, count_cons p b bs))

  -- ---- a block that a search found is in the list

  pub find_gives : (bs : List Block) (x : Block) → find p bs ≡ Some x
      → (i : ℕ) × (i < length bs) × (get_or bs i x ≡ x) × (p x ≡ true)
  find_gives [] x e = absurd (none-some x e)
  find_gives (b ∷ bs) x e = go (find_gives bs x) (p b) refl e
    where
      go : (find p bs ≡ Some x → (i : ℕ) × (i < length bs) × (get_or bs i x ≡ x) × (p x ≡ true)) → (t : Bool) → p b ≡ t
          → cond t (Some b) (find p bs) ≡ Some x
          → (i : ℕ) × (i < suc (length bs)) × (get_or (b ∷ bs) i x ≡ x) × (p x ≡ true)
      go rest true met e = let same : b ≡ x = same_Some b x e in (0, omega arith, same, ap p (sym same) ∙ met)
      go rest false missed e = let r = rest e in (suc r.0, omega (arith, r.1), r.2, r.3)

-- ---- indices by `position`

no_place_within : (p : Block → Bool) (bs : List Block) → length bs ≤ position_or_len p bs → find p bs ≡ None
no_place_within p [] le = refl
no_place_within p (b ∷ bs) le = go (no_place_within p bs) (p b) le
  where
    go : (length bs ≤ position_or_len p bs → find p bs ≡ None) → (t : Bool)
        → suc (length bs) ≤ cond (not t) (1 + position_or_len p bs) 0 → cond t (Some b) (find p bs) ≡ None
    go rest true le = absurd (omega arith)
    go rest false le = rest (omega (arith, le))

pub no_place : (p : Block → Bool) (bs : List Block) → position p bs ≡ None → find p bs ≡ None
no_place p bs e = go (nat_lt (position_or_len p bs) (length bs)) refl e
  where
    go : (t : Bool) → nat_lt (position_or_len p bs) (length bs) ≡ t → cond t (Some (position_or_len p bs)) None ≡ None
        → find p bs ≡ None
    go true lt e = absurd (none-some (position_or_len p bs) (sym e))
    go false ge e = no_place_within p bs (ltb-false (position_or_len p bs) (length bs) ge)

at_any : (bs : List Block) (i : ℕ) (d e : Block) → i < length bs → get_or bs i d ≡ get_or bs i e
at_any [] i d e lt = absurd (omega arith)
at_any (b ∷ bs) zero d e lt = refl
at_any (b ∷ bs) (suc i) d e lt = at_any bs i d e (omega arith)

pub placed : (fd : ℕ) (bs : List Block) (i : ℕ) (d : Block) → position (has_fd fd) bs ≡ Some i
    → IsLocated fd bs i (get_or bs i d)
placed fd bs i d e =
    let at = position-Some (has_fd fd) bs i d e in
    record { within = at.0; is = λ x. at_any bs i x d at.0; named = eqb-true (get_or bs i d).fd fd at.1 }

-- ---- blocks apart

-- a block that was found is the one of its descriptor
pub found_by_fd : (p : Block → Bool) (bs : List Block) (b : Block) → AreApart bs → find p bs ≡ Some b
    → find (has_fd b.fd) bs ≡ Some b
found_by_fd p bs b apart e =
    let at = find_gives p bs b e in
    let here : has_fd b.fd (get_or bs at.0 b) ≡ true = ap (has_fd b.fd) at.2 ∙ eq-eqb b.fd b.fd refl in
    find_only (has_fd b.fd) bs at.0 b at.1 here (apart.fds b.fd) ∙ ap Some at.2

pub found_range : (p : Block → Bool) (bs : List Block) (b : Block) → AreApart bs → find p bs ≡ Some b
    → IsDescriptor b.fd
found_range p bs b apart e =
    let at = find_gives p bs b e in
    let here : has_fd b.fd (get_or bs at.0 b) ≡ true = ap (has_fd b.fd) at.2 ∙ eq-eqb b.fd b.fd refl in
    let counts = counts_at (has_fd b.fd) bs at.0 b at.1 here in
    record {
      least = apart.least b.fd (omega (arith, counts));
      most = let m = apart.most b.fd (omega (arith, counts)) in omega (arith, m);
    }

pub named_as_key : (fd : ℕ) (bs : List Block) (o : Option Block) → o ≡ find (has_fd fd) bs → IfSome o (λ b. b.fd ≡ fd)
named_as_key fd bs None e = tt
named_as_key fd bs (Some b) e = eqb-true b.fd fd (find_gives (has_fd fd) bs b (sym e)).3

pub found_in_range : (fd : ℕ) (bs : List Block) (o : Option Block) → AreApart bs → o ≡ find (has_fd fd) bs
    → OnSome o (IsDescriptor fd)
found_in_range fd bs None apart e = tt
found_in_range fd bs (Some b) apart e =
    subst IsDescriptor (named_as_key fd bs (Some b) e) (found_range (has_fd fd) bs b apart (sym e))

pub best_found_as : (q : LookupKey) (bs : List Block) (b : Block) → best_block q bs ≡ Some b
    → (k : ℕ) × (youngest_block k q bs ≡ Some b)
best_found_as q bs b e = go (youngest_block 0 q bs) (youngest_block 1 q bs) refl refl e
  where
    go : (x y : Option Block) → youngest_block 0 q bs ≡ x → youngest_block 1 q bs ≡ y
        → option_or x (option_or y (youngest_block 2 q bs)) ≡ Some b → (k : ℕ) × (youngest_block k q bs ≡ Some b)
    go (Some x) y ex ey e = (0, ex ∙ e)
    go None (Some y) ex ey e = (1, ey ∙ e)
    go None None ex ey e = (2, e)

pub best_by_fd : (q : LookupKey) (bs : List Block) (b : Block) → AreApart bs → best_block q bs ≡ Some b
    → find (has_fd b.fd) bs ≡ Some b
best_by_fd q bs b apart e = let k = best_found_as q bs b e in found_by_fd (has_score k.0 q) bs b apart k.1

pub best_range : (q : LookupKey) (bs : List Block) (b : Block) → AreApart bs → best_block q bs ≡ Some b
    → IsDescriptor b.fd
best_range q bs b apart e = let k = best_found_as q bs b e in found_range (has_score k.0 q) bs b apart k.1

-- a block that has an index is found
pub located_some : (fd index : ℕ) (bs : List Block) (b : Block) → IsLocated fd bs index b
    → is_some (find (has_fd fd) bs) ≡ true
located_some fd index bs b at = go (find (has_fd fd) bs) refl
  where
    go : (o : Option Block) → find (has_fd fd) bs ≡ o → is_some (find (has_fd fd) bs) ≡ true
    go (Some x) e = ap is_some e
    go None e =
        absurd (omega (
          arith,
          none_counted (has_fd fd) bs e,
          counts_at (has_fd fd) bs index b at.within (ap (has_fd fd) (at.is b) ∙ eq-eqb b.fd fd at.named),
        ))

-- ---- a block at its index

module _ (bs : List Block) (fd index : ℕ) (b : Block) (apart : AreApart bs) (at : IsLocated fd bs index b) where
  located_passes : has_fd fd (get_or bs index b) ≡ true
  located_passes = ap (has_fd fd) (at.is b) ∙ eq-eqb b.fd fd at.named

  pub located_found : find (has_fd fd) bs ≡ Some b
  located_found = find_only (has_fd fd) bs index b at.within located_passes (apart.fds fd) ∙ ap Some (at.is b)

  pub located_set : (f : Block → Block) → set bs index (f b) ≡ map (λ c. cond (has_fd fd c) (f c) c) bs
  located_set f =
      ap (λ c. set bs index (f c)) (sym (at.is b))
      ∙ set_changes (has_fd fd) f bs index b at.within located_passes (apart.fds fd)

  pub located_remove : remove bs index ≡ filter (λ c. not (has_fd fd c)) bs
  located_remove = remove_filters (has_fd fd) bs index b at.within located_passes (apart.fds fd)

-- ---- what holds of all blocks holds of those that a test selects

module _ (P : Block → Type 0) where
  pub each_filtered : (p : Block → Bool) (bs : List Block) → AllByRecursion P bs → AllByRecursion P (filter p bs)
  each_filtered p [] h = tt
  each_filtered p (b ∷ bs) h = go (p b) (each_filtered p bs h.1)
    where
      go : (t : Bool) → AllByRecursion P (filter p bs) → AllByRecursion P (cond t (b ∷ filter p bs) (filter p bs))
      go true rest = (h.0, rest)
      go false rest = rest

  pub each_up_to_first : (p : Block → Bool) (bs : List Block) → AllByRecursion P bs
      → AllByRecursion P (up_to_first p bs)
  each_up_to_first p [] h = tt
  each_up_to_first p (b ∷ bs) h = go (p b) (each_up_to_first p bs h.1)
    where
      go : (t : Bool) → AllByRecursion P (up_to_first p bs) → AllByRecursion P (cond t (b ∷ []) (b ∷ up_to_first p bs))
      go true rest = (h.0, tt)
      go false rest = (h.0, rest)

  pub all_of_each : (bs : List Block) → AllByRecursion P bs → All P bs
  all_of_each [] h = λ k d lt. absurd (omega arith)
  all_of_each (b ∷ bs) h = λ k d lt. go (all_of_each bs h.1) k d lt
    where
      go : All P bs → (k : ℕ) (d : Block) → k < suc (length bs) → P (get_or (b ∷ bs) k d)
      go rest zero d lt = h.0
      go rest (suc k) d lt = rest k d (omega arith)

  pub each_of_all : (bs : List Block) → All P bs → AllByRecursion P bs
  each_of_all [] h = tt
  each_of_all (b ∷ bs) h = (h 0 b (omega arith), each_of_all bs (λ k d lt. h (suc k) d (omega arith)))

pub all_by_fd : (bs : List Block) → AreApart bs → All (λ b. find (has_fd b.fd) bs ≡ Some b) bs
all_by_fd bs apart =
    λ k d lt. find_only (has_fd (get_or bs k d).fd) bs k d lt (eq-eqb (get_or bs k d).fd (get_or bs k d).fd refl)
    (apart.fds (get_or bs k d).fd)

pub receiving_by_fd : (q : LookupKey) (bs : List Block) → AreApart bs
    → All (λ b. find (has_fd b.fd) bs ≡ Some b) (receiving_blocks q bs)
receiving_by_fd q bs apart =
    let P : Block → Type 0 = λ b. find (has_fd b.fd) bs ≡ Some b in
    all_of_each P (receiving_blocks q bs)
    (each_up_to_first P (λ b. not b.reuse_port) (filter (does_match q) bs)
    (each_filtered P (does_match q) bs (each_of_all P bs (all_by_fd bs apart))))

pub receiving_range : (q : LookupKey) (bs : List Block) → AreApart bs → All (λ b. IsDescriptor b.fd) (receiving_blocks q bs)
receiving_range q bs apart =
    λ k d lt. found_range (has_fd (get_or (receiving_blocks q bs) k d).fd) bs (get_or (receiving_blocks q bs) k d) apart
    (receiving_by_fd q bs apart k d lt)

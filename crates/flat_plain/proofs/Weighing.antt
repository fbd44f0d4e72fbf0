-- Weights that are added up one after another, and how much of a pool they are.
use Rattle.std.proofs.Common.{◌≡◌, ℕ, zero, suc, ◌+◌, ◌-◌, ◌*◌, ◌<◌, ◌≤◌, Bool, true, false, List, [], ◌∷◌, ◌++◌, length, take, drop, get_or, refl, sym, ◌∙◌, ap, arith, cond, Option, Some, None, map, min, max, append-nil}
use Rattle.std.specs.Prelude.{nat_lt, ◌==◌, slice_index_or, filter_map, count_by, sum, fold}
use Rattle.std.specs.List.{range_with_len, cons_option}
use Rattle.std.proofs.lemmas.List.{take_all, get_or_past}
use Rattle.std.proofs.lemmas.List.Elements.{filter_map-append}
use Rattle.std.proofs.lemmas.List.FromFn.{map-range_with_len_more}
use Rattle.std.proofs.lemmas.List.Sums.{fold-append}
use Rattle.flat_model.specs.Amounts.Weight as flat
use Rattle.flat_model.specs.Amounts.Weight.{nothing, ◌⊕◌, all_of, times, SameWeight}
use Rattle.flat_model.specs.Machine.State.{State}
use Rattle.flat_model.specs.Machine.Ledger.{weight_of_state, count_of, free_mbufs, free_clusters, usage_of}
use Rattle.flat_model.specs.Amounts.Layout as Layout
use Rattle.flat_model.specs.Amounts.Layout.{meets_from}
use Rattle.flat_model.specs.Fragments.Overlay.{Held, Piece, Map}
use Rattle.flat_model.specs.Fragments.Whole as Whole
use Rattle.flat_model.specs.Fragments.Whole.{piece_at, pieces_below}
use Rattle.flat_model.proofs.Laws.{count_cons, count-append, times-both, both-nothing, both-assoc, nothing-both, all_of-append}
use Rattle.flat_plain.specs.declared.maps.Cell.{Cell}
use Rattle.flat_plain.specs.declared.weights.Entry.{Entry}
use Rattle.flat_plain.specs.Tables.{plain_map, held_of, weight_of_mbufs}
use Rattle.flat_plain.specs.Weights.{plain_entry, entries_of, entry_size, weight_begun}

-- ---- mbufs that overlap a range

first_weight : (e : Entry) (rest : List Layout.LayoutEntry)
    → Layout.weight_of (plain_entry e ∷ rest) ≡ weight_of_mbufs 1 (e.cluster ∷ []) ⊕ Layout.weight_of rest
first_weight e rest = go e.cluster
  where
    go : (o : Option ℕ) → Layout.weight_of (record { size = e.size; cluster = o } ∷ rest)
        ≡ weight_of_mbufs 1 (o ∷ []) ⊕ Layout.weight_of rest
    go None = let one : suc (length rest) ≡ 1 + length rest = omega arith in
        λ i. record { mbufs = one i; bag = filter_map (λ (x : Layout.LayoutEntry). x.cluster) rest }
    go (Some k) = let one : suc (length rest) ≡ 1 + length rest = omega arith in
        λ i. record { mbufs = one i; bag = k ∷ filter_map (λ (x : Layout.LayoutEntry). x.cluster) rest }

-- what one of them adds
abbrev pub met : Bool → Option ℕ → flat.Weight
met b cluster = cond b (weight_of_mbufs 1 (cluster ∷ [])) nothing

met_next : (e : Entry) (rest : List Layout.LayoutEntry) (at a b : ℕ) (t : Bool)
    → nat_lt (max at a) (min (at + e.size) b) ≡ t
    → Layout.weight_of (meets_from entry_size at (plain_entry e ∷ rest) a b)
    ≡ met t e.cluster ⊕ Layout.weight_of (meets_from entry_size (at + e.size) rest a b)
unfolding meets_from
met_next e rest at a b true h = rw h (first_weight e (meets_from entry_size (at + e.size) rest a b))
met_next e rest at a b false h =
    rw h (sym (nothing-both (Layout.weight_of (meets_from entry_size (at + e.size) rest a b))))

pub met_none : (es : List Entry) (at a b : ℕ) (w : flat.Weight) → length es < 1
    → w ≡ w ⊕ Layout.weight_of (meets_from entry_size at (entries_of es) a b)
unfolding meets_from
met_none [] at a b w h = sym (both-nothing w)
met_none (e ∷ es) at a b w h = absurd (omega arith)

pub met_step : (es : List Entry) (d : Entry) (at a b : ℕ) (t : Bool) (old mid new : flat.Weight) → 0 < length es
    → nat_lt (max at a) (min (at + (get_or es 0 d).size) b) ≡ t
    → mid ≡ old ⊕ met t (get_or es 0 d).cluster
    → new ≡ mid ⊕ Layout.weight_of
    (meets_from entry_size (at + (get_or es 0 d).size) (entries_of (take (length es - 1) (drop 1 es))) a b)
    → new ≡ old ⊕ Layout.weight_of (meets_from entry_size at (entries_of es) a b)
met_step [] d at a b t old mid new some e here later = absurd (omega arith)
met_step (e ∷ es) d at a b t old mid new some h here later =
    later
    ∙ ap (λ xs. mid ⊕ Layout.weight_of (meets_from entry_size (at + e.size) (entries_of xs) a b))
    (take_all (suc (length es) - 1) es (omega arith))
    ∙ ap (λ w. w ⊕ Layout.weight_of (meets_from entry_size (at + e.size) (entries_of es) a b)) here
    ∙ both-assoc old (met t e.cluster) (Layout.weight_of (meets_from entry_size (at + e.size) (entries_of es) a b))
    ∙ ap (λ w. old ⊕ w) (sym (met_next e (entries_of es) at a b t h))

-- ---- pieces

range_more : (a n : ℕ) → range_with_len a (n + 1) ≡ range_with_len a n ++ (a + n) ∷ []
range_more a zero = ap (λ (k : ℕ). k ∷ []) (omega arith)
range_more a (suc n) =
    let one : suc n + 1 ≡ suc (n + 1) = omega arith in
    let last : a + 1 + n ≡ a + suc n = omega arith in
    ap (range_with_len a) one ∙ ap (λ (l : List ℕ). a ∷ l) (range_more (a + 1) n)
    ∙ ap (λ (k : ℕ). a ∷ (range_with_len (a + 1) n ++ k ∷ [])) last

abbrev weigh : List Piece → flat.Weight
weigh ps = all_of (λ (p : Piece). p.weight) ps

one_piece : (k : ℕ) (o : Option Cell) → weigh (cons_option (piece_at k (held_of o)) []) ≡ weight_begun o k
one_piece k None = refl
one_piece k (Some cell) = go (cell.first == k)
  where
    go : (b : Bool) → weigh (cons_option
        (cond b (Some (record {
          first = cell.first;
          more = cell.more;
          weight = weight_of_mbufs cell.mbufs cell.clusters;
        }))
        None) []) ≡ cond b (weight_of_mbufs cell.mbufs cell.clusters) nothing
    go true = both-nothing (weight_of_mbufs cell.mbufs cell.clusters)
    go false = refl

pub pieces_none : (m : Map) → weigh (pieces_below 0 m) ≡ nothing
unfolding pieces_below
pieces_none m = refl

pub pieces_more : (cells : List (Option Cell)) (k : ℕ) (old new : flat.Weight)
    → old ≡ weigh (pieces_below k (plain_map cells)) → new ≡ old ⊕ weight_begun (slice_index_or cells k None) k
    → new ≡ weigh (pieces_below (k + 1) (plain_map cells))
unfolding pieces_below
pieces_more cells k old new was is =
    let f : ℕ → Option Piece = λ o. piece_at o (plain_map cells o) in
    let more : range_with_len 0 (k + 1) ≡ range_with_len 0 k ++ k ∷ [] =
    range_more 0 k ∙ ap (λ (j : ℕ). range_with_len 0 k ++ j ∷ []) (omega arith) in
    is
    ∙ ap (λ w. w ⊕ weight_begun (slice_index_or cells k None) k) was
    ∙ ap (λ w. weigh (filter_map f (range_with_len 0 k)) ⊕ w) (sym (one_piece k (slice_index_or cells k None)))
    ∙ sym (all_of-append (λ (p : Piece). p.weight) (filter_map f (range_with_len 0 k)) (cons_option (f k) []))
    ∙ ap weigh (sym (filter_map-append f (range_with_len 0 k) (k ∷ [])))
    ∙ ap (λ (js : List ℕ). weigh (filter_map f js)) (sym more)

-- no piece begins at an empty offset
none_past : (m : Map) (n at more : ℕ) → n ≤ at → ((k : ℕ) → n ≤ k → m k ≡ None)
    → filter_map (λ o. piece_at o (m o)) (range_with_len at more) ≡ []
none_past m n at zero le none = refl
none_past m n at (suc more) le none =
    ap (λ (o : Option Held). cons_option (piece_at at o)
    (filter_map (λ o. piece_at o (m o)) (range_with_len (at + 1) more))) (none at le)
    ∙ none_past m n (at + 1) more (omega arith) none

range_split : (a n k : ℕ) → range_with_len a (n + k) ≡ range_with_len a n ++ range_with_len (a + n) k
range_split a zero k =
    ap (λ (j : ℕ). range_with_len a j) (omega arith) ∙ ap (λ (j : ℕ). range_with_len j k) (omega arith)
range_split a (suc n) k =
    let one : suc n + k ≡ suc (n + k) = omega arith in
    let later : a + 1 + n ≡ a + suc n = omega arith in
    ap (range_with_len a) one ∙ ap (λ (l : List ℕ). a ∷ l) (range_split (a + 1) n k)
    ∙ ap (λ (j : ℕ). a ∷ (range_with_len (a + 1) n ++ range_with_len j k)) later

pub pieces_all : (cells : List (Option Cell)) (k : ℕ) (w : flat.Weight) → length cells ≤ k → k ≤ 65515
    → w ≡ weigh (pieces_below k (plain_map cells)) → w ≡ Whole.weight_of_pieces (plain_map cells)
unfolding pieces_below
pieces_all cells k w past small is =
    let f : ℕ → Option Piece = λ o. piece_at o (plain_map cells o) in
    let all : 65515 ≡ k + (65515 - k) = omega arith in
    let none : (j : ℕ) → k ≤ j → plain_map cells j ≡ None =
    λ j le. ap held_of (get_or_past cells j None (omega arith)) in
    is
    ∙ ap weigh (sym (append-nil (filter_map f (range_with_len 0 k)))
    ∙ ap (λ (ps : List Piece). filter_map f (range_with_len 0 k) ++ ps)
    (sym (none_past (plain_map cells) k (0 + k) (65515 - k) (omega arith) none))
    ∙ sym (filter_map-append f (range_with_len 0 k) (range_with_len (0 + k) (65515 - k)))
    ∙ ap (filter_map f) (sym (range_split 0 k (65515 - k)))
    ∙ ap (λ (j : ℕ). filter_map f (range_with_len 0 j)) (sym all))

-- ---- counts of all clusters

module _ (bag : List ℕ) where
  abbrev pub counts_to : ℕ → List ℕ
  counts_to n = map (λ c. times c bag) (range_with_len 0 n)

  counts_more : (k : ℕ) → counts_to (k + 1) ≡ counts_to k ++ times k bag ∷ []
  counts_more k = map-range_with_len_more (λ c. times c bag) 0 k k (omega arith)

  -- the counts of the clusters below k are in these numbers
  pub record AreCounted (k free refs most : ℕ) : Type 0 where
    pub free_is : free ≡ count_by (λ c. times c bag == 0) (range_with_len 0 k)
    pub refs_are : refs ≡ sum (counts_to k)
    pub most_is : most ≡ fold max 0 (counts_to k)
    pub few_free : free ≤ k
    pub few_refs : refs ≤ 65536 * k

  pub one_counted : (k free refs most count more : ℕ) → AreCounted k free refs most → count ≡ times k bag
      → count ≤ 65536 → more ≡ cond (count == 0) 1 0
      → AreCounted (k + 1) (free + more) (refs + count) (max most count)
  one_counted k free refs most count more a is few one = record {
    free_is = go
        ∙ sym (ap (count_by (λ c. times c bag == 0))
        (range_more 0 k ∙ ap (λ (j : ℕ). range_with_len 0 k ++ j ∷ []) (omega arith))
        ∙ count-append (λ c. times c bag == 0) (range_with_len 0 k) (k ∷ []));
    refs_are =
        omega (
          arith,
          a.refs_are,
          is,
          ap sum (counts_more k),
          fold-append (λ a x. a + x) 0 (counts_to k) (times k bag ∷ []),
        );
    most_is =
        (λ i. max (a.most_is i) (is i))
        ∙ sym (ap (fold max 0) (counts_more k) ∙ fold-append max 0 (counts_to k) (times k bag ∷ []));
    few_free = omega (arith, a.few_free, at_most (count == 0));
    few_refs = omega (arith, a.few_refs);
  }
    where
      at_most : (b : Bool) → cond {A = ℕ} b 1 0 ≤ 1
      at_most true = omega arith
      at_most false = omega arith

      here : more ≡ count_by (λ c. times c bag == 0) (k ∷ [])
      here =
          one ∙ ap (λ (n : ℕ). cond {A = ℕ} (n == 0) 1 0) is
          ∙ (let last = count_cons (λ c. times c bag == 0) k [] in omega arith)

      go : free + more ≡ count_by (λ c. times c bag == 0) (range_with_len 0 k)
          + count_by (λ c. times c bag == 0) (k ∷ [])
      go = λ i. a.free_is i + here i

pub usage_is : (s : State) (held : flat.Weight) (mbufs clusters free refs most n : ℕ) → s.config.mbufs ≡ mbufs
    → s.config.clusters ≡ clusters → SameWeight (weight_of_state s) held
    → AreCounted held.bag clusters free refs most → n ≡ mbufs - held.mbufs
    → usage_of s ≡ record {
      free_mbufs = n;
      mbufs = mbufs;
      free_clusters = free;
      clusters = clusters;
      refs = refs;
      most = most;
    }
usage_is s held mbufs clusters free refs most n m c same counted is =
    let count : (k : ℕ) → count_of s nothing k ≡ times k held.bag =
    λ k. omega (arith, same.bag k, times-both k (weight_of_state s) nothing) in
    let counts : map (count_of s nothing) (range_with_len 0 s.config.clusters) ≡ counts_to held.bag clusters =
    λ i. map (λ k. count k i) (range_with_len 0 (c i)) in
    let free_is : free_clusters s nothing ≡ free =
    (λ i. count_by (λ k. count k i == 0) (range_with_len 0 (c i))) ∙ sym counted.free_is in
    let free_mbufs_is : free_mbufs s nothing ≡ n = omega (arith, same.mbufs) in
    let refs_are : sum (map (count_of s nothing) (range_with_len 0 s.config.clusters)) ≡ refs =
    ap sum counts ∙ sym counted.refs_are in
    let most_is : fold max 0 (map (count_of s nothing) (range_with_len 0 s.config.clusters)) ≡ most =
    ap (fold max 0) counts ∙ sym counted.most_is in
    λ i. record {
      free_mbufs = free_mbufs_is i;
      mbufs = m i;
      free_clusters = free_is i;
      clusters = c i;
      refs = refs_are i;
      most = most_is i;
    }

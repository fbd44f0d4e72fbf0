-- One live chain moved to the front of the lists, and one of its mbufs.
use Rattle.std.proofs.Common.{◌≡◌, ℕ, zero, suc, ◌+◌, ◌<◌, ◌≤◌, true, List, [], ◌∷◌, length, map, Option, None, Some, refl, sym, ap, ◌∙◌, subst, arith, inl, inr, slice_get, slice_index_or, slice_index}
use Rattle.std.specs.FinMap as finmap
use Rattle.std.specs.List.{AllByRecursion}
use Rattle.std.proofs.lemmas.Option.{get_or_from_slice_get, same_Some}
use Rattle.mbuf_pool.specs.Store.{StoreView, mbuf_head, is_out}
use Rattle.mbuf_chain.specs.declared.place.Place.{Place}
use Rattle.mbuf_chain.specs.Chain.{ChainView, chain_of, IsLive, entry_of, no_entry, IsPlace}
use Rattle.mbuf_chain.specs.Inside.Cells.{weigh, weigh_all, is_at, one, entry_at, refers_at, first_of, read_chain, cells_from, view_of, IsLinked, IsChain, IsTotal, IsTotalBy, IsOff, AreSoundChains, IsFit, pool_of, IsPool, IsFreeable, LeadsToEnd}
use Rattle.std.proofs.lemmas.Bool.{cases_eq, cases_lt}
use Rattle.mbuf_chain.proofs.Lists.{chains_of, walk_is, is_at_same, is_at_other, small, bit, few_out}
use Rattle.mbuf_chain.proofs.Changes.{Focus, focus, count_ones}

-- a live chain: its mbufs, the other chains' mbufs, and the pool's map as a map without that chain and the chain
pub record Focused (s : StoreView) (c : ℕ) : Type 0 where
  pub cells : List ℕ
  pub rest : List (List ℕ)
  pub sound : AreSoundChains s (cells ∷ rest)
  pub chain : IsChain s cells
  pub linked : IsLinked s (Some c) cells
  pub walks : cells_from s (Some c) ≡ cells
  pub first : first_of cells ≡ c
  pub shows : read_chain s cells ≡ chain_of (pool_of s) c
  pub fresh : finmap.get (chains_of s rest) c ≡ None
  pub map_is : view_of s ≡ finmap.insert (chains_of s rest) c (chain_of (pool_of s) c)

pub linked_from : (s : StoreView) (c : ℕ) (l : List ℕ) → first_of l ≡ c → IsChain s l → IsLinked s (Some c) l
linked_from s c [] first h = absurd h
linked_from s c (x ∷ xs) first h = (ap {B = Option ℕ} Some (sym first), h.0.1, h.0.2, h.0.3)

abbrev focused_of : (s : StoreView) (lists : List (List ℕ)) (c : ℕ) → Focus s lists c (chain_of (pool_of s) c)
    → Focused s c
focused_of s lists c f = record {
  cells = f.found.cells;
  rest = f.found.rest;
  sound = f.sound;
  chain = f.sound.linked.0;
  linked = linked_from s c f.found.cells f.found.first f.sound.linked.0;
  walks =
      walk_is (length s.mbufs) s (Some c) f.found.cells (linked_from s c f.found.cells f.found.first f.sound.linked.0)
      (omega (arith, f.sound.total, few_out s));
  first = f.found.first;
  shows = f.found.shows;
  fresh = f.fresh;
  map_is = f.map_is;
}

-- a live chain of a pool; and one of a pool in which that chain's packet length is wrong
pub record Opened (s : StoreView) (c : ℕ) : Type 0 where
  pub at : Focused s c
  pub totals : IsTotal s at.cells × AllByRecursion (IsTotal s) at.rest

pub record OpenedOff (s : StoreView) (c added removed : ℕ) : Type 0 where
  pub at : Focused s c
  pub totals : IsTotalBy s c added removed at.cells × AllByRecursion (IsTotalBy s c added removed) at.rest

pub open_on : (s : StoreView) (c : ℕ) → IsPool s → IsLive (pool_of s) c → Opened s c
open_on s c (lists, ok, totals) is =
    let f = focus s lists c (chain_of (pool_of s) c) ok is in
    record { at = focused_of s lists c f; totals = f.found.totals totals }

pub open_off : (s : StoreView) (c added removed : ℕ) → IsOff s c added removed → IsLive (pool_of s) c
    → OpenedOff s c added removed
open_off s c added removed (lists, ok, totals) is =
    let f = focus s lists c (chain_of (pool_of s) c) ok is in
    record { at = focused_of s lists c f; totals = f.found.totals_by c added removed totals }

-- the mbufs of a live chain can be freed
pub freeable : (s : StoreView) (c : ℕ) → Focused s c → IsFreeable s (Some c)
freeable s c f = record {
  whole = subst (IsLinked s (Some c)) (sym f.walks) f.linked;
  store = f.sound.store;
  once = λ k. omega (arith, ap (weigh (is_at k)) f.walks, f.sound.once k);
  counted = λ q. omega (arith, ap (weigh (refers_at s q)) f.walks, f.sound.counted q);
}

pub whole_of : (s : StoreView) (c : ℕ) → Focused s c → LeadsToEnd s (Some c)
whole_of s c f = subst (IsLinked s (Some c)) (sym f.walks) f.linked

pub once_in : (s : StoreView) (c : ℕ) → (f : Focused s c) → (k : ℕ)
    → weigh (is_at k) f.cells + weigh_all (is_at k) f.rest ≤ 1
once_in s c f k = omega (arith, f.sound.once k, small (is_out s k))

-- ---- one of its mbufs
pub in_list : (l : List ℕ) (i : ℕ) → i < weigh one l → 0 < weigh (is_at (slice_index l i)) l
in_list [] i h = absurd (omega arith)
in_list (x ∷ xs) zero h = omega (arith, is_at_same x)
in_list (x ∷ xs) (suc i) h = omega (arith, in_list xs i (omega arith))

pub entry_in : (s : StoreView) (l : List ℕ) (i : ℕ) → i < weigh one l
    → slice_index_or (map (entry_at s) l) i no_entry ≡ entry_at s (slice_index l i)
entry_in s [] i h = absurd (omega arith)
entry_in s (x ∷ xs) zero h = refl
entry_in s (x ∷ xs) (suc i) h = entry_in s xs i (omega arith)

pub fit_in : (s : StoreView) (at : Option ℕ) (l : List ℕ) (i : ℕ) → IsLinked s at l → i < weigh one l
    → IsFit (mbuf_head s (slice_index l i))
fit_in s at [] i h lt = absurd (omega arith)
fit_in s at (x ∷ xs) zero h lt = h.2
fit_in s at (x ∷ xs) (suc i) h lt = fit_in s (mbuf_head s x).next xs i h.3 (omega arith)

-- the facts about the mbuf at a place of a live chain
pub record Entered (s : StoreView) (c : ℕ) (f : Focused s c) (i x : ℕ) : Type 0 where
  pub below : i < weigh one f.cells
  pub cell : slice_index f.cells i ≡ x
  pub inside : 0 < weigh (is_at x) f.cells
  pub out : is_out s x ≡ true
  pub shows : entry_of (chain_of (pool_of s) c) i ≡ entry_at s x
  pub fit : IsFit (mbuf_head s x)

pub count_cells : (s : StoreView) (c : ℕ) → (f : Focused s c)
    → length (chain_of (pool_of s) c).entries ≡ weigh one f.cells
count_cells s c f = ap (λ (v : ChainView). length v.entries) (sym f.shows) ∙ count_ones s f.cells

pub enter : (s : StoreView) (c : ℕ) (at : Place) → (f : Focused s c) → IsPlace (chain_of (pool_of s) c) at
    → Entered s c f at.index at.cell
enter s c at f is =
    let below : at.index < weigh one f.cells = omega (arith, is.within, count_cells s c f) in
    let cell : slice_index f.cells at.index ≡ at.cell =
    get_or_from_slice_get f.cells at.index at.cell 0
    (ap (λ (v : ChainView). slice_get v.cells at.index) f.shows ∙ is.cell) in
    let inside : 0 < weigh (is_at at.cell) f.cells =
    subst (λ (j : ℕ). 0 < weigh (is_at j) f.cells) cell (in_list f.cells at.index below) in
    record {
      below = below;
      cell = cell;
      inside = inside;
      out = bit (is_out s at.cell) (omega (arith, f.sound.once at.cell));
      shows =
          ap (λ (v : ChainView). entry_of v at.index) (sym f.shows) ∙ entry_in s f.cells at.index below
          ∙ ap (entry_at s) cell;
      fit = subst (λ (j : ℕ). IsFit (mbuf_head s j)) cell (fit_in s (Some c) f.cells at.index f.linked below);
    }

-- the first mbuf is in use
pub first_out : (s : StoreView) (c : ℕ) → Focused s c → is_out s c ≡ true
first_out s c f = go f.cells f.linked f.chain
  where
    go : (l : List ℕ) → IsLinked s (Some c) l → IsChain s l → is_out s c ≡ true
    go [] g h = absurd h
    go (y ∷ ys) g h = ap (is_out s) (same_Some c y g.0) ∙ g.1

-- a sum over a list is at least each of its terms
pub weigh_has : (f : ℕ → ℕ) (x : ℕ) (l : List ℕ) → 0 < weigh (is_at x) l → f x ≤ weigh f l
weigh_has f x [] h = absurd (omega arith)
weigh_has f x (y ∷ ys) h = elim (cases_eq y x) [
  | inl e ↦ omega (arith, ap f e)
  | inr ne ↦ omega (arith, weigh_has f x ys (omega (arith, is_at_other x y ne)))
]

pub weigh_all_has : (f : ℕ → ℕ) (x : ℕ) (ls : List (List ℕ)) → 0 < weigh_all (is_at x) ls → f x ≤ weigh_all f ls
weigh_all_has f x [] h = absurd (omega arith)
weigh_all_has f x (l ∷ ls) h = elim (cases_lt 0 (weigh (is_at x) l)) [
  | inl lt ↦ omega (arith, weigh_has f x l lt)
  | inr le ↦ omega (arith, weigh_all_has f x ls (omega arith))
]

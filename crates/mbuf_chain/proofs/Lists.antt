-- The lists of mbufs of a pool's chains: the links determine them, and they determine the pool's map.
use Rattle.std.proofs.Common.{◌≡◌, ◌≢◌, ℕ, zero, suc, ◌+◌, ◌*◌, ◌<◌, ◌≤◌, Bool, true, false, not, cond, ◌&&◌, nat_eq, List, [], ◌∷◌, length, Option, None, Some, is_some, refl, sym, ap, ◌∙◌, subst, arith, inl, inr}
use Rattle.std.specs.Ordering.{nat_cmp}
use Rattle.std.specs.FinMap as finmap
use Rattle.std.specs.FinMap.{FinMap, get-empty}
use Rattle.std.specs.Option.{option_eq}
use Rattle.std.specs.List.{AllByRecursion}
use Rattle.std.proofs.lemmas.Bool.{cases_lt, cases_eq, cases_Bool, eq-eqb, ne_eqb, eqb-true, false≢true, and_parts, or_cases, and_from, or_left, or_right}
use Rattle.std.proofs.lemmas.List.Sums.{count_by-le-length}
use Rattle.std.proofs.lemmas.Option.{none-some, same_Some}
use Rattle.std.proofs.lemmas.List.{get_or_past}
use Rattle.mbuf_pool.specs.Cells.{Head}
use Rattle.mbuf_pool.specs.Store.{StoreView, MbufView, mbuf_head, is_out, mbufs_out}
use Rattle.mbuf_chain.specs.Chain.{ChainView}
use Rattle.mbuf_chain.specs.Inside.Cells.{weigh, weigh_all, is_at, one, first_of, read_chain, walk, cells_from, is_pointed, chain_at, IsLinked, IsChain, AreSoundChains, IsFit, IsTotal, IsTotalBy, LeadsToEnd, len_at}
use Rattle.mbuf_chain.proofs.Maps.{get_here, get_there}

-- the first chain in the lists that begins with mbuf q
abbrev pub find_first : StoreView → ℕ → List (List ℕ) → Option ChainView
find_first s q [] = None
find_first s q (l ∷ ls) = cond (nat_eq (first_of l) q) (Some (read_chain s l)) (find_first s q ls)

-- the map of the chains of the lists
abbrev pub chains_of : StoreView → List (List ℕ) → FinMap nat_cmp ChainView
chains_of s [] = finmap.empty
chains_of s (l ∷ ls) = finmap.insert (chains_of s ls) (first_of l) (read_chain s l)

pub get-chains_of : (s : StoreView) (lists : List (List ℕ)) (q : ℕ)
    → finmap.get (chains_of s lists) q ≡ find_first s q lists
get-chains_of s [] q = get-empty nat_cmp q
get-chains_of s (l ∷ ls) q =
    elim (cases_eq (first_of l) q) [
      | inl e ↦ subst (λ (j : ℕ). finmap.get (finmap.insert (chains_of s ls) (first_of l) (read_chain s l)) j
          ≡ cond (nat_eq (first_of l) j) (Some (read_chain s l)) (find_first s j ls)) e
          (get_here (chains_of s ls) (first_of l) (read_chain s l)
          ∙ ap (λ b. cond b (Some (read_chain s l)) (find_first s (first_of l) ls))
          (sym (eq-eqb (first_of l) (first_of l) refl)))
      | inr ne ↦ get_there (chains_of s ls) (first_of l) (read_chain s l) q (λ e. ne (sym e)) ∙ get-chains_of s ls q
          ∙ ap (λ b. cond b (Some (read_chain s l)) (find_first s q ls)) (sym (ne_eqb (first_of l) q ne))
    ]

pub on : (b : Bool) → b ≡ true → cond {A = ℕ} b 1 0 ≡ 1
on b e = ap {B = ℕ} (λ x. cond x 1 0) e

pub off : (b : Bool) → b ≡ false → cond {A = ℕ} b 1 0 ≡ 0
off b e = ap {B = ℕ} (λ x. cond x 1 0) e

pub small : (b : Bool) → cond {A = ℕ} b 1 0 ≤ 1
small true = omega arith
small false = omega arith

pub bit : (b : Bool) → 0 < cond {A = ℕ} b 1 0 → b ≡ true
bit true h = refl
bit false h = absurd (omega arith)

-- ---- how often an mbuf is the first of a list, and how often a later one
abbrev pub tail : List ℕ → List ℕ
tail [] = []
tail (c ∷ cs) = cs

abbrev pub heads_at : ℕ → List (List ℕ) → ℕ
heads_at q [] = 0
heads_at q (l ∷ ls) = is_at q (first_of l) + heads_at q ls

abbrev pub tails_at : ℕ → List (List ℕ) → ℕ
tails_at q [] = 0
tails_at q (l ∷ ls) = weigh (is_at q) (tail l) + tails_at q ls

pub split_first : (s : StoreView) (q : ℕ) (l : List ℕ) → IsChain s l
    → weigh (is_at q) l ≡ is_at q (first_of l) + weigh (is_at q) (tail l)
split_first s q [] h = absurd h
split_first s q (c ∷ cs) h = refl

pub heads-tails : (s : StoreView) (q : ℕ) (lists : List (List ℕ)) → AllByRecursion (IsChain s) lists
    → weigh_all (is_at q) lists ≡ heads_at q lists + tails_at q lists
heads-tails s q [] h = refl
heads-tails s q (l ∷ ls) h = omega (arith, split_first s q l h.0, heads-tails s q ls h.1)

pub is_at_same : (q : ℕ) → is_at q q ≡ 1
is_at_same q = on (nat_eq q q) (eq-eqb q q refl)

pub is_at_other : (q c : ℕ) → c ≢ q → is_at q c ≡ 0
is_at_other q c ne = off (nat_eq c q) (ne_eqb c q ne)

-- an mbuf that isn't the first of its list is the next of another
after : (s : StoreView) (q : ℕ) (at : Option ℕ) (c : ℕ) (cs : List ℕ) → IsLinked s at (c ∷ cs) → 0 < weigh (is_at q) cs
    → (k : ℕ) × (0 < weigh (is_at k) (c ∷ cs)) × ((mbuf_head s k).next ≡ Some q)
after s q at c [] h p = absurd (omega arith)
after s q at c (d ∷ ds) h p =
    elim (cases_eq d q) [
      | inl e ↦ (c, omega (arith, is_at_same c), h.3.0 ∙ ap {B = Option ℕ} Some e)
      | inr ne ↦
          let later = after s q (mbuf_head s c).next d ds h.3 (omega (arith, is_at_other q d ne)) in
          (later.0, omega (arith, later.1), later.2)
    ]

after_all : (s : StoreView) (q : ℕ) (lists : List (List ℕ)) → AllByRecursion (IsChain s) lists → 0 < tails_at q lists
    → (k : ℕ) × (0 < weigh_all (is_at k) lists) × ((mbuf_head s k).next ≡ Some q)
after_all s q [] h p = absurd (omega arith)
after_all s q ([] ∷ ls) h p = absurd h.0
after_all s q ((c ∷ cs) ∷ ls) h p =
    elim (cases_lt 0 (weigh (is_at q) cs)) [
      | inl here ↦ let found = after s q (Some c) c cs h.0.0 here in (found.0, omega (arith, found.1), found.2)
      | inr gone ↦ let found = after_all s q ls h.1 (omega arith) in (found.0, omega (arith, found.1), found.2)
    ]

-- the next mbuf of an mbuf is in the rest of the list
following_next : (s : StoreView) (q k : ℕ) (at : Option ℕ) (c : ℕ) (cs : List ℕ) → IsLinked s at (c ∷ cs)
    → 0 < weigh (is_at k) (c ∷ cs) → (mbuf_head s k).next ≡ Some q → 0 < weigh (is_at q) cs
following_next s q k at c [] h p e =
    elim (cases_eq c k) [
      | inl is ↦ absurd (none-some q (sym (sym e ∙ ap (λ j. (mbuf_head s j).next) (sym is) ∙ h.3)))
      | inr not ↦ absurd (omega (arith, is_at_other k c not))
    ]
following_next s q k at c (d ∷ ds) h p e =
    elim (cases_eq c k) [
      | inl is ↦ let same : d ≡ q = same_Some d q (sym h.3.0 ∙ ap (λ j. (mbuf_head s j).next) is ∙ e) in
          subst (λ (j : ℕ). 0 < is_at j d + weigh (is_at j) ds) same (omega (arith, is_at_same d))
      | inr not ↦ let later =
          following_next s q k (mbuf_head s c).next d ds h.3 (omega (arith, is_at_other k c not)) e in
          omega (arith, later)
    ]

next_after_all : (s : StoreView) (q k : ℕ) (lists : List (List ℕ)) → AllByRecursion (IsChain s) lists
    → 0 < weigh_all (is_at k) lists → (mbuf_head s k).next ≡ Some q → 0 < tails_at q lists
next_after_all s q k [] h p e = absurd (omega arith)
next_after_all s q k ([] ∷ ls) h p e = absurd h.0
next_after_all s q k ((c ∷ cs) ∷ ls) h p e =
    elim (cases_lt 0 (weigh (is_at k) (c ∷ cs))) [
      | inl here ↦ let found = following_next s q k (Some c) c cs h.0.0 here e in omega (arith, found)
      | inr gone ↦ let found = next_after_all s q k ls h.1 (omega arith) e in omega (arith, found)
    ]

-- ---- following the links yields the list
pub walk_is : (n : ℕ) (s : StoreView) (at : Option ℕ) (l : List ℕ) → IsLinked s at l → weigh one l ≤ n → walk n s at ≡ l
walk_is zero s at [] h le = refl
walk_is (suc n) s at [] h le = ap (walk (suc n) s) h
walk_is zero s at (c ∷ cs) h le = absurd (omega arith)
walk_is (suc n) s at (c ∷ cs) h le =
    ap (walk (suc n) s) h.0 ∙ ap (λ (xs : List ℕ). c ∷ xs) (walk_is n s (mbuf_head s c).next cs h.3 (omega arith))

-- ---- which mbufs are the next of another
next_is : (a : Option ℕ) (q : ℕ) → option_eq nat_eq a (Some q) ≡ true → a ≡ Some q
next_is None q e = absurd (false≢true e)
next_is (Some x) q e = ap {B = Option ℕ} Some (eqb-true x q e)

is_next : (a : Option ℕ) (q : ℕ) → a ≡ Some q → option_eq nat_eq a (Some q) ≡ true
is_next a q e = ap (λ (o : Option ℕ). option_eq nat_eq o (Some q)) e ∙ eq-eqb q q refl

pointed_by : (n : ℕ) (s : StoreView) (q : ℕ) → is_pointed n s q ≡ true
    → (k : ℕ) × (k < n) × (is_out s k ≡ true) × ((mbuf_head s k).next ≡ Some q)
pointed_by zero s q e = absurd (false≢true e)
pointed_by (suc n) s q e =
    elim (or_cases (is_out s n && option_eq nat_eq (mbuf_head s n).next (Some q)) (is_pointed n s q) e) [
      | inl here ↦ let parts = and_parts (is_out s n) (option_eq nat_eq (mbuf_head s n).next (Some q)) here in
          (n, omega arith, parts.0, next_is _ q parts.1)
      | inr below ↦ let found = pointed_by n s q below in (found.0, omega (arith, found.1), found.2, found.3)
    ]

points : (n : ℕ) (s : StoreView) (q k : ℕ) → k < n → is_out s k ≡ true → (mbuf_head s k).next ≡ Some q
    → is_pointed n s q ≡ true
points zero s q k lt out e = absurd (omega arith)
points (suc n) s q k lt out e =
    elim (cases_eq k n) [
      | inl is ↦ or_left _ (is_pointed n s q)
          (subst (λ (j : ℕ). (is_out s j && option_eq nat_eq (mbuf_head s j).next (Some q)) ≡ true) is
          (and_from _ _ out (is_next _ q e)))
      | inr not ↦ or_right _ (is_pointed n s q) (points n s q k (omega arith) out e)
    ]

-- ---- the chain at a number, by the mbufs and by the lists
pub not_first : (s : StoreView) (q : ℕ) (lists : List (List ℕ)) → heads_at q lists ≡ 0 → find_first s q lists ≡ None
not_first s q [] h = refl
not_first s q (l ∷ ls) h =
    elim (cases_eq (first_of l) q) [
      | inl e ↦ absurd (omega (arith, is_at_same q, ap (is_at q) e))
      | inr ne ↦ ap (λ b. cond b (Some (read_chain s l)) (find_first s q ls)) (ne_eqb (first_of l) q ne)
          ∙ not_first s q ls (omega arith)
    ]

-- a list that begins with mbuf q, moved to the front of all lists
pub record Found (s : StoreView) (q : ℕ) (v : ChainView) (lists : List (List ℕ)) : Type 0 where
  pub cells : List ℕ
  pub rest : List (List ℕ)
  pub first : first_of cells ≡ q
  pub shows : read_chain s cells ≡ v
  pub weight : (f : ℕ → ℕ) → weigh_all f lists ≡ weigh f cells + weigh_all f rest
  pub chains : AllByRecursion (IsChain s) lists → IsChain s cells × AllByRecursion (IsChain s) rest
  pub totals : AllByRecursion (IsTotal s) lists → IsTotal s cells × AllByRecursion (IsTotal s) rest
  pub totals_by : (c added removed : ℕ) → AllByRecursion (IsTotalBy s c added removed) lists
      → IsTotalBy s c added removed cells × AllByRecursion (IsTotalBy s c added removed) rest

pub find_chain : (s : StoreView) (q : ℕ) (v : ChainView) (lists : List (List ℕ)) → find_first s q lists ≡ Some v
    → Found s q v lists
find_chain s q v [] e = absurd (none-some v e)
find_chain s q v (l ∷ ls) e =
    elim (cases_eq (first_of l) q) [
      | inl is ↦ record {
        cells = l;
        rest = ls;
        first = is;
        shows =
            same_Some _ _ (sym (ap (λ b. cond b (Some (read_chain s l)) (find_first s q ls)) (eq-eqb (first_of l) q is))
            ∙ e);
        weight = λ f. refl;
        chains = λ h. h;
        totals = λ h. h;
        totals_by = λ c added removed h. h;
      }
      | inr ne ↦
          let below =
          find_chain s q v ls (sym (ap (λ b. cond b (Some (read_chain s l)) (find_first s q ls))
          (ne_eqb (first_of l) q ne)) ∙ e) in
          record {
            cells = below.cells;
            rest = l ∷ below.rest;
            first = below.first;
            shows = below.shows;
            weight = λ f. omega (arith, below.weight f);
            chains = λ h. let parts = below.chains h.1 in (parts.0, (h.0, parts.1));
            totals = λ h. let parts = below.totals h.1 in (parts.0, (h.0, parts.1));
            totals_by = λ c added removed h. let parts = below.totals_by c added removed h.1 in
                (parts.0, (h.0, parts.1));
          }
    ]

is_first_some : (s : StoreView) (q : ℕ) (lists : List (List ℕ)) → 0 < heads_at q lists
    → (v : ChainView) × (find_first s q lists ≡ Some v)
is_first_some s q [] h = absurd (omega arith)
is_first_some s q (l ∷ ls) h =
    elim (cases_eq (first_of l) q) [
      | inl is ↦ (
        read_chain s l,
        ap (λ b. cond b (Some (read_chain s l)) (find_first s q ls))
            (eq-eqb (first_of l) q is),
      )
      | inr ne ↦
          let below = is_first_some s q ls (omega (arith, is_at_other q (first_of l) ne)) in
          (below.0, ap (λ b. cond b (Some (read_chain s l)) (find_first s q ls)) (ne_eqb (first_of l) q ne) ∙ below.1)
    ]

pub out_below : (s : StoreView) (k : ℕ) → is_out s k ≡ true → k < length s.mbufs
out_below s k e =
    elim (cases_lt k (length s.mbufs)) [
      | inl lt ↦ lt
      | inr past ↦ absurd (false≢true
          (sym (ap (λ (o : Option MbufView). is_some o) (get_or_past s.mbufs k None past)) ∙ e))
    ]

pub few_out : (s : StoreView) → mbufs_out s ≤ length s.mbufs
few_out s = count_by-le-length is_some s.mbufs

-- following the links from the chain's first mbuf yields the chain's mbufs
pub cells_are : (s : StoreView) (lists : List (List ℕ)) → AreSoundChains s lists → (q : ℕ) (v : ChainView)
    → (found : Found s q v lists) → cells_from s (Some q) ≡ found.cells
cells_are s lists ok q v found =
    go found.cells found.first (found.chains ok.linked).0 (omega (arith, found.weight one, ok.total, few_out s))
  where
    go : (l : List ℕ) → first_of l ≡ q → IsChain s l → weigh one l ≤ length s.mbufs → cells_from s (Some q) ≡ l
    go [] first linked le = absurd linked
    go (c ∷ cs) first linked le =
        walk_is (length s.mbufs) s (Some q) (c ∷ cs)
        (ap {B = Option ℕ} Some (sym first), linked.0.1, linked.0.2, linked.0.3) le

pub chain_is : (s : StoreView) (lists : List (List ℕ)) → AreSoundChains s lists → (q : ℕ)
    → chain_at s q ≡ find_first s q lists
chain_is s lists ok q =
    elim (cases_Bool (is_out s q)) [
      | inr no_one ↦
          ap (λ b. cond (b && not (is_pointed (length s.mbufs) s q)) (Some (read_chain s (cells_from s (Some q)))) None)
          no_one
          ∙ sym (not_first s q lists (omega
          (arith, ok.once q, heads-tails s q lists ok.linked, off (is_out s q) no_one)))
      | inl out ↦ elim (cases_lt 0 (heads_at q lists)) [
        | inr none ↦
            let tails : 0 < tails_at q lists =
            omega (arith, ok.once q, heads-tails s q lists ok.linked, on (is_out s q) out) in
            let before = after_all s q lists ok.linked tails in
            ap (λ b. cond (is_out s q && not b) (Some (read_chain s (cells_from s (Some q)))) None)
            (pointed_true before.0 before.1 before.2)
            ∙ ap (λ b. cond (b && false) (Some (read_chain s (cells_from s (Some q)))) None) out
            ∙ sym (not_first s q lists (omega arith))
        | inl is ↦
            let some = is_first_some s q lists is in
            let found = find_chain s q some.0 lists some.1 in
            ap (λ b. cond (is_out s q && not b) (Some (read_chain s (cells_from s (Some q)))) None)
            (pointed_false out is)
            ∙ ap (λ b. cond (b && true) (Some (read_chain s (cells_from s (Some q)))) None) out
            ∙ ap (λ (l : List ℕ). Some (read_chain s l)) (cells_are s lists ok q some.0 found)
            ∙ ap Some found.shows
            ∙ sym some.1
      ]
    ]
  where
    in_lists : (k : ℕ) → 0 < weigh_all (is_at k) lists → is_out s k ≡ true
    in_lists k p = bit (is_out s k) (omega (arith, ok.once k))

    pointed_true : (k : ℕ) → 0 < weigh_all (is_at k) lists → (mbuf_head s k).next ≡ Some q
        → is_pointed (length s.mbufs) s q ≡ true
    pointed_true k p e = points (length s.mbufs) s q k (out_below s k (in_lists k p)) (in_lists k p) e

    pointed_false : is_out s q ≡ true → 0 < heads_at q lists → is_pointed (length s.mbufs) s q ≡ false
    pointed_false out is = elim (cases_Bool (is_pointed (length s.mbufs) s q)) [
      | inr e ↦ e
      | inl e ↦
          let by = pointed_by (length s.mbufs) s q e in
          let tails =
          next_after_all s q by.0 lists ok.linked (omega (arith, ok.once by.0, on (is_out s by.0) by.2)) by.3 in
          absurd (omega (arith, tails, ok.once q, heads-tails s q lists ok.linked, on (is_out s q) out))
    ]

-- ---- following the links
walk_short : (n : ℕ) (s : StoreView) (at : Option ℕ) → weigh one (walk n s at) ≤ n
walk_short zero s at = omega arith
walk_short (suc n) s None = omega arith
walk_short (suc n) s (Some i) = omega (arith, walk_short n s (mbuf_head s i).next)

pub few_cells : (s : StoreView) (at : Option ℕ) → weigh one (cells_from s at) ≤ length s.mbufs
few_cells s at = walk_short (length s.mbufs) s at

-- an mbuf in use, and the mbufs after it
pub record Next (s : StoreView) (at : ℕ) : Type 0 where
  pub cells : cells_from s (Some at) ≡ at ∷ cells_from s (mbuf_head s at).next
  pub out : is_out s at ≡ true
  pub fit : IsFit (mbuf_head s at)
  pub whole : LeadsToEnd s (mbuf_head s at).next

pub next_cell : (s : StoreView) (at : ℕ) → LeadsToEnd s (Some at) → Next s at
next_cell s at whole = go (cells_from s (Some at)) whole (few_cells s (Some at)) refl
  where
    go : (l : List ℕ) → IsLinked s (Some at) l → weigh one l ≤ length s.mbufs → cells_from s (Some at) ≡ l → Next s at
    go [] h le e = absurd (none-some at (sym h))
    go (c ∷ cs) h le e =
        let rest : cells_from s (mbuf_head s c).next ≡ cs =
        walk_is (length s.mbufs) s (mbuf_head s c).next cs h.3 (omega arith) in
        let here : Next s c = record {
          cells = ap (cells_from s) (sym h.0) ∙ e ∙ ap (λ (xs : List ℕ). c ∷ xs) (sym rest);
          out = h.1;
          fit = h.2;
          whole = subst (IsLinked s (mbuf_head s c).next) (sym rest) h.3;
        } in
        subst (Next s) (sym (same_Some at c h.0)) here

pub no_cells : (s : StoreView) → cells_from s None ≡ []
no_cells s = walk_is (length s.mbufs) s None [] refl (omega arith)

pub high_small : (h : Head) → IsFit h → h.len ≤ 2048
high_small h fit = omega (arith, fit.high, go h.cluster)
  where
    go : (o : Option ℕ) → cond {A = ℕ} (is_some o) 2048 128 ≤ 2048
    go None = omega arith
    go (Some c) = omega arith

-- a bound of the bytes of a chain, by the number of its mbufs
pub bytes_bound : (s : StoreView) (at : Option ℕ) (l : List ℕ) → IsLinked s at l
    → weigh (len_at s) l ≤ 2048 * weigh one l
bytes_bound s at [] h = omega arith
bytes_bound s at (c ∷ cs) h = omega (arith, bytes_bound s (mbuf_head s c).next cs h.3, high_small (mbuf_head s c) h.2)

-- an mbuf that a walk reaches, and the mbufs after it
pub record Walked (s : StoreView) (at : Option ℕ) (i : ℕ) : Type 0 where
  pub cells : cells_from s at ≡ i ∷ cells_from s (mbuf_head s i).next
  pub out : is_out s i ≡ true
  pub fit : IsFit (mbuf_head s i)
  pub whole : LeadsToEnd s (mbuf_head s i).next
  pub short : (mbuf_head s i).len ≤ 2048

pub walk_on : (s : StoreView) (at : Option ℕ) (i : ℕ) → at ≡ Some i → LeadsToEnd s at → Walked s at i
walk_on s at i is whole =
    let next = next_cell s i (subst (LeadsToEnd s) is whole) in
    record {
      cells = ap (cells_from s) is ∙ next.cells;
      out = next.out;
      fit = next.fit;
      whole = next.whole;
      short = high_small (mbuf_head s i) next.fit;
    }

pub walk_end : (s : StoreView) (at : Option ℕ) → at ≡ None → cells_from s at ≡ []
walk_end s at is = ap (cells_from s) is ∙ no_cells s

-- a walk that adds up f, before its next step
pub record Goes (s : StoreView) (f : ℕ → ℕ) (all total : ℕ) (i : ℕ) (h : Head) : Type 0 where
  pub whole : LeadsToEnd s h.next
  pub sum : total + f i + weigh f (cells_from s h.next) ≡ all
  pub shorter : (at : Option ℕ) → at ≡ Some i → LeadsToEnd s at
      → weigh one (cells_from s h.next) < weigh one (cells_from s at)

pub goes : (s : StoreView) (f : ℕ → ℕ) (all total : ℕ) (at : Option ℕ) (i : ℕ) (h : Head) → at ≡ Some i
    → LeadsToEnd s at
    → total + weigh f (cells_from s at) ≡ all → h ≡ mbuf_head s i → Goes s f all total i h
goes s f all total at i h is whole sum head =
    let w = walk_on s at i is whole in
    record {
      whole = subst (LeadsToEnd s) (ap (λ (y : Head). y.next) (sym head)) w.whole;
      sum = omega (arith, sum, ap (weigh f) w.cells, ap (λ (y : Head). weigh f (cells_from s y.next)) head);
      shorter =
          λ at' is' whole'. omega (
            arith,
            ap (weigh one) (walk_on s at' i is' whole').cells,
            ap (λ (y : Head). weigh one (cells_from s y.next)) head,
          );
    }

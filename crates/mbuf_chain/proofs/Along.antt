-- A walk along the first mbufs of a chain.
use Rattle.std.proofs.Common.{◌≡◌, ℕ, zero, suc, ◌+◌, ◌-◌, ◌<◌, ◌≤◌, List, [], ◌∷◌, length, Option, None, Some, refl, sym, ap, ◌∙◌, subst, arith, take, drop, take-append-drop, slice_index, true}
use Rattle.std.specs.Option.{IsSome}
use Rattle.mbuf_pool.specs.Cells.{Head}
use Rattle.mbuf_pool.specs.Store.{StoreView, is_out, mbuf_head, IsStore}
use Rattle.mbuf_chain.specs.Inside.Cells.{weigh, one, len_at, cells_from, LeadsToEnd, last_of}
use Rattle.mbuf_chain.proofs.Lists.{walk_on, walk_end, few_cells, bytes_bound}
use Rattle.mbuf_chain.proofs.Joins.{weigh-append}

drop_more : (j x : ℕ) (l xs : List ℕ) → drop j l ≡ x ∷ xs → drop (suc j) l ≡ xs
drop_more zero x [] xs e = absurd (omega (arith, ap length e))
drop_more zero x (y ∷ ys) xs e = ap (drop 1) e
drop_more (suc j) x [] xs e = absurd (omega (arith, ap length e))
drop_more (suc j) x (y ∷ ys) xs e = drop_more j x ys xs e

pub last_take : (j x : ℕ) (l xs : List ℕ) → drop j l ≡ x ∷ xs → last_of (take (suc j) l) ≡ x
last_take zero x [] xs e = absurd (omega (arith, ap length e))
last_take zero x (y ∷ ys) xs e = ap (λ (l : List ℕ). slice_index l 0) e
last_take (suc j) x [] xs e = absurd (omega (arith, ap length e))
last_take (suc j) x (y ∷ []) xs e = absurd (go j e)
  where
    go : (n : ℕ) → drop n [] ≡ x ∷ xs → ⊥
    go zero e = omega (arith, ap length e)
    go (suc n) e = omega (arith, ap length e)
last_take (suc j) x (y ∷ z ∷ zs) xs e = last_take j x (z ∷ zs) xs e

pub weigh_cut : (g : ℕ → ℕ) (n : ℕ) (l : List ℕ) → weigh g (take n l) + weigh g (drop n l) ≡ weigh g l
weigh_cut g n l = sym (weigh-append g (take n l) (drop n l)) ∙ ap (weigh g) (take-append-drop n l)

ones_drop : (n : ℕ) (l : List ℕ) → n ≤ weigh one l → weigh one (drop n l) + n ≡ weigh one l
ones_drop zero l le = omega arith
ones_drop (suc n) [] le = absurd (omega arith)
ones_drop (suc n) (x ∷ xs) le = omega (arith, ones_drop n xs (omega arith))

-- an mbuf on the way, and the mbufs after it
pub record OnWay (s : StoreView) (l : List ℕ) (i at : ℕ) : Type 0 where
  pub here : drop (i - 1) l ≡ at ∷ cells_from s (mbuf_head s at).next
  pub after : cells_from s (mbuf_head s at).next ≡ drop i l
  pub whole : LeadsToEnd s (mbuf_head s at).next

pub on_way : (s : StoreView) (l : List ℕ) (i at : ℕ) → 1 ≤ i → LeadsToEnd s (Some at)
    → cells_from s (Some at) ≡ drop (i - 1) l → OnWay s l i at
on_way s l i at some whole rest =
    let w = walk_on s (Some at) at refl whole in
    let here : drop (i - 1) l ≡ at ∷ cells_from s (mbuf_head s at).next = sym rest ∙ w.cells in
    let same : suc (i - 1) ≡ i = omega arith in
    record { here = here; after = sym (drop_more (i - 1) at l _ here) ∙ ap (λ (n : ℕ). drop n l) same; whole = w.whole }

pub has_next : (s : StoreView) (l : List ℕ) (i at : ℕ) (h : Head) → OnWay s l i at → h ≡ mbuf_head s at
    → i < weigh one l
    → IsSome h.next
has_next s l i at h w e lt = go h.next refl
  where
    go : (o : Option ℕ) → h.next ≡ o → IsSome h.next
    go (Some n) is = subst (λ (o : Option ℕ). IsSome o) (sym is) refl
    go None is =
        absurd (omega (
          arith,
          ones_drop i l (omega arith),
          ap (weigh one) (sym w.after ∙ walk_end s (mbuf_head s at).next (ap (λ (y : Head). y.next) (sym e) ∙ is)),
        ))

-- the next mbuf on the way
pub record NextOn (s : StoreView) (l : List ℕ) (i next : ℕ) : Type 0 where
  pub out : is_out s next ≡ true
  pub whole : LeadsToEnd s (Some next)
  pub rest : cells_from s (Some next) ≡ drop i l
  pub sum : (g : ℕ → ℕ) → g next + weigh g (drop (i + 1) l) ≡ weigh g (drop i l)

pub next_on : (s : StoreView) (l : List ℕ) (i at next : ℕ) (h : Head) → OnWay s l i at → h ≡ mbuf_head s at
    → h.next ≡ Some next → NextOn s l i next
next_on s l i at next h w e is =
    let next_is : (mbuf_head s at).next ≡ Some next = ap (λ (y : Head). y.next) (sym e) ∙ is in
    let whole : LeadsToEnd s (Some next) = subst (LeadsToEnd s) next_is w.whole in
    let rest : cells_from s (Some next) ≡ drop i l = ap (cells_from s) (sym next_is) ∙ w.after in
    let step = walk_on s (Some next) next refl whole in
    let more : drop (suc i) l ≡ cells_from s (mbuf_head s next).next = drop_more i next l _ (sym rest ∙ step.cells) in
    let same : suc i ≡ i + 1 = omega arith in
    record {
      out = step.out;
      whole = whole;
      rest = rest;
      sum =
          λ g. omega (
            arith,
            ap (weigh g) (sym rest ∙ step.cells),
            ap (weigh g) more,
            ap (λ (n : ℕ). weigh g (drop n l)) same,
          );
    }

pub all_bytes : (s : StoreView) (first : ℕ) → LeadsToEnd s (Some first) → IsStore s
    → weigh (len_at s) (cells_from s (Some first)) ≤ 134215680
all_bytes s first whole store =
    omega (arith, bytes_bound s (Some first) (cells_from s (Some first)) whole, few_cells s (Some first), store.mbufs)

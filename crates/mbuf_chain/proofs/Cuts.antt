-- A chain cut in two.
use Rattle.std.proofs.Common.{◌≡◌, ◌≢◌, ℕ, zero, suc, ◌+◌, ◌<◌, ◌≤◌, true, false, cond, List, [], ◌∷◌, ◌++◌, length, map, Option, None, Some, is_some, refl, sym, ap, ◌∙◌, subst, arith, take, drop, take-append-drop}
use Rattle.std.specs.FinMap as finmap
use Rattle.std.specs.FinMap.{FinMap}
use Rattle.std.specs.Ordering.{nat_cmp}
use Rattle.std.specs.Option.{IsSome}
use Rattle.std.proofs.lemmas.Option.{none-some, same_Some}
use Rattle.mbuf_pool.specs.Cells.{Head, PacketHeader}
use Rattle.mbuf_pool.specs.Store.{StoreView, is_out, mbuf_head, SetsHead, IsStore}
use Rattle.mbuf_chain.specs.Chain.{ChainView, alone, chain_of, IsLive, with_chain, Adds}
use Rattle.mbuf_chain.specs.Steps.{first_part, second_part}
use Rattle.mbuf_chain.specs.Inside.Cells.{weigh, weigh_all, is_at, one, len_at, entry_at, front_of, arrival_of, packet_len, packet_total, refers_at, first_of, read_chain, cells_from, view_of, IsLinked, IsFollower, AllFollow, IsChain, IsOff, IsFit, pool_of, IsPool, last_of}
use Rattle.mbuf_chain.proofs.Maps.{get_there, one_to_two}
use Rattle.mbuf_chain.proofs.Lists.{is_at_same, chains_of, get-chains_of, heads_at, heads-tails, not_first, bytes_bound, few_out}
use Rattle.mbuf_chain.proofs.Changes.{SameCell, step, view_is, links_kept}
use Rattle.mbuf_chain.proofs.Focused.{Opened, open_on, in_list, once_in, count_cells}
use Rattle.mbuf_chain.proofs.Rewrites.{rest_by, alone_first, off_here}
use Rattle.mbuf_chain.proofs.Joins.{Relinked, relinked, entries_like, lens_like, refers_like, follow_like, weigh-append, last_in}
use Rattle.mbuf_chain.proofs.Laws.Owners.{live_here, live_with}

-- ---- lists
map_take : {A B : Type 0} (f : A → B) (n : ℕ) (xs : List A) → map f (take n xs) ≡ take n (map f xs)
map_take f zero xs = refl
map_take f (suc n) [] = refl
map_take f (suc n) (x ∷ xs) = ap (λ l. f x ∷ l) (map_take f n xs)

map_drop : {A B : Type 0} (f : A → B) (n : ℕ) (xs : List A) → map f (drop n xs) ≡ drop n (map f xs)
map_drop f zero xs = refl
map_drop f (suc n) [] = refl
map_drop f (suc n) (x ∷ xs) = map_drop f n xs

ones_take : (n : ℕ) (l : List ℕ) → n ≤ weigh one l → weigh one (take n l) ≡ n
ones_take zero l le = refl
ones_take (suc n) [] le = absurd (omega arith)
ones_take (suc n) (x ∷ xs) le = omega (arith, ones_take n xs (omega arith))

first_take : (n : ℕ) (l : List ℕ) → 0 < n → first_of (take n l) ≡ first_of l
first_take zero l lt = absurd (omega arith)
first_take (suc n) [] lt = refl
first_take (suc n) (x ∷ xs) lt = refl

-- ---- links
cut_links : (s t : StoreView) (x : ℕ) → Relinked s t x None → (at : Option ℕ) (y : ℕ) (ys m : List ℕ)
    → IsLinked s at ((y ∷ ys) ++ m) → last_of (y ∷ ys) ≡ x → ((k : ℕ) → weigh (is_at k) (y ∷ ys) ≤ 1)
    → IsLinked t at (y ∷ ys) × IsLinked s (mbuf_head s x).next m
cut_links s t x r at y [] m h last once = (
  (h.0, (r.likes y).out ∙ h.1, (r.likes y).fit h.2, ap (λ (j : ℕ). (mbuf_head t j).next) last ∙ r.next_is),
  subst (λ (j : ℕ). IsLinked s (mbuf_head s j).next m) last h.3,
)
cut_links s t x r at y (z ∷ zs) m h last once =
    let apart : y ≢ x =
    λ e. absurd (omega (
      arith,
      once x,
      last_in z zs,
      ap (λ (j : ℕ). weigh (is_at j) (z ∷ zs)) last,
      ap (is_at x) e,
      is_at_same x,
    )) in
    let below = cut_links s t x r (mbuf_head s y).next z zs m h.3 last (λ k. omega (arith, once k)) in (
      (
        h.0,
        (r.likes y).out ∙ h.1,
        (r.likes y).fit h.2,
        subst (λ (w : Head). IsLinked t w.next (z ∷ zs)) (sym (r.others y apart).head) below.0,
      ),
      below.1,
    )

follow_split : (s : StoreView) (l m : List ℕ) → AllFollow s (l ++ m) → AllFollow s l × AllFollow s m
follow_split s [] m h = (tt, h)
follow_split s (x ∷ l) m h = let below = follow_split s l m h.1 in ((h.0, below.0), below.1)

-- both parts of a chain, after the last link of the first part is removed
pub record Parts (s t : StoreView) (a b : ℕ) (l m : List ℕ) : Type 0 where
  pub front : IsChain t l
  pub back : IsChain t m
  pub front_first : first_of l ≡ a
  pub back_first : first_of m ≡ b
  pub bare : IsFollower (mbuf_head s b)

parts : (s t : StoreView) (x a b : ℕ) → Relinked s t x None → (l m : List ℕ) → IsChain s (l ++ m)
    → IsLinked s (Some a) (l ++ m) → last_of l ≡ x → 0 < weigh one l → 0 < weigh one m
    → ((k : ℕ) → weigh (is_at k) l + weigh (is_at k) m ≤ 1) → (mbuf_head s x).next ≡ Some b → Parts s t a b l m
parts s t x a b r [] m chain linked last some some' once next = absurd (omega arith)
parts s t x a b r (y ∷ ys) [] chain linked last some some' once next = absurd (omega arith)
parts s t x a b r (y ∷ ys) (z ∷ zs) chain linked last some some' once next =
    let both = cut_links s t x r (Some a) y ys (z ∷ zs) linked last (λ k. omega (arith, once k)) in
    let follows = follow_split s ys (z ∷ zs) chain.1 in
    let apart : (k : ℕ) → 0 < weigh (is_at k) (z ∷ zs) → SameCell s t k =
    λ k p. r.others k (λ e. absurd
    (omega (
      arith,
      once x,
      last_in y ys,
      ap (λ (j : ℕ). weigh (is_at j) (y ∷ ys)) last,
      subst (λ (j : ℕ). 0 < weigh (is_at j) (z ∷ zs)) e p,
    ))) in
    let first : b ≡ z = same_Some b z (sym next ∙ both.1.0) in
    let after : IsLinked t (Some z) (z ∷ zs) =
    links_kept s t (Some z) (z ∷ zs) apart (refl, both.1.1, both.1.2, both.1.3) in
    record {
      front = ((refl, both.0.1, both.0.2, both.0.3), follow_like s t r.likes ys follows.0);
      back = (after, follow_like s t r.likes zs follows.1.1);
      front_first = sym (same_Some a y linked.0);
      back_first = sym first;
      bare = subst (λ (j : ℕ). IsFollower (mbuf_head s j)) (sym first) follows.1.0;
    }

-- ---- a chain cut in two
pub record IsCut (s t : StoreView) (a b keep kept whole : ℕ) : Type 0 where
  pub off : IsOff t a kept whole
  pub live : IsLive (pool_of t) a
  pub few : whole ≤ 134215680
  pub adds : Adds (with_chain (pool_of s) a (first_part keep (chain_of (pool_of s) a))) (pool_of t) b
      (second_part keep (chain_of (pool_of s) a))

pub bare_front : (h : Head) → IsFollower h → front_of h ≡ alone false
bare_front h f = λ i. record { header = is_some (f.packet i); after = f.after i; tag = arrival_of (f.packet i) }

pub cut_made : {s t : StoreView} (a : ℕ) {b keep x kept whole : ℕ} → IsPool s → IsLive (pool_of s) a → 0 < keep
    → keep < length (chain_of (pool_of s) a).entries → x ≡ last_of (take keep (cells_from s (Some a)))
    → kept ≡ weigh (len_at s) (take keep (cells_from s (Some a))) → whole ≡ packet_len (mbuf_head s a)
    → (mbuf_head s x).next ≡ Some b → is_out s x ≡ true → IsFit (mbuf_head s x)
    → SetsHead s t x (record (mbuf_head s x) { next = None }) → IsStore t → IsCut s t a b keep kept whole
cut_made {s} {t} a {b} {keep} {x} {kept} {whole} pool live some within x_is kept_is whole_is next out fit sets store =
    let o = open_on s a pool live in
    let f = o.at in
    let l = take keep f.cells in
    let m = drop keep f.cells in
    let count : keep < weigh one f.cells = omega (arith, count_cells s a f, within) in
    let both : take keep f.cells ++ drop keep f.cells ≡ f.cells = take-append-drop keep f.cells in
    let sum : (g : ℕ → ℕ) → weigh g f.cells ≡ weigh g (take keep f.cells) + weigh g (drop keep f.cells) =
    λ g. ap (weigh g) (sym both) ∙ weigh-append g (take keep f.cells) (drop keep f.cells) in
    let r = relinked s t x None out fit f.sound.store sets in
    let last : last_of (take keep f.cells) ≡ x =
    ap (λ (cs : List ℕ). last_of (take keep cs)) (sym f.walks) ∙ sym x_is in
    let ones : weigh one (take keep f.cells) ≡ keep = ones_take keep f.cells (omega (arith, count)) in
    let once : (k : ℕ) → weigh (is_at k) (take keep f.cells) + weigh (is_at k) (drop keep f.cells) ≤ 1 =
    λ k. omega (arith, once_in s a f k, sum (is_at k)) in
    let p =
    parts s t x a b r (take keep f.cells) (drop keep f.cells) (subst (IsChain s) (sym both) f.chain)
    (subst (IsLinked s (Some a)) (sym both) f.linked) last (omega (arith, ones, some))
    (omega (arith, ones, sum one, count)) once next in
    let inside : 0 < weigh (is_at x) (take keep f.cells) =
    last_inside (take keep f.cells) last (omega (arith, ones, some)) in
    let others : (k : ℕ) → 0 < weigh_all (is_at k) f.rest → SameCell s t k =
    λ k q. r.others k (λ w. absurd
    (omega (arith, once_in s a f x, sum (is_at x), inside, subst (λ (j : ℕ). 0 < weigh_all (is_at j) f.rest) w q))) in
    let went = step s t (f.cells ∷ []) (take keep f.cells ∷ drop keep f.cells ∷ []) f.rest f.sound (record {
      kept = others;
      linked = (p.front, (p.back, tt));
      once = λ k. omega (arith, sum (is_at k), ap {B = ℕ} (λ z. cond z 1 0) (r.outs.outs k));
      total = omega (arith, sum one, r.outs.total);
      counted =
          λ c. omega (
            arith,
            r.outs.counts c,
            sum (refers_at s c),
            refers_like s t r.likes c (take keep f.cells),
            refers_like s t r.likes c (drop keep f.cells),
          );
      store = store;
    }) in
    let shown_front : read_chain t (take keep f.cells) ≡ first_part keep (chain_of (pool_of s) a) =
    (λ i. record {
      front =
          (ap (λ (j : ℕ). front_of (mbuf_head t j)) (first_take keep f.cells some) ∙ (r.likes (first_of f.cells)).front)
          i;
      entries = (entries_like s t r.likes (take keep f.cells) ∙ map_take (entry_at s) keep f.cells) i;
      cells = take keep f.cells;
    }) ∙ ap (first_part keep) f.shows in
    let shown_back : read_chain t (drop keep f.cells) ≡ second_part keep (chain_of (pool_of s) a) =
    (λ i. record {
      front =
          (ap (λ (j : ℕ). front_of (mbuf_head t j)) p.back_first ∙ (r.likes b).front
          ∙ bare_front (mbuf_head s b) p.bare) i;
      entries = (entries_like s t r.likes (drop keep f.cells) ∙ map_drop (entry_at s) keep f.cells) i;
      cells = drop keep f.cells;
    }) ∙ ap (second_part keep) f.shows in
    let in_front : 0 < weigh (is_at a) (take keep f.cells) =
    subst (λ (j : ℕ). 0 < weigh (is_at j) (take keep f.cells)) p.front_first
    (in_list (take keep f.cells) 0 (omega (arith, ones, some))) in
    let in_back : 0 < weigh (is_at b) (drop keep f.cells) =
    subst (λ (j : ℕ). 0 < weigh (is_at j) (drop keep f.cells)) p.back_first
    (in_list (drop keep f.cells) 0 (omega (arith, ones, sum one, count))) in
    let ne : a ≢ b =
    λ e. absurd (omega (
      arith,
      once b,
      in_back,
      subst (λ (j : ℕ). 0 < weigh (is_at j) (take keep f.cells)) e in_front,
    )) in
    let alone_b : heads_at b f.rest ≡ 0 =
    omega (arith, once_in s a f b, sum (is_at b), in_back, heads-tails s b f.rest f.sound.linked.1) in
    let map_is : pool_of t ≡ with_chain (with_chain (pool_of s) a (first_part keep (chain_of (pool_of s) a))) b
    (second_part keep (chain_of (pool_of s) a)) = λ j. record {
      mbufs = r.outs.mbufs j;
      clusters = r.outs.clusters j;
      chains = (view_is t _ went.sound
          ∙ (λ i. finmap.insert (finmap.insert (went.map_is i) (p.back_first i) (shown_back i)) (p.front_first i)
          (shown_front i))
          ∙ one_to_two (chains_of s f.rest) a b (chain_of (pool_of s) a) (second_part keep (chain_of (pool_of s) a))
          (first_part keep (chain_of (pool_of s) a)) ne
          ∙ ap (λ (q : FinMap nat_cmp ChainView). finmap.insert
          (finmap.insert q a (first_part keep (chain_of (pool_of s) a))) b
          (second_part keep (chain_of (pool_of s) a))) (sym f.map_is)) j;
    } in
    let first_is : (mbuf_head t (first_of (take keep f.cells))).packet ≡ (mbuf_head s a).packet =
    ap (λ (j : ℕ). (mbuf_head t j).packet) p.front_first ∙ (r.likes a).packet in
    record {
      off = (
        take keep f.cells ∷ drop keep f.cells ∷ f.rest,
        went.sound,
        (
          λ packet is. omega (
            arith,
            whole_is,
            ap packet_total (sym first_is ∙ is),
            kept_is,
            ap (λ (cs : List ℕ). weigh (len_at s) (take keep cs)) f.walks,
            lens_like s t r.likes (take keep f.cells),
            off_here a kept (take keep f.cells) p.front_first,
            off_here a whole (take keep f.cells) p.front_first,
          ),
          (
            (λ packet is. absurd (none-some packet
                (sym p.bare.packet ∙ sym (ap (λ (j : ℕ). (mbuf_head t j).packet) p.back_first ∙ (r.likes b).packet)
                ∙ is))),
            rest_by t a kept whole f.rest (alone_first s a f) (went.totals o.totals.1),
          ),
        ),
      );
      live =
          live_with _ _ b (second_part keep (chain_of (pool_of s) a)) a map_is
          (live_here (pool_of s) a (first_part keep (chain_of (pool_of s) a)));
      few = omega (arith, whole_is, bounded o (mbuf_head s a).packet refl);
      adds = record {
        fresh = get_there (view_of s) a (first_part keep (chain_of (pool_of s) a)) b (λ e. ne (sym e))
            ∙ ap (λ (q : FinMap nat_cmp ChainView). finmap.get q b) f.map_is
            ∙ get_there (chains_of s f.rest) a (chain_of (pool_of s) a) b (λ e. ne (sym e)) ∙ get-chains_of s f.rest b
            ∙ not_first s b f.rest alone_b;
        pool = map_is;
      };
    }
  where
    last_inside : (l : List ℕ) → last_of l ≡ x → 0 < weigh one l → 0 < weigh (is_at x) l
    last_inside [] e lt = absurd (omega arith)
    last_inside (y ∷ ys) e lt = subst (λ (j : ℕ). 0 < weigh (is_at j) (y ∷ ys)) e (last_in y ys)

    bounded : Opened s a → (p : Option PacketHeader) → (mbuf_head s a).packet ≡ p → packet_total p ≤ 134215680
    bounded o None is = omega arith
    bounded o (Some packet) is =
        omega (
          arith,
          o.totals.0 packet (ap (λ (j : ℕ). (mbuf_head s j).packet) o.at.first ∙ is),
          bytes_bound s (Some a) o.at.cells o.at.linked,
          o.at.sound.total,
          few_out s,
          o.at.sound.store.mbufs,
        )

-- the mbuf before the cut
pub record CutPlace (s : StoreView) (x : ℕ) : Type 0 where
  pub out : is_out s x ≡ true
  pub fit : IsFit (mbuf_head s x)
  pub some : (h : Head) → h ≡ mbuf_head s x → IsSome h.next

pub cut_place : {s : StoreView} (a : ℕ) {keep x : ℕ} → IsPool s → IsLive (pool_of s) a → 0 < keep
    → keep < length (chain_of (pool_of s) a).entries → x ≡ last_of (take keep (cells_from s (Some a))) → CutPlace s x
cut_place {s} a {keep} {x} pool live some within x_is =
    let o = open_on s a pool live in
    let f = o.at in
    go (Some a) keep f.cells f.linked (omega (arith, count_cells s a f, within)) some
    (ap (λ (cs : List ℕ). last_of (take keep cs)) (sym f.walks) ∙ sym x_is)
  where
    next_some : (n : Option ℕ) (m : List ℕ) → IsLinked s n m → 0 < weigh one m → IsSome n
    next_some n [] h lt = absurd (omega arith)
    next_some n (y ∷ ys) h lt = subst (λ (o : Option ℕ). IsSome o) (sym h.0) refl

    go : (at : Option ℕ) (n : ℕ) (l : List ℕ) → IsLinked s at l → n < weigh one l → 0 < n → last_of (take n l) ≡ x
        → CutPlace s x
    go at zero l h lt pos e = absurd (omega arith)
    go at (suc n) [] h lt pos e = absurd (omega arith)
    go at (suc zero) (y ∷ ys) h lt pos e =
        subst (CutPlace s) e (record {
          out = h.1;
          fit = h.2;
          some =
              λ g is. subst (λ (w : Head). IsSome w.next) (sym is)
              (next_some (mbuf_head s y).next ys h.3 (omega arith));
        })
    go at (suc (suc n)) (y ∷ []) h lt pos e = absurd (omega arith)
    go at (suc (suc n)) (y ∷ z ∷ zs) h lt pos e =
        go (mbuf_head s y).next (suc n) (z ∷ zs) h.3 (omega arith) (omega arith) e

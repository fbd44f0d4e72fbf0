-- Freeing chains, removing their packet header, joining and cutting them.
use Rattle.std.proofs.Common.{◌≡◌, ◌≢◌, ℕ, zero, suc, ◌+◌, ◌<◌, ◌≤◌, true, false, cond, nat_eq, List, [], ◌∷◌, ◌++◌, length, map, Option, None, Some, is_some, refl, sym, ap, ◌∙◌, subst, arith, inl, inr, slice_get, slice_index}
use Rattle.std.specs.FinMap as finmap
use Rattle.std.specs.FinMap.{FinMap}
use Rattle.std.specs.Ordering.{nat_cmp}
use Rattle.std.specs.Option.{option_eq}
use Rattle.std.specs.List.{AllByRecursion}
use Rattle.std.proofs.lemmas.Bool.{cases_eq}
use Rattle.std.proofs.lemmas.Option.{none-some, same_Some, get_or_from_slice_get}
use Rattle.std.proofs.lemmas.List.{length-append, map-append}
use Rattle.mbuf_pool.specs.Cells.{Head, PacketHeader}
use Rattle.mbuf_pool.specs.Store.{StoreView, is_out, mbuf_head, SetsHead, IsStore}
use Rattle.mbuf_pool.proofs.Laws.{sets_head, sets_twice}
use Rattle.mbuf_chain.specs.declared.place.Place.{Place}
use Rattle.mbuf_chain.specs.Chain.{Front, ChainView, chain_of, IsLive, IsPlace, with_chain, without, string, flat_bytes, alone}
use Rattle.mbuf_chain.specs.Steps.{headless, joined, linked}
use Rattle.mbuf_chain.specs.Inside.Cells.{weigh, weigh_all, is_at, one, len_at, entry_at, front_of, refers_at, first_of, read_chain, cells_from, view_of, IsLinked, IsFollower, AllFollow, IsChain, IsTotal, IsOff, AreSoundChains, IsFit, pool_of, IsPool, out_at, Freed, last_of}
use Rattle.mbuf_chain.proofs.Maps.{get_there, remove-insert, two_to_one}
use Rattle.mbuf_chain.proofs.Lists.{bit, on, off, small, is_at_same, chains_of, get-chains_of, heads_at, heads-tails, split_first, not_first, find_chain, few_out}
use Rattle.mbuf_chain.proofs.Changes.{SameCell, same_cell, step, view_is, links_kept, count_ones}
use Rattle.mbuf_chain.proofs.Focused.{Focused, first_out, open_on, enter, in_list, linked_from, once_in, weigh_all_has}
use Rattle.mbuf_chain.proofs.Rewrites.{SameOuts, rest_by, some_cell, off_here}
use Rattle.mbuf_chain.proofs.Heads.{head_set, rehead, enter_first, cell_long}
use Rattle.mbuf_chain.proofs.Stores.{refers_to}
use Rattle.mbuf_chain.proofs.Laws.Steps.{live_shown}

-- ---- the bytes of a chain
pub bytes_are : (s : StoreView) (c : ℕ) → (f : Focused s c)
    → length (string (chain_of (pool_of s) c)) ≡ weigh (len_at s) f.cells
bytes_are s c f = ap (λ (v : ChainView). length (string v)) (sym f.shows) ∙ go f.cells (λ k p. p)
  where
    one_long : (k : ℕ) → 0 < weigh (is_at k) f.cells → length (entry_at s k).bytes ≡ (mbuf_head s k).len
    one_long k p = cell_long s c k f p

    go : (l : List ℕ) → ((k : ℕ) → 0 < weigh (is_at k) l → 0 < weigh (is_at k) f.cells)
        → length (flat_bytes (map (entry_at s) l)) ≡ weigh (len_at s) l
    go [] h = refl
    go (x ∷ xs) h =
        omega (
          arith,
          length-append (entry_at s x).bytes (flat_bytes (map (entry_at s) xs)),
          one_long x (h x (omega (arith, is_at_same x))),
          go xs (λ k p. h k (omega (arith, p))),
        )

pub total_is : (s : StoreView) (c : ℕ) (packet : PacketHeader) → IsPool s → IsLive (pool_of s) c
    → (mbuf_head s c).packet ≡ Some packet → packet.len ≡ length (string (chain_of (pool_of s) c))
total_is s c packet pool live is =
    let o = open_on s c pool live in
    o.totals.0 packet (ap (λ (j : ℕ). (mbuf_head s j).packet) o.at.first ∙ is) ∙ sym (bytes_are s c o.at)

pub sum_is : (s : StoreView) (c : ℕ) → IsPool s → IsLive (pool_of s) c
    → weigh (len_at s) (cells_from s (Some c)) ≡ length (string (chain_of (pool_of s) c))
sum_is s c pool live = let o = open_on s c pool live in ap (weigh (len_at s)) o.at.walks ∙ sym (bytes_are s c o.at)

-- ---- a chain is freed
pub freed_all : (s t : StoreView) (c : ℕ) → IsPool s → IsLive (pool_of s) c → Freed s t (cells_from s (Some c)) []
    → IsStore t → IsPool t × (pool_of t ≡ without (pool_of s) c)
freed_all s t c pool live freed store =
    let o = open_on s c pool live in
    let f = o.at in
    let once : (k : ℕ) → out_at t k + weigh (is_at k) f.cells ≡ out_at s k =
    λ k. omega (arith, freed.once k, ap (weigh (is_at k)) f.walks) in
    let outs : (k : ℕ) → 0 < weigh_all (is_at k) f.rest → is_out t k ≡ true =
    λ k p. bit (is_out t k) (omega (arith, once k, f.sound.once k, once_in s c f k, p)) in
    let went = step s t (f.cells ∷ []) [] f.rest f.sound (record {
      kept =
          λ k p. same_cell s t k (freed.kept k (outs k p))
          (outs k p ∙ sym (bit (is_out s k) (omega (arith, f.sound.once k, p))))
          (λ d is. freed.bytes d (omega (
            arith,
            freed.counted d,
            ap (weigh (refers_at s d)) f.walks,
            f.sound.counted d,
            refers_to s k d is,
            weigh_all_has (refers_at s d) k f.rest p,
          )));
      linked = tt;
      once = λ k. omega (arith, once k);
      total = omega (arith, freed.total, ap (weigh one) f.walks);
      counted = λ q. omega (arith, freed.counted q, ap (weigh (refers_at s q)) f.walks);
      store = store;
    }) in (
      (f.rest, went.sound, went.totals o.totals.1),
      λ i. record {
        mbufs = freed.mbufs i;
        clusters = freed.clusters i;
        chains =
            (view_is t f.rest went.sound ∙ went.map_is
            ∙ sym (remove-insert (chains_of s f.rest) c (chain_of (pool_of s) c) f.fresh)
            ∙ ap (λ (m : FinMap nat_cmp ChainView). finmap.remove m c) (sym f.map_is)) i;
      },
    )

-- ---- the packet header is removed
abbrev pub bare : Head → Head
bare h = record h { next_packet = None; packet = None }

-- the packet header first, and then the link
pub bared_twice : (s t u : StoreView) (c : ℕ) → IsPool s → IsLive (pool_of s) c
    → SetsHead s t c (record (mbuf_head s c) { packet = None })
    → SetsHead t u c (record (mbuf_head t c) { next_packet = None }) → SetsHead s u c (bare (mbuf_head s c))
bared_twice s t u c pool live first later =
    let o = open_on s c pool live in
    let out = first_out s c o.at in
    sets_twice s t u c (record (mbuf_head s c) { packet = None }) (bare (mbuf_head s c)) out o.at.sound.store
    (omega arith)
    first
    (subst (λ (h : Head). SetsHead t u c (record h { next_packet = None }))
    (sets_head s t c (record (mbuf_head s c) { packet = None }) out first) later)

pub record Stripped (s t : StoreView) (c : ℕ) : Type 0 where
  pub pool : IsPool t
  pub map_is : pool_of t ≡ with_chain (pool_of s) c (headless (chain_of (pool_of s) c))

pub stripped : (s t : StoreView) (c : ℕ) → IsPool s → IsLive (pool_of s) c → SetsHead s t c (bare (mbuf_head s c))
    → IsStore t → Stripped s t c
stripped s t c pool live sets store =
    let o = open_on s c pool live in
    let f = o.at in
    let e = enter_first s c o.at in
    let r =
    rehead s t c 0 c (bare (mbuf_head s c)) o.at e sets store refl refl
    (record {
      low = omega (arith, lower (mbuf_head s c).cluster (mbuf_head s c).packet, e.fit.low);
      high = e.fit.high;
      kind = e.fit.kind;
    }) (λ lt. absurd (omega arith)) in
    record {
      pool = (
        f.cells ∷ f.rest,
        r.change.sound,
        (
          λ packet is. absurd (none-some packet
              (ap (λ (y : Head). y.packet) (sym r.head) ∙ ap (λ (j : ℕ). (mbuf_head t j).packet) (sym f.first)
              ∙ is)),
          r.change.totals o.totals.1,
        ),
      );
      map_is =
          r.change.map_is ∙ (λ j. with_chain (pool_of s) c
          (record {
            front = front_of (r.head j);
            entries =
                Rattle.mbuf_chain.proofs.Heads.set_same (chain_of (pool_of s) c).entries 0 (entry_at t c)
                (e.shows ∙ sym r.entry) j;
            cells = (chain_of (pool_of s) c).cells;
          }));
    }
  where
    lower : (o : Option ℕ) (p : Option PacketHeader)
        → cond {A = ℕ} (is_some o) 0 20 ≤ cond {A = ℕ} (is_some o) 0 (cond (is_some p) 28 20)
    lower None None = omega arith
    lower None (Some p) = omega arith
    lower (Some d) p = omega arith

-- ---- two chains moved to the front of the lists
pub record Two (s : StoreView) (a b : ℕ) : Type 0 where
  pub front : List ℕ
  pub back : List ℕ
  pub rest : List (List ℕ)
  pub sound : AreSoundChains s (front ∷ back ∷ rest)
  pub front_total : IsTotal s front
  pub rest_totals : AllByRecursion (IsTotal s) rest
  pub front_linked : IsLinked s (Some a) front
  pub back_linked : IsLinked s (Some b) back
  pub front_first : first_of front ≡ a
  pub back_first : first_of back ≡ b
  pub shows_front : read_chain s front ≡ chain_of (pool_of s) a
  pub shows_back : read_chain s back ≡ chain_of (pool_of s) b
  pub map_is : view_of s ≡ finmap.insert (finmap.insert (chains_of s rest) b (chain_of (pool_of s) b)) a
      (chain_of (pool_of s) a)
  pub fresh : finmap.get (chains_of s rest) b ≡ None

pub open_two : (s : StoreView) (a b : ℕ) → IsPool s → IsLive (pool_of s) a → IsLive (pool_of s) b → a ≢ b → Two s a b
open_two s a b pool live_a live_b ne =
    let o = open_on s a pool live_a in
    let f = o.at in
    let found =
    find_chain s b (chain_of (pool_of s) b) o.at.rest
    (sym (get-chains_of s o.at.rest b)
    ∙ sym (get_there (chains_of s o.at.rest) a (chain_of (pool_of s) a) b (λ e. ne (sym e)))
    ∙ ap (λ (m : FinMap nat_cmp ChainView). finmap.get m b) (sym o.at.map_is) ∙ live_b) in
    let parts = found.chains f.sound.linked.1 in
    let totals = found.totals o.totals.1 in
    let sound : AreSoundChains s (o.at.cells ∷ found.cells ∷ found.rest) = record {
      linked = (f.sound.linked.0, parts);
      once = λ k. omega (arith, f.sound.once k, found.weight (is_at k));
      total = omega (arith, f.sound.total, found.weight one);
      counted = λ q. omega (arith, f.sound.counted q, found.weight (refers_at s q));
      store = f.sound.store;
    } in
    let alone_b : heads_at b found.rest ≡ 0 =
    omega (
      arith,
      once_in s a o.at b,
      found.weight (is_at b),
      split_first s b found.cells parts.0,
      heads-tails s b found.rest parts.1,
      is_at_same b,
      ap (is_at b) found.first,
    ) in
    record {
      front = f.cells;
      back = found.cells;
      rest = found.rest;
      sound = sound;
      front_total = o.totals.0;
      rest_totals = totals.1;
      front_linked = f.linked;
      back_linked = linked_from s b found.cells found.first parts.0;
      front_first = f.first;
      back_first = found.first;
      shows_front = f.shows;
      shows_back = found.shows;
      map_is =
          view_is s _ sound ∙ (λ i. finmap.insert
          (finmap.insert (chains_of s found.rest) (found.first i) (found.shows i))
          (f.first i) (f.shows i));
      fresh = get-chains_of s found.rest b ∙ not_first s b found.rest alone_b;
    }

-- ---- one link is replaced
-- the mbuf is unchanged except for its link
pub record LikeCell (s t : StoreView) (k : ℕ) : Type 0 where
  pub entry : entry_at t k ≡ entry_at s k
  pub front : front_of (mbuf_head t k) ≡ front_of (mbuf_head s k)
  pub packet : (mbuf_head t k).packet ≡ (mbuf_head s k).packet
  pub len : (mbuf_head t k).len ≡ (mbuf_head s k).len
  pub follow : IsFollower (mbuf_head s k) → IsFollower (mbuf_head t k)
  pub fit : IsFit (mbuf_head s k) → IsFit (mbuf_head t k)
  pub out : is_out t k ≡ is_out s k

pub record Relinked (s t : StoreView) (x : ℕ) (next : Option ℕ) : Type 0 where
  pub outs : SameOuts s t
  pub others : (k : ℕ) → k ≢ x → SameCell s t k
  pub likes : (k : ℕ) → LikeCell s t k
  pub next_is : (mbuf_head t x).next ≡ next

pub relinked : (s t : StoreView) (x : ℕ) (next : Option ℕ) → is_out s x ≡ true → IsFit (mbuf_head s x) → IsStore s
    → SetsHead s t x (record (mbuf_head s x) { next = next }) → Relinked s t x next
relinked s t x next out fit store sets =
    let h : Head = record (mbuf_head s x) { next = next } in
    let set = head_set s t x (record (mbuf_head s x) { next = next }) out store sets in
    let fit' : IsFit (record (mbuf_head s x) { next = next }) =
    record { low = fit.low; high = fit.high; kind = fit.kind } in
    record {
      outs = set.outs;
      others = set.others;
      likes = λ k. elim (cases_eq k x) [
        | inl e ↦ subst (LikeCell s t) (sym e) (record {
          entry = set.entry fit';
          front = ap front_of set.head;
          packet = ap (λ (y : Head). y.packet) set.head;
          len = ap (λ (y : Head). y.len) set.head;
          follow = λ was. subst IsFollower (sym set.head) (record { packet = was.packet; after = was.after });
          fit = λ _. subst IsFit (sym set.head) fit';
          out = set.outs.outs x;
        })
        | inr ne ↦ record {
          entry = (set.others k ne).entry;
          front = ap front_of (set.others k ne).head;
          packet = ap (λ (y : Head). y.packet) (set.others k ne).head;
          len = ap (λ (y : Head). y.len) (set.others k ne).head;
          follow = subst IsFollower (sym (set.others k ne).head);
          fit = subst IsFit (sym (set.others k ne).head);
          out = (set.others k ne).out;
        }
      ];
      next_is = ap (λ (y : Head). y.next) set.head;
    }

module _ (s t : StoreView) (likes : (k : ℕ) → LikeCell s t k) where
  pub entries_like : (l : List ℕ) → map (entry_at t) l ≡ map (entry_at s) l
  entries_like [] = refl
  entries_like (y ∷ ys) = λ i. (likes y).entry i ∷ entries_like ys i

  pub lens_like : (l : List ℕ) → weigh (len_at t) l ≡ weigh (len_at s) l
  lens_like [] = refl
  lens_like (y ∷ ys) = λ i. (likes y).len i + lens_like ys i

  pub refers_like : (c : ℕ) (l : List ℕ) → weigh (refers_at t c) l ≡ weigh (refers_at s c) l
  refers_like c [] = refl
  refers_like c (y ∷ ys) =
      λ i. cond {A = ℕ} (option_eq nat_eq ((likes y).entry i).cluster (Some c)) 1 0 + refers_like c ys i

  pub follow_like : (l : List ℕ) → AllFollow s l → AllFollow t l
  follow_like [] h = h
  follow_like (y ∷ ys) h = ((likes y).follow h.0, follow_like ys h.1)

pub weigh-append : (f : ℕ → ℕ) (l m : List ℕ) → weigh f (l ++ m) ≡ weigh f l + weigh f m
weigh-append f [] m = omega arith
weigh-append f (x ∷ l) m = omega (arith, weigh-append f l m)

follow-append : (s : StoreView) (l m : List ℕ) → AllFollow s l → AllFollow s m → AllFollow s (l ++ m)
follow-append s [] m g h = h
follow-append s (x ∷ l) m g h = (g.0, follow-append s l m g.1 h)

pub last_in : (x : ℕ) (xs : List ℕ) → 0 < weigh (is_at (last_of (x ∷ xs))) (x ∷ xs)
last_in x [] = omega (arith, is_at_same x)
last_in x (y ∷ ys) = omega (arith, last_in y ys)

-- the mbuf at the last place is the last one
pub last_is : (l : List ℕ) (i x : ℕ) → slice_index l i ≡ x → i + 1 ≡ weigh one l → last_of l ≡ x
last_is [] i x is e = absurd (omega arith)
last_is (y ∷ []) zero x is e = is
last_is (y ∷ []) (suc i) x is e = absurd (omega arith)
last_is (y ∷ z ∷ zs) zero x is e = absurd (omega arith)
last_is (y ∷ z ∷ zs) (suc i) x is e = last_is (z ∷ zs) i x is (omega arith)

-- the list of a chain that ends in x continues with another list
goes_on : (s t : StoreView) (x : ℕ) (next : Option ℕ) → Relinked s t x next → (at : Option ℕ) (y : ℕ) (ys m : List ℕ)
    → IsLinked s at (y ∷ ys) → last_of (y ∷ ys) ≡ x → ((k : ℕ) → weigh (is_at k) (y ∷ ys) ≤ 1) → IsLinked t next m
    → IsLinked t at ((y ∷ ys) ++ m)
goes_on s t x next r at y [] m h last once after = (
  h.0,
  (r.likes y).out ∙ h.1,
  (r.likes y).fit h.2,
  subst (λ (o : Option ℕ). IsLinked t o m) (sym (ap (λ (j : ℕ). (mbuf_head t j).next) last ∙ r.next_is)) after,
)
goes_on s t x next r at y (z ∷ zs) m h last once after =
    let apart : y ≢ x =
    λ e. absurd (omega (
      arith,
      once x,
      last_in z zs,
      ap (λ (j : ℕ). weigh (is_at j) (z ∷ zs)) last,
      ap (is_at x) e,
      is_at_same x,
    )) in (
      h.0,
      (r.likes y).out ∙ h.1,
      (r.likes y).fit h.2,
      subst (λ (w : Head). IsLinked t w.next ((z ∷ zs) ++ m)) (sym (r.others y apart).head)
          (goes_on s t x next r (mbuf_head s y).next z zs m h.3 last (λ k. omega (arith, once k)) after),
    )

link_list : (s t : StoreView) (x a : ℕ) (next : Option ℕ) → Relinked s t x next → (l m : List ℕ) → IsChain s l
    → IsLinked s (Some a) l → last_of l ≡ x → ((k : ℕ) → weigh (is_at k) l ≤ 1) → IsLinked t next m → AllFollow s m
    → IsChain t (l ++ m) × (first_of (l ++ m) ≡ a)
link_list s t x a next r [] m h g last once after follow = absurd h
link_list s t x a next r (y ∷ ys) m h g last once after follow =
    let on = goes_on s t x next r (Some a) y ys m g last once after in (
      ((refl, on.1, on.2, on.3), follow_like s t r.likes (ys ++ m) (follow-append s ys m h.1 follow)),
      sym (same_Some a y g.0),
    )

-- ---- a chain linked after another
pub record Joined (s t : StoreView) (a b added : ℕ) : Type 0 where
  pub off : IsOff t a added 0
  pub live : IsLive (pool_of t) a
  pub map_is : pool_of t ≡ linked (pool_of s) a b

-- if the first mbuf of a chain has no packet header and no next packet, no mbuf of it has
pub all_follow : (s : StoreView) (l : List ℕ) → IsChain s l → IsFollower (mbuf_head s (first_of l)) → AllFollow s l
all_follow s [] h first = tt
all_follow s (y ∷ ys) h first = (first, h.1)

pub bare_first : (h : Head) → front_of h ≡ alone false → IsFollower h
bare_first h e = record { packet = go h.packet refl; after = ap (λ (f : Front). f.after) e }
  where
    go : (p : Option PacketHeader) → h.packet ≡ p → h.packet ≡ None
    go None is = is
    go (Some p) is =
        absurd (Rattle.std.proofs.lemmas.Bool.false≢true
        (sym (ap (λ (f : Front). f.header) e) ∙ ap (λ (o : Option PacketHeader). is_some o) is))

pub joined_made : (s t : StoreView) (a b added : ℕ) (last : Place) → IsPool s → IsLive (pool_of s) a
    → IsLive (pool_of s) b → a ≢ b → IsPlace (chain_of (pool_of s) a) last
    → last.index + 1 ≡ length (chain_of (pool_of s) a).entries
    → (chain_of (pool_of s) b).front ≡ alone false
    → SetsHead s t last.cell (record (mbuf_head s last.cell) { next = Some b }) → IsStore t
    → ((chain_of (pool_of s) a).front.header ≡ true → added ≡ length (string (chain_of (pool_of s) b)))
    → Joined s t a b added
joined_made s t a b added last pool live_a live_b ne place is_last bare_b sets store added_is =
    let two = open_two s a b pool live_a live_b ne in
    let o = open_on s a pool live_a in
    let e = enter s a last o.at place in
    let x = last.cell in
    let cell : slice_index two.front last.index ≡ last.cell =
    get_or_from_slice_get two.front last.index last.cell 0
    (ap (λ (v : ChainView). slice_get v.cells last.index) two.shows_front ∙ place.cell) in
    let count : last.index + 1 ≡ weigh one two.front =
    omega (arith, is_last, ap (λ (v : ChainView). length v.entries) two.shows_front, count_ones s two.front) in
    let last_of_front : last_of two.front ≡ last.cell = last_is two.front last.index last.cell cell count in
    let r = relinked s t last.cell (Some b) e.out e.fit o.at.sound.store sets in
    let once : (k : ℕ) → weigh (is_at k) two.front + weigh (is_at k) two.back + weigh_all (is_at k) two.rest ≤ 1 =
    λ k. omega (arith, two.sound.once k, small (is_out s k)) in
    let inside : 0 < weigh (is_at last.cell) two.front =
    subst (λ (j : ℕ). 0 < weigh (is_at j) two.front) cell (in_list two.front last.index (omega (arith, count))) in
    let others : (k : ℕ) → 0 < weigh (is_at k) two.back + weigh_all (is_at k) two.rest → SameCell s t k =
    λ k q. r.others k (λ w. absurd
    (omega (
      arith,
      once last.cell,
      inside,
      subst (λ (j : ℕ). 0 < weigh (is_at j) two.back + weigh_all (is_at j) two.rest) w q,
    ))) in
    let after : IsLinked t (Some b) two.back =
    links_kept s t (Some b) two.back (λ k q. others k (omega (arith, q))) two.back_linked in
    let follows : AllFollow s two.back =
    all_follow s two.back two.sound.linked.1.0
    (bare_first (mbuf_head s (first_of two.back)) (ap (λ (v : ChainView). v.front) two.shows_back ∙ bare_b)) in
    let new =
    link_list s t last.cell a (Some b) r two.front two.back two.sound.linked.0 two.front_linked last_of_front
    (λ k. omega (arith, once k)) after follows in
    let went = step s t (two.front ∷ two.back ∷ []) ((two.front ++ two.back) ∷ []) two.rest two.sound (record {
      kept = λ k q. others k (omega (arith, q));
      linked = (new.0, tt);
      once =
          λ k. omega (arith, weigh-append (is_at k) two.front two.back, ap {B = ℕ} (λ z. cond z 1 0) (r.outs.outs k));
      total = omega (arith, weigh-append one two.front two.back, r.outs.total);
      counted =
          λ c. omega (
            arith,
            r.outs.counts c,
            refers_like s t r.likes c (two.front ++ two.back),
            weigh-append (refers_at s c) two.front two.back,
          );
      store = store;
    }) in
    let headed : (packet : PacketHeader) → (mbuf_head s (first_of two.front)).packet ≡ Some packet
    → (chain_of (pool_of s) a).front.header ≡ true =
    λ packet is. sym (ap (λ (v : ChainView). v.front.header) two.shows_front)
    ∙ ap (λ (o : Option PacketHeader). is_some o) is in
    let back_len : (chain_of (pool_of s) a).front.header ≡ true → added ≡ weigh (len_at s) two.back =
    λ h. added_is h ∙ sym (sum_is s b pool live_b)
    ∙ ap (weigh (len_at s)) (Rattle.mbuf_chain.proofs.Lists.walk_is (length s.mbufs) s (Some b) two.back
    two.back_linked (omega (arith, two.sound.total, few_out s))) in
    let alone_a : heads_at a two.rest ≡ 0 =
    omega (
      arith,
      once a,
      subst (λ (j : ℕ). 0 < weigh (is_at j) two.front) two.front_first
          (in_list two.front 0 (some_cell s two.front two.sound.linked.0)),
      heads-tails s a two.rest two.sound.linked.1.1,
    ) in
    let first_front : front_of (mbuf_head t (first_of (two.front ++ two.back))) ≡ (chain_of (pool_of s) a).front =
    ap (λ (j : ℕ). front_of (mbuf_head t j)) (new.1 ∙ sym two.front_first) ∙ (r.likes (first_of two.front)).front
    ∙ ap (λ (v : ChainView). v.front) two.shows_front in
    let shown : read_chain t (two.front ++ two.back) ≡ joined (chain_of (pool_of s) a) (chain_of (pool_of s) b) =
    λ i. record {
      front = first_front i;
      entries =
          (entries_like s t r.likes (two.front ++ two.back) ∙ map-append (entry_at s) two.front two.back
          ∙ (λ j. (two.shows_front j).entries ++ (two.shows_back j).entries)) i;
      cells = (two.shows_front i).cells ++ (two.shows_back i).cells;
    } in
    let map_is : pool_of t ≡ linked (pool_of s) a b = λ j. record {
      mbufs = r.outs.mbufs j;
      clusters = r.outs.clusters j;
      chains = (view_is t _ went.sound
          ∙ (λ i. finmap.insert (went.map_is i) (new.1 i) (shown i))
          ∙ sym (two_to_one (chains_of s two.rest) a b (chain_of (pool_of s) a) (chain_of (pool_of s) b)
          (joined (chain_of (pool_of s) a) (chain_of (pool_of s) b)) two.fresh ne)
          ∙ ap (λ (m : FinMap nat_cmp ChainView). finmap.insert (finmap.remove m b) a
          (joined (chain_of (pool_of s) a) (chain_of (pool_of s) b))) (sym two.map_is)) j;
    } in
    record {
      off = (
        (two.front ++ two.back) ∷ two.rest,
        went.sound,
        (
          λ packet is.
              let was : (mbuf_head s (first_of two.front)).packet ≡ Some packet =
              sym (r.likes (first_of two.front)).packet
              ∙ ap (λ (j : ℕ). (mbuf_head t j).packet) (two.front_first ∙ sym new.1) ∙ is in
              omega (
                arith,
                two.front_total packet was,
                lens_like s t r.likes (two.front ++ two.back),
                weigh-append (len_at s) two.front two.back,
                back_len (headed packet was),
                off_here a added (two.front ++ two.back) new.1,
                off_here a 0 (two.front ++ two.back) new.1,
              ),
          rest_by t a added 0 two.rest alone_a (went.totals two.rest_totals),
        ),
      );
      live = live_shown (without (pool_of s) b) (pool_of t) a _ map_is;
      map_is = map_is;
    }

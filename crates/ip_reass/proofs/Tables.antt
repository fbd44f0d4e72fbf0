-- Steps over the table of unfinished datagrams.
use Rattle.std.proofs.Common.{◌≡◌, ℕ, ◌+◌, true, List, [], ◌∷◌, ◌++◌, map, refl, sym, ap, ◌∙◌, subst, arith}
use Rattle.std.proofs.lemmas.List.{map-append}
use Rattle.flat_model.specs.Machine.State.{Unfinished, begun}
use Rattle.mbuf_chain.specs.Chain.{PoolView, without}
use Rattle.mbuf_chain.specs.Owners.{times_among, IsOwned, Moves}
use Rattle.mbuf_chain.specs.Frames.{SameAt}
use Rattle.mbuf_chain.specs.Train.{numbers, IsHeld}
use Rattle.mbuf_chain.proofs.Laws.Owners.{times-append, same_part, same_trans, same_beside, moves_beside, moves_without, owned_after, apart_first, live_first, live_at_most}
use Rattle.mbuf_chain.proofs.Laws.Trains.{Beside, beside_without}
use Rattle.ledger.specs.Accounts.{entries_weight}
use Rattle.ip_reass.specs.Table.{held, held_all, new_datagram, IsUnfinished, AllUnfinished, IsTable, unfinished_of, unfinished}
use Rattle.ip_reass.specs.Fragments.{queued, queued_of}
use Rattle.ip_reass.specs.declared.datagram.Datagram.{Datagram}
use Rattle.flat_model.specs.Machine.State.{Key}
use Rattle.std.proofs.Common.{None}
use Rattle.mbuf_chain.specs.Chain.{Adds}
use Rattle.mbuf_chain.specs.Steps.{one_mbuf, empty_entry}
use Rattle.mbuf_chain.proofs.Laws.Owners.{same_adds, moves_adds, shown_adds}
use Rattle.mbuf_chain.proofs.Laws.Trains.{held_none}
use Rattle.ip_reass.specs.Same.{held_all_same, each_same, unfinished_same, queues_same}
use Rattle.ip_reass.specs.Layouts.{KeyedQueue, queue_of, queues}

-- ---- datagrams are freed
pub held_all-append : (p : PoolView) (k : ℕ) (xs ys : List Datagram)
    → times_among k (held_all p (xs ++ ys)) ≡ times_among k (held_all p xs) + times_among k (held_all p ys)
held_all-append p k [] ys = omega arith
held_all-append p k (d ∷ xs) ys =
    omega (
      arith,
      times-append k (held p d) (held_all p (xs ++ ys)),
      times-append k (held p d) (held_all p xs),
      held_all-append p k xs ys,
    )

all_split : (p : PoolView) (ys : List Datagram) (d : Datagram) → AllUnfinished p (ys ++ d ∷ [])
    → AllUnfinished p ys × IsUnfinished p d
all_split p [] d a = (tt, a.0)
all_split p (y ∷ ys) d a = let r = all_split p ys d a.1 in ((a.0, r.0), r.1)

pub record Last (p : PoolView) (d : Datagram) : Type 0 where
  pub owned : IsOwned p (held p d)
  pub held : IsHeld p d.fragments

pub last_of : (p : PoolView) (xs ys : List Datagram) (d : Datagram) → xs ≡ ys ++ d ∷ [] → IsTable p xs → Last p d
last_of p xs ys d e is = record {
  owned =
      λ k. omega (
        arith,
        is.owned k,
        ap (λ (zs : List Datagram). times_among k (held_all p zs)) e,
        held_all-append p k ys (d ∷ []),
        times-append k (held p d) [],
      );
  held = (all_split p ys d (subst (AllUnfinished p) e is.each)).1.queue.held;
}

pub record Shorter (p : PoolView) (xs : List Datagram) (r : PoolView) (ys : List Datagram) : Type 0 where
  pub table : IsTable r ys
  pub same : SameAt p r (held_all p ys)
  pub moves : Moves p (held_all p xs) r (held_all r ys)

-- **a table without its last datagram, which was freed**
pub shorter : (p r : PoolView) (xs ys : List Datagram) (d : Datagram) → xs ≡ ys ++ d ∷ [] → IsTable p xs
    → Moves p (held p d) r [] → Shorter p xs r ys
shorter p r xs ys d e is m =
    let split : (k : ℕ) → times_among k (held_all p xs) ≡ times_among k (held_all p ys) + times_among k (held p d) =
    λ k. omega (
      arith,
      ap (λ (zs : List Datagram). times_among k (held_all p zs)) e,
      held_all-append p k ys (d ∷ []),
      times-append k (held p d) [],
    ) in
    let owns : IsOwned p (held_all p ys) = λ k. omega (arith, is.owned k, split k) in
    let same : SameAt p r (held_all p ys) =
    same_beside (held_all p ys) m owns (λ k l. omega (arith, is.owned k, split k, live_at_most p k)) in
    let all : held_all r ys ≡ held_all p ys = held_all_same p r ys same in
    let moves : Moves p (held_all p xs) r (held_all r ys) =
    moves_beside (held_all p xs) (held_all r ys) (held_all p ys) m split (λ k. omega (arith, ap (times_among k) all)) in
    record {
      table = record {
        owned = owned_after moves is.owned;
        each = each_same p r ys same (all_split p ys d (subst (AllUnfinished p) e is.each)).0;
      };
      same = same;
      moves = moves;
    }

-- one datagram, whose chains were freed
pub record Emptied (p : PoolView) (d : Datagram) (q : PoolView) : Type 0 where
  pub held_q : IsHeld q d.fragments
  pub queue_is : queued q d.fragments ≡ queued p d.fragments
  pub moves : Moves p (held p d) q (numbers q d.fragments)

pub emptied : (p q : PoolView) (d : Datagram) → IsOwned p (held p d) → IsHeld p d.fragments → q ≡ without p d.holder
    → Emptied p d q
emptied p q d owns holds is =
    let b : Beside p q d.fragments =
    beside_without p q d.holder d.fragments is (apart_first p d.holder (numbers p d.fragments) owns) holds in
    record {
      held_q = b.held;
      queue_is = ap (map queued_of) b.queued_packets;
      moves =
          moves_beside (held p d) (numbers q d.fragments) (numbers p d.fragments)
          (moves_without p q d.holder (live_first p d.holder (numbers p d.fragments) owns) is) (λ k. omega arith)
          (λ k. omega (arith, ap (times_among k) b.numbers));
    }

-- the datagrams that stay are unchanged by each step
pub same_more : (p q r : PoolView) (xs ys : List Datagram) (d : Datagram) → xs ≡ ys ++ d ∷ []
    → SameAt p q (held_all p xs) → SameAt q r (held_all q ys) → SameAt p r (held_all p ys)
same_more p q r xs ys d e s n =
    let here : SameAt p q (held_all p ys) =
    same_part p q (held_all p xs) (held_all p ys) s
    (λ k. omega (arith, ap (λ (zs : List Datagram). times_among k (held_all p zs)) e, held_all-append p k ys (d ∷ [])))
    in
    same_trans p q r (held_all p ys) here (subst (SameAt q r) (held_all_same p q ys here) n)

pub same_none : (p : PoolView) (xs : List ℕ) → SameAt p p xs
same_none p xs = record { mbufs = refl; same = λ k h. refl }

-- ---- a new datagram
pub record Begins (p : PoolView) (ds : List Datagram) (q : PoolView) (es : List Datagram) : Type 0 where
  pub table : IsTable q es
  pub same : SameAt p q (held_all p ds)
  pub moves : Moves p (held_all p ds) q (held_all q es)
  pub shows : (k : Key) (c : ℕ) → es ≡ ds ++ new_datagram k c ∷ [] → unfinished q es ≡ unfinished p ds ++ begun k ∷ []
  pub rows : (k : Key) (c : ℕ) → es ≡ ds ++ new_datagram k c ∷ []
      → queues q es ≡ queues p ds ++ record { key = k; fragments = [] } ∷ []

pub begins : (p q : PoolView) (ds es : List Datagram) (k : Key) (c : ℕ) → IsTable p ds
    → Adds p q c (one_mbuf true (empty_entry 28 None) c)
    → es ≡ ds ++ new_datagram k c ∷ [] → Begins p ds q es
begins p q ds es k c is a e =
    let d : Datagram = new_datagram k c in
    let same : SameAt p q (held_all p ds) = same_adds (held_all p ds) a is.owned in
    let all : held_all q ds ≡ held_all p ds = held_all_same p q ds same in
    let times_is : (j : ℕ) → times_among j (held_all q es) ≡ times_among j (held_all p ds) + times_among j (c ∷ []) =
    λ j. omega (
      arith,
      ap (λ (zs : List Datagram). times_among j (held_all q zs)) e,
      held_all-append q j ds (d ∷ []),
      ap (times_among j) all,
    ) in
    let moves : Moves p (held_all p ds) q (held_all q es) =
    moves_beside (held_all p ds) (held_all q es) (held_all p ds) (moves_adds a) (λ j. omega arith) times_is in
    let mine : IsUnfinished q d = record {
      queue = record { held = held_none q d.fragments refl; apart = tt; small = tt };
      counted = refl;
      holder = ap (λ v. entries_weight v.entries) (shown_adds a);
    } in
    record {
      table =
          record {
            owned = owned_after moves is.owned;
            each = subst (AllUnfinished q) (sym e) (each_end q ds d (each_same p q ds same is.each) mine);
          };
      same = same;
      moves = moves;
      shows =
          λ j b f. ap (unfinished q) f ∙ (map-append (unfinished_of q) ds (new_datagram j b ∷ [])
          ∙ ap (λ (us : List Unfinished). us ++ begun j ∷ []) (unfinished_same p q ds same));
      rows =
          λ j b f. ap (queues q) f ∙ (map-append (queue_of q) ds (new_datagram j b ∷ [])
          ∙ ap (λ (us : List KeyedQueue). us ++ record { key = j; fragments = [] } ∷ []) (queues_same p q ds same));
    }
  where
    each_end : (q : PoolView) (xs : List Datagram) (x : Datagram) → AllUnfinished q xs → IsUnfinished q x
        → AllUnfinished q (xs ++ x ∷ [])
    each_end q [] x a h = (h, tt)
    each_end q (y ∷ ys) x a h = (a.0, each_end q ys x a.1 h)

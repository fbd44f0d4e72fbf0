-- A fragment put among those of one datagram of a table, and a datagram removed from the table.
use Rattle.std.proofs.Common.{◌≡◌, ℕ, zero, suc, ◌+◌, ◌<◌, Bool, true, List, [], ◌∷◌, length, map, get_or, set, remove, refl, sym, ap, ◌∙◌, subst, arith}
use Rattle.std.proofs.lemmas.Bool.{OnTrue_at, OnTrue_from, OnFalse_at, OnFalse_from}
use Rattle.std.proofs.lemmas.List.{get_or_default, get_or-map, get_or-set_same, length-map}
use Rattle.flat_model.specs.Fragments.Overlay.{Map}
use Rattle.mbuf_chain.specs.Chain.{ChainView, PoolView, chain_of, alone, without}
use Rattle.mbuf_chain.specs.Owners.{times_among, IsOwned, Moves}
use Rattle.mbuf_chain.specs.Frames.{SameAt}
use Rattle.mbuf_chain.specs.Train.{TrainView, numbers, IsHeld}
use Rattle.mbuf_chain.proofs.Laws.Owners.{times_same, chain_same, moves_trans, moves_beside, same_beside, owned_after, live_at_most}
use Rattle.ledger.specs.Accounts.{entries_weight}
use Rattle.ip_reass.specs.Fragments.{QueuedFragment, fragment_of, fragments, queued, joined_fragments, map_of}
use Rattle.ip_reass.specs.Table.{held, held_all, IsUnfinished, IsTable, unfinished, unfinished_of}
use Rattle.ip_reass.specs.Layouts.{queue_of, queues}
use Rattle.ip_reass.specs.Inside.Steps.{datagram_at, no_datagram, IsInserted, InsertsIn, TakesOut}
use Rattle.ip_reass.specs.declared.datagram.Datagram.{Datagram}
use Rattle.ip_reass.proofs.Steps.{fragments_are}
use Rattle.ip_reass.proofs.Places.{held_at, each_at, each_put, others_each, put_moves, put_shows, put_queues, gone_moves, gone_shows, gone_queues}
use Rattle.ip_reass.proofs.Tables.{Emptied, emptied}

set_same : {X : Type 0} (xs : List X) (i : ℕ) (y d : X) → i < length xs → get_or xs i d ≡ y → set xs i y ≡ xs
set_same [] i y d l e = absurd (omega arith)
set_same (x ∷ xs) zero y d l e = ap (λ z. z ∷ xs) (sym e)
set_same (x ∷ xs) (suc i) y d l e = ap (λ zs. x ∷ zs) (set_same xs i y d (omega arith) e)

in_place : (p q : PoolView) (ds : List Datagram) (i c : ℕ) (f : QueuedFragment) (answer : Bool) (t : TrainView) (n : ℕ)
    → IsTable p ds → i < length ds → IsOwned p (c ∷ held_all p ds)
    → IsInserted p (datagram_at ds i) c f answer q (record (datagram_at ds i) { fragments = t; bytes = n })
    → InsertsIn p ds i c f answer q (set ds i (record (datagram_at ds i) { fragments = t; bytes = n }))
in_place p q ds i c f answer t n is l owns b =
    let x : Datagram = no_datagram in
    let d : Datagram = datagram_at ds i in
    let y : Datagram = record (datagram_at ds i) { fragments = t; bytes = n } in
    let one = (each_at p ds i no_datagram l is.each).0 in
    let m : Moves p (c ∷ held p (datagram_at ds i)) q
    (held q (record (datagram_at ds i) { fragments = t; bytes = n })) =
    moves_beside (c ∷ held p (datagram_at ds i)) (held q (record (datagram_at ds i) { fragments = t; bytes = n }))
    ((datagram_at ds i).holder ∷ []) b.moves (λ k. omega arith) (λ k. omega arith) in
    let split : (k : ℕ) → times_among k (held_all p ds)
    ≡ times_among k (held p (datagram_at ds i)) + times_among k (held_all p (remove ds i)) =
    λ k. held_at p k ds i no_datagram l in
    let holds : SameAt p q ((datagram_at ds i).holder ∷ []) =
    same_beside ((datagram_at ds i).holder ∷ []) b.moves (λ k. omega (arith, owns k, split k))
    (λ k h. omega (arith, owns k, split k, live_at_most p k)) in
    let mine : IsUnfinished q (record (datagram_at ds i) { fragments = t; bytes = n }) = record {
      queue = b.queue;
      counted = b.counted;
      holder =
          ap (λ (v : ChainView). entries_weight v.entries)
          (chain_same p q ((datagram_at ds i).holder ∷ []) (datagram_at ds i).holder holds
          (omega (arith, times_same (datagram_at ds i).holder []))) ∙ one.holder;
    } in
    let moves : Moves p (c ∷ held_all p ds) q
    (held_all q (set ds i (record (datagram_at ds i) { fragments = t; bytes = n }))) =
    put_moves p q ds i no_datagram (c ∷ []) (held q (record (datagram_at ds i) { fragments = t; bytes = n })) l owns is
    m (record (datagram_at ds i) { fragments = t; bytes = n }) [] (λ k. omega arith) in
    let shows : unfinished q (set ds i (record (datagram_at ds i) { fragments = t; bytes = n }))
    ≡ set (unfinished p ds) i (unfinished_of q (record (datagram_at ds i) { fragments = t; bytes = n })) =
    put_shows p q ds i no_datagram (c ∷ []) (held q (record (datagram_at ds i) { fragments = t; bytes = n })) l owns is
    m (record (datagram_at ds i) { fragments = t; bytes = n }) in
    let all : queues q (set ds i (record (datagram_at ds i) { fragments = t; bytes = n }))
    ≡ set (queues p ds) i (queue_of q (record (datagram_at ds i) { fragments = t; bytes = n })) =
    put_queues p q ds i no_datagram (c ∷ []) (held q (record (datagram_at ds i) { fragments = t; bytes = n })) l owns is
    m (record (datagram_at ds i) { fragments = t; bytes = n }) in
    record {
      train = t;
      bytes = n;
      change = refl;
      covered = b.covered;
      shows =
          OnTrue_from answer _ (λ yes. shows
          ∙ ap (λ (bytes : Map). set (unfinished p ds) i
          (record { key = (datagram_at ds i).key; ticks = (datagram_at ds i).ticks; bytes = bytes })) (OnTrue_at yes
          b.map));
      map = b.map;
      queue = b.inserted;
      same = OnFalse_from answer _ (λ no.
          let maps : map_of (fragments q t) ≡ map_of (fragments p (datagram_at ds i).fragments) =
          ap map_of (fragments_are q t ∙ (ap (map fragment_of) (OnFalse_at no b.none)
          ∙ sym (fragments_are p (datagram_at ds i).fragments))) in
          shows ∙ (ap (λ (bytes : Map). set (unfinished p ds) i
          (record { key = (datagram_at ds i).key; ticks = (datagram_at ds i).ticks; bytes = bytes })) maps
          ∙ set_same (unfinished p ds) i (unfinished_of p (datagram_at ds i)) (unfinished_of p no_datagram)
          (omega (arith, length-map ds (unfinished_of p)))
          (get_or-map (unfinished_of p) ds i no_datagram (unfinished_of p no_datagram) l)));
      rows =
          OnTrue_from answer _ (λ yes. all
          ∙ ap (λ (fs : List QueuedFragment). set (queues p ds) i
          (record { key = (datagram_at ds i).key; fragments = fs })) (OnTrue_at yes b.inserted));
      rows_same = OnFalse_from answer _ (λ no.
          all ∙ (ap (λ (fs : List QueuedFragment). set (queues p ds) i
          (record { key = (datagram_at ds i).key; fragments = fs })) (OnFalse_at no b.none)
          ∙ set_same (queues p ds) i (queue_of p (datagram_at ds i)) (queue_of p no_datagram)
          (omega (arith, length-map ds (queue_of p)))
          (get_or-map (queue_of p) ds i no_datagram (queue_of p no_datagram) l)));
      table = record {
        owned = owned_after moves owns;
        each =
            each_put q ds i (record (datagram_at ds i) { fragments = t; bytes = n }) l
            (others_each p q ds i no_datagram (c ∷ []) (held q (record (datagram_at ds i) { fragments = t; bytes = n }))
            l owns is m) mine;
      };
      moves = moves;
    }

-- **the same for the datagram that the code reads**
pub inserted_in_table : (p q : PoolView) (ds : List Datagram) (i c : ℕ) (x : Datagram) (f : QueuedFragment)
    (answer : Bool)
    (e : Datagram) → IsTable p ds → i < length ds → IsOwned p (c ∷ held_all p ds)
    → IsInserted p (get_or ds i x) c f answer q e → InsertsIn p ds i c f answer q (set ds i e)
inserted_in_table p q ds i c x f answer e is l owns b =
    let here : get_or ds i x ≡ get_or ds i no_datagram = get_or_default ds i x no_datagram l in
    let inserted_here : IsInserted p (datagram_at ds i) c f answer q e =
    subst (λ (d : Datagram). IsInserted p d c f answer q e) here b in
    let whole : e ≡ record (datagram_at ds i) { fragments = e.fragments; bytes = e.bytes } = inserted_here.same in
    subst (λ (d : Datagram). InsertsIn p ds i c f answer q (set ds i d)) (sym whole)
    (in_place p q ds i c f answer e.fragments e.bytes is l owns
    (subst (IsInserted p (datagram_at ds i) c f answer q) whole inserted_here))

pub datagram_put : (ds : List Datagram) (i : ℕ) (e : Datagram) → i < length ds → datagram_at (set ds i e) i ≡ e
datagram_put ds i e l = get_or-set_same ds i e no_datagram l

-- ---- a datagram is removed
pub taken_out : (p r q : PoolView) (ds : List Datagram) (i c : ℕ) (d : Datagram) → IsTable p ds → i < length ds
    → d ≡ get_or ds i d → r ≡ without p d.holder
    → (chain_of q c).entries ≡ joined_fragments (queued r d.fragments) → (chain_of q c).front ≡ alone true
    → Moves r (numbers r d.fragments) q (c ∷ []) → TakesOut p ds i c q (remove ds i)
taken_out p r q ds i c d is l e gone entries front joins =
    let here : d ≡ datagram_at ds i = e ∙ get_or_default ds i d no_datagram l in
    let split : (k : ℕ) → times_among k (held_all p ds)
    ≡ times_among k (held p (get_or ds i d)) + times_among k (held_all p (remove ds i)) = λ k. held_at p k ds i d l in
    let same_d : (k : ℕ) → times_among k (held p (get_or ds i d)) ≡ times_among k (held p d) =
    λ k. ap (λ (x : Datagram). times_among k (held p x)) (sym e) in
    let owns_d : IsOwned p (held p d) = λ k. omega (arith, is.owned k, split k, same_d k) in
    let one : IsUnfinished p d = subst (IsUnfinished p) (sym e) (each_at p ds i d l is.each).0 in
    let empty : Emptied p d r = emptied p r d owns_d one.queue.held gone in
    let m : Moves p (held p (get_or ds i d)) q (c ∷ []) =
    moves_beside (held p (get_or ds i d)) (c ∷ []) [] (moves_trans empty.moves joins) (λ k. omega (arith, same_d k))
    (λ k. omega arith) in
    let queue : queued r d.fragments ≡ queued p (datagram_at ds i).fragments =
    empty.queue_is ∙ ap (λ (x : Datagram). queued p x.fragments) here in
    let moves : Moves p (held_all p ds) q (c ∷ held_all q (remove ds i)) =
    gone_moves p q ds i d [] (c ∷ []) l is.owned is m in
    record {
      change = refl;
      entries = entries ∙ ap joined_fragments queue;
      front = front;
      shows = gone_shows p q ds i d [] (c ∷ []) l is.owned is m;
      rows = gone_queues p q ds i d [] (c ∷ []) l is.owned is m;
      table =
          record {
            owned = λ k. omega (arith, owned_after moves is.owned k);
            each = others_each p q ds i d [] (c ∷ []) l is.owned is m;
          };
      moves = moves;
    }

-- the chain that arrived belongs to no datagram
pub apart_at : (p : PoolView) (ds : List Datagram) (i c : ℕ) (x : Datagram) → i < length ds
    → IsOwned p (c ∷ held_all p ds) → times_among c (numbers p (get_or ds i x).fragments) ≡ 0
apart_at p ds i c x l owns = omega (arith, owns c, live_at_most p c, times_same c (held_all p ds), held_at p c ds i x l)

-- the fragments of a datagram whose key's mbuf was freed
pub held_then : (p r : PoolView) (ds : List Datagram) (i : ℕ) (d : Datagram) → IsTable p ds → i < length ds
    → d ≡ get_or ds i d → r ≡ without p d.holder → IsHeld r d.fragments
held_then p r ds i d is l e gone =
    let one : IsUnfinished p d = subst (IsUnfinished p) (sym e) (each_at p ds i d l is.each).0 in
    (emptied p r d (λ k. omega (
      arith,
      is.owned k,
      held_at p k ds i d l,
      ap (λ (x : Datagram). times_among k (held p x)) (sym e),
    )) one.queue.held gone).held_q

-- The packets of a train arrive one after another.
use Rattle.std.proofs.Common.{◌≡◌, ℕ, ◌<◌, List, [], ◌∷◌, ◌++◌, length, map, None, refl, sym, ap, ◌∙◌, subst, arith}
use Rattle.std.specs.Prelude.{slice_index_or}
use Rattle.std.specs.List.{remove}
use Rattle.flat_model.specs.Amounts.Weight.{Weight, Item, nothing, ◌⊕◌, all_of}
use Rattle.flat_model.specs.Machine.State.{State}
use Rattle.flat_model.specs.Machine.Ledger.{exact_ledger, weight_of_state}
use Rattle.flat_model.specs.Machine.Arrival.{Looped, Arrives, AllArrive, silent}
use Rattle.flat_model.specs.Machine.Fate.{told}
use Rattle.flat_model.specs.declared.fate.Fate.{Fate}
use Rattle.flat_model.specs.declared.counters.Counters.{Counters}
use Rattle.flat_model.proofs.Laws.{arrives_too, itself, nothing-both, times-both}
use Rattle.mbuf_chain.specs.Chain.{Entry, PoolView, chain_of, entry_of, no_entry}
use Rattle.mbuf_chain.specs.Owners.{times_among, IsOwned, Moves}
use Rattle.mbuf_chain.specs.Frames.{SameAt}
use Rattle.mbuf_chain.specs.Train.{TrainView, QueuedPacket, no_queued_packet, queued_packets, queued_packet_at, numbers, IsHeld}
use Rattle.mbuf_chain.proofs.Laws.Owners.{times-append, live_at_most, moves_beside, moves_trans, owned_after, same_beside}
use Rattle.mbuf_chain.proofs.Laws.Trains.{length-queued_packets, numbers_same, queued_packets_same, held_same, none_left}
use Rattle.ledger.specs.Accounts.{item_of, item_at, weight_at, weight_owned, IsAccounted}
use Rattle.ledger.proofs.Laws.{accounted_as}
use Rattle.ip_out.specs.Packets.{train_packets, AreBegunPlain, BeginPlain}
use Rattle.ip_out.proofs.Laws.{none_wait}
use Rattle.ip_reass.specs.Table.{TableView, IsReady, held_all, unfinished}
use Rattle.sock_calls.specs.Sockets.{SocksView, IsSocks, queued_chains, with_net}
use Rattle.sock_calls.specs.Delivery.{NetView, IsAccountedAt, KeepsParts, held_with, net_state}
use Rattle.net_stack.specs.Inside.Arrivals.{IsArrived, AreArriving, HaveArrived}
use Rattle.net_stack.proofs.PartSteps.{output_weighs}
use Rattle.net_stack.proofs.Aside.{Aside, aside, as_held, as_owned, host_view}

-- the first packet of a train, after it was removed
record IsFirst (p : PoolView) (t : TrainView) (q : PoolView) (c : ℕ) (u : TrainView) : Type 0 where
  items : train_packets p t ≡ item_at q c ∷ train_packets q u
  plain : (entry_of (chain_of q c) 0).cluster ≡ None
  later : BeginPlain q u

is_first : (p q : PoolView) (t u : TrainView) (c tag : ℕ) → IsHeld p t → BeginPlain p t → 0 < t.len
    → queued_packets q u ≡ remove (queued_packets p t) 0
    → queued_packet_at p t 0 ≡ record { number = c; entries = (chain_of q c).entries; tag = tag } → IsFirst p t q c u
is_first p q t u c tag held plain some is_queued_packets is_queued_packet = go (queued_packets p t) refl plain
  where
    go : (cs : List QueuedPacket) → queued_packets p t ≡ cs → AreBegunPlain cs → IsFirst p t q c u
    go [] e begun = absurd (omega (arith, length-queued_packets p t held, some, ap length e))
    go (x ∷ xs) e begun =
        let same : x.entries ≡ (chain_of q c).entries =
        ap (λ (y : QueuedPacket). y.entries)
        (sym (ap (λ (cs : List QueuedPacket). slice_index_or cs 0 no_queued_packet) e) ∙ is_queued_packet) in
        let left : xs ≡ queued_packets q u = sym (is_queued_packets ∙ ap (λ (cs : List QueuedPacket). remove cs 0) e) in
        record {
          items = ap (map (λ (queued_packet : QueuedPacket). item_of queued_packet.entries)) e
              ∙ (λ i. item_of (same i) ∷ map (λ (queued_packet : QueuedPacket). item_of queued_packet.entries)
              (left i));
          plain = ap (λ (es : List Entry). (slice_index_or es 0 no_entry).cluster) (sym same) ∙ begun.0;
          later = subst AreBegunPlain left begun.1;
        }

-- the accounts don't depend on the order of what the caller holds
first_last : {p : PoolView} {s : State} (held a b : Weight) → IsAccounted p s (held ⊕ (a ⊕ b))
    → IsAccounted p s ((held ⊕ b) ⊕ a)
first_last {p} {s} held a b acc = accounted_as acc refl (record {
  mbufs = omega arith;
  bag = λ k. omega (
    arith,
    times-both k (weight_of_state s) (held ⊕ (a ⊕ b)),
    times-both k held (a ⊕ b),
    times-both k a b,
    times-both k (weight_of_state s) ((held ⊕ b) ⊕ a),
    times-both k (held ⊕ b) a,
    times-both k held b,
  );
})

-- the rest of the train stays the same while its first packet arrives
record IsLater (p : PoolView) (c : ℕ) (u : TrainView) (xs : List ℕ) (q : PoolView) (ys : List ℕ) : Type 0 where
  numbers_are : numbers q u ≡ numbers p u
  items : train_packets q u ≡ train_packets p u
  held : IsHeld q u
  plain : BeginPlain q u
  moves : Moves p ((c ∷ numbers p u) ++ xs) q (numbers q u ++ ys)

is_later : (p q : PoolView) (c : ℕ) (u : TrainView) (xs ys : List ℕ) → IsOwned p ((c ∷ numbers p u) ++ xs) → IsHeld p u
    → BeginPlain p u → Moves p (c ∷ xs) q ys → IsLater p c u xs q ys
is_later p q c u xs ys owned held plain m =
    let same : SameAt p q (numbers p u) =
    same_beside (numbers p u) m (λ k. omega (arith, owned k, times-append k (numbers p u) xs))
    (λ k h. omega (arith, owned k, h, live_at_most p k, times-append k (numbers p u) xs)) in
    let ns : numbers q u ≡ numbers p u = numbers_same p q u same in
    let cs : queued_packets q u ≡ queued_packets p u = queued_packets_same p q u same in
    record {
      numbers_are = ns;
      items = ap (map (λ (queued_packet : QueuedPacket). item_of queued_packet.entries)) cs;
      held = held_same p q u same held;
      plain = subst AreBegunPlain (sym cs) plain;
      moves = moves_beside ((c ∷ numbers p u) ++ xs) (numbers q u ++ ys) (numbers p u) m
          (λ k. omega (arith, times-append k (numbers p u) xs))
          (λ k. omega (arith, times-append k (numbers q u) ys, ap (times_among k) ns));
    }

-- ---- one more packet

pub record IsOneMore (v : NetView) (t : TrainView) (q : PoolView) (s : SocksView) (ds : TableView) (b : Counters)
    (u : TrainView) : Type 0 where
  pub way : AreArriving v t (host_view q s ds b) u
  pub held : IsHeld q u
  pub plain : BeginPlain q u
  pub owned : IsOwned q (numbers q u ++ (held_all q ds.datagrams ++ queued_chains q s.queues))

-- removing a packet from the train keeps the sockets and the unfinished datagrams
pub taken : {p q : PoolView} {s : SocksView} {ds : TableView} {c : ℕ} (t u : TrainView)
    → IsOwned p (numbers p t ++ (held_all p ds.datagrams ++ queued_chains p s.queues)) → IsReady p ds → IsSocks p s
    → Moves p (numbers p t) q (c ∷ numbers q u) → Aside p ds s (numbers p t) q (c ∷ numbers q u)
taken {p} {q} {s} {ds} {c} t u owned table socks m = aside (numbers p t) (c ∷ numbers q u) owned table socks m

pub one_owned : {p q : PoolView} {s : SocksView} {ds : TableView} {c : ℕ} (t u : TrainView)
    → Aside p ds s (numbers p t) q (c ∷ numbers q u)
    → IsOwned q (c ∷ (held_all q ds.datagrams ++ queued_chains q s.queues))
one_owned {q = q} {s = s} {ds = ds} {c = c} t u a =
    λ k. omega (arith, a.owned k, times-append k (numbers q u) (held_all q ds.datagrams ++ queued_chains q s.queues))

pub one_more : {v : NetView} {t u u1 : TrainView} {q q1 q2 : PoolView} {s s2 : SocksView} {ds ds2 : TableView}
    {a b : Counters} {c : ℕ} {fate : Fate} (tag : ℕ)
    → AreArriving v t (host_view q s ds a) u → IsHeld q u → BeginPlain q u
    → IsOwned q (numbers q u ++ (held_all q ds.datagrams ++ queued_chains q s.queues)) → IsReady q ds
    → 0 < u.len → queued_packets q1 u1 ≡ remove (queued_packets q u) 0
    → queued_packet_at q u 0 ≡ record { number = c; entries = (chain_of q1 c).entries; tag = tag } → IsHeld q1 u1
    → Moves q (numbers q u) q1 (c ∷ numbers q1 u1)
    → IsArrived (host_view q1 s ds a) c fate (host_view q2 s2 ds2 b)
    → IsOneMore v t q2 s2 ds2 b u1
one_more {v} {t} {u} {u1} {q} {q1} {q2} {s} {s2} {ds} {ds2} {a} {b} {c} {fate} tag w held plain owned table some
    is_queued_packets is_queued_packet held1 m arrived =
    let x : Aside q ds s (numbers q u) q1 (c ∷ numbers q1 u1) = taken u u1 owned table w.parts.ready m in
    let f : IsFirst q u q1 c u1 = is_first q q1 u u1 c tag held plain some is_queued_packets is_queued_packet in
    let l : IsLater q1 c u1 (held_all q1 ds.datagrams ++ queued_chains q1 s.queues) q2
    (held_all q2 ds2.datagrams ++ queued_chains q2 s2.queues) =
    is_later q1 q2 c u1 (held_all q1 ds.datagrams ++ queued_chains q1 s.queues)
    (held_all q2 ds2.datagrams ++ queued_chains q2 s2.queues) x.owned held1 f.later arrived.parts.moves in
    let wl : Weight = weight_owned q1 (numbers q1 u1) in
    let weighs : all_of (λ (item : Item). item.weight) (train_packets q1 u1) ≡ wl = output_weighs q1 (numbers q1 u1) in
    let now : (rest : State) → with_net q1 s (unfinished q1 ds.datagrams) a rest
    ≡ with_net q s (unfinished q ds.datagrams) a rest = λ rest. x.shows a rest in
    let in_hand : (rest : State) (held : Weight) → IsAccountedAt v rest (held_with v.pool held (numbers v.pool t))
    → IsAccounted q1 (with_net q1 s (unfinished q1 ds.datagrams) a rest) ((held ⊕ wl) ⊕ weight_at q1 c) =
    λ rest held acc. first_last held (weight_at q1 c) wl (as_owned held (c ∷ numbers q1 u1)
    (x.accounts a a rest held (w.parts.accounts rest held acc))) in
    let alone : (rest : State) → IsAccountedAt v rest (weight_owned v.pool (numbers v.pool t))
    → IsAccounted q1 (with_net q1 s (unfinished q1 ds.datagrams) a rest) (wl ⊕ weight_at q1 c) =
    λ rest acc. subst (λ (h : Weight). IsAccounted q1 (with_net q1 s (unfinished q1 ds.datagrams) a rest)
    (h ⊕ weight_at q1 c)) (nothing-both wl)
    (in_hand rest nothing (as_held nothing (numbers v.pool t)
    (subst (λ (h : Weight). IsAccountedAt v rest h) (sym (nothing-both (weight_owned v.pool (numbers v.pool t))))
    acc))) in
    record {
      way = record {
        goes = λ rest new acc later.
            let mid : State = with_net q2 s2 (unfinished q2 ds2.datagrams) b rest in
            let step : Arrives exact_ledger Looped wl (item_at q1 c) (with_net q1 s (unfinished q1 ds.datagrams) a rest)
            mid =
            arrives_too exact_ledger exact_ledger (itself exact_ledger) (told fate) silent (λ end new is h. h.1)
            Looped wl
            (item_at q1 c) (with_net q1 s (unfinished q1 ds.datagrams) a rest) mid
            (arrived.step rest wl Looped f.plain (alone rest acc)) in
            let first : Arrives exact_ledger Looped (all_of (λ (item : Item). item.weight) (train_packets q1 u1))
            (item_at q1 c) (with_net q s (unfinished q ds.datagrams) a rest) mid =
            subst (λ (h : Weight). Arrives exact_ledger Looped h (item_at q1 c)
            (with_net q s (unfinished q ds.datagrams) a rest) mid) (sym weighs)
            (subst (λ (old : State). Arrives exact_ledger Looped wl (item_at q1 c) old mid) (now rest) step) in
            let others : AllArrive exact_ledger (train_packets q1 u1) mid new =
            subst (λ (items : List Item). AllArrive exact_ledger items mid new) l.items later in
            w.goes rest new acc
            (subst (λ (items : List Item). AllArrive exact_ledger items
            (with_net q s (unfinished q ds.datagrams) a rest) new) (sym f.items) (mid, first, others));
        parts = record {
          accounts = λ rest held acc. as_held held (numbers q2 u1)
              (subst (λ (h : Weight). IsAccounted q2 (with_net q2 s2 (unfinished q2 ds2.datagrams) b rest) (held ⊕ h))
              (sym weighs ∙ ap (all_of (λ (item : Item). item.weight)) (sym l.items) ∙ output_weighs q2 (numbers q2 u1))
              (arrived.parts.accounts rest (held ⊕ wl) (in_hand rest held acc)));
          ready = arrived.parts.ready;
          pcbs = arrived.parts.pcbs ∙ w.parts.pcbs;
          moves = moves_trans w.parts.moves (moves_trans x.moves l.moves);
        };
      };
      held = l.held;
      plain = l.plain;
      owned = owned_after (moves_trans x.moves l.moves) owned;
    }

-- ---- the end of the loop

pub all_arrived : (v : NetView) (t : TrainView) (w : NetView) (u : TrainView) → AreArriving v t w u → u.len ≡ 0
    → HaveArrived v t w
all_arrived v t w u way none = record {
  step = λ rest acc. way.goes rest (net_state w rest) acc
      (subst (λ (items : List Item). AllArrive exact_ledger items (net_state w rest) (net_state w rest))
      (sym (none_wait w.pool u none)) refl);
  parts = subst (λ (left : List ℕ). KeepsParts v (numbers v.pool t) w left) (none_left w.pool u none) way.parts;
}

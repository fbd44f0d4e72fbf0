-- A step that doesn't touch the table leaves it and its weight unchanged: laws that the ghost members of the table cite
-- (this project's own).
use Rattle.std.proofs.Common.{◌≡◌, ℕ, List, [], ◌∷◌, ◌++◌, length, map, refl, sym, ap, ◌∙◌, subst, arith}
use Rattle.std.specs.Prelude.{count_by}
use Rattle.std.proofs.lemmas.List.{length-map}
use Rattle.params.specs.declared.TheConstants.{IP_MAX_DATA}
use Rattle.flat_model.specs.Amounts.Weight.{Weight, SameWeight, all_of, mbuf, ◌⊕◌}
use Rattle.flat_model.specs.Machine.State.{Unfinished, is_key}
use Rattle.flat_model.specs.Fragments.Whole.{weight_of_pieces}
use Rattle.mbuf_chain.specs.Chain.{PoolView}
use Rattle.mbuf_chain.specs.Owners.{IsOwned}
use Rattle.mbuf_chain.specs.Frames.{SameAt}
use Rattle.mbuf_chain.specs.Train.{TrainView, QueuedPacket, queued_packet_of, numbers, queued_packets}
use Rattle.mbuf_chain.proofs.Laws.Owners.{times-append, times_same, chain_same, same_part, owned_same}
use Rattle.mbuf_chain.specs.Kept.{numbers_same, queued_packets_same, held_same}
use Rattle.ledger.specs.Accounts.{entries_weight, weight_at, weight_owned}
use Rattle.flat_model.proofs.Laws.{times-both, all_of-append}
use Rattle.flat_model.specs.Fragments.Overlay.{Fragment}
use Rattle.ip_reass.specs.Fragments.{queued_of, fragment_in, bytes_held, fragments, map_of, Apart, AllEnd, IsQueue}
use Rattle.ip_reass.specs.Layouts.{queues}
use Rattle.ip_reass.specs.Table.{held, held_all, IsUnfinished, AllUnfinished, AreDistinct, IsTable, TableView, IsReady, unfinished_of, unfinished}
use Rattle.ip_reass.specs.declared.datagram.Datagram.{Datagram}
use Rattle.ip_reass.specs.Inside.Weighs.{weight_is}

pub none_held : (p : PoolView) (ds : List Datagram) → length ds ≡ 0 → held_all p ds ≡ []
none_held p [] e = refl
none_held p (d ∷ ds) e = absurd (omega arith)

pub length-unfinished : (p : PoolView) (ds : List Datagram) → length (unfinished p ds) ≡ length ds
length-unfinished p ds = length-map ds (unfinished_of p)

-- ---- a step that doesn't touch it
queue_same : (p q : PoolView) (t : TrainView) → SameAt p q (numbers p t) → IsQueue p t → IsQueue q t
queue_same p q t s is =
    let e : fragments q t ≡ fragments p t = ap (map fragment_in) (queued_packets_same p q t s) in
    record {
      held = held_same p q t s is.held;
      apart = subst (Apart 0) (sym e) is.apart;
      small = subst (AllEnd IP_MAX_DATA) (sym e) is.small;
    }

first_same : (p q : PoolView) (d : Datagram) (ds : List Datagram) → SameAt p q (held_all p (d ∷ ds))
    → SameAt p q (held p d)
first_same p q d ds s = same_part p q (held_all p (d ∷ ds)) (held p d) s
    (λ k. omega (arith, times-append k (held p d) (held_all p ds)))

rest_same : (p q : PoolView) (d : Datagram) (ds : List Datagram) → SameAt p q (held_all p (d ∷ ds))
    → SameAt p q (held_all p ds)
rest_same p q d ds s = same_part p q (held_all p (d ∷ ds)) (held_all p ds) s
    (λ k. omega (arith, times-append k (held p d) (held_all p ds)))

train_same : (p q : PoolView) (d : Datagram) → SameAt p q (held p d) → SameAt p q (numbers p d.fragments)
train_same p q d s = same_part p q (held p d) (numbers p d.fragments) s (λ k. omega arith)

pub held_all_same : (p q : PoolView) (ds : List Datagram) → SameAt p q (held_all p ds) → held_all q ds ≡ held_all p ds
held_all_same p q [] s = refl
held_all_same p q (d ∷ ds) s =
    let one : numbers q d.fragments ≡ numbers p d.fragments =
    numbers_same p q d.fragments (train_same p q d (first_same p q d ds s)) in
    λ j. (d.holder ∷ one j) ++ held_all_same p q ds (rest_same p q d ds s) j

one_same : (p q : PoolView) (d : Datagram) → SameAt p q (held p d) → IsUnfinished p d → IsUnfinished q d
one_same p q d s is = record {
  queue = queue_same p q d.fragments (train_same p q d s) is.queue;
  counted = is.counted ∙ ap (λ (cs : List QueuedPacket). bytes_held (map fragment_in cs))
      (sym (queued_packets_same p q d.fragments (train_same p q d s)));
  holder = ap (λ v. entries_weight v.entries) (chain_same p q (held p d) d.holder s
      (omega (arith, times_same d.holder (numbers p d.fragments)))) ∙ is.holder;
}

pub each_same : (p q : PoolView) (ds : List Datagram) → SameAt p q (held_all p ds) → AllUnfinished p ds
    → AllUnfinished q ds
each_same p q [] s a = tt
each_same p q (d ∷ ds) s a = (one_same p q d (first_same p q d ds s) a.0, each_same p q ds (rest_same p q d ds s) a.1)

pub table_same : (p q : PoolView) (ds : List Datagram) → SameAt p q (held_all p ds) → IsTable p ds → IsTable q ds
table_same p q ds s is = record {
  owned = subst (IsOwned q) (sym (held_all_same p q ds s)) (owned_same p q (held_all p ds) s is.owned);
  each = each_same p q ds s is.each;
}

pub unfinished_same : (p q : PoolView) (ds : List Datagram) → SameAt p q (held_all p ds)
    → unfinished q ds ≡ unfinished p ds
unfinished_same p q [] s = refl
unfinished_same p q (d ∷ ds) s =
    let one : queued_packets q d.fragments ≡ queued_packets p d.fragments =
    queued_packets_same p q d.fragments (train_same p q d (first_same p q d ds s)) in
    λ j. record { key = (unfinished_of p d).key; ticks = d.ticks; bytes = map_of (map fragment_in (one j)) }
    ∷ unfinished_same p q ds (rest_same p q d ds s) j

pub distinct_same : (p q : PoolView) (ds es : List Datagram) → unfinished q es ≡ unfinished p ds → AreDistinct p ds
    → AreDistinct q es
distinct_same p q ds es same distinct = λ k. omega (arith, distinct k, ap (count_by (is_key k)) same)

pub ready_same : (p q : PoolView) (r : TableView) → SameAt p q (held_all p r.datagrams) → IsReady p r → IsReady q r
ready_same p q r s is = record {
  table = table_same p q r.datagrams s is.table;
  fragments = is.fragments;
  room = omega (arith, s.mbufs, is.room);
  distinct = distinct_same p q r.datagrams r.datagrams (unfinished_same p q r.datagrams s) is.distinct;
}

pub queues_same : (p q : PoolView) (ds : List Datagram) → SameAt p q (held_all p ds) → queues q ds ≡ queues p ds
queues_same p q [] s = refl
queues_same p q (d ∷ ds) s =
    let one : queued_packets q d.fragments ≡ queued_packets p d.fragments =
    queued_packets_same p q d.fragments (train_same p q d (first_same p q d ds s)) in
    λ j. record { key = d.key; fragments = map queued_of (one j) } ∷ queues_same p q ds (rest_same p q d ds s) j

-- ---- what they weigh
queued_packets_weigh : (p : PoolView) (xs : List ℕ)
    → all_of (λ (q : Fragment). q.weight) (map fragment_in (map (queued_packet_of p) xs)) ≡ weight_owned p xs
queued_packets_weigh p [] = refl
queued_packets_weigh p (x ∷ xs) = ap (λ (w : Weight). weight_at p x ⊕ w) (queued_packets_weigh p xs)

one_weighs : (p : PoolView) (d : Datagram) → IsUnfinished p d
    → weight_owned p (held p d) ≡ mbuf ⊕ weight_of_pieces (map_of (fragments p d.fragments))
one_weighs p d is = λ j. is.holder j ⊕ (sym (queued_packets_weigh p (numbers p d.fragments))
    ∙ sym (weight_is (fragments p d.fragments) is.queue.apart is.queue.small)) j

-- **the weight of the chains is that of the flat machine's datagrams**
pub table_weighs : (p : PoolView) (ds : List Datagram) → AllUnfinished p ds
    → SameWeight (weight_owned p (held_all p ds))
    (all_of (λ (u : Unfinished). mbuf ⊕ weight_of_pieces u.bytes) (unfinished p ds))
table_weighs p [] a = record { mbufs = refl; bag = λ c. refl }
table_weighs p (d ∷ ds) a =
    let rest = table_weighs p ds a.1 in
    let two : weight_owned p (held p d ++ held_all p ds) ≡ weight_owned p (held p d) ⊕ weight_owned p (held_all p ds) =
    all_of-append (weight_at p) (held p d) (held_all p ds) in
    let one : weight_owned p (held p d) ≡ mbuf ⊕ weight_of_pieces (map_of (fragments p d.fragments)) =
    one_weighs p d a.0 in
    let us : Weight = all_of (λ (u : Unfinished). mbuf ⊕ weight_of_pieces u.bytes) (unfinished p ds) in
    record {
      mbufs = omega (arith, ap (λ (w : Weight). w.mbufs) two, rest.mbufs, ap (λ (w : Weight). w.mbufs) one);
      bag = λ c. omega (
        arith,
        ap (λ (w : Weight). Rattle.flat_model.specs.Amounts.Weight.times c w.bag) two,
        rest.bag c,
        times-both c (weight_owned p (held p d)) (weight_owned p (held_all p ds)),
        times-both c (mbuf ⊕ weight_of_pieces (map_of (fragments p d.fragments))) us,
        ap (λ (w : Weight). Rattle.flat_model.specs.Amounts.Weight.times c w.bag) one,
      );
    }

-- A step of some of the parts is a step of the stack.
use Rattle.std.proofs.Common.{◌≡◌, ℕ, ◌+◌, List, [], ◌∷◌, ◌++◌, map, refl, sym, ap, ◌∙◌, subst, arith}
use Rattle.flat_model.specs.Amounts.Weight.{Weight, Item, SameWeight, nothing, all_of, mbuf, ◌⊕◌, times as bag_times}
use Rattle.flat_model.specs.Fragments.Whole.{weight_of_pieces}
use Rattle.flat_model.specs.Machine.State.{State, Socket, Unfinished}
use Rattle.flat_model.specs.Machine.Event.{Event, Reply, IsEvent}
use Rattle.flat_model.specs.Machine.Step.{Step}
use Rattle.flat_model.specs.declared.config.Config.{Config}
use Rattle.flat_model.specs.declared.counters.Counters.{Counters}
use Rattle.flat_model.proofs.Laws.{step_is_consistent, all_of-append, times-both}
use Rattle.mbuf_chain.specs.Chain.{PoolView}
use Rattle.mbuf_chain.specs.Owners.{times_among, IsAll, Moves}
use Rattle.mbuf_chain.specs.Frames.{SameAt}
use Rattle.mbuf_chain.specs.Train.{TrainView, QueuedPacket, queued_packet_of, numbers}
use Rattle.mbuf_chain.proofs.Laws.Owners.{times-append, live_at_most, same_beside, same_part, moves_beside}
use Rattle.mbuf_chain.proofs.Laws.Trains.{numbers_same, queued_packets_same, held_same}
use Rattle.ledger.specs.Accounts.{item_of, weight_at, weight_owned, IsAccounted}
use Rattle.ledger.proofs.Laws.{accounted_all}
use Rattle.pcb_table.specs.Table.{machine, sockets_with}
use Rattle.ip_out.specs.Packets.{train_packets}
use Rattle.ip_out.specs.Queues.{IsOutputQueue}
use Rattle.ip_reass.specs.Table.{TableView, IsTable, IsReady, held_all, unfinished}
use Rattle.ip_reass.specs.Same.{held_all_same, ready_same, unfinished_same, table_weighs}
use Rattle.sock_calls.specs.Sockets.{SocksView, IsSocks, queues_of, queued_chains, with_sockets, with_net}
use Rattle.sock_calls.proofs.Laws.{Kept, kept, queue_weight, socks_weigh}
use Rattle.net_stack.specs.Stack.{StackView, IsStack, rest_of_stack, state_of, stack_chains}

-- ---- what the parts weigh

pub output_weighs : (p : PoolView) (xs : List ℕ)
    → all_of (λ (item : Item). item.weight) (map (λ (queued_packet : QueuedPacket). item_of queued_packet.entries)
    (map (queued_packet_of p) xs)) ≡ weight_owned p xs
output_weighs p [] = refl
output_weighs p (x ∷ xs) = ap (λ (w : Weight). weight_at p x ⊕ w) (output_weighs p xs)

-- the pool accounts for the state of a stack
pub accounts_of : (s : StackView) → s.config.mbufs ≡ s.pool.mbufs → s.config.clusters ≡ s.pool.clusters
    → IsSocks s.pool s.socks → IsTable s.pool s.reass.datagrams → IsAll s.pool (stack_chains s)
    → IsAccounted s.pool (state_of s) nothing
accounts_of s m c socks table all =
    let p = s.pool in
    let xs : List ℕ = held_all p s.reass.datagrams in
    let ys : List ℕ = queued_chains p s.socks.queues in
    let zs : List ℕ = numbers p s.output in
    let x : Weight = weight_owned p xs in
    let y : Weight = weight_owned p ys in
    let z : Weight = weight_owned p zs in
    let ws : Weight = all_of (λ (socket : Socket). queue_weight socket.queue)
    (sockets_with (queues_of p s.socks.queues) s.socks.pcbs) in
    let wu : Weight = all_of (λ (u : Unfinished). mbuf ⊕ weight_of_pieces u.bytes) (unfinished p s.reass.datagrams) in
    let wo : Weight = all_of (λ (item : Item). item.weight) (train_packets p s.output) in
    let of_socks : SameWeight ws y = socks_weigh p s.socks socks in
    let of_table : SameWeight x wu = table_weighs p s.reass.datagrams table.each in
    let of_output : wo ≡ z = output_weighs p zs in
    let whole : weight_owned p (stack_chains s) ≡ (x ⊕ y) ⊕ z = all_of-append (weight_at p) (xs ++ ys) zs
    ∙ ap (λ (w : Weight). w ⊕ z) (all_of-append (weight_at p) xs ys) in
    accounted_all p (state_of s) nothing (stack_chains s) all m c (record {
      mbufs = omega (
        arith,
        ap (λ (w : Weight). w.mbufs) whole,
        of_socks.mbufs,
        of_table.mbufs,
        ap (λ (w : Weight). w.mbufs) of_output,
      );
      bag = λ k. omega (
        arith,
        ap (λ (w : Weight). bag_times k w.bag) whole,
        of_socks.bag k,
        of_table.bag k,
        ap (λ (w : Weight). bag_times k w.bag) of_output,
        times-both k (x ⊕ y) z,
        times-both k x y,
        times-both k (ws ⊕ wu ⊕ wo) nothing,
        times-both k (ws ⊕ wu) wo,
        times-both k ws wu,
      );
    })

pub accounts : (s : StackView) → IsStack s → IsAccounted s.pool (state_of s) nothing
accounts s is = accounts_of s is.mbufs is.clusters is.socks is.reass.table is.all

-- ---- any step

pub record Stepped (s : StackView) (event : Event) (reply : Reply) (n : StackView) : Type 0 where
  pub step : Step (state_of s) event reply (state_of n)
  pub stack : IsStack n

-- a step of the machine, under the same configuration, after which the parts satisfy the invariant together
pub stepped : (s n : StackView) (event : Event) (reply : Reply) → IsStack s → IsEvent event → n.config ≡ s.config
    → IsSocks n.pool n.socks → IsReady n.pool n.reass → IsOutputQueue n.pool n.output
    → Moves s.pool (stack_chains s) n.pool (stack_chains n) → Step (state_of s) event reply (state_of n)
    → Stepped s event reply n
stepped s n event reply is can same socks table output m step = record {
  step = step;
  stack = record {
    mbufs = ap (λ (c : Config). c.mbufs) same ∙ is.mbufs ∙ sym m.mbufs;
    clusters = ap (λ (c : Config). c.clusters) same ∙ is.clusters ∙ sym m.clusters;
    socks = socks;
    reass = table;
    output = output;
    all = λ k. omega (arith, m.owned k, is.all k);
    consistent = step_is_consistent (state_of s) (state_of n) event reply is.consistent can step;
  };
}

-- ---- what a step on other chains leaves the same

pub record ReassKept (p q : PoolView) (r : TableView) : Type 0 where
  pub table : IsReady q r
  pub shows : unfinished q r.datagrams ≡ unfinished p r.datagrams
  pub chains : held_all q r.datagrams ≡ held_all p r.datagrams

pub reass_kept : (p q : PoolView) (r : TableView) → SameAt p q (held_all p r.datagrams) → IsReady p r → ReassKept p q r
reass_kept p q r same is = record {
  table = ready_same p q r same is;
  shows = unfinished_same p q r.datagrams same;
  chains = held_all_same p q r.datagrams same;
}

pub record OutputKept (p q : PoolView) (t : TrainView) : Type 0 where
  pub queue : IsOutputQueue q t
  pub shows : train_packets q t ≡ train_packets p t
  pub chains : numbers q t ≡ numbers p t

pub output_kept : (p q : PoolView) (t : TrainView) → SameAt p q (numbers p t) → IsOutputQueue p t → OutputKept p q t
output_kept p q t same is = record {
  queue = record { held = held_same p q t same is.held; room = is.room };
  shows = ap (map (λ (queued_packet : QueuedPacket). item_of queued_packet.entries)) (queued_packets_same p q t same);
  chains = numbers_same p q t same;
}

-- the chains of all three parts
pub split : (s : StackView) (k : ℕ) → times_among k (stack_chains s)
    ≡ times_among k (held_all s.pool s.reass.datagrams) + times_among k (queued_chains s.pool s.socks.queues)
    + times_among k
    (numbers s.pool s.output)
split s k = omega (
  arith,
  times-append k (held_all s.pool s.reass.datagrams ++ queued_chains s.pool s.socks.queues) (numbers s.pool s.output),
  times-append k (held_all s.pool s.reass.datagrams) (queued_chains s.pool s.socks.queues),
)

-- ---- a step that changes only the sockets

pub socks_step : (s : StackView) (q : PoolView) (w : SocksView) (event : Event) (reply : Reply) → IsStack s
    → IsEvent event
    → ((rest : State) → Step (with_sockets s.pool s.socks rest) event reply (with_sockets q w rest))
    → IsSocks q w → Moves s.pool (queued_chains s.pool s.socks.queues) q (queued_chains q w.queues)
    → Stepped s event reply (record s { pool = q; socks = w })
socks_step s q w event reply is can step ready m =
    let p : PoolView = s.pool in
    let n : StackView = record s { pool = q; socks = w } in
    let xs : List ℕ = held_all p s.reass.datagrams in
    let zs : List ℕ = numbers p s.output in
    let same : SameAt p q (xs ++ zs) =
    same_beside (xs ++ zs) m (λ k. omega (arith, is.all k, split s k, times-append k xs zs))
    (λ k h. omega (arith, h, is.all k, split s k, times-append k xs zs, live_at_most p k)) in
    let r : ReassKept p q s.reass = reass_kept p q s.reass
    (same_part p q (xs ++ zs) xs same (λ k. omega (arith, times-append k xs zs))) is.reass in
    let o : OutputKept p q s.output = output_kept p q s.output
    (same_part p q (xs ++ zs) zs same (λ k. omega (arith, times-append k xs zs))) is.output in
    let rest : State =
    record (rest_of_stack s) { unfinished = unfinished p s.reass.datagrams; counters = s.counters } in
    let new : with_sockets q w rest ≡ state_of n =
    λ i. with_sockets q w (record (rest_of_stack s) {
      unfinished = sym r.shows i;
      counters = s.counters;
      output = sym o.shows i;
    }) in
    stepped s n event reply is can refl ready r.table o.queue
    (moves_beside (stack_chains s) (stack_chains n) (xs ++ zs) m
    (λ k. omega (arith, split s k, times-append k xs zs))
    (λ k. omega (arith, split n k, times-append k xs zs, ap (times_among k) r.chains, ap (times_among k) o.chains)))
    (subst (λ (t : State). Step (state_of s) event reply t) new (step rest))

-- ---- a step that changes only the output queue

pub output_step : (s : StackView) (q : PoolView) (u : TrainView) (event : Event) (reply : Reply) → IsStack s
    → IsEvent event → IsOutputQueue q u → Moves s.pool (numbers s.pool s.output) q (numbers q u)
    → Step (state_of s) event reply (record (state_of s) { output = train_packets q u })
    → Stepped s event reply (record s { pool = q; output = u })
output_step s q u event reply is can queue m step =
    let p : PoolView = s.pool in
    let n : StackView = record s { pool = q; output = u } in
    let xs : List ℕ = held_all p s.reass.datagrams in
    let ys : List ℕ = queued_chains p s.socks.queues in
    let same : SameAt p q (xs ++ ys) =
    same_beside (xs ++ ys) m (λ k. omega (arith, is.all k, split s k, times-append k xs ys))
    (λ k h. omega (arith, h, is.all k, split s k, times-append k xs ys, live_at_most p k)) in
    let r : ReassKept p q s.reass = reass_kept p q s.reass
    (same_part p q (xs ++ ys) xs same (λ k. omega (arith, times-append k xs ys))) is.reass in
    let v : Kept p q s.socks = kept p q s.socks (same_part p q (xs ++ ys) ys same
    (λ k. omega (arith, times-append k xs ys))) is.socks in
    let new : record (state_of s) { output = train_packets q u } ≡ state_of n =
    λ i. machine (record (rest_of_stack s)
    { unfinished = sym r.shows i; counters = s.counters; output = train_packets q u })
    (λ fd. sym (v.shows fd) i) s.socks.pcbs in
    stepped s n event reply is can refl v.ready r.table queue
    (moves_beside (stack_chains s) (stack_chains n) (xs ++ ys) m
    (λ k. omega (arith, split s k, times-append k xs ys))
    (λ k. omega (arith, split n k, times-append k xs ys, ap (times_among k) r.chains, ap (times_among k) v.chains)))
    (subst (λ (t : State). Step (state_of s) event reply t) new step)

-- ---- a step that changes only the unfinished datagrams and the counters

pub reass_step : (s : StackView) (q : PoolView) (es : TableView) (c : Counters) (event : Event) (reply : Reply)
    → IsStack s → IsEvent event → IsReady q es → Moves s.pool (held_all s.pool s.reass.datagrams) q
    (held_all q es.datagrams)
    → Step (state_of s) event reply (record (state_of s) { unfinished = unfinished q es.datagrams; counters = c })
    → Stepped s event reply (record s { pool = q; reass = es; counters = c })
reass_step s q es c event reply is can table m step =
    let p : PoolView = s.pool in
    let n : StackView = record s { pool = q; reass = es; counters = c } in
    let ys : List ℕ = queued_chains p s.socks.queues in
    let zs : List ℕ = numbers p s.output in
    let same : SameAt p q (ys ++ zs) =
    same_beside (ys ++ zs) m (λ k. omega (arith, is.all k, split s k, times-append k ys zs))
    (λ k h. omega (arith, h, is.all k, split s k, times-append k ys zs, live_at_most p k)) in
    let v : Kept p q s.socks = kept p q s.socks (same_part p q (ys ++ zs) ys same
    (λ k. omega (arith, times-append k ys zs))) is.socks in
    let o : OutputKept p q s.output = output_kept p q s.output
    (same_part p q (ys ++ zs) zs same (λ k. omega (arith, times-append k ys zs))) is.output in
    let new : record (state_of s) { unfinished = unfinished q es.datagrams; counters = c } ≡ state_of n =
    λ i. machine (record (rest_of_stack s)
    { unfinished = unfinished q es.datagrams; counters = c; output = sym o.shows i })
    (λ fd. sym (v.shows fd) i) s.socks.pcbs in
    stepped s n event reply is can refl v.ready table o.queue
    (moves_beside (stack_chains s) (stack_chains n) (ys ++ zs) m
    (λ k. omega (arith, split s k, times-append k ys zs))
    (λ k. omega (arith, split n k, times-append k ys zs, ap (times_among k) v.chains, ap (times_among k) o.chains)))
    (subst (λ (t : State). Step (state_of s) event reply t) new step)

-- ---- a step that changes all parts except the output queue

input_output : (s : StackView) (q : PoolView) (w : SocksView) (es : TableView) → IsStack s
    → Moves s.pool (held_all s.pool s.reass.datagrams ++ queued_chains s.pool s.socks.queues) q
    (held_all q es.datagrams ++ queued_chains q w.queues) → OutputKept s.pool q s.output
input_output s q w es is m =
    let p : PoolView = s.pool in
    let xs : List ℕ = held_all p s.reass.datagrams ++ queued_chains p s.socks.queues in
    let zs : List ℕ = numbers p s.output in
    let same : SameAt p q zs =
    same_beside zs m (λ k. omega (arith, is.all k, times-append k xs zs))
    (λ k h. omega (arith, h, is.all k, times-append k xs zs, live_at_most p k)) in
    output_kept p q s.output same is.output

pub input_shows : (s : StackView) (q : PoolView) (w : SocksView) (es : TableView) (c : Counters) → IsStack s
    → Moves s.pool (held_all s.pool s.reass.datagrams ++ queued_chains s.pool s.socks.queues) q
    (held_all q es.datagrams ++ queued_chains q w.queues)
    → with_net q w (unfinished q es.datagrams) c (rest_of_stack s)
    ≡ state_of (record s { pool = q; socks = w; reass = es; counters = c })
input_shows s q w es c is m =
    let o : OutputKept s.pool q s.output = input_output s q w es is m in
    λ i. with_net q w (unfinished q es.datagrams) c (record (rest_of_stack s) { output = sym o.shows i })

pub input_step : (s : StackView) (q : PoolView) (w : SocksView) (es : TableView) (c : Counters) (event : Event)
    (reply : Reply) → IsStack s → IsEvent event → IsSocks q w → IsReady q es
    → Moves s.pool (held_all s.pool s.reass.datagrams ++ queued_chains s.pool s.socks.queues) q
    (held_all q es.datagrams ++ queued_chains q w.queues)
    → Step (state_of s) event reply (with_net q w (unfinished q es.datagrams) c (rest_of_stack s))
    → Stepped s event reply (record s { pool = q; socks = w; reass = es; counters = c })
input_step s q w es c event reply is can ready table m step =
    let p : PoolView = s.pool in
    let n : StackView = record s { pool = q; socks = w; reass = es; counters = c } in
    let xs : List ℕ = held_all p s.reass.datagrams ++ queued_chains p s.socks.queues in
    let zs : List ℕ = numbers p s.output in
    let o : OutputKept p q s.output = input_output s q w es is m in
    stepped s n event reply is can refl ready table o.queue
    (moves_beside (stack_chains s) (stack_chains n) zs m
    (λ k. omega (arith, times-append k xs zs))
    (λ k. omega (
      arith,
      times-append k (held_all q es.datagrams ++ queued_chains q w.queues) (numbers q s.output),
      ap (times_among k) o.chains,
    )))
    (subst (λ (t : State). Step (state_of s) event reply t) (input_shows s q w es c is m) step)

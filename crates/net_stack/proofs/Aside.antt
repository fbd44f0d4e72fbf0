-- A step on the chains that a caller owns leaves the sockets and the unfinished datagrams the same.
use Rattle.std.proofs.Common.{◌≡◌, ℕ, ◌+◌, List, [], ◌∷◌, ◌++◌, refl, sym, ap, ◌∙◌, subst, arith}
use Rattle.flat_model.specs.Amounts.Weight.{Weight, ◌⊕◌}
use Rattle.flat_model.specs.Machine.State.{State}
use Rattle.flat_model.specs.Machine.Ledger.{weight_of_state}
use Rattle.flat_model.specs.declared.counters.Counters.{Counters}
use Rattle.flat_model.proofs.Laws.{times-both, both-assoc, both-nothing}
use Rattle.mbuf_chain.specs.Chain.{PoolView}
use Rattle.mbuf_chain.specs.Owners.{times_among, IsOwned, Moves}
use Rattle.mbuf_chain.specs.Frames.{SameAt}
use Rattle.mbuf_chain.proofs.Laws.Owners.{times-append, live_at_most, same_beside, same_part, moves_beside, owned_after}
use Rattle.ledger.specs.Accounts.{weight_at, weight_owned, IsAccounted}
use Rattle.ledger.proofs.Laws.{accounted_after}
use Rattle.pcb_table.specs.Table.{machine}
use Rattle.ip_reass.specs.Table.{TableView, IsReady, held_all, unfinished}
use Rattle.sock_calls.specs.Sockets.{SocksView, IsSocks, queued_chains, with_net}
use Rattle.sock_calls.specs.Delivery.{NetView, KeepsParts, held_with, net_view}
use Rattle.sock_calls.proofs.Laws.{Kept, kept}
use Rattle.net_stack.proofs.PartSteps.{ReassKept, reass_kept}

-- the parts that an arrival reads and changes
abbrev pub host_view : PoolView → SocksView → TableView → Counters → NetView
host_view p s r c = net_view p s (unfinished p r.datagrams) (held_all p r.datagrams) c

-- `held_with` adds the weights of all the chains to `held`
hand_weighs : (p : PoolView) (held : Weight) (xs : List ℕ) → held_with p held xs ≡ held ⊕ weight_owned p xs
hand_weighs p held [] = sym (both-nothing held)
hand_weighs p held (c ∷ cs) =
    hand_weighs p (held ⊕ weight_at p c) cs ∙ both-assoc held (weight_at p c) (weight_owned p cs)

pub as_held : {p : PoolView} {s : State} (held : Weight) (xs : List ℕ) → IsAccounted p s (held ⊕ weight_owned p xs)
    → IsAccounted p s (held_with p held xs)
as_held {p} {s} held xs a = subst (λ (w : Weight). IsAccounted p s w) (sym (hand_weighs p held xs)) a

pub as_owned : {p : PoolView} {s : State} (held : Weight) (xs : List ℕ) → IsAccounted p s (held_with p held xs)
    → IsAccounted p s (held ⊕ weight_owned p xs)
as_owned {p} {s} held xs a = subst (λ (w : Weight). IsAccounted p s w) (hand_weighs p held xs) a

-- if the caller's chains change from xs to ys, the pool still accounts for them
pub hand_accounts : {p q : PoolView} {xs ys : List ℕ} (s : State) (held : Weight)
    → IsAccounted p s (held ⊕ weight_owned p xs) → IsOwned p xs → Moves p xs q ys
    → IsAccounted q s (held ⊕ weight_owned q ys)
hand_accounts {p} {q} {xs} {ys} s held a owned m =
    accounted_after a m owned refl (record {
      mbufs = omega arith;
      bag = λ k. omega (
        arith,
        times-both k (weight_of_state s) (held ⊕ weight_owned p xs),
        times-both k held (weight_owned p xs),
        times-both k (weight_of_state s) (held ⊕ weight_owned q ys),
        times-both k held (weight_owned q ys),
      );
    })

-- the pool's accounts don't depend on the counters
pub counters_accounts : {p : PoolView} {s : State} {held : Weight} (c : Counters) → IsAccounted p s held
    → IsAccounted p (record s { counters = c }) held
counters_accounts c a = record { mbufs = a.mbufs; clusters = a.clusters; total = a.total; references = a.references }

pub record Aside (p : PoolView) (ds : TableView) (s : SocksView) (ins : List ℕ) (q : PoolView) (outs : List ℕ)
    : Type 0 where
  pub reass : ReassKept p q ds
  pub socks : Kept p q s
  pub shows : (c : Counters) (rest : State) → with_net q s (unfinished q ds.datagrams) c rest
      ≡ with_net p s (unfinished p ds.datagrams) c rest
  pub owned : IsOwned q (outs ++ (held_all q ds.datagrams ++ queued_chains q s.queues))
  pub moves : Moves p (ins ++ (held_all p ds.datagrams ++ queued_chains p s.queues)) q
      (outs ++ (held_all q ds.datagrams ++ queued_chains q s.queues))
  pub accounts : (c d : Counters) (rest : State) (held : Weight)
      → IsAccounted p (with_net p s (unfinished p ds.datagrams) c rest) (held_with p held ins)
      → IsAccounted q (with_net q s (unfinished q ds.datagrams) d rest) (held_with q held outs)

pub aside : {p q : PoolView} {ds : TableView} {s : SocksView} (ins outs : List ℕ)
    → IsOwned p (ins ++ (held_all p ds.datagrams ++ queued_chains p s.queues)) → IsReady p ds → IsSocks p s
    → Moves p ins q outs → Aside p ds s ins q outs
aside {p} {q} {ds} {s} ins outs owned table socks m =
    let xs : List ℕ = held_all p ds.datagrams in
    let ys : List ℕ = queued_chains p s.queues in
    let split : (k : ℕ) → times_among k (ins ++ (xs ++ ys))
    ≡ times_among k ins + (times_among k xs + times_among k ys) =
    λ k. omega (arith, times-append k ins (xs ++ ys), times-append k xs ys) in
    let same : SameAt p q (xs ++ ys) =
    same_beside (xs ++ ys) m (λ k. omega (arith, owned k, split k, times-append k xs ys))
    (λ k h. omega (arith, h, owned k, split k, times-append k xs ys, live_at_most p k)) in
    let r : ReassKept p q ds = reass_kept p q ds
    (same_part p q (xs ++ ys) xs same (λ k. omega (arith, times-append k xs ys))) table in
    let v : Kept p q s = kept p q s (same_part p q (xs ++ ys) ys same (λ k. omega (arith, times-append k xs ys)))
    socks in
    let now : (c : Counters) (rest : State) → with_net q s (unfinished q ds.datagrams) c rest
    ≡ with_net p s (unfinished p ds.datagrams) c rest =
    λ c rest i. machine (record rest { unfinished = r.shows i; counters = c }) (λ fd. v.shows fd i) s.pcbs in
    let all : Moves p (ins ++ (xs ++ ys)) q (outs ++ (held_all q ds.datagrams ++ queued_chains q s.queues)) =
    moves_beside (ins ++ (xs ++ ys)) (outs ++ (held_all q ds.datagrams ++ queued_chains q s.queues)) (xs ++ ys) m
    (λ k. omega (arith, split k, times-append k xs ys))
    (λ k. omega (
      arith,
      times-append k outs (held_all q ds.datagrams ++ queued_chains q s.queues),
      times-append k (held_all q ds.datagrams) (queued_chains q s.queues),
      times-append k xs ys,
      ap (times_among k) r.chains,
      ap (times_among k) v.chains,
    )) in
    record {
      reass = r;
      socks = v;
      shows = now;
      owned = owned_after all owned;
      moves = all;
      accounts = λ c d rest held a.
          subst (λ (t : State). IsAccounted q t (held_with q held outs)) (sym (now d rest))
          (as_held held outs (counters_accounts d (hand_accounts (with_net p s (unfinished p ds.datagrams) c rest) held
          (as_owned held ins a) (λ k. omega (arith, owned k, split k)) m)));
    }

-- the sockets and the accounts are kept, whatever was counted
pub aside_keeps : {p q : PoolView} {ds : TableView} {s : SocksView} {ins outs : List ℕ} (a b : Counters)
    → Aside p ds s ins q outs → KeepsParts (host_view p s ds a) ins (host_view q s ds b) outs
aside_keeps a b x = record { accounts = x.accounts a b; ready = x.socks.ready; pcbs = refl; moves = x.moves }

-- ---- the sockets stay the same in a step on the unfinished datagrams and the caller's chains
pub record BesideSocks (p : PoolView) (s : SocksView) (before : List ℕ) (q : PoolView) (hand after : List ℕ)
    : Type 0 where
  pub socks : Kept p q s
  pub moves : Moves p (before ++ queued_chains p s.queues) q (hand ++ (after ++ queued_chains q s.queues))

pub beside_socks : {p q : PoolView} {s : SocksView} (before hand after : List ℕ)
    → IsOwned p (before ++ queued_chains p s.queues) → IsSocks p s → Moves p before q (hand ++ after)
    → BesideSocks p s before q hand after
beside_socks {p} {q} {s} before hand after owned socks m =
    let ys : List ℕ = queued_chains p s.queues in
    let same : SameAt p q ys = same_beside ys m (λ k. omega (arith, owned k, times-append k before ys))
    (λ k h. omega (arith, h, owned k, times-append k before ys, live_at_most p k)) in
    let v : Kept p q s = kept p q s same socks in
    record {
      socks = v;
      moves = moves_beside (before ++ ys) (hand ++ (after ++ queued_chains q s.queues)) ys m
          (λ k. omega (arith, times-append k before ys))
          (λ k. omega (
            arith,
            times-append k hand (after ++ queued_chains q s.queues),
            times-append k after (queued_chains q s.queues),
            times-append k hand after,
            ap (times_among k) v.chains,
          ));
    }

-- How a stack starts, and the pool after it ends.
use Rattle.std.proofs.lemmas.List.{length-replicate}
use Rattle.mbuf_pool.specs.Store.{StoreView, free_store, free_cluster}
use Rattle.std.proofs.Common.{◌≡◌, ℕ, ◌*◌, ◌≤◌, List, [], ◌++◌, length, None, sym, ap, ◌∙◌, subst, arith}
use Rattle.std.specs.FinMap as finmap
use Rattle.std.specs.FinMap.{get-empty}
use Rattle.std.specs.Ordering.{nat_cmp}
use Rattle.flat_model.specs.Machine.State.{IsConfig, boot}
use Rattle.flat_model.specs.Machine.Count.{no_counts}
use Rattle.flat_model.specs.Runs.Consistent.{IsConsistent}
use Rattle.flat_model.specs.declared.config.Config.{Config}
use Rattle.flat_model.proofs.Laws.{boot_is_consistent}
use Rattle.mbuf_chain.specs.Chain.{PoolView}
use Rattle.mbuf_chain.specs.Frames.{SameAt}
use Rattle.mbuf_chain.specs.Owners.{times_among, live_at, IsAll, Moves}
use Rattle.mbuf_chain.specs.Train.{numbers}
use Rattle.mbuf_chain.proofs.Laws.Owners.{times-append, live_at_most, live_none, live_one, moves_beside, moves_trans, moves_nothing, same_beside, same_part}
use Rattle.pcb_table.specs.Table.{sockets_with}
use Rattle.ip_out.specs.Queues.{IsOutputQueue}
use Rattle.ip_reass.specs.Table.{AreDistinct, HaveFragments, IsTable, held_all, unfinished}
use Rattle.ip_reass.specs.declared.datagram.Datagram.{Datagram}
use Rattle.sock_calls.specs.Sockets.{IsSocks, queues_of, queued_chains}
use Rattle.ip_reass.proofs.Laws.{none_distinct}
use Rattle.ip_out.proofs.Laws.{none_wait}
use Rattle.net_stack.specs.Boots.{free_pool}
use Rattle.net_stack.specs.Stack.{IsStack, state_of, stack_chains}
use Rattle.net_stack.specs.Inside.Fields.{Fields, stack_of, IsStackInside}
use Rattle.net_stack.proofs.PartSteps.{ReassKept, reass_kept, OutputKept, output_kept, split}

free_live : (config : Config) (k : ℕ) → live_at (free_pool config) k ≡ 0
free_live config k = live_none (free_pool config) k (get-empty nat_cmp k)

-- ---- the start

-- the pool over a store of that size
pub pool_of_store : (config : Config) (store : StoreView) (p : PoolView)
    → store ≡ free_store (record { mbufs = config.mbufs; clusters = config.clusters })
    → p ≡ record { mbufs = length store.mbufs; clusters = length store.clusters; chains = finmap.empty }
    → p ≡ free_pool config
pool_of_store config store p e is =
    let a : length store.mbufs ≡ config.mbufs = ap (λ (t : StoreView). length t.mbufs) e
    ∙ length-replicate config.mbufs None in
    let b : length store.clusters ≡ config.clusters = ap (λ (t : StoreView). length t.clusters) e
    ∙ length-replicate config.clusters free_cluster in
    is ∙ (λ i. record { mbufs = a i; clusters = b i; chains = finmap.empty })

-- the parts that a stack starts with
pub record Starts (config : Config) (s : Fields) : Type 0 where
  pub same : s.config ≡ config
  pub pool : s.host.pool ≡ free_pool config
  pub socks : (p : PoolView) → IsSocks p s.host.socks
  pub blocks : s.host.socks.pcbs ≡ record { addr = config.addr; bcast = config.bcast; blocks = []; last_port = None }
  pub none : s.host.reass.datagrams ≡ []
  pub room : config.mbufs ≤ 2 * s.host.reass.room
  pub mtu : s.host.net.mtu ≡ config.mtu
  pub next_id : s.host.net.next_id ≡ config.first_id
  pub counters : s.host.net.counters ≡ no_counts
  pub out : (p : PoolView) → IsOutputQueue p s.host.net.out
  pub waits : s.host.net.out.len ≡ 0
  pub looped : s.host.net.looped ≡ record { first = None; last = None; len = 0 }

pub started_state : (config : Config) (s : Fields) → Starts config s → state_of (stack_of s) ≡ boot config
started_state config s h = λ i. record {
  config = record (h.same i) { addr = (h.blocks i).addr; bcast = (h.blocks i).bcast };
  sockets = sockets_with (queues_of s.host.pool s.host.socks.queues) (h.blocks i);
  unfinished = unfinished s.host.pool (h.none i);
  output = none_wait s.host.pool s.host.net.out h.waits i;
  last_port = (h.blocks i).last_port;
  next_id = h.next_id i;
  counters = h.counters i;
}

pub none_table : (p : PoolView) (ds : List Datagram) → ds ≡ [] → IsTable p ds
none_table p ds e = subst (IsTable p) (sym e) (record { owned = λ k. omega arith; each = tt })

started_all : (config : Config) (s : Fields) → Starts config s → IsAll s.host.pool (stack_chains (stack_of s))
started_all config s h = λ k. omega (
  arith,
  split (stack_of s) k,
  ap (λ (ds : List Datagram). times_among k (held_all s.host.pool ds)) h.none,
  (h.socks s.host.pool).owned k,
  (h.out s.host.pool).held.owned k,
  ap (λ (p : PoolView). live_at p k) h.pool,
  free_live config k,
)

pub started : (config : Config) (s : Fields) → IsConfig config → Starts config s → IsStackInside s
started config s is h = record {
  stack = record {
    mbufs = ap (λ (c : Config). c.mbufs) h.same ∙ sym (ap (λ (p : PoolView). p.mbufs) h.pool);
    clusters = ap (λ (c : Config). c.clusters) h.same ∙ sym (ap (λ (p : PoolView). p.clusters) h.pool);
    socks = h.socks s.host.pool;
    reass = record {
      table = none_table s.host.pool s.host.reass.datagrams h.none;
      fragments = subst HaveFragments (sym h.none) tt;
      room = omega (arith, h.room, ap (λ (p : PoolView). p.mbufs) h.pool);
      distinct = subst (AreDistinct s.host.pool) (sym h.none) (none_distinct s.host.pool);
    };
    output = h.out s.host.pool;
    all = started_all config s h;
    consistent = subst IsConsistent (sym (started_state config s h)) (boot_is_consistent config is);
  };
  mtu = h.mtu ∙ sym (ap (λ (c : Config). c.mtu) h.same);
  looped = h.looped;
}

-- ---- the end

-- a pool whose chains were all freed
gone : (config : Config) (p q : PoolView) (xs : List ℕ) → config.mbufs ≡ p.mbufs → config.clusters ≡ p.clusters
    → IsAll p xs → Moves p xs q [] → q ≡ free_pool config
gone config p q xs em ec all m = moves_nothing {p = free_pool config} {q = q} (record {
  mbufs = m.mbufs ∙ sym em;
  clusters = m.clusters ∙ sym ec;
  others = λ k live none. absurd (omega (arith, free_live config k, live_one (free_pool config) k live));
  owned = λ k. omega (arith, m.owned k, all k, free_live config k);
})

-- after the sockets were closed
pub record SocksGone (s : Fields) (q : PoolView) : Type 0 where
  pub reass : ReassKept s.host.pool q s.host.reass
  pub output : OutputKept s.host.pool q s.host.net.out

pub socks_gone : (s : Fields) (q : PoolView) → IsStack (stack_of s)
    → Moves s.host.pool (queued_chains s.host.pool s.host.socks.queues) q [] → SocksGone s q
socks_gone s q is m =
    let p : PoolView = s.host.pool in
    let xs : List ℕ = held_all p s.host.reass.datagrams in
    let zs : List ℕ = numbers p s.host.net.out in
    let same : SameAt p q (xs ++ zs) =
    same_beside (xs ++ zs) m (λ k. omega (arith, is.all k, split (stack_of s) k, times-append k xs zs))
    (λ k h. omega (arith, h, is.all k, split (stack_of s) k, times-append k xs zs, live_at_most p k)) in
    record {
      reass = reass_kept p q s.host.reass (same_part p q (xs ++ zs) xs same (λ k. omega (arith, times-append k xs zs)))
          is.reass;
      output = output_kept p q s.host.net.out (same_part p q (xs ++ zs) zs same
          (λ k. omega (arith, times-append k xs zs))) is.output;
    }

-- after the unfinished datagrams were freed, too
pub record ReassGone (s : Fields) (r : PoolView) : Type 0 where
  pub output : OutputKept s.host.pool r s.host.net.out
  pub moves : Moves s.host.pool (held_all s.host.pool s.host.reass.datagrams
      ++ queued_chains s.host.pool s.host.socks.queues) r []

pub reass_gone : (s : Fields) (q r : PoolView) → IsStack (stack_of s)
    → Moves s.host.pool (queued_chains s.host.pool s.host.socks.queues) q []
    → Moves q (held_all q s.host.reass.datagrams) r [] → ReassGone s r
reass_gone s q r is m n =
    let p : PoolView = s.host.pool in
    let xs : List ℕ = held_all p s.host.reass.datagrams in
    let ys : List ℕ = queued_chains p s.host.socks.queues in
    let zs : List ℕ = numbers p s.host.net.out in
    let first : Moves p (xs ++ ys) q xs = moves_beside (xs ++ ys) xs xs m (λ k. omega (arith, times-append k xs ys))
    (λ k. omega arith) in
    let both : Moves p (xs ++ ys) r [] = moves_trans first
    (subst (λ (l : List ℕ). Moves q l r []) (socks_gone s q is m).reass.chains n) in
    record {
      output = output_kept p r s.host.net.out (same_beside zs both
          (λ k. omega (arith, is.all k, times-append k (xs ++ ys) zs))
          (λ k h. omega (arith, h, is.all k, times-append k (xs ++ ys) zs, live_at_most p k))) is.output;
      moves = both;
    }

-- after everything was freed
pub all_gone : (s : Fields) (r t : PoolView) → IsStack (stack_of s) → ReassGone s r
    → Moves r (numbers r s.host.net.out) t [] → t ≡ free_pool s.config
all_gone s r t is g n =
    let p : PoolView = s.host.pool in
    let xs : List ℕ = held_all p s.host.reass.datagrams ++ queued_chains p s.host.socks.queues in
    let zs : List ℕ = numbers p s.host.net.out in
    let first : Moves p (xs ++ zs) r zs = moves_beside (xs ++ zs) zs zs g.moves
    (λ k. omega (arith, times-append k xs zs)) (λ k. omega arith) in
    gone s.config p t (stack_chains (stack_of s)) is.mbufs is.clusters is.all
    (moves_trans first (subst (λ (l : List ℕ). Moves r l t []) g.output.chains n))

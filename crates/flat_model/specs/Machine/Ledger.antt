-- How much of the pool is free, and the tests of it that a step makes (this project's own; the reclaim is `ip_drain` of
-- volume 2, chapter 10).
use Rattle.std.specs.Prelude.{◌≡◌, ◌⊎◌, ℕ, ◌-◌, ◌<◌, ◌≤◌, max, Bool, true, false, ◌==◌, nat_le, ◌&&◌, List, [], length, count_by, fold, sum, map, All, ⊤}
use Rattle.std.specs.List.{range_with_len}
use Rattle.flat_model.specs.Amounts.Weight.{Weight, ◌⊕◌, all_of, nothing, mbuf, times}
use Rattle.flat_model.specs.Amounts.Layout.{Need}
use Rattle.flat_model.specs.Fragments.Whole.{weight_of_pieces}
use Rattle.flat_model.specs.Machine.Count.{counts_more}
use Rattle.flat_model.specs.declared.counter.Counter.TheVariants.{IpReclaimed}
use Rattle.flat_model.specs.declared.usage.Mbstat.{Mbstat}
use Rattle.flat_model.specs.Machine.State.{State}

-- ---- the exact ledger

-- all that a state holds: the receive queues, the unfinished datagrams with an mbuf for each key, and the output
abbrev pub weight_of_state : State → Weight
weight_of_state s =
    all_of (λ socket. all_of (λ d. d.item.weight) socket.queue) s.sockets
    ⊕ all_of (λ u. mbuf ⊕ weight_of_pieces u.bytes) s.unfinished
    ⊕ all_of (λ item. item.weight) s.output

-- how many mbufs refer to the cluster, if a step holds `held` in addition to the state
abbrev pub count_of : State → Weight → ℕ → ℕ
count_of s held c = times c (weight_of_state s ⊕ held).bag

-- how many mbufs are free in that case
abbrev pub free_mbufs : State → Weight → ℕ
free_mbufs s held = s.config.mbufs - (weight_of_state s ⊕ held).mbufs

-- how many clusters are free in that case: those that have no reference
abbrev pub free_clusters : State → Weight → ℕ
free_clusters s held = count_by (λ c. count_of s held c == 0) (range_with_len 0 s.config.clusters)

-- whether the needed buffers are free in that case
abbrev pub has_enough : State → Weight → Need → Bool
has_enough s held need = nat_le need.mbufs (free_mbufs s held) && nat_le need.clusters (free_clusters s held)

-- ---- any ledger

-- How a machine accounts for its buffers, if a step holds this weight in addition to the state: whether a test for
-- buffers may have this result, whether a cluster may be taken, and what may be reported about the pool.
pub record Ledger : Type 1 where
  pub has : State → Weight → Need → Bool → Type 0
  pub may_take : State → Weight → ℕ → Type 0
  pub may_show : State → Mbstat → Type 0

-- a cluster of the pool without a reference
pub record IsFree (s : State) (held : Weight) (c : ℕ) : Type 0 where
  pub exists : c < s.config.clusters
  pub free : count_of s held c ≡ 0

-- how much of the pool is free, its totals, the sum of the counts of all clusters, and the greatest count
abbrev pub usage_of : State → Mbstat
usage_of s =
    let counts : List ℕ = map (count_of s nothing) (range_with_len 0 s.config.clusters) in
    record {
      free_mbufs = free_mbufs s nothing;
      mbufs = s.config.mbufs;
      free_clusters = free_clusters s nothing;
      clusters = s.config.clusters;
      refs = sum counts;
      most = fold max 0 counts;
    }

-- the ledger that keeps accounts: only the right results are allowed
abbrev pub exact_ledger : Ledger
exact_ledger = record {
  has = λ s held need yes. yes ≡ has_enough s held need;
  may_take = IsFree;
  may_show = λ s usage. usage ≡ usage_of s;
}

-- only the totals of the report are known
pub record HasTotals (s : State) (usage : Mbstat) : Type 0 where
  pub mbufs : usage.mbufs ≡ s.config.mbufs
  pub clusters : usage.clusters ≡ s.config.clusters

-- the ledger that keeps no accounts: any result is allowed
abbrev pub loose_ledger : Ledger
loose_ledger = record {
  has = λ s held need yes. ⊤;
  may_take = λ s held c. ⊤;
  may_show = HasTotals;
}

-- ---- a step's test

-- all unfinished datagrams are dropped, and counted
abbrev pub reclaimed : State → State
reclaimed s = record s { unfinished = []; counters = counts_more IpReclaimed (length s.unfinished) s.counters }

-- A test, and the state that it leaves. If there are too few buffers, all unfinished datagrams are dropped and the test
-- is repeated: its second result counts. If there were no unfinished datagrams, this drops nothing and the result is
-- the same.
abbrev pub HasBuffers : Ledger → State → Weight → Need → Bool → State → Type 0
HasBuffers L old held need true new =
    (L.has old held need true × (new ≡ old))
    ⊎ (L.has old held need false × (new ≡ reclaimed old) × L.has new held need true)
HasBuffers L old held need false new = L.has old held need false × (new ≡ reclaimed old) × L.has new held need false

-- n mbufs, and no cluster
abbrev pub need_mbufs : ℕ → Need
need_mbufs n = record { mbufs = n; clusters = 0 }

-- n clusters that may be taken, all different
pub record AreTaken (L : Ledger) (s : State) (n : ℕ) (clusters : List ℕ) : Type 0 where
  pub number : length clusters ≡ n
  pub distinct : (c : ℕ) → times c clusters ≤ 1
  pub free : All (L.may_take s nothing) clusters

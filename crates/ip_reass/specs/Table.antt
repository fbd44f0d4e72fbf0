-- The table of unfinished datagrams, and the flat machine's view of it (TCP/IP Illustrated, volume 2, chapter 10).
use Rattle.std.specs.Prelude.{◌≡◌, ℕ, ◌-◌, ◌*◌, ◌<◌, ◌≤◌, nat_lt, Bool, ◌==◌, ◌&&◌, if◌then◌else◌, List, [], ◌∷◌, ◌++◌, map, count_by, None}
use Rattle.std.specs.List.{AllByRecursion}
use Rattle.params.specs.declared.TheConstants.{FRAGMENT_TICKS}
use Rattle.flat_model.specs.Amounts.Weight.{mbuf}
use Rattle.flat_model.specs.Machine.State.{Key, Unfinished, is_key}
use Rattle.mbuf_chain.specs.Chain.{PoolView}
use Rattle.mbuf_chain.specs.Owners.{times_among, IsOwned}
use Rattle.mbuf_chain.specs.Train.{numbers}
use Rattle.ledger.specs.Accounts.{weight_at}
use Rattle.ip_reass.specs.Fragments.{IsQueue, bytes_held, fragments, map_of}
use Rattle.ip_reass.specs.declared.datagram.Datagram.{Datagram}

-- the flat machine's view of a datagram
abbrev pub unfinished_of : PoolView → Datagram → Unfinished
unfinished_of p d = record { key = d.key; ticks = d.ticks; bytes = map_of (fragments p d.fragments) }

abbrev pub unfinished : PoolView → List Datagram → List Unfinished
unfinished p ds = map (unfinished_of p) ds

-- the datagrams that remain a tick later
abbrev pub aged : List Datagram → List Datagram
aged [] = []
aged (d ∷ ds) = if nat_lt 1 d.ticks then record d { ticks = d.ticks - 1 } ∷ aged ds else aged ds

-- the chains of a datagram, and of them all
abbrev pub held : PoolView → Datagram → List ℕ
held p d = d.holder ∷ numbers p d.fragments

abbrev pub held_all : PoolView → List Datagram → List ℕ
held_all p [] = []
held_all p (d ∷ ds) = held p d ++ held_all p ds

-- how often a number is that of a chain of the datagram
abbrev pub holds : PoolView → ℕ → Datagram → ℕ
holds p k d = times_among k (held p d)

-- a datagram's fragments are in order, their bytes are counted, and its key has one plain mbuf
pub record IsUnfinished (p : PoolView) (d : Datagram) : Type 0 where
  pub queue : IsQueue p d.fragments
  pub counted : d.bytes ≡ bytes_held (fragments p d.fragments)
  pub holder : weight_at p d.holder ≡ mbuf

abbrev pub AllUnfinished : PoolView → List Datagram → Type 0
AllUnfinished p ds = AllByRecursion (IsUnfinished p) ds

-- the datagram has this key
abbrev pub has_key : Key → Datagram → Bool
has_key k d = (d.key.source == k.source) && (d.key.destination == k.destination) && (d.key.id == k.id)
    && (d.key.protocol == k.protocol)

-- one that has just begun, with the mbuf of its key
abbrev pub new_datagram : Key → ℕ → Datagram
new_datagram k c = record {
  key = k;
  holder = c;
  ticks = FRAGMENT_TICKS;
  fragments = record { first = None; last = None; len = 0 };
  bytes = 0;
}

-- the chains are the pool's, once each, and the fragments are in order
pub record IsTable (p : PoolView) (ds : List Datagram) : Type 0 where
  pub owned : IsOwned p (held_all p ds)
  pub each : AllUnfinished p ds

-- no two unfinished datagrams have the same key
abbrev pub AreDistinct : PoolView → List Datagram → Type 0
AreDistinct p ds = (k : Key) → count_by (is_key k) (unfinished p ds) ≤ 1

-- each datagram has a fragment, and so at least two mbufs, with that of its key
abbrev pub HaveFragments : List Datagram → Type 0
HaveFragments ds = AllByRecursion (λ (d : Datagram). 0 < d.fragments.len) ds

-- the view of the table in contracts: its datagrams, oldest first, and how many fit
pub record TableView : Type 0 where
  pub datagrams : List Datagram
  pub room : ℕ

-- the table fits the pool, each datagram has a fragment, there is space for one datagram for each two of the pool's
-- mbufs, and no two have the same key
pub record IsReady (p : PoolView) (r : TableView) : Type 0 where
  pub table : IsTable p r.datagrams
  pub fragments : HaveFragments r.datagrams
  pub room : p.mbufs ≤ 2 * r.room
  pub distinct : AreDistinct p r.datagrams

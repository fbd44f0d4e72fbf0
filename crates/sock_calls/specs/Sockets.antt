-- Sockets: control blocks, and a receive queue for each descriptor (volume 2, chapters 15, 16 and 22).
use Rattle.std.specs.Prelude.{◌≡◌, ℕ, ◌+◌, List, [], ◌∷◌, ◌++◌, length, slice_index_or, take, Option, None, MatchOption}
use Rattle.std.specs.List.{AllByRecursion}
use Rattle.params.specs.declared.TheConstants.{FIRST_DESCRIPTOR, MAX_SOCKETS}
use Rattle.flat_model.specs.Machine.State.{State, Datagram, Unfinished}
use Rattle.flat_model.specs.Machine.Event.{Event, Reply}
use Rattle.flat_model.specs.Machine.Step.{Step}
use Rattle.flat_model.specs.declared.address.Addr.{Addr}
use Rattle.flat_model.specs.declared.counters.Counters.{Counters}
use Rattle.mbuf_chain.specs.Chain.{PoolView}
use Rattle.mbuf_chain.specs.Owners.{IsOwned, Moves}
use Rattle.pcb_table.specs.Table.{Table, Queues, block_at, machine}
use Rattle.pcb_table.specs.Apart.{AreApart}
use Rattle.sockbuf.specs.SockBuf.{SockBufView, IsSockBuf, datagrams, chains_of, no_datagrams}

-- the view of the sockets in contracts; the queue of descriptor fd is at index fd
pub record SocksView : Type 0 where
  pub pcbs : Table
  pub queues : List SockBufView

-- queues by descriptor: those of 0, 1 and 2 aren't stored, and stay empty
abbrev pub from_three : List SockBufView → List SockBufView
from_three bs = no_datagrams ∷ no_datagrams ∷ no_datagrams ∷ bs

abbrev pub queue_at : List SockBufView → ℕ → SockBufView
queue_at bs fd = slice_index_or bs fd no_datagrams

-- the datagrams of each descriptor's queue
abbrev pub queues_of : PoolView → List SockBufView → Queues
queues_of p bs fd = datagrams p (queue_at bs fd)

-- the numbers of all chains in the queues
abbrev pub queued_chains : PoolView → List SockBufView → List ℕ
queued_chains p [] = []
queued_chains p (b ∷ bs) = chains_of p b ++ queued_chains p bs

-- The sockets and the pool fit together: each queue does, no chain is in two queues, and the queue of a closed
-- descriptor is empty.
pub record IsSocks (p : PoolView) (v : SocksView) : Type 0 where
  pub each : (fd : ℕ) → IsSockBuf p (queue_at v.queues fd)
  pub owned : IsOwned p (queued_chains p v.queues)
  pub places : length v.queues ≡ FIRST_DESCRIPTOR + MAX_SOCKETS
  pub apart : AreApart v.pcbs.blocks
  pub closed : (fd : ℕ) → block_at fd v.pcbs ≡ None → queues_of p v.queues fd ≡ []

-- The sockets fit the pool, and each chain has one owner: the queues have theirs, and these are elsewhere.
pub record SocksFit (p : PoolView) (v : SocksView) (elsewhere : List ℕ) : Type 0 where
  pub socks : IsSocks p v
  pub owned : IsOwned p (elsewhere ++ queued_chains p v.queues)

-- the machine with these sockets, and otherwise `rest`
abbrev pub with_sockets : PoolView → SocksView → State → State
with_sockets p v rest = machine rest (queues_of p v.queues) v.pcbs

-- the machine with these sockets, unfinished datagrams and counters, and otherwise `rest`
abbrev pub with_net : PoolView → SocksView → List Unfinished → Counters → State → State
with_net p v us c rest = with_sockets p v (record rest { unfinished = us; counters = c })

-- ---- the effects of calls

-- A call on only the control blocks: one step of the machine, for every rest of it; the queues are unchanged.
pub record IsCalled (p : PoolView) (v : SocksView) (event : Event) (reply : Reply) (w : SocksView) : Type 0 where
  pub step : (rest : State) → Step (with_sockets p v rest) event reply (with_sockets p w rest)
  pub ready : IsSocks p w
  pub queues : w.queues ≡ v.queues

-- ---- one queue of many

-- In a step, chains `ins` were added to queue fd and chains `outs` removed from it; all other queues are unchanged.
pub record StepsAt (p : PoolView) (ins : List ℕ) (bs : List SockBufView) (fd : ℕ) (q : PoolView) (outs : List ℕ)
    (cs : List SockBufView) : Type 0 where
  pub len : length cs ≡ length bs
  pub others : (k : ℕ) → (k ≡ fd → ⊥) → queues_of q cs k ≡ queues_of p bs k
  pub each : (k : ℕ) → IsSockBuf q (queue_at cs k)
  pub owned : IsOwned q (queued_chains q cs)
  pub moves : Moves p (ins ++ queued_chains p bs) q (outs ++ queued_chains q cs)

-- the same without added chains, and the removed ones are freed
abbrev pub TakesAt : PoolView → List SockBufView → ℕ → PoolView → List SockBufView → Type 0
TakesAt p bs fd q cs = StepsAt p [] bs fd q [] cs

-- The oldest datagram of `was` was removed, `now` are left, and at most n of its bytes are at the start of the buffer.
abbrev pub CopiesOldest : List Datagram → List Datagram → ℕ → Option (Addr × ℕ) → List ℕ → Type 0
CopiesOldest was now n found buffer =
    MatchOption found ((was ≡ []) × (now ≡ []))
    (λ got. (d : Datagram) × (was ≡ d ∷ now) × (got.0 ≡ d.sender) × (take got.1 buffer ≡ take n d.item.bytes))

-- all queues are empty
abbrev pub AreEmpty : List SockBufView → Type 0
AreEmpty bs = AllByRecursion (λ (b : SockBufView). b.train.len ≡ 0) bs

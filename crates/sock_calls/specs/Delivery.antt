-- Delivery of a datagram to the sockets that match it, for every rest of the machine (`udp_input` and `sbappendaddr` of
-- volume 2, chapters 23 and 16; the form with a pool's view is this project's own).
use Rattle.std.specs.Prelude.{◌≡◌, ℕ, List, [], ◌∷◌, ◌++◌, map, Option, Some, None, Result, Ok, Err, unwrap_or, false}
use Rattle.flat_model.specs.Amounts.Weight.{Weight, Item, ◌⊕◌}
use Rattle.flat_model.specs.Machine.State.{State, Socket, Unfinished}
use Rattle.flat_model.specs.Machine.Ledger.{exact_ledger}
use Rattle.flat_model.specs.Machine.Arrival.{TestsAs, AppendsAs, DeliversAs, WholeArrivesAs}
use Rattle.flat_model.specs.Machine.Fate.{reached_by, told_one, told_whole}
use Rattle.flat_model.specs.declared.counters.Counters.{Counters}
use Rattle.flat_model.specs.declared.counters.Why.{Why}
use Rattle.flat_model.specs.declared.counters.Why.TheVariants.{NoBufs}
use Rattle.flat_model.specs.declared.fate.Reached.{Reached}
use Rattle.flat_model.specs.declared.address.Addr.{Addr}
use Rattle.mbuf_chain.specs.Chain.{PoolView, chain_of}
use Rattle.mbuf_chain.specs.Owners.{Moves}
use Rattle.pcb_table.specs.declared.block.Block.{Block}
use Rattle.pcb_table.specs.Table.{Table, Queues, block_at, socket_with}
use Rattle.ledger.specs.Accounts.{item_at, weight_at, IsAccounted}
use Rattle.sock_calls.specs.Sockets.{SocksView, IsSocks, queues_of, queued_chains, with_net}

-- the parts that a delivery reads and changes: the pool, the sockets, the unfinished datagrams with their chains, and
-- the counters
pub record NetView : Type 0 where
  pub pool : PoolView
  pub socks : SocksView
  pub unfinished : List Unfinished
  pub waiting : List ℕ
  pub counters : Counters

abbrev pub net_view : PoolView → SocksView → List Unfinished → List ℕ → Counters → NetView
net_view p s us xs c = record { pool = p; socks = s; unfinished = us; waiting = xs; counters = c }

-- the machine with these parts, and otherwise `rest`
abbrev pub net_state : NetView → State → State
net_state v rest = with_net v.pool v.socks v.unfinished v.counters rest

-- the numbers of all its chains
abbrev pub chains_at : NetView → List ℕ
chains_at v = v.waiting ++ queued_chains v.pool v.socks.queues

abbrev pub queues_at : NetView → Queues
queues_at v = queues_of v.pool v.socks.queues

-- the pool accounts for the machine and for the weight held in addition
abbrev pub IsAccountedAt : NetView → State → Weight → Type 0
IsAccountedAt v rest held = IsAccounted v.pool (net_state v rest) held

-- the held weight with these chains added
abbrev pub held_with : PoolView → Weight → List ℕ → Weight
held_with p held [] = held
held_with p held (c ∷ cs) = held_with p (held ⊕ weight_at p c) cs

-- From v to u: the chains of the call were `hand` and are `left`. The pool still accounts for all chains, the sockets
-- still fit it, their control blocks are the same, and every chain with another owner is unchanged.
pub record KeepsParts (v : NetView) (hand : List ℕ) (u : NetView) (left : List ℕ) : Type 0 where
  pub accounts : (rest : State) (held : Weight) → IsAccountedAt v rest (held_with v.pool held hand)
      → IsAccountedAt u rest (held_with u.pool held left)
  pub ready : IsSocks u.pool u.socks
  pub pcbs : u.socks.pcbs ≡ v.socks.pcbs
  pub moves : Moves v.pool (hand ++ chains_at v) u.pool (left ++ chains_at u)

-- ---- one receiver

-- Chain c was put into the queue of socket fd, or dropped there for a cause.
pub record IsAppended (v : NetView) (c : ℕ) (fd : ℕ) (sender : Addr) (lack : Option Why) (u : NetView) : Type 0 where
  pub step : (rest : State) (held : Weight) (b : Block) → block_at fd v.socks.pcbs ≡ Some b
      → IsAccountedAt v rest (held ⊕ weight_at v.pool c)
      → AppendsAs exact_ledger (told_one lack) held sender (item_at v.pool c) (socket_with (queues_at v) b)
      (net_state v rest) (net_state u rest)
  pub others : (k : ℕ) → (k ≡ fd → ⊥) → queues_at u k ≡ queues_at v k
  pub parts : KeepsParts v (c ∷ []) u []

-- ---- one receiver of several

-- a copy of the item is made, and put at the end of the socket's queue: the part of `Delivers` of all but the last
abbrev pub Offers : Option Why → Weight → Addr → Item → Socket → State → State → Type 0
Offers lack held sender item to old after =
    TestsAs exact_ledger old (held ⊕ item.weight) item.weight.mbufs (told_one lack (Some NoBufs) after)
    (λ mid. AppendsAs exact_ledger (told_one lack) (held ⊕ item.weight) sender item to mid after)

-- a copy of chain c was offered to socket fd, which lost it for a cause or got it, and c is unchanged
pub record IsOffered (v : NetView) (c : ℕ) (fd : ℕ) (sender : Addr) (lack : Option Why) (u : NetView) : Type 0 where
  pub step : (rest : State) (held : Weight) (b : Block) → block_at fd v.socks.pcbs ≡ Some b
      → IsAccountedAt v rest (held ⊕ weight_at v.pool c)
      → Offers lack held sender (item_at v.pool c) (socket_with (queues_at v) b) (net_state v rest) (net_state u rest)
  pub others : (k : ℕ) → (k ≡ fd → ⊥) → queues_at u k ≡ queues_at v k
  pub chain : chain_of u.pool c ≡ chain_of v.pool c
  pub parts : KeepsParts v (c ∷ []) u (c ∷ [])

-- ---- all receivers

abbrev pub no_block : Block
no_block =
    record {
      fd = 0;
      local = None;
      port = None;
      peer = None;
      broadcast = false;
      reuse_port = false;
      receive_limit = 0;
    }

-- the socket of a descriptor that is open
abbrev pub socket_named : Queues → Table → ℕ → Socket
socket_named f t fd = socket_with f (unwrap_or (block_at fd t) no_block)

-- the sockets of these descriptors, in order
abbrev pub sockets_named : Queues → Table → List ℕ → List Socket
sockets_named f t fds = map (socket_named f t) fds

-- Chain c was delivered to all these sockets: a copy to each except the last, which gets c itself. Some may have lost
-- theirs for a cause, and `reached` says which.
pub record IsDelivered (v : NetView) (c : ℕ) (fds : List ℕ) (sender : Addr) (reached : Reached) (u : NetView)
    : Type 0 where
  pub lacks : ℕ → Option Why
  pub reached_is : reached ≡ reached_by lacks fds
  pub step : (rest : State) (held : Weight) → IsAccountedAt v rest (held ⊕ weight_at v.pool c)
      → DeliversAs exact_ledger (λ fd. told_one (lacks fd)) held sender (item_at v.pool c)
      (sockets_named (queues_at v) v.socks.pcbs fds) (net_state v rest) (net_state u rest)
  pub parts : KeepsParts v (c ∷ []) u []

-- ---- a whole datagram

-- what became of it: these sets, or the cause that it was dropped for
abbrev pub whole_of : Result Unit Why → Reached → Result Reached Why
whole_of (Ok done) reached = Ok reached
whole_of (Err why) reached = Err why

-- Chain c, a whole datagram without its IP header, arrived from `source` for `destination`, of this protocol, and this
-- became of it.
pub record IsInput (v : NetView) (c : ℕ) (source destination protocol : ℕ) (whole : Result Reached Why) (u : NetView)
    : Type 0 where
  pub step : (rest : State) (held : Weight) → IsAccountedAt v rest (held ⊕ weight_at v.pool c)
      → WholeArrivesAs exact_ledger (told_whole whole) held source destination protocol (item_at v.pool c)
      (net_state v rest) (net_state u rest)
  pub parts : KeepsParts v (c ∷ []) u []

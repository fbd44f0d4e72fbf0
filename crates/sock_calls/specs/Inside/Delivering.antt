-- A delivery to some of the receivers (this project's own).
use Rattle.std.specs.Prelude.{◌≡◌, ℕ, ◌<◌, List, [], ◌∷◌, drop, take, Option}
use Rattle.flat_model.specs.Amounts.Weight.{Weight, ◌⊕◌}
use Rattle.flat_model.specs.Machine.State.{State}
use Rattle.flat_model.specs.Machine.Ledger.{exact_ledger}
use Rattle.flat_model.specs.Machine.Arrival.{DeliversAs}
use Rattle.flat_model.specs.Machine.Fate.{reached_by, told_one}
use Rattle.flat_model.specs.declared.counters.Why.{Why}
use Rattle.flat_model.specs.declared.fate.Reached.{Reached}
use Rattle.flat_model.specs.declared.address.Addr.{Addr}
use Rattle.mbuf_chain.specs.Chain.{chain_of}
use Rattle.mbuf_chain.specs.Owners.{times_among}
use Rattle.ledger.specs.Accounts.{item_at, weight_at}
use Rattle.sock_calls.specs.Delivery.{NetView, IsAccountedAt, KeepsParts, net_state, queues_at, sockets_named}

-- From v on, chain c was offered to the first i of the receivers, of which some lost it: any delivery to the others
-- completes a delivery to all.
pub record IsUnderWay (v : NetView) (c : ℕ) (fds : List ℕ) (sender : Addr) (i : ℕ) (reached : Reached) (u : NetView)
    : Type 0 where
  pub lacks : ℕ → Option Why
  pub reached_is : reached ≡ reached_by lacks (take i fds)
  pub goes : (all : ℕ → Option Why) → ((k : ℕ) → 0 < times_among k (take i fds) → all k ≡ lacks k)
      → (rest : State) (held : Weight) (new : State) → IsAccountedAt v rest (held ⊕ weight_at v.pool c)
      → DeliversAs exact_ledger (λ fd. told_one (all fd)) held sender (item_at v.pool c)
      (sockets_named (queues_at v) v.socks.pcbs (drop i fds)) (net_state u rest) new
      → DeliversAs exact_ledger (λ fd. told_one (all fd)) held sender (item_at v.pool c)
      (sockets_named (queues_at v) v.socks.pcbs fds) (net_state v rest) new
  pub untouched : (k : ℕ) → 0 < times_among k (drop i fds) → queues_at u k ≡ queues_at v k
  pub chain : chain_of u.pool c ≡ chain_of v.pool c
  pub parts : KeepsParts v (c ∷ []) u (c ∷ [])

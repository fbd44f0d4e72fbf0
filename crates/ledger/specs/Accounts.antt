-- What chains weigh, and when a pool holds what a state of the flat machine weighs (this project's own).
use Rattle.std.specs.Prelude.{◌≡◌, ℕ, ◌+◌, List, length, filter_map}
use Rattle.flat_model.specs.Amounts.Weight.{Weight, Item, ◌⊕◌, all_of, times}
use Rattle.flat_model.specs.Machine.State.{State}
use Rattle.flat_model.specs.Machine.Ledger.{weight_of_state, count_of}
use Rattle.mbuf_chain.specs.Chain.{Entry, PoolView, chain_of, flat_bytes, held_mbufs, references}

-- ---- what chains weigh

-- what entries weigh: one mbuf each, and the clusters to which they refer
abbrev pub entries_weight : List Entry → Weight
entries_weight es = record { mbufs = length es; bag = filter_map (λ e. e.cluster) es }

-- entries as an item: all their bytes, and what they weigh
abbrev pub item_of : List Entry → Item
item_of es = record { bytes = flat_bytes es; weight = entries_weight es }

-- the chain with that number as an item
abbrev pub item_at : PoolView → ℕ → Item
item_at p c = item_of (chain_of p c).entries

-- what the chain with that number weighs
abbrev pub weight_at : PoolView → ℕ → Weight
weight_at p c = entries_weight (chain_of p c).entries

-- what an owner's chains weigh together
abbrev pub weight_owned : PoolView → List ℕ → Weight
weight_owned p xs = all_of (weight_at p) xs

-- ---- accounts

-- The pool accounts for the state and for the weight held outside it: the totals are those of the configuration, the
-- mbufs in use are those of both weights together, and each cluster is referred to as often as their bags contain it.
pub record IsAccounted (p : PoolView) (s : State) (held : Weight) : Type 0 where
  pub mbufs : s.config.mbufs ≡ p.mbufs
  pub clusters : s.config.clusters ≡ p.clusters
  pub total : held_mbufs p ≡ (weight_of_state s ⊕ held).mbufs
  pub references : (c : ℕ) → references p c ≡ count_of s held c

-- the state and the weight held outside it change from s with `held` to t with `kept` as an owner's chains change from
-- `before` to `after`
pub record Shifts (s : State) (held before : Weight) (t : State) (kept after : Weight) : Type 0 where
  pub mbufs : (weight_of_state s ⊕ held).mbufs + after.mbufs ≡ (weight_of_state t ⊕ kept).mbufs + before.mbufs
  pub bag : (c : ℕ) → times c (weight_of_state s ⊕ held).bag + times c after.bag
      ≡ times c (weight_of_state t ⊕ kept).bag + times c before.bag

-- The machine of the chain script in memory: a pool, and in each slot one of its chains or none (this project's own).
use Rattle.std.specs.Prelude.{ℕ, List, [], ◌∷◌, map, Option, Some, None}
use Rattle.mbuf_chain.specs.Chain.{PoolView, chain_of}
use Rattle.mbuf_chain.specs.Owners.{IsAll}
use Rattle.chain_script.specs.Machines.{Machine, Slot}

-- the numbers of the chains
abbrev pub with_number : Option ℕ → List ℕ → List ℕ
with_number None ks = ks
with_number (Some c) ks = c ∷ ks

abbrev pub slot_numbers : List (Option ℕ) → List ℕ
slot_numbers [] = []
slot_numbers (slot ∷ slots) = with_number slot (slot_numbers slots)

-- the view of a slot
abbrev pub slot_of : PoolView → Option ℕ → Option Slot
slot_of p None = None
slot_of p (Some c) = Some (record { header = (chain_of p c).front.header; entries = (chain_of p c).entries })

abbrev pub machine_of : PoolView → List (Option ℕ) → Machine
machine_of p slots = record { mbufs = p.mbufs; clusters = p.clusters; slots = map (slot_of p) slots }

-- each chain of the pool is in one slot
abbrev pub FitsSlots : PoolView → List (Option ℕ) → Type 0
FitsSlots p slots = IsAll p (slot_numbers slots)

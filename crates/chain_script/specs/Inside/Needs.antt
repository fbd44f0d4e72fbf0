-- What a function needs of the slots, and what it leaves (this project's own).
use Rattle.std.specs.Prelude.{◌≡◌, ℕ, ◌<◌, ◌++◌, List, length, Option, Some, Result}
use Rattle.mbuf_chain.specs.Chain.{PoolView}
use Rattle.chain_script.specs.declared.caller.TheConstants.{SLOTS}
use Rattle.chain_script.specs.declared.fault.Fault.{Fault}
use Rattle.chain_script.specs.Lines.{Request}
use Rattle.chain_script.specs.Machines.{Machine}
use Rattle.chain_script.specs.Steps.{ChainReply, ChainStep, chain_answer_text}
use Rattle.chain_script.specs.Inside.Replies.{chain_done_reply}
use Rattle.chain_script.specs.Inside.Slots.{machine_of, FitsSlots}

-- each chain of the pool is in one of the 64 slots
pub record AreSlots (p : PoolView) (slots : List (Option ℕ)) : Type 0 where
  pub count : length slots ≡ SLOTS
  pub fits : FitsSlots p slots

-- there is this slot
pub record HasSlot (p : PoolView) (slots : List (Option ℕ)) (i : ℕ) : Type 0 where
  pub within : i < length slots
  pub fits : FitsSlots p slots

-- there are these two slots
pub record HasSlots (p : PoolView) (slots : List (Option ℕ)) (i j : ℕ) : Type 0 where
  pub within : i < length slots
  pub other : j < length slots
  pub fits : FitsSlots p slots

-- the request had this outcome
pub record HasOutcome (p : PoolView) (slots : List (Option ℕ)) (request : Request) (outcome : Result Unit Fault)
    (q : PoolView) (new : List (Option ℕ)) : Type 0 where
  pub fits : FitsSlots q new
  pub len : length new ≡ length slots
  pub step : ChainStep (machine_of p slots) request (chain_done_reply outcome) (machine_of q new)

-- the reply to the request was appended to the text
abbrev pub Replies : Machine → Request → List ℕ → Machine → List ℕ → Type 0
Replies old request text new appended =
    (reply : ChainReply) × ChainStep old request reply new × (appended ≡ text ++ chain_answer_text (Some reply))

-- How old an unfinished datagram is (this project's own).
use Rattle.std.specs.Prelude.{◌≡◌, ℕ, ◌+◌, Bool, true, false, List, ◌∷◌, ◌++◌, count_by, All, ⊤}
use Rattle.params.specs.declared.TheConstants.{FRAGMENT_TICKS}
use Rattle.flat_model.specs.Packets.Header.{head_of}
use Rattle.flat_model.specs.Machine.Event.{Event, Send, Comes, Tick}
use Rattle.flat_model.specs.Machine.State.{State, Key, boot}
use Rattle.flat_model.specs.declared.config.Config.{Config}
use Rattle.flat_model.specs.Machine.Arrival.{key_of}
use Rattle.flat_model.specs.Machine.Ledger.{Ledger}
use Rattle.flat_model.specs.Runs.Run.{Turn, Leads}

abbrev pub is_tick : Event → Bool
is_tick Tick = true
is_tick _ = false

-- how often the clock ticked in these turns
abbrev pub ticks_in : List Turn → ℕ
ticks_in turns = count_by (λ turn. is_tick turn.event) turns

-- An event that can begin an unfinished datagram: a fragment with its key that arrives, or a send whose packets come
-- back.
abbrev pub CanBegin : Event → Key → Type 0
CanBegin (Comes packet) k = key_of (head_of packet) ≡ k
CanBegin (Send fd to bytes) k = ⊤
CanBegin _ k = ⊥

-- One of these turns began it, and the clock has ticked since then as often as it has fewer than 60 ticks left.
pub record IsAsOld (turns : List Turn) (key : Key) (left : ℕ) : Type 0 where
  pub before : List Turn
  pub turn : Turn
  pub after : List Turn
  pub turns_are : turns ≡ before ++ turn ∷ after
  pub begins : CanBegin turn.event key
  pub age : ticks_in after + left ≡ FRAGMENT_TICKS

-- This holds for each unfinished datagram. So none is older than 60 ticks, and fragments that arrive 60 ticks apart
-- never meet.
abbrev pub AgeLaw : Ledger → Type 0
AgeLaw L = (config : Config) (turns : List Turn) (s : State) → Leads L (boot config) turns s
    → All (λ u. IsAsOld turns u.key u.ticks) s.unfinished

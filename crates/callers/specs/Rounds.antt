-- What the callers in `src/laws_on_a_wire.rt` that send in rounds know of their calls (this project's own).
use Rattle.std.specs.Prelude.{◌≡◌, ◌⊎◌, ◌≤◌, ℕ, List, [], ◌∷◌, ◌++◌, take, count_by, ⊤}
use Rattle.std.specs.List.{AllByRecursion as Each}
use Rattle.flat_model.specs.Machine.Event.{Event, Reply, Send, Tick, Done}
use Rattle.flat_model.specs.Runs.Run.{Turn}
use Rattle.flat_wire.specs.Ever.{IsMadeBySend, uses_id}
use Rattle.flat_wire.specs.Wire.{ComesFrom}
use Rattle.net_stack.specs.Runs.{AreCalls, AreCallsOf, PassedCall, steps_of}
use Rattle.net_stack.specs.Stack.{StackView, state_of}
use Rattle.callers.specs.declared.laws_on_a_wire.TheConstants.{FIRST}
use Rattle.callers.specs.Received.{packet_comes, receives}

-- A round: the second host reads; the first makes the calls `sent`, with a send of these bytes; the second gets two
-- packets, and its clock ticks.
pub record Round : Type 0 where
  pub bytes : List ℕ
  pub sent : List PassedCall
  pub most : ℕ
  pub read : Reply
  pub early : List ℕ
  pub late : List ℕ

-- the call by which the clock ticks
abbrev pub clock_ticks : Turn
clock_ticks = record { event = Tick; reply = Done }

-- the first's calls in all rounds
abbrev pub sent_in_rounds : List Round → List PassedCall
sent_in_rounds [] = []
sent_in_rounds (r ∷ later) = r.sent ++ sent_in_rounds later

-- the second's calls in all rounds, and then these
abbrev pub came_in_rounds : List Round → List Turn → List Turn
came_in_rounds [] end = end
came_in_rounds (r ∷ later) end =
    receives r.most r.read ∷ packet_comes r.early ∷ packet_comes r.late ∷ clock_ticks ∷ came_in_rounds later end

-- if it's a send, then of these bytes
abbrev pub IsSendOf : List ℕ → Event → Type 0
IsSendOf sent (Send fd to bytes) = bytes ≡ sent
IsSendOf sent _ = ⊤

-- A round of at most one send. Each packet that the second gets from the first's address is of that send.
pub record IsFine (r : Round) : Type 0 where
  pub sends : Each (λ (call : PassedCall). IsSendOf r.bytes call.turn.event) r.sent
  pub few : count_by uses_id (steps_of r.sent) ≤ 1
  pub early : ComesFrom FIRST.addr r.early → IsMadeBySend (steps_of r.sent) 0 r.early
  pub late : ComesFrom FIRST.addr r.late → IsMadeBySend (steps_of r.sent) 0 r.late

-- it's the first host, and nothing waits for its link
abbrev pub IsIdle : StackView → Type 0
IsIdle s = ((state_of s).output ≡ []) × ((state_of s).config ≡ FIRST)

-- a round with this datagram leads the two stacks to those
pub record IsRound (bytes : List ℕ) (s t new_s new_t : StackView) : Type 0 where
  pub round : Round
  pub bytes_are : round.bytes ≡ bytes
  pub first_calls : AreCallsOf s round.sent new_s
  pub second_calls : AreCalls t (came_in_rounds (round ∷ []) []) new_t
  pub fine : IsFine round
  pub idle : IsIdle new_s

-- rounds with one datagram or the other lead the two stacks to those
pub record AreRounds (one other : List ℕ) (s t new_s new_t : StackView) : Type 0 where
  pub rounds : List Round
  pub first_calls : AreCallsOf s (sent_in_rounds rounds) new_s
  pub second_calls : AreCalls t (came_in_rounds rounds []) new_t
  pub fine : Each IsFine rounds
  pub bytes : Each (λ (r : Round). (r.bytes ≡ one) ⊎ (r.bytes ≡ other)) rounds

-- the bytes of one datagram or the other, if its receiver asked for at most so many
abbrev pub IsOneOfBoth : (one other : List ℕ) (most : ℕ) → List ℕ → Type 0
IsOneOfBoth one other most bytes = (bytes ≡ take most one) ⊎ (bytes ≡ take most other)

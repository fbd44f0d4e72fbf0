-- What the callers in `src/laws_on_a_wire.rt` that pass two fragments know of their calls (this project's own).
use Rattle.std.specs.Prelude.{◌≡◌, ℕ, ◌-◌, ◌<◌, ◌^◌, List, [], ◌∷◌}
use Rattle.flat_model.specs.Machine.Calls.{new_socket}
use Rattle.flat_model.specs.Machine.Count.{value_of}
use Rattle.flat_model.specs.Machine.Ledger.{exact_ledger}
use Rattle.flat_model.specs.Machine.Sending.{Sending}
use Rattle.flat_model.specs.Machine.State.{State, boot}
use Rattle.flat_model.specs.Runs.Run.{Turn}
use Rattle.flat_model.specs.declared.counter.Counter.{Counter}
use Rattle.flat_model.specs.declared.counters.Counters.{Counters}
use Rattle.flat_wire.specs.Progress.{IsCompleted}
use Rattle.net_stack.specs.Stack.{StackView, state_of}
use Rattle.callers.specs.declared.laws_on_a_wire.TheConstants.{FIRST, SECOND, PORT}

-- the first host with one new socket, before any other call
abbrev pub HasSocket : StackView → Type 0
HasSocket s = (fd : ℕ) × (state_of s ≡ record (boot FIRST) { sockets = new_socket fd ∷ [] })

-- the second host, of which no datagram is unfinished
abbrev pub IsFresh : StackView → Type 0
IsFresh t = ((state_of t).config ≡ SECOND) × ((state_of t).unfinished ≡ [])

-- the counter counts as before, and hasn't stopped
abbrev pub IsUnchanged : Counter → Counters → Counters → Type 0
IsUnchanged counter old new = (value_of counter new ≡ value_of counter old) × (value_of counter new < 2 ^ 64 - 1)

-- In these turns of the second host a datagram of the first with these bytes was completed: the socket that matched has
-- it, or it was counted.
pub record IsDatagramPassed (bytes : List ℕ) : Type 0 where
  pub sending : Sending
  pub bytes_are : sending.bytes ≡ bytes
  pub from : sending.source ≡ FIRST.addr
  pub to : sending.to ≡ record { ip = SECOND.addr; port = PORT }
  pub old : State
  pub new : State
  pub turns : List Turn
  pub completed : IsCompleted exact_ledger sending old new turns

-- The effect of a call on the stack in a handle: which step of the reference machine it is, and how its result code
-- encodes the reply (this project's own).
use Rattle.std.specs.Prelude.{◌≡◌, ℕ, ℤ, pos, ◌<◌, ◌≤◌, ◌==◌, if◌then◌else◌, List, length, drop, Option, Some, None, option_map, IfSome, IfNone, Result, Ok, Err, IfOk, OnErr}
use Rattle.params.specs.declared.TheConstants.{IP_MAX_PACKET}
use Rattle.flat_model.specs.declared.errno.Errno.{Errno}
use Rattle.flat_model.specs.declared.address.Addr.{Addr}
use Rattle.flat_model.specs.declared.fate.Fate.{Fate}
use Rattle.flat_model.specs.Machine.Event.{Event, Reply, Open, Receive, Comes, Transmit, Done}
use Rattle.flat_model.specs.Machine.Fate.{Fated}
use Rattle.flat_model.specs.Machine.Replies.{done_reply, opened_reply, sent_reply, received_reply, given_reply, FitsRoom}
use Rattle.flat_model.specs.Machine.Step.{Step}
use Rattle.net_stack.specs.Stack.{StackView, state_of}
use Rattle.libbsdudp.specs.declared.handle.Handle.{Handle}
use Rattle.libbsdudp.specs.declared.plain.CAddr.{CAddr}
use Rattle.libbsdudp.specs.declared.plain.CFate.{CFate}
use Rattle.libbsdudp.specs.Answers.{no_stack, bad_length, counted_code, done_code, given_code, received_code}
use Rattle.libbsdudp.specs.Plain.{c_fate, whom}

-- the stack that a handle holds
abbrev pub stack_in : Handle → Option StackView
stack_in h = if h.live == 1651729525 then option_map (λ b. b.stack) h.held.kept else None

-- If the handle has no stack, the result is -ENXIO, the handle stays without one, and `idle` says that everything other
-- than the handle is unchanged. If it has a stack, `call` says what happens to it.
abbrev pub Answers : Option StackView → ℤ → Option StackView → Type 0 → (StackView → StackView → Type 0) → Type 0
Answers None answer after idle call = (answer ≡ no_stack) × (after ≡ None) × idle
Answers (Some s) answer after idle call = (n : StackView) × (after ≡ Some n) × call s n

-- ---- the calls, each as one fact, so that proofs unfold it only on request

-- one step
pub record StepsTo (event : Event) (reply : Reply) (s n : StackView) : Type 0 where
  pub step : Step (state_of s) event reply (state_of n)

-- `tick`: the result is 0
pub record HasTicked (answer : ℤ) (event : Event) (s n : StackView) : Type 0 where
  pub is : answer ≡ pos 0
  pub step : StepsTo event Done s n

-- `bind`, `connect`, `close` and `setsockopt`: the result is 0, or the error
pub record AnswersCall (event : Event) (answer : ℤ) (s n : StackView) : Type 0 where
  pub reported : Result (Unit {0}) Errno
  pub is : answer ≡ done_code reported
  pub step : StepsTo event (done_reply reported) s n

-- `socket`: the result is the descriptor, or the error
pub record IsOpened (answer : ℤ) (s n : StackView) : Type 0 where
  pub reported : Result ℕ Errno
  pub is : answer ≡ counted_code reported
  pub step : StepsTo Open (opened_reply reported) s n

-- `sendto` and `send`: the result is the number of bytes sent, or the error
pub record AnswersSend (event : Event) (answer : ℤ) (s n : StackView) : Type 0 where
  pub reported : Result ℕ Errno
  pub is : answer ≡ counted_code reported
  pub step : StepsTo event (sent_reply reported) s n

-- the sender is written if a datagram was received, and otherwise unchanged
abbrev pub sender_after : Result (Addr × ℕ) Errno → CAddr → CAddr
sender_after (Ok got) old = whom got.0
sender_after (Err errno) old = old

-- `recvfrom`: the result is the number of bytes written to the front of the buffer, or the error; the rest of the
-- buffer is unchanged
pub record IsReceived (fd : ℕ) (answer : ℤ) (before buffer : List ℕ) (old from : CAddr) (s n : StackView) : Type 0 where
  pub reported : Result (Addr × ℕ) Errno
  pub is : answer ≡ received_code reported
  pub sender : from ≡ sender_after reported old
  pub fits : FitsRoom reported buffer
  pub same : OnErr reported (buffer ≡ before)
  pub rest : IfOk reported (λ got. drop got.1 buffer ≡ drop got.1 before)
  pub step : StepsTo (Receive fd (length before)) (received_reply reported buffer) s n

-- `rx`: the result is 0, or -EMSGSIZE if the packet is too long, and then nothing changes
pub record AnswersArrival (packet : List ℕ) (answer : ℤ) (s n : StackView) : Type 0 where
  pub long : IP_MAX_PACKET < length packet → (answer ≡ bad_length) × (n ≡ s)
  pub comes : length packet ≤ IP_MAX_PACKET → (answer ≡ pos 0) × StepsTo (Comes packet) Done s n

-- the step for a packet, and what became of it
pub record HasFate (packet : List ℕ) (shown : CFate) (s n : StackView) : Type 0 where
  pub fate : Fate
  pub is : shown ≡ c_fate fate
  pub step : StepsTo (Comes packet) Done s n
  pub fated : Fated (state_of s) packet fate (state_of n)

-- `rx_fate`: the result is 0, or -EMSGSIZE if the packet is too long, and then nothing changes
pub record AnswersFate (packet : List ℕ) (answer : ℤ) (old new : CFate) (s n : StackView) : Type 0 where
  pub long : IP_MAX_PACKET < length packet → (answer ≡ bad_length) × (n ≡ s) × (new ≡ old)
  pub comes : length packet ≤ IP_MAX_PACKET → (answer ≡ pos 0) × HasFate packet new s n

-- a packet for the link is at the front of the buffer, or the output queue is empty; the rest of the buffer is
-- unchanged
pub record GivesPacket (before buffer : List ℕ) (answer : ℤ) (s n : StackView) : Type 0 where
  pub reported : Option ℕ
  pub is : answer ≡ given_code reported
  pub fits : IfSome reported (λ len. len ≤ length buffer)
  pub same : IfNone reported (buffer ≡ before)
  pub rest : IfSome reported (λ len. drop len buffer ≡ drop len before)
  pub step : StepsTo Transmit (given_reply reported buffer) s n

-- `tx`: the result is the packet's length, 0 if the output queue is empty, or -EMSGSIZE if the buffer is shorter than
-- the MTU, and then nothing changes
pub record AnswersTransmit (before buffer : List ℕ) (answer : ℤ) (s n : StackView) : Type 0 where
  pub short : length before < s.config.mtu → (answer ≡ bad_length) × (n ≡ s) × (buffer ≡ before)
  pub gives : s.config.mtu ≤ length before → GivesPacket before buffer answer s n

-- a query: the stack is unchanged, and the result describes it
pub record AnswersQuestion (Says : StackView → Type 0) (s n : StackView) : Type 0 where
  pub same : n ≡ s
  pub says : Says s

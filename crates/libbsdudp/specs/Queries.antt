-- The results of the queries, each as one fact, so that proofs unfold it only on request (this project's own).
use Rattle.std.specs.Prelude.{◌≡◌, ℕ, ℤ, pos, List, length, drop, Option, Some, None, Result, Ok, Err, IfOk, OnErr, slice_get}
use Rattle.flat_model.specs.declared.address.Addr.{Addr}
use Rattle.flat_model.specs.declared.counter.Counter.{Counter}
use Rattle.flat_model.specs.declared.counters.Counters.{Counters}
use Rattle.flat_model.specs.declared.errno.Errno.{Errno}
use Rattle.flat_model.specs.declared.usage.Mbstat.{Mbstat}
use Rattle.flat_model.specs.Machine.Count.{value_of, all_counters}
use Rattle.flat_model.specs.Machine.Event.{Ask_counters, Ask_usage, Receive, Counted, Shown}
use Rattle.flat_model.specs.Machine.Replies.{received_reply, FitsRoom}
use Rattle.flat_model.specs.Machine.Step.{Step}
use Rattle.ip_out.specs.Questions.{oldest_length}
use Rattle.ip_reass.specs.Questions.{nth_range, nth_unfinished}
use Rattle.ip_reass.specs.declared.questions.HeldRange.{HeldRange}
use Rattle.ip_reass.specs.declared.questions.UnfinishedDatagram.{UnfinishedDatagram}
use Rattle.net_stack.specs.Questions.{WouldReply}
use Rattle.net_stack.specs.Stack.{StackView, state_of}
use Rattle.sock_calls.specs.Questions.{next_datagram, readable, receive_limit_at, socket_name}
use Rattle.sock_calls.specs.declared.questions.SocketName.{SocketName}
use Rattle.sock_calls.specs.declared.questions.NextDatagram.{NextDatagram}
use Rattle.libbsdudp.specs.declared.plain.CAddr.{CAddr}
use Rattle.libbsdudp.specs.declared.plain.CMbstat.{CMbstat}
use Rattle.libbsdudp.specs.declared.plain.CName.{CName}
use Rattle.libbsdudp.specs.declared.plain.CNext.{CNext}
use Rattle.libbsdudp.specs.declared.plain.CRange.{CRange}
use Rattle.libbsdudp.specs.declared.plain.CUnfinished.{CUnfinished}
use Rattle.libbsdudp.specs.Answers.{invalid, refusal_code, count_code, given_code, received_code}
use Rattle.libbsdudp.specs.Calls.{sender_after}
use Rattle.libbsdudp.specs.Plain.{c_name, c_next, c_range, c_unfinished, c_usage}

-- the addresses are written, or the result is the error
abbrev pub ReturnsName : Result SocketName Errno → ℤ → CName → CName → Type 0
ReturnsName (Ok name) answer old new = (answer ≡ pos 0) × (new ≡ c_name name)
ReturnsName (Err errno) answer old new = (answer ≡ refusal_code errno) × (new ≡ old)

pub record ReportsName (fd : ℕ) (answer : ℤ) (old new : CName) (s : StackView) : Type 0 where
  pub is : ReturnsName (socket_name fd (state_of s)) answer old new

-- the size of a receive queue that was set, or 0, or the error
abbrev pub limit_code : Result ℕ Errno → ℤ
limit_code (Ok limit) = pos limit
limit_code (Err errno) = refusal_code errno

pub record ReportsLimit (fd : ℕ) (answer : ℤ) (s : StackView) : Type 0 where
  pub is : answer ≡ limit_code (receive_limit_at fd (state_of s))

-- the oldest datagram is described, or the result is the error
abbrev pub IsNext : Result NextDatagram Errno → ℤ → CNext → CNext → Type 0
IsNext (Ok next) answer old new = (answer ≡ pos 0) × (new ≡ c_next next)
IsNext (Err errno) answer old new = (answer ≡ refusal_code errno) × (new ≡ old)

pub record ReportsNext (fd : ℕ) (answer : ℤ) (old new : CNext) (s : StackView) : Type 0 where
  pub is : IsNext (next_datagram fd (state_of s)) answer old new

-- `peek`: the stack is unchanged, and otherwise it is `recvfrom`, to which the machine would reply so
pub record ReportsOldest (fd : ℕ) (answer : ℤ) (before buffer : List ℕ) (old from : CAddr) (s : StackView) : Type 0
  where
    pub reported : Result (Addr × ℕ) Errno
    pub is : answer ≡ received_code reported
    pub sender : from ≡ sender_after reported old
    pub fits : FitsRoom reported buffer
    pub same : OnErr reported (buffer ≡ before)
    pub rest : IfOk reported (λ got. drop got.1 buffer ≡ drop got.1 before)
    pub reply : WouldReply (state_of s) (Receive fd (length before)) (received_reply reported buffer)

-- the set of readable sockets
pub record ReportsReadable (answer : ℤ) (set : ℕ) (s : StackView) : Type 0 where
  pub is : answer ≡ pos 0
  pub sockets : set ≡ readable (state_of s)

-- the number of packets in the output queue
pub record ReportsOutput (answer : ℤ) (s : StackView) : Type 0 where
  pub is : answer ≡ count_code (length (state_of s).output)

-- the length of the oldest packet in the output queue, or 0
pub record ReportsPacket (answer : ℤ) (s : StackView) : Type 0 where
  pub is : answer ≡ given_code (oldest_length (state_of s).output)

-- a counter's value, or -EINVAL if no counter has this number
abbrev pub IsValue : Option Counter → Counters → ℤ → ℕ → ℕ → Type 0
IsValue (Some counter) counters answer old new = (answer ≡ pos 0) × (new ≡ value_of counter counters)
IsValue None counters answer old new = (answer ≡ invalid) × (new ≡ old)

pub record ReportsCounter (which : ℕ) (answer : ℤ) (old new : ℕ) (s : StackView) : Type 0 where
  pub reported : Counters
  pub step : Step (state_of s) Ask_counters (Counted reported) (state_of s)
  pub value : IsValue (slice_get all_counters which) reported answer old new

-- the usage of the pool
pub record ReportsUsage (answer : ℤ) (usage : CMbstat) (s : StackView) : Type 0 where
  pub reported : Mbstat
  pub is : answer ≡ pos 0
  pub shown : usage ≡ c_usage reported
  pub step : Step (state_of s) Ask_usage (Shown reported) (state_of s)

-- the number of unfinished datagrams
pub record ReportsWaiting (answer : ℤ) (s : StackView) : Type 0 where
  pub is : answer ≡ count_code (length (state_of s).unfinished)

-- an unfinished datagram is described, or the result is -EINVAL if no datagram has this index
abbrev pub ReturnsUnfinished : Option UnfinishedDatagram → ℤ → CUnfinished → CUnfinished → Type 0
ReturnsUnfinished (Some datagram) answer old new = (answer ≡ pos 0) × (new ≡ c_unfinished datagram)
ReturnsUnfinished None answer old new = (answer ≡ invalid) × (new ≡ old)

pub record ReportsUnfinished (i : ℕ) (answer : ℤ) (old new : CUnfinished) (s : StackView) : Type 0 where
  pub is : ReturnsUnfinished (nth_unfinished i (state_of s).unfinished) answer old new

-- a range of its bytes is described, or the result is -EINVAL if no range has this index
abbrev pub ReturnsRange : Option HeldRange → ℤ → CRange → CRange → Type 0
ReturnsRange (Some range) answer old new = (answer ≡ pos 0) × (new ≡ c_range range)
ReturnsRange None answer old new = (answer ≡ invalid) × (new ≡ old)

pub record ReportsRange (i k : ℕ) (answer : ℤ) (old new : CRange) (s : StackView) : Type 0 where
  pub is : ReturnsRange (nth_range i k (state_of s).unfinished) answer old new

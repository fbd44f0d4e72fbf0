-- Snapshots of a machine, and what happened between two of them (this project's own).
use Rattle.std.specs.Prelude.{◌≡◌, ℕ, ◌+◌, ◌-◌, ◌<◌, false, Bool, List, length, get_or, nat_lt, if◌then◌else◌, Result, Ok, Err}
use Rattle.params.specs.declared.TheConstants.{FIRST_DESCRIPTOR, MAX_SOCKETS}
use Rattle.flat_model.specs.Machine.Count.{value_of}
use Rattle.flat_model.specs.Machine.Event.{Event, Reply, Ask_counters, Ask_usage, Counted, Shown}
use Rattle.flat_model.specs.Machine.State.{State}
use Rattle.flat_model.specs.declared.counter.Counter.{Counter}
use Rattle.flat_model.specs.declared.counter.Counter.TheVariants.{IpFragtimeout, IpReclaimed}
use Rattle.flat_model.specs.declared.counters.Counters.{Counters}
use Rattle.flat_model.specs.declared.errno.Errno.{Errno}
use Rattle.sock_calls.specs.Questions.{next_datagram}
use Rattle.sock_calls.specs.declared.questions.NextDatagram.{NextDatagram}
use Rattle.play_text.specs.Fates.{drops_of, fate_of}
use Rattle.play_show.specs.declared.changes.Change.{Change}
use Rattle.play_show.specs.declared.changes.Change.TheVariants as change
use Rattle.play_show.specs.declared.changes.Effect.{Effect}
use Rattle.play_show.specs.declared.snapshot.Snapshot.{Snapshot}

-- ---- a snapshot

-- how many datagrams wait in a socket
abbrev pub waiting_of : Result NextDatagram Errno → ℕ
waiting_of (Ok next) = next.waiting
waiting_of (Err errno) = 0

-- how many datagrams wait in each socket, that of descriptor 3 first
abbrev pub IsWaiting : State → List ℕ → Type 0
IsWaiting s xs = (k : ℕ) → k < MAX_SOCKETS → get_or xs k 0 ≡ waiting_of (next_datagram (FIRST_DESCRIPTOR + k) s)

-- A snapshot of a state: its counters and its pool, the number of packets that wait for the link, and the number of
-- datagrams that wait in each socket.
pub record IsSnapshot (step : State → Event → Reply → State → Type 0) (s : State) (x : Snapshot) : Type 0 where
  pub counters : step s Ask_counters (Counted x.counters) s
  pub usage : step s Ask_usage (Shown x.usage) s
  pub output : x.output ≡ length s.output
  pub waiting : IsWaiting s x.waiting

-- ---- what an event did

-- by how much a counter went up
abbrev pub risen : Counter → Counters → Counters → ℕ
risen counter before after = value_of counter after - value_of counter before

-- the number of free buffers went down, or up
abbrev pub change_of : ℕ → ℕ → Change
change_of before after =
    if nat_lt after before then change.Taken (before - after) else
    if nat_lt before after then change.Given (after - before) else change.Same

-- more datagrams wait in these sockets than before
abbrev pub AreDelivered : Snapshot → Snapshot → List Bool → Type 0
AreDelivered before after delivered =
    (k : ℕ) → k < MAX_SOCKETS
    → get_or delivered k false ≡ nat_lt (get_or before.waiting k 0) (get_or after.waiting k 0)

pub record IsEffect (before after : Snapshot) (x : Effect) : Type 0 where
  pub drops : x.drops ≡ drops_of before.counters after.counters
  pub fate : x.fate ≡ fate_of before.counters after.counters
  pub delivered : AreDelivered before after x.delivered
  pub first : x.first_sent ≡ before.output
  pub sent : x.sent ≡ after.output - before.output
  pub timed_out : x.timed_out ≡ risen IpFragtimeout before.counters after.counters
  pub reclaimed : x.reclaimed ≡ risen IpReclaimed before.counters after.counters
  pub mbufs : x.mbufs ≡ change_of before.usage.free_mbufs after.usage.free_mbufs
  pub clusters : x.clusters ≡ change_of before.usage.free_clusters after.usage.free_clusters

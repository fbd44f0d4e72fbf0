-- What the callers in `src/laws_on_a_wire.rt` know of their calls (this project's own).
use Rattle.std.specs.Prelude.{◌≡◌, ◌≢◌, ℕ, ◌-◌, ◌<◌, ◌^◌, ◌++◌, false, List, [], ◌∷◌, length, Some, None}
use Rattle.std.specs.List.{AllByRecursion as Each}
use Rattle.flat_model.specs.Amounts.Weight.{Item}
use Rattle.flat_model.specs.Fragments.Cuts.{Part}
use Rattle.flat_model.specs.Machine.Count.{counter_of, value_of}
use Rattle.flat_model.specs.Machine.Event.{Reply, Comes, Done, Given}
use Rattle.flat_model.specs.Machine.Fate.{Tells}
use Rattle.flat_model.specs.Machine.Ledger.{exact_ledger}
use Rattle.flat_model.specs.Machine.Sending.{Sending, packet_for}
use Rattle.flat_model.specs.Machine.State.{IsConfig, State, unfinished_at}
use Rattle.flat_model.specs.Machine.Calls.{is_ours}
use Rattle.flat_model.specs.Runs.Consistent.{IsConsistent}
use Rattle.flat_model.specs.Runs.Run.{Turn}
use Rattle.flat_model.specs.declared.config.Config.{Config}
use Rattle.flat_model.specs.declared.counter.Counter.TheVariants.{IpReclaimed, Nobufs}
use Rattle.flat_model.specs.declared.counters.Counters.{Counters}
use Rattle.flat_model.specs.declared.counters.Why.{Why}
use Rattle.flat_model.specs.declared.fate.Fate.{Fate}
use Rattle.flat_wire.specs.Ever.{ArePaced, IsMadeBySend}
use Rattle.flat_wire.specs.Places.{IsCounting, PacketPlace, counts_in, ends_at}
use Rattle.flat_wire.specs.Progress.{IsCompleted, IsSending, key_for, parts}
use Rattle.flat_wire.specs.Queue.{packets_in_queue}
use Rattle.flat_wire.specs.Wire.{ComesFrom, packet_in}
use Rattle.flat_ether.specs.Ever.{ArePassed, PassedAct, steps_of_acts, turns_of_acts}
use Rattle.flat_ether.specs.Hosts.{AreHostActs, Host, HostAct, host_up}
use Rattle.flat_ether.specs.declared.link.Link.{Link}

-- Unless a counter has stopped, the packet has a place that agrees with its fate, and each cause counts what the place
-- counts for it.
abbrev pub IsAccountedFor : Fate → Counters → Type 0
IsAccountedFor fate counters = IsCounting counters
    → (place : PacketPlace) × Each (Tells fate) (ends_at place)
    × ((why : Why) → value_of (counter_of why) counters ≡ counts_in (counter_of why) place)

-- if the two replies gave packets, these are the first two of the queue
abbrev pub AreFirstGiven : List Item → Reply → Reply → Type 0
AreFirstGiven output first second = (a b one two : List ℕ) (more : List (List ℕ))
    → packets_in_queue output ≡ a ∷ b ∷ more → first ≡ Given (Some one) → second ≡ Given (Some two)
    → (one ≡ a) × (two ≡ b)

-- the two packets are all fragments of a datagram that another host sent to this one, and no other one with its key
-- waits
pub record AreTwoParts (s : State) (first second : List ℕ) : Type 0 where
  pub sending : Sending
  pub mtu : ℕ
  pub is : IsSending sending mtu
  pub one : Part
  pub two : Part
  pub are : parts sending mtu ≡ one ∷ two ∷ []
  pub first_is : first ≡ packet_for sending one
  pub second_is : second ≡ packet_for sending two
  pub consistent : IsConsistent s
  pub here : sending.to.ip ≡ s.config.addr
  pub other : is_ours s.config sending.source ≡ false
  pub fresh : unfinished_at (key_for sending) s ≡ None

-- a packet arrives
abbrev pub arrives : List ℕ → Turn
arrives packet = record { event = Comes packet; reply = Done }

-- if nothing was reclaimed and nothing lacked buffers, one of the two arrivals completed the datagram
abbrev pub IsReceivedUnlessLacking : List ℕ → List ℕ → State → State → Type 0
IsReceivedUnlessLacking first second old new = (p : AreTwoParts old first second)
    → value_of IpReclaimed new.counters ≡ value_of IpReclaimed old.counters
    → value_of Nobufs new.counters ≡ value_of Nobufs old.counters
    → value_of IpReclaimed new.counters < 2 ^ 64 - 1 → value_of Nobufs new.counters < 2 ^ 64 - 1
    → IsCompleted exact_ledger p.sending old new (arrives second ∷ arrives first ∷ [])

-- two hosts on one Ethernet, as in `AreOnEthernetForEver`, with a premise that a user can check
pub record AreOnPacedEthernet (c d : Config) (l m : Link) (sent : List PassedAct) (came : List HostAct) (s t : Host)
    (born made : ℕ → ℕ) (life pace : ℕ) : Type 0 where
  pub first_boots : IsConfig c
  pub second_boots : IsConfig d
  pub first_acts : ArePassed (host_up c l) sent s
  pub second_acts : AreHostActs (host_up d m) came t
  pub not_addr : c.addr ≢ d.addr
  pub not_bcast : c.addr ≢ d.bcast
  pub wire : (before after : List Turn) (turn : Turn) (packet : List ℕ)
      → turns_of_acts d m.mac came ≡ before ++ turn ∷ after → packet_in turn ≡ Some packet → ComesFrom c.addr packet
      → IsMadeBySend (steps_of_acts c l.mac sent) (born (length before)) packet
  pub paced : ArePaced c.addr (turns_of_acts d m.mac came) born made life pace

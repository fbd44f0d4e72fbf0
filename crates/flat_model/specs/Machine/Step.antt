-- One step of the machine: its possible replies to an event, and the state after it (this project's own; the clock is
-- `ip_slowtimo` of volume 2, chapter 10).
use Rattle.std.specs.Prelude.{◌≡◌, ℕ, ◌-◌, Bool, ◌==◌, nat_lt, List, [], ◌∷◌, length, map, filter, count_by, Some, None}
use Rattle.params.specs.declared.TheConstants.{MAX_SOCKETS}
use Rattle.flat_model.specs.Amounts.Choice.{Choice}
use Rattle.flat_model.specs.Amounts.Weight.{Item, nothing}
use Rattle.flat_model.specs.Amounts.Layout.{wire, need_of, entries_on, weight_of}
use Rattle.flat_model.specs.Machine.Count.{counts_more}
use Rattle.flat_model.specs.Machine.Event.{Event, Reply, Open, Bind, Connect, Send, Receive, Close, Set_option, Set_limit, Comes, Transmit, Tick, Ask_counters, Ask_usage, Done, Given, Counted, Shown}
use Rattle.flat_model.specs.declared.counter.Counter.TheVariants.{IpFragtimeout}
use Rattle.flat_model.specs.declared.usage.Mbstat.{Mbstat}
use Rattle.flat_model.specs.Machine.State.{State, Unfinished, ends}
use Rattle.flat_model.specs.Machine.Ledger.{Ledger, HasBuffers, AreTaken, exact_ledger, loose_ledger}
use Rattle.flat_model.specs.Machine.Calls.{OnSocket, Opens, Closes, Binds, Connects, Receives, SetsOption, SetsLimit}
use Rattle.flat_model.specs.Machine.Send.{Sends}
use Rattle.flat_model.specs.Machine.Arrival.{By_wire, Saying, silent, ArrivesAs, Ended}
use Rattle.flat_model.specs.declared.counters.Why.TheVariants.{NoBufs}

-- every unfinished datagram has one tick less, and is dropped if none is left
abbrev pub ticked : State → State
ticked s =
    let older : List Unfinished = map (λ (u : Unfinished). record u { ticks = u.ticks - 1 }) s.unfinished in
    record s {
      unfinished = filter (λ u. nat_lt 0 u.ticks) older;
      counters = counts_more IpFragtimeout (count_by (λ u. u.ticks == 0) older) s.counters;
    }

-- the link takes the oldest packet of the output queue
abbrev pub Transmits : List Item → State → Reply → State → Type 0
Transmits [] old reply new = (reply ≡ Given None) × (new ≡ old)
Transmits (item ∷ later) old reply new = (reply ≡ Given (Some item.bytes)) × (new ≡ record old { output = later })

module _ (L : Ledger) where
  -- a packet comes from the wire into buffers of its own, or is lost if the pool has too few
  abbrev pub ComesInAs : Saying → List ℕ → State → State → Type 0
  ComesInAs Says packet old new =
      (yes : Bool) × (mid : State)
      × HasBuffers L old nothing (need_of (wire (length packet))) yes mid
      × Choice yes
      ((clusters : List ℕ)
      × AreTaken L mid (need_of (wire (length packet))).clusters clusters
      × ArrivesAs L Says (By_wire (length packet)) nothing
      (record { bytes = packet; weight = weight_of (entries_on clusters (wire (length packet))) }) mid new)
      (Says (Ended NoBufs) new (ends NoBufs mid))

  abbrev pub ComesIn : List ℕ → State → State → Type 0
  ComesIn = ComesInAs silent

  -- a step, for any ledger of the buffers
  abbrev pub StepBy : State → Event → Reply → State → Type 0
  StepBy old Open reply new = Opens MAX_SOCKETS old reply new
  StepBy old (Bind fd a) reply new = OnSocket fd old reply new (λ me. Binds fd a me old reply new)
  StepBy old (Connect fd a) reply new = OnSocket fd old reply new (λ me. Connects fd a me old reply new)
  StepBy old (Send fd to bytes) reply new = OnSocket fd old reply new (λ me. Sends L fd to bytes me old reply new)
  StepBy old (Receive fd most) reply new = OnSocket fd old reply new (λ me. Receives fd most me.queue old reply new)
  StepBy old (Close fd) reply new = OnSocket fd old reply new (λ me. Closes fd old reply new)
  StepBy old (Set_option fd option on) reply new =
      OnSocket fd old reply new (λ me. SetsOption fd option on old reply new)
  StepBy old (Set_limit fd limit) reply new = OnSocket fd old reply new (λ me. SetsLimit fd limit old reply new)
  StepBy old (Comes packet) reply new = (reply ≡ Done) × ComesIn packet old new
  StepBy old Transmit reply new = Transmits old.output old reply new
  StepBy old Tick reply new = (reply ≡ Done) × (new ≡ ticked old)
  StepBy old Ask_counters reply new = (reply ≡ Counted old.counters) × (new ≡ old)
  StepBy old Ask_usage reply new = (usage : Mbstat) × L.may_show old usage × (reply ≡ Shown usage) × (new ≡ old)

-- the machine whose pool refuses exactly if its ledger has too few buffers
abbrev pub Step : State → Event → Reply → State → Type 0
Step = StepBy exact_ledger

-- the machine that may lack buffers at any time
abbrev pub Loose : State → Event → Reply → State → Type 0
Loose = StepBy loose_ledger

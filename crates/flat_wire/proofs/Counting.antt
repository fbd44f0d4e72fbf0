-- The counters of reclaimed datagrams and of lacking buffers never fall.
use Rattle.std.proofs.Common.{ℕ, ◌-◌, ◌^◌, ◌≤◌, List, [], ◌∷◌, sym, subst, arith}
use Rattle.std.specs.Prelude.{⊤}
use Rattle.flat_model.specs.Machine.Count.{value_of, counted}
use Rattle.flat_model.specs.Machine.Event.{Event, Reply, Open, Bind, Connect, Send, Receive, Close, Set_option, Set_limit, Comes, Transmit, Tick, Ask_counters, Ask_usage}
use Rattle.flat_model.specs.Machine.State.{State}
use Rattle.flat_model.specs.Machine.Ledger.{Ledger}
use Rattle.flat_model.specs.Machine.Step.{StepBy}
use Rattle.flat_model.specs.Runs.Run.{Turn, Leads}
use Rattle.flat_model.specs.declared.counter.Counter.TheVariants.{IpReclaimed, Nobufs}
use Rattle.flat_model.specs.declared.counters.Counters.{Counters}
use Rattle.flat_model.specs.declared.counters.Why.{Why}
use Rattle.flat_model.specs.declared.counters.Why.TheVariants.{TooSmall, BadVersion, BadHeaderLength, Options, BadSum, BadLength, TooShort, CantForward, BadFragment, FragmentDropped, NoProtocol, UdpHeaderDrops, UdpBadLength, UdpBadSum, UdpNoPort, UdpNoPortBroadcast, UdpFullSocket, NoBufs}
use Rattle.flat_wire.proofs.Closed.{IsClosedBy}
use Rattle.flat_wire.proofs.Quiet.{IsQuiet, quiet}
use Rattle.flat_wire.proofs.Walk as Walk

-- both counters are at least as great
pub record AtLeast (r b : ℕ) (c : Counters) : Type 0 where
  pub reclaimed : r ≤ value_of IpReclaimed c
  pub nobufs : b ≤ value_of Nobufs c

module _ (L : Ledger) (r b : ℕ) (small_r : r ≤ 2 ^ 64 - 1) (small_b : b ≤ 2 ^ 64 - 1) where
  abbrev Here : Counters → Type 0
  Here = AtLeast r b

  pub at_least_counted : (why : Why) (c : Counters) → Here c → Here (counted why c)
  unfolding counted
  at_least_counted TooSmall c k = record { reclaimed = k.reclaimed; nobufs = k.nobufs }
  at_least_counted BadVersion c k = record { reclaimed = k.reclaimed; nobufs = k.nobufs }
  at_least_counted BadHeaderLength c k = record { reclaimed = k.reclaimed; nobufs = k.nobufs }
  at_least_counted Options c k = record { reclaimed = k.reclaimed; nobufs = k.nobufs }
  at_least_counted BadSum c k = record { reclaimed = k.reclaimed; nobufs = k.nobufs }
  at_least_counted BadLength c k = record { reclaimed = k.reclaimed; nobufs = k.nobufs }
  at_least_counted TooShort c k = record { reclaimed = k.reclaimed; nobufs = k.nobufs }
  at_least_counted CantForward c k = record { reclaimed = k.reclaimed; nobufs = k.nobufs }
  at_least_counted BadFragment c k = record { reclaimed = k.reclaimed; nobufs = k.nobufs }
  at_least_counted FragmentDropped c k = record { reclaimed = k.reclaimed; nobufs = k.nobufs }
  at_least_counted NoProtocol c k = record { reclaimed = k.reclaimed; nobufs = k.nobufs }
  at_least_counted UdpHeaderDrops c k = record { reclaimed = k.reclaimed; nobufs = k.nobufs }
  at_least_counted UdpBadLength c k = record { reclaimed = k.reclaimed; nobufs = k.nobufs }
  at_least_counted UdpBadSum c k = record { reclaimed = k.reclaimed; nobufs = k.nobufs }
  at_least_counted UdpNoPort c k = record { reclaimed = k.reclaimed; nobufs = k.nobufs }
  at_least_counted UdpNoPortBroadcast c k = record { reclaimed = k.reclaimed; nobufs = k.nobufs }
  at_least_counted UdpFullSocket c k = record { reclaimed = k.reclaimed; nobufs = k.nobufs }
  at_least_counted NoBufs c k =
      record { reclaimed = k.reclaimed; nobufs = omega (arith, k.nobufs, small_b) }

  pub at_least_closed : IsClosedBy L (λ k. ⊤) (λ s. Here s.counters)
  at_least_closed = record {
    ended = λ why s k. at_least_counted why s.counters k;
    dropped = λ s k. record { reclaimed = omega (arith, k.reclaimed, small_r); nobufs = k.nobufs };
    queued = λ fd d s k. k;
    begins = λ key s q k. k;
    sets = λ key bytes s q k. k;
    finishes = λ key s q k. record { reclaimed = k.reclaimed; nobufs = k.nobufs };
    fragment = λ s k. record { reclaimed = k.reclaimed; nobufs = k.nobufs };
    packet = λ s k. record { reclaimed = k.reclaimed; nobufs = k.nobufs };
  }

  pub at_least_step : (event : Event) (reply : Reply) (old new : State) → Here old.counters
      → StepBy L old event reply new → Here new.counters
  at_least_step event reply old new k h = go event h
    where
      quietly : (event : Event) → IsQuiet L (λ cc us c. Here c) event → StepBy L old event reply new → Here new.counters
      quietly event q h = quiet L (λ cc us c. Here c) event reply old new q k h

      go : (event : Event) → StepBy L old event reply new → Here new.counters
      go Open h = quietly Open tt h
      go (Bind fd a) h = quietly (Bind fd a) tt h
      go (Connect fd a) h = quietly (Connect fd a) tt h
      go (Send fd to bytes) h =
          Walk.sends L (λ k. ⊤) (λ cc us c. Here c) at_least_closed fd to bytes reply old new
          (record {
            counts = λ cc us c k. record { reclaimed = k.reclaimed; nobufs = k.nobufs };
            cuts = λ cc us c k. record { reclaimed = k.reclaimed; nobufs = k.nobufs };
            drops = λ cc us c k. record { reclaimed = k.reclaimed; nobufs = k.nobufs };
          }) (λ me at c e x ip source p. tt) k h
      go (Receive fd most) h = quietly (Receive fd most) tt h
      go (Close fd) h = quietly (Close fd) tt h
      go (Set_option fd option on) h = quietly (Set_option fd option on) tt h
      go (Set_limit fd limit) h = quietly (Set_limit fd limit) tt h
      go (Comes packet) h =
          Walk.comes L (λ k. ⊤) (λ cc us c. Here c) at_least_closed packet reply old new (λ e f. tt) k h
      go Transmit h = quietly Transmit tt h
      go Tick h =
          subst (λ (s : State). Here s.counters) (sym h.1) (record { reclaimed = k.reclaimed; nobufs = k.nobufs })
      go Ask_counters h = quietly Ask_counters tt h
      go Ask_usage h = quietly Ask_usage tt h

  pub at_least_run : (turns : List Turn) (old new : State) → Here old.counters → Leads L old turns new
      → Here new.counters
  at_least_run [] old new k e = subst (λ (s : State). Here s.counters) (sym e) k
  at_least_run (turn ∷ turns) old new k (is, mid, step, later) =
      at_least_run turns mid new (at_least_step turn.event turn.reply old mid k step) later

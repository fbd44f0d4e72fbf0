-- The fields of a stack after a call: the step of the machine, and the invariant.
use Rattle.std.proofs.Common.{◌≡◌, ℕ, ◌≤◌, List, [], ◌∷◌, length, arith}
use Rattle.std.proofs.Common.{refl, sym, ap, ◌∙◌, subst}
use Rattle.std.specs.List.{AllByRecursion}
use Rattle.flat_model.specs.Amounts.Weight.{Item}
use Rattle.flat_model.specs.Machine.Count.{counts_more}
use Rattle.flat_model.specs.Runs.Consistent.{IsOutput}
use Rattle.flat_model.specs.Machine.State.{State}
use Rattle.flat_model.specs.Machine.Event.{Event, Reply, IsEvent, Transmit, Tick, Done}
use Rattle.flat_model.specs.Machine.Step.{Step, ticked}
use Rattle.flat_model.specs.declared.counter.Counter.TheVariants.{IpFragtimeout}
use Rattle.flat_model.specs.declared.config.Config.{Config}
use Rattle.flat_model.specs.declared.counters.Counters.{Counters}
use Rattle.mbuf_chain.specs.Chain.{PoolView}
use Rattle.mbuf_chain.specs.Owners.{Moves}
use Rattle.mbuf_chain.specs.Train.{TrainView}
use Rattle.mbuf_chain.proofs.Laws.Owners.{moves_none}
use Rattle.ip_out.specs.Packets.{train_packets}
use Rattle.ip_reass.specs.Arrivals.{with_waiting}
use Rattle.ip_reass.specs.Table.{TableView, IsReady, held_all}
use Rattle.sock_calls.specs.Sockets.{SocksView, IsSocks, IsCalled, queued_chains, with_sockets}
use Rattle.net_stack.specs.Stack.{StackView, state_of}
use Rattle.net_stack.specs.Inside.Transmit.{AreWithin, IsGiven}
use Rattle.net_stack.specs.Inside.Fields.{Fields, fields, stack_of, IsStackInside}
use Rattle.net_stack.specs.declared.host.Host.{Host}
use Rattle.net_stack.specs.declared.stack.Stack.TheInside.{Inside}
use Rattle.net_stack.proofs.PartSteps.{Stepped, socks_step, output_step, reass_step}

-- the fields with the host that the box lends
abbrev pub lent : Inside → Host → Fields
lent s h = record { config = s.config; host = h }

pub lent_inside : (s : Inside) (h : Host) → h ≡ s.host.value → IsStackInside (fields s) → IsStackInside (lent s h)
lent_inside s h e is = subst (λ (g : Host). IsStackInside (lent s g)) (sym e) is

pub lent_shows : (s : Inside) (h : Host) (v : StackView) → h ≡ s.host.value → stack_of (fields s) ≡ v
    → stack_of (lent s h) ≡ v
lent_shows s h v e is = ap (λ (g : Host). stack_of (lent s g)) e ∙ is

-- the fields with another pool, and other sockets, another output queue, or other unfinished datagrams and counters
abbrev pub with_socks : Fields → PoolView → SocksView → Fields
with_socks s q w = record s { host = record (s.host) { pool = q; socks = w } }

abbrev pub with_out : Fields → PoolView → TrainView → Fields
with_out s q u = record s { host = record (s.host) { pool = q; net = record (s.host.net) { out = u } } }

abbrev pub with_reass : Fields → PoolView → TableView → Counters → Fields
with_reass s q r d =
    record s { host = record (s.host) { pool = q; reass = r; net = record (s.host.net) { counters = d } } }

-- the fields n satisfy the invariant of a stack, and the machine took one step
pub record Called (v : StackView) (event : Event) (reply : Reply) (n : Fields) : Type 0 where
  pub step : Step (state_of v) event reply (state_of (stack_of n))
  pub inside : IsStackInside n

pub called : (s n : Fields) (v : StackView) (event : Event) (reply : Reply) → IsStackInside s → stack_of s ≡ v
    → n.host.net.mtu ≡ s.host.net.mtu → n.config ≡ s.config → n.host.net.looped ≡ s.host.net.looped
    → Stepped (stack_of s) event reply (stack_of n) → Called v event reply n
called s n v event reply is e mtu config looped t = record {
  step = subst (λ (w : StackView). Step (state_of w) event reply (state_of (stack_of n))) e t.step;
  inside = record {
    stack = t.stack;
    mtu = mtu ∙ is.mtu ∙ ap (λ (c : Config). c.mtu) (sym config);
    looped = looped ∙ is.looped;
  };
}

-- ---- the sockets

pub socks_called : (s : Fields) (v : StackView) (q : PoolView) (w : SocksView) (event : Event) (reply : Reply)
    → IsStackInside s → stack_of s ≡ v → IsEvent event
    → ((rest : State) → Step (with_sockets s.host.pool s.host.socks rest) event reply (with_sockets q w rest))
    → IsSocks q w → Moves s.host.pool (queued_chains s.host.pool s.host.socks.queues) q (queued_chains q w.queues)
    → Called v event reply (with_socks s q w)
socks_called s v q w event reply is e can step ready m =
    called s (with_socks s q w) v event reply is e refl refl refl
    (socks_step (stack_of s) q w event reply is.stack can step ready m)

-- the same for a call that changes only the control blocks
pub blocks_called : (s : Fields) (v : StackView) (w : SocksView) (event : Event) (reply : Reply) → IsStackInside s
    → stack_of s ≡ v → IsEvent event → ((p : PoolView) → IsSocks p s.host.socks → IsCalled p s.host.socks event reply w)
    → Called v event reply (with_socks s s.host.pool w)
blocks_called s v w event reply is e can call =
    let c : IsCalled s.host.pool s.host.socks event reply w = call s.host.pool is.stack.socks in
    socks_called s v s.host.pool w event reply is e can c.step c.ready
    (subst (λ (bs : List _). Moves s.host.pool (queued_chains s.host.pool s.host.socks.queues) s.host.pool
    (queued_chains s.host.pool bs)) (sym c.queues)
    (moves_none s.host.pool (queued_chains s.host.pool s.host.socks.queues)))

-- ---- the output queue

within : (config : Config) (most : ℕ) (items : List Item) → config.mtu ≤ most → AllByRecursion (IsOutput config) items
    → AllByRecursion (λ (item : Item). length item.bytes ≤ most) items
within config most [] le each = tt
within config most (item ∷ items) le each = (omega (arith, each.0.fits), within config most items le each.1)

-- each packet in the output queue fits the link's MTU
pub are_within : (s : Fields) (most : ℕ) → IsStackInside s → s.config.mtu ≤ most
    → AreWithin s.host.pool s.host.net.out most
are_within s most is le =
    within (state_of (stack_of s)).config most (train_packets s.host.pool s.host.net.out) le is.stack.consistent.output

pub output_called : (s : Fields) (v : StackView) (q : PoolView) (u : TrainView) (reply : Reply) → IsStackInside s
    → stack_of s ≡ v → IsGiven s.host.pool s.host.net.out reply q u
    → Called v Transmit reply (with_out s q u)
output_called s v q u reply is e g =
    called s (with_out s q u) v Transmit reply is e refl refl refl
    (output_step (stack_of s) q u Transmit reply is.stack tt g.queue g.moves (g.step (state_of (stack_of s))))

-- ---- the unfinished datagrams

pub reass_called : (s : Fields) (v : StackView) (q : PoolView) (r : TableView) (n : ℕ) (d : Counters) → IsStackInside s
    → stack_of s ≡ v
    → ((rest : State) (c : Counters) → ticked (with_waiting s.host.pool s.host.reass.datagrams c rest)
    ≡ with_waiting q r.datagrams (counts_more IpFragtimeout n c) rest)
    → IsReady q r → Moves s.host.pool (held_all s.host.pool s.host.reass.datagrams) q (held_all q r.datagrams)
    → d ≡ counts_more IpFragtimeout n s.host.net.counters
    → Called v Tick Done (with_reass s q r d)
reass_called s v q r n d is e step ready m counts =
    called s (with_reass s q r d) v Tick Done is e refl refl refl
    (reass_step (stack_of s) q r d Tick Done is.stack tt ready m (
      refl,
      ap (λ (c : Counters). with_waiting q r.datagrams c (state_of (stack_of s))) counts
          ∙ sym (step (state_of (stack_of s)) s.host.net.counters),
    ))

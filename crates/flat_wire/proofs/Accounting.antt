-- What arrives in a step has places, and the numbers add up: for each event.
use Rattle.std.proofs.Common.{◌≡◌, ℕ, zero, suc, ◌+◌, ◌-◌, ◌^◌, ◌<◌, ◌≤◌, Bool, true, false, List, [], ◌∷◌, ◌++◌, length, map, take, refl, sym, ◌∙◌, ap, subst, arith, Option, Some, None, cond}
use Rattle.std.specs.Prelude.{◌==◌, ◌||◌, nat_lt, count_by, filter, is_some, sum_by, ⊤}
use Rattle.std.specs.List.{AllByRecursion as Each}
use Rattle.std.proofs.lemmas.Bool.{eqb-true, eqb-false, ltb-true, ltb-false}
use Rattle.std.proofs.lemmas.Option.{none-some, same_Some}
use Rattle.std.proofs.lemmas.List.{length-append, length-map}
use Rattle.std.proofs.lemmas.List.Sums.{sum_by-cons}
use Rattle.params.specs.declared.TheConstants.{OUTPUT_QUEUE_PACKETS}
use Rattle.flat_model.specs.Amounts.Weight.{Item, nothing, all_of}
use Rattle.flat_model.specs.Amounts.Layout.{LayoutEntry, entries_on, need_of, weight_of, wire}
use Rattle.flat_model.specs.Fragments.Cuts.{Part as Share, cuts}
use Rattle.flat_model.specs.Packets.Header.{first_fault}
use Rattle.flat_model.specs.Machine.Count.{counts_more, value_of, counter_of}
use Rattle.flat_model.specs.Machine.Event.{Event, Reply, Open, Bind, Connect, Send, Receive, Close, Set_option, Set_limit, Comes, Transmit, Tick, Ask_counters, Ask_usage, Sent, Received, Given, Refused}
use Rattle.flat_model.specs.Machine.State.{State, Socket, Datagram, Unfinished, change_socket, socket_at}
use Rattle.flat_model.specs.Machine.Calls as Calls
use Rattle.flat_model.specs.Machine.Ledger.{Ledger, exact_ledger}
use Rattle.flat_model.specs.Machine.Arrival as Arrival
use Rattle.flat_model.specs.Machine.Arrival.{End, Looped, By_wire, silent}
use Rattle.flat_model.specs.Machine.Send as Sends
use Rattle.flat_model.specs.Machine.Sending.{Sending, datagram, items, is_looped, later_weight, mtu_to, packet_for, packets, parts_of}
use Rattle.flat_model.specs.Machine.Step.{ComesIn, ComesInAs, Step, Transmits, ticked}
use Rattle.flat_model.specs.Runs.Consistent.{IsConsistent}
use Rattle.flat_model.specs.declared.address.Addr.{Addr}
use Rattle.flat_model.specs.declared.config.Config.{Config}
use Rattle.flat_model.specs.declared.errno.Errno.{Errno}
use Rattle.flat_model.specs.declared.errno.Errno.TheVariants as Errnos
use Rattle.flat_model.specs.declared.errno.Lack.TheVariants.{Pool, Queue}
use Rattle.flat_model.specs.declared.option.Opt.{Opt}
use Rattle.flat_model.specs.declared.option.Opt.TheVariants.{Broadcast, ReusePort}
use Rattle.flat_model.specs.declared.counter.Counter.{Counter}
use Rattle.flat_model.specs.declared.counter.Counter.TheVariants.{IpFragtimeout, IpReclaimed, IpLocalout, IpFragmented, OutDropped}
use Rattle.flat_model.specs.declared.counters.Counters.{Counters}
use Rattle.flat_model.proofs.Laws.{arrives_too, by_choice, by_case, count_cons, itself, length-udp}
use Rattle.flat_wire.specs.Places.{PacketPlace, arrived_in, begins, closed_in_event, comes_back, counts_in, given_by, goes_out, got, read_by, sent_in, waiting_at, went}
use Rattle.flat_wire.proofs.Tallies.{count-changed, sum-same, sum-replaced, sum-removed}
use Rattle.flat_wire.proofs.Moves.{Change, Moves, Keeps, at, both, reclaiming, counts_exactly, move_nothing, move_both, move_as, keeps_same, keeps_both}
use Rattle.flat_wire.proofs.Placing.{AreDistinct, AreApart, Freed, Placed, arrives, by_buffers, comes_in, completes, for_place, telling}

-- ---- several packets

abbrev pub sent_counts : Counter → ℕ → ℕ → ℕ → ℕ → ℕ
sent_counts k expires out parts full =
    at k IpFragtimeout expires + at k IpLocalout out + at k IpFragmented parts + at k OutDropped full

abbrev for_places : List PacketPlace → ℕ → Change
for_places places r = record {
  counts = λ k. sum_by (counts_in k) places;
  reclaims = r;
  ends = sum_by completes places;
  begins = sum_by begins places;
  gets = sum_by got places;
  leaves = 0;
}

record AllPlaced (n : ℕ) (old new : State) : Type 0 where
  places : List PacketPlace
  number : length places ≡ n
  reclaims : ℕ
  moves : Moves (for_places places reclaims) old new
  output : new.output ≡ old.output

still : (old new : State) → Keeps old new → AreDistinct old → AreDistinct new
still old new keeps distinct fd = let most = distinct fd in omega (arith, keeps.fds fd, most)

abbrev Anything : End → Type 0
Anything end = ⊤

all_arrive : (L : Ledger) (xs : List Item) (old new : State) → AreDistinct old → AreApart old
    → Arrival.AllArrive L xs old new → AllPlaced (length xs) old new
all_arrive L [] old new distinct apart e = subst (AllPlaced 0 old) (sym e) (record {
  places = [];
  number = refl;
  reclaims = 0;
  moves = move_nothing old;
  output = refl;
})
all_arrive L (item ∷ later) old new distinct apart (mid, a, rest) =
    let p = arrives L Anything Looped (all_of (λ later. later.weight) later) item old mid distinct apart
    (arrives_too L L (itself L) silent (telling Anything) (λ end new is e. (tt, e)) Looped _ item old mid a) in
    let r = all_arrive L later mid new (still old mid p.keeps distinct) (p.keeps.keys apart) rest in
    record {
      places = p.place ∷ r.places;
      number = omega (arith, r.number);
      reclaims = p.reclaims + r.reclaims;
      moves =
          move_as (both (for_place p.place p.reclaims) (for_places r.places r.reclaims))
          (for_places (p.place ∷ r.places) (p.reclaims + r.reclaims)) old new
          (record {
            counts = λ k. sym (sum_by-cons (counts_in k) p.place r.places);
            reclaims = refl;
            ends = sym (sum_by-cons completes p.place r.places);
            begins = sym (sum_by-cons begins p.place r.places);
            gets = sym (sum_by-cons got p.place r.places);
            leaves = refl;
          }) (move_both _ _ old mid new p.moves r.moves);
      output = r.output ∙ p.keeps.output;
    }

-- ---- a step

abbrev pub for_step : List PacketPlace → ℕ → ℕ → ℕ → ℕ → ℕ → ℕ → Change
for_step places r expires out parts full leaves = record {
  counts = λ k. sum_by (counts_in k) places + sent_counts k expires out parts full;
  reclaims = r;
  ends = sum_by completes places + expires;
  begins = sum_by begins places;
  gets = sum_by got places;
  leaves = leaves;
}

pub record Stepped (event : Event) (reply : Reply) (old new : State) : Type 0 where
  pub places : List PacketPlace
  pub number : length places ≡ arrived_in old event reply
  pub reclaims : ℕ
  pub expires : ℕ
  pub out : ℕ
  pub parts : ℕ
  pub full : ℕ
  pub moves : Moves
      (for_step places reclaims expires out parts full (read_by event reply + closed_in_event old event)) old new
  pub output : length old.output + sent_in old event reply
      ≡ given_by event reply + length new.output
      + (length old.output + sent_in old event reply - OUTPUT_QUEUE_PACKETS)

pub at_zero : (k c : Counter) → at k c 0 ≡ 0
at_zero k c = go (Rattle.flat_model.specs.Machine.Count.counter_place k
    == Rattle.flat_model.specs.Machine.Count.counter_place c)
  where
    go : (b : Bool) → cond {A = ℕ} b 0 0 ≡ 0
    go true = refl
    go false = refl

pub none_sent : (k : Counter) → sent_counts k 0 0 0 0 ≡ 0
none_sent k = omega (arith, at_zero k IpFragtimeout, at_zero k IpLocalout, at_zero k IpFragmented, at_zero k OutDropped)

abbrev leaving : ℕ → Change
leaving n = record { counts = λ k. 0; reclaims = 0; ends = 0; begins = 0; gets = 0; leaves = n }

-- nothing arrives, expires or is sent, and n datagrams leave the queues
record Leaves (n : ℕ) (old new : State) : Type 0 where
  moves : Moves (leaving n) old new
  output : new.output ≡ old.output

leaves_none : (s : State) → Leaves 0 s s
leaves_none s = record { moves = move_nothing s; output = refl }

-- the packets that are given out, or wait
abbrev pub PutsOut : Event → Reply → State → State → Type 0
PutsOut event reply old new = length old.output + sent_in old event reply
    ≡ given_by event reply + length new.output
    + (length old.output + sent_in old event reply - OUTPUT_QUEUE_PACKETS)

pub puts_none : (event : Event) (reply : Reply) (old new : State) → length old.output ≤ OUTPUT_QUEUE_PACKETS
    → sent_in old event reply ≡ 0 → given_by event reply ≡ 0 → new.output ≡ old.output → PutsOut event reply old new
puts_none event reply old new short none kept same = omega (arith, short, none, kept, ap length same)

quiet : (event : Event) (reply : Reply) (old new : State) → length old.output ≤ OUTPUT_QUEUE_PACKETS
    → (arrived_in old event reply ≡ 0) × (sent_in old event reply ≡ 0) × (given_by event reply ≡ 0)
    → Leaves (read_by event reply + closed_in_event old event) old new → Stepped event reply old new
quiet event reply old new short none l = record {
  places = [];
  number = sym none.0;
  reclaims = 0;
  expires = 0;
  out = 0;
  parts = 0;
  full = 0;
  moves =
      move_as (leaving (read_by event reply + closed_in_event old event)) (for_step [] 0 0 0 0 0 _) old new
      (record {
        counts = λ k. omega (arith, none_sent k);
        reclaims = refl;
        ends = omega arith;
        begins = refl;
        gets = refl;
        leaves = refl;
      }) l.moves;
  output = puts_none event reply old new short none.1 none.2 l.output;
}

moves_to : (n : ℕ) (old mid new : State) → new ≡ mid → Leaves n old mid → Leaves n old new
moves_to n old mid new e m = subst (Leaves n old) (sym e) m

-- ---- calls that keep each queue

move_changes : (fd : ℕ) (f : Socket → Socket) (s : State) → ((x : Socket) → length (f x).queue ≡ length x.queue)
    → Leaves 0 s (change_socket fd f s)
move_changes fd f s same = record {
  moves = record {
    counters = λ k low. omega (arith, at_zero k IpReclaimed);
    queues =
        omega (
          arith,
          sum-same (λ (socket : Socket). socket.fd == fd) (λ (socket : Socket). length socket.queue) f same
              s.sockets,
        );
    unfinished = omega arith;
  };
  output = refl;
}

move_two : (s t u : State) → Leaves 0 s t → Leaves 0 t u → Leaves 0 s u
move_two s t u m n = record {
  moves = move_as (both (leaving 0) (leaving 0)) (leaving 0) s u (record {
    counts = λ k. omega arith;
    reclaims = omega arith;
    ends = omega arith;
    begins = omega arith;
    gets = omega arith;
    leaves = omega arith;
  }) (move_both _ _ s t u m.moves n.moves);
  output = n.output ∙ m.output;
}

named_moves : (old new : State) (local asked : Option ℕ) (port : ℕ) → Calls.GetsPort old local asked port new
    → Leaves 0 old new
named_moves old new local (Some q) port h = subst (Leaves 0 old) (sym h.1) (leaves_none old)
named_moves old new local None port h = subst (Leaves 0 old) (sym h.1) (record {
  moves = record {
    counters = λ k low. omega (arith, at_zero k IpReclaimed);
    queues = refl;
    unfinished = omega arith;
  };
  output = refl;
})

-- a step that is refused changes nothing
declines : (event : Event) (reply : Reply) (errno : Errno) (old new : State)
    → length old.output ≤ OUTPUT_QUEUE_PACKETS
    → (arrived_in old event (Refused errno) ≡ 0) × (sent_in old event (Refused errno) ≡ 0)
    × (given_by event (Refused errno) ≡ 0) → read_by event (Refused errno) ≡ 0 → closed_in_event old event ≡ 0
    → Calls.Refuses errno old reply new → Stepped event reply old new
declines event reply errno old new short none unread unclosed (answer, is) =
    subst (λ r. Stepped event r old new) (sym answer)
    (subst (Stepped event (Refused errno) old) (sym is)
    (quiet event (Refused errno) old old short none
    (subst (λ n. Leaves n old old) (omega (arith, unread, unclosed)) (leaves_none old))))

-- ---- sends

counted_if : (b : Bool) (k c : Counter) (cs : Counters) → value_of k (cond b (counts_more c 1 cs) cs) < 2 ^ 64 - 1
    → value_of k (cond b (counts_more c 1 cs) cs) ≡ value_of k cs + at k c (cond b 1 0)
counted_if true k c cs low = counts_exactly k c 1 cs low
counted_if false k c cs low = omega (arith, at_zero k c)

abbrev one_if : Bool → ℕ
one_if b = cond b 1 0

abbrev sending : ℕ → ℕ → ℕ → Change
sending out parts full = record {
  counts = λ k. at k IpLocalout out + at k IpFragmented parts + at k OutDropped full;
  reclaims = 0;
  ends = 0;
  begins = 0;
  gets = 0;
  leaves = 0;
}

move_sends : (fd port : ℕ) (shares : List Share) (link : List Item) (s : State)
    → Moves (sending 1 (one_if (nat_lt 1 (length shares)))
    (one_if (Sends.overflows (Sends.spent fd port shares s) link))) s
    (Sends.enqueued link (Sends.spent fd port shares s))
move_sends fd port shares link s =
    let parted : Bool = nat_lt 1 (length shares) in
    let full : Bool = Sends.overflows (Sends.spent fd port shares s) link in
    record {
      counters = λ k low.
          let first : Counters = counts_more IpLocalout 1 s.counters in
          let second : Counters = cond (nat_lt 1 (length shares)) (counts_more IpFragmented 1 first) first in
          let third = counted_if (Sends.overflows (Sends.spent fd port shares s) link) k OutDropped second low in
          let then' = counted_if (nat_lt 1 (length shares)) k IpFragmented first (omega (arith, third, low)) in
          let once = counts_exactly k IpLocalout 1 s.counters (omega (arith, third, then', low)) in
          omega (arith, third, then', once, at_zero k IpReclaimed);
      queues =
          omega (
            arith,
            sum-same (λ (socket : Socket). socket.fd == fd) (λ (socket : Socket). length socket.queue)
                (λ (socket : Socket). record socket { port = Some port }) (λ x. refl) s.sockets,
          );
      unfinished = omega arith;
    }

length-items : (entries : List LayoutEntry) (f : Share → List ℕ) (shares : List Share)
    → length (items entries f shares) ≡ length shares
length-items entries f [] = refl
length-items entries f (p ∷ later) =
    omega (arith, length-map {B = Item} later (λ q. record { bytes = f q; weight = later_weight entries q }))

-- no error of a send is that of a full queue
abbrev Stops : (Bool × Errno) → Type 0
Stops fault = went (Refused fault.1) ≡ false

first_stops : (faults : List (Bool × Errno)) (errno : Errno) → Each Stops faults → first_fault faults ≡ Some errno
    → went (Refused errno) ≡ false
first_stops [] errno h e = absurd (none-some errno e)
first_stops (fault ∷ faults) errno h e = go fault.0 e (first_stops faults errno h.1)
  where
    go : (b : Bool) → cond b (Some fault.1) (first_fault faults) ≡ Some errno
        → (first_fault faults ≡ Some errno → went (Refused errno) ≡ false) → went (Refused errno) ≡ false
    go true e rest = subst (λ errno. went (Refused errno) ≡ false) (same_Some fault.1 errno e) h.0
    go false e rest = rest e

all_stop : (s : State) (me : Socket) (to : Option Addr) (n : ℕ) → Each Stops (Sends.send_faults s me to n)
all_stop s me None n = (refl, (refl, (refl, (refl, tt))))
all_stop s me (Some a) n = (refl, (refl, (refl, (refl, (refl, (refl, (refl, (refl, tt))))))))

length-back : (c : Config) (ip : ℕ) (out : List Item) → length (Sends.to_self c ip out)
    ≡ cond (is_looped c ip || (ip == c.bcast)) (length out) 0
length-back c ip out = go (is_looped c ip || (ip == c.bcast))
  where
    go : (b : Bool) → length (cond b out []) ≡ cond b (length out) 0
    go true = refl
    go false = refl

keeps_named : (old new : State) (local asked : Option ℕ) (port : ℕ) → Calls.GetsPort old local asked port new
    → Keeps old new
keeps_named old new local (Some q) port h = subst (Keeps old) (sym h.1) (keeps_same old)
keeps_named old new local None port h =
    subst (Keeps old) (sym h.1) (record { fds = λ fd. refl; keys = λ h. h; config = refl; output = refl })

still_distinct : (fd port : ℕ) (shares : List Share) (link : List Item) (s : State) → AreDistinct s
    → AreDistinct (Sends.enqueued link (Sends.spent fd port shares s))
still_distinct fd port shares link s distinct other =
    let most = distinct other in
    omega (
      arith,
      most,
      count-changed (λ (socket : Socket). socket.fd == other)
          (λ (socket : Socket). cond (socket.fd == fd) (record socket { port = Some port }) socket)
          (λ x. go other x (x.fd == fd)) s.sockets,
    )
  where
    go : (other : ℕ) (x : Socket) (b : Bool) → ((cond b (record x { port = Some port }) x).fd == other)
        ≡ (x.fd == other)
    go other x true = refl
    go other x false = refl

length-take_most : {X : Type 0} (n : ℕ) (xs : List X) → length (take n xs) + (length xs - n) ≡ length xs
length-take_most zero xs = omega arith
length-take_most (suc n) [] = omega arith
length-take_most (suc n) (x ∷ xs) = omega (arith, length-take_most n xs)

length-link : (c : Config) (ip : ℕ) (out : List Item) → length (Sends.to_link c ip out)
    ≡ cond (is_looped c ip) 0 (length out)
length-link c ip out = go (is_looped c ip)
  where
    go : (b : Bool) → length (cond b [] out) ≡ cond b 0 (length out)
    go true = refl
    go false = refl

-- a send that went, or found the output queue full
goes_reply : (b : Bool) (n : ℕ) → went (cond b (Refused (Errnos.NoBufs Queue)) (Sent n)) ≡ true
goes_reply true n = refl
goes_reply false n = refl

-- ---- the clock

counted_both : (us : List Unfinished) → count_by (λ (u : Unfinished). u.ticks == 0) us
    + length (filter (λ (u : Unfinished). nat_lt 0 u.ticks) us) ≡ length us
counted_both [] = refl
counted_both (u ∷ us) =
    go (u.ticks == 0) (nat_lt 0 u.ticks) refl refl (counted_both us)
    (count_cons (λ (u : Unfinished). u.ticks == 0) u us)
  where
    go : (b c : Bool) → (u.ticks == 0) ≡ b → nat_lt 0 u.ticks ≡ c
        → count_by (λ (u : Unfinished). u.ticks == 0) us
        + length (filter (λ (u : Unfinished). nat_lt 0 u.ticks) us) ≡ length us
        → count_by (λ (u : Unfinished). u.ticks == 0) (u ∷ us)
        ≡ cond {A = ℕ} (u.ticks == 0) 1 0 + count_by (λ (u : Unfinished). u.ticks == 0) us
        → count_by (λ (u : Unfinished). u.ticks == 0) (u ∷ us)
        + length (cond c (u ∷ filter (λ (u : Unfinished). nat_lt 0 u.ticks) us)
        (filter (λ (u : Unfinished). nat_lt 0 u.ticks) us)) ≡ suc (length us)
    go true true e f rest n = absurd (omega (arith, eqb-true u.ticks 0 e, ltb-true 0 u.ticks f))
    go true false e f rest n =
        let one : cond {A = ℕ} (u.ticks == 0) 1 0 ≡ 1 = ap (λ b. cond {A = ℕ} b 1 0) e in
        omega arith
    go false true e f rest n =
        let none : cond {A = ℕ} (u.ticks == 0) 1 0 ≡ 0 = ap (λ b. cond {A = ℕ} b 1 0) e in
        omega arith
    go false false e f rest n =
        absurd (eqb-false u.ticks 0 e (omega (arith, ltb-false 0 u.ticks f)))

abbrev one_less : Unfinished → Unfinished
one_less u = record u { ticks = u.ticks - 1 }

abbrev expired : State → ℕ
expired s = count_by (λ (u : Unfinished). u.ticks == 0) (map one_less s.unfinished)

ticks : (reply : Reply) (old new : State) → length old.output ≤ OUTPUT_QUEUE_PACKETS → Step old Tick reply new
    → Stepped Tick reply old new
ticks reply old new short h = subst (Stepped Tick reply old) (sym h.1) (record {
  places = [];
  number = refl;
  reclaims = 0;
  expires = expired old;
  out = 0;
  parts = 0;
  full = 0;
  output = puts_none Tick reply old (ticked old) short refl refl refl;
  moves = record {
    counters = λ k low.
        omega (
          arith,
          counts_exactly k IpFragtimeout (expired old) old.counters low,
          at_zero k IpReclaimed,
          at_zero k IpLocalout,
          at_zero k IpFragmented,
          at_zero k OutDropped,
        );
    queues = omega arith;
    unfinished = omega (
      arith,
      counted_both (map one_less old.unfinished),
      length-map {B = Unfinished} old.unfinished
          one_less,
    );
  };
})

-- ---- each event

module _ (old new : State) (is : IsConsistent old) where
  on_fd : (event : Event) (fd : ℕ) (reply : Reply) (Call : Socket → Type 0)
      → (arrived_in old event (Refused Errnos.BadDescriptor) ≡ 0)
      × (sent_in old event (Refused Errnos.BadDescriptor) ≡ 0)
      × (given_by event (Refused Errnos.BadDescriptor) ≡ 0)
      → read_by event (Refused Errnos.BadDescriptor) ≡ 0
      → (socket_at fd old ≡ None → closed_in_event old event ≡ 0)
      → Calls.OnSocket fd old reply new Call
      → ((me : Socket) → socket_at fd old ≡ Some me → Call me → Stepped event reply old new)
      → Stepped event reply old new
  on_fd event fd reply Call none unread unclosed h goes =
      by_case h (λ e r. declines event reply Errnos.BadDescriptor old new is.short none unread (unclosed e) r) goes

  receives : (fd most : ℕ) (me : Socket) (reply : Reply) (queue : List Datagram) → socket_at fd old ≡ Some me
      → me.queue ≡ queue → Calls.Receives fd most queue old reply new → Stepped (Receive fd most) reply old new
  receives fd most me reply [] at_fd e h =
      declines (Receive fd most) reply Errnos.WouldBlock old new is.short (refl, refl, refl) refl refl h
  receives fd most me reply (d ∷ later) at_fd e h =
      subst (λ r. Stepped (Receive fd most) r old new) (sym h.0)
      (quiet (Receive fd most) (Received d.sender (take most d.item.bytes)) old new is.short (refl, refl, refl)
      (moves_to 1 old _ new h.1 (record {
        moves = record {
          counters = λ k low. omega (arith, at_zero k IpReclaimed);
          queues =
              omega (
                arith,
                sum-replaced (λ (socket : Socket). socket.fd == fd) (λ (socket : Socket). length socket.queue)
                    (λ (socket : Socket). record socket { queue = later }) (length later) (λ x. refl) old.sockets me
                    (is.distinct fd) at_fd,
                ap length e,
              );
          unfinished = omega arith;
        };
        output = refl;
      })))

  transmits : (reply : Reply) (output : List Item) → old.output ≡ output → Transmits output old reply new
      → Stepped Transmit reply old new
  transmits reply [] e h =
      subst (λ r. Stepped Transmit r old new) (sym h.0)
      (quiet Transmit (Given None) old new is.short (refl, refl, refl) (moves_to 0 old old new h.1 (leaves_none old)))
  transmits reply (item ∷ later) e h =
      subst (λ r. Stepped Transmit r old new) (sym h.0)
      (subst (Stepped Transmit (Given (Some item.bytes)) old) (sym h.1) (record {
        places = [];
        number = refl;
        reclaims = 0;
        expires = 0;
        out = 0;
        parts = 0;
        full = 0;
        moves = record {
          counters = λ k low. omega (arith, none_sent k, at_zero k IpReclaimed);
          queues = omega arith;
          unfinished = omega arith;
        };
        output = omega (arith, is.short, ap length e);
      }))

  unfoldable pub comes : (packet : List ℕ) (reply : Reply) (T : End → Type 0) (p : Placed T old new)
      → Stepped (Comes packet) reply old new
  comes packet reply T p = record {
    places = p.place ∷ [];
    number = refl;
    reclaims = p.reclaims;
    expires = 0;
    out = 0;
    parts = 0;
    full = 0;
    moves = move_as (for_place p.place p.reclaims) (for_step (p.place ∷ []) p.reclaims 0 0 0 0 0) old new (record {
      counts = λ k. omega (arith, none_sent k);
      reclaims = refl;
      ends = omega arith;
      begins = omega arith;
      gets = omega arith;
      leaves = refl;
    }) p.moves;
    output = puts_none (Comes packet) reply old new is.short refl refl p.keeps.output;
  }

  spoken : (packet : List ℕ) → ComesIn exact_ledger packet old new
      → ComesInAs exact_ledger (telling Anything) packet old new
  spoken packet (answer, mid, has, c) = (
    answer,
    mid,
    has,
    record {
      yes = λ e. let (clusters, taken, r) = c.yes e in (
        clusters,
        taken,
        arrives_too exact_ledger exact_ledger (itself exact_ledger) silent (telling Anything) (λ end new is e. (tt, e))
            (By_wire (length packet)) nothing
            (record { bytes = packet; weight = weight_of (entries_on clusters (wire (length packet))) }) mid new r,
      );
      no = λ e. (tt, c.no e);
    },
  )

  -- a send that goes: its packets, and those that come back
  goes : (fd : ℕ) (to : Option Addr) (bytes : List ℕ) (reply : Reply) (me : Socket) → socket_at fd old ≡ Some me
      → (mid named : State) (port : ℕ) (clusters : List ℕ) (f : Freed old mid)
      → Calls.GetsPort mid me.local me.port port named
      → (let x : Sending = record {
        id = mid.next_id;
        source = Calls.source_for mid.config me (Sends.target old me to).ip;
        to = Sends.target old me to;
        port = port;
        bytes = bytes;
      } in
      Sends.Leaves exact_ledger fd (packets named.config clusters x) x named reply new)
      → Stepped (Send fd to bytes) reply old new
  goes fd to bytes reply me at_fd mid named port clusters f g left =
      let x : Sending = record {
        id = mid.next_id;
        source = Calls.source_for mid.config me (Sends.target old me to).ip;
        to = Sends.target old me to;
        port = port;
        bytes = bytes;
      } in
      let ip : ℕ = (Sends.target old me to).ip in
      let out : List Item = packets named.config clusters x in
      let shares : List Share = parts_of named.config x in
      let link : List Item = Sends.to_link named.config ip out in
      let full : Bool = Sends.overflows (Sends.spent fd port shares named) link in
      let put : State = Sends.enqueued link (Sends.spent fd port shares named) in
      let keeps : Keeps old named = keeps_both old mid named f.keeps (keeps_named mid named _ _ port g) in
      let p = all_arrive exact_ledger (Sends.to_self named.config ip out) put new
      (still_distinct fd port shares link named (still old named keeps is.distinct)) (keeps.keys is.keys) left.0 in
      let cut : length out ≡ length (cuts (length (datagram x)) (mtu_to named.config ip)) =
      length-items (entries_on clusters (Rattle.flat_model.specs.Amounts.Layout.sent (length bytes))) (packet_for x)
      (parts_of named.config x) in
      let went_so : went reply ≡ true = ap went left.1 ∙ goes_reply full (length bytes) in
      let link_is : length link ≡ sent_in old (Send fd to bytes) reply =
      length-link named.config ip out
      ∙ ap (λ n. cond {A = ℕ} (is_looped named.config ip) 0 n) cut
      ∙ ap (λ (c : Config). away c ip (length (datagram x))) keeps.config
      ∙ ap (λ n. away old.config ip n) (length-udp x.source ip port x.to.port bytes)
      ∙ sym (ap (λ o. goes_out old o to (length bytes)) at_fd)
      ∙ sym (ap (λ b. cond {A = ℕ} b (goes_out old (socket_at fd old) to (length bytes)) 0) went_so) in
      record {
        places = p.places;
        number =
            p.number ∙ length-back named.config ip out
            ∙ ap (λ n. cond {A = ℕ} (is_looped named.config ip || (ip == named.config.bcast)) n 0) cut
            ∙ ap (λ (c : Config). back c ip (length (datagram x))) keeps.config
            ∙ ap (λ n. back old.config ip n) (length-udp x.source ip port x.to.port bytes)
            ∙ sym (ap (λ o. comes_back old o to (length bytes)) at_fd)
            ∙ sym (ap (λ b. cond {A = ℕ} b (comes_back old (socket_at fd old) to (length bytes)) 0) went_so);
        reclaims = f.reclaims + p.reclaims;
        expires = 0;
        out = 1;
        parts = one_if (nat_lt 1 (length shares));
        full = one_if full;
        moves =
            move_as (both (both (both (reclaiming f.reclaims) (leaving 0)) (sending 1
            (one_if (nat_lt 1 (length shares)))
            (one_if full))) (for_places p.places p.reclaims)) (for_step p.places (f.reclaims + p.reclaims) 0 1
            (one_if (nat_lt 1 (length shares))) (one_if full) 0) old new
            (record {
              counts = λ k. omega (arith, at_zero k IpFragtimeout);
              reclaims = omega arith;
              ends = omega arith;
              begins = omega arith;
              gets = omega arith;
              leaves = omega arith;
            })
            (move_both _ _ old put new (move_both _ _ old named put (move_both _ _ old mid named f.moves
            (named_moves mid named _ _ port g).moves) (move_sends fd port shares link named)) p.moves);
        output = omega (
          arith,
          link_is,
          ap length p.output,
          length-take_most OUTPUT_QUEUE_PACKETS (named.output ++ link),
          length-append named.output link,
          ap length keeps.output,
        );
      }
    where
      back : Config → ℕ → ℕ → ℕ
      back c ip n = cond (is_looped c ip || (ip == c.bcast)) (length (cuts n (mtu_to c ip))) 0

      away : Config → ℕ → ℕ → ℕ
      away c ip n = cond (is_looped c ip) 0 (length (cuts n (mtu_to c ip)))

  sends : (fd : ℕ) (to : Option Addr) (bytes : List ℕ) (reply : Reply) (me : Socket) → socket_at fd old ≡ Some me
      → Sends.Sends exact_ledger fd to bytes me old reply new → Stepped (Send fd to bytes) reply old new
  sends fd to bytes reply me at_fd h = by_case h
      (λ e (answer, mid, has, rest).
      let f = by_buffers exact_ledger old mid nothing _ answer has in
      by_choice rest
      (λ e (port, named, clusters, g, taken, left). goes fd to bytes reply me at_fd mid named port clusters f g left)
      (λ e r. subst (λ reply. Stepped (Send fd to bytes) reply old new) (sym r.0)
      (lacks fd to bytes mid f is.short r.1)))
      (λ errno e r.
      let stops : went (Refused errno) ≡ false =
      first_stops (Sends.send_faults old me to (length bytes)) errno (all_stop old me to (length bytes)) e in
      declines (Send fd to bytes) reply errno old new is.short (
        ap (λ b. cond {A = ℕ} b (comes_back old (socket_at fd old) to (length bytes)) 0) stops,
        ap (λ b. cond {A = ℕ} b (goes_out old (socket_at fd old) to (length bytes)) 0) stops,
        refl,
      ) refl refl r)
    where
      lacks : (fd : ℕ) (to : Option Addr) (bytes : List ℕ) (mid : State) (f : Freed old mid)
          → length old.output ≤ OUTPUT_QUEUE_PACKETS → new ≡ mid
          → Stepped (Send fd to bytes) (Refused (Errnos.NoBufs Pool)) old new
      lacks fd to bytes mid f short is =
          subst (Stepped (Send fd to bytes) (Refused (Errnos.NoBufs Pool)) old) (sym is) (
          record {
            places = [];
            number = refl;
            reclaims = f.reclaims;
            expires = 0;
            out = 0;
            parts = 0;
            full = 0;
            moves = move_as (reclaiming f.reclaims) (for_step [] f.reclaims 0 0 0 0 0) old mid (record {
              counts = λ k. omega (arith, none_sent k);
              reclaims = refl;
              ends = omega arith;
              begins = refl;
              gets = refl;
              leaves = omega arith;
            }) f.moves;
            output =
                puts_none (Send fd to bytes) (Refused (Errnos.NoBufs Pool)) old mid short refl refl f.keeps.output;
          }
          )

  pub step : (event : Event) (reply : Reply) → Step old event reply new → Stepped event reply old new
  step Open reply h = by_choice h
      (λ e (fd, least, answer, made). quiet Open reply old new is.short (refl, refl, refl)
      (moves_to 0 old _ new made (record {
        moves = record {
          counters = λ k low. omega (arith, at_zero k IpReclaimed);
          queues =
              omega (arith, sum_by-cons (λ (socket : Socket). length socket.queue) (Calls.new_socket fd) old.sockets);
          unfinished = omega arith;
        };
        output = refl;
      })))
      (λ e r. declines Open reply _ old new is.short (refl, refl, refl) refl refl r)
  step (Bind fd a) reply h = on_fd (Bind fd a) fd reply _ (refl, refl, refl) refl (λ e. refl) h (λ me at_fd c. by_case c
      (λ e (port, chosen, g, answer, n). quiet (Bind fd a) reply old new is.short (refl, refl, refl)
      (moves_to 0 old _ new n
      (move_two old chosen _ (named_moves old chosen _ _ port g) (move_changes fd _ chosen (λ x. refl)))))
      (λ errno e r. declines (Bind fd a) reply errno old new is.short (refl, refl, refl) refl refl r))
  step (Connect fd a) reply h = on_fd (Connect fd a) fd reply _ (refl, refl, refl) refl (λ e. refl) h (λ me at_fd c.
      let first : Leaves 0 old (change_socket fd Calls.disconnected old) =
      move_changes fd Calls.disconnected old (λ x. kept x (is_some x.peer)) in
      by_case c
      (λ e (port, chosen, g, answer, n). quiet (Connect fd a) reply old new is.short (refl, refl, refl)
      (moves_to 0 old _ new n
      (move_two old chosen _ (move_two old (change_socket fd Calls.disconnected old) chosen first
      (named_moves _ chosen _ _ port g)) (move_changes fd _ chosen (λ x. refl)))))
      (λ errno e r. quiet (Connect fd a) reply old new is.short (refl, refl, refl) (moves_to 0 old _ new r.1 first)))
    where
      kept : (x : Socket) (b : Bool) → length (cond b (record x { local = None; peer = None }) x).queue
          ≡ length x.queue
      kept x true = refl
      kept x false = refl
  step (Send fd to bytes) reply h = on_fd (Send fd to bytes) fd reply _ (refl, refl, refl) refl (λ e. refl) h
      (λ me at_fd c. sends fd to bytes reply me at_fd c)
  step (Receive fd most) reply h = on_fd (Receive fd most) fd reply _ (refl, refl, refl) refl (λ e. refl) h
      (λ me at_fd c. receives fd most me reply me.queue at_fd refl c)
  step (Close fd) reply h = on_fd (Close fd) fd reply _ (refl, refl, refl) refl (λ e. ap waiting_at e) h
      (λ me at_fd c. quiet (Close fd) reply old new is.short (refl, refl, refl)
      (subst (λ n. Leaves n old new) (omega (arith, ap waiting_at at_fd))
      (moves_to (length me.queue) old _ new c.1 (record {
        moves = record {
          counters = λ k low. omega (arith, at_zero k IpReclaimed);
          queues =
              omega (
                arith,
                sum-removed (λ (socket : Socket). socket.fd == fd) (λ (socket : Socket). length socket.queue)
                    old.sockets me (is.distinct fd) at_fd,
              );
          unfinished = omega arith;
        };
        output = refl;
      }))))
  step (Set_option fd option on) reply h =
      on_fd (Set_option fd option on) fd reply _ (refl, refl, refl) refl (λ e. refl) h
      (λ me at_fd c. quiet (Set_option fd option on) reply old new is.short (refl, refl, refl)
      (moves_to 0 old _ new c.1 (move_changes fd (Calls.set_option option on) old (kept option))))
    where
      kept : (option : Opt) (x : Socket) → length (Calls.set_option option on x).queue ≡ length x.queue
      kept Broadcast x = refl
      kept ReusePort x = refl
  step (Set_limit fd limit) reply h = on_fd (Set_limit fd limit) fd reply _ (refl, refl, refl) refl (λ e. refl) h
      (λ me at_fd c. quiet (Set_limit fd limit) reply old new is.short (refl, refl, refl)
      (moves_to 0 old _ new c.1 (move_changes fd _ old (λ x. refl))))
  step (Comes packet) reply h =
      comes packet reply Anything
      (comes_in exact_ledger Anything packet old new is.distinct is.keys (spoken packet h.1))
  step Transmit reply h = transmits reply old.output refl h
  step Tick reply h = ticks reply old new is.short h
  step Ask_counters reply h =
      quiet Ask_counters reply old new is.short (refl, refl, refl) (moves_to 0 old old new h.1 (leaves_none old))
  step Ask_usage reply h =
      quiet Ask_usage reply old new is.short (refl, refl, refl) (moves_to 0 old old new h.3 (leaves_none old))

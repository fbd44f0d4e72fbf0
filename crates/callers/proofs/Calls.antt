-- Lists of calls that are joined, and the packets that they give to the link.
use Rattle.std.proofs.Common.{◌≡◌, ℕ, suc, ◌^◌, ◌<◌, ◌≤◌, List, [], ◌∷◌, ◌++◌, length, get_or, Option, None, Some, refl, sym, ap, ◌∙◌, subst, arith, append-nil}
use Rattle.std.specs.Prelude.{All, Contains, filter_map}
use Rattle.std.specs.List.{AllByRecursion as Each, cons_option}
use Rattle.std.proofs.lemmas.List.Elements.{All-from_recursion, filter_map-append}
use Rattle.flat_model.specs.Machine.Count.{value_of}
use Rattle.flat_model.specs.Machine.Event.{Event, Reply, IsBytes, IsEvent, Open, Bind, Receive, Comes, Transmit, Received, Counted}
use Rattle.flat_model.specs.Machine.Ledger.{exact_ledger}
use Rattle.flat_model.specs.Machine.State.{IsConfig, boot}
use Rattle.flat_model.specs.Machine.Step.{Step}
use Rattle.flat_model.specs.Runs.Run.{Turn, Run}
use Rattle.flat_model.specs.declared.address.Addr.{Addr}
use Rattle.flat_model.specs.declared.config.Config.{Config}
use Rattle.flat_model.specs.declared.counter.Counter.TheVariants.{IpLocalout}
use Rattle.flat_model.specs.declared.counters.Counters.{Counters}
use Rattle.flat_wire.specs.Ever.{IsShortSend}
use Rattle.flat_wire.specs.Wire.{ComesFrom, WasSent, given, packet_in, packet_out}
use Rattle.net_stack.specs.Stack.{StackView, state_of}
use Rattle.net_stack.specs.Runs.{AreCalls, IsTurnOf}
use Rattle.net_stack.specs.Wire.{AreOnOneWire, AreOnOneWireWhole}
use Rattle.callers.specs.declared.laws_on_a_wire.TheConstants.{FIRST, SECOND, SOCKET, PORT}
use Rattle.callers.specs.Received.{AreShort, HasGiven, IsReceivedInOrder, packet_comes, events, receives, send_event}

pub then_calls : (a b c : StackView) (xs ys : List Turn) → AreCalls a xs b → AreCalls b ys c → AreCalls a (xs ++ ys) c
then_calls a b c [] ys same later = subst (λ (s : StackView). AreCalls s ys c) same later
then_calls a b c (x ∷ xs) ys (is, mid, call, rest) later = (is, mid, call, then_calls mid b c xs ys rest later)

pub one_call : (s u : StackView) (turn : Turn) → AreCalls s (turn ∷ []) u → IsEvent turn.event × IsTurnOf s turn u
one_call s u turn (is, mid, step, same) = (is, subst (λ m. IsTurnOf s turn m) (sym same) step)

-- the step of a `tx`, and the packet in its reply
pub given_step : (a b : StackView) (p : List ℕ) (g : HasGiven a b p)
    → Step (state_of a) Transmit g.turn.reply (state_of b)
given_step a b p g =
    subst (λ event. Step (state_of a) event g.turn.reply (state_of b)) g.is_tx (one_call a b g.turn g.calls).1

pub given_packet : (a b : StackView) (p : List ℕ) (g : HasGiven a b p) → 16 ≤ length p
    → given Transmit g.turn.reply ≡ Some p
given_packet a b p g long = subst (λ event. given event g.turn.reply ≡ Some p) g.is_tx (g.out long)

-- a packet that one turn gave to the link is among those of all turns, whatever the turns before it gave
pub given_here : (turn : Turn) (turns : List Turn) (packet : List ℕ) → packet_out turn ≡ Some packet
    → Contains (filter_map packet_out (turn ∷ turns)) packet
given_here turn turns packet is =
    subst (λ (o : Option (List ℕ)). Contains (cons_option o (filter_map packet_out turns)) packet) (sym is)
    (0, omega arith, refl)

pub given_later : (turn : Turn) (turns : List Turn) (packet : List ℕ) → Contains (filter_map packet_out turns) packet
    → Contains (filter_map packet_out (turn ∷ turns)) packet
given_later turn turns packet has = go (packet_out turn)
  where
    go : (o : Option (List ℕ)) → Contains (cons_option o (filter_map packet_out turns)) packet
    go None = has
    go (Some other) = (suc has.0, omega (arith, has.1), has.2)

-- a list whose elements are below 256 is a list of bytes
pub are_bytes : (xs : List ℕ) → ((k : ℕ) → get_or xs k 0 < 256) → IsBytes xs
are_bytes xs fits = All-from_recursion (λ byte. byte < 256) xs (go xs fits)
  where
    go : (ys : List ℕ) → ((k : ℕ) → get_or ys k 0 < 256) → Each (λ byte. byte < 256) ys
    go [] f = tt
    go (y ∷ ys) f = (f 0, go ys (λ k. f (suc k)))

-- the counters in a reply, or these if it has none
abbrev shown_or : Counters → Reply → Counters
shown_or other (Counted counters) = counters
shown_or other _ = other

pub counted : (c d : Counters) → Counted c ≡ Counted d → c ≡ d
counted c d is = ap (shown_or c) is

-- ---- what the second host received

-- the laws that are cited, as their functions state them
abbrev pub CallsLaw : Type 0
CallsLaw =
    (config : Config) (first last : StackView) (turns : List Turn) → state_of first ≡ boot config
    → AreCalls first turns last → Run config turns (state_of last)

abbrev pub ReceivedBy : Type 0
ReceivedBy =
    (first second : Config) (sent before after : List Turn) (s t : StackView) (fd most : ℕ) (sender : Addr)
    (bytes : List ℕ)
    → AreOnOneWire first second sent
    (before ++ record { event = Receive fd most; reply = Received sender bytes } ∷ after) s t → sender.ip ≡ first.addr
    → WasSent exact_ledger exact_ledger first second sent before (state_of s) fd most sender bytes

abbrev pub ReceivedWhole : Type 0
ReceivedWhole =
    (first second : Config) (sent before after : List Turn) (s t : StackView) (fd most : ℕ) (sender : Addr)
    (bytes : List ℕ)
    → AreOnOneWireWhole first second sent
    (before ++ record { event = Receive fd most; reply = Received sender bytes } ∷ after) s t → sender.ip ≡ first.addr
    → WasSent exact_ledger exact_ledger first second sent before (state_of s) fd most sender bytes

-- what holds of each event holds of each turn
of_events : (P : Event → Type 0) (turns : List Turn) → Each P (events turns)
    → Each (λ (turn : Turn). P turn.event) turns
of_events P [] h = tt
of_events P (turn ∷ turns) h = (h.0, of_events P turns h.1)

-- no packet arrives by a call that receives
came_before : (before : List Turn) (most : ℕ) (reply : Reply)
    → filter_map packet_in (before ++ receives most reply ∷ []) ≡ filter_map packet_in before
came_before before most reply =
    filter_map-append packet_in before (receives most reply ∷ []) ∙ append-nil (filter_map packet_in before)

-- ---- the calls of the two hosts

-- all calls of each, from its boot on
pub record AreBoth (a s b mid : StackView) (lost late early : List ℕ) : Type 0 where
  pub sent : List Turn
  pub before : List Turn
  pub late_packet : List ℕ
  pub early_packet : List ℕ
  pub first_starts : state_of a ≡ boot FIRST
  pub second_starts : state_of b ≡ boot SECOND
  pub first_calls : AreCalls a sent s
  pub second_calls : AreCalls b before mid
  pub first_events : events sent
      ≡ Open ∷ send_event lost ∷ send_event late ∷ send_event early ∷ Transmit ∷ Transmit ∷ Transmit ∷ []
  pub second_events : events before
      ≡ Open ∷ Bind SOCKET (record { ip = 0; port = PORT }) ∷ Comes early_packet ∷ Comes late_packet
      ∷ Comes early_packet ∷ []
  pub came : Each (λ packet. ComesFrom FIRST.addr packet → Contains (filter_map packet_out sent) packet)
      (filter_map packet_in before)

-- one send, with its reply
abbrev pub IsSend : StackView → StackView → List ℕ → Type 0
IsSend old new bytes = (reply : Reply) × AreCalls old (record { event = send_event bytes; reply = reply } ∷ []) new

pub both : (a a1 b b1 b2 : StackView) {a2 a3 a4 a5 a6 s b3 b4 mid : StackView} {opened bound opened' : Reply}
    {lost late early lost_packet late_packet early_packet : List ℕ}
    → state_of a ≡ boot FIRST → Step (state_of a) Open opened (state_of a1) → IsSend a1 a2 lost → IsSend a2 a3 late
    → IsSend a3 a4 early
    → HasGiven a4 a5 lost_packet → HasGiven a5 a6 late_packet → HasGiven a6 s early_packet
    → state_of b ≡ boot SECOND → Step (state_of b) Open opened' (state_of b1)
    → Step (state_of b1) (Bind SOCKET (record { ip = 0; port = PORT })) bound (state_of b2)
    → AreCalls b2 (packet_comes early_packet ∷ []) b3 → AreCalls b3 (packet_comes late_packet ∷ []) b4
    → AreCalls b4 (packet_comes early_packet ∷ []) mid
    → AreBoth a s b mid lost late early
both a a1 b b1 b2 {a2} {a3} {a4} {a5} {a6} {s} {b3} {b4} {mid} {opened} {bound} {opened'} {lost} {late} {early}
    {lost_packet} {late_packet} {early_packet} starts opens first second third gave_lost gave_late gave_early starts'
    opens' binds comes_early comes_late again =
    let lost_turn : Turn = record { event = send_event lost; reply = first.0 } in
    let late_turn : Turn = record { event = send_event late; reply = second.0 } in
    let early_turn : Turn = record { event = send_event early; reply = third.0 } in
    let given : List Turn = gave_lost.turn ∷ gave_late.turn ∷ gave_early.turn ∷ [] in
    let sending : List Turn = lost_turn ∷ late_turn ∷ early_turn ∷ given in
    let coming : List Turn = packet_comes early_packet ∷ packet_comes late_packet ∷ packet_comes early_packet ∷ [] in
    let port : Event = Bind SOCKET (record { ip = 0; port = PORT }) in
    let early_out : 16 ≤ length early_packet → Contains (filter_map packet_out given) early_packet =
    λ long. given_later gave_lost.turn (gave_late.turn ∷ gave_early.turn ∷ []) early_packet
    (given_later gave_late.turn (gave_early.turn ∷ []) early_packet
    (given_here gave_early.turn [] early_packet (gave_early.out long))) in
    let late_out : 16 ≤ length late_packet → Contains (filter_map packet_out given) late_packet =
    λ long. given_later gave_lost.turn (gave_late.turn ∷ gave_early.turn ∷ []) late_packet
    (given_here gave_late.turn (gave_early.turn ∷ []) late_packet (gave_late.out long)) in
    let given_calls : AreCalls a4 given s =
    then_calls a4 a5 s (gave_lost.turn ∷ []) (gave_late.turn ∷ gave_early.turn ∷ []) gave_lost.calls
    (then_calls a5 a6 s (gave_late.turn ∷ []) (gave_early.turn ∷ []) gave_late.calls gave_early.calls) in
    let sends : AreCalls a1 sending s =
    then_calls a1 a2 s (lost_turn ∷ []) (late_turn ∷ early_turn ∷ given) first.1
    (then_calls a2 a3 s (late_turn ∷ []) (early_turn ∷ given) second.1
    (then_calls a3 a4 s (early_turn ∷ []) given third.1 given_calls)) in
    let came : AreCalls b2 coming mid =
    then_calls b2 b3 mid (packet_comes early_packet ∷ []) (packet_comes late_packet ∷ packet_comes early_packet ∷ [])
    comes_early
    (then_calls b3 b4 mid (packet_comes late_packet ∷ []) (packet_comes early_packet ∷ []) comes_late again) in
    record {
      sent = record { event = Open; reply = opened } ∷ sending;
      before = record { event = Open; reply = opened' } ∷ record { event = port; reply = bound } ∷ coming;
      late_packet = late_packet;
      early_packet = early_packet;
      first_starts = starts;
      second_starts = starts';
      first_calls = (tt, a1, opens, sends);
      second_calls = (tt, b1, opens', (record { ip = omega arith; port = omega arith }, b2, binds, came));
      first_events =
          λ i. Open ∷ send_event lost ∷ send_event late ∷ send_event early ∷ gave_lost.is_tx i ∷ gave_late.is_tx i
          ∷ gave_early.is_tx i ∷ [];
      second_events = refl;
      came = (λ from. early_out from.long, (λ from. late_out from.long, (λ from. early_out from.long, tt)));
    }

pub all_received : (calls : CallsLaw) (received : ReceivedBy) (whole : ReceivedWhole) → IsConfig FIRST → IsConfig SECOND
    → {a s b mid : StackView} (t : StackView) {lost late early : List ℕ} → AreBoth a s b mid lost late early
    → {most count : ℕ} {reply : Reply} → Step (state_of mid) (Receive SOCKET most) reply (state_of t)
    → value_of IpLocalout s.counters ≡ count → IsReceivedInOrder lost late early most count reply
all_received calls received whole boots_first boots_second {a} {s} {b} {mid} t {lost} {late} {early} w {most} {count}
    {reply} last counts = record {
      sent = w.sent;
      before = w.before;
      s = s;
      t = t;
      late_packet = w.late_packet;
      early_packet = w.early_packet;
      first_calls = w.first_events;
      second_calls = w.second_events;
      first_runs = calls FIRST a s w.sent w.first_starts w.first_calls;
      second_runs = calls SECOND b t (w.before ++ receives most reply ∷ []) w.second_starts all;
      counts = counts;
      wire = on_wire;
      was_sent = λ few sender bytes is from.
          received FIRST SECOND w.sent w.before [] s t SOCKET most sender bytes
          (subst (λ (r : Reply). AreOnOneWire FIRST SECOND w.sent (w.before ++ receives most r ∷ []) s t) is
          (on_wire few)) from;
      was_sent_whole = λ short sender bytes is from.
          whole FIRST SECOND w.sent w.before [] s t SOCKET most sender bytes
          (subst (λ (r : Reply). AreOnOneWireWhole FIRST SECOND w.sent (w.before ++ receives most r ∷ []) s t) is
          (on_wire_whole short)) from;
    }
  where
    all : AreCalls b (w.before ++ receives most reply ∷ []) t
    all = then_calls b mid t w.before (receives most reply ∷ []) w.second_calls (tt, t, last, refl)

    came_all : All (λ packet. ComesFrom FIRST.addr packet → Contains (filter_map packet_out w.sent) packet)
        (filter_map packet_in (w.before ++ receives most reply ∷ []))
    came_all =
        subst (All (λ packet. ComesFrom FIRST.addr packet → Contains (filter_map packet_out w.sent) packet))
        (sym (came_before w.before most reply))
        (All-from_recursion (λ packet. ComesFrom FIRST.addr packet → Contains (filter_map packet_out w.sent) packet)
        (filter_map packet_in w.before) w.came)

    on_wire : count < 2 ^ 16 → AreOnOneWire FIRST SECOND w.sent (w.before ++ receives most reply ∷ []) s t
    on_wire few = record {
      first_boots = boots_first;
      second_boots = boots_second;
      first_start = a;
      second_start = b;
      first_starts = w.first_starts;
      second_starts = w.second_starts;
      first_calls = w.first_calls;
      second_calls = all;
      not_addr = omega arith;
      not_bcast = omega arith;
      few = omega (arith, counts, few);
      wire = came_all;
    }

    on_wire_whole : AreShort lost late early
        → AreOnOneWireWhole FIRST SECOND w.sent (w.before ++ receives most reply ∷ []) s t
    on_wire_whole short = record {
      first_boots = boots_first;
      second_boots = boots_second;
      first_start = a;
      second_start = b;
      first_starts = w.first_starts;
      second_starts = w.second_starts;
      first_calls = w.first_calls;
      second_calls = all;
      not_addr = omega arith;
      not_bcast = omega arith;
      whole =
          All-from_recursion (λ (turn : Turn). IsShortSend FIRST.mtu turn.event) w.sent
          (of_events (IsShortSend FIRST.mtu) w.sent
          (subst (Each (IsShortSend FIRST.mtu)) (sym w.first_events)
          (tt, (short.first, (short.second, (short.third, (tt, (tt, (tt, tt)))))))));
      wire = came_all;
    }

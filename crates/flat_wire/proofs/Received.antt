-- What a machine's `recvfrom` returns was queued before, so the law of two machines says who sent it.
use Rattle.std.proofs.Common.{◌≡◌, ℕ, Bool, List, [], ◌∷◌, ◌++◌, refl, sym, ◌∙◌, ap, subst, Some}
use Rattle.std.specs.Prelude.{◌==◌, ⊤, filter_map, find, take, All, Contains}
use Rattle.std.specs.List.{AllByRecursion as Each}
use Rattle.std.proofs.lemmas.List.{append_assoc}
use Rattle.std.proofs.lemmas.List.Elements.{All-from_recursion, recursion_from_All, All-contains_itself, All-head, filter_map-append}
use Rattle.flat_model.specs.Machine.Event.{Reply, Receive, Received}
use Rattle.flat_model.specs.Machine.State.{State, Socket, Datagram, boot, socket_at}
use Rattle.flat_model.specs.declared.address.Addr.{Addr}
use Rattle.flat_model.specs.declared.config.Config.{Config}
use Rattle.flat_model.specs.Machine.Ledger.{Ledger}
use Rattle.flat_model.specs.Runs.Run.{Turn, Leads}
use Rattle.flat_model.specs.Machine.Step.{StepBy}
use Rattle.flat_model.specs.Machine.Calls.{Receives}
use Rattle.flat_wire.specs.Wire.{packet_in, packet_out, ComesFrom, IsAnswered, WasSent, ReceivedLaw}
use Rattle.flat_model.proofs.Laws.{by_case, each-find}
use Rattle.flat_wire.specs.Trail.{trail_turns}
use Rattle.flat_wire.specs.Ever.{AreAllSent, ReceivedLawForEver, ReceivedLawOfWhole}
use Rattle.flat_wire.proofs.Law.{wire_law_lem, whole_law_lem}
use Rattle.flat_wire.proofs.ForEver.{wire_law_for_ever_lem}

each-front : {X : Type 0} (P : X → Type 0) (xs ys : List X) → Each P (xs ++ ys) → Each P xs
each-front P [] ys h = tt
each-front P (x ∷ xs) ys h = (h.0, each-front P xs ys h.1)

all-front : {X : Type 0} (P : X → Type 0) (xs ys : List X) → All P (xs ++ ys) → All P xs
all-front P xs ys h = All-from_recursion P xs (each-front P xs ys (recursion_from_All P (xs ++ ys) h))

found_is_there : {X : Type 0} (p : X → Bool) (xs : List X) (x : X) → find p xs ≡ Some x → Contains xs x
found_is_there p xs x e =
    (each-find (Contains xs) p xs x (recursion_from_All (Contains xs) xs (All-contains_itself xs)) e).0

-- a run of turns goes through the state between two of them
leads_parts : (L : Ledger) (old new : State) (before rest : List Turn) → Leads L old (before ++ rest) new
    → (mid : State) × Leads L old before mid × Leads L mid rest new
leads_parts L old new [] rest l = (old, refl, l)
leads_parts L old new (turn ∷ before) rest l =
    let later = leads_parts L l.1 new before rest l.3 in
    (later.0, (l.0, l.1, l.2, later.1), later.2)

-- a reply with a datagram that `recvfrom` returned
abbrev IsReceived : Reply → Type 0
IsReceived (Received sender bytes) = ⊤
IsReceived _ = ⊥

abbrev sender_of : Reply → Addr
sender_of (Received sender bytes) = sender
sender_of _ = record { ip = 0; port = 0 }

abbrev bytes_of : Reply → List ℕ
bytes_of (Received sender bytes) = bytes
bytes_of _ = []

-- the datagram that `recvfrom` returned waited in the socket's queue
record Waited (fd most : ℕ) (old : State) (sender : Addr) (bytes : List ℕ) : Type 0 where
  me : Socket
  datagram : Datagram
  found : socket_at fd old ≡ Some me
  in_queue : Contains me.queue datagram
  sender_is : sender ≡ datagram.sender
  bytes_are : bytes ≡ take most datagram.item.bytes

waited : (L : Ledger) (fd most : ℕ) (old new : State) (sender : Addr) (bytes : List ℕ)
    → StepBy L old (Receive fd most) (Received sender bytes) new → Waited fd most old sender bytes
waited L fd most old new sender bytes step = by_case step
    (λ none r. absurd (subst IsReceived r.0 tt))
    (λ me found r. of_queue me found me.queue refl r)
  where
    of_queue : (me : Socket) → socket_at fd old ≡ Some me → (queue : List Datagram) → me.queue ≡ queue
        → Receives fd most queue old (Received sender bytes) new → Waited fd most old sender bytes
    of_queue me found [] is r = absurd (subst IsReceived r.0 tt)
    of_queue me found (d ∷ later) is r = record {
      me = me;
      datagram = d;
      found = found;
      in_queue =
          subst (λ queue. Contains queue d) (sym is)
          (All-head (Contains (d ∷ later)) d later (All-contains_itself (d ∷ later)));
      sender_is = ap sender_of r.0;
      bytes_are = ap bytes_of r.0;
    }

-- what each queue has was sent, so what `recvfrom` returned was sent
module _ (L M : Ledger) (first second : Config) (sent before after : List Turn) (s t : State) (fd most : ℕ)
    (sender : Addr) (bytes : List ℕ) where
  abbrev turn : Turn
  turn = record { event = Receive fd most; reply = Received sender bytes }

  returned : (old : State) → Leads M (boot second) before old
      → ((new : State) × StepBy M old (Receive fd most) (Received sender bytes) new)
      → AreAllSent L first second sent s old → sender.ip ≡ first.addr
      → WasSent L M first second sent before s fd most sender bytes
  returned old leads step queues from =
      let was : Waited fd most old sender bytes = waited M fd most old step.0 sender bytes step.1 in
      let law = queues was.me was.datagram
      (found_is_there (λ (socket : Socket). socket.fd == fd) old.sockets was.me was.found) was.in_queue
      (ap (λ (a : Addr). a.ip) (sym was.sender_is) ∙ from) in
      record {
        whole = was.datagram.item.bytes;
        bytes_are = was.bytes_are;
        to = law.0;
        answered =
            subst (λ (a : Addr). IsAnswered L first sent s a.port law.0 was.datagram.item.bytes) (sym was.sender_is)
            law.1;
        here = law.3;
        then' = old;
        leads = leads;
        me = was.me;
        found = was.found;
        to_port = law.2;
      }

  pub received : Leads M (boot second) (before ++ turn ∷ after) t
      → ((old : State) → Leads M (boot second) before old → AreAllSent L first second sent s old)
      → sender.ip ≡ first.addr → WasSent L M first second sent before s fd most sender bytes
  received runs queues from =
      let parts = leads_parts M (boot second) t before (turn ∷ after) runs in
      returned parts.0 parts.1 (parts.2.1, parts.2.2) (queues parts.0 parts.1) from

-- the packets that arrived earlier
module _ (address : ℕ) (sent before after : List Turn) where
  abbrev IsGiven : List ℕ → Type 0
  IsGiven packet = ComesFrom address packet → Contains (filter_map packet_out sent) packet

  came_before : All IsGiven (filter_map packet_in (before ++ after)) → All IsGiven (filter_map packet_in before)
  came_before all =
      all-front IsGiven (filter_map packet_in before) (filter_map packet_in after)
      (subst (All IsGiven) (filter_map-append packet_in before after) all)

pub received_law_lem : (L M : Ledger) → ReceivedLaw L M
received_law_lem L M first second sent before after s t fd most sender bytes w from =
    received L M first second sent before after s t fd most sender bytes w.second_runs
    (λ old runs. wire_law_lem L M first second sent before s old (record {
      first_boots = w.first_boots;
      second_boots = w.second_boots;
      first_runs = w.first_runs;
      second_runs = runs;
      not_addr = w.not_addr;
      not_bcast = w.not_bcast;
      few = w.few;
      wire = came_before first.addr sent before (record { event = Receive fd most; reply = Received sender bytes } ∷
          after) w.wire;
    })) from

pub received_of_whole_lem : (L M : Ledger) → ReceivedLawOfWhole L M
received_of_whole_lem L M first second sent before after s t fd most sender bytes w from =
    received L M first second sent before after s t fd most sender bytes w.second_runs
    (λ old runs. whole_law_lem L M first second sent before s old (record {
      first_boots = w.first_boots;
      second_boots = w.second_boots;
      first_runs = w.first_runs;
      second_runs = runs;
      not_addr = w.not_addr;
      not_bcast = w.not_bcast;
      whole = w.whole;
      wire = came_before first.addr sent before (record { event = Receive fd most; reply = Received sender bytes } ∷
          after) w.wire;
    })) from

pub received_for_ever_lem : (L M : Ledger) → ReceivedLawForEver L M
received_for_ever_lem L M first second sent before after s t born fd most sender bytes w from =
    received L M first second (trail_turns sent) before after s t fd most sender bytes w.second_runs
    (λ old runs. wire_law_for_ever_lem L M first second sent before s old born (record {
      first_boots = w.first_boots;
      second_boots = w.second_boots;
      first_runs = w.first_runs;
      second_runs = runs;
      not_addr = w.not_addr;
      not_bcast = w.not_bcast;
      wire = λ b a turn packet is. w.wire b (a ++ rest) turn packet (longer b a turn is);
      near = λ b between a one other meet. w.near b between (a ++ rest) one other (record {
        came_are = longer_two b between a one other meet.came_are;
        first = meet.first;
        second = meet.second;
        soon = meet.soon;
      });
    })) from
  where
    rest : List Turn
    rest = record { event = Receive fd most; reply = Received sender bytes } ∷ after

    longer : (b a : List Turn) (turn : Turn) → before ≡ b ++ turn ∷ a → before ++ rest ≡ b ++ turn ∷ (a ++ rest)
    longer b a turn is = ap (λ ts. ts ++ rest) is ∙ append_assoc b (turn ∷ a) rest

    longer_two : (b between a : List Turn) (one other : Turn) → before ≡ b ++ one ∷ (between ++ other ∷ a)
        → before ++ rest ≡ b ++ one ∷ (between ++ other ∷ (a ++ rest))
    longer_two b between a one other is =
        longer b (between ++ other ∷ a) one is
        ∙ ap (λ ts. b ++ one ∷ ts) (append_assoc between (other ∷ a) rest)

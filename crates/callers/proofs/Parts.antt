-- The two packets of a send by the first host are the two parts of its datagram.
use Rattle.std.proofs.Common.{◌≡◌, ◌⊎◌, inl, inr, ℕ, ◌≤◌, List, [], ◌∷◌, ◌++◌, length, map, take, refl, sym, ap, ◌∙◌, subst, arith, Option, Some, None, cond, Bool, true, false}
use Rattle.std.specs.Prelude.{find}
use Rattle.std.proofs.lemmas.Bool.{ltb-false}
use Rattle.std.proofs.lemmas.List.{take-map}
use Rattle.std.proofs.lemmas.Option.{none-some, same_Some}
use Rattle.params.specs.declared.TheConstants.{OUTPUT_QUEUE_PACKETS}
use Rattle.flat_model.specs.Amounts.Layout.{LayoutEntry, Need, entries_on, sent}
use Rattle.flat_model.specs.Amounts.Weight.{Item, Weight, nothing}
use Rattle.flat_model.specs.Fragments.Cuts.{Part}
use Rattle.flat_model.specs.Machine.Arrival.{AllArrive}
use Rattle.flat_model.specs.Machine.Calls.{GetsPort, is_ours, new_socket, port_after, source_for}
use Rattle.flat_model.specs.Machine.Event.{Reply, Open, Bind, Transmit, Counted, Given}
use Rattle.flat_model.specs.Machine.Ledger.{HasBuffers, exact_ledger}
use Rattle.flat_model.specs.Machine.Send as Send
use Rattle.flat_model.specs.Machine.Send.{enqueued, send_faults, spent, target, to_link, to_self}
use Rattle.flat_model.specs.Machine.Sending.{Sending, items, later_weight, packet_for, packets, parts_of}
use Rattle.flat_model.specs.Machine.State.{Socket, State, boot, is_key}
use Rattle.flat_model.specs.Machine.Step.{Step, Transmits}
use Rattle.flat_model.specs.Runs.Consistent.{IsConsistent}
use Rattle.flat_model.specs.declared.address.Addr.{Addr}
use Rattle.flat_model.specs.declared.config.Config.{Config}
use Rattle.flat_model.specs.declared.counter.Counter.{Counter}
use Rattle.flat_model.specs.declared.counters.Counters.{Counters}
use Rattle.flat_model.specs.declared.counter.Counter.TheVariants.{IpReclaimed, Nobufs}
use Rattle.flat_model.proofs.Laws.{by_case, by_choice, none_passed}
use Rattle.flat_wire.specs.Progress.{IsSending, key_for, parts}
use Rattle.flat_wire.specs.Queue.{packets_in_queue}
use Rattle.flat_wire.specs.Wire.{given}
use Rattle.net_stack.specs.Runs.{AreCalls}
use Rattle.net_stack.specs.Stack.{StackView, state_of}
use Rattle.callers.specs.declared.laws_on_a_wire.TheConstants.{FIRST, SECOND, SOCKET, PORT}
use Rattle.callers.specs.Parts.{HasSocket, IsDatagramPassed, IsFresh, IsUnchanged}
use Rattle.callers.specs.Received.{HasGiven, send_event}
use Rattle.callers.specs.Runs.{AreTwoParts, IsReceivedUnlessLacking, arrives}
use Rattle.callers.proofs.Calls.{counted, given_packet, given_step, one_call}

abbrev pub second_port : Addr
second_port = record { ip = SECOND.addr; port = PORT }

abbrev pub one_socket : ℕ → State
one_socket fd = record (boot FIRST) { sockets = new_socket fd ∷ [] }

-- ---- the send

-- the packets of a send that wait, after nothing waited
pub record HasPackets (bytes : List ℕ) (new : State) : Type 0 where
  pub sending : Sending
  pub bytes_are : sending.bytes ≡ bytes
  pub from : sending.source ≡ FIRST.addr
  pub to : sending.to ≡ second_port
  pub is : IsSending sending FIRST.mtu
  pub queue : packets_in_queue new.output
      ≡ take OUTPUT_QUEUE_PACKETS (map (packet_for sending) (parts sending FIRST.mtu))

bytes_of_items : (entries : List LayoutEntry) (f : Part → List ℕ) (ps : List Part)
    → packets_in_queue (items entries f ps) ≡ map f ps
bytes_of_items entries f [] = refl
bytes_of_items entries f (p ∷ later) = ap (λ rest. f p ∷ rest) (go later)
  where
    go : (qs : List Part)
        → packets_in_queue (map (λ q. record { bytes = f q; weight = later_weight entries q }) qs) ≡ map f qs
    go [] = refl
    go (q ∷ qs) = ap (λ rest. f q ∷ rest) (go qs)

abbrev K : State → Type 0
K s = (s.output ≡ []) × (s.next_id ≡ FIRST.first_id) × (s.last_port ≡ None) × (s.config ≡ FIRST)

tested : (old new : State) (held : Weight) (n : Need) (answer : Bool) → K old
    → HasBuffers exact_ledger old held n answer new → K new
tested old new held n true k (inl a) = subst K (sym a.1) k
tested old new held n true k (inr a) = subst K (sym a.1) k
tested old new held n false k a = subst K (sym a.1) k

found : (x me : Socket) (b : Bool) → cond b (Some x) None ≡ Some me → x ≡ me
found x me true e = same_Some x me e
found x me false e = absurd (none-some me e)

leaves : (fd : ℕ) (bytes : List ℕ) (mid new : State) (reply : Reply) → length bytes ≤ 9216 → K mid
    → Send.Goes exact_ledger SOCKET (new_socket fd) second_port bytes mid reply new → HasPackets bytes new
leaves fd bytes mid new reply short k (port, named, clusters, gets, taken, goes) =
    let x : Sending = record {
      id = mid.next_id;
      source = source_for mid.config (new_socket fd) SECOND.addr;
      to = second_port;
      port = port;
      bytes = bytes;
    } in
    let out : List Item = packets named.config clusters x in
    let config : named.config ≡ FIRST = ap (λ (s : State). s.config) gets.1 ∙ k.3 in
    let gone : State =
    enqueued (to_link named.config SECOND.addr out) (spent SOCKET port (parts_of named.config x) named) in
    let none : to_self named.config SECOND.addr out ≡ [] = ap (λ c. to_self c SECOND.addr out) config in
    let is : new ≡ gone = subst (λ found. AllArrive exact_ledger found gone new) none goes.0 in
    let link : to_link named.config SECOND.addr out ≡ packets FIRST clusters x =
    ap (λ c. to_link c SECOND.addr (packets c clusters x)) config in
    let queue : new.output ≡ take OUTPUT_QUEUE_PACKETS (packets FIRST clusters x) =
    ap (λ (s : State). s.output) is
    ∙ ap (λ xs. take OUTPUT_QUEUE_PACKETS (named.output ++ xs)) link
    ∙ ap (λ xs. take OUTPUT_QUEUE_PACKETS (xs ++ packets FIRST clusters x))
    (ap (λ (s : State). s.output) gets.1 ∙ k.0) in
    record {
      sending = x;
      bytes_are = refl;
      from = ap (λ c. source_for c (new_socket fd) SECOND.addr) k.3;
      to = refl;
      is = record {
        id = omega (arith, k.1);
        source = omega (arith, ap (λ c. source_for c (new_socket fd) SECOND.addr) k.3);
        from_port = omega (arith, gets.0.here, ap (λ last. port_after last gets.0.turns) k.2);
        to_port = omega arith;
        short = short;
        low = omega arith;
      };
      queue =
          ap packets_in_queue queue
          ∙ sym (take-map (λ (item : Item). item.bytes) OUTPUT_QUEUE_PACKETS (packets FIRST clusters x))
          ∙ ap (take OUTPUT_QUEUE_PACKETS)
          (bytes_of_items (entries_on clusters (sent (length bytes))) (packet_for x) (parts x FIRST.mtu));
    }

pub sends : (fd : ℕ) (bytes : List ℕ) (new : State) (reply : Reply)
    → Step (one_socket fd) (send_event bytes) reply new → (new.output ≡ []) ⊎ HasPackets bytes new
sends fd bytes new reply step = by_case step
    (λ e r. inl (ap (λ (s : State). s.output) r.1))
    (λ me at h. by_case h
    (λ e (answer, mid, a, rest).
    let passed = none_passed (send_faults (one_socket fd) me (Some second_port) (length bytes)) e in
    let k : K mid = tested (one_socket fd) mid nothing (Send.need_to FIRST SECOND.addr (length bytes)) answer
    (refl, refl, refl, refl) a in
    by_choice rest
    (λ e goes. inr (leaves fd bytes mid new reply (ltb-false _ _ passed.1.0) k
    (subst (λ m. Send.Goes exact_ledger SOCKET m second_port bytes mid reply new)
    (sym (found (new_socket fd) me _ at)) goes)))
    (λ e r. inl (ap (λ (s : State). s.output) r.1 ∙ k.0)))
    (λ errno e r. inl (ap (λ (s : State). s.output) r.1)))

-- ---- what the link takes

took : (old new : State) (reply : Reply) (p : List ℕ) → Transmits old.output old reply new
    → given Transmit reply ≡ Some p → packets_in_queue old.output ≡ p ∷ packets_in_queue new.output
took old new reply p h is = go old.output refl h
  where
    go : (output : List Item) → old.output ≡ output → Transmits output old reply new
        → packets_in_queue old.output ≡ p ∷ packets_in_queue new.output
    go [] e t = absurd (none-some p (sym (ap (given Transmit) t.0) ∙ is))
    go (item ∷ later) e t =
        ap packets_in_queue e
        ∙ ap (λ first. first ∷ packets_in_queue later)
        (same_Some item.bytes p (sym (ap (given Transmit) t.0) ∙ is))
        ∙ ap (λ (s : State). p ∷ packets_in_queue s.output) (sym t.1)

drained : (old new : State) → Transmits old.output old (Given None) new → old.output ≡ []
drained old new h = go old.output refl h
  where
    go : (output : List Item) → old.output ≡ output → Transmits output old (Given None) new → old.output ≡ []
    go [] e t = e
    go (item ∷ later) e t = absurd (none-some item.bytes (ap (given Transmit) t.0))

record HasTwo (f : Part → List ℕ) (ps : List Part) (one two : List ℕ) : Type 0 where
  first : Part
  second : Part
  are : ps ≡ first ∷ second ∷ []
  one_is : one ≡ f first
  two_is : two ≡ f second

two_parts : (f : Part → List ℕ) (ps : List Part) (one two : List ℕ)
    → take OUTPUT_QUEUE_PACKETS (map f ps) ≡ one ∷ two ∷ [] → HasTwo f ps one two
two_parts f [] one two e = cc
two_parts f (a ∷ []) one two e = cc
two_parts f (a ∷ b ∷ []) one two e =
    let first : f a ≡ one = cc in
    let second : f b ≡ two = cc in
    record { first = a; second = b; are = refl; one_is = sym first; two_is = sym second }
two_parts f (a ∷ b ∷ c ∷ more) one two e = cc

-- ---- both parts

pub record HasParts (bytes : List ℕ) (t : State) (one two : List ℕ) : Type 0 where
  pub parts : AreTwoParts t one two
  pub bytes_are : parts.sending.bytes ≡ bytes
  pub from : parts.sending.source ≡ FIRST.addr
  pub to : parts.sending.to ≡ second_port

pub has_parts : (fd : ℕ) (bytes one two : List ℕ) (s0 s1 s2 s3 t : State) (reply first second : Reply)
    → Step (one_socket fd) (send_event bytes) reply s0 → Step s0 Transmit first s1 → given Transmit first ≡ Some one
    → Step s1 Transmit second s2 → given Transmit second ≡ Some two → Step s2 Transmit (Given None) s3
    → t.config ≡ SECOND → t.unfinished ≡ [] → IsConsistent t → HasParts bytes t one two
has_parts fd bytes one two s0 s1 s2 s3 t reply first second sent one_out one_is two_out two_is all config none is =
    go (sends fd bytes s0 reply sent)
  where
    waited : packets_in_queue s0.output ≡ one ∷ two ∷ []
    waited =
        took s0 s1 first one one_out one_is ∙ ap (λ ps. one ∷ ps) (took s1 s2 second two two_out two_is)
        ∙ ap (λ xs. one ∷ two ∷ packets_in_queue xs) (drained s2 s3 all)

    go : (s0.output ≡ []) ⊎ HasPackets bytes s0 → HasParts bytes t one two
    go (inl e) = absurd (omega (arith, ap length (sym (ap packets_in_queue e) ∙ waited)))
    go (inr h) =
        let two = two_parts (packet_for h.sending) (parts h.sending FIRST.mtu) one two (sym h.queue ∙ waited) in
        record {
          parts = record {
            sending = h.sending;
            mtu = FIRST.mtu;
            is = h.is;
            one = two.first;
            two = two.second;
            are = two.are;
            first_is = two.one_is;
            second_is = two.two_is;
            consistent = is;
            here = ap (λ (a : Addr). a.ip) h.to ∙ sym (ap (λ (c : Config). c.addr) config);
            other = ap (λ ip. is_ours t.config ip) h.from ∙ ap (λ c. is_ours c FIRST.addr) config;
            fresh = ap (λ us. find (is_key (key_for h.sending)) us) none;
          };
          bytes_are = h.bytes_are;
          from = h.from;
          to = h.to;
        }

-- the same for the calls of the stacks
pub both_parts : (bytes one two : List ℕ) (s s0 s1 s2 s3 t : StackView) (reply : Reply) → HasSocket s
    → AreCalls s (record { event = send_event bytes; reply = reply } ∷ []) s0 → HasGiven s0 s1 one
    → HasGiven s1 s2 two → Step (state_of s2) Transmit (Given None) (state_of s3) → 16 ≤ length one → 16 ≤ length two
    → IsFresh t → IsConsistent (state_of t) → HasParts bytes (state_of t) one two
both_parts bytes one two s s0 s1 s2 s3 t reply socket sent gave_one gave_two all one_long two_long fresh is =
    has_parts socket.0 bytes one two (state_of s0) (state_of s1) (state_of s2) (state_of s3) (state_of t) reply
    gave_one.turn.reply gave_two.turn.reply
    (subst (λ old. Step old (send_event bytes) reply (state_of s0)) socket.1
    (one_call s s0 (record { event = send_event bytes; reply = reply }) sent).1)
    (given_step s0 s1 one gave_one) (given_packet s0 s1 one gave_one one_long) (given_step s1 s2 two gave_two)
    (given_packet s1 s2 two gave_two two_long) all fresh.0 fresh.1 is

pub delivered : (bytes one two : List ℕ) (old new : State) → HasParts bytes old one two
    → IsReceivedUnlessLacking one two old new → IsUnchanged IpReclaimed old.counters new.counters
    → IsUnchanged Nobufs old.counters new.counters → IsDatagramPassed bytes
delivered bytes one two old new h received reclaims buffers = record {
  sending = h.parts.sending;
  bytes_are = h.bytes_are;
  from = h.from;
  to = h.to;
  old = old;
  new = new;
  turns = arrives two ∷ arrives one ∷ [];
  completed = received h.parts reclaims.0 buffers.0 reclaims.1 buffers.1;
}

-- the counters that were read are those of the states
pub unchanged : (counter : Counter) (before after c d : Counters) → Counted before ≡ Counted c
    → Counted after ≡ Counted d → IsUnchanged counter before after → IsUnchanged counter c d
unchanged counter before after c d read_before read_after h =
    subst (λ x. IsUnchanged counter x d) (counted before c read_before)
    (subst (λ y. IsUnchanged counter before y) (counted after d read_after) h)

-- ---- the second host

abbrev Fresh : State → Type 0
Fresh s = (s.config ≡ SECOND) × (s.unfinished ≡ [])

pub opened : (old new : State) (reply : Reply) → old ≡ boot SECOND → Step old Open reply new → Fresh new
opened old new reply starts step =
    let k : Fresh old = subst Fresh (sym starts) (refl, refl) in
    by_choice step (λ e (fd, least, answer, is). subst Fresh (sym is) k) (λ e r. subst Fresh (sym r.1) k)

named : (old new : State) (local asked : Option ℕ) (port : ℕ) → Fresh old → GetsPort old local asked port new
    → Fresh new
named old new local (Some q) port k h = subst Fresh (sym h.1) k
named old new local None port k h = subst Fresh (sym h.1) k

pub bound : (fd : ℕ) (a : Addr) (old new : State) (reply : Reply) → Fresh old → Step old (Bind fd a) reply new
    → Fresh new
bound fd a old new reply k step = by_case step
    (λ e r. subst Fresh (sym r.1) k)
    (λ me at h. by_case h
    (λ e (port, chosen, g, answer, n). subst Fresh (sym n) (named old chosen _ _ port k g))
    (λ errno e r. subst Fresh (sym r.1) k))

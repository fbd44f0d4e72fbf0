-- An arrival and a send keep what each of their parts keeps.
use Rattle.std.proofs.Common.{◌≡◌, ℕ, Bool, true, false, List, [], ◌∷◌, length, map, refl, sym, ap, subst, inl, inr, Option, Some, None, cond}
use Rattle.std.specs.Prelude.{◌||◌, ◌==◌, nat_lt}
use Rattle.std.specs.List.{AllByRecursion as Each}
use Rattle.flat_model.specs.Amounts.Weight.{Weight, Item, nothing}
use Rattle.flat_model.specs.Amounts.Layout.{Need, LayoutEntry, wire, entries_on, weight_of}
use Rattle.flat_model.specs.Fragments.Cuts.{Part}
use Rattle.flat_model.specs.Packets.Header.{head_of, head_fault}
use Rattle.flat_model.specs.Machine.Count.{counts_more}
use Rattle.flat_model.specs.Machine.Event.{Reply, Send, Comes}
use Rattle.flat_model.specs.Machine.State.{State, Socket, Key, Unfinished, socket_at}
use Rattle.flat_model.specs.Machine.Calls.{source_for}
use Rattle.flat_model.specs.Machine.Ledger.{Ledger, HasBuffers}
use Rattle.flat_model.specs.Machine.Arrival as Arrival
use Rattle.flat_model.specs.Machine.Send.{to_self, enqueued, overflows, spent}
use Rattle.flat_model.specs.Machine.Sending.{Sending, packet_for, items, is_looped, later_weight}
use Rattle.flat_model.specs.Machine.Step.{StepBy}
use Rattle.flat_model.specs.declared.address.Addr.{Addr}
use Rattle.flat_model.specs.declared.config.Config.{Config}
use Rattle.flat_model.specs.declared.counter.Counter.TheVariants.{IpLocalout, IpFragmented, OutDropped}
use Rattle.flat_model.specs.declared.counters.Counters.{Counters}
use Rattle.flat_model.proofs.Laws.{by_choice, by_case}
use Rattle.flat_wire.proofs.Closed.{IsClosedBy, by_has_buffers, by_arrives, by_all}
use Rattle.flat_wire.proofs.Quiet.{gets, on_fd, refuses}

-- each packet of a send is of a kind
items_are : (Q : List ℕ → Type 0) (entries : List LayoutEntry) (x : Sending) (parts : List Part)
    → ((p : Part) → Q (packet_for x p)) → Each {X = Item} (λ item. Q item.bytes) (items entries (packet_for x) parts)
items_are Q entries x [] each = tt
items_are Q entries x (p ∷ parts) each = (each p, later parts)
  where
    later : (ps : List Part) → Each {X = Item} (λ item. Q item.bytes)
        (map (λ q. record { bytes = packet_for x q; weight = later_weight entries q }) ps)
    later [] = tt
    later (q ∷ ps) = (each q, later ps)

-- those that come back too
back_are : (Q : List ℕ → Type 0) (c : Config) (ip : ℕ) (xs : List Item) → Each {X = Item} (λ item. Q item.bytes) xs
    → Each {X = Item} (λ item. Q item.bytes) (to_self c ip xs)
back_are Q c ip xs each = go (is_looped c ip || (ip == c.bcast))
  where
    go : (b : Bool) → Each {X = Item} (λ item. Q item.bytes) (cond b xs [])
    go true = each
    go false = tt

same_config : (L : Ledger) (old mid : State) (answer : Bool) (held : Weight) (n : Need)
    → HasBuffers L old held n answer mid → mid.config ≡ old.config
same_config L old mid true held n (inl a) = ap (λ (s : State). s.config) a.1
same_config L old mid true held n (inr a) = ap (λ (s : State). s.config) a.1
same_config L old mid false held n a = ap (λ (s : State). s.config) a.1

module _ (L : Ledger) (Q : Key → Type 0) (U : Config → List Unfinished → Counters → Type 0)
    (closed : IsClosedBy L Q (λ s. U s.config s.unfinished s.counters)) where
  abbrev pub K : State → Type 0
  K s = U s.config s.unfinished s.counters

  abbrev pub IsOfKind : List ℕ → Type 0
  IsOfKind packet = Q (Arrival.key_of (head_of packet))

  pub comes : (packet : List ℕ) (reply : Reply) (old new : State)
      → (head_fault packet ≡ None → Arrival.is_fragment (head_of packet) ≡ true → IsOfKind packet) → K old
      → StepBy L old (Comes packet) reply new → K new
  comes packet reply old new q k (answer_is, (answer, mid, a, h)) =
      let here : K mid = by_has_buffers L Q K closed old mid nothing _ answer k a in
      by_choice h
      (λ e (clusters, taken, arrives).
      by_arrives L Q K closed (Arrival.By_wire (length packet)) nothing
      (record { bytes = packet; weight = weight_of (entries_on clusters (wire (length packet))) }) mid new q here
      arrives)
      (λ e r. subst K (sym r) (closed.ended _ mid here))

  -- what a send counts keeps it
  pub record KeepsSends : Type 0 where
    pub counts : (cc : Config) (us : List Unfinished) (c : Counters) → U cc us c → U cc us (counts_more IpLocalout 1 c)
    pub cuts : (cc : Config) (us : List Unfinished) (c : Counters) → U cc us c → U cc us (counts_more IpFragmented 1 c)
    pub drops : (cc : Config) (us : List Unfinished) (c : Counters) → U cc us c → U cc us (counts_more OutDropped 1 c)

  leaves : KeepsSends → (fd port : ℕ) (parts : List Part) (link : List Item) (s : State) → K s
      → K (enqueued link (spent fd port parts s))
  leaves keeps fd port parts link s k =
      drop (overflows (spent fd port parts s) link) _ (cut (nat_lt 1 (length parts)) _
      (keeps.counts s.config s.unfinished s.counters k))
    where
      cut : (b : Bool) (c : Counters) → U s.config s.unfinished c
          → U s.config s.unfinished (cond b (counts_more IpFragmented 1 c) c)
      cut true c u = keeps.cuts s.config s.unfinished c u
      cut false c u = u

      drop : (b : Bool) (c : Counters) → U s.config s.unfinished c
          → U s.config s.unfinished (cond b (counts_more OutDropped 1 c) c)
      drop true c u = keeps.drops s.config s.unfinished c u
      drop false c u = u

  -- the packets that come back have one of this host's addresses as their source
  pub sends : (fd : ℕ) (to : Option Addr) (bytes : List ℕ) (reply : Reply) (old new : State) → KeepsSends
      → ((me : Socket) → socket_at fd old ≡ Some me → (c : Config) → c ≡ old.config → (x : Sending) (ip : ℕ)
      → x.source ≡ source_for c me ip → (p : Part) → IsOfKind (packet_for x p))
      → K old → StepBy L old (Send fd to bytes) reply new → K new
  sends fd to bytes reply old new keeps others k h =
      on_fd L U fd old new reply _ k h (λ me at c. by_case c
      (λ e (answer, mid, a, rest).
      let here : K mid = by_has_buffers L Q K closed old mid nothing _ answer k a in
      by_choice rest
      (λ e (port, named, clusters, g, taken, left).
      by_all L Q K closed _ _ new
      (back_are IsOfKind named.config _ _ (items_are IsOfKind _ _ _
      (others me at mid.config (same_config L old mid answer nothing _ a) _ _ refl)))
      (leaves keeps fd port _ _ named (gets L U mid named _ _ port here g)) left.0)
      (λ e r. refuses L U mid new reply _ here r))
      (λ errno e r. refuses L U old new reply errno k r))

-- A packet that arrives at a host of a segment with another host's address as its source was sent by that host.
use Rattle.std.proofs.Common.{◌≡◌, ◌≢◌, ◌⊎◌, inl, inr, ℕ, List, [], ◌∷◌, ◌++◌, length, zero, suc, Bool, true, false, Option, None, Some, refl, sym, ap, ◌∙◌, subst, arith}
use Rattle.std.specs.Prelude.{slice_get, ◌==◌, ◌&&◌, nat_lt, if◌then◌else◌, Contains, filter_map}
use Rattle.std.specs.List.{AllByRecursion as Each, cons_option}
use Rattle.std.proofs.lemmas.Bool.Decides.{eqb_tells}
use Rattle.std.proofs.lemmas.List.Elements.{filter_map-append}
use Rattle.flat_model.specs.Runs.Run.{Turn}
use Rattle.flat_model.specs.Machine.State.{IsConfig}
use Rattle.flat_model.specs.declared.config.Config.{Config}
use Rattle.flat_model.proofs.Laws.{each-append, each-map_to, each-take, each-weaker}
use Rattle.flat_wire.specs.Wire.{ComesFrom, packet_in, packet_out}
use Rattle.net_stack.specs.Stack.{StackView}
use Rattle.segment.specs.Flying.{Flying, comes, transmits_of, goes_to, received, sent_by}
use Rattle.segment.specs.Segment.{SegmentView, IsCollected, collected, given_below, leaving, received_in, waiting_in}
use Rattle.segment.proofs.BareActs.{AreBare}
use Rattle.segment.proofs.Choosing.{each_entering, each_leaving, each_lost, each_repeated, each_stay, each_swapped}
use Rattle.segment.proofs.Hosts.{AreFine, act_fine, none_from, remains}
use Rattle.segment.specs.Law.{Act, Ether, Joins, Calls, Collects, Delivers, Impairs, Seeds, Loses, Repeats, Swaps, AreActs, called_in, called_of, turns_in, turns_of}

-- the packets that were transmitted in turns, and those that arrived in them
abbrev out : List Turn → List (List ℕ)
out turns = filter_map packet_out turns

abbrev into : List Turn → List (List ℕ)
into turns = filter_map packet_in turns

-- in the later of two lists, or in the front one
pub contains_after : {X : Type 0} (xs ys : List X) (x : X) → Contains ys x → Contains (xs ++ ys) x
contains_after [] ys x h = h
contains_after (y ∷ xs) ys x h = let r = contains_after xs ys x h in (suc r.0, omega (arith, r.1), r.2)

contains_each : {X : Type 0} (xs ys : List X) → Each (λ x. Contains (xs ++ ys) x) xs
contains_each [] ys = tt
contains_each (x ∷ xs) ys =
    ((0, omega arith, refl), each-weaker (λ y h. (suc h.0, omega (arith, h.1), h.2)) xs (contains_each xs ys))

-- turns in which the link takes packets transmit exactly these, and bring none in; turns in which packets arrive bring
-- in exactly these
out_gives : (packets : List (List ℕ)) → out (transmits_of packets) ≡ packets
out_gives [] = refl
out_gives (p ∷ packets) = ap (λ ps. p ∷ ps) (out_gives packets)

into_gives : (packets : List (List ℕ)) → into (transmits_of packets) ≡ []
into_gives [] = refl
into_gives (p ∷ packets) = into_gives packets

into_comes : (packets : List (List ℕ)) → into (comes packets) ≡ packets
into_comes [] = refl
into_comes (p ∷ packets) = ap (λ ps. p ∷ ps) (into_comes packets)

pub each_received : (Q : List ℕ → Type 0) (place : ℕ) (c : Config) (flight : List Flying)
    → Each (λ (f : Flying). Q f.packet) flight → Each Q (received place c flight)
each_received Q place c [] h = tt
each_received Q place c (f ∷ flight) h = go (goes_to place c f) (each_received Q place c flight h.1)
  where
    go : (b : Bool) → Each Q (received place c flight)
        → Each Q (cons_option (if b then Some f.packet else None) (received place c flight))
    go true later = (h.0, later)
    go false later = later

module _ (i j a : ℕ) (G : List ℕ → Type 0) where
  -- if a packet has this address as its source, the first host sent it
  abbrev P : List ℕ → Type 0
  P packet = ComesFrom a packet → G packet

  -- all waiting packets satisfy P, if no other host's packet has the address as its source
  from_senders : (v : SegmentView) → Each G (waiting_in (slice_get v.stacks i))
      → ((k : ℕ) → i ≢ k → Each (λ p. ¬ ComesFrom a p) (waiting_in (slice_get v.stacks k))) → (k : ℕ)
      → Each P (waiting_in (slice_get v.stacks k))
  from_senders v mine others k = go (eqb_tells i k)
    where
      go : (((i == k) ≡ true) × (i ≡ k)) ⊎ (((i == k) ≡ false) × (i ≢ k)) → Each P (waiting_in (slice_get v.stacks k))
      go (inl h) =
          subst (λ n. Each P (waiting_in (slice_get v.stacks n))) h.1
          (each-weaker (λ p g from. g) (waiting_in (slice_get v.stacks i)) mine)
      go (inr h) = each-weaker (λ p no from. absurd (no from)) (waiting_in (slice_get v.stacks k)) (others k h.1)

  each_given : (stacks : List StackView) (n : ℕ) → ((k : ℕ) → Each P (waiting_in (slice_get stacks k)))
      → Each (λ (f : Flying). P f.packet) (given_below stacks n)
  each_given stacks zero h = tt
  each_given stacks (suc n) h =
      each-append (λ (f : Flying). P f.packet) (given_below stacks n) (sent_by n (waiting_in (slice_get stacks n)))
      (each_given stacks n h)
      (each-map_to (λ (f : Flying). P f.packet) _ (λ packet g. g) (waiting_in (slice_get stacks n)) (h n))

  each_came : (o : Option Config) (flight : List Flying) → Each (λ (f : Flying). P f.packet) flight
      → Each P (received_in j o flight)
  each_came None flight h = tt
  each_came (Some c) flight h = each_received P j c flight h

  abbrev Fly : List Flying → Type 0
  Fly = Each (λ (f : Flying). P f.packet)

  -- the packets that a delivery brings
  each_delivered : (v : SegmentView) (rest : List Turn) → Fly v.flight → Each P (into rest)
      → Each P (into (turns_in j (Delivers v) ++ rest))
  each_delivered v rest flies later =
      let came = received_in j (slice_get v.configs j) (leaving v).0 in
      let all : into (turns_in j (Delivers v) ++ rest) ≡ came ++ into rest =
      filter_map-append packet_in (comes came) rest ∙ ap (λ ps. ps ++ into rest) (into_comes came) in
      subst (Each P) (sym all) (each-append P came (into rest)
      (each_came (slice_get v.configs j) (leaving v).0 (each_leaving P v flies)) later)

  -- a collection brings none
  each_collected : (v : SegmentView) (rest : List Turn) → Each P (into rest)
      → Each P (into (turns_in j (Collects v) ++ rest))
  each_collected v rest later =
      let front = waiting_in (slice_get v.stacks j) in
      subst (Each P) (sym (filter_map-append packet_in (transmits_of front) rest
      ∙ ap (λ ps. ps ++ into rest) (into_gives front))) later

  -- what is under way after it
  flies_on : (old new : SegmentView) → IsCollected old new → Fly old.flight
      → ((k : ℕ) → Each P (waiting_in (slice_get old.stacks k))) → Fly new.flight
  flies_on old new is flies given = subst Fly (sym is.flight)
      (each-take (λ (f : Flying). P f.packet) old.room (old.flight ++ (collected old).0)
      (each-append (λ (f : Flying). P f.packet) old.flight (collected old).0 flies
      (each_entering P old.chances (given_below old.stacks (length old.stacks)) old.random
      (each_given old.stacks (length old.stacks) given))))

  -- what a call brings
  each_called : (place : ℕ) (turn : Turn) (rest called : List Turn)
      → Each (λ p. ¬ ComesFrom a p) (into (called_in j (Calls place turn) ++ called))
      → (Each (λ p. ¬ ComesFrom a p) (into called) → Each P (into rest))
      → Each P (into (turns_in j (Calls place turn) ++ rest))
  each_called place turn rest called outside later = go (place == j) outside
    where
      one : (o : Option (List ℕ)) → Each (λ p. ¬ ComesFrom a p) (cons_option o (into called))
          → Each P (cons_option o (into rest))
      one None h = later h
      one (Some p) h = ((λ from. absurd (h.0 from)), later h.1)

      go : (b : Bool) → Each (λ p. ¬ ComesFrom a p) (into ((if b then turn ∷ [] else []) ++ called))
          → Each P (into ((if b then turn ∷ [] else []) ++ rest))
      go true h = one (packet_in turn) h
      go false h = later h

  given_up : (v : SegmentView) (acts : List Act)
      → ((packet : List ℕ) → Contains (out (turns_of i (Collects v ∷ acts))) packet → G packet)
      → Each G (waiting_in (slice_get v.stacks i))
  given_up v acts up =
      let w = waiting_in (slice_get v.stacks i) in
      let is : out (turns_of i (Collects v ∷ acts)) ≡ w ++ out (turns_of i acts) =
      filter_map-append packet_out (transmits_of w) (turns_of i acts)
      ∙ ap (λ ps. ps ++ out (turns_of i acts)) (out_gives w) in
      each-weaker (λ packet h. up packet (subst (λ ps. Contains ps packet) (sym is) h)) w
      (contains_each w (out (turns_of i acts)))

  up_later : (act : Act) (acts : List Act)
      → ((packet : List ℕ) → Contains (out (turns_of i (act ∷ acts))) packet → G packet) → (packet : List ℕ)
      → Contains (out (turns_of i acts)) packet → G packet
  up_later act acts up packet h =
      up packet (subst (λ ps. Contains ps packet)
      (sym (filter_map-append packet_out (turns_in i act) (turns_of i acts)))
      (contains_after (out (turns_in i act)) (out (turns_of i acts)) packet h))

  module _ (first : Config) (is_addr : a ≡ first.addr) (is_config : IsConfig first) (last : SegmentView)
      (whole : AreFine last) (first_is : slice_get last.configs i ≡ Some first) where
    -- no other host has a packet with the address
    pub elsewhere : (acts : List Act) (v : SegmentView) → AreBare acts → AreFine v → AreActs v acts last → (k : ℕ)
        → i ≢ k
        → Each (λ p. ¬ ComesFrom a p) (waiting_in (slice_get v.stacks k))
    elsewhere acts v bare fine done k other =
        subst (λ n. Each (λ p. ¬ ComesFrom n p) (waiting_in (slice_get v.stacks k))) (sym is_addr)
        (none_from first v k (λ d e. whole.apart i k first d other first_is (remains acts v last k d bare done e))
        is_config
        fine)

    pub wires : (acts : List Act) (v : SegmentView) → AreBare acts → AreActs v acts last → AreFine v → Fly v.flight
        → ((packet : List ℕ) → Contains (out (turns_of i acts)) packet → G packet)
        → Each (λ p. ¬ ComesFrom a p) (into (called_of j acts)) → Each P (into (turns_of j acts))
    wires [] v bare done fine flies up outside = tt
    wires (Ether act ∷ acts) v bare done fine flies up outside = absurd bare.0
    wires (Joins c ∷ acts) v bare (mid, is, done) fine flies up outside =
        wires acts mid bare.1 done (act_fine (Joins c) v mid bare.0 fine is) (subst Fly (sym is.flight) flies)
        (up_later (Joins c) acts up) outside
    wires (Calls place turn ∷ acts) v bare (mid, is, done) fine flies up outside =
        each_called place turn (turns_of j acts) (called_of j acts) outside
        (λ later. wires acts mid bare.1 done (act_fine (Calls place turn) v mid bare.0 fine is)
        (subst Fly (sym is.flight) flies)
        (up_later (Calls place turn) acts up) later)
    wires (Collects found ∷ acts) v bare (mid, (found_is, is), done) fine flies up outside =
        let given : (k : ℕ) → Each P (waiting_in (slice_get v.stacks k)) = from_senders v
        (given_up v acts (subst (λ (f : SegmentView). (packet : List ℕ)
        → Contains (out (turns_of i (Collects f ∷ acts))) packet → G packet) found_is up))
        (elsewhere (Collects found ∷ acts) v bare fine (mid, (found_is, is), done)) in
        each_collected found (turns_of j acts)
        (wires acts mid bare.1 done (act_fine (Collects found) v mid bare.0 fine (found_is, is))
        (flies_on v mid is flies given)
        (up_later (Collects found) acts up) outside)
    wires (Delivers found ∷ acts) v bare (mid, (found_is, is), done) fine flies up outside =
        subst (λ (f : SegmentView). Each P (into (turns_in j (Delivers f) ++ turns_of j acts))) (sym found_is)
        (each_delivered v (turns_of j acts) flies
        (wires acts mid bare.1 done (act_fine (Delivers found) v mid bare.0 fine (found_is, is))
        (subst Fly (sym is.flight) (each_stay P v.flight flies)) (up_later (Delivers found) acts up) outside))
    wires (Impairs place chances ∷ acts) v bare (mid, is, done) fine flies up outside =
        wires acts mid bare.1 done (act_fine (Impairs place chances) v mid bare.0 fine is)
        (subst (λ (w : SegmentView). Fly w.flight) (sym is) flies) (up_later (Impairs place chances) acts up) outside
    wires (Seeds seed ∷ acts) v bare (mid, is, done) fine flies up outside =
        wires acts mid bare.1 done (act_fine (Seeds seed) v mid bare.0 fine is)
        (subst (λ (w : SegmentView). Fly w.flight) (sym is) flies) (up_later (Seeds seed) acts up) outside
    wires (Loses place ∷ acts) v bare (mid, is, done) fine flies up outside =
        wires acts mid bare.1 done (act_fine (Loses place) v mid bare.0 fine is)
        (subst (λ (w : SegmentView). Fly w.flight) (sym is)
        (each_lost (λ (f : Flying). P f.packet) place v.flight flies))
        (up_later (Loses place) acts up) outside
    wires (Repeats place ∷ acts) v bare (mid, is, done) fine flies up outside =
        wires acts mid bare.1 done (act_fine (Repeats place) v mid bare.0 fine is)
        (subst (λ (w : SegmentView). Fly w.flight) (sym is)
        (each_repeated (λ (f : Flying). P f.packet) v.room place v.flight flies))
        (up_later (Repeats place) acts up) outside
    wires (Swaps place other ∷ acts) v bare (mid, is, done) fine flies up outside =
        wires acts mid bare.1 done (act_fine (Swaps place other) v mid bare.0 fine is)
        (subst (λ (w : SegmentView). Fly w.flight) (sym is)
        (each_swapped (λ (f : Flying). P f.packet)
        (nat_lt place (length v.flight) && nat_lt other (length v.flight)) place other v.flight
        flies)) (up_later (Swaps place other) acts up) outside

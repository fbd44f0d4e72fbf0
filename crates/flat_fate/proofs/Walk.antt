-- A packet's way through the rules, to its end: whatever follows from each end, and from states that count as many for
-- each cause, follows from the whole way.
use Rattle.std.proofs.Common.{◌≡◌, ℕ, Bool, true, false, List, [], ◌∷◌, length, map, inl, inr, refl, sym, ap, ◌∙◌}
use Rattle.flat_model.specs.Amounts.Choice.{Choice, Case}
use Rattle.flat_model.specs.Amounts.Weight.{Weight, Item, ◌⊕◌, nothing}
use Rattle.flat_model.specs.Amounts.Layout.{Need, wire, entries_on, weight_of}
use Rattle.flat_model.specs.Packets.Header.{Head, head_of}
use Rattle.flat_model.specs.Fragments.Overlay.{Map, Fragment, overlay}
use Rattle.flat_model.specs.Fragments.Whole.{bytes_below}
use Rattle.flat_model.specs.Machine.Arrival as Arrival
use Rattle.flat_model.specs.Machine.Arrival.{Origin, By_wire, Looped, End, Ended, Offered, Stored, Reassembled, Saying}
use Rattle.flat_model.specs.Machine.Ledger.{Ledger, HasBuffers, need_mbufs, reclaimed}
use Rattle.flat_model.specs.Machine.State.{State, Socket, Key, Unfinished, begun, begin_unfinished, end_unfinished, ends, set_bytes}
use Rattle.flat_model.specs.Machine.Step.{ComesInAs}
use Rattle.flat_model.specs.declared.address.Addr.{Addr}
use Rattle.flat_model.specs.declared.counter.Counter.TheVariants.{IpReclaimed}
use Rattle.flat_model.specs.declared.counters.Why.{Why}
use Rattle.flat_model.specs.declared.counters.Why.TheVariants.{BadFragment, CantForward, FragmentDropped, NoBufs, NoProtocol}
use Rattle.flat_model.proofs.Laws.{by_choice, by_case}
use Rattle.flat_fate.specs.Counted.{CountsNone, count_for}
use Rattle.flat_fate.proofs.Counting.{fragments_beside, reassembled_beside, reclaimed_beside, total_beside}

-- a test for buffers counts for no cause
pub buffers_count : (L : Ledger) (old new : State) (held : Weight) (need : Need) (yes : Bool)
    → HasBuffers L old held need yes new → CountsNone old new
buffers_count L old new held need true (inl (h, e)) why = ap (λ (s : State). count_for why s) e
buffers_count L old new held need true (inr (h, e, again)) why =
    ap (λ (s : State). count_for why s) e ∙ reclaimed_beside why (length old.unfinished) old.counters
buffers_count L old new held need false (h, e, again) why =
    ap (λ (s : State). count_for why s) e ∙ reclaimed_beside why (length old.unfinished) old.counters

-- after a test, whether it passed or not
pub after_test : (L : Ledger) (old : State) (held : Weight) (n : ℕ) (F Q : State → Type 0) {R : Type 0}
    → Arrival.TestsAs L old held n F Q → ((mid : State) → CountsNone old mid → Q mid → R)
    → ((mid : State) → CountsNone old mid → F (ends NoBufs mid) → R) → R
after_test L old held n F Q t passed failed =
    let same = buffers_count L old t.mid held (need_mbufs n) t.answer t.has_buffers in
    by_choice t.goes_on (λ _ q. passed t.mid same q) (λ _ f. failed t.mid same f)

-- what follows
module _ (L : Ledger) (P : State → State → Type 0)
    (from : (s t n : State) → CountsNone s t → P t n → P s n) where
  -- of a whole datagram
  module _ (S : Saying) (ended : (why : Why) (s n : State) → S (Ended why) n (ends why s) → P s n)
      (offered : (held : Weight) (sender : Addr) (item : Item) (to : Socket) (more : List Socket) (s n : State)
      → Arrival.DeliversAs L (λ fd lack. S (Offered (map (λ (x : Socket). x.fd) (to ∷ more)) fd lack)) held sender item
      (to ∷ more) s n → P s n) where
    goes_to : (held : Weight) (sender : Addr) (item : Item) (destination : ℕ) (tos : List Socket) (s n : State)
        → Arrival.GoesToAs L S held sender item destination tos s n → P s n
    goes_to held sender item destination [] s n h = ended (Arrival.no_port s destination) s n h
    goes_to held sender item destination (to ∷ more) s n h = offered held sender item to more s n h

    pub whole : (held : Weight) (source destination protocol : ℕ) (item : Item) (s n : State)
        → Arrival.WholeArrivesAs L S held source destination protocol item s n → P s n
    whole held source destination protocol item s n h =
        by_choice h
        (λ _ u. by_case u (λ _ g. goes_to held _ _ destination _ s n g) (λ why _ e. ended why s n e))
        (λ _ e. ended NoProtocol s n e)

  -- of a packet
  module _ (S : Saying) (ended : (why : Why) (s n : State) → S (Ended why) n (ends why s) → P s n)
      (offered : (held : Weight) (sender : Addr) (item : Item) (to : Socket) (more : List Socket) (s n : State)
      → Arrival.DeliversAs L (λ fd lack. S (Offered (map (λ (x : Socket). x.fd) (to ∷ more)) fd lack)) held sender item
      (to ∷ more) s n → P s n)
      (stored : (k : Key) (bytes : Map) (s n : State) → S Stored n (set_bytes k bytes s) → P s n)
      (joined : (why : Why) (s n : State) → S (Reassembled (Ended why)) n (ends why s) → P s n)
      (joined_offered : (held : Weight) (sender : Addr) (item : Item) (to : Socket) (more : List Socket) (s n : State)
      → Arrival.DeliversAs L (λ fd lack. S (Reassembled (Offered (map (λ (x : Socket). x.fd) (to ∷ more)) fd lack)))
      held sender item (to ∷ more) s n → P s n) where
    settles : (held : Weight) (k : Key) (bytes : Map) (s n : State) → Arrival.SettlesAs L S held k bytes s n → P s n
    settles held k bytes s n (inl (m, w, weight, j, a)) =
        let t : State = Arrival.counts_reassembled (end_unfinished k s) in
        from s t n (λ why. reassembled_beside why 1 s.counters)
        (whole (λ end. S (Reassembled end)) joined joined_offered held k.source k.destination k.protocol
        (record { bytes = bytes_below bytes m; weight = weight }) t n a)
    settles held k bytes s n (inr (none, h)) = stored k bytes s n h

    inserts : (held : Weight) (k : Key) (f : Fragment) (u : Unfinished) (s n : State)
        → Arrival.InsertsAs L S held k f u s n → P s n
    inserts held k f u s n h =
        by_choice h (λ _ e. ended FragmentDropped s n e) (λ _ t. settles held k (overlay u.bytes f) s n t)

    joins : (held : Weight) (k : Key) (f : Fragment) (s n : State) → Arrival.JoinsAs L S held k f s n → P s n
    joins held k f s n h =
        by_case h
        (λ _ t. after_test L s (held ⊕ f.weight) 1 _ _ t
        (λ mid same i. from s (begin_unfinished k mid) n same (inserts held k f (begun k) (begin_unfinished k mid) n i))
        (λ mid same e. from s mid n same (ended NoBufs mid n e)))
        (λ u _ i. inserts held k f u s n i)

    pulls_up : (origin : Origin) (held w : Weight) (total : ℕ) (s n : State) (Then : Weight → State → Type 0)
        → ((v : Weight) (mid : State) → Then v mid → P mid n)
        → Arrival.PullsUpAs L S origin held w total s n Then → P s n
    pulls_up Looped held w total s n Then f h = f w s h
    pulls_up (By_wire received) held w total s n Then f h =
        by_choice h
        (λ _ t. after_test L s (held ⊕ w) 1 _ _ t (λ mid same r. from s mid n same (f _ mid r))
        (λ mid same e. from s mid n same (ended NoBufs mid n e)))
        (λ _ r. f w s r)

    fragment : (origin : Origin) (held : Weight) (h : Head) (item : Item) (s n : State)
        → Arrival.FragmentArrivesAs L S origin held h item s n → P s n
    fragment origin held h item s n a =
        by_choice a (λ _ e. ended BadFragment s n e)
        (λ _ p. from s (Arrival.counts_fragment s) n (λ why. fragments_beside why 1 s.counters)
        (pulls_up origin held item.weight _ (Arrival.counts_fragment s) n _ (λ v mid j. joins held _ _ mid n j) p))

    passes : (origin : Origin) (held : Weight) (item : Item) (s n : State)
        → Arrival.PassesAs L S origin held item s n → P s n
    passes origin held item s n h =
        by_choice h
        (λ _ ours. by_choice ours (λ _ f. fragment origin held (head_of item.bytes) (Arrival.carried item) s n f)
        (λ _ w. whole S ended offered held (head_of item.bytes).source (head_of item.bytes).destination
        (head_of item.bytes).protocol (Arrival.carried item) s n w))
        (λ _ e. ended CantForward s n e)

    arrives : (origin : Origin) (held : Weight) (item : Item) (s n : State)
        → Arrival.ArrivesAs L S origin held item s n → P s n
    arrives origin held item s n h =
        let t : State = Arrival.counts_packet s in
        by_case h
        (λ _ p. from s t n (λ why. total_beside why 1 s.counters) (passes origin held item t n p))
        (λ why _ e. from s t n (λ cause. total_beside cause 1 s.counters) (ended why t n e))

    pub comes : (packet : List ℕ) (s n : State) → ComesInAs L S packet s n → P s n
    comes packet s n (answer, mid, a, c) =
        let same = buffers_count L s mid nothing _ answer a in
        from s mid n same (by_choice c
        (λ _ (clusters, t, r). arrives (By_wire (length packet)) nothing
        (record { bytes = packet; weight = weight_of (entries_on clusters (wire (length packet))) }) mid n r)
        (λ _ e. ended NoBufs mid n e))

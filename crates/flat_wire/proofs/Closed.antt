-- What a predicate on states needs, so that every arrival keeps it, if the keys of fragments are of a kind.
use Rattle.std.proofs.Common.{◌≡◌, ℕ, Bool, true, false, List, [], ◌∷◌, refl, sym, subst, inl, inr, None}
use Rattle.std.specs.Prelude.{⊤}
use Rattle.std.specs.List.{AllByRecursion as Each}
use Rattle.flat_model.specs.Amounts.Weight.{Weight, Item, ◌⊕◌}
use Rattle.flat_model.specs.Amounts.Layout.{Need}
use Rattle.flat_model.specs.Packets.Header.{head_of, head_fault}
use Rattle.flat_model.specs.Fragments.Overlay.{Map, Fragment}
use Rattle.flat_model.specs.Fragments.Whole.{bytes_below}
use Rattle.flat_model.specs.Machine.Count.{counted, value_of}
use Rattle.flat_model.specs.Machine.State.{State, Socket, Datagram, Key, Unfinished, change_socket, begun, begin_unfinished, set_bytes, end_unfinished, ends}
use Rattle.flat_model.specs.Machine.Ledger.{Ledger, HasBuffers, need_mbufs, reclaimed}
use Rattle.flat_model.specs.Machine.Arrival as Arrival
use Rattle.flat_model.specs.Machine.Arrival.{Origin, By_wire, Looped}
use Rattle.flat_model.specs.declared.address.Addr.{Addr}
use Rattle.flat_model.specs.declared.counter.Counter.TheVariants.{IpLocalout}
use Rattle.flat_model.specs.declared.counters.Counters.{Counters}
use Rattle.flat_model.specs.declared.counters.Why.{Why}
use Rattle.flat_model.specs.declared.counters.Why.TheVariants.{TooSmall, BadVersion, BadHeaderLength, Options, BadSum, BadLength, TooShort, CantForward, BadFragment, FragmentDropped, NoProtocol, UdpHeaderDrops, UdpBadLength, UdpBadSum, UdpNoPort, UdpNoPortBroadcast, UdpFullSocket, NoBufs}
use Rattle.flat_model.proofs.Laws.{by_choice, by_case}

-- counting a dropped packet doesn't change the number of sends
pub counted-localout : (why : Why) (c : Counters) → value_of IpLocalout (counted why c) ≡ value_of IpLocalout c
unfolding counted
counted-localout TooSmall c = refl
counted-localout BadVersion c = refl
counted-localout BadHeaderLength c = refl
counted-localout Options c = refl
counted-localout BadSum c = refl
counted-localout BadLength c = refl
counted-localout TooShort c = refl
counted-localout CantForward c = refl
counted-localout BadFragment c = refl
counted-localout FragmentDropped c = refl
counted-localout NoProtocol c = refl
counted-localout UdpHeaderDrops c = refl
counted-localout UdpBadLength c = refl
counted-localout UdpBadSum c = refl
counted-localout UdpNoPort c = refl
counted-localout UdpNoPortBroadcast c = refl
counted-localout UdpFullSocket c = refl
counted-localout NoBufs c = refl

module _ (M : Ledger) (Q : Key → Type 0) where
  -- what happens to unfinished datagrams only happens to keys of the kind Q
  pub record IsClosedBy (K : State → Type 0) : Type 0 where
    pub ended : (why : Why) (s : State) → K s → K (ends why s)
    pub dropped : (s : State) → K s → K (reclaimed s)
    pub queued : (fd : ℕ) (d : Datagram) (s : State) → K s → K (change_socket fd (Arrival.with_datagram d) s)
    pub begins : (k : Key) (s : State) → Q k → K s → K (begin_unfinished k s)
    pub sets : (k : Key) (bytes : Map) (s : State) → Q k → K s → K (set_bytes k bytes s)
    pub finishes : (k : Key) (s : State) → Q k → K s → K (Arrival.counts_reassembled (end_unfinished k s))
    pub fragment : (s : State) → K s → K (Arrival.counts_fragment s)
    pub packet : (s : State) → K s → K (Arrival.counts_packet s)

  module _ (K : State → Type 0) (closed : IsClosedBy K) where
    pub by_has_buffers : (old new : State) (held : Weight) (n : Need) (answer : Bool) → K old
        → HasBuffers M old held n answer new → K new
    by_has_buffers old new held n true k (inl a) = subst K (sym a.1) k
    by_has_buffers old new held n true k (inr a) = subst K (sym a.1) (closed.dropped old k)
    by_has_buffers old new held n false k a = subst K (sym a.1) (closed.dropped old k)

    by_ends : (s new : State) (why : Why) → K s → new ≡ ends why s → K new
    by_ends s new why k e = subst K (sym e) (closed.ended why s k)

    by_tests : (old new : State) (held : Weight) (n : ℕ) (Then : State → Type 0) → K old
        → ((mid : State) → K mid → Then mid → K new) → Arrival.Tests M old held n new Then → K new
    by_tests old new held n Then k goes t =
        let at : K t.mid = by_has_buffers old t.mid held (need_mbufs n) t.answer k t.has_buffers in
        by_choice t.goes_on (λ e h. goes t.mid at h) (λ e h. by_ends t.mid new NoBufs at h)

    by_appends : (held : Weight) (sender : Addr) (item : Item) (to : Socket) (old new : State) → K old
        → Arrival.Appends M held sender item to old new → K new
    by_appends held sender item to old new k h = by_choice h
        (λ e t. by_tests old new (held ⊕ item.weight) 1 _ k (λ mid at e. subst K (sym e)
        (closed.queued to.fd _ mid at)) t)
        (λ e t. by_ends old new UdpFullSocket k t)

    by_delivers : (held : Weight) (sender : Addr) (item : Item) (tos : List Socket) (old new : State) → K old
        → Arrival.Delivers M held sender item tos old new → K new
    by_delivers held sender item [] old new k h = absurd h
    by_delivers held sender item (last ∷ []) old new k h = by_appends held sender item last old new k h
    by_delivers held sender item (to ∷ next ∷ more) old new k (after, tests, later) =
        by_delivers held sender item (next ∷ more) after new
        (by_tests old after (held ⊕ item.weight) item.weight.mbufs _ k
        (λ mid at a. by_appends (held ⊕ item.weight) sender item to mid after at a) tests) later

    by_goes : (held : Weight) (sender : Addr) (item : Item) (destination : ℕ) (tos : List Socket) (old new : State)
        → K old → Arrival.GoesTo M held sender item destination tos old new → K new
    by_goes held sender item destination [] old new k h = by_ends old new _ k h
    by_goes held sender item destination (to ∷ more) old new k h =
        by_delivers held sender item (to ∷ more) old new k h

    by_whole : (held : Weight) (source destination protocol : ℕ) (item : Item) (old new : State) → K old
        → Arrival.WholeArrives M held source destination protocol item old new → K new
    by_whole held source destination protocol item old new k h = by_choice h
        (λ e c. by_case c (λ e g. by_goes held _ _ destination _ old new k g) (λ why e g. by_ends old new why k g))
        (λ e g. by_ends old new _ k g)

    by_settles : (held : Weight) (key : Key) (bytes : Map) (old new : State) → Q key → K old
        → Arrival.Settles M held key bytes old new → K new
    by_settles held key bytes old new q k (inl (n, w, joined, j, a)) =
        by_whole held key.source key.destination key.protocol
        (record { bytes = bytes_below bytes n; weight = joined })
        (Arrival.counts_reassembled (end_unfinished key old)) new (closed.finishes key old q k) a
    by_settles held key bytes old new q k (inr (unwhole, e)) = subst K (sym e) (closed.sets key bytes old q k)

    pub by_inserts : (held : Weight) (key : Key) (f : Fragment) (u : Unfinished) (old new : State) → Q key → K old
        → Arrival.Inserts M held key f u old new → K new
    by_inserts held key f u old new q k h =
        by_choice h (λ e g. by_ends old new _ k g) (λ e g. by_settles held key _ old new q k g)

    pub by_joins : (held : Weight) (key : Key) (f : Fragment) (old new : State) → Q key → K old
        → Arrival.Joins M held key f old new → K new
    by_joins held key f old new q k h = by_case h
        (λ e t. by_tests old new (held ⊕ f.weight) 1 _ k
        (λ mid at r. by_inserts held key f (begun key) (begin_unfinished key mid) new q (closed.begins key mid q at)
        r) t)
        (λ u e l. by_inserts held key f u old new q k l)

    by_pulls : (origin : Origin) (held w : Weight) (total : ℕ) (old new : State) (Then : Weight → State → Type 0)
        → K old
        → ((w : Weight) (mid : State) → K mid → Then w mid → K new) → Arrival.PullsUp M origin held w total old new Then
        → K new
    by_pulls Looped held w total old new Then k goes h = goes w old k h
    by_pulls (By_wire received) held w total old new Then k goes h =
        by_choice h (λ e t. by_tests old new (held ⊕ w) 1 _ k (λ mid at r. goes _ mid at r) t) (λ e r. goes w old k r)

    by_passes : (origin : Origin) (held : Weight) (item : Item) (old new : State)
        → (Arrival.is_fragment (head_of item.bytes) ≡ true → Q (Arrival.key_of (head_of item.bytes))) → K old
        → Arrival.Passes M origin held item old new → K new
    by_passes origin held item old new q k h = by_choice h
        (λ e c. by_choice c
        (λ part f. by_choice f
        (λ e g. by_ends old new _ k g)
        (λ e p. by_pulls origin held _ _ (Arrival.counts_fragment old) new _ (closed.fragment old k)
        (λ w mid at j. by_joins held _ _ mid new (q part) at j) p))
        (λ e w. by_whole held (head_of item.bytes).source (head_of item.bytes).destination
        (head_of item.bytes).protocol (Arrival.carried item) old new k w))
        (λ e g. by_ends old new _ k g)

    pub by_arrives : (origin : Origin) (held : Weight) (item : Item) (old new : State)
        → (head_fault item.bytes ≡ None → Arrival.is_fragment (head_of item.bytes) ≡ true
        → Q (Arrival.key_of (head_of item.bytes))) → K old
        → Arrival.Arrives M origin held item old new → K new
    by_arrives origin held item old new q k h = by_case h
        (λ e p. by_passes origin held item (Arrival.counts_packet old) new (q e) (closed.packet old k) p)
        (λ why e g. by_ends (Arrival.counts_packet old) new why (closed.packet old k) g)

    pub by_all : (items : List Item) (old new : State)
        → Each {X = Item} (λ item. Q (Arrival.key_of (head_of item.bytes))) items → K old
        → Arrival.AllArrive M items old new → K new
    by_all [] old new q k e = subst K (sym e) k
    by_all (item ∷ items) old new q k (mid, a, later) =
        by_all items mid new q.1 (by_arrives Looped _ item old mid (λ e f. q.0) k a) later

-- the same for all keys
module _ (M : Ledger) where
  pub record IsClosed (K : State → Type 0) : Type 0 where
    pub ended : (why : Why) (s : State) → K s → K (ends why s)
    pub dropped : (s : State) → K s → K (reclaimed s)
    pub queued : (fd : ℕ) (d : Datagram) (s : State) → K s → K (change_socket fd (Arrival.with_datagram d) s)
    pub begins : (k : Key) (s : State) → K s → K (begin_unfinished k s)
    pub sets : (k : Key) (bytes : Map) (s : State) → K s → K (set_bytes k bytes s)
    pub finishes : (k : Key) (s : State) → K s → K (Arrival.counts_reassembled (end_unfinished k s))
    pub fragment : (s : State) → K s → K (Arrival.counts_fragment s)
    pub packet : (s : State) → K s → K (Arrival.counts_packet s)

  module _ (K : State → Type 0) (closed : IsClosed K) where
    pub for_all_keys : IsClosedBy M (λ k. ⊤) K
    for_all_keys = record {
      ended = closed.ended;
      dropped = closed.dropped;
      queued = closed.queued;
      begins = λ k s q at. closed.begins k s at;
      sets = λ k bytes s q at. closed.sets k bytes s at;
      finishes = λ k s q at. closed.finishes k s at;
      fragment = closed.fragment;
      packet = closed.packet;
    }

    pub kept_has_buffers : (old new : State) (held : Weight) (n : Need) (answer : Bool) → K old
        → HasBuffers M old held n answer new → K new
    kept_has_buffers = by_has_buffers M (λ k. ⊤) K for_all_keys

    pub kept_arrives : (origin : Origin) (held : Weight) (item : Item) (old new : State) → K old
        → Arrival.Arrives M origin held item old new → K new
    kept_arrives origin held item old new k h =
        by_arrives M (λ k. ⊤) K for_all_keys origin held item old new (λ e f. tt) k h

    pub kept_all : (items : List Item) (old new : State) → K old → Arrival.AllArrive M items old new → K new
    kept_all items old new k h = by_all M (λ k. ⊤) K for_all_keys items old new (all items) k h
      where
        all : (items : List Item) → Each {X = Item} (λ item. ⊤) items
        all [] = tt
        all (item ∷ items) = (tt, all items)

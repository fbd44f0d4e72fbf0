-- Each packet that arrives has a place, and the numbers change as the place says.
use Rattle.std.proofs.Common.{◌≡◌, ℕ, zero, suc, ◌+◌, ◌<◌, ◌≤◌, Bool, true, false, List, [], ◌∷◌, length, map, refl, sym, ◌∙◌, ap, subst, inl, inr, arith, Option, Some, None, cond}
use Rattle.std.specs.Prelude.{◌==◌, ◌||◌, count_by, find, option_to_list, ⊤}
use Rattle.std.specs.List.{AllByRecursion as Each, range_with_len}
use Rattle.std.specs.Option.{option_or}
use Rattle.std.proofs.lemmas.Bool.{eq-eqb, leb-true}
use Rattle.std.proofs.lemmas.List.Sums.{sum_by-cons}
use Rattle.flat_model.specs.declared.lookup_key.LookupKey.{LookupKey}
use Rattle.flat_model.specs.Amounts.Weight.{Weight, Item, ◌⊕◌, nothing}
use Rattle.flat_model.specs.Amounts.Layout.{Need, wire, need_of, entries_on, weight_of}
use Rattle.flat_model.specs.Fragments.Overlay.{Map, Fragment, empty, fragment_end, first_owned, is_covered, overlay, stays}
use Rattle.flat_model.specs.Fragments.Whole.{bytes_below}
use Rattle.flat_model.specs.Sockets.Lookup.{best, matches, receivers, up_to_first}
use Rattle.flat_model.specs.Machine.State.{State, Socket, Key, Unfinished, begun, begin_unfinished, end_unfinished, ends, is_key, unfinished_at}
use Rattle.flat_model.specs.Machine.Ledger.{Ledger, HasBuffers, need_mbufs}
use Rattle.flat_model.specs.Machine.Arrival as Arrival
use Rattle.flat_model.specs.Machine.Arrival.{Origin, By_wire, Looped, End, Ended, Offered, Stored, Reassembled, Saying}
use Rattle.flat_model.specs.Machine.Step.{ComesInAs}
use Rattle.flat_model.specs.declared.address.Addr.{Addr}
use Rattle.flat_model.specs.declared.counter.Counter.TheVariants.{IpTotal, IpFragments}
use Rattle.flat_model.specs.declared.counters.Why.{Why}
use Rattle.flat_model.specs.declared.counters.Why.TheVariants.{BadFragment, CantForward, FragmentDropped, NoProtocol, NoBufs, UdpFullSocket}
use Rattle.flat_model.specs.Machine.Count.{counter_of}
use Rattle.flat_model.proofs.Laws.{by_choice, by_case, each-filter, each-find, each-map_to, each-weaker, count_cons}
use Rattle.flat_wire.specs.Places.{Copy, WholePlace, Lost, Copied, PacketPlace, Outside, Alone, Part, Waits, Completes, begins, counts_for, counts_in, counts_whole, ends_at, gets, got, got_whole, hits, whole_ends}
use Rattle.flat_wire.proofs.Keyed.{begins_this}
use Rattle.flat_wire.proofs.Moves.{Change, Moves, Keeps, both, nothing_more, counting, reclaiming, beginning, completing, move_nothing, move_both, move_as, move_counts, move_ends, move_reclaims, move_queues, move_begins, move_sets, move_finishes, keeps_same, keeps_both, keeps_counts, keeps_reclaims, keeps_queues, keeps_begins, keeps_sets, keeps_finishes}

-- ---- the sockets that match are open, each once

abbrev pub AreDistinct : State → Type 0
AreDistinct s = (fd : ℕ) → count_by (λ (socket : Socket). socket.fd == fd) s.sockets ≤ 1

abbrev pub AreApart : State → Type 0
AreApart s = (k : Key) → count_by (is_key k) s.unfinished ≤ 1

abbrev pub IsOnce : State → ℕ → Type 0
IsOnce s fd = count_by (λ (socket : Socket). socket.fd == fd) s.sockets ≡ 1

abbrev IsIn : List Socket → Socket → Type 0
IsIn sockets x = 1 ≤ count_by (λ (socket : Socket). socket.fd == x.fd) sockets

all_in : (sockets : List Socket) → Each (IsIn sockets) sockets
all_in [] = tt
all_in (x ∷ xs) = (
  (let one : cond {A = ℕ} (x.fd == x.fd) 1 0 ≡ 1 = ap (λ b. cond {A = ℕ} b 1 0) (eq-eqb x.fd x.fd refl) in
      omega (arith, count_cons (λ (socket : Socket). socket.fd == x.fd) x xs)),
  each-weaker (λ y is. omega (arith, is, count_cons (λ (socket : Socket). socket.fd == y.fd) x xs)) xs (all_in xs),
)

each_up_to : (P : Socket → Type 0) (p : Socket → Bool) (xs : List Socket) → Each P xs → Each P (up_to_first p xs)
each_up_to P p [] h = tt
each_up_to P p (x ∷ xs) h = go (p x) (each_up_to P p xs h.1)
  where
    go : (b : Bool) → Each P (up_to_first p xs) → Each P (cond b (x ∷ []) (x ∷ up_to_first p xs))
    go true rest = (h.0, tt)
    go false rest = (h.0, rest)

abbrev OfSome : (Socket → Type 0) → Option Socket → Type 0
OfSome P None = ⊤
OfSome P (Some x) = P x

some_found : (P : Socket → Type 0) (p : Socket → Bool) (xs : List Socket) → Each P xs → OfSome P (find p xs)
some_found P p xs h = go (find p xs) refl
  where
    go : (o : Option Socket) → find p xs ≡ o → OfSome P o
    go None e = tt
    go (Some x) e = (each-find P p xs x h e).0

some_or : (P : Socket → Type 0) (a b : Option Socket) → OfSome P a → OfSome P b → OfSome P (option_or a b)
some_or P None b x y = y
some_or P (Some s) b x y = x

each_some : (P : Socket → Type 0) (o : Option Socket) → OfSome P o → Each P (option_to_list o)
each_some P None h = tt
each_some P (Some x) h = (h, tt)

matching_once : (s : State) (destination : ℕ) (q : LookupKey) → AreDistinct s
    → Each (λ (to : Socket). IsOnce s to.fd) (Arrival.matching_sockets s destination q)
matching_once s destination q distinct =
    each-weaker (λ (x : Socket) is. let most = distinct x.fd in omega (arith, is, most)) _
    (go (Arrival.is_broadcast s.config destination))
  where
    all : Each (IsIn s.sockets) s.sockets
    all = all_in s.sockets

    go : (b : Bool) → Each (IsIn s.sockets) (cond b (receivers q s.sockets) (option_to_list (best q s.sockets)))
    go true = each_up_to (IsIn s.sockets) _ _ (each-filter (IsIn s.sockets) (matches q) s.sockets all)
    go false =
        each_some (IsIn s.sockets) (best q s.sockets)
        (some_or (IsIn s.sockets) _ _ (some_found (IsIn s.sockets) _ s.sockets all)
        (some_or (IsIn s.sockets) _ _ (some_found (IsIn s.sockets) _ s.sockets all)
        (some_found (IsIn s.sockets) _ s.sockets all)))

-- ---- a fragment with bytes isn't held by a datagram that has none

none_stay : (a at n : ℕ) → count_by (λ offset. stays a (empty offset)) (range_with_len at n) ≡ 0
none_stay a at n = go (range_with_len at n)
  where
    go : (xs : List ℕ) → count_by (λ offset. stays a (empty offset)) xs ≡ 0
    go [] = refl
    go (x ∷ xs) = omega (arith, count_cons (λ offset. stays a (empty offset)) x xs, go xs)

not_covered : (f : Fragment) → 0 < length f.bytes → is_covered empty f ≡ true → ⊥
unfolding first_owned
not_covered f some e =
    absurd (omega (
      arith,
      leb-true (fragment_end f) (first_owned empty f) e,
      none_stay f.offset f.offset (length f.bytes),
      some,
    ))

-- ---- the changes of places

abbrev pub completes : PacketPlace → ℕ
completes (Completes first whole) = 1
completes _ = 0

abbrev pub for_place : PacketPlace → ℕ → Change
for_place p r = record {
  counts = λ k. counts_in k p;
  reclaims = r;
  ends = completes p;
  begins = begins p;
  gets = got p;
  leaves = 0;
}

abbrev for_whole : WholePlace → ℕ → Change
for_whole w r =
    record { counts = λ k. counts_whole k w; reclaims = r; ends = 0; begins = 0; gets = got_whole w; leaves = 0 }

abbrev for_copy : Option Why → ℕ → Change
for_copy lack r =
    record { counts = λ k. counts_for k lack; reclaims = r; ends = 0; begins = 0; gets = gets lack; leaves = 0 }

-- a fragment whose size is possible, and whether it's the first of its datagram
abbrev as_number : Bool → ℕ
as_number first = cond first 1 0

abbrev for_part : Bool → ℕ → Change
for_part first r = record {
  counts = λ k. hits k IpTotal + hits k IpFragments;
  reclaims = r;
  ends = 0;
  begins = as_number first;
  gets = 0;
  leaves = 0;
}

begins_waits : (first : Bool) → as_number first ≡ begins (Waits first)
begins_waits true = refl
begins_waits false = refl

begins_completes : (first : Bool) (whole : WholePlace) → as_number first ≡ begins (Completes first whole)
begins_completes true whole = refl
begins_completes false whole = refl

pub record Freed (old new : State) : Type 0 where
  pub reclaims : ℕ
  pub moves : Moves (reclaiming reclaims) old new
  pub keeps : Keeps old new

pub record Placed (T : End → Type 0) (old new : State) : Type 0 where
  pub place : PacketPlace
  pub tells : Each T (ends_at place)
  pub reclaims : ℕ
  pub moves : Moves (for_place place reclaims) old new
  pub keeps : Keeps old new

record Settled (T : End → Type 0) (old new : State) : Type 0 where
  whole : WholePlace
  tells : Each T (whole_ends whole)
  reclaims : ℕ
  moves : Moves (for_whole whole reclaims) old new
  keeps : Keeps old new

record Appended (T : Option Why → Type 0) (old new : State) : Type 0 where
  lack : Option Why
  tells : T lack
  reclaims : ℕ
  moves : Moves (for_copy lack reclaims) old new
  keeps : Keeps old new

record Delivered (T : ℕ → Option Why → Type 0) (tos : List Socket) (old new : State) : Type 0 where
  first : Copy
  more : List Copy
  fds : map (λ (copy : Copy). copy.fd) (first ∷ more) ≡ map (λ (to : Socket). to.fd) tos
  tells : Each (λ (copy : Copy). T copy.fd copy.lack) (first ∷ more)
  reclaims : ℕ
  moves : Moves (for_whole (Copied first more) reclaims) old new
  keeps : Keeps old new

abbrev pub telling : (End → Type 0) → Saying
telling T = λ end new is. T end × (new ≡ is)

module _ (L : Ledger) where
  pub by_buffers : (old new : State) (held : Weight) (n : Need) (answer : Bool) → HasBuffers L old held n answer new
      → Freed old new
  by_buffers old new held n true (inl a) =
      subst (Freed old) (sym a.1) (record { reclaims = 0; moves = move_nothing old; keeps = keeps_same old })
  by_buffers old new held n true (inr a) =
      subst (Freed old) (sym a.1)
      (record { reclaims = length old.unfinished; moves = move_reclaims old; keeps = keeps_reclaims old })
  by_buffers old new held n false a =
      subst (Freed old) (sym a.1)
      (record { reclaims = length old.unfinished; moves = move_reclaims old; keeps = keeps_reclaims old })

  by_tests : {R : Type 0} (old : State) (held : Weight) (n : ℕ) (Fails Then : State → Type 0)
      → Arrival.TestsAs L old held n Fails Then → ((mid : State) → Freed old mid → Then mid → R)
      → ((mid : State) → Freed old mid → Fails (ends NoBufs mid) → R) → R
  by_tests old held n Fails Then t goes lacks =
      let f = by_buffers old t.mid held (need_mbufs n) t.answer t.has_buffers in
      by_choice t.goes_on (λ e h. goes t.mid f h) (λ e h. lacks t.mid f h)

  -- ---- one socket

  appended_after : (T : Option Why → Type 0) (old mid new : State) → Freed old mid → Appended T mid new
      → Appended T old new
  appended_after T old mid new f a = record {
    lack = a.lack;
    tells = a.tells;
    reclaims = f.reclaims + a.reclaims;
    moves =
        move_as (both (reclaiming f.reclaims) (for_copy a.lack a.reclaims)) (for_copy a.lack (f.reclaims + a.reclaims))
        old new
        (record {
          counts = λ k. omega arith;
          reclaims = refl;
          ends = refl;
          begins = refl;
          gets = omega arith;
          leaves = refl;
        }) (move_both _ _ old mid new f.moves a.moves);
    keeps = keeps_both old mid new f.keeps a.keeps;
  }

  lost_copy : (T : Option Why → Type 0) (why : Why) (s new : State) → T (Some why) × (new ≡ ends why s)
      → Appended T s new
  lost_copy T why s new (tell, is) = subst (Appended T s) (sym is) (record {
    lack = Some why;
    tells = tell;
    reclaims = 0;
    moves = move_ends why s;
    keeps = keeps_counts _ s;
  })

  appends : (T : Option Why → Type 0) (held : Weight) (sender : Addr) (item : Item) (to : Socket) (old new : State)
      → IsOnce old to.fd → Arrival.AppendsAs L (λ lack new is. T lack × (new ≡ is)) held sender item to old new
      → Appended T old new
  appends T held sender item to old new once h = by_choice h
      (λ e t. by_tests old (held ⊕ item.weight) 1 _ _ t
      (λ mid f (tell, is). appended_after T old mid new f (subst (Appended T mid) (sym is) (record {
        lack = None;
        tells = tell;
        reclaims = 0;
        moves = move_queues to.fd _ mid (f.keeps.fds to.fd ∙ once);
        keeps = keeps_queues to.fd _ mid;
      })))
      (λ mid f l. appended_after T old mid new f (lost_copy T NoBufs mid new l)))
      (λ e l. lost_copy T UdpFullSocket old new l)

  -- ---- all sockets that match

  still_once : (old new : State) → Keeps old new → (tos : List Socket)
      → Each (λ (to : Socket). IsOnce old to.fd) tos
      → Each (λ (to : Socket). IsOnce new to.fd) tos
  still_once old new keeps tos h = each-weaker (λ (to : Socket) once. keeps.fds to.fd ∙ once) tos h

  one_more : (T : ℕ → Option Why → Type 0) (to : Socket) (tos : List Socket) (old mid new : State)
      → Appended (T to.fd) old mid → Delivered T tos mid new → Delivered T (to ∷ tos) old new
  one_more T to tos old mid new a d = record {
    first = record { fd = to.fd; lack = a.lack };
    more = d.first ∷ d.more;
    fds = ap (λ fds. to.fd ∷ fds) d.fds;
    tells = (a.tells, d.tells);
    reclaims = a.reclaims + d.reclaims;
    moves =
        move_as (both (for_copy a.lack a.reclaims) (for_whole (Copied d.first d.more) d.reclaims))
        (for_whole (Copied (record { fd = to.fd; lack = a.lack }) (d.first ∷ d.more)) (a.reclaims + d.reclaims)) old new
        (record {
          counts = λ k. omega (arith, sum_by-cons (λ (copy : Copy). counts_for k copy.lack) d.first d.more);
          reclaims = refl;
          ends = refl;
          begins = refl;
          gets = omega (arith, sum_by-cons (λ (copy : Copy). gets copy.lack) d.first d.more);
          leaves = refl;
        }) (move_both _ _ old mid new a.moves d.moves);
    keeps = keeps_both old mid new a.keeps d.keeps;
  }

  only_one : (T : ℕ → Option Why → Type 0) (to : Socket) (old new : State) → Appended (T to.fd) old new
      → Delivered T (to ∷ []) old new
  only_one T to old new a = record {
    first = record { fd = to.fd; lack = a.lack };
    more = [];
    fds = refl;
    tells = (a.tells, tt);
    reclaims = a.reclaims;
    moves =
        move_as (for_copy a.lack a.reclaims)
        (for_whole (Copied (record { fd = to.fd; lack = a.lack }) []) a.reclaims) old new
        (record {
          counts = λ k. omega arith;
          reclaims = refl;
          ends = refl;
          begins = refl;
          gets = omega arith;
          leaves = refl;
        }) a.moves;
    keeps = a.keeps;
  }

  delivers : (T : ℕ → Option Why → Type 0) (held : Weight) (sender : Addr) (item : Item) (tos : List Socket)
      (old new : State)
      → Each (λ (to : Socket). IsOnce old to.fd) tos
      → Arrival.DeliversAs L (λ fd lack new is. T fd lack × (new ≡ is)) held sender item tos old new
      → Delivered T tos old new
  delivers T held sender item [] old new once h = absurd h
  delivers T held sender item (last ∷ []) old new once h =
      only_one T last old new (appends (T last.fd) held sender item last old new once.0 h)
  delivers T held sender item (to ∷ next ∷ more) old new once (after, t, later) =
      let a : Appended (T to.fd) old after =
      by_tests old (held ⊕ item.weight) item.weight.mbufs _ _ t
      (λ mid f r. appended_after (T to.fd) old mid after f
      (appends (T to.fd) (held ⊕ item.weight) sender item to mid after (f.keeps.fds to.fd ∙ once.0) r))
      (λ mid f l. appended_after (T to.fd) old mid after f (lost_copy (T to.fd) NoBufs mid after l)) in
      one_more T to (next ∷ more) old after new a
      (delivers T held sender item (next ∷ more) after new (still_once old after a.keeps (next ∷ more) once.1) later)

  -- ---- a whole datagram

  lost_whole : (T : End → Type 0) (why : Why) (s new : State) → T (Ended why) × (new ≡ ends why s) → Settled T s new
  lost_whole T why s new (tell, is) = subst (Settled T s) (sym is) (record {
    whole = Lost why;
    tells = (tell, tt);
    reclaims = 0;
    moves = move_ends why s;
    keeps = keeps_counts _ s;
  })

  goes_to : (T : End → Type 0) (held : Weight) (sender : Addr) (item : Item) (destination : ℕ) (tos : List Socket)
      (old new : State) → Each (λ (to : Socket). IsOnce old to.fd) tos
      → Arrival.GoesToAs L (telling T) held sender item destination tos old new → Settled T old new
  goes_to T held sender item destination [] old new once h = lost_whole T _ old new h
  goes_to T held sender item destination (to ∷ more) old new once h =
      let d = delivers (λ fd lack. T (Offered (map (λ (socket : Socket). socket.fd) (to ∷ more)) fd lack)) held sender
      item (to ∷ more) old new once h in
      record {
        whole = Copied d.first d.more;
        tells =
            subst (λ fds. Each T (map (λ (copy : Copy). Offered fds copy.fd copy.lack) (d.first ∷ d.more))) (sym d.fds)
            (each-map_to T
            (λ (copy : Copy). Offered (map (λ (socket : Socket). socket.fd) (to ∷ more)) copy.fd copy.lack)
            (λ copy is. is) (d.first ∷ d.more) d.tells);
        reclaims = d.reclaims;
        moves = d.moves;
        keeps = d.keeps;
      }

  whole_arrives : (T : End → Type 0) (held : Weight) (source destination protocol : ℕ) (item : Item) (old new : State)
      → AreDistinct old → Arrival.WholeArrivesAs L (telling T) held source destination protocol item old new
      → Settled T old new
  whole_arrives T held source destination protocol item old new distinct h = by_choice h
      (λ e c. by_case c
      (λ e g. goes_to T held _ _ destination _ old new (matching_once old destination _ distinct) g)
      (λ why e l. lost_whole T why old new l))
      (λ e l. lost_whole T NoProtocol old new l)

  -- ---- a fragment, since its arrival

  record IsPart (start old : State) (first : Bool) : Type 0 where
    reclaims : ℕ
    moves : Moves (for_part first reclaims) start old
    keeps : Keeps start old

  lost_part : (T : End → Type 0) (why : Why) (start s new : State) → IsPart start s false
      → T (Ended why) × (new ≡ ends why s) → Placed T start new
  lost_part T why start s new p (tell, is) = subst (Placed T start) (sym is) (record {
    place = Part why;
    tells = (tell, tt);
    reclaims = p.reclaims;
    moves =
        move_as (both (for_part false p.reclaims) (counting (λ k. hits k (counter_of why)))) (for_place (Part why)
        p.reclaims) start _
        (record {
          counts = λ k. refl;
          reclaims = omega arith;
          ends = refl;
          begins = refl;
          gets = refl;
          leaves = refl;
        }) (move_both _ _ start s _ p.moves (move_ends why s));
    keeps = keeps_both start s _ p.keeps (keeps_counts _ s);
  })

  part_after : (start old mid : State) (first : Bool) → IsPart start old first → Freed old mid → IsPart start mid first
  part_after start old mid first p f = record {
    reclaims = p.reclaims + f.reclaims;
    moves =
        move_as (both (for_part first p.reclaims) (reclaiming f.reclaims)) (for_part first (p.reclaims + f.reclaims))
        start mid
        (record {
          counts = λ k. omega arith;
          reclaims = refl;
          ends = refl;
          begins = omega arith;
          gets = refl;
          leaves = refl;
        }) (move_both _ _ start old mid p.moves f.moves);
    keeps = keeps_both start old mid p.keeps f.keeps;
  }

  settles : (T : End → Type 0) (held : Weight) (key : Key) (bytes : Map) (start old new : State) (first : Bool)
      (u : Unfinished) → IsPart start old first → AreDistinct old → AreApart old → unfinished_at key old ≡ Some u
      → Arrival.SettlesAs L (telling T) held key bytes old new → Placed T start new
  settles T held key bytes start old new first u p distinct apart at (inl (n, w, joined, j, a)) =
      let s = whole_arrives (λ end. T (Reassembled end)) held key.source key.destination key.protocol
      (record { bytes = bytes_below bytes n; weight = joined })
      (Arrival.counts_reassembled (end_unfinished key old)) new
      (λ fd. distinct fd) a in
      record {
        place = Completes first s.whole;
        tells = each-map_to T Reassembled (λ end is. is) (whole_ends s.whole) s.tells;
        reclaims = p.reclaims + s.reclaims;
        moves =
            move_as (both (both (for_part first p.reclaims) completing) (for_whole s.whole s.reclaims))
            (for_place (Completes first s.whole) (p.reclaims + s.reclaims)) start new
            (record {
              counts = λ k. refl;
              reclaims = omega arith;
              ends = refl;
              begins = omega (arith, begins_completes first s.whole);
              gets = omega arith;
              leaves = refl;
            })
            (move_both _ _ start (Arrival.counts_reassembled (end_unfinished key old)) new
            (move_both _ _ start old _ p.moves (move_finishes key u old at (apart key))) s.moves);
        keeps =
            keeps_both start (Arrival.counts_reassembled (end_unfinished key old)) new
            (keeps_both start old _ p.keeps (keeps_finishes key old)) s.keeps;
      }
  settles T held key bytes start old new first u p distinct apart at (inr (unwhole, (tell, is))) =
      subst (Placed T start) (sym is) (record {
        place = Waits first;
        tells = (tell, tt);
        reclaims = p.reclaims;
        moves =
            move_as (both (for_part first p.reclaims) nothing_more) (for_place (Waits first) p.reclaims) start _
            (record {
              counts = λ k. omega arith;
              reclaims = omega arith;
              ends = refl;
              begins = omega (arith, begins_waits first);
              gets = refl;
              leaves = refl;
            }) (move_both _ _ start old _ p.moves (move_sets key bytes old));
        keeps = keeps_both start old _ p.keeps (keeps_sets key bytes old);
      })

  inserts : (T : End → Type 0) (held : Weight) (key : Key) (f : Fragment) (start old new : State) (u : Unfinished)
      → IsPart start old false → AreDistinct old → AreApart old → unfinished_at key old ≡ Some u
      → Arrival.InsertsAs L (telling T) held key f u old new → Placed T start new
  inserts T held key f start old new u p distinct apart at h = by_choice h
      (λ e l. lost_part T FragmentDropped start old new p l)
      (λ e s. settles T held key (overlay u.bytes f) start old new false u p distinct apart at s)

  -- the first of its datagram
  begun_part : (key : Key) (start old : State) → unfinished_at key old ≡ None → IsPart start old false
      → IsPart start (begin_unfinished key old) true
  begun_part key start old none p = record {
    reclaims = p.reclaims;
    moves =
        move_as (both (for_part false p.reclaims) beginning) (for_part true p.reclaims) start _
        (record {
          counts = λ k. omega arith;
          reclaims = omega arith;
          ends = refl;
          begins = refl;
          gets = refl;
          leaves = refl;
        }) (move_both _ _ start old _ p.moves (move_begins key old));
    keeps = keeps_both start old _ p.keeps (keeps_begins key old none);
  }

  begins_datagram : (T : End → Type 0) (held : Weight) (key : Key) (f : Fragment) (start old new : State)
      → 0 < length f.bytes → unfinished_at key old ≡ None → IsPart start old false → AreDistinct old → AreApart old
      → Arrival.InsertsAs L (telling T) held key f (begun key) (begin_unfinished key old) new → Placed T start new
  begins_datagram T held key f start old new some none p distinct apart h = by_choice h
      (λ e l. absurd (not_covered f some e))
      (λ e s. settles T held key (overlay empty f) start (begin_unfinished key old) new true (begun key)
      (begun_part key start old none p) (λ fd. distinct fd) ((keeps_begins key old none).keys apart)
      (begins_this key old.unfinished none) s)

  -- a reclaim leaves no datagram with the key
  still_none : (key : Key) (old mid : State) (held : Weight) (n : Need) (answer : Bool)
      → HasBuffers L old held n answer mid → unfinished_at key old ≡ None → unfinished_at key mid ≡ None
  still_none key old mid held n true (inl a) none = subst (λ s. unfinished_at key s ≡ None) (sym a.1) none
  still_none key old mid held n true (inr a) none = subst (λ s. unfinished_at key s ≡ None) (sym a.1) refl
  still_none key old mid held n false a none = subst (λ s. unfinished_at key s ≡ None) (sym a.1) refl

  still_distinct : (old new : State) → Keeps old new → AreDistinct old → AreDistinct new
  still_distinct old new keeps distinct fd = let most = distinct fd in omega (arith, keeps.fds fd, most)

  joins : (T : End → Type 0) (held : Weight) (key : Key) (f : Fragment) (start old new : State) → 0 < length f.bytes
      → IsPart start old false → AreDistinct old → AreApart old
      → Arrival.JoinsAs L (telling T) held key f old new → Placed T start new
  joins T held key f start old new some p distinct apart h = by_case h
      (λ none t.
      let freed = by_buffers old t.mid (held ⊕ f.weight) (need_mbufs 1) t.answer t.has_buffers in
      by_choice t.goes_on
      (λ e i. begins_datagram T held key f start t.mid new some
      (still_none key old t.mid (held ⊕ f.weight) (need_mbufs 1) t.answer t.has_buffers none)
      (part_after start old t.mid false p freed) (still_distinct old t.mid freed.keeps distinct)
      (freed.keeps.keys apart) i)
      (λ e l. lost_part T NoBufs start t.mid new (part_after start old t.mid false p freed) l))
      (λ u at i. inserts T held key f start old new u p distinct apart at i)

  pulls_up : (T : End → Type 0) (origin : Origin) (held w : Weight) (total : ℕ) (start old new : State)
      (Then : Weight → State → Type 0)
      → IsPart start old false → AreDistinct old → AreApart old
      → ((w : Weight) (mid : State) → IsPart start mid false → AreDistinct mid → AreApart mid → Then w mid
      → Placed T start new)
      → Arrival.PullsUpAs L (telling T) origin held w total old new Then → Placed T start new
  pulls_up T Looped held w total start old new Then p distinct apart goes h = goes w old p distinct apart h
  pulls_up T (By_wire received) held w total start old new Then p distinct apart goes h = by_choice h
      (λ e t. by_tests old (held ⊕ w) 1 _ _ t
      (λ mid f r. goes _ mid (part_after start old mid false p f) (still_distinct old mid f.keeps distinct)
      (f.keeps.keys apart) r)
      (λ mid f l. lost_part T NoBufs start mid new (part_after start old mid false p f) l))
      (λ e r. goes w old p distinct apart r)

  -- ---- packets

  alone : (T : End → Type 0) (start new : State) → Settled T (Arrival.counts_packet start) new → Placed T start new
  alone T start new s = record {
    place = Alone s.whole;
    tells = s.tells;
    reclaims = s.reclaims;
    moves =
        move_as (both (counting (λ k. hits k IpTotal)) (for_whole s.whole s.reclaims)) (for_place (Alone s.whole)
        s.reclaims) start new
        (record {
          counts = λ k. refl;
          reclaims = omega arith;
          ends = refl;
          begins = refl;
          gets = omega arith;
          leaves = refl;
        }) (move_both _ _ start (Arrival.counts_packet start) new (move_counts IpTotal start) s.moves);
    keeps = keeps_both start (Arrival.counts_packet start) new (keeps_counts _ start) s.keeps;
  }

  fragment : (start : State) → IsPart start (Arrival.counts_fragment (Arrival.counts_packet start)) false
  fragment start = record {
    reclaims = 0;
    moves =
        move_as (both (counting (λ k. hits k IpTotal)) (counting (λ k. hits k IpFragments))) (for_part false 0) start _
        (record {
          counts = λ k. refl;
          reclaims = refl;
          ends = refl;
          begins = refl;
          gets = refl;
          leaves = refl;
        })
        (move_both _ _ start (Arrival.counts_packet start) _ (move_counts IpTotal start)
        (move_counts IpFragments (Arrival.counts_packet start)));
    keeps = keeps_counts _ start;
  }

  not_empty : (n : ℕ) (b c : Bool) → ((n == 0) || b || c) ≡ false → 0 < n
  not_empty zero b c e = absurd (never e)
    where
      never : true ≡ false → ⊥
      never e = cc
  not_empty (suc n) b c e = omega arith

  pub arrives : (T : End → Type 0) (origin : Origin) (held : Weight) (item : Item) (old new : State)
      → AreDistinct old → AreApart old → Arrival.ArrivesAs L (telling T) origin held item old new → Placed T old new
  arrives T origin held item old new distinct apart h = by_case h
      (λ e c. by_choice c
      (λ ours c. by_choice c
      (λ part c. by_choice c
      (λ bad l. alone T old new (lost_whole T BadFragment (Arrival.counts_packet old) new l))
      (λ good p. pulls_up T origin held _ _ old (Arrival.counts_fragment (Arrival.counts_packet old)) new _
      (fragment old) (λ fd. distinct fd) (λ k. apart k)
      (λ w mid p d a j. joins T held _ _ old mid new (not_empty _ _ _ good) p d a j) p))
      (λ whole w. alone T old new (whole_arrives T held _ _ _ (Arrival.carried item) (Arrival.counts_packet old) new
      (λ fd. distinct fd) w)))
      (λ other l. alone T old new (lost_whole T CantForward (Arrival.counts_packet old) new l)))
      (λ why e l. alone T old new (lost_whole T why (Arrival.counts_packet old) new l))

  placed_after : (T : End → Type 0) (old mid new : State) → Freed old mid → Placed T mid new → Placed T old new
  placed_after T old mid new f p = record {
    place = p.place;
    tells = p.tells;
    reclaims = f.reclaims + p.reclaims;
    moves =
        move_as (both (reclaiming f.reclaims) (for_place p.place p.reclaims)) (for_place p.place
        (f.reclaims + p.reclaims)) old new
        (record {
          counts = λ k. omega arith;
          reclaims = refl;
          ends = omega arith;
          begins = omega arith;
          gets = omega arith;
          leaves = refl;
        }) (move_both _ _ old mid new f.moves p.moves);
    keeps = keeps_both old mid new f.keeps p.keeps;
  }

  outside : (T : End → Type 0) (s new : State) → T (Ended NoBufs) × (new ≡ ends NoBufs s) → Placed T s new
  outside T s new (tell, is) = subst (Placed T s) (sym is) (record {
    place = Outside;
    tells = (tell, tt);
    reclaims = 0;
    moves = move_ends NoBufs s;
    keeps = keeps_counts _ s;
  })

  -- a packet from the wire
  pub comes_in : (T : End → Type 0) (packet : List ℕ) (old new : State) → AreDistinct old → AreApart old
      → ComesInAs L (telling T) packet old new → Placed T old new
  comes_in T packet old new distinct apart (answer, mid, has, c) =
      let f = by_buffers old mid nothing (need_of (wire (length packet))) answer has in
      by_choice c
      (λ e (clusters, taken, r). placed_after T old mid new f
      (arrives T (By_wire (length packet)) nothing
      (record { bytes = packet; weight = weight_of (entries_on clusters (wire (length packet))) }) mid new
      (still_distinct old mid f.keeps distinct) (f.keeps.keys apart) r))
      (λ e l. placed_after T old mid new f (outside T mid new l))

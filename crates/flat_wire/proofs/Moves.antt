-- What a step changes in the counters, the queues and the unfinished datagrams, by numbers.
use Rattle.std.proofs.Common.{◌≡◌, ℕ, ◌+◌, ◌-◌, ◌^◌, ◌<◌, ◌≤◌, Bool, true, false, [], ◌∷◌, ◌++◌, length, refl, sym, ◌∙◌, ap, subst, arith, Some, None, cond}
use Rattle.std.specs.Prelude.{◌==◌, not, min, count_by, filter}
use Rattle.std.proofs.lemmas.List.{length-append, length-map}
use Rattle.flat_model.specs.Fragments.Overlay.{Map}
use Rattle.flat_model.specs.Machine.Count.{counted, counter_of, counter_place, counts_more, value_of}
use Rattle.flat_model.specs.Machine.State.{State, Socket, Datagram, Key, Unfinished, begun, begin_unfinished, change_socket, end_unfinished, ends, is_key, set_bytes, unfinished_at}
use Rattle.flat_model.specs.Machine.Ledger.{reclaimed}
use Rattle.flat_model.specs.Machine.Arrival as Arrival
use Rattle.flat_model.specs.declared.counter.Counter.{Counter}
use Rattle.flat_model.specs.declared.counter.Counter.TheVariants.{IpTotal, IpToosmall, IpBadvers, IpBadhlen, IpOptions, IpBadsum, IpBadlen, IpTooshort, IpCantforward, IpBadfrag, IpFragments, IpFragdropped, IpFragtimeout, IpReclaimed, IpReassembled, IpNoproto, UdpHdrops, UdpBadlen, UdpBadsum, UdpNoport, UdpNoportbcast, UdpFullsock, IpLocalout, IpFragmented, OutDropped, Nobufs}
use Rattle.flat_model.specs.declared.counters.Counters.{Counters}
use Rattle.flat_model.specs.declared.counters.Why.{Why}
use Rattle.flat_model.proofs.Laws.{count_cons, count-append, whole_key}
use Rattle.flat_wire.specs.Places.{hits, in_queues}
use Rattle.flat_wire.proofs.Tallies.{none_passes, count-changed, count-less, sum-grown, sum-removed, length-sum}

-- ---- counters

-- n if the two are the same counter
abbrev pub at : Counter → Counter → ℕ → ℕ
at k c n = cond (counter_place k == counter_place c) n 0

-- a counter after another, or itself, counted n more
pub value_counts : (k c : Counter) (n : ℕ) (cs : Counters) → value_of k (counts_more c n cs)
    ≡ cond (counter_place k == counter_place c) (min (value_of k cs + n) (2 ^ 64 - 1)) (value_of k cs)
value_counts IpTotal c n cs = refl
value_counts IpToosmall c n cs = refl
value_counts IpBadvers c n cs = refl
value_counts IpBadhlen c n cs = refl
value_counts IpOptions c n cs = refl
value_counts IpBadsum c n cs = refl
value_counts IpBadlen c n cs = refl
value_counts IpTooshort c n cs = refl
value_counts IpCantforward c n cs = refl
value_counts IpBadfrag c n cs = refl
value_counts IpFragments c n cs = refl
value_counts IpFragdropped c n cs = refl
value_counts IpFragtimeout c n cs = refl
value_counts IpReclaimed c n cs = refl
value_counts IpReassembled c n cs = refl
value_counts IpNoproto c n cs = refl
value_counts UdpHdrops c n cs = refl
value_counts UdpBadlen c n cs = refl
value_counts UdpBadsum c n cs = refl
value_counts UdpNoport c n cs = refl
value_counts UdpNoportbcast c n cs = refl
value_counts UdpFullsock c n cs = refl
value_counts IpLocalout c n cs = refl
value_counts IpFragmented c n cs = refl
value_counts OutDropped c n cs = refl
value_counts Nobufs c n cs = refl

-- as long as it hasn't stopped, it counts each
pub counts_exactly : (k c : Counter) (n : ℕ) (cs : Counters) → value_of k (counts_more c n cs) < 2 ^ 64 - 1
    → value_of k (counts_more c n cs) ≡ value_of k cs + at k c n
counts_exactly k c n cs low = go (counter_place k == counter_place c) (value_counts k c n cs)
  where
    go : (b : Bool)
        → value_of k (counts_more c n cs) ≡ cond b (min (value_of k cs + n) (2 ^ 64 - 1)) (value_of k cs)
        → value_of k (counts_more c n cs) ≡ value_of k cs + cond b n 0
    go true e = omega (arith, e, low)
    go false e = omega (arith, e)

-- ---- changes

pub record Change : Type 0 where
  pub counts : Counter → ℕ  -- how many more each counter counts
  pub reclaims : ℕ  -- how many unfinished datagrams are reclaimed
  pub ends : ℕ  -- how many are completed or expire
  pub begins : ℕ  -- how many begin
  pub gets : ℕ  -- how many datagrams the queues get
  pub leaves : ℕ  -- and how many leave them

pub record Moves (c : Change) (old new : State) : Type 0 where
  pub counters : (k : Counter) → value_of k new.counters < 2 ^ 64 - 1
      → value_of k new.counters ≡ value_of k old.counters + c.counts k + at k IpReclaimed c.reclaims
  pub queues : in_queues old + c.gets ≡ in_queues new + c.leaves
  pub unfinished : length old.unfinished + c.begins ≡ length new.unfinished + c.reclaims + c.ends

-- what an arrival leaves as it is, so that each change stays the only one
pub record Keeps (old new : State) : Type 0 where
  pub fds : (fd : ℕ) → count_by (λ (socket : Socket). socket.fd == fd) new.sockets
      ≡ count_by (λ (socket : Socket). socket.fd == fd) old.sockets
  pub keys : ((k : Key) → count_by (is_key k) old.unfinished ≤ 1) → (k : Key) → count_by (is_key k) new.unfinished ≤ 1
  pub config : new.config ≡ old.config
  pub output : new.output ≡ old.output

pub keeps_same : (s : State) → Keeps s s
keeps_same s = record { fds = λ fd. refl; keys = λ h. h; config = refl; output = refl }

pub keeps_both : (s t u : State) → Keeps s t → Keeps t u → Keeps s u
keeps_both s t u a b = record {
  fds = λ fd. b.fds fd ∙ a.fds fd;
  keys = λ h. b.keys (a.keys h);
  config = b.config ∙ a.config;
  output = b.output ∙ a.output;
}

abbrev pub nothing_more : Change
nothing_more = record { counts = λ k. 0; reclaims = 0; ends = 0; begins = 0; gets = 0; leaves = 0 }

abbrev pub both : Change → Change → Change
both a b = record {
  counts = λ k. a.counts k + b.counts k;
  reclaims = a.reclaims + b.reclaims;
  ends = a.ends + b.ends;
  begins = a.begins + b.begins;
  gets = a.gets + b.gets;
  leaves = a.leaves + b.leaves;
}

at_sum : (k c : Counter) (m n : ℕ) → at k c (m + n) ≡ at k c m + at k c n
at_sum k c m n = go (counter_place k == counter_place c)
  where
    go : (b : Bool) → cond b (m + n) 0 ≡ cond b m 0 + cond b n 0
    go true = refl
    go false = omega arith

at_nothing : (k c : Counter) → at k c 0 ≡ 0
at_nothing k c = go (counter_place k == counter_place c)
  where
    go : (b : Bool) → cond {A = ℕ} b 0 0 ≡ 0
    go true = refl
    go false = refl

pub move_nothing : (s : State) → Moves nothing_more s s
move_nothing s = record {
  counters = λ k low. omega (arith, at_nothing k IpReclaimed);
  queues = refl;
  unfinished = omega arith;
}

pub move_both : (a b : Change) (s t u : State) → Moves a s t → Moves b t u → Moves (both a b) s u
move_both a b s t u m n = record {
  counters = λ k low.
      let second = n.counters k low in
      let first = m.counters k (omega (arith, second, low)) in
      omega (arith, second, first, at_sum k IpReclaimed a.reclaims b.reclaims);
  queues = omega (arith, m.queues, n.queues);
  unfinished = omega (arith, m.unfinished, n.unfinished);
}

-- the same change in other words
pub record AreSame (a b : Change) : Type 0 where
  pub counts : (k : Counter) → a.counts k ≡ b.counts k
  pub reclaims : a.reclaims ≡ b.reclaims
  pub ends : a.ends ≡ b.ends
  pub begins : a.begins ≡ b.begins
  pub gets : a.gets ≡ b.gets
  pub leaves : a.leaves ≡ b.leaves

pub move_as : (a b : Change) (s t : State) → AreSame a b → Moves a s t → Moves b s t
move_as a b s t same m = record {
  counters = λ k low.
      omega (arith, m.counters k low, same.counts k, ap (at k IpReclaimed) same.reclaims);
  queues = omega (arith, m.queues, same.gets, same.leaves);
  unfinished = omega (arith, m.unfinished, same.reclaims, same.ends, same.begins);
}

-- ---- the effects of an arrival

abbrev pub counting : (Counter → ℕ) → Change
counting f = record { counts = f; reclaims = 0; ends = 0; begins = 0; gets = 0; leaves = 0 }

abbrev pub reclaiming : ℕ → Change
reclaiming r = record { counts = λ k. 0; reclaims = r; ends = 0; begins = 0; gets = 0; leaves = 0 }

pub move_counts : (c : Counter) (s : State)
    → Moves (counting (λ k. hits k c)) s (record s { counters = counts_more c 1 s.counters })
move_counts c s = record {
  counters = λ k low. omega (arith, counts_exactly k c 1 s.counters low, at_nothing k IpReclaimed);
  queues = refl;
  unfinished = omega arith;
}

counted_is : (why : Why) (cs : Counters) → counted why cs ≡ counts_more (counter_of why) 1 cs
unfolding counted
counted_is why cs = refl

pub move_ends : (why : Why) (s : State) → Moves (counting (λ k. hits k (counter_of why))) s (ends why s)
move_ends why s =
    subst (λ (cs : Counters). Moves (counting (λ k. hits k (counter_of why))) s (record s { counters = cs }))
    (sym (counted_is why s.counters)) (move_counts (counter_of why) s)

pub keeps_counts : (cs : Counters) (s : State) → Keeps s (record s { counters = cs })
keeps_counts cs s = record { fds = λ fd. refl; keys = λ h. h; config = refl; output = refl }

pub move_reclaims : (s : State) → Moves (reclaiming (length s.unfinished)) s (reclaimed s)
move_reclaims s = record {
  counters = λ k low. omega (arith, counts_exactly k IpReclaimed (length s.unfinished) s.counters low);
  queues = refl;
  unfinished = omega arith;
}

pub keeps_reclaims : (s : State) → Keeps s (reclaimed s)
keeps_reclaims s = record { fds = λ fd. refl; keys = λ h k. omega arith; config = refl; output = refl }

abbrev pub getting : ℕ → Change
getting n = record { counts = λ k. 0; reclaims = 0; ends = 0; begins = 0; gets = n; leaves = 0 }

pub move_queues : (fd : ℕ) (d : Datagram) (s : State) → count_by (λ (socket : Socket). socket.fd == fd) s.sockets ≡ 1
    → Moves (getting 1) s (change_socket fd (Arrival.with_datagram d) s)
move_queues fd d s one = record {
  counters = λ k low. omega (arith, at_nothing k IpReclaimed);
  queues =
      omega (
        arith,
        one,
        sum-grown (λ (socket : Socket). socket.fd == fd) (λ (socket : Socket). length socket.queue)
            (Arrival.with_datagram d) (λ x. length-append x.queue (d ∷ [])) s.sockets,
      );
  unfinished = omega arith;
}

pub keeps_queues : (fd : ℕ) (d : Datagram) (s : State) → Keeps s (change_socket fd (Arrival.with_datagram d) s)
keeps_queues fd d s = record {
  fds = λ other. count-changed (λ (socket : Socket). socket.fd == other) _ (λ x. go other x (x.fd == fd)) s.sockets;
  keys = λ h. h;
  config = refl;
  output = refl;
}
  where
    go : (other : ℕ) (x : Socket) (b : Bool) → ((cond b (Arrival.with_datagram d x) x).fd == other) ≡ (x.fd == other)
    go other x true = refl
    go other x false = refl

abbrev pub beginning : Change
beginning = record { counts = λ k. 0; reclaims = 0; ends = 0; begins = 1; gets = 0; leaves = 0 }

pub move_begins : (key : Key) (s : State) → Moves beginning s (begin_unfinished key s)
move_begins key s = record {
  counters = λ k low. omega (arith, at_nothing k IpReclaimed);
  queues = refl;
  unfinished = omega (arith, length-append s.unfinished (begun key ∷ []));
}

pub keeps_begins : (key : Key) (s : State) → unfinished_at key s ≡ None → Keeps s (begin_unfinished key s)
keeps_begins key s none = record {
  fds = λ fd. refl;
  keys = λ h k. go h k (is_key k (begun key)) refl;
  config = refl;
  output = refl;
}
  where
    go : ((k : Key) → count_by (is_key k) s.unfinished ≤ 1) → (k : Key) (b : Bool) → is_key k (begun key) ≡ b
        → count_by (is_key k) (s.unfinished ++ begun key ∷ []) ≤ 1
    go h k true e =
        let same : key ≡ k = (whole_key k (begun key)).0 e in
        let empty : count_by (is_key k) s.unfinished ≡ 0 =
        subst (λ k. count_by (is_key k) s.unfinished ≡ 0) same (none_passes (is_key key) s.unfinished none) in
        let one : cond {A = ℕ} (is_key k (begun key)) 1 0 ≡ 1 = ap (λ b. cond {A = ℕ} b 1 0) e in
        omega (arith, count-append (is_key k) s.unfinished (begun key ∷ []), count_cons (is_key k) (begun key) [])
    go h k false e =
        let le = h k in
        let zero_here : cond {A = ℕ} (is_key k (begun key)) 1 0 ≡ 0 = ap (λ b. cond {A = ℕ} b 1 0) e in
        omega (arith, count-append (is_key k) s.unfinished (begun key ∷ []), count_cons (is_key k) (begun key) [])

pub move_sets : (key : Key) (bytes : Map) (s : State) → Moves nothing_more s (set_bytes key bytes s)
move_sets key bytes s = record {
  counters = λ k low. omega (arith, at_nothing k IpReclaimed);
  queues = refl;
  unfinished =
      omega (arith, length-map s.unfinished (λ (u : Unfinished). cond (is_key key u) (record u { bytes = bytes }) u));
}

pub keeps_sets : (key : Key) (bytes : Map) (s : State) → Keeps s (set_bytes key bytes s)
keeps_sets key bytes s = record {
  fds = λ fd. refl;
  keys = λ h k. let le = h k in
      let same = count-changed (is_key k) (λ (u : Unfinished). cond (is_key key u) (record u { bytes = bytes }) u)
      (λ u. go k u (is_key key u)) s.unfinished in
      omega arith;
  config = refl;
  output = refl;
}
  where
    go : (k : Key) (u : Unfinished) (b : Bool) → is_key k (cond b (record u { bytes = bytes }) u) ≡ is_key k u
    go k u true = refl
    go k u false = refl

-- a datagram that is complete
abbrev pub completing : Change
completing =
    record { counts = λ k. hits k IpReassembled; reclaims = 0; ends = 1; begins = 0; gets = 0; leaves = 0 }

pub move_finishes : (key : Key) (u : Unfinished) (s : State) → unfinished_at key s ≡ Some u
    → count_by (is_key key) s.unfinished ≤ 1 → Moves completing s (Arrival.counts_reassembled (end_unfinished key s))
move_finishes key u s at_key one = record {
  counters = λ k low. omega (arith, counts_exactly k IpReassembled 1 s.counters low, at_nothing k IpReclaimed);
  queues = refl;
  unfinished =
      let removed = sum-removed (is_key key) (λ u. 1) s.unfinished u one at_key in
      omega (arith, removed, length-sum s.unfinished, length-sum (filter (λ u. not (is_key key u)) s.unfinished));
}

pub keeps_finishes : (key : Key) (s : State) → Keeps s (Arrival.counts_reassembled (end_unfinished key s))
keeps_finishes key s = record {
  fds = λ fd. refl;
  keys = λ h k. let le = h k in
      let less = count-less (is_key k) (λ u. not (is_key key u)) s.unfinished in
      omega arith;
  config = refl;
  output = refl;
}

-- Every arrival keeps the invariant of the state, and never holds more buffers than there are.
use Rattle.std.proofs.Common.{◌≡◌, ℕ, zero, suc, ◌+◌, ◌*◌, ◌<◌, ◌≤◌, Bool, true, false, List, [], ◌∷◌, ◌++◌, length, take, drop, refl, sym, ◌∙◌, ap, subst, eq-eqb, arith, Option, Some, None, cond, ◌⊎◌, inl, inr}
use Rattle.std.specs.Prelude.{◌==◌, not, nat_lt, count_by}
use Rattle.std.specs.List.{AllByRecursion as Each}
use Rattle.std.proofs.lemmas.Bool.{ltb-false, leb-true, and_parts, and_from, or_parts}
use Rattle.std.proofs.lemmas.Option.{none-some}
use Rattle.std.proofs.lemmas.List.{length-take, length-drop, length-map, length-append}
use Rattle.std.proofs.lemmas.List.FromFn.{length-map-range_with_len}
use Rattle.flat_model.specs.declared.lookup_key.LookupKey.{LookupKey}
use Rattle.flat_model.specs.Amounts.Weight.{Weight, Item, mbuf, ◌⊕◌, all_of}
use Rattle.flat_model.specs.Amounts.Layout.{Need}
use Rattle.flat_model.specs.Packets.Header.{Head, head_of, total_of, u16_at, udp_bytes}
use Rattle.flat_model.specs.Fragments.Overlay.{Map, Fragment, fragment_end, overlay}
use Rattle.flat_model.specs.Fragments.Whole.{bytes_below, byte_of, weight_of_pieces}
use Rattle.flat_model.specs.Machine.State.{State, Socket, Datagram, Key, Unfinished, change_socket, is_key, socket_at, unfinished_at, begun, begin_unfinished, set_bytes, end_unfinished, ends}
use Rattle.flat_model.specs.Machine.Ledger.{HasBuffers, need_mbufs, reclaimed, weight_of_state, has_enough, free_mbufs, exact_ledger}
use Rattle.flat_model.specs.Machine.Arrival as Arrival
use Rattle.flat_model.specs.Machine.Arrival.{Origin, By_wire, Looped}
use Rattle.flat_model.specs.Runs.Consistent.{Carries, IsQueued, IsSocket, IsMap, IsWaiting, IsOutput}
use Rattle.flat_model.specs.declared.address.Addr.{Addr}
use Rattle.flat_model.specs.declared.config.Config.{Config}
use Rattle.flat_model.specs.declared.counters.Why.{Why}
use Rattle.flat_model.specs.declared.counters.Why.TheVariants.{NoBufs, UdpFullSocket}
use Rattle.flat_model.specs.Sockets.Fits as Fits
use Rattle.flat_model.specs.Sockets.Fits.{bytes_queued, memory_queued}
use Rattle.std.proofs.lemmas.List.Sums.{sum_by-cons, sum_by-append}
use Rattle.params.specs.declared.TheConstants.{OUTPUT_QUEUE_PACKETS}
use Rattle.flat_model.proofs.Machine.Keys.{whole_key}
use Rattle.flat_model.proofs.Machine.Sockets.{find-changed}
use Rattle.flat_model.proofs.Lists.Each.{by_choice, by_case, each-map, each-map_to, each-both, each-append, each-filter, each-find}
use Rattle.flat_model.proofs.Lists.Totals.{count_cons, each_sub_bag, count-append}
use Rattle.flat_model.proofs.Fragments.Overlaid.{carries_less, pieces_bag, pieces_none, overlay_is, overlay_mbufs}
use Rattle.flat_model.proofs.Machine.KeptLists.{count-map, count-same, count-filter, none_found, find_after, mbufs-append, mbufs-without, mbufs-changed, mbufs-replaced, AreIn, Apart, the_one, matching_in}

-- ---- the state while a step holds h more mbufs

pub record AreSockets (c : Config) (sockets : List Socket) : Type 0 where
  pub each : Each (IsSocket c) sockets
  pub few : length sockets ≤ 64
  pub distinct : (fd : ℕ) → count_by (λ socket. socket.fd == fd) sockets ≤ 1

pub record AreUnfinished (c : Config) (unfinished : List Unfinished) : Type 0 where
  pub each : Each (IsWaiting c) unfinished
  pub keys : (k : Key) → count_by (is_key k) unfinished ≤ 1

pub record IsOutputQueue (c : Config) (output : List Item) : Type 0 where
  pub each : Each (IsOutput c) output
  pub short : length output ≤ OUTPUT_QUEUE_PACKETS

pub record AreNumbers (port : Option ℕ) (id : ℕ) : Type 0 where
  pub last_port : (p : ℕ) → port ≡ Some p → (1024 ≤ p) × (p ≤ 5000)
  pub next_id : id < 65536

pub record Parts (c : Config) (used : ℕ) (own : Config) (ss : List Socket) (us : List Unfinished) (os : List Item)
    (port : Option ℕ) (id : ℕ) : Type 0 where
  pub config : own ≡ c
  pub sockets : AreSockets c ss
  pub unfinished : AreUnfinished c us
  pub output : IsOutputQueue c os
  pub numbers : AreNumbers port id
  pub mbufs : used ≤ c.mbufs

-- by parts, so that a step says only those that it changes; the counters are in none
abbrev pub Good : Config → ℕ → State → Type 0
Good c h s = Parts c ((weight_of_state s).mbufs + h) s.config s.sockets s.unfinished s.output s.last_port s.next_id

pub with_parts : {c : Config} {n n' : ℕ} {own : Config} {ss ss' : List Socket} {us us' : List Unfinished}
    {os os' : List Item} {port port' : Option ℕ} {id id' : ℕ}
    → Parts c n own ss us os port id → AreSockets c ss' → AreUnfinished c us' → IsOutputQueue c os'
    → AreNumbers port' id' → n' ≤ c.mbufs → Parts c n' own ss' us' os' port' id'
with_parts good sockets unfinished output numbers mbufs = record {
  config = good.config;
  sockets = sockets;
  unfinished = unfinished;
  output = output;
  numbers = numbers;
  mbufs = mbufs;
}

abbrev pub weight_of_socket : Socket → Weight
weight_of_socket socket = all_of (λ (d : Datagram). d.item.weight) socket.queue

abbrev pub weight_of_unfinished : Unfinished → Weight
weight_of_unfinished u = mbuf ⊕ weight_of_pieces u.bytes

abbrev pub weight_of_item : Item → Weight
weight_of_item item = item.weight

-- a queue that a datagram fits into has few bytes, and little memory
pub fits_most : (limit : ℕ) (queue : List Datagram) (n memory : ℕ) → limit ≤ 65535
    → Fits.fits limit queue n memory ≡ true → (16 + n + bytes_queued queue ≤ 65535)
    × (16 + memory_queued queue ≤ 131070)
fits_most zero queue n memory le e =
    let parts = and_parts _ _ e in
    let bytes : 16 + n + bytes_queued queue ≤ 41600 = leb-true _ _ parts.0 in
    let all : 16 + n + memory_queued queue ≤ 83200 = leb-true _ _ parts.1 in
    (omega arith, omega arith)
fits_most (suc less) queue n memory le e =
    let parts = and_parts _ _ e in
    let bytes : 16 + n + bytes_queued queue ≤ suc less = leb-true _ _ parts.0 in
    let all : 128 + memory + memory_queued queue ≤ 2 * suc less = leb-true _ _ parts.1 in
    (omega arith, omega arith)

module _ (c : Config) where
  pub less_held : (g h : ℕ) (s : State) → g ≤ h → Good c h s → Good c g s
  less_held g h s le good =
      with_parts good good.sockets good.unfinished good.output good.numbers (omega (arith, good.mbufs))

  pub good_ends : (g h : ℕ) (s new : State) (why : Why) → g ≤ h → Good c h s → new ≡ ends why s → Good c g new
  good_ends g h s new why le good e =
      subst (Good c g) (sym e) (less_held g h s le good)

  pub good_reclaimed : (h : ℕ) (s : State) → Good c h s → Good c h (reclaimed s)
  good_reclaimed h s good =
      with_parts good good.sockets (record { each = tt; keys = λ k. omega arith }) good.output good.numbers
      (omega (arith, good.mbufs))

  -- if the test passes, the step can also hold the mbufs that it needs
  module _ (old new : State) (held : Weight) (need : Need) where
    room_left : (s : State) → Good c held.mbufs s → true ≡ has_enough s held need → Good c (held.mbufs + need.mbufs) s
    room_left s good e =
        let parts = and_parts _ _ (sym e) in
        let enough : need.mbufs ≤ free_mbufs s held = leb-true _ _ parts.0 in
        let total_is : s.config.mbufs ≡ c.mbufs = ap (λ (x : Config). x.mbufs) good.config in
        with_parts good good.sockets good.unfinished good.output good.numbers (omega (arith, good.mbufs))

    pub good_has_buffers : Good c held.mbufs old → HasBuffers exact_ledger old held need true new
        → Good c (held.mbufs + need.mbufs) new × ((new ≡ old) ⊎ (new ≡ reclaimed old))
    good_has_buffers good (inl (h, e)) =
        (subst (Good c (held.mbufs + need.mbufs)) (sym e) (room_left old good h), inl e)
    good_has_buffers good (inr (h, e, again)) =
        (room_left new (subst (Good c held.mbufs) (sym e) (good_reclaimed held.mbufs old good)) again, inr e)

    pub good_lacks : Good c held.mbufs old → HasBuffers exact_ledger old held need false new → Good c held.mbufs new
    good_lacks good (h, e, again) = subst (Good c held.mbufs) (sym e) (good_reclaimed held.mbufs old good)

  good_tests : (old : State) (held : Weight) (n : ℕ) (new : State) (Then : State → Type 0) (g : ℕ) → g ≤ held.mbufs
      → Good c held.mbufs old
      → ((mid : State) → Good c (held.mbufs + n) mid → ((mid ≡ old) ⊎ (mid ≡ reclaimed old)) → Then mid → Good c g new)
      → Arrival.Tests exact_ledger old held n new Then → Good c g new
  good_tests old held n new Then g le good goes t = go t.answer refl t.has_buffers
    where
      go : (b : Bool) → t.answer ≡ b → HasBuffers exact_ledger old held (need_mbufs n) b t.mid → Good c g new
      go true e a = let at = good_has_buffers old t.mid held (need_mbufs n) good a in
          goes t.mid at.0 at.1 (t.goes_on.yes e)
      go false e a =
          good_ends g held.mbufs t.mid new NoBufs le (good_lacks old t.mid held (need_mbufs n) good a) (t.goes_on.no e)

  -- ---- what an arrival changes

  pub good_queued : (h fd : ℕ) (d : Datagram) (me : Socket) (s : State) → Good c (h + d.item.weight.mbufs) s
      → IsQueued c d → socket_at fd s ≡ Some me
      → 16 + length d.item.bytes + bytes_queued me.queue ≤ 65535 → length me.queue + 1 ≤ 512
      → Good c h (change_socket fd (Arrival.with_datagram d) s)
  good_queued h fd d me s good is at room more = with_parts good (record {
    each =
        each-map_to (IsSocket c) _ (λ socket g. g) s.sockets
        (each-both (λ socket g one. go socket g (socket.fd == fd) refl one) s.sockets good.sockets.each
        (the_one fd s.sockets me (good.sockets.distinct fd) at));
    few =
        omega (
          arith,
          good.sockets.few,
          length-map s.sockets
              (λ (socket : Socket). cond (socket.fd == fd) (Arrival.with_datagram d socket) socket),
        );
    distinct =
        λ k. let same =
        count-map (λ (socket : Socket). socket.fd == k)
        (λ socket. cond (socket.fd == fd) (Arrival.with_datagram d socket) socket)
        (λ socket. fd_same socket k (socket.fd == fd)) s.sockets in omega (arith, good.sockets.distinct k);
  }) good.unfinished good.output good.numbers
      (let more = mbufs-changed weight_of_socket (λ (socket : Socket). socket.fd == fd) (Arrival.with_datagram d)
      d.item.weight.mbufs
      (λ socket. let app = mbufs-append (λ (x : Datagram). x.item.weight) socket.queue (d ∷ []) in omega arith)
      s.sockets (good.sockets.distinct fd) in
      omega (arith, good.mbufs))
    where
      fd_same : (socket : Socket) (k : ℕ) (b : Bool)
          → ((cond b (Arrival.with_datagram d socket) socket).fd == k) ≡ (socket.fd == k)
      fd_same socket k true = refl
      fd_same socket k false = refl

      go : (socket : Socket) → IsSocket c socket → (b : Bool) → (socket.fd == fd) ≡ b
          → ((socket.fd == fd) ≡ true → socket ≡ me) → IsSocket c (cond b (Arrival.with_datagram d socket) socket)
      go socket g true e one =
          let same : socket.queue ≡ me.queue = ap (λ (x : Socket). x.queue) (one e) in
          let bytes_same : bytes_queued socket.queue ≡ bytes_queued me.queue = ap bytes_queued same in
          let size_same : length socket.queue ≡ length me.queue = ap length same in
          record {
            least_fd = g.least_fd;
            greatest_fd = g.greatest_fd;
            local = g.local;
            port = g.port;
            peer = g.peer;
            unbound = g.unbound;
            limit = g.limit;
            queue = each-append (IsQueued c) socket.queue (d ∷ []) g.queue (is, tt);
            queued_bytes =
                omega (arith, sum_by-append (λ (x : Datagram). 16 + length x.item.bytes) socket.queue (d ∷ []));
            queued = omega (arith, length-append socket.queue (d ∷ []));
          }
      go socket g false e one = g

  key_same : (k k' : Key) (u : Unfinished) → is_key k' (begun k) ≡ true → is_key k' u ≡ is_key k u
  key_same k k' u e = ap (λ (x : Key). is_key x u) (sym ((whole_key k' (begun k)).0 e))

  pub good_begins : (h : ℕ) (k : Key) (s : State) → Good c (h + 1) s → unfinished_at k s ≡ None
      → Good c h (begin_unfinished k s)
  good_begins h k s good none = with_parts good good.sockets (record {
    each =
        each-append (IsWaiting c) s.unfinished (begun k ∷ []) good.unfinished.each (
          record { some_ticks = omega arith; ticks = omega arith; bytes = λ offset held e. absurd (none-some held e) },
          tt,
        );
    keys = λ k'. one k' (is_key k' (begun k)) refl;
  }) good.output good.numbers
      (let app = mbufs-append weight_of_unfinished s.unfinished (begun k ∷ []) in let none' = pieces_none in
      omega (arith, good.mbufs))
    where
      one : (k' : Key) (b : Bool) → is_key k' (begun k) ≡ b → count_by (is_key k') (s.unfinished ++ begun k ∷ []) ≤ 1
      one k' true e =
          let same : count_by (is_key k') s.unfinished ≡ count_by (is_key k) s.unfinished =
          count-same (is_key k') (is_key k) (λ u. key_same k k' u e) s.unfinished in
          let zero_before = none_found (is_key k) s.unfinished none in
          let here : cond {A = ℕ} (is_key k' (begun k)) 1 0 ≡ 1 = ap (λ b. cond {A = ℕ} b 1 0) e in
          omega (arith, count-append (is_key k') s.unfinished (begun k ∷ []), count_cons (is_key k') (begun k) [])
      one k' false e =
          let here : cond {A = ℕ} (is_key k' (begun k)) 1 0 ≡ 0 = ap (λ b. cond {A = ℕ} b 1 0) e in
          omega (
            arith,
            count-append (is_key k') s.unfinished (begun k ∷ []),
            count_cons (is_key k') (begun k) [],
            good.unfinished.keys k',
          )

  pub good_set : (h more : ℕ) (k : Key) (u : Unfinished) (bytes : Map) (s : State) → Good c (h + more) s
      → unfinished_at k s ≡ Some u → IsMap c bytes
      → (weight_of_pieces bytes).mbufs ≤ (weight_of_pieces u.bytes).mbufs + more → Good c h (set_bytes k bytes s)
  good_set h more k u bytes s good at is le = with_parts good good.sockets (record {
    each = each-map (IsWaiting c) _ (λ x g. go x g (is_key k x)) s.unfinished good.unfinished.each;
    keys =
        λ k'. let same =
        count-map (is_key k') (λ (x : Unfinished). cond (is_key k x) (record x { bytes = bytes }) x)
        (λ x. key_kept k' x (is_key k x)) s.unfinished in omega (arith, good.unfinished.keys k');
  }) good.output good.numbers
      (let now = mbufs-replaced weight_of_unfinished (is_key k) (λ x. record x { bytes = bytes })
      (1 + (weight_of_pieces bytes).mbufs) (λ x. refl) s.unfinished u (good.unfinished.keys k) at in
      omega (arith, good.mbufs, le))
    where
      go : (x : Unfinished) → IsWaiting c x → (b : Bool) → IsWaiting c (cond b (record x { bytes = bytes }) x)
      go x g true = record { some_ticks = g.some_ticks; ticks = g.ticks; bytes = is }
      go x g false = g

      key_kept : (k' : Key) (x : Unfinished) (b : Bool)
          → is_key k' (cond b (record x { bytes = bytes }) x) ≡ is_key k' x
      key_kept k' x true = refl
      key_kept k' x false = refl

  pub good_finishes : (h : ℕ) (k : Key) (u : Unfinished) (s : State) → Good c h s → unfinished_at k s ≡ Some u
      → Good c (h + (1 + (weight_of_pieces u.bytes).mbufs)) (Arrival.counts_reassembled (end_unfinished k s))
  good_finishes h k u s good at = with_parts good good.sockets (record {
    each = each-filter (IsWaiting c) (λ x. not (is_key k x)) s.unfinished good.unfinished.each;
    keys = λ k'. let fewer = count-filter (is_key k') (λ x. not (is_key k x)) s.unfinished in
        omega (arith, good.unfinished.keys k');
  }) good.output good.numbers
      (let rest = mbufs-without weight_of_unfinished (is_key k) s.unfinished u at in omega (arith, good.mbufs))

  -- ---- the receivers

  pub still_there : (old mid : State) (fd : ℕ) (me : Socket) → ((mid ≡ old) ⊎ (mid ≡ reclaimed old))
      → socket_at fd old ≡ Some me → socket_at fd mid ≡ Some me
  still_there old mid fd me (inl is) e = ap (socket_at fd) is ∙ e
  still_there old mid fd me (inr is) e = ap (socket_at fd) is ∙ e

  -- a queue's memory is 256 bytes for each datagram, and more
  memory_least : (queue : List Datagram) → Each (IsQueued c) queue → 256 * length queue ≤ memory_queued queue
  memory_least [] h = omega arith
  memory_least (d ∷ ds) h =
      let weight : d.item.weight.mbufs ≡ 1 + h.0.own.mbufs = ap (λ (w : Weight). w.mbufs) h.0.with_address in
      let rest = memory_least ds h.1 in
      omega (
        arith,
        sum_by-cons (λ (x : Datagram). 128 * x.item.weight.mbufs + 2048 * length x.item.weight.bag) d ds,
        h.0.carries.covers.some,
      )

  -- a datagram for one queue leaves the other sockets the same
  pub others_stay : (held : Weight) (sender : Addr) (item : Item) (to : Socket) (old after : State)
      → Arrival.Tests exact_ledger old (held ⊕ item.weight) item.weight.mbufs after
      (λ mid. Arrival.Appends exact_ledger (held ⊕ item.weight) sender item to mid after)
      → (y : Socket) → (y.fd == to.fd) ≡ false → socket_at y.fd old ≡ Some y → socket_at y.fd after ≡ Some y
  others_stay held sender item to old after t y other in_old =
      tested old (held ⊕ item.weight) item.weight.mbufs _ t (λ mid a in_mid. appended mid a in_mid) in_old
    where
      had_buffers : (s new : State) (h : Weight) (n : Need) (b : Bool) → HasBuffers exact_ledger s h n b new
          → socket_at y.fd s ≡ Some y → socket_at y.fd new ≡ Some y
      had_buffers s new h n true (inl a) e = ap (socket_at y.fd) a.1 ∙ e
      had_buffers s new h n true (inr a) e = ap (socket_at y.fd) a.1 ∙ e
      had_buffers s new h n false a e = ap (socket_at y.fd) a.1 ∙ e

      tested : (s : State) (h : Weight) (n : ℕ) (Then : State → Type 0) → Arrival.Tests exact_ledger s h n after Then
          → ((mid : State) → Then mid → socket_at y.fd mid ≡ Some y → socket_at y.fd after ≡ Some y)
          → socket_at y.fd s ≡ Some y → socket_at y.fd after ≡ Some y
      tested s h n Then t goes e =
          let at = had_buffers s t.mid h (need_mbufs n) t.answer t.has_buffers e in
          by_choice t.goes_on (λ p r. goes t.mid r at) (λ p r. ap (socket_at y.fd) r ∙ at)

      queued_at : (d : Datagram) (s : State) → after ≡ change_socket to.fd (Arrival.with_datagram d) s
          → socket_at y.fd s ≡ Some y → socket_at y.fd after ≡ Some y
      queued_at d s e at =
          ap (socket_at y.fd) e
          ∙ find-changed y.fd to.fd (Arrival.with_datagram d) s.sockets y (λ x. refl) at
          ∙ ap (λ b. Some (cond b (Arrival.with_datagram d y) y)) other

      appended : (mid : State) → Arrival.Appends exact_ledger (held ⊕ item.weight) sender item to mid after
          → socket_at y.fd mid ≡ Some y → socket_at y.fd after ≡ Some y
      appended mid a at = by_choice a
          (λ p t. tested mid (held ⊕ item.weight ⊕ item.weight) 1 _ t (λ s r in_s. queued_at _ s r in_s) at)
          (λ p r. ap (socket_at y.fd) r ∙ at)

  -- ---- an arrival; the step holds the item and `held`, and afterwards only `held`

  good_appends : (held : Weight) (sender : Addr) (item : Item) (to : Socket) (old new : State)
      → Good c (held.mbufs + item.weight.mbufs) old → Carries c item.weight (length item.bytes)
      → socket_at to.fd old ≡ Some to
      → Arrival.Appends exact_ledger held sender item to old new → Good c held.mbufs new
  good_appends held sender item to old new good is there h = by_choice h
      (λ e t. good_tests old (held ⊕ item.weight) 1 new _ held.mbufs (omega arith) good
      (λ mid at from r. subst (Good c held.mbufs) (sym r) (fits mid at (still_there old mid to.fd to from there) e))
      t)
      (λ e t. good_ends held.mbufs (held.mbufs + item.weight.mbufs) old new UdpFullSocket (omega arith) good t)
    where
      d : Datagram
      d = record { sender = sender; item = record item { weight = mbuf ⊕ item.weight } }

      fits : (mid : State) → Good c (held.mbufs + item.weight.mbufs + 1) mid → socket_at to.fd mid ≡ Some to
          → Fits.fits to.limit to.queue (length item.bytes) (Fits.memory_of item.weight) ≡ true
          → Good c held.mbufs (change_socket to.fd
          (Arrival.with_datagram (record { sender = sender; item = record item { weight = mbuf ⊕ item.weight } })) mid)
      fits mid at found e =
          let me_is = (each-find (IsSocket c) (λ socket. socket.fd == to.fd) mid.sockets to at.sockets.each found).0 in
          let least = memory_least to.queue me_is.queue in
          let bounds = fits_most to.limit to.queue (length item.bytes) (Fits.memory_of item.weight) me_is.limit e in
          good_queued held.mbufs to.fd (record { sender = sender; item = record item { weight = mbuf ⊕ item.weight } })
          to mid
          (less_held (held.mbufs + (1 + item.weight.mbufs)) (held.mbufs + item.weight.mbufs + 1) mid (omega arith) at)
          (record { own = item.weight; with_address = refl; carries = is }) found
          bounds.0 (omega (arith, bounds.1))

  good_delivers : (held : Weight) (sender : Addr) (item : Item) (tos : List Socket) (old new : State)
      → Good c (held.mbufs + item.weight.mbufs) old → Carries c item.weight (length item.bytes)
      → Each (AreIn old) tos → Apart tos → Arrival.Delivers exact_ledger held sender item tos old new
      → Good c held.mbufs new
  good_delivers held sender item [] old new good is there apart h = absurd h
  good_delivers held sender item (last ∷ []) old new good is there apart h =
      good_appends held sender item last old new good is there.0 h
  good_delivers held sender item (to ∷ next ∷ more) old new good is there apart (after, tests, later) =
      good_delivers held sender item (next ∷ more) after new
      (good_tests old (held ⊕ item.weight) item.weight.mbufs after _ (held.mbufs + item.weight.mbufs) (omega arith) good
      (λ mid at from a. good_appends (held ⊕ item.weight) sender item to mid after at is
      (still_there old mid to.fd to from there.0) a) tests) is
      (each-both (λ y in_old other. others_stay held sender item to old after tests y other in_old) (next ∷ more)
      there.1 apart.0) apart.1 later

  good_goes : (held : Weight) (sender : Addr) (item : Item) (destination : ℕ) (tos : List Socket) (old new : State)
      → Good c (held.mbufs + item.weight.mbufs) old → Carries c item.weight (length item.bytes)
      → Each (AreIn old) tos → Apart tos → Arrival.GoesTo exact_ledger held sender item destination tos old new
      → Good c held.mbufs new
  good_goes held sender item destination [] old new good is there apart h =
      good_ends held.mbufs (held.mbufs + item.weight.mbufs) old new _ (omega arith) good h
  good_goes held sender item destination (to ∷ more) old new good is there apart h =
      good_delivers held sender item (to ∷ more) old new good is there apart h

  good_whole : (held : Weight) (source destination protocol : ℕ) (item : Item) (old new : State)
      → Good c (held.mbufs + item.weight.mbufs) old → Carries c item.weight (length item.bytes)
      → Arrival.WholeArrives exact_ledger held source destination protocol item old new → Good c held.mbufs new
  good_whole held source destination protocol item old new good is h = by_choice h
      (λ e x. by_case x
      (λ e g.
      let sender : Addr = record { ip = source; port = u16_at 0 item.bytes } in
      let q : LookupKey = record { local = Some destination; port = Some (u16_at 2 item.bytes); peer = Some sender } in
      let received = matching_in old destination q good.sockets.distinct in
      good_goes held sender (record item { bytes = udp_bytes item.bytes }) destination
      (Arrival.matching_sockets old destination q) old new good shorter received.0 received.1 g)
      (λ why e g. good_ends held.mbufs (held.mbufs + item.weight.mbufs) old new why (omega arith) good g))
      (λ e g. good_ends held.mbufs (held.mbufs + item.weight.mbufs) old new _ (omega arith) good g)
    where
      shorter : Carries c item.weight (length (udp_bytes item.bytes))
      shorter = carries_less c item.weight (length (udp_bytes item.bytes)) (length item.bytes)
          (omega (
            arith,
            length-drop 8 (take (u16_at 4 item.bytes) item.bytes),
            length-take (u16_at 4 item.bytes) item.bytes,
          )) is

  pub record FragmentFits (f : Fragment) : Type 0 where
    pub carries : Carries c f.weight (length f.bytes)
    pub inside : fragment_end f ≤ 65515

  good_inserts : (held : Weight) (k : Key) (f : Fragment) (u : Unfinished) (old new : State)
      → Good c (held.mbufs + f.weight.mbufs) old → unfinished_at k old ≡ Some u → FragmentFits f
      → Arrival.Inserts exact_ledger held k f u old new → Good c held.mbufs new
  good_inserts held k f u old new good at fits h = by_choice h
      (λ e g. good_ends held.mbufs (held.mbufs + f.weight.mbufs) old new _ (omega arith) good g)
      (λ e g. go g)
    where
      waiting : IsWaiting c u
      waiting = (each-find (IsWaiting c) (is_key k) old.unfinished u good.unfinished.each at).0

      placed : IsMap c (overlay u.bytes f)
      placed = overlay_is c u.bytes f waiting.bytes fits.carries fits.inside

      weighs : (weight_of_pieces (overlay u.bytes f)).mbufs ≤ (weight_of_pieces u.bytes).mbufs + f.weight.mbufs
      weighs = overlay_mbufs c u.bytes f waiting.bytes fits.carries fits.inside

      exist : Each (λ i. i < c.clusters) (weight_of_pieces (overlay u.bytes f)).bag
      exist = pieces_bag (overlay u.bytes f) (λ i. i < c.clusters)
          (λ offset held e. (placed offset held e).carries.exist)

      go : Arrival.Settles exact_ledger held k (overlay u.bytes f) old new → Good c held.mbufs new
      go (inl (n, w, joined, j, arrives)) =
          let ended : State = Arrival.counts_reassembled (end_unfinished k old) in
          let done = good_finishes (held.mbufs + f.weight.mbufs) k u old good at in
          let less : held.mbufs + joined.mbufs ≤ held.mbufs + f.weight.mbufs + (1 + (weight_of_pieces u.bytes).mbufs) =
          omega (arith, j.mbufs, weighs) in
          good_whole held k.source k.destination k.protocol
          (record { bytes = bytes_below (overlay u.bytes f) n; weight = joined }) ended new
          (less_held (held.mbufs + joined.mbufs) (held.mbufs + f.weight.mbufs + (1 + (weight_of_pieces u.bytes).mbufs))
          ended less done)
          (subst (Carries c joined) (sym (length-map-range_with_len (λ offset. byte_of (overlay u.bytes f offset)) 0 n))
          (record {
            covers = j.covers;
            exist = each_sub_bag (λ i. i < c.clusters) joined.bag
                (weight_of_pieces (overlay u.bytes f)).bag j.bag exist;
          }))
          arrives
      go (inr (unwhole, e)) =
          subst (Good c held.mbufs) (sym e)
          (good_set held.mbufs f.weight.mbufs k u (overlay u.bytes f) old good at placed weighs)

  key_itself : (k : Key) → is_key k (begun k) ≡ true
  key_itself k =
      and_from _ _ (and_from _ _ (and_from _ _ (eq-eqb k.source k.source refl)
      (eq-eqb k.destination k.destination refl)) (eq-eqb k.id k.id refl)) (eq-eqb k.protocol k.protocol refl)

  good_joins : (held : Weight) (k : Key) (f : Fragment) (old new : State) → Good c (held.mbufs + f.weight.mbufs) old
      → FragmentFits f → Arrival.Joins exact_ledger held k f old new → Good c held.mbufs new
  good_joins held k f old new good fits h = by_case h
      (λ e t. good_tests old (held ⊕ f.weight) 1 new _ held.mbufs (omega arith) good
      (λ mid at from l.
      let none : unfinished_at k mid ≡ None = still_none mid e from in
      good_inserts held k f (begun k) (begin_unfinished k mid) new
      (good_begins (held.mbufs + f.weight.mbufs) k mid at none)
      (find_after (is_key k) mid.unfinished (begun k) none (key_itself k)) fits l) t)
      (λ u e l. good_inserts held k f u old new good e fits l)
    where
      still_none : (mid : State) → unfinished_at k old ≡ None → ((mid ≡ old) ⊎ (mid ≡ reclaimed old))
          → unfinished_at k mid ≡ None
      still_none mid e (inl is) = ap (unfinished_at k) is ∙ e
      still_none mid e (inr is) = ap (unfinished_at k) is

  each_drop : (P : ℕ → Type 0) (xs : List ℕ) → Each P xs → Each P (drop 1 xs)
  each_drop P [] h = tt
  each_drop P (x ∷ xs) h = h.1

  -- a weight still has room for its bytes after a pullup
  pulled : (total n : ℕ) (w : Weight) → total ≡ 20 + n → Carries c w n → Carries c (Arrival.pulled_up total w) n
  pulled total n w e is = go (nat_lt 40 total) refl
    where
      go : (b : Bool) → nat_lt 40 total ≡ b
          → Carries c (cond b (record w { mbufs = w.mbufs + 1 }) (record w { bag = drop 1 w.bag })) n
      go true t =
          record {
            covers = record {
              some = omega arith;
              references = omega (arith, is.covers.references);
              room = omega (arith, is.covers.room, is.covers.references);
            };
            exist = is.exist;
          }
      go false t =
          let few : total ≤ 40 = ltb-false 40 total t in
          let size = length-drop 1 w.bag in
          record {
            covers =
                record {
                  some = is.covers.some;
                  references = omega (arith, is.covers.references);
                  room = omega (arith, is.covers.some, is.covers.references);
                };
            exist = each_drop (λ i. i < c.clusters) w.bag is.exist;
          }

  pulled_mbufs : (total : ℕ) (w : Weight) → (Arrival.pulled_up total w).mbufs ≤ w.mbufs + 1
  pulled_mbufs total w = go (nat_lt 40 total)
    where
      go : (b : Bool) → (cond b (record w { mbufs = w.mbufs + 1 }) (record w { bag = drop 1 w.bag })).mbufs
          ≤ w.mbufs + 1
      go true = omega arith
      go false = omega arith

  good_pulls : (origin : Origin) (held w : Weight) (n : ℕ) (old new : State) (Then : Weight → State → Type 0)
      → Good c (held.mbufs + w.mbufs) old → Carries c w n
      → ((v : Weight) (mid : State) → Good c (held.mbufs + v.mbufs) mid → Carries c v n → Then v mid
      → Good c held.mbufs new)
      → Arrival.PullsUp exact_ledger origin held w (20 + n) old new Then → Good c held.mbufs new
  good_pulls Looped held w n old new Then good is goes h = goes w old good is h
  good_pulls (By_wire received) held w n old new Then good is goes h = by_choice h
      (λ e t. good_tests old (held ⊕ w) 1 new _ held.mbufs (omega arith) good
      (λ mid at from r.
      let le = pulled_mbufs (20 + n) w in
      goes (Arrival.pulled_up (20 + n) w) mid
      (less_held (held.mbufs + (Arrival.pulled_up (20 + n) w).mbufs) (held.mbufs + w.mbufs + 1) mid (omega arith) at)
      (pulled (20 + n) n w refl is) r) t)
      (λ e r. goes w old good is r)

  good_fragment : (origin : Origin) (held : Weight) (head : Head) (item : Item) (old new : State)
      → Good c (held.mbufs + item.weight.mbufs) old → Carries c item.weight (length item.bytes)
      → Arrival.FragmentArrives exact_ledger origin held head item old new → Good c held.mbufs new
  good_fragment origin held head item old new good is h = by_choice h
      (λ e g. good_ends held.mbufs (held.mbufs + item.weight.mbufs) old new _ (omega arith) good g)
      (λ e p. good_pulls origin held item.weight (length item.bytes) (Arrival.counts_fragment old) new _ good is
      (λ v mid at carries j. good_joins held _ _ mid new at
      (record { carries = carries; inside = ltb-false _ _ (or_parts _ _ e).1 }) j) p)

  good_passes : (origin : Origin) (held : Weight) (item : Item) (old new : State)
      → Good c (held.mbufs + item.weight.mbufs) old → Carries c item.weight (length item.bytes)
      → Arrival.Passes exact_ledger origin held item old new → Good c held.mbufs new
  good_passes origin held item old new good is h = by_choice h
      (λ e x. by_choice x
      (λ t f. good_fragment origin held (head_of item.bytes) (Arrival.carried item) old new good shorter f)
      (λ t w. good_whole held (head_of item.bytes).source (head_of item.bytes).destination (head_of item.bytes).protocol
      (Arrival.carried item) old new good shorter w))
      (λ e g. good_ends held.mbufs (held.mbufs + item.weight.mbufs) old new _ (omega arith) good g)
    where
      shorter : Carries c item.weight (length (drop 20 (take (total_of item.bytes) item.bytes)))
      shorter =
          carries_less c item.weight (length (drop 20 (take (total_of item.bytes) item.bytes))) (length item.bytes)
          (omega (
            arith,
            length-drop 20 (take (total_of item.bytes) item.bytes),
            length-take (total_of item.bytes) item.bytes,
          )) is

  pub good_arrives : (origin : Origin) (held : Weight) (item : Item) (old new : State)
      → Good c (held.mbufs + item.weight.mbufs) old → Carries c item.weight (length item.bytes)
      → Arrival.Arrives exact_ledger origin held item old new → Good c held.mbufs new
  good_arrives origin held item old new good is h =
      by_case h
      (λ e p. good_passes origin held item (Arrival.counts_packet old) new good is p)
      (λ why e g. good_ends held.mbufs (held.mbufs + item.weight.mbufs) (Arrival.counts_packet old) new why
      (omega arith) good g)

  pub good_all_arrive : (items : List Item) (old new : State) → Good c (all_of weight_of_item items).mbufs old
      → Each (λ (item : Item). Carries c item.weight (length item.bytes)) items
      → Arrival.AllArrive exact_ledger items old new → Good c 0 new
  good_all_arrive [] old new good is e = subst (Good c 0) (sym e) good
  good_all_arrive (item ∷ items) old new good is (mid, a, later) =
      good_all_arrive items mid new (good_arrives Looped (all_of weight_of_item items) item old mid
      (less_held _ _ old (omega arith) good) is.0 a) is.1 later

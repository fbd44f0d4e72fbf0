-- Every step keeps the queues within their limits, if it sets no limit of a queue in which datagrams wait.
use Rattle.std.proofs.Common.{◌≡◌, ℕ, zero, suc, ◌+◌, ◌*◌, ◌<◌, ◌≤◌, Bool, true, false, List, [], ◌∷◌, length, map, refl, sym, ◌∙◌, ap, subst, arith, cond, Option, Some, None, ◌⊎◌, inl, inr}
use Rattle.std.specs.Prelude.{◌==◌, not, count_by, is_some, ⊤}
use Rattle.std.specs.List.{AllByRecursion as Each}
use Rattle.std.proofs.lemmas.Bool.{leb-true, and_parts}
use Rattle.std.proofs.lemmas.List.Sums.{sum_by-cons, sum_by-append}
use Rattle.flat_model.specs.declared.lookup_key.LookupKey.{LookupKey}
use Rattle.flat_model.specs.Amounts.Weight.{Weight, Item, mbuf, ◌⊕◌, all_of, nothing}
use Rattle.flat_model.specs.Amounts.Layout.{Need, wire, entries_on, weight_of}
use Rattle.flat_model.specs.Packets.Header.{Head, head_of, u16_at, udp_bytes}
use Rattle.flat_model.specs.Fragments.Overlay.{Fragment, overlay}
use Rattle.flat_model.specs.Fragments.Whole.{bytes_below}
use Rattle.flat_model.specs.Sockets.Fits as Fits
use Rattle.flat_model.specs.Sockets.Fits.{memory_queued, memory_limit}
use Rattle.flat_model.specs.Machine.Event.{Event, Reply, Open, Bind, Connect, Send, Receive, Close, Set_option, Set_limit, Comes, Transmit, Tick, Ask_counters, Ask_usage}
use Rattle.flat_model.specs.Machine.State.{State, Socket, Datagram, Key, Unfinished, change_socket, socket_at, begun, begin_unfinished, set_bytes, end_unfinished, ends}
use Rattle.flat_model.specs.Machine.Ledger.{HasBuffers, need_mbufs, reclaimed, exact_ledger}
use Rattle.flat_model.specs.Machine.Arrival as Arrival
use Rattle.flat_model.specs.Machine.Arrival.{Origin, By_wire, Looped}
use Rattle.flat_model.specs.Machine.Calls as Calls
use Rattle.flat_model.specs.Machine.Calls.{OnSocket, Unless, GetsPort, disconnected, set_option, new_socket}
use Rattle.flat_model.specs.Machine.Send as Send
use Rattle.flat_model.specs.Machine.Step.{ComesIn, Step, Transmits}
use Rattle.flat_model.specs.Runs.Consistent.{IsConsistent}
use Rattle.flat_model.specs.Runs.Isolation.{KeepsLimit, KeepLimits, AreUnset, SetsEmpty, SetsNone, LeadsEmpty}
use Rattle.flat_model.specs.Runs.Run.{Turn, Leads}
use Rattle.flat_model.specs.declared.address.Addr.{Addr}
use Rattle.flat_model.specs.declared.config.Config.{Config}
use Rattle.flat_model.specs.declared.option.Opt.{Opt}
use Rattle.flat_model.specs.declared.option.Opt.TheVariants.{Broadcast, ReusePort}
use Rattle.flat_model.proofs.Lists.Each.{by_choice, by_case, each-map_to, each-both, each-filter}
use Rattle.flat_model.proofs.Machine.Kept.{still_there, others_stay}
use Rattle.flat_model.proofs.Machine.KeptSteps.{step_is_consistent}
use Rattle.flat_model.proofs.Machine.KeptLists.{count-map, AreIn, Apart, the_one, matching_in}

-- ---- one socket

within_same : (x y : Socket) → y.queue ≡ x.queue → y.limit ≡ x.limit → KeepsLimit x → KeepsLimit y
within_same x y queue limit is = λ limited.
    let all : memory_queued y.queue ≡ memory_queued x.queue = ap memory_queued queue in
    let most : memory_queued x.queue ≤ 2 * x.limit = is (omega (arith, limit)) in
    omega (arith, limit)

within_nothing : (x : Socket) → x.queue ≡ [] → KeepsLimit x
within_nothing x none = λ limited.
    let all : memory_queued x.queue ≡ 0 = ap memory_queued none in
    omega arith

-- with a limit, a datagram fits only if all is within the limit with it
fits_within : (limit : ℕ) (queue : List Datagram) (n memory : ℕ) → Fits.fits limit queue n memory ≡ true → 0 < limit
    → 128 + memory + memory_queued queue ≤ 2 * limit
fits_within zero queue n memory e some = absurd (omega arith)
fits_within (suc less) queue n memory e some = leb-true _ _ (and_parts _ _ e).1

within_more : (x : Socket) (sender : Addr) (item : Item)
    → Fits.fits x.limit x.queue (length item.bytes) (Fits.memory_of item.weight) ≡ true
    → KeepsLimit (Arrival.with_datagram
    (record { sender = sender; item = record item { weight = mbuf ⊕ item.weight } }) x)
within_more x sender item fits = λ limited.
    let d : Datagram = record { sender = sender; item = record item { weight = mbuf ⊕ item.weight } } in
    let memory = fits_within x.limit x.queue (length item.bytes) (Fits.memory_of item.weight) fits limited in
    omega (
      arith,
      memory,
      sum_by-append (λ (y : Datagram). 128 * y.item.weight.mbufs + 2048 * length y.item.weight.bag) x.queue (d ∷ []),
      sum_by-cons (λ (y : Datagram). 128 * y.item.weight.mbufs + 2048 * length y.item.weight.bag) d [],
    )

within_less : (x : Socket) (d : Datagram) (later : List Datagram) → x.queue ≡ d ∷ later → KeepsLimit x
    → KeepsLimit (record x { queue = later })
within_less x d later same is = λ limited.
    let all : memory_queued x.queue ≡ memory_queued (d ∷ later) = ap memory_queued same in
    let most : memory_queued x.queue ≤ 2 * x.limit = is limited in
    omega (
      arith,
      sum_by-cons (λ (y : Datagram). 128 * y.item.weight.mbufs + 2048 * length y.item.weight.bag) d later,
    )

-- A property of sockets that depends on the queue and its limit alone, and that each change of a queue keeps.
pub record IsKept (P : Socket → Type 0) : Type 0 where
  pub same : (x y : Socket) → y.queue ≡ x.queue → y.limit ≡ x.limit → P x → P y
  pub new : (fd : ℕ) → P (new_socket fd)
  pub more : (x : Socket) (sender : Addr) (item : Item)
      → Fits.fits x.limit x.queue (length item.bytes) (Fits.memory_of item.weight) ≡ true → P x
      → P (Arrival.with_datagram
      (record { sender = sender; item = record item { weight = mbuf ⊕ item.weight } }) x)
  pub less : (x : Socket) (d : Datagram) (later : List Datagram) → x.queue ≡ d ∷ later → P x
      → P (record x { queue = later })

module _ (P : Socket → Type 0) (keeps : IsKept P) where
  -- the event changes no limit, or the property holds with the new one
  abbrev pub Lets : Event → State → Type 0
  Lets (Set_limit fd limit) s =
      Each {X = Socket} (λ x. (x.fd == fd) ≡ true → P (record x { limit = limit })) s.sockets
  Lets _ s = ⊤

  -- each socket has the property, and their descriptors differ
  pub record Fine (sockets : List Socket) : Type 0 where
    pub within : Each P sockets
    pub distinct : (fd : ℕ) → count_by (λ (socket : Socket). socket.fd == fd) sockets ≤ 1

  same_fine : (old new : State) → new ≡ old → Fine old.sockets → Fine new.sockets
  same_fine old new e fine = subst (λ (s : State). Fine s.sockets) (sym e) fine

  -- ---- a list of sockets with one changed

  distinct_kept : (fd : ℕ) (change : Socket → Socket) → ((x : Socket) → (change x).fd ≡ x.fd) → (ss : List Socket)
      → ((k : ℕ) → count_by (λ (x : Socket). x.fd == k) ss ≤ 1) → (k : ℕ)
      → count_by (λ (x : Socket). x.fd == k) (map (λ (x : Socket). cond (x.fd == fd) (change x) x) ss) ≤ 1
  distinct_kept fd change same ss distinct k =
      let equal = count-map (λ (x : Socket). x.fd == k) (λ x. cond (x.fd == fd) (change x) x)
      (λ x. one x (x.fd == fd)) ss in omega (arith, distinct k)
    where
      one : (x : Socket) (b : Bool) → ((cond b (change x) x).fd == k) ≡ (x.fd == k)
      one x true = ap (λ n. n == k) (same x)
      one x false = refl

  -- each changed socket is within its limit
  changed_fine : (fd : ℕ) (change : Socket → Socket) → ((x : Socket) → (change x).fd ≡ x.fd) → (ss : List Socket)
      → Each {X = Socket} (λ x. (x.fd == fd) ≡ true → P (change x)) ss → Fine ss
      → Fine (map (λ (x : Socket). cond (x.fd == fd) (change x) x) ss)
  changed_fine fd change same ss here fine =
      record {
        within = each-map_to P (λ (x : Socket). cond (x.fd == fd) (change x) x) (λ x p. p) ss
            (each-both (λ x w h. go x w h (x.fd == fd) refl) ss fine.within here);
        distinct = distinct_kept fd change same ss fine.distinct;
      }
    where
      go : (x : Socket) → P x → ((x.fd == fd) ≡ true → P (change x)) → (b : Bool) → (x.fd == fd) ≡ b
          → P (cond b (change x) x)
      go x w h true e = h e
      go x w h false e = w

  -- a change that leaves queue and limit
  renamed_fine : (fd : ℕ) (change : Socket → Socket) → ((x : Socket) → (change x).fd ≡ x.fd)
      → ((x : Socket) → (change x).queue ≡ x.queue) → ((x : Socket) → (change x).limit ≡ x.limit) → (ss : List Socket)
      → Fine ss → Fine (map (λ (x : Socket). cond (x.fd == fd) (change x) x) ss)
  renamed_fine fd change same queue limit ss fine = changed_fine fd change same ss (each ss fine.within) fine
    where
      each : (xs : List Socket) → Each P xs → Each {X = Socket} (λ x. (x.fd == fd) ≡ true → P (change x)) xs
      each [] h = tt
      each (x ∷ xs) h = ((λ e. keeps.same x (change x) (queue x) (limit x) h.0), each xs h.1)

  -- ---- tests for buffers

  has_fine : (s new : State) (held : Weight) (need : Need) (yes : Bool) → HasBuffers exact_ledger s held need yes new
      → Fine s.sockets → Fine new.sockets × ((new ≡ s) ⊎ (new ≡ reclaimed s))
  has_fine s new held need true (inl h) fine = (same_fine s new h.1 fine, inl h.1)
  has_fine s new held need true (inr h) fine = (same_fine (reclaimed s) new h.1 fine, inr h.1)
  has_fine s new held need false h fine = (same_fine (reclaimed s) new h.1 fine, inr h.1)

  tests_fine : (old : State) (held : Weight) (n : ℕ) (new : State) (Then : State → Type 0) → Fine old.sockets
      → ((mid : State) → Fine mid.sockets → ((mid ≡ old) ⊎ (mid ≡ reclaimed old)) → Then mid → Fine new.sockets)
      → Arrival.Tests exact_ledger old held n new Then → Fine new.sockets
  tests_fine old held n new Then fine goes t =
      let at = has_fine old t.mid held (need_mbufs n) t.answer t.has_buffers fine in
      by_choice t.goes_on (λ e r. goes t.mid at.0 at.1 r) (λ e r. same_fine (ends _ t.mid) new r at.0)

  -- ---- arrivals

  module _ (c : Config) where
    appends_fine : (held : Weight) (sender : Addr) (item : Item) (to : Socket) (old new : State) → Fine old.sockets
        → socket_at to.fd old ≡ Some to → Arrival.Appends exact_ledger held sender item to old new → Fine new.sockets
    appends_fine held sender item to old new fine there h = by_choice h
        (λ e t. tests_fine old (held ⊕ item.weight) 1 new _ fine
        (λ mid f from r. same_fine _ new r (queued mid f (still_there c old mid to.fd to from there) e)) t)
        (λ e r. same_fine (ends _ old) new r fine)
      where
        queued : (mid : State) → Fine mid.sockets → socket_at to.fd mid ≡ Some to
            → Fits.fits to.limit to.queue (length item.bytes) (Fits.memory_of item.weight) ≡ true
            → Fine (change_socket to.fd (Arrival.with_datagram
            (record { sender = sender; item = record item { weight = mbuf ⊕ item.weight } })) mid).sockets
        queued mid f at e =
            changed_fine to.fd
            (Arrival.with_datagram (record { sender = sender; item = record item { weight = mbuf ⊕ item.weight } }))
            (λ x. refl) mid.sockets
            (each mid.sockets f.within (the_one to.fd mid.sockets to (f.distinct to.fd) at)) f
          where
            each : (xs : List Socket) → Each P xs → Each {X = Socket} (λ x. (x.fd == to.fd) ≡ true → x ≡ to) xs
                → Each {X = Socket} (λ x. (x.fd == to.fd) ≡ true → P (Arrival.with_datagram
                (record { sender = sender; item = record item { weight = mbuf ⊕ item.weight } }) x)) xs
            each [] w h = tt
            each (x ∷ xs) w h = (
              (λ t. keeps.more x sender item
                  (subst (λ (y : Socket). Fits.fits y.limit y.queue (length item.bytes) (Fits.memory_of item.weight)
                  ≡ true)
                  (sym (h.0 t)) e) w.0),
              each xs w.1 h.1,
            )

    delivers_fine : (held : Weight) (sender : Addr) (item : Item) (tos : List Socket) (old new : State)
        → Fine old.sockets → Each (AreIn old) tos → Apart tos
        → Arrival.Delivers exact_ledger held sender item tos old new → Fine new.sockets
    delivers_fine held sender item [] old new fine there apart h = absurd h
    delivers_fine held sender item (last ∷ []) old new fine there apart h =
        appends_fine held sender item last old new fine there.0 h
    delivers_fine held sender item (to ∷ next ∷ more) old new fine there apart (after, tests, later) =
        delivers_fine held sender item (next ∷ more) after new
        (tests_fine old (held ⊕ item.weight) item.weight.mbufs after _ fine
        (λ mid f from a. appends_fine (held ⊕ item.weight) sender item to mid after f
        (still_there c old mid to.fd to from there.0) a) tests)
        (each-both (λ y in_old other. others_stay c held sender item to old after tests y other in_old) (next ∷ more)
        there.1 apart.0) apart.1 later

    goes_fine : (held : Weight) (sender : Addr) (item : Item) (destination : ℕ) (tos : List Socket) (old new : State)
        → Fine old.sockets → Each (AreIn old) tos → Apart tos
        → Arrival.GoesTo exact_ledger held sender item destination tos old new → Fine new.sockets
    goes_fine held sender item destination [] old new fine there apart h = same_fine (ends _ old) new h fine
    goes_fine held sender item destination (to ∷ more) old new fine there apart h =
        delivers_fine held sender item (to ∷ more) old new fine there apart h

    whole_fine : (held : Weight) (source destination protocol : ℕ) (item : Item) (old new : State) → Fine old.sockets
        → Arrival.WholeArrives exact_ledger held source destination protocol item old new → Fine new.sockets
    whole_fine held source destination protocol item old new fine h = by_choice h
        (λ e x. by_case x
        (λ e g.
        let sender : Addr = record { ip = source; port = u16_at 0 item.bytes } in
        let q : LookupKey = record { local = Some destination; port = Some (u16_at 2 item.bytes); peer = Some sender } in
        let received = matching_in old destination q fine.distinct in
        goes_fine held sender (record item { bytes = udp_bytes item.bytes }) destination
        (Arrival.matching_sockets old destination q) old new fine received.0 received.1 g)
        (λ why e g. same_fine (ends why old) new g fine))
        (λ e g. same_fine (ends _ old) new g fine)

    inserts_fine : (held : Weight) (k : Key) (f : Fragment) (u : Unfinished) (old new : State) → Fine old.sockets
        → Arrival.Inserts exact_ledger held k f u old new → Fine new.sockets
    inserts_fine held k f u old new fine h = by_choice h (λ e g. same_fine (ends _ old) new g fine) (λ e g. go g)
      where
        go : Arrival.Settles exact_ledger held k (overlay u.bytes f) old new → Fine new.sockets
        go (inl (n, w, joined, j, arrives)) =
            whole_fine held k.source k.destination k.protocol
            (record { bytes = bytes_below (overlay u.bytes f) n; weight = joined })
            (Arrival.counts_reassembled (end_unfinished k old)) new fine arrives
        go (inr (unwhole, e)) = same_fine (set_bytes k (overlay u.bytes f) old) new e fine

    joins_fine : (held : Weight) (k : Key) (f : Fragment) (old new : State) → Fine old.sockets
        → Arrival.Joins exact_ledger held k f old new → Fine new.sockets
    joins_fine held k f old new fine h = by_case h
        (λ e t. tests_fine old (held ⊕ f.weight) 1 new _ fine
        (λ mid g from l. inserts_fine held k f (begun k) (begin_unfinished k mid) new g l) t)
        (λ u e l. inserts_fine held k f u old new fine l)

    pulls_fine : (origin : Origin) (held w : Weight) (total : ℕ) (old new : State) (Then : Weight → State → Type 0)
        → Fine old.sockets → ((v : Weight) (mid : State) → Fine mid.sockets → Then v mid → Fine new.sockets)
        → Arrival.PullsUp exact_ledger origin held w total old new Then → Fine new.sockets
    pulls_fine Looped held w total old new Then fine goes h = goes w old fine h
    pulls_fine (By_wire received) held w total old new Then fine goes h = by_choice h
        (λ e t. tests_fine old (held ⊕ w) 1 new _ fine (λ mid g from r. goes (Arrival.pulled_up total w) mid g r) t)
        (λ e r. goes w old fine r)

    fragment_fine : (origin : Origin) (held : Weight) (head : Head) (item : Item) (old new : State) → Fine old.sockets
        → Arrival.FragmentArrives exact_ledger origin held head item old new → Fine new.sockets
    fragment_fine origin held head item old new fine h = by_choice h
        (λ e g. same_fine (ends _ old) new g fine)
        (λ e p. pulls_fine origin held item.weight (20 + length item.bytes) (Arrival.counts_fragment old) new _ fine
        (λ v mid f j. joins_fine held _ _ mid new f j) p)

    passes_fine : (origin : Origin) (held : Weight) (item : Item) (old new : State) → Fine old.sockets
        → Arrival.Passes exact_ledger origin held item old new → Fine new.sockets
    passes_fine origin held item old new fine h = by_choice h
        (λ e x. by_choice x
        (λ t f. fragment_fine origin held (head_of item.bytes) (Arrival.carried item) old new fine f)
        (λ t w. whole_fine held (head_of item.bytes).source (head_of item.bytes).destination
        (head_of item.bytes).protocol (Arrival.carried item) old new fine w))
        (λ e g. same_fine (ends _ old) new g fine)

    arrives_fine : (origin : Origin) (held : Weight) (item : Item) (old new : State) → Fine old.sockets
        → Arrival.Arrives exact_ledger origin held item old new → Fine new.sockets
    arrives_fine origin held item old new fine h = by_case h
        (λ e p. passes_fine origin held item (Arrival.counts_packet old) new fine p)
        (λ why e g. same_fine (ends why (Arrival.counts_packet old)) new g fine)

    all_arrive_fine : (items : List Item) (old new : State) → Fine old.sockets
        → Arrival.AllArrive exact_ledger items old new → Fine new.sockets
    all_arrive_fine [] old new fine e = same_fine old new e fine
    all_arrive_fine (item ∷ items) old new fine (mid, a, later) =
        all_arrive_fine items mid new
        (arrives_fine Looped (all_of (λ (x : Item). x.weight) items) item old mid fine a) later

    comes_fine : (packet : List ℕ) (old new : State) → Fine old.sockets → ComesIn exact_ledger packet old new
        → Fine new.sockets
    comes_fine packet old new fine (answer, mid, a, x) =
        let at = has_fine old mid nothing _ answer a fine in
        by_choice x
        (λ e (clusters, taken, arrives). arrives_fine (By_wire (length packet)) nothing
        (record { bytes = packet; weight = weight_of (entries_on clusters (wire (length packet))) })
        mid new at.0 arrives)
        (λ e g. same_fine (ends _ mid) new g at.0)

    -- ---- calls

    gets_fine : (old new : State) (local asked : Option ℕ) (port : ℕ) → Fine old.sockets
        → GetsPort old local asked port new → Fine new.sockets
    gets_fine old new local (Some q) port fine g = same_fine old new g.1 fine
    gets_fine old new local None port fine g = same_fine (record old { last_port = Some port }) new g.1 fine

    sends_fine : (fd : ℕ) (to : Option Addr) (bytes : List ℕ) (me : Socket) (old new : State) (reply : Reply)
        → Fine old.sockets → Send.Sends exact_ledger fd to bytes me old reply new → Fine new.sockets
    sends_fine fd to bytes me old new reply fine h = by_case h
        (λ e (answer, mid, a, x).
        let at = has_fine old mid nothing _ answer a fine in
        by_choice x
        (λ t (port, named, clusters, gets, taken, left).
        all_arrive_fine _ _ new
        (renamed_fine fd (λ socket. record socket { port = Some port }) (λ x. refl) (λ x. refl) (λ x. refl)
        named.sockets
        (gets_fine mid named me.local me.port port at.0 gets)) left.0)
        (λ t r. same_fine mid new r.1 at.0))
        (λ errno e r. same_fine old new r.1 fine)

    binds_fine : (fd : ℕ) (a : Addr) (me : Socket) (old new : State) (reply : Reply) → Fine old.sockets
        → Calls.Binds fd a me old reply new → Fine new.sockets
    binds_fine fd a me old new reply fine h = by_case h
        (λ e (port, chosen, gets, answer, n). same_fine _ new n
        (renamed_fine fd (λ socket. record socket { local = Calls.unless_zero a.ip; port = Some port }) (λ x. refl)
        (λ x. refl) (λ x. refl) chosen.sockets (gets_fine old chosen _ _ port fine gets)))
        (λ errno e r. same_fine old new r.1 fine)

    disconnects_fine : (fd : ℕ) (old : State) → Fine old.sockets → Fine (change_socket fd disconnected old).sockets
    disconnects_fine fd old fine =
        renamed_fine fd disconnected (λ x. fd_same x (is_some x.peer)) (λ x. queue_same x (is_some x.peer))
        (λ x. limit_same x (is_some x.peer)) old.sockets fine
      where
        fd_same : (x : Socket) (b : Bool) → (cond b (record x { local = None; peer = None }) x).fd ≡ x.fd
        fd_same x true = refl
        fd_same x false = refl

        queue_same : (x : Socket) (b : Bool) → (cond b (record x { local = None; peer = None }) x).queue ≡ x.queue
        queue_same x true = refl
        queue_same x false = refl

        limit_same : (x : Socket) (b : Bool) → (cond b (record x { local = None; peer = None }) x).limit ≡ x.limit
        limit_same x true = refl
        limit_same x false = refl

    connects_fine : (fd : ℕ) (a : Addr) (me : Socket) (old new : State) (reply : Reply) → Fine old.sockets
        → Calls.Connects fd a me old reply new → Fine new.sockets
    connects_fine fd a me old new reply fine h = by_case h
        (λ e (port, chosen, gets, answer, n). same_fine _ new n
        (renamed_fine fd _ (λ x. refl) (λ x. refl) (λ x. refl) chosen.sockets
        (gets_fine (change_socket fd disconnected old) chosen _ _ port (disconnects_fine fd old fine) gets)))
        (λ errno e r. same_fine (change_socket fd disconnected old) new r.1 (disconnects_fine fd old fine))

    receives_fine : (fd most : ℕ) (me : Socket) (old new : State) (reply : Reply) → Fine old.sockets
        → socket_at fd old ≡ Some me → (queue : List Datagram) → me.queue ≡ queue
        → Calls.Receives fd most queue old reply new → Fine new.sockets
    receives_fine fd most me old new reply fine at [] e h = same_fine old new h.1 fine
    receives_fine fd most me old new reply fine at (d ∷ later) e h =
        same_fine _ new h.1 (changed_fine fd (λ socket. record socket { queue = later }) (λ x. refl) old.sockets
        (each-both (λ x w one t. keeps.less x d later (ap (λ (y : Socket). y.queue) (one t) ∙ e) w) old.sockets
        fine.within (the_one fd old.sockets me (fine.distinct fd) at)) fine)

    options_fine : (fd : ℕ) (option : Opt) (on : Bool) (old new : State) (reply : Reply) → Fine old.sockets
        → Calls.SetsOption fd option on old reply new → Fine new.sockets
    options_fine fd Broadcast on old new reply fine h =
        same_fine _ new h.1 (renamed_fine fd _ (λ x. refl) (λ x. refl) (λ x. refl) old.sockets fine)
    options_fine fd ReusePort on old new reply fine h =
        same_fine _ new h.1 (renamed_fine fd _ (λ x. refl) (λ x. refl) (λ x. refl) old.sockets fine)

    limits_fine : (fd limit : ℕ) (old new : State) (reply : Reply) → Fine old.sockets → Lets (Set_limit fd limit) old
        → Calls.SetsLimit fd limit old reply new → Fine new.sockets
    limits_fine fd limit old new reply fine lets h =
        same_fine _ new h.1
        (changed_fine fd (λ socket. record socket { limit = limit }) (λ x. refl) old.sockets lets fine)

  -- ---- a step; that descriptors differ afterwards is a part of what every step keeps

  on_socket : (fd : ℕ) (old new : State) (reply : Reply) (Call : Socket → Type 0) → Fine old.sockets
      → ((me : Socket) → socket_at fd old ≡ Some me → Call me → Fine new.sockets)
      → OnSocket fd old reply new Call → Fine new.sockets
  on_socket fd old new reply Call fine goes h =
      by_case h (λ e r. same_fine old new r.1 fine) (λ me e call. goes me e call)

  transmits_within : (output : List Item) (old new : State) (reply : Reply) → Each P old.sockets
      → Transmits output old reply new → Each P new.sockets
  transmits_within [] old new reply is h = subst (λ (s : State). Each P s.sockets) (sym h.1) is
  transmits_within (item ∷ later) old new reply is h = subst (λ (s : State). Each P s.sockets) (sym h.1) is

  pub step_keeps : (old new : State) (event : Event) (reply : Reply) → Fine old.sockets → Lets event old
      → Step old event reply new → Each P new.sockets
  step_keeps old new Open reply fine empty h = by_choice h
      (λ e (fd, least, answer, is). subst (λ (s : State). Each P s.sockets) (sym is) (keeps.new fd, fine.within))
      (λ e r. subst (λ (s : State). Each P s.sockets) (sym r.1) fine.within)
  step_keeps old new (Bind fd a) reply fine empty h =
      (on_socket fd old new reply _ fine (λ me e g. binds_fine old.config fd a me old new reply fine g) h).within
  step_keeps old new (Connect fd a) reply fine empty h =
      (on_socket fd old new reply _ fine (λ me e g. connects_fine old.config fd a me old new reply fine g) h).within
  step_keeps old new (Send fd to bytes) reply fine empty h =
      (on_socket fd old new reply _ fine (λ me e g. sends_fine old.config fd to bytes me old new reply fine g) h).within
  step_keeps old new (Receive fd most) reply fine empty h =
      (on_socket fd old new reply _ fine
      (λ me e g. receives_fine old.config fd most me old new reply fine e me.queue refl g) h).within
  step_keeps old new (Close fd) reply fine empty h =
      by_case h (λ e r. subst (λ (s : State). Each P s.sockets) (sym r.1) fine.within)
      (λ me e g. subst (λ (s : State). Each P s.sockets) (sym g.1)
      (each-filter P (λ (x : Socket). not (x.fd == fd)) old.sockets fine.within))
  step_keeps old new (Set_option fd option on) reply fine empty h =
      (on_socket fd old new reply _ fine (λ me e g. options_fine old.config fd option on old new reply fine g) h).within
  step_keeps old new (Set_limit fd limit) reply fine empty h =
      (on_socket fd old new reply _ fine (λ me e g. limits_fine old.config fd limit old new reply fine empty g)
      h).within
  step_keeps old new (Comes packet) reply fine empty h = (comes_fine old.config packet old new fine h.1).within
  step_keeps old new Transmit reply fine empty h = transmits_within old.output old new reply fine.within h
  step_keeps old new Tick reply fine empty h = subst (λ (s : State). Each P s.sockets) (sym h.1) fine.within
  step_keeps old new Ask_counters reply fine empty h = subst (λ (s : State). Each P s.sockets) (sym h.1) fine.within
  step_keeps old new Ask_usage reply fine empty h = subst (λ (s : State). Each P s.sockets) (sym h.3) fine.within

-- ---- queues stay within their limits

within_is_kept : IsKept KeepsLimit
within_is_kept = record {
  same = within_same;
  new = λ fd. within_nothing (new_socket fd) refl;
  more = λ x sender item fits is. within_more x sender item fits;
  less = within_less;
}

lets_within : (event : Event) (old : State) → SetsEmpty event old → Lets KeepsLimit within_is_kept event old
lets_within (Set_limit fd limit) old h = each old.sockets h
  where
    each : (xs : List Socket) → Each {X = Socket} (λ x. (x.fd == fd) ≡ true → x.queue ≡ []) xs
        → Each {X = Socket} (λ x. (x.fd == fd) ≡ true → KeepsLimit (record x { limit = limit })) xs
    each [] h = tt
    each (x ∷ xs) h = ((λ t. within_nothing (record x { limit = limit }) (h.0 t)), each xs h.1)
lets_within Open old h = tt
lets_within (Bind fd a) old h = tt
lets_within (Connect fd a) old h = tt
lets_within (Send fd to bytes) old h = tt
lets_within (Receive fd most) old h = tt
lets_within (Close fd) old h = tt
lets_within (Set_option fd option on) old h = tt
lets_within (Comes packet) old h = tt
lets_within Transmit old h = tt
lets_within Tick old h = tt
lets_within Ask_counters old h = tt
lets_within Ask_usage old h = tt

pub step_stays_within : (old new : State) (event : Event) (reply : Reply) → IsConsistent old → KeepLimits old
    → SetsEmpty event old → Step old event reply new → KeepLimits new
step_stays_within old new event reply is within empty h =
    step_keeps KeepsLimit within_is_kept old new event reply (record { within = within; distinct = is.distinct })
    (lets_within event old empty) h

pub run_stays_within : (old new : State) (turns : List Turn) → IsConsistent old → KeepLimits old
    → LeadsEmpty old turns new → IsConsistent new × KeepLimits new
run_stays_within old new [] is within e =
    subst (λ (s : State). IsConsistent s × KeepLimits s) (sym e) (is, within)
run_stays_within old new (turn ∷ turns) is within (empty, ranges, mid, step, later) =
    run_stays_within mid new turns (step_is_consistent old mid turn.event turn.reply is ranges step)
    (step_stays_within old mid turn.event turn.reply is within empty step) later

-- ---- limits stay 0 if no event sets one

unset_is_kept : IsKept (λ (x : Socket). x.limit ≡ 0)
unset_is_kept = record {
  same = λ x y queue limit is. limit ∙ is;
  new = λ fd. refl;
  more = λ x sender item fits is. is;
  less = λ x d later same is. is;
}

lets_unset : (event : Event) (old : State) → SetsNone event → Lets (λ (x : Socket). x.limit ≡ 0) unset_is_kept event old
lets_unset (Set_limit fd limit) old h = absurd h
lets_unset Open old h = tt
lets_unset (Bind fd a) old h = tt
lets_unset (Connect fd a) old h = tt
lets_unset (Send fd to bytes) old h = tt
lets_unset (Receive fd most) old h = tt
lets_unset (Close fd) old h = tt
lets_unset (Set_option fd option on) old h = tt
lets_unset (Comes packet) old h = tt
lets_unset Transmit old h = tt
lets_unset Tick old h = tt
lets_unset Ask_counters old h = tt
lets_unset Ask_usage old h = tt

pub run_stays_unset : (old new : State) (turns : List Turn) → IsConsistent old → AreUnset old
    → Each (λ (turn : Turn). SetsNone turn.event) turns → Leads exact_ledger old turns new → AreUnset new
run_stays_unset old new [] is unset none e = subst AreUnset (sym e) unset
run_stays_unset old new (turn ∷ turns) is unset none (ranges, mid, step, later) =
    run_stays_unset mid new turns (step_is_consistent old mid turn.event turn.reply is ranges step)
    (step_keeps (λ (x : Socket). x.limit ≡ 0) unset_is_kept old mid turn.event turn.reply
    (record { within = unset; distinct = is.distinct }) (lets_unset turn.event old none.0) step) none.1 later

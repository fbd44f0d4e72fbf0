-- The socket calls except sends keep the invariant of the state.
use Rattle.std.proofs.Common.{◌≡◌, ℕ, zero, suc, ◌+◌, ◌<◌, ◌≤◌, Bool, true, false, List, [], ◌∷◌, length, map, refl, sym, ap, subst, arith, Option, Some, None, cond, ◌⊎◌, inl, inr}
use Rattle.std.specs.Prelude.{◌==◌, ◌||◌, not, count_by, find, unwrap_or, is_some, IsSome, IsNone}
use Rattle.std.specs.List.{AllByRecursion as Each}
use Rattle.std.proofs.lemmas.Bool.{eqb-true, eqb-false, ltb-true, or_cases, not-false, cases_lt}
use Rattle.std.proofs.lemmas.Option.{none-some, same_Some}
use Rattle.std.proofs.lemmas.List.{length-map}
use Rattle.std.proofs.lemmas.List.Sums.{count_by-le-length, length-filter, sum_by-cons}
use Rattle.flat_model.specs.Amounts.Weight.{all_of}
use Rattle.flat_model.specs.Machine.Event.{Reply, IsAddr}
use Rattle.flat_model.specs.declared.errno.Errno.{Errno}
use Rattle.flat_model.specs.declared.option.Opt.{Opt}
use Rattle.flat_model.specs.declared.option.Opt.TheVariants.{Broadcast, ReusePort}
use Rattle.flat_model.specs.Machine.State.{State, Socket, Datagram, loopback, change_socket, socket_at}
use Rattle.flat_model.specs.Machine.Calls as Calls
use Rattle.flat_model.specs.Machine.Calls.{Refuses, GetsPort, IsLowestFree, port_after, unless_zero, is_ours, disconnected, set_option, source_for, new_socket, read_addr}
use Rattle.flat_model.specs.Sockets.Fits.{bytes_queued}
use Rattle.flat_model.specs.Runs.Consistent.{IsQueued, IsSocket, IsPeer}
use Rattle.flat_model.specs.declared.address.Addr.{Addr}
use Rattle.flat_model.specs.declared.config.Config.{Config}
use Rattle.flat_model.proofs.Lists.Each.{by_choice, by_case, each-map, each-filter, each-find, none_passed}
use Rattle.flat_model.proofs.Lists.Totals.{total, zeros, total_le, total_add, spike, total_spike_most, count_cons}
use Rattle.flat_model.proofs.Machine.Kept.{Good, weight_of_socket, with_parts}
use Rattle.flat_model.proofs.Machine.KeptLists.{count-map, count-filter, none_found, mbufs-replaced, mbufs-filter, mbufs-map}

-- ---- sixty-four sockets have the descriptors 3 to 66

ones : (at n : ℕ) → total (λ k. 1) at n ≡ n
unfolding total
ones at zero = refl
ones at (suc n) = let rest = ones (at + 1) n in omega arith

count_fds : (sockets : List Socket) (at n : ℕ)
    → total (λ k. count_by (λ (socket : Socket). socket.fd == k) sockets) at n ≤ length sockets
count_fds [] at n = let z = zeros at n in omega arith
count_fds (x ∷ xs) at n =
    let le =
    total_le (λ k. count_by (λ (socket : Socket). socket.fd == k) (x ∷ xs))
    (λ k. spike x.fd 1 k + count_by (λ (socket : Socket). socket.fd == k) xs) at n (λ k low high. each k) in
    let both = total_add (spike x.fd 1) (λ k. count_by (λ (socket : Socket). socket.fd == k) xs) at n in
    let one = total_spike_most x.fd 1 at n in
    let rest = count_fds xs at n in
    omega arith
  where
    turn : (k : ℕ) (a b : Bool) → (x.fd == k) ≡ a → (k == x.fd) ≡ b → cond {A = ℕ} a 1 0 ≤ cond b 1 0
    turn k false b e t = omega arith
    turn k true true e t = omega arith
    turn k true false e t = absurd (eqb-false _ _ t (sym (eqb-true _ _ e)))

    each : (k : ℕ) → count_by (λ (socket : Socket). socket.fd == k) (x ∷ xs)
        ≤ spike x.fd 1 k + count_by (λ (socket : Socket). socket.fd == k) xs
    each k = let le = turn k (x.fd == k) (k == x.fd) refl refl in
        omega (arith, count_cons (λ (socket : Socket). socket.fd == k) x xs)

found_some : {X : Type 0} (p : X → Bool) (xs : List X) → IsSome (find p xs) → 1 ≤ count_by p xs
found_some p [] e = absurd (never e)
  where
    never : false ≡ true → ⊥
    never e = cc
found_some p (x ∷ xs) e = go (p x) refl (found_some p xs) e (count_cons p x xs)
  where
    go : (b : Bool) → p x ≡ b → (IsSome (find p xs) → 1 ≤ count_by p xs) → IsSome (cond b (Some x) (find p xs))
        → count_by p (x ∷ xs) ≡ cond {A = ℕ} (p x) 1 0 + count_by p xs → 1 ≤ count_by p (x ∷ xs)
    go true t rest e n = let one : cond {A = ℕ} (p x) 1 0 ≡ 1 = ap (λ b. cond {A = ℕ} b 1 0) t in omega arith
    go false t rest e n = let later = rest e in omega arith

module _ (c : Config) (host : is_ours c c.addr ≡ true) (lo : is_ours c loopback ≡ true) where
  lowest_small : (h : ℕ) (s : State) (fd : ℕ) → Good c h s → length s.sockets < 64 → IsLowestFree s fd → fd ≤ 66
  lowest_small h s fd good few least = go (cases_lt 66 fd)
    where
      go : (66 < fd) ⊎ (fd ≤ 66) → fd ≤ 66
      go (inr le) = le
      go (inl lt) =
          let all =
          total_le (λ k. 1) (λ k. count_by (λ (socket : Socket). socket.fd == k) s.sockets) 3 64
          (λ k low high. found_some (λ (socket : Socket). socket.fd == k) s.sockets
          (least.passed k low (omega arith))) in
          let n = ones 3 64 in
          let most = count_fds s.sockets 3 64 in
          absurd (omega arith)

  pub refused : (old new : State) (errno : Errno) (reply : Reply) → Good c 0 old → Refuses errno old reply new
      → Good c 0 new
  refused old new errno reply good h = subst (Good c 0) (sym h.1) good

  -- the sockets with a descriptor change, and keep their descriptor and their queue's weight
  pub changes : (h fd : ℕ) (change : Socket → Socket) (s : State) → Good c h s
      → ((socket : Socket) → IsSocket c socket → IsSocket c (change socket))
      → ((socket : Socket) → (change socket).fd ≡ socket.fd)
      → (all_of weight_of_socket (map (λ (socket : Socket). cond (socket.fd == fd) (change socket) socket)
      s.sockets)).mbufs ≤ (all_of weight_of_socket s.sockets).mbufs → Good c h (change_socket fd change s)
  changes h fd change s good keeps same less = with_parts good (record {
    each = each-map (IsSocket c) _ (λ socket g. go socket g (socket.fd == fd)) s.sockets good.sockets.each;
    few =
        omega (
          arith,
          good.sockets.few,
          length-map s.sockets
              (λ (socket : Socket). cond (socket.fd == fd) (change socket) socket),
        );
    distinct =
        λ k. let equal =
        count-map (λ (socket : Socket). socket.fd == k) (λ socket. cond (socket.fd == fd) (change socket) socket)
        (λ socket. fd_same socket k (socket.fd == fd)) s.sockets in omega (arith, good.sockets.distinct k);
  }) good.unfinished good.output good.numbers (omega (arith, good.mbufs))
    where
      fd_same : (socket : Socket) (k : ℕ) (b : Bool) → ((cond b (change socket) socket).fd == k) ≡ (socket.fd == k)
      fd_same socket k true = ap (λ n. n == k) (same socket)
      fd_same socket k false = refl

      go : (socket : Socket) → IsSocket c socket → (b : Bool) → IsSocket c (cond b (change socket) socket)
      go socket g true = keeps socket g
      go socket g false = g

  -- the same if the queues don't change
  pub renames : (h fd : ℕ) (change : Socket → Socket) (s : State) → Good c h s
      → ((socket : Socket) → IsSocket c socket → IsSocket c (change socket))
      → ((socket : Socket) → (change socket).fd ≡ socket.fd)
      → ((socket : Socket) → (weight_of_socket (change socket)).mbufs ≡ (weight_of_socket socket).mbufs)
      → Good c h (change_socket fd change s)
  renames h fd change s good keeps same equal = changes h fd change s good keeps same
      (omega (
        arith,
        mbufs-map weight_of_socket (λ (socket : Socket). cond (socket.fd == fd) (change socket) socket)
            (λ socket. go socket (socket.fd == fd)) s.sockets,
      ))
    where
      go : (socket : Socket) (b : Bool)
          → (weight_of_socket (cond b (change socket) socket)).mbufs ≡ (weight_of_socket socket).mbufs
      go socket true = equal socket
      go socket false = refl

  pub record IsPort (p : ℕ) : Type 0 where
    pub some : 1 ≤ p
    pub small : p < 65536

  port_range : (last : Option ℕ) (k : ℕ) → (1024 ≤ port_after last k) × (port_after last k ≤ 5000)
  port_range None k = (omega arith, omega arith)
  port_range (Some last) k = (omega arith, omega arith)

  pub gets : (h : ℕ) (old new : State) (local asked : Option ℕ) (port : ℕ) → Good c h old
      → ((p : ℕ) → asked ≡ Some p → IsPort p) → GetsPort old local asked port new → Good c h new × IsPort port
  gets h old new local (Some q) port good small g =
      (subst (Good c h) (sym g.1) good, subst IsPort (sym g.0) (small q refl))
  gets h old new local None port good small g =
      let here : port ≡ port_after old.last_port g.0.turns = g.0.here in
      let range = port_range old.last_port g.0.turns in (
        subst (Good c h) (sym g.1) (with_parts good good.sockets good.unfinished good.output (record {
          last_port = λ p e. let same : port ≡ p = same_Some port p e in
              (omega (arith, range.0), omega (arith, range.1));
          next_id = good.numbers.next_id;
        }) good.mbufs),
        record { some = omega (arith, range.0); small = omega (arith, range.1) },
      )

  pub found : (h fd : ℕ) (s : State) (me : Socket) → Good c h s → socket_at fd s ≡ Some me → IsSocket c me
  found h fd s me good e = (each-find (IsSocket c) (λ socket. socket.fd == fd) s.sockets me good.sockets.each e).0

  pub asked_port : (me : Socket) → IsSocket c me → (p : ℕ) → me.port ≡ Some p → IsPort p
  asked_port me is p e = let r = is.port p e in record { some = r.0; small = r.1 }

  -- ---- the calls

  pub opens : (old new : State) (reply : Reply) → Good c 0 old → Calls.Opens 64 old reply new → Good c 0 new
  opens old new reply good h = by_choice h
      (λ e (fd, least, answer, is). subst (Good c 0) (sym is) (with_parts good (record {
        each = (
          record {
            least_fd = least.least;
            greatest_fd = lowest_small 0 old fd good (ltb-true (length old.sockets) 64 e) least;
            local = λ ip e. absurd (none-some ip e);
            port = λ p e. absurd (none-some p e);
            peer = λ a e. absurd (none-some a e);
            unbound = λ e. (refl, refl);
            queue = tt;
            limit = omega arith;
            queued_bytes = omega arith;
            queued = omega arith;
          },
          good.sockets.each,
        );
        few = let room : length old.sockets < 64 = ltb-true (length old.sockets) 64 e in omega arith;
        distinct = λ k. one fd least k (fd == k) refl;
      }) good.unfinished good.output good.numbers (omega (arith, good.mbufs))))
      (λ e r. refused old new _ reply good r)
    where
      nothing_at : (fd : ℕ) → IsNone (socket_at fd old) → socket_at fd old ≡ None
      nothing_at fd e = go (socket_at fd old) e
        where
          go : (x : Option Socket) → IsNone x → x ≡ None
          go None e = refl
          go (Some x) e = absurd (never e)
            where
              never : true ≡ false → ⊥
              never e = cc

      one : (fd : ℕ) → IsLowestFree old fd → (k : ℕ) (b : Bool) → (fd == k) ≡ b
          → count_by (λ (socket : Socket). socket.fd == k) (new_socket fd ∷ old.sockets) ≤ 1
      one fd least k true e =
          let none = none_found (λ (socket : Socket). socket.fd == fd) old.sockets (nothing_at fd least.free) in
          let same : count_by (λ (socket : Socket). socket.fd == k) old.sockets
          ≡ count_by (λ (socket : Socket). socket.fd == fd) old.sockets =
          ap (λ j. count_by (λ (socket : Socket). socket.fd == j) old.sockets) (sym (eqb-true fd k e)) in
          let here : cond {A = ℕ} (fd == k) 1 0 ≡ 1 = ap (λ b. cond {A = ℕ} b 1 0) e in
          omega (arith, count_cons (λ (socket : Socket). socket.fd == k) (new_socket fd) old.sockets)
      one fd least k false e =
          let here : cond {A = ℕ} (fd == k) 1 0 ≡ 0 = ap (λ b. cond {A = ℕ} b 1 0) e in
          omega (arith, count_cons (λ (socket : Socket). socket.fd == k) (new_socket fd) old.sockets, good.sockets.distinct k)

  pub closes : (fd : ℕ) (old new : State) (reply : Reply) → Good c 0 old → Calls.Closes fd old reply new → Good c 0 new
  closes fd old new reply good h = subst (Good c 0) (sym h.1) (with_parts good (record {
    each = each-filter (IsSocket c) (λ socket. not (socket.fd == fd)) old.sockets good.sockets.each;
    few =
        omega (
          arith,
          good.sockets.few,
          length-filter (λ (socket : Socket). not (socket.fd == fd)) old.sockets,
          count_by-le-length (λ (socket : Socket). not (socket.fd == fd)) old.sockets,
        );
    distinct =
        λ k. let le =
        count-filter (λ (socket : Socket). socket.fd == k) (λ socket. not (socket.fd == fd)) old.sockets in
        omega (arith, good.sockets.distinct k);
  }) good.unfinished good.output good.numbers
      (let le = mbufs-filter weight_of_socket (λ (socket : Socket). not (socket.fd == fd)) old.sockets in
      omega (arith, good.mbufs)))

  pub binds : (fd : ℕ) (a : Addr) (me : Socket) (old new : State) (reply : Reply) → Good c 0 old → IsAddr a
      → Calls.Binds fd a me old reply new → Good c 0 new
  binds fd a me old new reply good is h = by_case h
      (λ e (port, chosen, g, answer, n).
      let passed = none_passed (Calls.bind_faults old me a) e in
      let got = gets 0 old chosen _ _ port good (λ p t. asked a.port p (omega (arith, is.port)) t) g in
      subst (Good c 0) (sym n) (renames 0 fd _ chosen got.0 (λ socket s. record {
        least_fd = s.least_fd;
        greatest_fd = s.greatest_fd;
        local = λ ip t. subst (λ cc. is_ours cc ip ≡ true) good.config (address ip a.ip (not-false _ passed.1.0) t);
        port = λ p t. let same : port ≡ p = same_Some port p t in
            (omega (arith, got.1.some), omega (arith, got.1.small));
        peer = s.peer;
        unbound = λ t. absurd (none-some port (sym t));
        queue = s.queue;
        limit = s.limit;
        queued_bytes = s.queued_bytes;
        queued = s.queued;
      }) (λ socket. refl) (λ socket. refl)))
      (λ errno e r. refused old new errno reply good r)
    where
      asked : (q p : ℕ) → q < 65536 → unless_zero q ≡ Some p → IsPort p
      asked zero p l e = absurd (none-some p e)
      asked (suc q) p l e = let same : suc q ≡ p = same_Some _ p e in record { some = omega arith; small = omega arith }

      address : (ip b : ℕ) → ((b == 0) || is_ours old.config b) ≡ true → unless_zero b ≡ Some ip
          → is_ours old.config ip ≡ true
      address ip zero ours e = absurd (none-some ip e)
      address ip (suc b) ours e = go (or_cases (suc b == 0) _ ours)
        where
          same : suc b ≡ ip
          same = same_Some _ _ e

          go : ((suc b == 0) ≡ true) ⊎ (is_ours old.config (suc b) ≡ true) → is_ours old.config ip ≡ true
          go (inl z) = absurd (omega (arith, eqb-true (suc b) 0 z))
          go (inr o) = subst (λ i. is_ours old.config i ≡ true) same o

  source_ours : (me : Socket) (to : ℕ) → ((ip : ℕ) → me.local ≡ Some ip → is_ours c ip ≡ true)
      → is_ours c (source_for c me to) ≡ true
  source_ours me to local = go me.local refl
    where
      default : (b : Bool) → is_ours c (cond b loopback c.addr) ≡ true
      default true = lo
      default false = host

      go : (l : Option ℕ) → me.local ≡ l → is_ours c (unwrap_or l (cond (to == loopback) loopback c.addr)) ≡ true
      go (Some ip) e = local ip e
      go None e = default (to == loopback)

  apart : (socket : Socket) → IsSocket c socket → (b : Bool)
      → IsSocket c (cond b (record socket { local = None; peer = None }) socket)
  apart socket s true =
      record {
        least_fd = s.least_fd;
        greatest_fd = s.greatest_fd;
        local = λ ip e. absurd (none-some ip e);
        port =
            s.port;
        peer =
            λ a e. absurd (none-some a e);
        unbound =
            λ e. (refl, refl);
        queue = s.queue;
        limit = s.limit;
        queued_bytes = s.queued_bytes;
        queued = s.queued;
      }
  apart socket s false = s

  pub connects : (fd : ℕ) (a : Addr) (me : Socket) (old new : State) (reply : Reply) → Good c 0 old → IsAddr a
      → IsSocket c me → Calls.Connects fd a me old reply new → Good c 0 new
  connects fd a me before new reply good is sound h = by_case h
      (λ e (port, chosen, g, answer, n).
      let passed = none_passed (Calls.connect_faults old (disconnected me) to) e in
      let got = gets 0 old chosen _ _ port let_go (asked_port (disconnected me) me_is) g in
      subst (Good c 0) (sym n) (renames 0 fd _ chosen got.0 (λ socket s. record {
        least_fd = s.least_fd;
        greatest_fd = s.greatest_fd;
        local =
            λ ip t. subst (λ i. is_ours c i ≡ true) (same_Some _ ip t)
            (subst (λ cc. is_ours c (source_for cc (disconnected me) to.ip) ≡ true) (sym good.config)
            (source_ours (disconnected me) to.ip me_is.local));
        port = λ p t. let same : port ≡ p = same_Some port p t in
            (omega (arith, got.1.some), omega (arith, got.1.small));
        peer =
            λ b t. subst IsPeer (same_Some _ b t)
            (record {
              is_there = not-false _ passed.1.0;
              some_port = some_number a.port passed.0;
              port = omega (arith, is.port);
            });
        unbound = λ t. absurd (none-some port (sym t));
        queue = s.queue;
        limit = s.limit;
        queued_bytes = s.queued_bytes;
        queued = s.queued;
      }) (λ socket. refl) (λ socket. refl)))
      (λ errno e r. refused old new errno reply let_go r)
    where
      to : Addr
      to = read_addr before.config a

      old : State
      old = change_socket fd disconnected before

      fd_kept : (socket : Socket) (b : Bool)
          → (cond b (record socket { local = None; peer = None }) socket).fd ≡ socket.fd
      fd_kept socket true = refl
      fd_kept socket false = refl

      queue_kept : (socket : Socket) (b : Bool)
          → (weight_of_socket (cond b (record socket { local = None; peer = None }) socket)).mbufs
          ≡ (weight_of_socket socket).mbufs
      queue_kept socket true = refl
      queue_kept socket false = refl

      let_go : Good c 0 (change_socket fd disconnected before)
      let_go =
          renames 0 fd disconnected before good (λ socket s. apart socket s (is_some socket.peer))
          (λ socket. fd_kept socket (is_some socket.peer)) (λ socket. queue_kept socket (is_some socket.peer))

      me_is : IsSocket c (disconnected me)
      me_is = apart me sound (is_some me.peer)

      some_number : (p : ℕ) → (p == 0) ≡ false → 1 ≤ p
      some_number zero e = absurd (eqb-false 0 0 e refl)
      some_number (suc p) e = omega arith

  pub receives : (fd most : ℕ) (me : Socket) (old new : State) (reply : Reply) → Good c 0 old
      → socket_at fd old ≡ Some me → (queue : List Datagram) → me.queue ≡ queue
      → Calls.Receives fd most queue old reply new → Good c 0 new
  receives fd most me old new reply good at [] e h = refused old new _ reply good h
  receives fd most me old new reply good at (d ∷ later) e h =
      let me_is = found 0 fd old me good at in
      let rest : Each (IsQueued c) later = (subst (Each (IsQueued c)) e me_is.queue).1 in
      let limits : (bytes_queued later ≤ 65535) × (length later ≤ 512) =
      shorter later (subst (λ q. bytes_queued q ≤ 65535) e me_is.queued_bytes)
      (subst (λ (q : List Datagram). length q ≤ 512) e me_is.queued) in
      subst (Good c 0) (sym h.1) (changes 0 fd (λ socket. record socket { queue = later }) old good
      (λ socket s. record {
        least_fd = s.least_fd;
        greatest_fd = s.greatest_fd;
        local = s.local;
        port = s.port;
        peer =
            s.peer;
        unbound =
            s.unbound;
        queue = rest;
        limit = s.limit;
        queued_bytes = omega (arith, limits.0);
        queued = omega (arith, limits.1);
      })
      (λ socket. refl)
      (let now = mbufs-replaced weight_of_socket (λ (socket : Socket). socket.fd == fd)
      (λ socket. record socket { queue = later }) (all_of (λ (x : Datagram). x.item.weight) later).mbufs (λ x. refl)
      old.sockets me (good.sockets.distinct fd) at in
      let all : (weight_of_socket me).mbufs
      ≡ d.item.weight.mbufs + (all_of (λ (x : Datagram). x.item.weight) later).mbufs =
      ap (λ q. (all_of (λ (x : Datagram). x.item.weight) q).mbufs) e in
      omega arith))
    where
      shorter : (ds : List Datagram) → bytes_queued (d ∷ ds) ≤ 65535 → length (d ∷ ds) ≤ 512
          → (bytes_queued ds ≤ 65535) × (length ds ≤ 512)
      shorter ds b l = (omega (arith, sum_by-cons (λ (x : Datagram). 16 + length x.item.bytes) d ds), omega arith)

  pub limits : (fd limit : ℕ) (old new : State) (reply : Reply) → Good c 0 old → limit < 65536
      → Calls.SetsLimit fd limit old reply new → Good c 0 new
  limits fd limit old new reply good small h =
      subst (Good c 0) (sym h.1) (renames 0 fd _ old good (λ socket s. record {
        least_fd = s.least_fd;
        greatest_fd = s.greatest_fd;
        local = s.local;
        port = s.port;
        peer = s.peer;
        unbound = s.unbound;
        queue = s.queue;
        limit = omega arith;
        queued_bytes = s.queued_bytes;
        queued = s.queued;
      }) (λ socket. refl) (λ socket. refl))

  pub sets : (fd : ℕ) (option : Opt) (on : Bool) (old new : State) (reply : Reply) → Good c 0 old
      → Calls.SetsOption fd option on old reply new → Good c 0 new
  sets fd option on old new reply good h =
      subst (Good c 0) (sym h.1) (renames 0 fd _ old good (λ socket s. go option socket s)
      (λ socket. fd_kept option socket) (λ socket. queue_kept option socket))
    where
      options : (b r : Bool) (socket : Socket) → IsSocket c socket
          → IsSocket c (record socket { broadcast = b; reuse_port = r })
      options b r socket s =
          record {
            least_fd = s.least_fd;
            greatest_fd = s.greatest_fd;
            local = s.local;
            port = s.port;
            peer = s.peer;
            unbound = s.unbound;
            queue = s.queue;
            limit = s.limit;
            queued_bytes = s.queued_bytes;
            queued = s.queued;
          }

      go : (option : Opt) (socket : Socket) → IsSocket c socket → IsSocket c (set_option option on socket)
      go Broadcast socket s = options on socket.reuse_port socket s
      go ReusePort socket s = options socket.broadcast on socket s

      fd_kept : (option : Opt) (socket : Socket) → (set_option option on socket).fd ≡ socket.fd
      fd_kept Broadcast socket = refl
      fd_kept ReusePort socket = refl

      queue_kept : (option : Opt) (socket : Socket)
          → (weight_of_socket (set_option option on socket)).mbufs ≡ (weight_of_socket socket).mbufs
      queue_kept Broadcast socket = refl
      queue_kept ReusePort socket = refl

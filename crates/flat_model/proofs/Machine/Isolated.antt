-- The pool has room for what the limits of the sockets leave.
use Rattle.std.proofs.Common.{◌≡◌, ℕ, zero, suc, ◌+◌, ◌*◌, ◌<◌, ◌≤◌, Bool, true, false, List, [], ◌∷◌, ◌++◌, length, Option, Some, None, refl, sym, ◌∙◌, ap, subst, arith, cond, ◌⊎◌, inl, inr}
use Rattle.std.specs.Prelude.{◌==◌, ◌≢◌, count_by, sum_by}
use Rattle.std.specs.List.{AllByRecursion as Each, range_with_len}
use Rattle.std.proofs.lemmas.Bool.{eqb-true, eqb-false, le-leb, and_from}
use Rattle.std.proofs.lemmas.Option.{none-some, same_Some}
use Rattle.std.proofs.lemmas.List.{length-append}
use Rattle.std.proofs.lemmas.List.Sums.{sum_by-cons}
use Rattle.flat_model.specs.Amounts.Weight.{Weight, Item, ◌⊕◌, all_of, times, nothing, mbuf}
use Rattle.flat_model.specs.Amounts.Layout.{Need}
use Rattle.flat_model.specs.Packets.Header.{first_fault}
use Rattle.flat_model.specs.Sockets.Fits as Fits
use Rattle.flat_model.specs.Sockets.Fits.{memory_queued, memory_limit}
use Rattle.flat_model.specs.Machine.Event.{Reply, Send, Sent, Refused}
use Rattle.flat_model.specs.Machine.Arrival.{Appends, Tests, with_datagram}
use Rattle.flat_model.specs.Machine.Send.{Sends, need_to, send_faults, target}
use Rattle.flat_model.specs.Machine.Step.{Step}
use Rattle.flat_model.specs.declared.address.Addr.{Addr}
use Rattle.flat_model.specs.declared.errno.Errno.{Errno}
use Rattle.flat_model.specs.declared.errno.Errno.TheVariants.{NoBufs}
use Rattle.flat_model.specs.declared.errno.Lack.TheVariants.{Pool, Queue}
use Rattle.flat_model.specs.Machine.State.{State, Socket, Datagram, socket_at, change_socket}
use Rattle.flat_model.specs.Machine.Ledger.{HasBuffers, exact_ledger, need_mbufs, reclaimed, weight_of_state, has_enough, free_mbufs, free_clusters}
use Rattle.flat_model.specs.Runs.Consistent.{IsConsistent, IsQueued, IsSocket}
use Rattle.flat_model.specs.Runs.Isolation.{HoldsAtMost, KeepsLimit, KeepLimits, allowed, PoolHasRoom, IsQueuedFor, held_and}
use Rattle.flat_model.specs.declared.config.Config.{Config}
use Rattle.flat_model.proofs.Lists.Totals.{total, zeros, total_le, total_add, total_spike_most, spike, count_cons}
use Rattle.flat_model.proofs.Lists.Each.{by_choice, by_case, each-both}
use Rattle.flat_model.proofs.Machine.Kept.{weight_of_socket, weight_of_item}

-- ---- clusters without a reference

counts_most : (bag : List ℕ) (at n : ℕ) → total (λ k. times k bag) at n ≤ length bag
counts_most [] at n =
    let none = zeros at n in
    let le = total_le (λ k. times k []) (λ k. 0) at n (λ k low high. omega arith) in
    omega arith
counts_most (x ∷ xs) at n =
    let le = total_le (λ k. times k (x ∷ xs)) (λ k. spike x 1 k + times k xs) at n (λ k low high. each k) in
    let both = total_add (spike x 1) (λ k. times k xs) at n in
    let one = total_spike_most x 1 at n in
    let rest = counts_most xs at n in
    omega arith
  where
    turn : (k : ℕ) (a b : Bool) → (x == k) ≡ a → (k == x) ≡ b → cond {A = ℕ} a 1 0 ≤ cond b 1 0
    turn k false b e t = omega arith
    turn k true true e t = omega arith
    turn k true false e t = absurd (eqb-false _ _ t (sym (eqb-true _ _ e)))

    each : (k : ℕ) → times k (x ∷ xs) ≤ spike x 1 k + times k xs
    each k = let le = turn k (x == k) (k == x) refl refl in omega (arith, count_cons (λ j. j == k) x xs)

zero_or_more : (bag : List ℕ) (at n : ℕ)
    → n ≤ count_by (λ c. times c bag == 0) (range_with_len at n) + total (λ k. times k bag) at n
unfolding total
zero_or_more bag at zero = omega arith
zero_or_more bag at (suc n) =
    go (times at bag == 0) refl (zero_or_more bag (at + 1) n)
    (count_cons (λ c. times c bag == 0) at (range_with_len (at + 1) n))
  where
    go : (b : Bool) → (times at bag == 0) ≡ b
        → n ≤ count_by (λ c. times c bag == 0) (range_with_len (at + 1) n) + total (λ k. times k bag) (at + 1) n
        → count_by (λ c. times c bag == 0) (at ∷ range_with_len (at + 1) n)
        ≡ cond {A = ℕ} (times at bag == 0) 1 0 + count_by (λ c. times c bag == 0) (range_with_len (at + 1) n)
        → suc n ≤ count_by (λ c. times c bag == 0) (at ∷ range_with_len (at + 1) n)
        + (times at bag + total (λ k. times k bag) (at + 1) n)
    go true e rest n = let one : cond {A = ℕ} (times at bag == 0) 1 0 ≡ 1 = ap (λ b. cond {A = ℕ} b 1 0) e in
        omega arith
    go false e rest n =
        let some : times at bag ≡ 0 → ⊥ = eqb-false _ _ e in
        let none : cond {A = ℕ} (times at bag == 0) 1 0 ≡ 0 = ap (λ b. cond {A = ℕ} b 1 0) e in
        omega arith

-- each reference is of at most one cluster
unreferenced : (bag : List ℕ) (n : ℕ) → n ≤ count_by (λ c. times c bag == 0) (range_with_len 0 n) + length bag
unreferenced bag n = omega (arith, zero_or_more bag 0 n, counts_most bag 0 n)

-- ---- what a queue holds

-- the memory of a queue is that of its weight
memory_is : (queue : List Datagram)
    → memory_queued queue ≡ 128 * (all_of (λ (d : Datagram). d.item.weight) queue).mbufs
    + 2048 * length (all_of (λ (d : Datagram). d.item.weight) queue).bag
memory_is [] = refl
memory_is (d ∷ ds) =
    let rest = memory_is ds in
    omega (
      arith,
      sum_by-cons (λ (x : Datagram). 128 * x.item.weight.mbufs + 2048 * length x.item.weight.bag) d ds,
      length-append d.item.weight.bag (all_of (λ (x : Datagram). x.item.weight) ds).bag,
    )

-- an mbuf refers to one cluster at most
references_few : (c : Config) (queue : List Datagram) → Each (IsQueued c) queue
    → length (all_of (λ (d : Datagram). d.item.weight) queue).bag
    ≤ (all_of (λ (d : Datagram). d.item.weight) queue).mbufs
references_few c [] h = omega arith
references_few c (d ∷ ds) h =
    let rest = references_few c ds h.1 in
    let mbufs : d.item.weight.mbufs ≡ 1 + h.0.own.mbufs = ap (λ (w : Weight). w.mbufs) h.0.with_address in
    let bag : length d.item.weight.bag ≡ length h.0.own.bag = ap (λ (w : Weight). length w.bag) h.0.with_address in
    omega (
      arith,
      h.0.carries.covers.references,
      length-append d.item.weight.bag (all_of (λ (x : Datagram). x.item.weight) ds).bag,
    )

-- it takes no more mbufs and refers to no more clusters than these
record IsAtMost (most : Need) (w : Weight) : Type 0 where
  mbufs : w.mbufs ≤ most.mbufs
  references : length w.bag ≤ most.clusters

module _ (c : Config) where
  pub socket_holds : (socket : Socket) → IsSocket c socket → KeepsLimit socket → 0 < socket.limit
      → HoldsAtMost (allowed socket.limit) socket.queue
  socket_holds socket is within limited =
      let few = references_few c socket.queue is.queue in
      let memory = memory_is socket.queue in
      let limit : memory_queued socket.queue ≤ 2 * socket.limit = within limited in
      record { mbufs = omega arith; references = omega arith }

  all_hold : (sockets : List Socket) → Each (IsSocket c) sockets → Each KeepsLimit sockets
      → Each (λ (socket : Socket). 0 < socket.limit) sockets
      → IsAtMost (record {
        mbufs = sum_by (λ (socket : Socket). (allowed socket.limit).mbufs) sockets;
        clusters = sum_by (λ (socket : Socket). (allowed socket.limit).clusters) sockets;
      }) (all_of weight_of_socket sockets)
  all_hold [] is within limits = record { mbufs = omega arith; references = omega arith }
  all_hold (x ∷ xs) is within limits =
      let here = socket_holds x is.0 within.0 limits.0 in
      let rest = all_hold xs is.1 within.1 limits.1 in
      record {
        mbufs =
            omega (arith, here.mbufs, rest.mbufs, sum_by-cons (λ (socket : Socket). (allowed socket.limit).mbufs) x xs);
        references =
            omega (
              arith,
              here.references,
              rest.references,
              sum_by-cons (λ (socket : Socket). (allowed socket.limit).clusters) x xs,
              length-append (weight_of_socket x).bag (all_of weight_of_socket xs).bag,
            );
      }

-- ---- the test

pub enough_left : (s : State) (held : Weight) (need : Need) → Each (IsSocket s.config) s.sockets → KeepLimits s
    → PoolHasRoom (held_and held need) s → has_enough (reclaimed s) held need ≡ true
enough_left s held need are within room = and_from _ _ (le-leb _ _ mbufs) (le-leb _ _ clusters)
  where
    hold : IsAtMost (record {
      mbufs = sum_by (λ (socket : Socket). (allowed socket.limit).mbufs) s.sockets;
      clusters = sum_by (λ (socket : Socket). (allowed socket.limit).clusters) s.sockets;
    }) (all_of weight_of_socket s.sockets)
    hold = all_hold s.config s.sockets are within room.limits

    mbufs : need.mbufs ≤ free_mbufs (reclaimed s) held
    mbufs = omega (arith, hold.mbufs, room.mbufs)

    all : List ℕ
    all = (weight_of_state (reclaimed s) ⊕ held).bag

    size : length (weight_of_state (reclaimed s) ⊕ held).bag
        ≡ length (all_of weight_of_socket s.sockets).bag + length (all_of weight_of_item s.output).bag + length held.bag
    size = omega (
      arith,
      length-append ((all_of weight_of_socket s.sockets).bag ++ [] ++ (all_of weight_of_item s.output).bag) held.bag,
      length-append ((all_of weight_of_socket s.sockets).bag ++ []) (all_of weight_of_item s.output).bag,
      length-append (all_of weight_of_socket s.sockets).bag [],
    )

    clusters : need.clusters ≤ free_clusters (reclaimed s) held
    clusters = omega (
      arith,
      hold.references,
      room.clusters,
      size,
      unreferenced (weight_of_state (reclaimed s) ⊕ held).bag s.config.clusters,
    )

-- a test for buffers never fails in such a state
pub never_lacks : (s mid : State) (held : Weight) (need : Need) (yes : Bool) → Each (IsSocket s.config) s.sockets
    → KeepLimits s → PoolHasRoom (held_and held need) s → HasBuffers exact_ledger s held need yes mid → yes ≡ true
never_lacks s mid held need true are within room h = refl
never_lacks s mid held need false are within room (h, e, again) =
    absurd (never (subst (λ (x : State). false ≡ has_enough x held need) e again
    ∙ enough_left s held need are within room))
  where
    never : false ≡ true → ⊥
    never e = cc

-- ---- a send

-- the refusal for the pool
is_pool : Reply → Bool
is_pool (Refused (NoBufs Pool)) = true
is_pool reply = false

not_pool : (tests : List (Bool × Errno)) (errno : Errno)
    → Each {X = Bool × Errno} (λ test. is_pool (Refused test.1) ≡ false) tests → first_fault tests ≡ Some errno
    → is_pool (Refused errno) ≡ false
not_pool [] errno h e = absurd (none-some errno e)
not_pool (test ∷ tests) errno h e = go test.0 (not_pool tests errno h.1) e
  where
    go : (b : Bool) → (first_fault tests ≡ Some errno → is_pool (Refused errno) ≡ false)
        → cond b (Some test.1) (first_fault tests) ≡ Some errno → is_pool (Refused errno) ≡ false
    go true rest e = subst (λ (x : Errno). is_pool (Refused x) ≡ false) (same_Some test.1 errno e) h.0
    go false rest e = rest e

faults_not_pool : (s : State) (me : Socket) (to : Option Addr) (n : ℕ)
    → Each {X = Bool × Errno} (λ test. is_pool (Refused test.1) ≡ false) (send_faults s me to n)
unfolding is_pool
faults_not_pool s me None n = (refl, (refl, (refl, (refl, tt))))
faults_not_pool s me (Some a) n = (refl, (refl, (refl, (refl, (refl, (refl, (refl, (refl, tt))))))))

queue_or_sent : (b : Bool) (n : ℕ) → is_pool (cond b (Refused (NoBufs Queue)) (Sent n)) ≡ false
unfolding is_pool
queue_or_sent true n = refl
queue_or_sent false n = refl

pub never_refused : (s new : State) (fd : ℕ) (to : Option Addr) (bytes : List ℕ) (me : Socket)
    (reply : Reply) → IsConsistent s → KeepLimits s → socket_at fd s ≡ Some me
    → PoolHasRoom (held_and nothing (need_to s.config (target s me to).ip (length bytes))) s
    → Step s (Send fd to bytes) reply new → reply ≢ Refused (NoBufs Pool)
unfolding is_pool
never_refused s new fd to bytes me reply is within at room h refused =
    absurd (never (sym (ap is_pool refused) ∙ other))
  where
    never : true ≡ false → ⊥
    never e = cc

    call : Sends exact_ledger fd to bytes me s reply new → is_pool reply ≡ false
    call x = by_case x
        (λ e (answer, mid, a, rest).
        let yes : answer ≡ true =
        never_lacks s mid nothing (need_to s.config (target s me to).ip (length bytes)) answer is.sockets within room a
        in
        by_choice rest
        (λ t (port, named, clusters, gets, taken, left). ap is_pool left.1 ∙ queue_or_sent _ _)
        (λ f r. absurd (never (sym yes ∙ f))))
        (λ errno e r. ap is_pool r.0 ∙ not_pool (send_faults s me to (length bytes)) errno
        (faults_not_pool s me to (length bytes)) e)

    other : is_pool reply ≡ false
    other = by_case h (λ e r. absurd (none-some me (sym e ∙ at)))
        (λ x e y. call (subst (λ (z : Socket). Sends exact_ledger fd to bytes z s reply new)
        (same_Some x me (sym e ∙ at)) y))

-- ---- a datagram for a socket

pub never_dropped : (s new : State) (held : Weight) (sender : Addr) (item : Item) (to : Socket)
    → Each (IsSocket s.config) s.sockets → KeepLimits s → PoolHasRoom (held_and (held ⊕ item.weight) (need_mbufs 1)) s
    → Fits.fits to.limit to.queue (length item.bytes) (Fits.memory_of item.weight) ≡ true
    → Appends exact_ledger held sender item to s new
    → IsQueuedFor to sender item s new
never_dropped s new held sender item to are within room fit h = go (h.yes fit)
  where
    never : true ≡ false → ⊥
    never e = cc

    at : (mid : State) (answer : Bool) → HasBuffers exact_ledger s (held ⊕ item.weight) (need_mbufs 1) answer mid
        → (mid ≡ s) ⊎ (mid ≡ reclaimed s)
    at mid true (inl h) = inl h.1
    at mid true (inr h) = inr h.1
    at mid false h = inr h.1

    go : Tests exact_ledger s (held ⊕ item.weight) 1 new (λ mid. new ≡ change_socket to.fd (with_datagram
        (record { sender = sender; item = record item { weight = mbuf ⊕ item.weight } })) mid)
        → IsQueuedFor to sender item s new
    go t =
        let yes = never_lacks s t.mid (held ⊕ item.weight) (need_mbufs 1) t.answer are within room t.has_buffers in
        record { mid = t.mid; from = at t.mid t.answer t.has_buffers; queued = t.goes_on.yes yes }

-- ---- what a socket holds

pub each_holds : (s : State) → IsConsistent s → KeepLimits s
    → Each (λ (socket : Socket). 0 < socket.limit → HoldsAtMost (allowed socket.limit) socket.queue) s.sockets
each_holds s is within = each-both (λ x are keeps some. socket_holds s.config x are keeps some) s.sockets is.sockets
    within

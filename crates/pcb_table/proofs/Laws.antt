-- For the layers above, which hold the receive queues: properties of the machines with a table's blocks.
use Rattle.std.proofs.Common.{◌≡◌, ◌≢◌, ℕ, Bool, true, false, ◌==◌, not, nat_lt, cond, List, [], ◌∷◌, map, filter, find, Option, Some, None, option_map, is_some, refl, sym, ap, ◌∙◌, arith}
use Rattle.std.specs.Prelude.{IsNone, sum_by, if◌then◌else◌}
use Rattle.std.specs.List.{range_with_len}
use Rattle.std.proofs.lemmas.Bool.{eq-eqb, eqb-true, eqb-false, ne_eqb, lt-ltb, true≢false}
use Rattle.std.proofs.lemmas.List.Sums.{sum_by-cons, sum_by-append}
use Rattle.flat_model.specs.Amounts.Weight.{Weight, times, all_of}
use Rattle.flat_model.specs.Machine.State.{State, Socket, Datagram, socket_at, change_socket}
use Rattle.flat_model.specs.Machine.Event.{Reply, Refused}
use Rattle.flat_model.specs.Machine.Calls.{OnSocket}
use Rattle.flat_model.specs.declared.errno.Errno.TheVariants.{BadDescriptor}
use Rattle.pcb_table.specs.declared.block.Block.{Block}
use Rattle.pcb_table.specs.Table.{Table, Queues, KeepsOpen, OpensOnly, ClosesOnly, IsOpen, block_at, descriptors, machine, socket_with, sockets_with}
use Rattle.pcb_table.specs.Apart.{AreApart, has_fd}
use Rattle.flat_model.proofs.Laws.{count_cons}
use Rattle.pcb_table.proofs.Descriptors.{named_times, sum_in_range}
use Rattle.pcb_table.proofs.Lifted.{sockets-find}
use Rattle.pcb_table.proofs.Opened.{is_some-find}
use Rattle.pcb_table.proofs.Steps as steps

-- ---- which descriptors are open

-- a descriptor is open if and only if it's in the list
pub open_times : (fd : ℕ) (t : Table) → is_some (block_at fd t) ≡ nat_lt 0 (times fd (descriptors t))
open_times fd t = is_some-find (has_fd fd) t.blocks ∙ ap (nat_lt 0) (sym (named_times fd t.blocks))

pub same_open : (old new : Table) → KeepsOpen old new → (fd : ℕ) → is_some (block_at fd new) ≡ is_some (block_at fd old)
same_open old new keeps fd = open_times fd new ∙ ap (λ fds. nat_lt 0 (times fd fds)) keeps ∙ sym (open_times fd old)

pub opened : (old new : Table) (fd : ℕ) → OpensOnly old fd new → IsOpen fd new
opened old new fd opens =
    open_times fd new ∙ ap (λ fds. nat_lt 0 (times fd fds)) opens.after
    ∙ lt-ltb 0 (times fd (fd ∷ descriptors old))
    (omega (
      arith,
      count_cons (λ k. k == fd) fd (descriptors old),
      ap (λ t. cond {A = ℕ} t 1 0) (eq-eqb fd fd refl),
    ))

pub opened_others : (old new : Table) (fd k : ℕ) → OpensOnly old fd new → k ≢ fd
    → is_some (block_at k new) ≡ is_some (block_at k old)
opened_others old new fd k opens ne =
    open_times k new ∙ ap (λ fds. nat_lt 0 (times k fds)) opens.after
    ∙ ap (nat_lt 0) (let e : times k (fd ∷ descriptors old)
    ≡ times k (descriptors old) =
    omega (
      arith,
      count_cons (λ j. j == k) fd (descriptors old),
      ap (λ t. cond {A = ℕ} t 1 0) (ne_eqb fd k (λ e. ne (sym e))),
    ) in e)
    ∙ sym (open_times k old)

-- how often a number occurs in a list after another number was removed from it
times_filtered : (k fd : ℕ) (xs : List ℕ)
    → times k (filter (λ x. not (x == fd)) xs) ≡ (if k == fd then 0 else times k xs)
times_filtered k fd [] = go (k == fd)
  where
    go : (t : Bool) → times k [] ≡ cond t 0 (times k [])
    go true = refl
    go false = refl
times_filtered k fd (x ∷ xs) = go (x == fd) refl (k == fd) refl (times_filtered k fd xs)
  where
    rest : List ℕ
    rest = filter (λ y. not (y == fd)) xs

    go : (t : Bool) → (x == fd) ≡ t → (u : Bool) → (k == fd) ≡ u → times k rest ≡ cond u 0 (times k xs)
        → times k (cond (not t) (x ∷ rest) rest) ≡ cond u 0 (times k (x ∷ xs))
    go true e true f later = later
    go true e false f later =
        let x_is : x ≡ fd = eqb-true x fd e in
        let k_not : k ≡ fd → ⊥ = eqb-false k fd f in
        omega (
          arith,
          later,
          count_cons (λ j. j == k) x xs,
          ap (λ t. cond {A = ℕ} t 1 0) (ne_eqb x k (λ same. k_not (sym same ∙ x_is))),
        )
    go false e true f later =
        let k_is : k ≡ fd = eqb-true k fd f in
        let x_not : x ≡ fd → ⊥ = eqb-false x fd e in
        omega (
          arith,
          later,
          count_cons (λ j. j == k) x rest,
          ap (λ t. cond {A = ℕ} t 1 0) (ne_eqb x k (λ same. x_not (same ∙ k_is))),
        )
    go false e false f later = omega (arith, later, count_cons (λ j. j == k) x rest, count_cons (λ j. j == k) x xs)

pub closed : (old new : Table) (fd : ℕ) → ClosesOnly old fd new → IsNone (block_at fd new)
closed old new fd closes =
    open_times fd new ∙ ap (λ fds. nat_lt 0 (times fd fds)) closes.after
    ∙ ap (nat_lt 0) (times_filtered fd fd (descriptors old)
    ∙ ap (λ t. if t then 0 else times fd (descriptors old)) (eq-eqb fd fd refl))

pub closed_others : (old new : Table) (fd k : ℕ) → ClosesOnly old fd new → k ≢ fd
    → is_some (block_at k new) ≡ is_some (block_at k old)
closed_others old new fd k closes ne =
    open_times k new ∙ ap (λ fds. nat_lt 0 (times k fds)) closes.after
    ∙ ap (nat_lt 0) (times_filtered k fd (descriptors old)
    ∙ ap (λ t. if t then 0 else times k (descriptors old)) (ne_eqb k fd ne))
    ∙ sym (open_times k old)

-- ---- the socket of a descriptor

pub socket_found : (rest : State) (queues : Queues) (t : Table) (fd : ℕ)
    → socket_at fd (machine rest queues t) ≡ option_map (socket_with queues) (block_at fd t)
socket_found rest queues t fd = sockets-find queues fd t.blocks

-- a call on a descriptor that isn't open, and on one that is
pub not_open : (rest : State) (queues : Queues) (t : Table) (fd : ℕ) (Call : Socket → Type 0) → block_at fd t ≡ None
    → OnSocket fd (machine rest queues t) (Refused BadDescriptor) (machine rest queues t) Call
not_open rest queues t fd Call e = steps.not_open rest queues t fd Call e

pub on_open : (rest : State) (queues : Queues) (t : Table) (fd : ℕ) (b : Block) (reply : Reply) (new : State)
    (Call : Socket → Type 0) → block_at fd t ≡ Some b → Call (socket_with queues b)
    → OnSocket fd (machine rest queues t) reply new Call
on_open rest queues t fd b reply new Call e call = steps.on_open rest queues t fd b reply new Call e call

-- ---- receive queues

-- queues that agree at the descriptors of the blocks
agree_at : (f g : Queues) (bs : List Block) → ((fd : ℕ) → is_some (find (has_fd fd) bs) ≡ true → f fd ≡ g fd)
    → map (socket_with f) bs ≡ map (socket_with g) bs
agree_at f g [] same = refl
agree_at f g (b ∷ bs) same =
    λ i. record (socket_with f b) { queue = same b.fd (here b.fd refl) i }
    ∷ agree_at f g bs (λ fd found. same fd (later fd (has_fd fd b) found)) i
  where
    here : (k : ℕ) → b.fd ≡ k → is_some (cond (b.fd == k) (Some b) (find (has_fd k) bs)) ≡ true
    here k e = ap (λ t. is_some (cond t (Some b) (find (has_fd k) bs))) (eq-eqb b.fd k e)

    later : (fd : ℕ) (t : Bool) → is_some (find (has_fd fd) bs) ≡ true
        → is_some (cond t (Some b) (find (has_fd fd) bs)) ≡ true
    later fd true found = refl
    later fd false found = found

-- the queue of a descriptor that isn't open doesn't matter
pub same_machine : (f g : Queues) (t : Table) (rest : State) → ((fd : ℕ) → IsOpen fd t → f fd ≡ g fd)
    → machine rest f t ≡ machine rest g t
same_machine f g t rest same =
    ap (λ (s : List Socket). record (machine rest f t) { sockets = s }) (agree_at f g t.blocks same)

-- The queue of one descriptor changes: `queued` appends a datagram, or `recvfrom` removes one.
pub queue_changed : (f g : Queues) (t : Table) (rest : State) (fd : ℕ) (change : List Datagram → List Datagram)
    → g fd ≡ change (f fd) → ((k : ℕ) → k ≢ fd → g k ≡ f k)
    → machine rest g t ≡ change_socket fd (λ socket. record socket { queue = change socket.queue }) (machine rest f t)
queue_changed f g t rest fd change here others =
    ap (λ (s : List Socket). record (machine rest f t) { sockets = s }) (go t.blocks)
  where
    at : (b : Block) (u : Bool) → (b.fd == fd) ≡ u
        → socket_with g b ≡ cond u (record (socket_with f b) { queue = change (f b.fd) }) (socket_with f b)
    at b true e =
        ap (λ q. record (socket_with g b) { queue = q })
        (ap g (eqb-true b.fd fd e) ∙ here ∙ ap (λ k. change (f k)) (sym (eqb-true b.fd fd e)))
    at b false e = ap (λ q. record (socket_with g b) { queue = q }) (others b.fd (eqb-false b.fd fd e))

    go : (bs : List Block) → map (socket_with g) bs
        ≡ map (λ socket. cond (socket.fd == fd) (record socket { queue = change socket.queue }) socket)
        (map (socket_with f) bs)
    go [] = refl
    go (b ∷ bs) = λ i. at b (b.fd == fd) refl i ∷ go bs i

-- ---- what the receive queues weigh

module _ (queues : Queues) where
  abbrev queue_weight : List Datagram → Weight
  queue_weight q = all_of (λ d. d.item.weight) q

  abbrev all_queues : List Socket → Weight
  all_queues sockets = all_of (λ socket. queue_weight socket.queue) sockets

  mbufs_of : (bs : List Block) → (all_queues (map (socket_with queues) bs)).mbufs
      ≡ sum_by (λ fd. (queue_weight (queues fd)).mbufs) (map (λ b. b.fd) bs)
  mbufs_of [] = refl
  mbufs_of (b ∷ bs) =
      omega (arith, mbufs_of bs, sum_by-cons (λ fd. (queue_weight (queues fd)).mbufs) b.fd (map (λ c. c.fd) bs))

  times_of : (c : ℕ) (bs : List Block)
      → times c (all_queues (map (socket_with queues) bs)).bag
      ≡ sum_by (λ fd. times c (queue_weight (queues fd)).bag) (map (λ b. b.fd) bs)
  times_of c [] = refl
  times_of c (b ∷ bs) = omega (
    arith,
    times_of c bs,
    sum_by-append (λ k. cond {A = ℕ} (k == c) 1 0) (queue_weight (queues b.fd)).bag
        (all_queues (map (socket_with queues) bs)).bag,
    sum_by-cons (λ fd. times c (queue_weight (queues fd)).bag) b.fd (map (λ d. d.fd) bs),
  )

  -- their mbufs, and how often they refer to a cluster, as sums over the descriptors by the age of their blocks
  pub queued_mbufs : (t : Table)
      → (all_queues (sockets_with queues t)).mbufs ≡ sum_by (λ fd. (queue_weight (queues fd)).mbufs) (descriptors t)
  queued_mbufs t = mbufs_of t.blocks

  pub queued_times : (c : ℕ) (t : Table)
      → times c (all_queues (sockets_with queues t)).bag
      ≡ sum_by (λ fd. times c (queue_weight (queues fd)).bag) (descriptors t)
  queued_times c t = times_of c t.blocks

-- A sum over the descriptors by age is one over 3 to 66, where f is 0 at those that aren't open.
pub by_descriptor : (t : Table) (f : ℕ → ℕ) → AreApart t.blocks → ((fd : ℕ) → block_at fd t ≡ None → f fd ≡ 0)
    → sum_by f (descriptors t) ≡ sum_by f (range_with_len 3 64)
by_descriptor t f apart none =
    sum_in_range f 3 64 (descriptors t)
    (λ k. omega (arith, named_times k t.blocks, apart.fds k))
    (λ k some. apart.least k (omega (arith, named_times k t.blocks, some)))
    (λ k some. apart.most k (omega (arith, named_times k t.blocks, some)))
    (λ k no. none k (is_None (block_at k t) (open_times k t ∙ ap (nat_lt 0) no)))
  where
    is_None : (o : Option Block) → is_some o ≡ false → o ≡ None
    is_None None e = refl
    is_None (Some b) e = absurd (true≢false e)

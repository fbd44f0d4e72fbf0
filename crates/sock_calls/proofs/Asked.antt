-- Queries about the sockets return what the flat machine returns.
use Rattle.std.specs.Prelude.{slice_index_or, Ok}
use Rattle.std.proofs.Common.{◌≡◌, ℕ, zero, suc, ◌+◌, ◌*◌, ◌%◌, ◌<◌, ◌≤◌, ◌^◌, Bool, true, false, not, cond, List, [], length, Option, None, Some, option_map, refl, sym, ap, ◌∙◌, subst, ◌==◌, arith}
use Rattle.std.proofs.lemmas.Nat.{pow_pos}
use Rattle.std.proofs.Math.Nat.{pow-le-pow_right, mod-eq_of_lt}
use Rattle.flat_model.specs.Machine.State.{State, Datagram, socket_at}
use Rattle.flat_model.specs.Sockets.Fits as queue
use Rattle.mbuf_chain.specs.Chain.{PoolView}
use Rattle.pcb_table.specs.declared.block.Block.{Block}
use Rattle.pcb_table.specs.Table.{Table, Queues, block_at, machine, socket_with}
use Rattle.pcb_table.proofs.Laws.{socket_found}
use Rattle.sockbuf.specs.SockBuf.{SockBufView, IsSockBuf, datagrams, no_datagrams}
use Rattle.sock_calls.specs.Questions.{name_or_fault, next_in, oldest_datagram, next_datagram, bytes_waiting, bytes_queued_at, limit_of, memory_behind, memory_queued_at, receive_limit_at, socket_name, set_below, waits_in}
use Rattle.sock_calls.specs.Inside.Asked.{limit_of_block, name_of_block, waits_at}
use Rattle.sock_calls.specs.Sockets.{IsSocks, from_three, queue_at, queues_of}
use Rattle.sock_calls.proofs.Frames.{at_default}
use Rattle.sock_calls.proofs.Copies.{named_at}
use Rattle.sock_calls.proofs.Places.{at_three}

-- ---- one socket

-- a socket has the name of its block
pub block_named : (f : Queues) (t : Table) (fd : ℕ) (rest : State)
    → name_of_block (block_at fd t) ≡ socket_name fd (machine rest f t)
block_named f t fd rest = go (block_at fd t) ∙ ap name_or_fault (sym (socket_found rest f t fd))
  where
    go : (o : Option Block) → name_of_block o ≡ name_or_fault (option_map (socket_with f) o)
    go None = refl
    go (Some b) = refl

-- the size of its receive queue is that of its block
pub block_limited : (f : Queues) (t : Table) (fd : ℕ) (rest : State)
    → limit_of_block (block_at fd t) ≡ receive_limit_at fd (machine rest f t)
block_limited f t fd rest = go (block_at fd t) ∙ ap limit_of (sym (socket_found rest f t fd))
  where
    go : (o : Option Block) → limit_of_block o ≡ limit_of (option_map (socket_with f) o)
    go None = refl
    go (Some b) = refl

-- the oldest datagram in a descriptor's queue is the oldest of its socket
pub next_found : (f : Queues) (t : Table) (fd : ℕ) (b : Block) (rest : State) → block_at fd t ≡ Some b → b.fd ≡ fd
    → oldest_datagram (f fd) ≡ next_datagram fd (machine rest f t)
next_found f t fd b rest is names =
    ap (λ (k : ℕ). oldest_datagram (f k)) (sym names)
    ∙ ap (λ (o : Option Block). next_in (option_map (socket_with f) o)) (sym is)
    ∙ ap next_in (sym (socket_found rest f t fd))

pub next_refused : (f : Queues) (t : Table) (fd : ℕ) (rest : State) → block_at fd t ≡ None
    → next_in None ≡ next_datagram fd (machine rest f t)
next_refused f t fd rest is =
    ap (λ (o : Option Block). next_in (option_map (socket_with f) o)) (sym is)
    ∙ ap next_in (sym (socket_found rest f t fd))

-- the same for the number of bytes that wait
pub bytes_found : (f : Queues) (t : Table) (fd : ℕ) (b : Block) (rest : State) → block_at fd t ≡ Some b → b.fd ≡ fd
    → Ok (queue.bytes_queued (f fd)) ≡ bytes_queued_at fd (machine rest f t)
bytes_found f t fd b rest is names =
    ap (λ (k : ℕ). Ok (queue.bytes_queued (f k))) (sym names)
    ∙ ap (λ (o : Option Block). bytes_waiting (option_map (socket_with f) o)) (sym is)
    ∙ ap bytes_waiting (sym (socket_found rest f t fd))

pub bytes_refused : (f : Queues) (t : Table) (fd : ℕ) (rest : State) → block_at fd t ≡ None
    → bytes_waiting None ≡ bytes_queued_at fd (machine rest f t)
bytes_refused f t fd rest is =
    ap (λ (o : Option Block). bytes_waiting (option_map (socket_with f) o)) (sym is)
    ∙ ap bytes_waiting (sym (socket_found rest f t fd))

-- the same for the memory that they occupy
pub memory_found : (f : Queues) (t : Table) (fd : ℕ) (b : Block) (rest : State) → block_at fd t ≡ Some b → b.fd ≡ fd
    → Ok (queue.memory_queued (f fd)) ≡ memory_queued_at fd (machine rest f t)
memory_found f t fd b rest is names =
    ap (λ (k : ℕ). Ok (queue.memory_queued (f k))) (sym names)
    ∙ ap (λ (o : Option Block). memory_behind (option_map (socket_with f) o)) (sym is)
    ∙ ap memory_behind (sym (socket_found rest f t fd))

pub memory_refused : (f : Queues) (t : Table) (fd : ℕ) (rest : State) → block_at fd t ≡ None
    → memory_behind None ≡ memory_queued_at fd (machine rest f t)
memory_refused f t fd rest is =
    ap (λ (o : Option Block). memory_behind (option_map (socket_with f) o)) (sym is)
    ∙ ap memory_behind (sym (socket_found rest f t fd))

-- ---- all sockets

pub power_most : (n : ℕ) → n < 64 → 2 ^ n + 2 ^ n ≤ 2 ^ 64
power_most n lt = omega (arith, pow-le-pow_right {n = 2} (omega arith) {i = suc n} {j = 64} (omega (arith, lt)))

-- the bit at a position below 64 fits a number of 64 bits
pub bit_kept : (n : ℕ) → n < 64 → 1 * 2 ^ n % 18446744073709551616 ≡ 2 ^ n
bit_kept n lt = mod-eq_of_lt {n = 1 * 2 ^ n} {m = 18446744073709551616} (omega (arith, power_most n lt, pow_pos n))
    ∙ (let e : 1 * 2 ^ n ≡ 2 ^ n = omega arith in e)

-- one more position
pub set_more : (test : ℕ → Bool) (n : ℕ) → set_below test (suc n) ≡ set_below test n + cond (test n) (2 ^ n) 0
unfolding set_below
set_more test n = refl

pub set_none : (test : ℕ → Bool) → 0 ≡ set_below test 0
unfolding set_below
set_none test = refl

-- one more step of the loop over the queues: a queue's bit is set if a datagram waits in the queue
pub one_more : (p : PoolView) (bs : List SockBufView) (i set after : ℕ) (b : SockBufView) (none : Bool) → i < length bs
    → (IsSockBuf p (slice_index_or bs i b) → none ≡ (length (datagrams p (slice_index_or bs i b)) == 0))
    → ((k : ℕ) → IsSockBuf p (queue_at bs k)) → set ≡ set_below (waits_at p bs) i → after ≡ set + cond none 0 (2 ^ i)
    → after ≡ set_below (waits_at p bs) (i + 1)
one_more p bs i set after b none lt says each is grown =
    let there : slice_index_or bs i b ≡ queue_at bs i = at_default bs i b no_datagrams lt in
    let waits : none ≡ (length (queues_of p bs i) == 0) = says (subst (IsSockBuf p) (sym there) (each i))
    ∙ ap (λ (x : SockBufView). length (datagrams p x) == 0) there in
    let turned : cond none 0 (2 ^ i) ≡ cond (waits_at p bs i) (2 ^ i) 0 =
    ap (λ (t : Bool). cond {A = ℕ} t 0 (2 ^ i)) waits ∙ go (length (queues_of p bs i) == 0) in
    grown ∙ omega (arith, is, turned) ∙ sym (set_more (waits_at p bs) i)
    ∙ ap (set_below (waits_at p bs)) (let e : suc i ≡ i + 1 = omega arith in e)
  where
    go : (t : Bool) → cond t 0 (2 ^ i) ≡ cond (not t) (2 ^ i) 0
    go true = refl
    go false = refl

-- tests that agree below the limit
pub set_same : (f g : ℕ → Bool) (n : ℕ) → ((k : ℕ) → k < n → f k ≡ g k) → set_below f n ≡ set_below g n
unfolding set_below
set_same f g zero same = refl
set_same f g (suc n) same =
    let here : cond (f n) (2 ^ n) 0 ≡ cond (g n) (2 ^ n) 0 =
    ap (λ (t : Bool). cond {A = ℕ} t (2 ^ n) 0) (same n (omega arith)) in
    omega (arith, here, set_same f g n (λ k lt. same k (omega (arith, lt))))

-- a datagram waits in the queue of a descriptor if and only if one waits at its socket
waits_found : (f : Queues) (t : Table) (fd : ℕ) (rest : State) → (block_at fd t ≡ None → f fd ≡ [])
    → not (length (f fd) == 0) ≡ waits_in (socket_at fd (machine rest f t))
waits_found f t fd rest closed = go (block_at fd t) refl ∙ ap waits_in (sym (socket_found rest f t fd))
  where
    go : (o : Option Block) → block_at fd t ≡ o → not (length (f fd) == 0) ≡ waits_in (option_map (socket_with f) o)
    go None is = ap (λ (ds : List Datagram). not (length ds == 0)) (closed is)
    go (Some b) is = ap (λ (k : ℕ). not (length (f k) == 0)) (sym (named_at t fd b is))

pub all_waiting : (p : PoolView) (bs : List SockBufView) (t : Table) (rest : State)
    → IsSocks p (record { pcbs = t; queues = from_three bs })
    → set_below (waits_at p bs) 64 ≡ set_below (λ k. waits_in
    (socket_at (3 + k) (machine rest (queues_of p (from_three bs)) t))) 64
all_waiting p bs t rest is =
    set_same (waits_at p bs) (λ k. waits_in (socket_at (3 + k) (machine rest (queues_of p (from_three bs)) t))) 64
    (λ k lt. ap (λ (b : SockBufView). not (length (datagrams p b) == 0)) (sym (at_three bs k (3 + k) (omega arith)))
    ∙ waits_found (queues_of p (from_three bs)) t (3 + k) rest (is.closed (3 + k)))

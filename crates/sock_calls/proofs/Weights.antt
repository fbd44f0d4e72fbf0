-- What the receive queues weigh is what their chains weigh.
use Rattle.std.proofs.Common.{◌≡◌, ℕ, zero, suc, ◌+◌, ◌<◌, Bool, true, false, cond, find, count_by, List, [], ◌∷◌, length, map, sum_by, Option, None, Some, refl, sym, ap, ◌∙◌, subst, arith}
use Rattle.std.specs.List.{range_with_len, AllByRecursion as Each}
use Rattle.std.proofs.lemmas.List.Sums.{sum_by-cons}
use Rattle.flat_model.specs.Amounts.Weight.{Weight, SameWeight, all_of, ◌⊕◌, times as bag_times}
use Rattle.flat_model.specs.Machine.State.{Socket, Datagram}
use Rattle.flat_model.proofs.Laws.{all_of-append, times-both, count_cons}
use Rattle.mbuf_chain.specs.Chain.{Entry, PoolView, chain_of}
use Rattle.mbuf_chain.specs.Train.{QueuedPacket, queued_packet_of}
use Rattle.pcb_table.specs.declared.block.Block.{Block}
use Rattle.pcb_table.specs.Table.{Table, block_at, sockets_with}
use Rattle.pcb_table.specs.Apart.{AreApart, has_fd}
use Rattle.pcb_table.proofs.Laws.{queued_mbufs, queued_times, by_descriptor}
use Rattle.ledger.specs.Accounts.{entries_weight, weight_at, weight_owned}
use Rattle.sockbuf.specs.SockBuf.{SockBufView, IsSockBuf, IsDatagram, queued_datagram, datagrams, datagrams_of, chains_of}
use Rattle.sock_calls.specs.Sockets.{SocksView, IsSocks, queue_at, queues_of, queued_chains}

-- ---- one queue
weighs : (es : List Entry) → IsDatagram es → entries_weight es ≡ (queued_datagram es).item.weight
weighs [] h = absurd h
weighs (e ∷ es) h =
    let none : e.cluster ≡ None = ap (λ (x : Entry). x.cluster) h.0 in
    let bag : (entries_weight (e ∷ es)).bag ≡ (entries_weight es).bag =
    ap (λ (o : Option ℕ). (entries_weight (record { bytes = e.bytes; start = e.start; cluster = o } ∷ es)).bag) none in
    let mbufs : (entries_weight (e ∷ es)).mbufs ≡ 1 + (entries_weight es).mbufs = omega arith in
    λ i. record { mbufs = mbufs i; bag = bag i }

abbrev pub queue_weight : List Datagram → Weight
queue_weight ds = all_of (λ (d : Datagram). d.item.weight) ds

owned_weighs : (p : PoolView) (xs : List ℕ) → Each (λ (queued_packet : QueuedPacket). IsDatagram queued_packet.entries)
    (map (queued_packet_of p) xs) → weight_owned p xs ≡ queue_weight (datagrams_of (map (queued_packet_of p) xs))
owned_weighs p [] h = refl
owned_weighs p (x ∷ xs) h =
    let here : weight_at p x ≡ (queued_datagram (chain_of p x).entries).item.weight =
    weighs (chain_of p x).entries h.0 in
    let later : weight_owned p xs ≡ queue_weight (datagrams_of (map (queued_packet_of p) xs)) = owned_weighs p xs h.1 in
    λ i. here i ⊕ later i

pub queue_weighs : (p : PoolView) (b : SockBufView) → IsSockBuf p b
    → weight_owned p (chains_of p b) ≡ queue_weight (datagrams p b)
queue_weighs p b is = owned_weighs p (chains_of p b) is.each

-- ---- all queues, by index
chains_mbufs : (p : PoolView) (bs : List SockBufView)
    → (weight_owned p (queued_chains p bs)).mbufs ≡ sum_by (λ b. (weight_owned p (chains_of p b)).mbufs) bs
chains_mbufs p [] = refl
chains_mbufs p (b ∷ bs) = omega (
  arith,
  ap (λ (w : Weight). w.mbufs) (all_of-append (weight_at p) (chains_of p b) (queued_chains p bs)),
  sum_by-cons (λ b. (weight_owned p (chains_of p b)).mbufs) b bs,
  chains_mbufs p bs,
)

chains_times : (p : PoolView) (c : ℕ) (bs : List SockBufView)
    → bag_times c (weight_owned p (queued_chains p bs)).bag
    ≡ sum_by (λ b. bag_times c (weight_owned p (chains_of p b)).bag) bs
chains_times p c [] = refl
chains_times p c (b ∷ bs) = omega (
  arith,
  ap (λ (w : Weight). bag_times c w.bag) (all_of-append (weight_at p) (chains_of p b) (queued_chains p bs)),
  times-both c (weight_owned p (chains_of p b)) (weight_owned p (queued_chains p bs)),
  sum_by-cons (λ b. bag_times c (weight_owned p (chains_of p b)).bag) b bs,
  chains_times p c bs,
)

by_place : (f : ℕ → ℕ) (g : SockBufView → ℕ) (bs : List SockBufView) (at : ℕ)
    → ((i k : ℕ) → i < length bs → k ≡ at + i → f k ≡ g (queue_at bs i))
    → sum_by g bs ≡ sum_by f (range_with_len at (length bs))
by_place f g [] at same = refl
by_place f g (b ∷ bs) at same =
    let e : range_with_len at (length (b ∷ bs)) ≡ at ∷ range_with_len (at + 1) (length bs) = refl in
    omega (
      arith,
      ap (sum_by f) e,
      sum_by-cons g b bs,
      sum_by-cons f at (range_with_len (at + 1) (length bs)),
      same 0 at (omega arith) (omega arith),
      by_place f g bs (at + 1) (λ i k lt e. same (suc i) k (omega arith) (omega (arith, e))),
    )

-- a sum over 0 to 66 is one over 3 to 66, if f is 0 at 0, 1 and 2
from_three : (f : ℕ → ℕ) → f 0 ≡ 0 → f 1 ≡ 0 → f 2 ≡ 0 → sum_by f (range_with_len 0 67) ≡ sum_by f (range_with_len 3 64)
from_three f a b c = omega (
  arith,
  a,
  b,
  c,
  sum_by-cons f 0 (range_with_len 1 66),
  sum_by-cons f 1 (range_with_len 2 65),
  sum_by-cons f 2 (range_with_len 3 64),
)

-- ---- the sockets
none_named : (fd : ℕ) (bs : List Block) → count_by (has_fd fd) bs ≡ 0 → find (has_fd fd) bs ≡ None
none_named fd [] h = refl
none_named fd (b ∷ bs) h = go (none_named fd bs) (has_fd fd b) (count_cons (has_fd fd) b bs)
  where
    go : (count_by (has_fd fd) bs ≡ 0 → find (has_fd fd) bs ≡ None) → (t : Bool)
        → count_by (has_fd fd) (b ∷ bs) ≡ cond t 1 0 + count_by (has_fd fd) bs
        → cond t (Some b) (find (has_fd fd) bs) ≡ None
    go later true n = absurd (omega (arith, h, n))
    go later false n = later (omega (arith, h, n))

not_open : (t : Table) → AreApart t.blocks → (fd : ℕ) → fd < 3 → block_at fd t ≡ None
not_open t apart fd low = none_named fd t.blocks (go (count_by (has_fd fd) t.blocks) refl)
  where
    go : (n : ℕ) → count_by (has_fd fd) t.blocks ≡ n → n ≡ 0
    go zero e = refl
    go (suc n) e = absurd (omega (arith, low, apart.least fd (omega (arith, e))))

pub socks_weigh : (p : PoolView) (v : SocksView) → IsSocks p v
    → SameWeight (all_of (λ (socket : Socket). queue_weight socket.queue) (sockets_with (queues_of p v.queues) v.pcbs))
    (weight_owned p (queued_chains p v.queues))
socks_weigh p v is =
    let none : (fd : ℕ) → block_at fd v.pcbs ≡ None
    → queue_weight (queues_of p v.queues fd) ≡ queue_weight [] = λ fd e. ap queue_weight (is.closed fd e) in
    let low : (fd : ℕ) → fd < 3 → queue_weight (queues_of p v.queues fd) ≡ queue_weight [] =
    λ fd lt. none fd (not_open v.pcbs is.apart fd lt) in
    let mbufs : ℕ → ℕ = λ fd. (queue_weight (queues_of p v.queues fd)).mbufs in
    let refs : ℕ → ℕ → ℕ = λ c fd. bag_times c (queue_weight (queues_of p v.queues fd)).bag in
    record {
      mbufs = queued_mbufs (queues_of p v.queues) v.pcbs
          ∙ by_descriptor v.pcbs mbufs is.apart (λ fd e. ap (λ (w : Weight). w.mbufs) (none fd e))
          ∙ sym (from_three mbufs (ap (λ (w : Weight). w.mbufs) (low 0 (omega arith)))
          (ap (λ (w : Weight). w.mbufs) (low 1 (omega arith))) (ap (λ (w : Weight). w.mbufs) (low 2 (omega arith))))
          ∙ sym (subst (λ (n : ℕ). sum_by (λ b. (weight_owned p (chains_of p b)).mbufs) v.queues
          ≡ sum_by mbufs (range_with_len 0 n)) is.places
          (by_place mbufs (λ b. (weight_owned p (chains_of p b)).mbufs) v.queues 0
          (λ i k lt e. ap mbufs (let z : k ≡ i = omega (arith, e) in z)
          ∙ sym (ap (λ (w : Weight). w.mbufs) (queue_weighs p (queue_at v.queues i) (is.each i))))))
          ∙ sym (chains_mbufs p v.queues);
      bag = λ c. queued_times (queues_of p v.queues) c v.pcbs
          ∙ by_descriptor v.pcbs (refs c) is.apart (λ fd e. ap (λ (w : Weight). bag_times c w.bag) (none fd e))
          ∙ sym (from_three (refs c) (ap (λ (w : Weight). bag_times c w.bag) (low 0 (omega arith)))
          (ap (λ (w : Weight). bag_times c w.bag) (low 1 (omega arith)))
          (ap (λ (w : Weight). bag_times c w.bag) (low 2 (omega arith))))
          ∙ sym (subst (λ (n : ℕ). sum_by (λ b. bag_times c (weight_owned p (chains_of p b)).bag) v.queues
          ≡ sum_by (refs c) (range_with_len 0 n)) is.places
          (by_place (refs c) (λ b. bag_times c (weight_owned p (chains_of p b)).bag) v.queues 0
          (λ i k lt e. ap (refs c) (let z : k ≡ i = omega (arith, e) in z)
          ∙ sym (ap (λ (w : Weight). bag_times c w.bag) (queue_weighs p (queue_at v.queues i) (is.each i))))))
          ∙ sym (chains_times p c v.queues);
    }

-- A step of one receive queue among many; what a step of the parts doesn't change.
use Rattle.std.proofs.Common.{◌≡◌, ℕ, zero, suc, ◌+◌, ◌<◌, ◌≤◌, List, [], ◌∷◌, ◌++◌, length, map, refl, sym, ap, ◌∙◌, subst, arith, inl, inr}
use Rattle.std.specs.Prelude.{slice_index_or, slice_set}
use Rattle.std.proofs.lemmas.Bool.{cases_eq}
use Rattle.std.proofs.lemmas.List.{length-set, length-map}
use Rattle.mbuf_chain.specs.Chain.{PoolView}
use Rattle.mbuf_chain.specs.Owners.{times_among, IsOwned, Moves}
use Rattle.mbuf_chain.specs.Frames.{SameAt}
use Rattle.mbuf_chain.proofs.Laws.Owners.{times-append, live_at_most, same_beside, same_part, moves_beside, moves_trans, owned_same, owned_after}
use Rattle.mbuf_chain.specs.Train.{QueuedPacket, queued_packet_of, queued_packets}
use Rattle.mbuf_chain.proofs.Laws.Trains.{length-queued_packets}
use Rattle.sockbuf.specs.SockBuf.{SockBufView, IsSockBuf, datagrams, queued_datagram, datagrams_of, chains_of, no_datagrams}
use Rattle.sockbuf.proofs.Laws.{chains_same, datagrams_same, ready_same}
use Rattle.sock_calls.specs.Sockets.{SocksView, IsSocks, StepsAt, AreEmpty, from_three, queue_at, queues_of, queued_chains}
use Rattle.sock_calls.specs.Delivery.{NetView, KeepsParts}

-- ---- a list with one element changed
pub at_set : (qs : List SockBufView) (i : ℕ) (q : SockBufView) → i < length qs → queue_at (slice_set qs i q) i ≡ q
at_set [] i q h = absurd (omega arith)
at_set (x ∷ qs) zero q h = refl
at_set (x ∷ qs) (suc i) q h = at_set qs i q (omega arith)

pub at_other : (qs : List SockBufView) (i k : ℕ) (q : SockBufView) → (k ≡ i → ⊥)
    → queue_at (slice_set qs i q) k ≡ queue_at qs k
at_other [] i k q ne = refl
at_other (x ∷ qs) zero zero q ne = absurd (ne refl)
at_other (x ∷ qs) zero (suc k) q ne = refl
at_other (x ∷ qs) (suc i) zero q ne = refl
at_other (x ∷ qs) (suc i) (suc k) q ne = at_other qs i k q (λ e. ne (ap suc e))

-- the chains of all queues, with one queue changed
pub times_set : (p : PoolView) (qs : List SockBufView) (i : ℕ) (q : SockBufView) (k : ℕ) → i < length qs
    → times_among k (queued_chains p (slice_set qs i q)) + times_among k (chains_of p (queue_at qs i))
    ≡ times_among k (queued_chains p qs) + times_among k (chains_of p q)
times_set p [] i q k h = absurd (omega arith)
times_set p (x ∷ qs) zero q k h = omega (
  arith,
  times-append k (chains_of p x) (queued_chains p qs),
  times-append k (chains_of p q) (queued_chains p qs),
)
times_set p (x ∷ qs) (suc i) q k h = omega (
  arith,
  times_set p qs i q k (omega arith),
  times-append k (chains_of p x) (queued_chains p qs),
  times-append k (chains_of p x)
      (queued_chains p (slice_set qs i q)),
)

pub times_at : (p : PoolView) (qs : List SockBufView) (i k : ℕ)
    → times_among k (chains_of p (queue_at qs i)) ≤ times_among k (queued_chains p qs)
times_at p [] i k = omega arith
times_at p (x ∷ qs) zero k = omega (arith, times-append k (chains_of p x) (queued_chains p qs))
times_at p (x ∷ qs) (suc i) k = omega (arith, times_at p qs i k, times-append k (chains_of p x) (queued_chains p qs))

-- ---- what isn't touched stays
pub queued_same : (p q : PoolView) (qs : List SockBufView) → SameAt p q (queued_chains p qs)
    → queued_chains q qs ≡ queued_chains p qs
queued_same p q [] s = refl
queued_same p q (x ∷ qs) s =
    let here : chains_of q x ≡ chains_of p x = chains_same p q x
    (same_part p q (queued_chains p (x ∷ qs)) (chains_of p x) s
    (λ k. omega (arith, times-append k (chains_of p x) (queued_chains p qs)))) in
    let later : queued_chains q qs ≡ queued_chains p qs =
    queued_same p q qs (same_part p q (queued_chains p (x ∷ qs)) (queued_chains p qs) s
    (λ k. omega (arith, times-append k (chains_of p x) (queued_chains p qs)))) in
    λ j. here j ++ later j

-- ---- queue i became v, the chains `ins` were added, and the chains `outs` removed
pub record Steps (p : PoolView) (ins : List ℕ) (qs : List SockBufView) (i : ℕ) (v : SockBufView) (q : PoolView)
    (outs : List ℕ) : Type 0 where
  pub others : (k : ℕ) → (k ≡ i → ⊥) → queues_of q (slice_set qs i v) k ≡ queues_of p qs k
  pub here : queues_of q (slice_set qs i v) i ≡ datagrams q v
  pub each : (k : ℕ) → IsSockBuf q (queue_at (slice_set qs i v) k)
  pub moves : Moves p (ins ++ queued_chains p qs) q (outs ++ queued_chains q (slice_set qs i v))

pub one_steps : {p q : PoolView} (ins outs : List ℕ) (qs : List SockBufView) (i : ℕ) (v : SockBufView) → i < length qs
    → ((k : ℕ) → IsSockBuf p (queue_at qs k)) → IsOwned p (ins ++ queued_chains p qs)
    → IsSockBuf q v → Moves p (ins ++ chains_of p (queue_at qs i)) q (outs ++ chains_of q v) → Steps p ins qs i v q outs
one_steps {p} {q} ins outs qs i v h each owned ready m =
    let rest : List SockBufView = slice_set qs i no_datagrams in
    let parts : (k : ℕ) → times_among k (queued_chains p rest) + times_among k (chains_of p (queue_at qs i))
    ≡ times_among k (queued_chains p qs) = λ k. omega (arith, times_set p qs i no_datagrams k h) in
    let same : SameAt p q (queued_chains p rest) =
    same_beside (queued_chains p rest) m (λ k. omega (arith, parts k, owned k, times-append k ins (queued_chains p qs)))
    (λ k some. omega (
      arith,
      parts k,
      owned k,
      live_at_most p k,
      times-append k ins (queued_chains p qs),
      times-append k ins (chains_of p (queue_at qs i)),
    )) in
    let at : (k : ℕ) → (k ≡ i → ⊥) → SameAt p q (chains_of p (queue_at qs k)) = λ k ne.
    same_part p q (queued_chains p rest) (chains_of p (queue_at qs k)) same
    (λ j. omega (
      arith,
      times_at p rest k j,
      ap (λ (x : SockBufView). times_among j (chains_of p x)) (at_other qs i k no_datagrams ne),
    )) in
    record {
      others = λ k ne. ap (datagrams q) (at_other qs i k v ne) ∙ datagrams_same p q (queue_at qs k) (at k ne);
      here = ap (datagrams q) (at_set qs i v h);
      each = λ k. elim (cases_eq k i) [
        | inl e ↦ subst (IsSockBuf q) (sym (ap (queue_at (slice_set qs i v)) e ∙ at_set qs i v h)) ready
        | inr ne ↦ subst (IsSockBuf q) (sym (at_other qs i k v ne)) (ready_same p q (queue_at qs k) (at k ne) (each k))
      ];
      moves = moves_beside (ins ++ queued_chains p qs) (outs ++ queued_chains q (slice_set qs i v))
          (queued_chains p rest) m
          (λ k. omega (
            arith,
            parts k,
            times-append k ins (queued_chains p qs),
            times-append k ins (chains_of p (queue_at qs i)),
          ))
          (λ k. omega (
            arith,
            times-append k outs (queued_chains q (slice_set qs i v)),
            times-append k outs (chains_of q v),
            times_set q (slice_set qs i v) i no_datagrams k (omega (arith, length-set qs i v, h)),
            ap (λ (x : SockBufView). times_among k (chains_of q x)) (at_set qs i v h),
            ap (times_among k) (ap (queued_chains q) (set-set qs i v no_datagrams) ∙ queued_same p q rest same),
          ));
    }
  where
    set-set : (qs : List SockBufView) (i : ℕ) (x y : SockBufView) → slice_set (slice_set qs i x) i y ≡ slice_set qs i y
    set-set [] i x y = refl
    set-set (z ∷ qs) zero x y = refl
    set-set (z ∷ qs) (suc i) x y = ap (λ (l : List SockBufView). z ∷ l) (set-set qs i x y)

-- ---- a step on other chains leaves all queues the same
pub record Kept (p q : PoolView) (v : SocksView) : Type 0 where
  pub ready : IsSocks q v
  pub shows : (k : ℕ) → queues_of q v.queues k ≡ queues_of p v.queues k
  pub chains : queued_chains q v.queues ≡ queued_chains p v.queues

pub kept : (p q : PoolView) (v : SocksView) → SameAt p q (queued_chains p v.queues) → IsSocks p v → Kept p q v
kept p q v s r =
    let at : (k : ℕ) → SameAt p q (chains_of p (queue_at v.queues k)) =
    λ k. same_part p q (queued_chains p v.queues) (chains_of p (queue_at v.queues k)) s
    (λ j. times_at p v.queues k j) in
    let chains : queued_chains q v.queues ≡ queued_chains p v.queues = queued_same p q v.queues s in
    let shows : (k : ℕ) → queues_of q v.queues k ≡ queues_of p v.queues k =
    λ k. datagrams_same p q (queue_at v.queues k) (at k) in
    record {
      ready = record {
        each = λ k. ready_same p q (queue_at v.queues k) (at k) (r.each k);
        owned = λ k. omega (arith, owned_same p q (queued_chains p v.queues) s r.owned k, ap (times_among k) chains);
        places = r.places;
        apart = r.apart;
        closed = λ k e. shows k ∙ r.closed k e;
      };
      shows = shows;
      chains = chains;
    }

pub at_default : (bs : List SockBufView) (i : ℕ) (d e : SockBufView) → i < length bs
    → slice_index_or bs i d ≡ slice_index_or bs i e
at_default [] i d e h = absurd (omega arith)
at_default (x ∷ bs) zero d e h = refl
at_default (x ∷ bs) (suc i) d e h = at_default bs i d e (omega arith)

-- a step of one queue, as a step of all queues
pub steps_at : {p q : PoolView} (ins outs : List ℕ) (bs : List SockBufView) (i : ℕ) (x e y : SockBufView)
    → i < length bs → x ≡ slice_index_or bs i e → ((k : ℕ) → IsSockBuf p (queue_at bs k))
    → IsOwned p (ins ++ queued_chains p bs)
    → IsSockBuf q y → Moves p (ins ++ chains_of p x) q (outs ++ chains_of q y)
    → StepsAt p ins bs i q outs (slice_set bs i y)
steps_at {p} {q} ins outs bs i x e y lt is each owned ready m =
    let at : x ≡ queue_at bs i = is ∙ at_default bs i e no_datagrams lt in
    let s : Steps p ins bs i y q outs = one_steps ins outs bs i y lt each owned ready
    (subst (λ (v : SockBufView). Moves p (ins ++ chains_of p v) q (outs ++ chains_of q y)) at m) in
    record {
      len = length-set bs i y;
      others = s.others;
      each = s.each;
      owned = λ k. omega (arith, owned_after s.moves owned k, times-append k outs (queued_chains q (slice_set bs i y)));
      moves = s.moves;
    }

-- ---- an empty queue has no chain
pub none_there : (q : PoolView) (b : SockBufView) → IsSockBuf q b → datagrams q b ≡ [] → chains_of q b ≡ []
none_there q b is e = go (chains_of q b) e
  where
    go : (xs : List ℕ) → datagrams_of (map (queued_packet_of q) xs) ≡ [] → xs ≡ []
    go [] h = refl
    go (x ∷ xs) h = absurd (omega (arith, ap length h))

pub moves_to : {p q : PoolView} {xs ys : List ℕ} → Moves p xs q [] → ys ≡ [] → Moves p xs q ys
moves_to {p} {q} {xs} {ys} m e = subst (Moves p xs q) (sym e) m

-- if nothing waits in any queue, there is no chain
pub all_gone : (q : PoolView) (bs : List SockBufView) → ((k : ℕ) → IsSockBuf q (queue_at bs k))
    → ((k : ℕ) → k < length bs → queues_of q bs k ≡ []) → queued_chains q bs ≡ []
all_gone q [] each none = refl
all_gone q (b ∷ bs) each none = λ i. none_there q b (each 0) (none 0 (omega arith)) i
    ++ all_gone q bs (λ k. each (suc k)) (λ k lt. none (suc k) (omega arith)) i

-- ---- queues by descriptor
pub each_from_three : (p : PoolView) (bs : List SockBufView) → ((k : ℕ) → IsSockBuf p (queue_at (from_three bs) k))
    → (i : ℕ) → IsSockBuf p (queue_at bs i)
each_from_three p bs each i = each (suc (suc (suc i)))

pub all_empty : (q : PoolView) (bs : List SockBufView) → ((k : ℕ) → IsSockBuf q (queue_at bs k))
    → ((k : ℕ) → k < length bs → queues_of q bs k ≡ []) → AreEmpty bs
all_empty q [] each none = tt
all_empty q (b ∷ bs) each none = (
  omega (
    arith,
    length-queued_packets q b.train (each 0).held,
    length-map (queued_packets q b.train) (λ (queued_packet : QueuedPacket). queued_datagram queued_packet.entries),
    ap
        length (none 0 (omega arith)),
  ),
  all_empty q bs (λ k. each (suc k)) (λ k lt. none (suc k) (omega arith)),
)

-- ---- what a step keeps

-- nothing was done yet
pub keeps_none : {v : NetView} {xs : List ℕ} → IsSocks v.pool v.socks → KeepsParts v xs v xs
keeps_none ready = record {
  accounts = λ rest held acc. acc;
  ready = ready;
  pcbs = refl;
  moves = record { mbufs = refl; clusters = refl; others = λ k l h. refl; owned = λ k. refl };
}

-- one step after another
pub keeps_trans : {u v w : NetView} {xs ys zs : List ℕ} → KeepsParts u xs v ys → KeepsParts v ys w zs
    → KeepsParts u xs w zs
keeps_trans a b = record {
  accounts = λ rest held acc. b.accounts rest held (a.accounts rest held acc);
  ready = b.ready;
  pcbs = b.pcbs ∙ a.pcbs;
  moves = moves_trans a.moves b.moves;
}

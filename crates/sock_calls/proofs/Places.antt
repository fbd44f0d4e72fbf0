-- The queue of a descriptor, by its index.
use Rattle.std.specs.Prelude.{slice_index_or, slice_set}
use Rattle.std.proofs.Common.{◌≡◌, ℕ, zero, suc, ◌+◌, ◌<◌, List, [], ◌∷◌, ◌++◌, length, refl, sym, ap, ◌∙◌, subst, length-set, arith}
use Rattle.arrayvec.specs.ArrayVec.{ArrayVec, with_items}
use Rattle.arrayvec.proofs.ArrayVecLemmas.{items-with_items}
use Rattle.mbuf_chain.specs.Chain.{PoolView}
use Rattle.mbuf_chain.specs.Owners.{IsOwned, Moves}
use Rattle.sockbuf.specs.SockBuf.{SockBufView, IsSockBuf, chains_of, no_datagrams}
use Rattle.sockbuf.proofs.Laws.{new_ready}
use Rattle.sock_calls.proofs.Frames.{at_default, steps_at}
use Rattle.sock_calls.specs.Sockets.{AreEmpty, StepsAt, from_three, queue_at, queued_chains, queues_of}

pub at_three : (bs : List SockBufView) (i fd : ℕ) → i + 3 ≡ fd → queue_at (from_three bs) fd ≡ queue_at bs i
at_three bs i fd e = let three : fd ≡ suc (suc (suc i)) = omega (arith, e) in ap (queue_at (from_three bs)) three

-- a step of the queue at an index is one of its descriptor
pub steps_three : {p q : PoolView} {ins outs : List ℕ} {bs cs : List SockBufView} {i : ℕ} (fd : ℕ) → i + 3 ≡ fd
    → StepsAt p ins bs i q outs cs → StepsAt p ins (from_three bs) fd q outs (from_three cs)
steps_three {p} {q} {ins} {outs} {bs} {cs} {i} fd e s = record {
  len = omega (arith, s.len);
  others = others;
  each = each;
  owned = s.owned;
  moves = s.moves;
}
  where
    others : (k : ℕ) → (k ≡ fd → ⊥) → queues_of q (from_three cs) k ≡ queues_of p (from_three bs) k
    others zero ne = refl
    others (suc zero) ne = refl
    others (suc (suc zero)) ne = refl
    others (suc (suc (suc k))) ne = s.others k (λ is. ne (omega (arith, is, e)))

    each : (k : ℕ) → IsSockBuf q (queue_at (from_three cs) k)
    each zero = new_ready q
    each (suc zero) = new_ready q
    each (suc (suc zero)) = new_ready q
    each (suc (suc (suc k))) = s.each k

-- ---- queues in a vector `v` of the library, which is lent as the slice `bs` and shows as `now`

-- the queue that was read at an index
pub read_is : {bs now : List SockBufView} {i : ℕ} (d : SockBufView) → bs ≡ now → i < length bs
    → slice_index_or bs i d ≡ queue_at now i
read_is {bs} {now} {i} d is lt = at_default bs i d no_datagrams lt ∙ ap (λ (l : List SockBufView). queue_at l i) is

-- the same for the index of a descriptor
pub named_is : {bs now : List SockBufView} {i : ℕ} (d : SockBufView) (fd : ℕ) → bs ≡ now → i < length bs → i + 3 ≡ fd
    → slice_index_or bs i d ≡ queue_at (from_three now) fd
named_is {bs} {now} {i} d fd is lt e = read_is d is lt ∙ sym (at_three now i fd e)

-- the vector after one element of the slice was written
pub written : (v : ArrayVec SockBufView) (bs : List SockBufView) (i : ℕ) (y : SockBufView) → bs ≡ v.items
    → (with_items v (slice_set bs i y)).items ≡ slice_set bs i y
written v bs i y is = items-with_items v (slice_set bs i y) (length-set bs i y ∙ ap length is)

-- the step of the queue at an index
pub steps_inside : {p q : PoolView} {bs now : List SockBufView} {i : ℕ} {y : SockBufView} (v : ArrayVec SockBufView)
    (d : SockBufView) (ins outs : List ℕ) → bs ≡ v.items → v.items ≡ now → i < length bs
    → ((k : ℕ) → IsSockBuf p (queue_at now k)) → IsOwned p (ins ++ queued_chains p now)
    → IsSockBuf q y → Moves p (ins ++ chains_of p (slice_index_or bs i d)) q (outs ++ chains_of q y)
    → StepsAt p ins now i q outs (with_items v (slice_set bs i y)).items
steps_inside {p} {q} {bs} {now} {i} {y} v d ins outs is shows lt each owned ready m =
    subst (λ (l : List SockBufView). StepsAt p ins now i q outs l) (sym (written v bs i y is))
    (subst (λ (l : List SockBufView). StepsAt p ins l i q outs (slice_set bs i y)) (is ∙ shows)
    (steps_at ins outs bs i (slice_index_or bs i d) d y lt refl
    (subst (λ (l : List SockBufView). (k : ℕ) → IsSockBuf p (queue_at l k)) (sym (is ∙ shows)) each)
    (subst (λ (l : List SockBufView). IsOwned p (ins ++ queued_chains p l)) (sym (is ∙ shows)) owned)
    ready m))

-- queues that are all as new
pub none_wait : (bs : List SockBufView) → ((k : ℕ) → queue_at bs k ≡ no_datagrams) → AreEmpty bs
none_wait [] new = tt
none_wait (b ∷ bs) new = (ap (λ (v : SockBufView). v.train.len) (new 0), none_wait bs (λ k. new (suc k)))

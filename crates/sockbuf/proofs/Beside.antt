-- A queue stays the same in steps on other chains.
use Rattle.std.proofs.Common.{◌≡◌, Err, ℕ, List, [], ◌∷◌, refl, sym, ap, ◌∙◌, subst, arith}
use Rattle.std.specs.List.{AllByRecursion as Each}
use Rattle.flat_model.specs.Sockets.Fits.{bytes_queued, memory_queued}
use Rattle.mbuf_chain.specs.Chain.{PoolView}
use Rattle.mbuf_chain.specs.Frames.{SameAt}
use Rattle.mbuf_chain.specs.Owners.{times_among, IsOwned, Moves}
use Rattle.mbuf_chain.specs.Train.{QueuedPacket}
use Rattle.mbuf_chain.proofs.Laws.Owners.{times_same, live_at_most, same_beside}
use Rattle.mbuf_chain.proofs.Laws.Trains.{numbers_same, queued_packets_same, held_same, held_none}
use Rattle.sockbuf.specs.SockBuf.{SockBufView, IsSockBuf, IsDatagram, datagrams_of, datagrams, chains_of, no_datagrams, AppendsAddr, IsRefused}
use Rattle.sockbuf.specs.declared.buffer.Refusal.{Refusal}
use Rattle.sockbuf.specs.declared.buffer.Refusal.TheVariants.{Full, NoBufs}
use Rattle.flat_model.specs.declared.address.Addr.{Addr}

-- ---- a new queue fits every pool
pub new_ready : (p : PoolView) → IsSockBuf p no_datagrams
new_ready p = record { held = held_none p _ refl; each = tt; cc = refl; mbcnt = refl }

-- ---- a step on other chains leaves a queue the same
pub chains_same : (p q : PoolView) (b : SockBufView) → SameAt p q (chains_of p b) → chains_of q b ≡ chains_of p b
chains_same p q b s = numbers_same p q b.train s

pub datagrams_same : (p q : PoolView) (b : SockBufView) → SameAt p q (chains_of p b) → datagrams q b ≡ datagrams p b
datagrams_same p q b s = ap datagrams_of (queued_packets_same p q b.train s)

pub ready_same : (p q : PoolView) (b : SockBufView) → SameAt p q (chains_of p b) → IsSockBuf p b → IsSockBuf q b
ready_same p q b s h = record {
  held = held_same p q b.train s h.held;
  each =
      subst (λ (cs : List QueuedPacket). Each (λ (queued_packet : QueuedPacket). IsDatagram queued_packet.entries) cs)
      (sym (queued_packets_same p q b.train s)) h.each;
  cc = h.cc ∙ ap bytes_queued (sym (datagrams_same p q b s));
  mbcnt = h.mbcnt ∙ ap memory_queued (sym (datagrams_same p q b s));
}

-- ---- a chain that is made, and one that is freed
pub apart_made : {p q : PoolView} {c : ℕ} (xs : List ℕ) → Moves p [] q (c ∷ []) → IsOwned p xs → times_among c xs ≡ 0
apart_made {p} {q} {c} xs m o = omega (arith, m.owned c, times_same c [], live_at_most q c, o c)

pub made_beside : {p q : PoolView} {c : ℕ} (b : SockBufView) → Moves p [] q (c ∷ []) → IsSockBuf p b
    → SameAt p q (chains_of p b)
made_beside {p} b m h = same_beside (chains_of p b) m h.held.owned (λ k some. refl)

pub ready_made : {p q : PoolView} {c : ℕ} (b : SockBufView) → Moves p [] q (c ∷ []) → IsSockBuf p b → IsSockBuf q b
ready_made {p} {q} b m h = ready_same p q b (made_beside b m h) h

pub apart_ready : {p q : PoolView} {c : ℕ} (b : SockBufView) → Moves p [] q (c ∷ []) → IsSockBuf p b
    → times_among c (chains_of q b) ≡ 0
apart_ready {p} {q} {c} b m h =
    ap (times_among c) (chains_same p q b (made_beside b m h)) ∙ apart_made (chains_of p b) m h.held.owned

-- ---- a datagram that was refused
pub refused : {p q : PoolView} {b d : SockBufView} {c back : ℕ} (limit : ℕ) (sender : Addr) (r : Refusal)
    → AppendsAddr limit p b sender c (Err (back, r)) q d → IsRefused p b c back q d
refused limit sender Full h = h.1
refused limit sender NoBufs h = h.2

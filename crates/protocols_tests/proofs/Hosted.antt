-- Sockets, an output queue and chains of the caller in one pool, for the tests.
use Rattle.std.proofs.Common.{◌≡◌, ◌≢◌, ℕ, ◌+◌, ◌≤◌, List, [], ◌++◌, None, sym, ap, subst, arith}
use Rattle.flat_model.specs.Machine.Event.{Event, Reply}
use Rattle.mbuf_chain.specs.Chain.{PoolView}
use Rattle.mbuf_chain.specs.Owners.{times_among, IsOwned, Moves}
use Rattle.mbuf_chain.specs.Frames.{SameAt}
use Rattle.mbuf_chain.specs.Train.{TrainView, numbers}
use Rattle.mbuf_chain.proofs.Laws.Owners.{times-append, live_at_most, same_beside, same_part, owned_after, moves_beside}
use Rattle.mbuf_chain.proofs.Laws.Trains.{numbers_same, held_same, held_none, none_left}
use Rattle.sockbuf.specs.SockBuf.{SockBufView}
use Rattle.ip_out.specs.Queues.{IsOutputQueue}
use Rattle.sock_calls.specs.declared.net.Net.{Net}
use Rattle.sock_calls.specs.Sockets.{SocksView, IsSocks, IsCalled, queued_chains}
use Rattle.sock_calls.specs.Outgoing.{CanSend, sending}
use Rattle.sock_calls.proofs.Laws.{Kept, kept}

-- the sockets, the output queue, and the caller's chains
pub record Held (p : PoolView) (s : SocksView) (t : TrainView) (xs : List ℕ) : Type 0 where
  pub socks : IsSocks p s
  pub out : IsOutputQueue p t
  pub owned : IsOwned p (xs ++ (numbers p t ++ queued_chains p s.queues))

-- the caller's chains were replaced by others
pub in_hand : {p q : PoolView} {s : SocksView} {t : TrainView} {xs ys : List ℕ} → Held p s t xs → Moves p xs q ys
    → Held q s t ys
in_hand {p} {q} {s} {t} {xs} {ys} is m =
    let zs : List ℕ = numbers p t ++ queued_chains p s.queues in
    let same : SameAt p q zs =
    same_beside zs m (λ k. omega (arith, is.owned k, times-append k xs zs))
    (λ k h. omega (arith, h, is.owned k, times-append k xs zs, live_at_most p k)) in
    let v : Kept p q s =
    kept p q s (same_part p q zs (queued_chains p s.queues) same
    (λ k. omega (arith, times-append k (numbers p t) (queued_chains p s.queues)))) is.socks in
    let o : SameAt p q (numbers p t) =
    same_part p q zs (numbers p t) same (λ k. omega (arith, times-append k (numbers p t) (queued_chains p s.queues)))
    in
    record {
      socks = v.ready;
      out = record { held = held_same p q t o is.out.held; room = is.out.room };
      owned = λ k. omega (
        arith,
        owned_after (moves_beside (xs ++ zs) (ys ++ zs) zs m (λ j. omega (arith, times-append j xs zs))
            (λ j. omega (arith, times-append j ys zs))) is.owned k,
        times-append k ys zs,
        times-append k ys (numbers q t ++ queued_chains q s.queues),
        times-append k (numbers p t) (queued_chains p s.queues),
        times-append k (numbers q t) (queued_chains q s.queues),
        ap (times_among k) (numbers_same p q t o),
        ap (times_among k) v.chains,
      );
    }

-- the sockets took a step that replaced some of the caller's chains
pub of_socks : {p q : PoolView} {s w : SocksView} {t : TrainView} (xs ys : List ℕ) → Held p s t xs → IsSocks q w
    → Moves p (xs ++ queued_chains p s.queues) q (ys ++ queued_chains q w.queues) → Held q w t ys
of_socks {p} {q} {s} {w} {t} xs ys is ready m =
    let zs : List ℕ = numbers p t in
    let us : List ℕ = xs ++ queued_chains p s.queues in
    let vs : List ℕ = ys ++ queued_chains q w.queues in
    let all : (k : ℕ) → times_among k (xs ++ (zs ++ queued_chains p s.queues)) ≡ times_among k zs + times_among k us =
    λ k. omega (
      arith,
      times-append k xs (zs ++ queued_chains p s.queues),
      times-append k zs (queued_chains p s.queues),
      times-append k xs (queued_chains p s.queues),
    ) in
    let o : SameAt p q zs =
    same_beside zs m (λ k. omega (arith, is.owned k, all k))
    (λ k h. omega (arith, h, is.owned k, all k, live_at_most p k)) in
    record {
      socks = ready;
      out = record { held = held_same p q t o is.out.held; room = is.out.room };
      owned = λ k. omega (
        arith,
        owned_after (moves_beside (xs ++ (zs ++ queued_chains p s.queues)) (vs ++ zs) zs m all
            (λ j. omega (arith, times-append j vs zs))) is.owned k,
        times-append k vs zs,
        times-append k ys (queued_chains q w.queues),
        times-append k ys (numbers q t ++ queued_chains q w.queues),
        times-append k (numbers q t) (queued_chains q w.queues),
        ap (times_among k) (numbers_same p q t o),
      );
    }

-- the output queue took a step that replaced some of the caller's chains
pub of_queue : {p q : PoolView} {s : SocksView} {t u : TrainView} (xs ys : List ℕ) → Held p s t xs → IsOutputQueue q u
    → Moves p (xs ++ numbers p t) q (ys ++ numbers q u) → Held q s u ys
of_queue {p} {q} {s} {t} {u} xs ys is queue m =
    let zs : List ℕ = queued_chains p s.queues in
    let vs : List ℕ = ys ++ numbers q u in
    let all : (k : ℕ) → times_among k (xs ++ (numbers p t ++ zs))
    ≡ times_among k zs + times_among k (xs ++ numbers p t) =
    λ k. omega (
      arith,
      times-append k xs (numbers p t ++ zs),
      times-append k (numbers p t) zs,
      times-append k xs (numbers p t),
    ) in
    let v : Kept p q s =
    kept p q s (same_beside zs m (λ k. omega (arith, is.owned k, all k))
    (λ k h. omega (arith, h, is.owned k, all k, live_at_most p k))) is.socks in
    record {
      socks = v.ready;
      out = queue;
      owned = λ k. omega (
        arith,
        owned_after (moves_beside (xs ++ (numbers p t ++ zs)) (vs ++ zs) zs m all
            (λ j. omega (arith, times-append j vs zs))) is.owned k,
        times-append k vs zs,
        times-append k ys (numbers q u),
        times-append k ys (numbers q u ++ queued_chains q s.queues),
        times-append k (numbers q u) (queued_chains q s.queues),
        ap (times_among k) v.chains,
      );
    }

-- ---- a host's parts between two calls

abbrev pub Parts : PoolView → SocksView → Net → Type 0
Parts p s n =
    IsSocks p s × IsOutputQueue p n.out × IsOwned p (numbers p n.out ++ queued_chains p s.queues)
    × (n.looped ≡ record { first = None; last = None; len = 0 })

pub parts : {p : PoolView} {s : SocksView} (n : Net) → Held p s n.out []
    → n.looped ≡ record { first = None; last = None; len = 0 } → Parts p s n
parts n h none = (h.socks, h.out, h.owned, none)

pub starts : (p : PoolView) (s : SocksView) (n : Net) → IsSocks p s → IsOutputQueue p n.out → n.out.len ≡ 0
    → n.looped ≡ record { first = None; last = None; len = 0 } → Parts p s n
starts p s n socks out empty none = (
  socks,
  out,
  (λ k. omega (
    arith,
    socks.owned k,
    times-append k (numbers p n.out) (queued_chains p s.queues),
    ap (times_among k) (none_left p n.out empty),
  )),
  none,
)

pub after_call : {p : PoolView} {s w : SocksView} (n : Net) {event : Event} {reply : Reply} → Parts p s n
    → IsCalled p s event reply w → Parts p w n
after_call {p} {s} {w} n h is = (
  is.ready,
  h.1,
  subst (λ (bs : List SockBufView). IsOwned p (numbers p n.out ++ queued_chains p bs)) (sym is.queues)
      h.2,
  h.3,
)

pub after_socks : {p q : PoolView} {s w : SocksView} (n : Net) → Parts p s n → IsSocks q w
    → Moves p (queued_chains p s.queues) q (queued_chains q w.queues) → Parts q w n
after_socks n h ready m = parts n (of_socks [] [] (record { socks = h.0; out = h.1; owned = h.2 }) ready m) h.3

pub can_send : {p : PoolView} {s : SocksView} {n : Net} → Parts p s n → 68 ≤ n.mtu → s.pcbs.bcast ≢ s.pcbs.addr
    → s.pcbs.bcast ≢ 2130706433 → CanSend (sending p s n)
can_send {p} {s} {n} h mtu apart outside = record {
  socks = h.0;
  out = h.1;
  owned = h.2;
  looped = held_none p n.looped h.3;
  none = ap (λ (t : TrainView). t.len) h.3;
  mtu = mtu;
  apart = apart;
  outside = outside;
}

-- the output queue stays valid when the sockets' chains are freed
pub queue_left : {p q : PoolView} {s : SocksView} (n : Net) → Parts p s n → Moves p (queued_chains p s.queues) q []
    → IsOutputQueue q n.out
queue_left {p} {q} {s} n h m =
    let zs : List ℕ = numbers p n.out in
    let xs : List ℕ = queued_chains p s.queues in
    let same : SameAt p q zs =
    same_beside zs m (λ k. omega (arith, h.2 k, times-append k zs xs))
    (λ k some. omega (arith, some, h.2 k, times-append k zs xs, live_at_most p k)) in
    record { held = held_same p q n.out same h.1.held; room = h.1.room }

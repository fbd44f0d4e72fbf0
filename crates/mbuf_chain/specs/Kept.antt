-- A step of other code leaves a train unchanged: laws that the ghost members of an owner of trains can cite (this
-- project's own).
use Rattle.std.specs.Prelude.{◌≡◌, ℕ, zero, suc, ◌<◌, ◌≤◌, List, [], ◌∷◌, map, Option, None, Some, unwrap_or, is_some, refl}
use Rattle.std.proofs.Common.{sym, ap, ◌∙◌, arith, cond, length}
use Rattle.std.proofs.lemmas.Bool.{cond-true, eq-eqb}
use Rattle.mbuf_chain.specs.Chain.{ChainView, PoolView, chain_of, no_chain}
use Rattle.mbuf_chain.specs.Owners.{times_among, live_at, IsOwned}
use Rattle.mbuf_chain.specs.Frames.{SameAt}
use Rattle.mbuf_chain.specs.Train.{TrainView, QueuedPacket, follow, numbers, queued_packet_of, queued_packets, last_number, IsHeld}

pub times_same : (k : ℕ) (xs : List ℕ) → times_among k (k ∷ xs) ≡ suc (times_among k xs)
times_same k xs = omega (arith, cond-true {A = ℕ} _ 1 0 (eq-eqb k k refl))

pub chain_same : (p q : PoolView) (xs : List ℕ) (k : ℕ) → SameAt p q xs → 0 < times_among k xs
    → chain_of q k ≡ chain_of p k
chain_same p q xs k s h = ap (λ (o : Option ChainView). unwrap_or o no_chain) (s.same k h)

pub owned_same : (p q : PoolView) (xs : List ℕ) → SameAt p q xs → IsOwned p xs → IsOwned q xs
owned_same p q xs s o = λ k. go k (times_among k xs) refl
  where
    go : (k n : ℕ) → times_among k xs ≡ n → times_among k xs ≤ live_at q k
    go k zero e = omega arith
    go k (suc n) e =
        omega (arith, o k, ap (λ (o : Option ChainView). cond {A = ℕ} (is_some o) 1 0) (s.same k (omega arith)))

follow_same : (p q : PoolView) (n : ℕ) (at : Option ℕ) → SameAt p q (follow p n at) → follow q n at ≡ follow p n at
follow_same p q zero at s = refl
follow_same p q (suc n) None s = refl
follow_same p q (suc n) (Some c) s =
    ap (λ (v : ChainView). c ∷ follow q n v.front.after)
    (chain_same p q (follow p (suc n) (Some c)) c s
    (omega (arith, times_same c (follow p n (chain_of p c).front.after))))
    ∙ ap (λ (xs : List ℕ). c ∷ xs)
    (follow_same p q n (chain_of p c).front.after
    (record { mbufs = s.mbufs; same = λ k h. s.same k (omega (arith, h)) }))

pub numbers_same : (p q : PoolView) (t : TrainView) → SameAt p q (numbers p t) → numbers q t ≡ numbers p t
numbers_same p q t s = follow_same p q t.len t.first s

pub held_same : (p q : PoolView) (t : TrainView) → SameAt p q (numbers p t) → IsHeld p t → IsHeld q t
held_same p q t s h =
    let e : numbers q t ≡ numbers p t = numbers_same p q t s in
    record {
      owned = λ k. omega (arith, owned_same p q (numbers p t) s h.owned k, ap (times_among k) e);
      headed = λ k l.
          let l' : 0 < times_among k (numbers p t) = omega (arith, l, ap (times_among k) e) in
          ap (λ (v : ChainView). v.front.header) (chain_same p q (numbers p t) k s l') ∙ h.headed k l';
      whole = ap length e ∙ h.whole;
      ends =
          follow_same p q (suc t.len) t.first
          (record { mbufs = s.mbufs; same = λ k l. s.same k (omega (arith, l, ap (times_among k) h.ends)) }) ∙
          (h.ends ∙ sym e);
      last = h.last ∙ ap last_number (sym e);
    }

pub queued_packets_of_same : (p q : PoolView) (xs : List ℕ)
    → ((k : ℕ) → 0 < times_among k xs → queued_packet_of q k ≡ queued_packet_of p k)
    → map (queued_packet_of q) xs ≡ map (queued_packet_of p) xs
queued_packets_of_same p q [] h = refl
queued_packets_of_same p q (x ∷ xs) h =
    ap (λ (queued_packet : QueuedPacket). queued_packet ∷ map (queued_packet_of q) xs)
    (h x (omega (arith, times_same x xs)))
    ∙ ap (λ (rest : List QueuedPacket). queued_packet_of p x ∷ rest)
    (queued_packets_of_same p q xs (λ k l. h k (omega (arith, l))))

pub queued_packets_same : (p q : PoolView) (t : TrainView) → SameAt p q (numbers p t)
    → queued_packets q t ≡ queued_packets p t
queued_packets_same p q t s =
    ap (map (queued_packet_of q)) (numbers_same p q t s)
    ∙ queued_packets_of_same p q (numbers p t)
    (λ k h. ap (λ (v : ChainView). record { number = k; entries = v.entries; tag = v.front.tag })
    (chain_same p q (numbers p t) k s h))

-- a train without chains has no numbers
pub none_left : (p : PoolView) (t : TrainView) → t.len ≡ 0 → numbers p t ≡ []
none_left p t e = ap (λ (n : ℕ). follow p n t.first) e

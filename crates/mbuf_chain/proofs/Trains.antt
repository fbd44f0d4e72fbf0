-- Laws for owners of trains, for callers, and the effect of a train's own steps.
use Rattle.std.proofs.Common.{◌≡◌, ◌≢◌, ℕ, zero, suc, ◌+◌, ◌<◌, Bool, true, false, not, List, [], ◌∷◌, ◌++◌, length, map, Option, Some, None, get_or, slice_get, refl, sym, ap, ◌∙◌, subst, arith, inl, inr, length-append}
use Rattle.std.specs.List.{insert, remove}
use Rattle.std.specs.Option.{IfSome}
use Rattle.std.specs.Prelude.{◌==◌, if◌then◌else◌, unwrap_or}
use Rattle.std.specs.Bool.{then_some}
use Rattle.std.proofs.Math.Dec.{eqb-suc-zero}
use Rattle.std.proofs.lemmas.Bool.{cases_eq}
use Rattle.std.proofs.lemmas.List.{map-append, length-map, append-nil}
use Rattle.std.proofs.lemmas.Option.{same_Some, none-some}
use Rattle.std.proofs.Math.Seq.{get_or-append_seam}
use Rattle.mbuf_chain.specs.Chain.{ChainView, PoolView, IsLive, chain_of, with_chain, without, alone, Adds}
use Rattle.mbuf_chain.specs.Owners.{times_among, IsOwned, Moves}
use Rattle.mbuf_chain.specs.Steps.{placed}
use Rattle.mbuf_chain.specs.Frames.{SameAt, IsBounded}
use Rattle.mbuf_chain.specs.Train.{TrainView, QueuedPacket, no_queued_packet, follow, numbers, queued_packet_of, queued_packets, queued_packet_at, last_number, IsHeld, Inserts, Takes}
pub use Rattle.mbuf_chain.specs.Kept.{numbers_same, queued_packets_same, held_same, none_left}
use Rattle.mbuf_chain.specs.Kept.{queued_packets_of_same}
use Rattle.mbuf_chain.proofs.Laws.Owners.{times_same, times_other, times-append, owned_more, owned_after, live_owned, apart_first, same_without, same_with, same_adds, same_after, apart_new, moves_none, then_adds, then_without, shown_with, kept_with, live_with, moves_within, moves_trans, moves_reordered, live_at_most}
use Rattle.mbuf_chain.proofs.Laws.Accounts.{owned_at_most}
use Rattle.mbuf_chain.proofs.Runs.{IsRun, Split, split_at, get_front, times_get, times_twice, run_follow, run_ends, run_of, run_same, run_with, run_without, run_next, last-append, insert-append, remove-append}

-- ---- a train as the list of its numbers
record Linked (p : PoolView) (t : TrainView) (xs : List ℕ) : Type 0 where
  run : IsRun p t.first xs
  whole : t.len ≡ length xs
  last : t.last ≡ last_number xs
  owned : IsOwned p xs
  headed : (k : ℕ) → 0 < times_among k xs → (chain_of p k).front.header ≡ true

linked_of : (p : PoolView) (t : TrainView) → IsHeld p t → Linked p t (numbers p t)
linked_of p t h =
    record {
      run = run_of p t.len t.first h.whole h.ends;
      whole = sym h.whole;
      last = h.last;
      owned = h.owned;
      headed = h.headed;
    }

numbers_are : (p : PoolView) (t : TrainView) (xs : List ℕ) → Linked p t xs → numbers p t ≡ xs
numbers_are p t xs l = ap (λ (n : ℕ). follow p n t.first) l.whole ∙ run_follow p t.first xs l.run

held_of : (p : PoolView) (t : TrainView) (xs : List ℕ) → Linked p t xs → IsHeld p t
held_of p t xs l =
    let e : numbers p t ≡ xs = numbers_are p t xs l in
    record {
      owned = λ k. omega (arith, l.owned k, ap (times_among k) e);
      headed = λ k h. l.headed k (omega (arith, h, ap (times_among k) e));
      whole = ap length e ∙ sym l.whole;
      ends = ap (λ (n : ℕ). follow p (suc n) t.first) l.whole ∙ (run_ends p t.first xs l.run ∙ sym e);
      last = l.last ∙ ap last_number (sym e);
    }

-- ---- the first and the last chain as optional numbers, from fields that are numbers
pub end_there : (n k : ℕ) → 0 < n → (if n == 0 then None else Some k) ≡ Some k
end_there zero k h = absurd (omega arith)
end_there (suc n) k h = rw (eqb-suc-zero n) refl

pub no_end : (n k : ℕ) → n ≡ 0 → (if n == 0 then None else Some k) ≡ None
no_end n k e = rw e refl

then_or_none : (b : Bool) (k : ℕ) → then_some (not b) k ≡ (if b then None else Some k)
then_or_none true k = refl
then_or_none false k = refl

-- the first chain's number, by the test whether the train is empty
pub first_is : (first r : Option ℕ) (len n k : ℕ) (b : Bool) → (if n == 0 then None else Some k) ≡ first → n ≡ len
    → b ≡ (len == 0) → r ≡ then_some (not b) k → r ≡ first
first_is first r len n k b view len_is none is =
    is ∙ then_or_none b k ∙ ap (λ (v : Bool). if v then None else Some k) (none ∙ ap (λ (m : ℕ). m == 0) (sym len_is))
    ∙ view

run_head : (p : PoolView) (at : Option ℕ) (xs : List ℕ) (n k : ℕ) → IsRun p at xs → n ≡ length xs → k ≡ unwrap_or at 0
    → (if n == 0 then None else Some k) ≡ at
run_head p at [] n k r e is = rw (e, r) refl
run_head p at (x ∷ xs) n k r e is = rw (e, is, r.0, eqb-suc-zero (length xs)) refl

-- k is the number of the chain after the first one, unless n, the number of chains after it, is 0
pub first_after : (p : PoolView) (t : TrainView) (c n k : ℕ) → IsHeld p t → t.first ≡ Some c → n + 1 ≡ t.len
    → k ≡ unwrap_or (chain_of p c).front.after 0 → (if n == 0 then None else Some k) ≡ (chain_of p c).front.after
first_after p t c n k h first len is = go (numbers p t) refl
  where
    go : (xs : List ℕ) → numbers p t ≡ xs → (if n == 0 then None else Some k) ≡ (chain_of p c).front.after
    go [] e = absurd (omega (arith, len, h.whole, ap length e))
    go (x ∷ xs) e =
        let run : IsRun p t.first (x ∷ xs) = subst (IsRun p t.first) e (linked_of p t h).run in
        let rest : IsRun p (chain_of p c).front.after xs =
        subst (λ (j : ℕ). IsRun p (chain_of p j).front.after xs) (same_Some x c (sym run.0 ∙ first)) run.1 in
        run_head p (chain_of p c).front.after xs n k rest (omega (arith, len, h.whole, ap length e)) is

-- ---- a train during steps on other chains
pub record Beside (p q : PoolView) (t : TrainView) : Type 0 where
  pub held : IsHeld q t
  pub numbers : numbers q t ≡ numbers p t
  pub queued_packets : queued_packets q t ≡ queued_packets p t

pub beside : (p q : PoolView) (t : TrainView) → SameAt p q (numbers p t) → IsHeld p t → Beside p q t
beside p q t s h =
    record { held = held_same p q t s h; numbers = numbers_same p q t s; queued_packets = queued_packets_same p q t s }

pub beside_adds : {p q : PoolView} {c : ℕ} {v : ChainView} (t : TrainView) → Adds p q c v → IsHeld p t → Beside p q t
beside_adds {p} {q} t a h = beside p q t (same_adds (numbers p t) a h.owned) h

pub beside_with : (p q : PoolView) (c : ℕ) (v : ChainView) (t : TrainView) → q ≡ with_chain p c v
    → times_among c (numbers p t) ≡ 0 → IsHeld p t → Beside p q t
beside_with p q c v t e apart h = beside p q t (same_with p q c v (numbers p t) apart e) h

pub beside_without : (p q : PoolView) (c : ℕ) (t : TrainView) → q ≡ without p c → times_among c (numbers p t) ≡ 0
    → IsHeld p t
    → Beside p q t
beside_without p q c t e apart h = beside p q t (same_without p q c (numbers p t) apart e) h

pub beside_moves : {p q : PoolView} {xs ys : List ℕ} (t : TrainView) → Moves p xs q ys → IsOwned p (numbers p t ++ xs)
    → IsHeld p t → Beside p q t
beside_moves {p} {q} t m o h = beside p q t (same_after (numbers p t) m o) h

-- a new chain isn't in the train
pub apart_adds : {p q : PoolView} {c : ℕ} {v : ChainView} (t : TrainView) → Adds p q c v → IsHeld p t
    → times_among c (numbers q t) ≡ 0
apart_adds {p} {q} {c} t a h = ap (times_among c) (beside_adds t a h).numbers ∙ apart_new (numbers p t) a h.owned

-- ---- the owner of a train gets a new chain
pub moves_new : {p q : PoolView} {c : ℕ} {v : ChainView} (t : TrainView) → Adds p q c v → IsHeld p t
    → Moves p (numbers p t) q (c ∷ numbers q t)
moves_new {p} {q} {c} t a h =
    subst (λ (xs : List ℕ). Moves p (numbers p t) q (c ∷ xs)) (sym (beside_adds t a h).numbers)
    (then_adds (moves_none p (numbers p t)) a)

-- a chain removed from a train and freed
pub record FreedPacket (p : PoolView) (t : TrainView) (q r : PoolView) (u : TrainView) : Type 0 where
  pub queued_packets : queued_packets r u ≡ queued_packets q u
  pub held : IsHeld r u
  pub moves : Moves p (numbers p t) r (numbers r u)

pub freed_packet : {p q r : PoolView} {t u : TrainView} {c : ℕ} → IsHeld p t → IsHeld q u
    → Moves p (numbers p t) q (c ∷ numbers q u) → r ≡ without q c → FreedPacket p t q r u
freed_packet {p} {q} {r} {t} {u} {c} held now m is_r =
    let owned : IsOwned q (c ∷ numbers q u) = owned_after m held.owned in
    let same : SameAt q r (numbers q u) = same_without q r c (numbers q u) (apart_first q c (numbers q u) owned) is_r in
    record {
      queued_packets = queued_packets_same q r u same;
      held = held_same q r u same now;
      moves =
          subst (Moves p (numbers p t) r) (sym (numbers_same q r u same))
          (then_without r c (numbers q u) m held.owned is_r);
    }

-- the empty train is held by any pool
pub held_none : (p : PoolView) (t : TrainView) → t ≡ record { first = None; last = None; len = 0 } → IsHeld p t
held_none p t e =
    subst (IsHeld p) (sym e) (held_of p (record { first = None; last = None; len = 0 }) []
    (record {
      run = refl;
      whole = refl;
      last = refl;
      owned = λ k. omega arith;
      headed = λ k h. absurd (omega arith);
    }))

pub length-queued_packets : (p : PoolView) (t : TrainView) → IsHeld p t → length (queued_packets p t) ≡ t.len
length-queued_packets p t h = length-map (numbers p t) (queued_packet_of p) ∙ h.whole

live_link : (p : PoolView) (at : Option ℕ) (us : List ℕ) (b : ℕ) (zs : List ℕ) → IsOwned p ((us ++ b ∷ []) ++ zs)
    → IsRun p at ((us ++ b ∷ []) ++ zs) → IfSome (chain_of p b).front.after (IsLive p)
live_link p at [] b [] o r = subst (λ (at : Option ℕ). IfSome at (IsLive p)) (sym r.1) tt
live_link p at [] b (z ∷ zs) o r =
    subst (λ (at : Option ℕ). IfSome at (IsLive p)) (sym r.1.0)
    (live_owned p (b ∷ z ∷ zs) z o (omega (arith, times_same z zs)))
live_link p at (u ∷ us) b zs o r = live_link p (chain_of p u).front.after us b zs (λ k. omega (arith, o k)) r.1

get_seam : (ys : List ℕ) (c : ℕ) (zs : List ℕ) → slice_get (ys ++ c ∷ zs) (length ys) ≡ Some c
get_seam [] c zs = refl
get_seam (y ∷ ys) c zs = get_seam ys c zs

-- ---- the queued packet at a place
pub live_queued : (p : PoolView) (t : TrainView) (i c : ℕ) → IsHeld p t → slice_get (numbers p t) i ≡ Some c
    → IsLive p c
live_queued p t i c h e = live_owned p (numbers p t) c h.owned (times_get (numbers p t) i c e)

pub headed_packet : (p : PoolView) (t : TrainView) (i c : ℕ) → IsHeld p t → slice_get (numbers p t) i ≡ Some c
    → (chain_of p c).front.header ≡ true
headed_packet p t i c h e = h.headed c (times_get (numbers p t) i c e)

pub apart_queued : (p : PoolView) (t : TrainView) (i b c : ℕ) → times_among c (numbers p t) ≡ 0
    → slice_get (numbers p t) i ≡ Some b → b ≢ c
apart_queued p t i b c apart e is =
    absurd (omega (arith, apart, times_get (numbers p t) i b e, ap (λ (j : ℕ). times_among j (numbers p t)) is))

get_queued : (p : PoolView) (xs : List ℕ) (i c : ℕ) → slice_get xs i ≡ Some c
    → get_or (map (queued_packet_of p) xs) i no_queued_packet ≡ queued_packet_of p c
get_queued p [] i c e = absurd (none-some c e)
get_queued p (x ∷ xs) zero c e = ap (queued_packet_of p) (same_Some x c e)
get_queued p (x ∷ xs) (suc i) c e = get_queued p xs i c e

pub queued_packet_is : (p : PoolView) (t : TrainView) (i c : ℕ) → slice_get (numbers p t) i ≡ Some c
    → queued_packet_at p t i ≡ queued_packet_of p c
queued_packet_is p t i c e = get_queued p (numbers p t) i c e

-- a queued packet that isn't the last is linked to the next one
pub after_queued : (p : PoolView) (t : TrainView) (i b : ℕ) → IsHeld p t → slice_get (numbers p t) i ≡ Some b
    → suc i < t.len → (c : ℕ) × ((chain_of p b).front.after ≡ Some c) × (slice_get (numbers p t) (suc i) ≡ Some c)
after_queued p t i b h e more =
    let s = split_at (numbers p t) i b e in
    go s.front s.back s.all s.place
  where
    go : (us zs : List ℕ) → numbers p t ≡ (us ++ b ∷ []) ++ zs → length (us ++ b ∷ []) ≡ suc i
        → (c : ℕ) × ((chain_of p b).front.after ≡ Some c) × (slice_get (numbers p t) (suc i) ≡ Some c)
    go us [] all place = absurd (omega (arith, more, h.whole, ap length all, length-append (us ++ b ∷ []) [], place))
    go us (c ∷ zs) all place = (
      c,
      run_next p t.first us b c zs (subst (IsRun p t.first) all (linked_of p t h).run),
      ap (λ (xs : List ℕ). slice_get xs (suc i)) all ∙ ap (slice_get ((us ++ b ∷ []) ++ c ∷ zs)) (sym place)
          ∙ get_seam (us ++ b ∷ []) c zs,
    )

pub next_queued : (p : PoolView) (t : TrainView) (i b c : ℕ) → IsHeld p t → slice_get (numbers p t) i ≡ Some b
    → suc i < t.len → (chain_of p b).front.after ≡ Some c → slice_get (numbers p t) (suc i) ≡ Some c
next_queued p t i b c h e more is =
    let after = after_queued p t i b h e more in
    after.2 ∙ (sym after.1 ∙ is)

pub next_apart : (p : PoolView) (t : TrainView) (i b c : ℕ) → IsHeld p t → slice_get (numbers p t) i ≡ Some b
    → suc i < t.len → (chain_of p b).front.after ≡ Some c → c ≢ b
next_apart p t i b c h e more is same =
    absurd (omega (
      arith,
      h.owned b,
      live_at_most p b,
      times_twice (numbers p t) i b e (next_queued p t i b c h e more is ∙ ap {B = Option ℕ} Some same),
    ))

-- the chain after a queued packet is live
pub live_after : (p : PoolView) (t : TrainView) (i b : ℕ) → IsHeld p t → slice_get (numbers p t) i ≡ Some b
    → IfSome (chain_of p b).front.after (IsLive p)
live_after p t i b h e =
    let s = split_at (numbers p t) i b e in
    go s.front s.back s.all
  where
    go : (us zs : List ℕ) → numbers p t ≡ (us ++ b ∷ []) ++ zs → IfSome (chain_of p b).front.after (IsLive p)
    go us zs all =
        let l : Linked p t ((us ++ b ∷ []) ++ zs) = subst (Linked p t) all (linked_of p t h) in
        live_link p t.first us b zs l.owned l.run

-- the length of a train with room for one more chain fits into a count
pub room_for : (p : PoolView) (t : TrainView) (c : ℕ) (v : ChainView) (q : PoolView) → IsHeld p t → IsLive p c
    → times_among c (numbers p t) ≡ 0 → q ≡ with_chain p c v → IsBounded q → t.len < 65535
room_for p t c v q h live apart is_q b =
    let m : Moves p (c ∷ numbers p t) q (c ∷ numbers p t) =
    moves_within p q c v (c ∷ numbers p t) live (omega (arith, times_same c (numbers p t))) is_q in
    omega (
      arith,
      owned_at_most q (c ∷ numbers p t) b (owned_after m (owned_more p c (numbers p t) h.owned live apart)),
      b.small,
      h.whole,
    )

-- ---- chains with the same contents and other links
record Shown (p q : PoolView) (xs : List ℕ) : Type 0 where
  header : (k : ℕ) → 0 < times_among k xs → (chain_of q k).front.header ≡ (chain_of p k).front.header
  queued_packet : (k : ℕ) → 0 < times_among k xs → queued_packet_of q k ≡ queued_packet_of p k

-- ---- a chain is inserted
record PutIn (p : PoolView) (t : TrainView) (ys zs : List ℕ) (c tag : ℕ) (q : PoolView) (u : TrainView) : Type 0 where
  moves : Moves p (c ∷ (ys ++ zs)) q (c ∷ (ys ++ zs))
  others : Shown p q (ys ++ zs)
  header : (chain_of q c).front.header ≡ true
  queued_packet : queued_packet_of q c ≡ record { number = c; entries = (chain_of p c).entries; tag = tag }
  run : IsRun q u.first (ys ++ c ∷ zs)
  last : u.last ≡ last_number (ys ++ c ∷ zs)
  len : u.len ≡ t.len + 1

times_in : (k c : ℕ) (ys zs : List ℕ) → times_among k (ys ++ c ∷ zs) ≡ times_among k (c ∷ (ys ++ zs))
times_in k c ys zs = omega (arith, times-append k ys (c ∷ zs), times-append k ys zs)

length_in : (c : ℕ) (ys zs : List ℕ) → length (ys ++ c ∷ zs) ≡ suc (length (ys ++ zs))
length_in c ys zs = omega (arith, length-append ys (c ∷ zs), length-append ys zs)

put_in : (p : PoolView) (t : TrainView) (ys zs : List ℕ) (c tag : ℕ) (q : PoolView) (u : TrainView)
    → Linked p t (ys ++ zs) → IsLive p c → times_among c (ys ++ zs) ≡ 0 → PutIn p t ys zs c tag q u
    → Inserts p t (length ys) c tag q u
put_in p t ys zs c tag q u l live apart s =
    let owned : IsOwned q (c ∷ (ys ++ zs)) = owned_after s.moves (owned_more p c (ys ++ zs) l.owned live apart) in
    let linked : Linked q u (ys ++ c ∷ zs) = record {
      run = s.run;
      whole = omega (arith, s.len, l.whole, length_in c ys zs);
      last = s.last;
      owned = λ k. omega (arith, owned k, times_in k c ys zs);
      headed = λ k h. elim (cases_eq k c) [
        | inl e ↦ ap (λ (j : ℕ). (chain_of q j).front.header) e ∙ s.header
        | inr ne ↦
            let in_old : 0 < times_among k (ys ++ zs) =
            omega (arith, h, times_in k c ys zs, times_other k c (ys ++ zs) ne) in
            s.others.header k in_old ∙ l.headed k in_old
      ];
    } in
    let was : numbers p t ≡ ys ++ zs = numbers_are p t (ys ++ zs) l in
    let is : numbers q u ≡ ys ++ c ∷ zs = numbers_are q u (ys ++ c ∷ zs) linked in
    record {
      queued_packets =
          ap (map (queued_packet_of q)) is
          ∙ map-append (queued_packet_of q) ys (c ∷ zs)
          ∙ ap (λ (xs : List QueuedPacket). xs ++ map (queued_packet_of q) (c ∷ zs))
          (queued_packets_of_same p q ys (λ k h. s.others.queued_packet k (omega (arith, h, times-append k ys zs))))
          ∙ ap (λ (xs : List QueuedPacket). map (queued_packet_of p) ys ++ queued_packet_of q c ∷ xs)
          (queued_packets_of_same p q zs (λ k h. s.others.queued_packet k (omega (arith, h, times-append k ys zs))))
          ∙ ap (λ (queued_packet : QueuedPacket). map (queued_packet_of p) ys ++ queued_packet
          ∷ map (queued_packet_of p) zs) s.queued_packet
          ∙ sym (insert-append (map (queued_packet_of p) ys) (map (queued_packet_of p) zs) (length ys)
          (record { number = c; entries = (chain_of p c).entries; tag = tag }) (length-map ys (queued_packet_of p)))
          ∙ ap (λ (xs : List QueuedPacket). insert xs (length ys)
          (record { number = c; entries = (chain_of p c).entries; tag = tag })) (sym
          (map-append (queued_packet_of p) ys zs) ∙ ap (map (queued_packet_of p)) (sym was));
      held = held_of q u (ys ++ c ∷ zs) linked;
      len = s.len;
      moves =
          moves_reordered (c ∷ numbers p t) (numbers q u) s.moves
          (λ k. ap (λ (xs : List ℕ). times_among k (c ∷ xs)) was)
          (λ k. ap (times_among k) is ∙ times_in k c ys zs);
      stands = ap (λ (xs : List ℕ). slice_get xs (length ys)) is ∙ get_seam ys c zs;
      front =
          λ k h. ap (λ (xs : List ℕ). slice_get xs k) is ∙ get_front ys (c ∷ zs) zs k h
          ∙ ap (λ (xs : List ℕ). slice_get xs k) (sym was);
    }

-- ---- a chain is removed
record TakenOut (p : PoolView) (t : TrainView) (ys zs : List ℕ) (c : ℕ) (q : PoolView) (u : TrainView) : Type 0 where
  moves : Moves p (ys ++ c ∷ zs) q (ys ++ c ∷ zs)
  others : Shown p q (ys ++ zs)
  entries : (chain_of q c).entries ≡ (chain_of p c).entries
  alone : (chain_of q c).front ≡ alone true
  run : IsRun q u.first (ys ++ zs)
  last : u.last ≡ last_number (ys ++ zs)
  len : u.len + 1 ≡ t.len

take_out : (p : PoolView) (t : TrainView) (ys zs : List ℕ) (c : ℕ) (q : PoolView) (u : TrainView)
    → Linked p t (ys ++ c ∷ zs) → TakenOut p t ys zs c q u → Takes p t (length ys) c (chain_of p c).front.tag q u
take_out p t ys zs c q u l s =
    let owned : IsOwned q (ys ++ c ∷ zs) = owned_after s.moves l.owned in
    let linked : Linked q u (ys ++ zs) = record {
      run = s.run;
      whole = omega (arith, s.len, l.whole, length_in c ys zs);
      last = s.last;
      owned = λ k. omega (arith, owned k, times_in k c ys zs);
      headed = λ k h. s.others.header k h ∙ l.headed k (omega (arith, h, times_in k c ys zs));
    } in
    let was : numbers p t ≡ ys ++ c ∷ zs = numbers_are p t (ys ++ c ∷ zs) l in
    let is : numbers q u ≡ ys ++ zs = numbers_are q u (ys ++ zs) linked in
    let queued_packets_were : queued_packets p t
    ≡ map (queued_packet_of p) ys ++ queued_packet_of p c ∷ map (queued_packet_of p) zs =
    ap (map (queued_packet_of p)) was ∙ map-append (queued_packet_of p) ys (c ∷ zs) in
    record {
      queued_packets =
          ap (map (queued_packet_of q)) is
          ∙ map-append (queued_packet_of q) ys zs
          ∙ ap (λ (xs : List QueuedPacket). xs ++ map (queued_packet_of q) zs)
          (queued_packets_of_same p q ys (λ k h. s.others.queued_packet k (omega (arith, h, times-append k ys zs))))
          ∙ ap (λ (xs : List QueuedPacket). map (queued_packet_of p) ys ++ xs)
          (queued_packets_of_same p q zs (λ k h. s.others.queued_packet k (omega (arith, h, times-append k ys zs))))
          ∙ sym (remove-append (map (queued_packet_of p) ys) (map (queued_packet_of p) zs) (length ys)
          (queued_packet_of p c) (length-map ys (queued_packet_of p)))
          ∙ ap (λ (xs : List QueuedPacket). remove xs (length ys)) (sym queued_packets_were);
      taken =
          ap (λ (xs : List QueuedPacket). get_or xs (length ys) no_queued_packet) queued_packets_were
          ∙ ap (λ (n : ℕ). get_or (map (queued_packet_of p) ys ++ queued_packet_of p c ∷ map (queued_packet_of p) zs) n
          no_queued_packet) (sym (length-map ys (queued_packet_of p)))
          ∙ get_or-append_seam (map (queued_packet_of p) ys) (queued_packet_of p c) (map (queued_packet_of p) zs)
          no_queued_packet
          ∙ ap (λ (es : List Rattle.mbuf_chain.specs.Chain.Entry). record
          { number = c; entries = es; tag = (chain_of p c).front.tag }) (sym s.entries);
      alone = s.alone;
      held = held_of q u (ys ++ zs) linked;
      len = s.len;
      moves =
          moves_reordered (numbers p t) (c ∷ numbers q u) s.moves (λ k. ap (times_among k) was)
          (λ k. ap (λ (xs : List ℕ). times_among k (c ∷ xs)) is ∙ sym (times_in k c ys zs));
      front =
          λ k h. ap (λ (xs : List ℕ). slice_get xs k) is ∙ get_front ys zs (c ∷ zs) k h
          ∙ ap (λ (xs : List ℕ). slice_get xs k) (sym was);
    }

-- ---- the train's own steps
queued_packet_from : (p q : PoolView) (k : ℕ) → chain_of q k ≡ chain_of p k
    → queued_packet_of q k ≡ queued_packet_of p k
queued_packet_from p q k e = ap (λ (v : ChainView). record { number = k; entries = v.entries; tag = v.front.tag }) e

header_from : (p q : PoolView) (k : ℕ) → chain_of q k ≡ chain_of p k
    → (chain_of q k).front.header ≡ (chain_of p k).front.header
header_from p q k e = ap (λ (v : ChainView). v.front.header) e

after_from : (p q : PoolView) (k : ℕ) → chain_of q k ≡ chain_of p k
    → (chain_of q k).front.after ≡ (chain_of p k).front.after
after_from p q k e = ap (λ (v : ChainView). v.front.after) e

not_in : (c k : ℕ) (xs : List ℕ) → times_among c xs ≡ 0 → 0 < times_among k xs → k ≢ c
not_in c k xs apart h e = absurd (omega (arith, apart, h, ap (λ (j : ℕ). times_among j xs) e))

-- a chain is inserted at the front
pub inserted_first : (p : PoolView) (t : TrainView) (c tag : ℕ) (q : PoolView) (u : TrainView) → IsHeld p t → IsLive p c
    → (chain_of p c).front.header ≡ true → times_among c (numbers p t) ≡ 0
    → q ≡ with_chain p c (placed (chain_of p c) t.first tag) → u.first ≡ Some c → u.len ≡ t.len + 1
    → (t.len ≡ 0 → u.last ≡ Some c) → (0 < t.len → u.last ≡ t.last) → Inserts p t 0 c tag q u
inserted_first p t c tag q u h live headed apart is_q first len only last =
    let v = placed (chain_of p c) t.first tag in
    let l = linked_of p t h in
    let here : chain_of q c ≡ placed (chain_of p c) t.first tag = shown_with p q c v is_q in
    let there : (k : ℕ) → 0 < times_among k (numbers p t) → chain_of q k ≡ chain_of p k =
    λ k in_old. kept_with p q c v k is_q (not_in c k (numbers p t) apart in_old) in
    let after : (chain_of q c).front.after ≡ t.first = ap (λ (v : ChainView). v.front.after) here in
    let run : IsRun q t.first (numbers p t) =
    run_same p q t.first (numbers p t) (record { after = λ k in_old. after_from p q k (there k in_old) }) l.run in
    put_in p t [] (numbers p t) c tag q u l live apart (record {
      moves = moves_within p q c v (c ∷ numbers p t) live (omega (arith, times_same c (numbers p t))) is_q;
      others =
          record {
            header = λ k in_old. header_from p q k (there k in_old);
            queued_packet = λ k in_old. queued_packet_from p q k (there k in_old);
          };
      header = ap (λ (v : ChainView). v.front.header) here ∙ headed;
      queued_packet = ap (λ (v : ChainView). record { number = c; entries = v.entries; tag = v.front.tag }) here;
      run = (first, subst (λ (o : Option ℕ). IsRun q o (numbers p t)) (sym after) run);
      last = end_of (numbers p t) refl;
      len = len;
    })
  where
    end_of : (xs : List ℕ) → numbers p t ≡ xs → u.last ≡ last_number (c ∷ xs)
    end_of [] e = only (omega (arith, h.whole, ap length e))
    end_of (x ∷ xs) e = last (omega (arith, h.whole, ap length e)) ∙ h.last ∙ ap last_number e

-- a chain is inserted after another
after_in : (p : PoolView) (t : TrainView) (b i c tag : ℕ) (r q : PoolView) (u : TrainView) → IsHeld p t → IsLive p c
    → (chain_of p c).front.header ≡ true → times_among c (numbers p t) ≡ 0
    → slice_get (numbers p t) i ≡ Some b → r ≡ with_chain p c (placed (chain_of p c) (chain_of p b).front.after tag)
    → q ≡ with_chain r b (placed (chain_of r b) (Some c) (chain_of r b).front.tag)
    → u.first ≡ t.first → u.len ≡ t.len + 1 → (suc i ≡ t.len → u.last ≡ Some c) → (suc i < t.len → u.last ≡ t.last)
    → Inserts p t (suc i) c tag q u
after_in p t b i c tag r q u h live headed apart at is_r is_q first len only last =
    subst (λ (n : ℕ). Inserts p t n c tag q u) s.place
    (put_in p t (s.front ++ b ∷ []) s.back c tag q u l live apart_all (record {
      moves = moves_trans
          (moves_within p r c v (c ∷ ((s.front ++ b ∷ []) ++ s.back)) live
          (omega (arith, times_same c ((s.front ++ b ∷ []) ++ s.back))) is_r)
          (moves_within r q b w (c ∷ ((s.front ++ b ∷ []) ++ s.back)) (live_with p r c v b is_r live_b)
          (omega (arith, has_b)) is_q);
      others = record {
        header = λ k in_all. elim (cases_eq k b) [
          | inl e ↦ subst (λ (j : ℕ). (chain_of q j).front.header ≡ (chain_of p j).front.header) (sym e)
              (ap (λ (v : ChainView). v.front.header) at_b)
          | inr ne ↦ header_from p q k (there k (not_in c k ((s.front ++ b ∷ []) ++ s.back) apart_all in_all) ne)
        ];
        queued_packet = λ k in_all. elim (cases_eq k b) [
          | inl e ↦ subst (λ (j : ℕ). queued_packet_of q j ≡ queued_packet_of p j) (sym e)
              (ap (λ (v : ChainView). record { number = b; entries = v.entries; tag = v.front.tag }) at_b)
          | inr ne ↦ queued_packet_from p q k (there k (not_in c k ((s.front ++ b ∷ []) ++ s.back) apart_all in_all) ne)
        ];
      };
      header = ap (λ (v : ChainView). v.front.header) at_c ∙ headed;
      queued_packet = ap (λ (v : ChainView). record { number = c; entries = v.entries; tag = v.front.tag }) at_c;
      run = subst (λ (o : Option ℕ). IsRun q o ((s.front ++ b ∷ []) ++ c ∷ s.back)) (sym first)
          (run_with p q t.first s.front b c s.back l.run
          (record {
            after = λ k in_us. after_from p q k (kept k (omega (arith, in_us, times-append k s.front s.back)));
          })
          (record {
            after = λ k in_zs. after_from p q k (kept k (omega (arith, in_zs, times-append k s.front s.back)));
          })
          (ap (λ (v : ChainView). v.front.after) at_b)
          (ap (λ (v : ChainView). v.front.after) at_c));
      last = end_of s.back refl;
      len = len;
    }))
  where
    s : Split (numbers p t) i b
    s = split_at (numbers p t) i b at

    v : ChainView
    v = placed (chain_of p c) (chain_of p b).front.after tag

    w : ChainView
    w = placed (chain_of r b) (Some c) (chain_of r b).front.tag

    l : Linked p t ((s.front ++ b ∷ []) ++ s.back)
    l = subst (Linked p t) s.all (linked_of p t h)

    apart_all : times_among c ((s.front ++ b ∷ []) ++ s.back) ≡ 0
    apart_all = ap (times_among c) (sym s.all) ∙ apart

    parts : (k : ℕ) → times_among k ((s.front ++ b ∷ []) ++ s.back)
        ≡ times_among k (b ∷ []) + times_among k (s.front ++ s.back)
    parts k =
        omega (
          arith,
          times-append k (s.front ++ b ∷ []) s.back,
          times-append k s.front (b ∷ []),
          times-append k s.front s.back,
        )

    has_b : 0 < times_among b ((s.front ++ b ∷ []) ++ s.back)
    has_b = omega (arith, parts b, times_same b [])

    once_b : times_among b (s.front ++ s.back) ≡ 0
    once_b = omega (arith, parts b, times_same b [], l.owned b, live_at_most p b)

    live_b : IsLive p b
    live_b = live_owned p ((s.front ++ b ∷ []) ++ s.back) b l.owned has_b

    b_c : b ≢ c
    b_c = not_in c b ((s.front ++ b ∷ []) ++ s.back) apart_all has_b

    at_c : chain_of q c ≡ placed (chain_of p c) (chain_of p b).front.after tag
    at_c = kept_with r q b w c is_q (λ e. b_c (sym e)) ∙ shown_with p r c v is_r

    at_b : chain_of q b ≡ placed (chain_of p b) (Some c) (chain_of p b).front.tag
    at_b =
        shown_with r q b w is_q ∙ ap (λ (x : ChainView). placed x (Some c) x.front.tag) (kept_with p r c v b is_r b_c)

    there : (k : ℕ) → k ≢ c → k ≢ b → chain_of q k ≡ chain_of p k
    there k nc nb = kept_with r q b w k is_q nb ∙ kept_with p r c v k is_r nc

    kept : (k : ℕ) → 0 < times_among k (s.front ++ s.back) → chain_of q k ≡ chain_of p k
    kept k h =
        there k (not_in c k ((s.front ++ b ∷ []) ++ s.back) apart_all (omega (arith, h, parts k)))
        (not_in b k (s.front ++ s.back) once_b h)

    end_of : (xs : List ℕ) → s.back ≡ xs → u.last ≡ last_number ((s.front ++ b ∷ []) ++ c ∷ xs)
    end_of [] e =
        only (omega (arith, l.whole, s.place, length-append (s.front ++ b ∷ []) s.back, ap length e))
        ∙ sym (last-append (s.front ++ b ∷ []) c [])
    end_of (x ∷ xs) e =
        last (omega (arith, l.whole, s.place, length-append (s.front ++ b ∷ []) s.back, ap length e))
        ∙ l.last
        ∙ ap (λ (zs : List ℕ). last_number ((s.front ++ b ∷ []) ++ zs)) e
        ∙ last-append (s.front ++ b ∷ []) x xs
        ∙ sym (last-append (s.front ++ b ∷ []) c (x ∷ xs))

-- the first chain is removed
first_out : (p : PoolView) (t : TrainView) (c : ℕ) (q : PoolView) (u : TrainView) → IsHeld p t → t.first ≡ Some c
    → 0 < t.len
    → q ≡ with_chain p c (placed (chain_of p c) None 0) → u.first ≡ (chain_of p c).front.after → u.len + 1 ≡ t.len
    → (t.len ≡ 1 → u.last ≡ None) → (1 < t.len → u.last ≡ t.last) → Takes p t 0 c (chain_of p c).front.tag q u
first_out p t c q u h is_c some is_q first len only last = go (numbers p t) refl
  where
    go : (xs : List ℕ) → numbers p t ≡ xs → Takes p t 0 c (chain_of p c).front.tag q u
    go [] e = absurd (omega (arith, h.whole, ap length e))
    go (x ∷ zs) e =
        let l : Linked p t (x ∷ zs) = subst (Linked p t) e (linked_of p t h) in
        let x_c : x ≡ c = same_Some x c (sym l.run.0 ∙ is_c) in
        with_first zs (subst (λ (j : ℕ). Linked p t (j ∷ zs)) x_c l)
      where
        with_first : (zs : List ℕ) → Linked p t (c ∷ zs) → Takes p t 0 c (chain_of p c).front.tag q u
        with_first zs l =
            let v = placed (chain_of p c) None 0 in
            let apart : times_among c zs ≡ 0 = omega (arith, l.owned c, times_same c zs, live_at_most p c) in
            let has_c : 0 < times_among c (c ∷ zs) = omega (arith, times_same c zs) in
            let here : chain_of q c ≡ placed (chain_of p c) None 0 = shown_with p q c v is_q in
            let there : (k : ℕ) → 0 < times_among k zs → chain_of q k ≡ chain_of p k =
            λ k in_zs. kept_with p q c v k is_q (not_in c k zs apart in_zs) in
            take_out p t [] zs c q u l (record {
              moves = moves_within p q c v (c ∷ zs) (live_owned p (c ∷ zs) c l.owned has_c) has_c is_q;
              others =
                  record {
                    header = λ k in_zs. header_from p q k (there k in_zs);
                    queued_packet = λ k in_zs. queued_packet_from p q k (there k in_zs);
                  };
              entries = ap (λ (v : ChainView). v.entries) here;
              alone = ap (λ (v : ChainView). v.front) here ∙ ap (λ (b : Bool). alone b) (l.headed c has_c);
              run =
                  subst (λ (o : Option ℕ). IsRun q o zs) (sym first)
                  (run_same p q (chain_of p c).front.after zs
                  (record { after = λ k in_zs. after_from p q k (there k in_zs) }) l.run.1);
              last = end_of zs l;
              len = len;
            })
          where
            end_of : (zs : List ℕ) → Linked p t (c ∷ zs) → u.last ≡ last_number zs
            end_of [] l = only (omega (arith, l.whole))
            end_of (z ∷ zs) l = last (omega (arith, l.whole)) ∙ l.last

-- the chain after another is removed
after_out : (p : PoolView) (t : TrainView) (b i c : ℕ) (r q : PoolView) (u : TrainView) → IsHeld p t
    → Split (numbers p t) i b → suc i < t.len → (chain_of p b).front.after ≡ Some c
    → r ≡ with_chain p b (placed (chain_of p b) (chain_of p c).front.after (chain_of p b).front.tag)
    → q ≡ with_chain r c (placed (chain_of r c) None 0)
    → u.first ≡ t.first → u.len + 1 ≡ t.len → (i + 2 ≡ t.len → u.last ≡ Some b) → (i + 2 < t.len → u.last ≡ t.last)
    → Takes p t (suc i) c (chain_of p c).front.tag q u
after_out p t b i c r q u h s more is_c is_r is_q first len only last = go s.back s.all
  where
    us : List ℕ
    us = s.front

    go : (xs : List ℕ) → numbers p t ≡ (us ++ b ∷ []) ++ xs → Takes p t (suc i) c (chain_of p c).front.tag q u
    go [] e = absurd (omega (arith, more, h.whole, ap length e, length-append (us ++ b ∷ []) [], s.place))
    go (x ∷ zs) e =
        let l : Linked p t ((us ++ b ∷ []) ++ x ∷ zs) = subst (Linked p t) e (linked_of p t h) in
        let x_c : x ≡ c = same_Some x c (sym (run_next p t.first us b x zs l.run) ∙ is_c) in
        subst (λ (n : ℕ). Takes p t n c (chain_of p c).front.tag q u) s.place
        (with_chain_out zs (subst (λ (j : ℕ). Linked p t ((us ++ b ∷ []) ++ j ∷ zs)) x_c l))
      where
        with_chain_out : (zs : List ℕ) → Linked p t ((us ++ b ∷ []) ++ c ∷ zs)
            → Takes p t (length (us ++ b ∷ [])) c (chain_of p c).front.tag q u
        with_chain_out zs l =
            let v = placed (chain_of p b) (chain_of p c).front.after (chain_of p b).front.tag in
            let w = placed (chain_of r c) None 0 in
            let parts : (k : ℕ) → times_among k ((us ++ b ∷ []) ++ c ∷ zs)
            ≡ times_among k (b ∷ []) + times_among k (c ∷ (us ++ zs)) =
            λ k. omega (
              arith,
              times-append k (us ++ b ∷ []) (c ∷ zs),
              times-append k us (b ∷ []),
              times-append k us zs,
            ) in
            let has_b : 0 < times_among b ((us ++ b ∷ []) ++ c ∷ zs) = omega (arith, parts b, times_same b []) in
            let has_c : 0 < times_among c ((us ++ b ∷ []) ++ c ∷ zs) =
            omega (arith, parts c, times_same c (us ++ zs)) in
            let b_c : b ≢ c =
            λ e. absurd (omega (
              arith,
              parts b,
              times_same b [],
              times_same c (us ++ zs),
              ap (λ (j : ℕ). times_among b (j ∷ (us ++ zs))) e,
              times_same b (us ++ zs),
              l.owned b,
              live_at_most p b,
            )) in
            let no_b : times_among b (us ++ zs) ≡ 0 =
            omega (arith, parts b, times_same b [], l.owned b, live_at_most p b, times_other b c (us ++ zs) b_c) in
            let no_c : times_among c (us ++ zs) ≡ 0 =
            omega (arith, parts c, times_same c (us ++ zs), l.owned c, live_at_most p c) in
            let live_b = live_owned p ((us ++ b ∷ []) ++ c ∷ zs) b l.owned has_b in
            let live_c = live_owned p ((us ++ b ∷ []) ++ c ∷ zs) c l.owned has_c in
            let at_c : chain_of q c ≡ placed (chain_of p c) None 0 =
            shown_with r q c w is_q ∙ ap (λ (x : ChainView). placed x None 0)
            (kept_with p r b v c is_r (λ e. b_c (sym e))) in
            let at_b : chain_of q b ≡ placed (chain_of p b) (chain_of p c).front.after (chain_of p b).front.tag =
            kept_with r q c w b is_q b_c ∙ shown_with p r b v is_r in
            let kept : (k : ℕ) → 0 < times_among k (us ++ zs) → chain_of q k ≡ chain_of p k =
            λ k h. kept_with r q c w k is_q (not_in c k (us ++ zs) no_c h)
            ∙ kept_with p r b v k is_r (not_in b k (us ++ zs) no_b h) in
            let others : (k : ℕ) → 0 < times_among k ((us ++ b ∷ []) ++ zs) → k ≢ b → 0 < times_among k (us ++ zs) =
            λ k in_all ne. omega (
              arith,
              in_all,
              times-append k (us ++ b ∷ []) zs,
              times-append k us (b ∷ []),
              times-append k us zs,
              times_other k b [] ne,
            ) in
            take_out p t (us ++ b ∷ []) zs c q u l (record {
              moves =
                  moves_trans (moves_within p r b v ((us ++ b ∷ []) ++ c ∷ zs) live_b has_b is_r)
                  (moves_within r q c w ((us ++ b ∷ []) ++ c ∷ zs) (live_with p r b v c is_r live_c) has_c is_q);
              others = record {
                header = λ k in_all. elim (cases_eq k b) [
                  | inl e ↦ subst (λ (j : ℕ). (chain_of q j).front.header ≡ (chain_of p j).front.header) (sym e)
                      (ap (λ (v : ChainView). v.front.header) at_b)
                  | inr ne ↦ header_from p q k (kept k (others k in_all ne))
                ];
                queued_packet = λ k in_all. elim (cases_eq k b) [
                  | inl e ↦ subst (λ (j : ℕ). queued_packet_of q j ≡ queued_packet_of p j) (sym e)
                      (ap (λ (v : ChainView). record { number = b; entries = v.entries; tag = v.front.tag }) at_b)
                  | inr ne ↦ queued_packet_from p q k (kept k (others k in_all ne))
                ];
              };
              entries = ap (λ (v : ChainView). v.entries) at_c;
              alone = ap (λ (v : ChainView). v.front) at_c ∙ ap (λ (b : Bool). alone b) (l.headed c has_c);
              run = subst (λ (o : Option ℕ). IsRun q o ((us ++ b ∷ []) ++ zs)) (sym first)
                  (run_without p q t.first us b c zs l.run
                  (record { after = λ k in_us. after_from p q k (kept k (omega (arith, in_us, times-append k us zs))) })
                  (record { after = λ k in_zs. after_from p q k (kept k (omega (arith, in_zs, times-append k us zs))) })
                  (ap (λ (v : ChainView). v.front.after) at_b));
              last = end_of zs l;
              len = len;
            })
          where
            end_of : (zs : List ℕ) → Linked p t ((us ++ b ∷ []) ++ c ∷ zs) → u.last ≡ last_number ((us ++ b ∷ []) ++ zs)
            end_of [] l =
                only (omega (arith, l.whole, s.place, length-append (us ++ b ∷ []) (c ∷ [])))
                ∙ sym (last-append us b [])
                ∙ ap last_number (sym (append-nil (us ++ b ∷ [])))
            end_of (z ∷ zs) l =
                last (omega (arith, l.whole, s.place, length-append (us ++ b ∷ []) (c ∷ z ∷ zs)))
                ∙ l.last
                ∙ last-append (us ++ b ∷ []) c (z ∷ zs)
                ∙ sym (last-append (us ++ b ∷ []) z zs)

pub taken_first : (p : PoolView) (t : TrainView) (c tag : ℕ) (q : PoolView) (u : TrainView) → IsHeld p t
    → t.first ≡ Some c → 0 < t.len → tag ≡ (chain_of p c).front.tag
    → q ≡ with_chain p c (placed (chain_of p c) None 0) → u.first ≡ (chain_of p c).front.after → u.len + 1 ≡ t.len
    → (t.len ≡ 1 → u.last ≡ None) → (1 < t.len → u.last ≡ t.last) → Takes p t 0 c tag q u
taken_first p t c tag q u h is_c some is_tag is_q first len only last =
    subst (λ (n : ℕ). Takes p t 0 c n q u) (sym is_tag) (first_out p t c q u h is_c some is_q first len only last)

pub taken_after : (p : PoolView) (t : TrainView) (b i n c tag kept : ℕ) (rest : Option ℕ) (r q : PoolView)
    (u : TrainView) → IsHeld p t → slice_get (numbers p t) i ≡ Some b → n ≡ suc i → n < t.len
    → (chain_of p b).front.after ≡ Some c → rest ≡ (chain_of p c).front.after → tag ≡ (chain_of p c).front.tag
    → kept ≡ (chain_of p b).front.tag
    → r ≡ with_chain p b (placed (chain_of p b) rest kept) → q ≡ with_chain r c (placed (chain_of r c) None 0)
    → u.first ≡ t.first → u.len + 1 ≡ t.len → (n + 1 ≡ t.len → u.last ≡ Some b) → (n + 1 < t.len → u.last ≡ t.last)
    → Takes p t n c tag q u
taken_after p t b i n c tag kept rest r q u h at is_n more is_c is_rest is_tag is_kept is_r is_q first len only last =
    let step : r ≡ with_chain p b (placed (chain_of p b) (chain_of p c).front.after (chain_of p b).front.tag) =
    is_r ∙ (ap (λ (o : Option ℕ). with_chain p b (placed (chain_of p b) o kept)) is_rest
    ∙ ap (λ (k : ℕ). with_chain p b (placed (chain_of p b) (chain_of p c).front.after k)) is_kept) in
    let out : Takes p t (suc i) c (chain_of p c).front.tag q u =
    after_out p t b i c r q u h (split_at (numbers p t) i b at) (omega arith) is_c step is_q first len
    (λ e. only (omega arith)) (λ e. last (omega arith)) in
    subst (λ (k : ℕ). Takes p t k c tag q u) (sym is_n) (subst (λ (k : ℕ). Takes p t (suc i) c k q u) (sym is_tag) out)

pub inserted_after : (p : PoolView) (t : TrainView) (b i n c tag kept : ℕ) (rest : Option ℕ) (r q : PoolView)
    (u : TrainView) → IsHeld p t → IsLive p c → (chain_of p c).front.header ≡ true → times_among c (numbers p t) ≡ 0
    → slice_get (numbers p t) i ≡ Some b → n ≡ suc i → rest ≡ (chain_of p b).front.after
    → kept ≡ (chain_of r b).front.tag
    → r ≡ with_chain p c (placed (chain_of p c) rest tag) → q ≡ with_chain r b (placed (chain_of r b) (Some c) kept)
    → u.first ≡ t.first → u.len ≡ t.len + 1 → (n ≡ t.len → u.last ≡ Some c) → (n < t.len → u.last ≡ t.last)
    → Inserts p t n c tag q u
inserted_after p t b i n c tag kept rest r q u h live headed apart at is_n is_rest is_kept is_r is_q first len only
    last =
    let step : r ≡ with_chain p c (placed (chain_of p c) (chain_of p b).front.after tag) =
    is_r ∙ ap (λ (o : Option ℕ). with_chain p c (placed (chain_of p c) o tag)) is_rest in
    let next : q ≡ with_chain r b (placed (chain_of r b) (Some c) (chain_of r b).front.tag) =
    is_q ∙ ap (λ (k : ℕ). with_chain r b (placed (chain_of r b) (Some c) k)) is_kept in
    subst (λ (k : ℕ). Inserts p t k c tag q u) (sym is_n)
    (after_in p t b i c tag r q u h live headed apart at step next first len (λ e. only (omega arith))
    (λ e. last (omega arith)))

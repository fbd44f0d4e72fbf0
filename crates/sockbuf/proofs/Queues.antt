-- A queue after an append and after a take.
use Rattle.std.proofs.Common.{◌≡◌, ℕ, ◌+◌, ◌-◌, ◌<◌, false, List, [], ◌∷◌, ◌++◌, length, take, drop, None, refl, sym, ap, ◌∙◌, subst, arith, inl, inr, length-append}
use Rattle.std.specs.Prelude.{slice_index_or}
use Rattle.std.specs.List.{insert, remove, AllByRecursion as Each}
use Rattle.std.proofs.lemmas.Bool.{cases_eq}
use Rattle.std.proofs.lemmas.List.{map-append}
use Rattle.std.proofs.lemmas.List.Sums.{sum_by-cons, sum_by-append}
use Rattle.flat_model.specs.Amounts.Weight.{mbuf, ◌⊕◌}
use Rattle.flat_model.specs.Machine.State.{Datagram}
use Rattle.flat_model.specs.Sockets.Fits.{bytes_queued, memory_of, memory_queued}
use Rattle.flat_model.specs.declared.address.Addr.{Addr}
use Rattle.mbuf_chain.specs.Chain.{Entry, PoolView, IsLive, alone, chain_of, flat_bytes}
use Rattle.mbuf_chain.specs.Owners.{times_among, IsOwned, Moves}
use Rattle.mbuf_chain.specs.Frames.{SameAt}
use Rattle.mbuf_chain.specs.Train.{TrainView, QueuedPacket, no_queued_packet, queued_packets, queued_packet_at, numbers, IsHeld}
use Rattle.mbuf_chain.proofs.Laws.Owners.{times_other, moves_trans, moves_before, same_beside, owned_more, owned_after, apart_first}
use Rattle.mbuf_chain.proofs.Laws.Trains.{numbers_same, queued_packets_same, held_same, length-queued_packets}
use Rattle.ledger.specs.Accounts.{entries_weight}
use Rattle.sockbuf.specs.SockBuf.{Appended, SockBufView, IsSockBuf, IsDatagram, TakesOldest, queued_datagram, datagrams_of, datagrams, chains_of, datagram_from, sockaddr_in, address_entry, packet_from}
use Rattle.sockbuf.proofs.Fronts.{address_again}

-- ---- a step on a chain outside the queue

-- the train stays the same when a chain outside it becomes another
pub beside_one : {p q : PoolView} {c d : ℕ} (t : TrainView) → Moves p (c ∷ []) q (d ∷ [])
    → times_among c (numbers p t) ≡ 0
    → IsHeld p t → SameAt p q (numbers p t)
beside_one {p} {q} {c} {d} t m apart h =
    same_beside (numbers p t) m h.owned (λ k in_t. elim (cases_eq k c) [
      | inl e ↦ absurd (omega (arith, apart, in_t, ap (λ (j : ℕ). times_among j (numbers p t)) e))
      | inr ne ↦ times_other k c [] ne
    ])

pub held_beside : {p q : PoolView} {c d : ℕ} (t : TrainView) → Moves p (c ∷ []) q (d ∷ [])
    → times_among c (numbers p t) ≡ 0
    → IsHeld p t → IsHeld q t
held_beside {p} {q} t m apart h = held_same p q t (beside_one t m apart h) h

pub apart_beside : {p q : PoolView} {c d : ℕ} (t : TrainView) → Moves p (c ∷ []) q (d ∷ []) → IsLive p c
    → times_among c (numbers p t) ≡ 0 → IsHeld p t → times_among d (numbers q t) ≡ 0
apart_beside {p} {q} {c} {d} t m live apart h =
    let o : IsOwned p (c ∷ numbers p t) = owned_more p c (numbers p t) h.owned live apart in
    ap (times_among d) (numbers_same p q t (beside_one t m apart h))
    ∙ apart_first q d (numbers p t) (owned_after (moves_before (numbers p t) m) o)

-- ---- the shape of a queued chain
pub record Shape (es : List Entry) : Type 0 where
  pub front : Entry
  pub rest : List Entry
  pub is : es ≡ front ∷ rest
  pub address : front ≡ address_entry (sockaddr_in front.bytes)
  pub some : 0 < length rest

pub shape : (es : List Entry) → IsDatagram es → Shape es
shape [] h = absurd h
shape (e ∷ es) h = record { front = e; rest = es; is = refl; address = h.0; some = h.1 }

-- ---- sums
cc_of : (es : List Entry) → Shape es → (ds : List Datagram)
    → bytes_queued (queued_datagram es ∷ ds) ≡ length (flat_bytes es) + bytes_queued ds
cc_of es s ds =
    omega (
      arith,
      sum_by-cons (λ (d : Datagram). 16 + length d.item.bytes) (queued_datagram es) ds,
      ap (λ (l : List Entry). length (queued_datagram l).item.bytes) s.is,
      ap (λ (l : List Entry). length (flat_bytes l)) s.is,
      length-append s.front.bytes (flat_bytes s.rest),
      ap (λ (e : Entry). length e.bytes) s.address,
    )

mbcnt_of : (es : List Entry) → Shape es → (ds : List Datagram)
    → memory_queued (queued_datagram es ∷ ds) ≡ memory_of (entries_weight es) + memory_queued ds
mbcnt_of es s ds =
    let bag : (entries_weight (s.front ∷ s.rest)).bag ≡ (entries_weight s.rest).bag =
    ap (λ (e : Entry). (entries_weight (e ∷ s.rest)).bag) s.address in
    omega (
      arith,
      sum_by-cons (λ (d : Datagram). memory_of d.item.weight) (queued_datagram es) ds,
      ap (λ (l : List Entry). memory_of (queued_datagram l).item.weight) s.is,
      ap (λ (l : List Entry). memory_of (entries_weight l)) s.is,
      ap length bag,
    )

bytes_more : (ds : List Datagram) (d : Datagram)
    → bytes_queued (ds ++ d ∷ []) ≡ bytes_queued ds + (16 + length d.item.bytes)
bytes_more ds d =
    omega (
      arith,
      sum_by-append (λ (d : Datagram). 16 + length d.item.bytes) ds (d ∷ []),
      sum_by-cons (λ (d : Datagram). 16 + length d.item.bytes) d [],
    )

memory_more : (ds : List Datagram) (d : Datagram)
    → memory_queued (ds ++ d ∷ []) ≡ memory_queued ds + memory_of d.item.weight
memory_more ds d =
    omega (
      arith,
      sum_by-append (λ (d : Datagram). memory_of d.item.weight) ds (d ∷ []),
      sum_by-cons (λ (d : Datagram). memory_of d.item.weight) d [],
    )

-- ---- append
insert_end : {A : Type 0} (xs : List A) (n : ℕ) (x : A) → n ≡ length xs → insert xs n x ≡ xs ++ x ∷ []
insert_end xs n x e = ap (λ (k : ℕ). insert xs k x) e ∙ go xs
  where
    go : (ys : List _) → take (length ys) ys ++ x ∷ drop (length ys) ys ≡ ys ++ x ∷ []
    go [] = refl
    go (y ∷ ys) = ap (λ (l : List _). y ∷ l) (go ys)

each_end : (xs : List QueuedPacket) (x : QueuedPacket)
    → Each (λ (queued_packet : QueuedPacket). IsDatagram queued_packet.entries) xs → IsDatagram x.entries
    → Each (λ (queued_packet : QueuedPacket). IsDatagram queued_packet.entries) (xs ++ x ∷ [])
each_end [] x h here = (here, tt)
each_end (y ∷ ys) x h here = (h.0, each_end ys x h.1 here)

-- chain c became chain d, with the address prepended, and d was appended to the queue
pub record IsPutIn (p : PoolView) (b : SockBufView) (c d : ℕ) (a : Addr) (q r : PoolView) (u : TrainView) : Type 0 where
  pub live : IsLive p c
  pub some : 0 < length (chain_of p c).entries
  pub apart : times_among c (chains_of p b) ≡ 0
  pub entries : (chain_of q d).entries ≡ address_entry a ∷ (chain_of p c).entries
  pub made : Moves p (c ∷ []) q (d ∷ [])
  pub queued_packets : queued_packets r u
      ≡ insert (queued_packets q b.train) b.train.len (record { number = d; entries = (chain_of q d).entries; tag = 0 })
  pub held : IsHeld r u
  pub moves : Moves q (d ∷ numbers q b.train) r (numbers r u)

pub appended : {p q r : PoolView} {b : SockBufView} {u : TrainView} {c d : ℕ} {a : Addr} (cc mbcnt : ℕ) → IsSockBuf p b
    → IsPutIn p b c d a q r u
    → cc ≡ b.cc + (16 + length (flat_bytes (chain_of p c).entries))
    → mbcnt ≡ b.mbcnt + (128 + memory_of (entries_weight (chain_of p c).entries))
    → Appended p b c a r (record { train = u; cc = cc; mbcnt = mbcnt })
appended {p} {q} {r} {b} {u} {c} {d} {a} cc mbcnt ready i is_cc is_mbcnt =
    let t : TrainView = b.train in
    let same : SameAt p q (numbers p t) = beside_one t i.made i.apart ready.held in
    let es : List Entry = (chain_of p c).entries in
    let new : QueuedPacket = packet_from d a es in
    let all : queued_packets r u ≡ queued_packets p t ++ new ∷ [] =
    i.queued_packets ∙ ap (λ (cs : List QueuedPacket). insert cs t.len
    (record { number = d; entries = (chain_of q d).entries; tag = 0 })) (queued_packets_same p q t same)
    ∙ insert_end (queued_packets p t) t.len (record { number = d; entries = (chain_of q d).entries; tag = 0 })
    (sym (length-queued_packets p t ready.held))
    ∙ ap (λ (l : List Entry). queued_packets p t ++ record { number = d; entries = l; tag = 0 } ∷ []) i.entries in
    let queued : datagrams_of (queued_packets r u) ≡ datagrams p b ++ datagram_from a p c ∷ [] =
    ap datagrams_of all
    ∙ map-append (λ (queued_packet : QueuedPacket). queued_datagram queued_packet.entries) (queued_packets p t)
    (new ∷ [])
    ∙ ap (λ (x : Addr). datagrams p b ++ record (datagram_from a p c) { sender = x } ∷ []) (address_again a) in
    record {
      datagrams = queued;
      newest = (d, all);
      ready = record {
        held = i.held;
        each =
            subst (λ (cs : List QueuedPacket). Each (λ (queued_packet : QueuedPacket). IsDatagram queued_packet.entries)
            cs) (sym all)
            (each_end (queued_packets p t) new ready.each (ap address_entry (sym (address_again a)), i.some));
        cc = omega (arith, is_cc, ap bytes_queued queued, bytes_more (datagrams p b) (datagram_from a p c), ready.cc);
        mbcnt =
            omega (
              arith,
              is_mbcnt,
              ap memory_queued queued,
              memory_more (datagrams p b) (datagram_from a p c),
              ready.mbcnt,
            );
      };
      moves =
          moves_trans (moves_before (numbers p t) i.made)
          (subst (λ (xs : List ℕ). Moves q (d ∷ xs) r (numbers r u)) (numbers_same p q t same) i.moves);
    }

-- ---- take
-- the first chain of the train was taken out, under number c
pub record IsTakenOut (p : PoolView) (b : SockBufView) (c tag : ℕ) (q : PoolView) (u : TrainView) : Type 0 where
  pub some : 0 < b.train.len
  pub queued_packets : queued_packets q u ≡ remove (queued_packets p b.train) 0
  pub taken : queued_packet_at p b.train 0 ≡ record { number = c; entries = (chain_of q c).entries; tag = tag }
  pub held : IsHeld q u
  pub moves : Moves p (numbers p b.train) q (c ∷ numbers q u)

pub record Oldest (p : PoolView) (b : SockBufView) (c : ℕ) (q : PoolView) (u : TrainView) : Type 0 where
  pub shape : Shape (chain_of q c).entries
  pub datagrams : datagrams p b ≡ queued_datagram (chain_of q c).entries ∷ datagrams_of (queued_packets q u)
  pub each : Each (λ (queued_packet : QueuedPacket). IsDatagram queued_packet.entries) (queued_packets q u)
  pub cc : b.cc ≡ length (flat_bytes (chain_of q c).entries) + bytes_queued (datagrams_of (queued_packets q u))
  pub mbcnt : b.mbcnt ≡ memory_of (entries_weight (chain_of q c).entries)
      + memory_queued (datagrams_of (queued_packets q u))

pub oldest : {p q : PoolView} {b : SockBufView} {u : TrainView} {c tag : ℕ} → IsSockBuf p b → IsTakenOut p b c tag q u
    → Oldest p b c q u
oldest {p} {q} {b} {u} {c} {tag} ready i = go (queued_packets p b.train) refl ready.each
  where
    go : (cs : List QueuedPacket) → queued_packets p b.train ≡ cs
        → Each (λ (queued_packet : QueuedPacket). IsDatagram queued_packet.entries) cs → Oldest p b c q u
    go [] e each = absurd (omega (arith, length-queued_packets p b.train ready.held, i.some, ap length e))
    go (x ∷ xs) e each =
        let is_x : x.entries ≡ (chain_of q c).entries =
        ap (λ (y : QueuedPacket). y.entries)
        (sym (ap (λ (cs : List QueuedPacket). slice_index_or cs 0 no_queued_packet) e) ∙ i.taken) in
        let left : queued_packets q u ≡ xs = i.queued_packets ∙ ap (λ (cs : List QueuedPacket). remove cs 0) e in
        let s : Shape (chain_of q c).entries = subst Shape is_x (shape x.entries each.0) in
        let queued : datagrams p b ≡ queued_datagram (chain_of q c).entries ∷ datagrams_of (queued_packets q u) =
        ap datagrams_of e ∙ (λ j. queued_datagram (is_x j) ∷ datagrams_of (sym left j)) in
        record {
          shape = s;
          datagrams = queued;
          each =
              subst (λ (cs : List QueuedPacket). Each
              (λ (queued_packet : QueuedPacket). IsDatagram queued_packet.entries)
              cs) (sym left) each.1;
          cc = ready.cc ∙ ap bytes_queued queued ∙ cc_of (chain_of q c).entries s (datagrams_of (queued_packets q u));
          mbcnt =
              ready.mbcnt ∙ ap memory_queued queued
              ∙ mbcnt_of (chain_of q c).entries s (datagrams_of (queued_packets q u));
        }

no_more : (cs : List QueuedPacket) → length cs ≡ 0 → cs ≡ []
no_more [] e = refl
no_more (c ∷ cs) e = absurd (omega arith)

-- the counts of a queue with one datagram
pub record LastOne (b : SockBufView) (es : List Entry) : Type 0 where
  pub cc : b.cc ≡ length (flat_bytes es)
  pub mbcnt : b.mbcnt ≡ memory_of (entries_weight es)

pub last_one : {p q : PoolView} {b : SockBufView} {u : TrainView} {c tag : ℕ} → IsSockBuf p b → IsTakenOut p b c tag q u
    → u.len ≡ 0 → LastOne b (chain_of q c).entries
last_one {p} {q} {b} {u} {c} {tag} ready i none =
    let o : Oldest p b c q u = oldest ready i in
    let left : queued_packets q u ≡ [] = no_more (queued_packets q u) (length-queued_packets q u i.held ∙ none) in
    record {
      cc = omega (arith, o.cc, ap (λ (cs : List QueuedPacket). bytes_queued (datagrams_of cs)) left);
      mbcnt = omega (arith, o.mbcnt, ap (λ (cs : List QueuedPacket). memory_queued (datagrams_of cs)) left);
    }

-- the sender's address, in the first mbuf
pub record Address (p : PoolView) (c : ℕ) (i : ℕ) : Type 0 where
  pub sixteen : (bytes : List ℕ)
      → bytes ≡ (slice_index_or (chain_of p c).entries i (record { bytes = []; start = 0; cluster = None })).bytes
      → length bytes ≡ 16
  pub sender : (bytes : List ℕ) → bytes
      ≡ (slice_index_or (chain_of p c).entries i (record { bytes = []; start = 0; cluster = None })).bytes
      → sockaddr_in bytes ≡ (queued_datagram (chain_of p c).entries).sender

pub address : {p : PoolView} {c : ℕ} (i : ℕ) → Shape (chain_of p c).entries → i ≡ 0 → Address p c i
address {p} {c} i s first =
    let is_front : slice_index_or (chain_of p c).entries i (record { bytes = []; start = 0; cluster = None })
    ≡ s.front = λ j. slice_index_or (s.is j) (first j) (record { bytes = []; start = 0; cluster = None }) in
    record {
      sixteen =
          λ bytes e. ap length e ∙ ap (λ (x : Entry). length x.bytes) is_front
          ∙ ap (λ (x : Entry). length x.bytes) s.address;
      sender =
          λ bytes e. ap sockaddr_in e ∙ ap (λ (x : Entry). sockaddr_in x.bytes) is_front
          ∙ ap (λ (l : List Entry). (queued_datagram l).sender) (sym s.is);
    }

pub record Taken (p : PoolView) (b : SockBufView) (sender : Addr) (d : ℕ) (r : PoolView) (e : SockBufView) : Type 0
  where
    pub takes : TakesOldest p b sender d r e
    pub ready : IsSockBuf r e

-- the first mbuf was removed from chain c, which is chain d now
pub taken : {p q r : PoolView} {b : SockBufView} {u : TrainView} {c d tag : ℕ} (sender : Addr) (cc mbcnt : ℕ)
    → IsSockBuf p b → IsTakenOut p b c tag q u
    → (chain_of r d).entries ≡ drop 1 (chain_of q c).entries → (chain_of r d).front ≡ alone false
    → Moves q (c ∷ []) r (d ∷ []) → sender ≡ (queued_datagram (chain_of q c).entries).sender
    → cc ≡ b.cc - length (flat_bytes (chain_of q c).entries)
    → mbcnt ≡ b.mbcnt - memory_of (entries_weight (chain_of q c).entries)
    → Taken p b sender d r (record { train = u; cc = cc; mbcnt = mbcnt })
taken {p} {q} {r} {b} {u} {c} {d} sender cc mbcnt ready i entries front m is_sender is_cc is_mbcnt =
    let o : Oldest p b c q u = oldest ready i in
    let s : Shape (chain_of q c).entries = o.shape in
    let apart : times_among c (numbers q u) ≡ 0 =
    apart_first q c (numbers q u) (owned_after i.moves ready.held.owned) in
    let same : SameAt q r (numbers q u) = beside_one u m apart i.held in
    let kept : queued_packets r u ≡ queued_packets q u = queued_packets_same q r u same in
    let rest : (chain_of r d).entries ≡ s.rest = entries ∙ ap (drop 1) s.is in
    let first : queued_datagram (chain_of q c).entries ≡ datagram_from sender r d =
    ap (λ (a : Addr). record (queued_datagram (chain_of q c).entries) { sender = a }) (sym is_sender)
    ∙ ap (λ (l : List Entry). record (queued_datagram l) { sender = sender }) s.is
    ∙ ap (λ (l : List Entry). record
    { sender = sender; item = record { bytes = flat_bytes l; weight = mbuf ⊕ entries_weight l } }) (sym rest) in
    record {
      takes = record {
        datagrams = o.datagrams ∙ (λ j. first j ∷ datagrams_of (sym kept j));
        front = front;
        moves =
            subst (λ (xs : List ℕ). Moves p (numbers p b.train) r (d ∷ xs)) (sym (numbers_same q r u same))
            (moves_trans i.moves (moves_before (numbers q u) m));
      };
      ready = record {
        held = held_same q r u same i.held;
        each =
            subst (λ (cs : List QueuedPacket). Each (λ (queued_packet : QueuedPacket). IsDatagram queued_packet.entries)
            cs) (sym kept) o.each;
        cc = omega (arith, is_cc, o.cc, ap (λ (cs : List QueuedPacket). bytes_queued (datagrams_of cs)) kept);
        mbcnt = omega (arith, is_mbcnt, o.mbcnt, ap (λ (cs : List QueuedPacket). memory_queued (datagrams_of cs)) kept);
      };
    }

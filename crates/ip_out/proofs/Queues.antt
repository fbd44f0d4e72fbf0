-- Moving packets from a train to the end of the output queue.
use Rattle.std.proofs.Common.{◌≡◌, ℕ, zero, suc, ◌+◌, ◌<◌, ◌≤◌, List, [], ◌∷◌, ◌++◌, length, take, map, None, refl, sym, ap, ◌∙◌, subst, arith, inl, inr}
use Rattle.std.specs.Prelude.{nat_lt, slice_index_or, ◌⊎◌}
use Rattle.std.specs.List.{insert, remove}
use Rattle.std.proofs.lemmas.Bool.{lt-ltb, le-ltb}
use Rattle.std.proofs.lemmas.List.{map-append, length-map, length-append, append_assoc}
use Rattle.std.proofs.lemmas.List.Edits.{insert_end}
use Rattle.params.specs.declared.TheConstants.{OUTPUT_QUEUE_PACKETS}
use Rattle.flat_model.specs.Amounts.Weight.{Item}
use Rattle.mbuf_chain.specs.Chain.{Entry, PoolView, IsLive, chain_of, entry_of, no_entry}
use Rattle.mbuf_chain.specs.Owners.{Moves, IsOwned, times_among}
use Rattle.mbuf_chain.specs.Train.{TrainView, QueuedPacket, no_queued_packet, queued_packet_of, queued_packets, queued_packet_at, numbers, IsHeld}
use Rattle.mbuf_chain.proofs.Laws.Owners.{moves_trans, moves_beside, owned_beside, times-append, live_at_most, live_owned, times_same}
use Rattle.mbuf_chain.proofs.Laws.Trains.{Beside, beside_moves, length-queued_packets, none_left}
use Rattle.ledger.specs.Accounts.{item_of}
use Rattle.ip_out.specs.Packets.{train_packets, AreBegunPlain, BeginPlain}
use Rattle.ip_out.specs.Inside.{IsMoving}
use Rattle.ip_out.proofs.Outputs.{plain_more}

pub packets_len : (p : PoolView) (t : TrainView) → IsHeld p t → length (train_packets p t) ≡ t.len
packets_len p t h =
    length-map (queued_packets p t) (λ (queued_packet : QueuedPacket). item_of queued_packet.entries)
    ∙ length-queued_packets p t h

-- a packet was removed from the train
pub record IsTaken (p : PoolView) (t u : TrainView) (r : PoolView) (t' u'' : TrainView) (c : ℕ) : Type 0 where
  pub live : IsLive r c
  pub beside : IsHeld r t'
  pub apart : times_among c (numbers r t') ≡ 0
  pub rest : IsHeld r u''
  pub owned : IsOwned r (numbers r u'' ++ (c ∷ numbers r t'))
  pub moves : Moves p (numbers p t ++ numbers p u) r (numbers r u'' ++ (c ∷ numbers r t'))
  pub items : train_packets r t' ++ item_of (chain_of r c).entries ∷ train_packets r u''
      ≡ train_packets p t ++ train_packets p u
  pub plain : BeginPlain p t → BeginPlain p u
      → BeginPlain r t' × ((entry_of (chain_of r c) 0).cluster ≡ None) × BeginPlain r u''

pub first_out : (p r : PoolView) (u u' : TrainView) (c tag : ℕ) → IsHeld p u → 0 < u.len
    → queued_packets r u' ≡ remove (queued_packets p u) 0
    → queued_packet_at p u 0 ≡ record { number = c; entries = (chain_of r c).entries; tag = tag }
    → train_packets p u ≡ item_of (chain_of r c).entries ∷ train_packets r u'
first_out p r u u' c tag held some left is = go (queued_packets p u) refl
  where
    go : (xs : List QueuedPacket) → queued_packets p u ≡ xs
        → train_packets p u ≡ item_of (chain_of r c).entries ∷ train_packets r u'
    go [] e = absurd (omega (arith, length-queued_packets p u held, some, ap length e))
    go (x ∷ xs) e =
        let one : item_of x.entries ≡ item_of (chain_of r c).entries =
        ap (λ (y : QueuedPacket). item_of y.entries)
        (sym (ap (λ (cs : List QueuedPacket). slice_index_or cs 0 no_queued_packet) e) ∙ is) in
        let more : xs ≡ queued_packets r u' = sym (left ∙ ap (λ (cs : List QueuedPacket). remove cs 0) e) in
        ap (map (λ (queued_packet : QueuedPacket). item_of queued_packet.entries)) e
        ∙ (λ i. one i ∷ map (λ (queued_packet : QueuedPacket). item_of queued_packet.entries) (more i))

-- if all packets begin in a plain mbuf, so do the first and the others
pub plain_out : (p r : PoolView) (u u' : TrainView) (c tag : ℕ) → IsHeld p u → 0 < u.len
    → queued_packets r u' ≡ remove (queued_packets p u) 0
    → queued_packet_at p u 0 ≡ record { number = c; entries = (chain_of r c).entries; tag = tag }
    → BeginPlain p u → ((entry_of (chain_of r c) 0).cluster ≡ None) × BeginPlain r u'
plain_out p r u u' c tag held some left is plain = go (queued_packets p u) refl plain
  where
    go : (xs : List QueuedPacket) → queued_packets p u ≡ xs → AreBegunPlain xs
        → ((entry_of (chain_of r c) 0).cluster ≡ None) × BeginPlain r u'
    go [] e begun = absurd (omega (arith, length-queued_packets p u held, some, ap length e))
    go (x ∷ xs) e begun =
        let one : x.entries ≡ (chain_of r c).entries =
        ap (λ (y : QueuedPacket). y.entries)
        (sym (ap (λ (cs : List QueuedPacket). slice_index_or cs 0 no_queued_packet) e) ∙ is) in
        let more : xs ≡ queued_packets r u' = sym (left ∙ ap (λ (cs : List QueuedPacket). remove cs 0) e) in (
          ap (λ (es : List Entry). (slice_index_or es 0 no_entry).cluster) (sym one)
              ∙ begun.0,
          subst AreBegunPlain more begun.1,
        )

pub takes : (p q r : PoolView) (t u t' u' u'' : TrainView) (c tag : ℕ) → IsMoving p t u q t' u' → 0 < u'.len
    → queued_packets r u'' ≡ remove (queued_packets q u') 0
    → queued_packet_at q u' 0 ≡ record { number = c; entries = (chain_of r c).entries; tag = tag }
    → IsHeld r u'' → Moves q (numbers q u') r (c ∷ numbers r u'') → IsTaken p t u r t' u'' c
takes p q r t u t' u' u'' c tag m some left is held moves =
    let b : Beside q r t' = beside_moves t' moves m.owned m.queue in
    let whole : IsOwned r (numbers q t' ++ (c ∷ numbers r u'')) = owned_beside (numbers q t') moves m.owned in
    let same : (k : ℕ) → times_among k (numbers r t') ≡ times_among k (numbers q t') =
    λ k. ap (times_among k) b.numbers in
    let all : (k : ℕ) → times_among k (numbers r u'' ++ (c ∷ numbers r t'))
    ≡ times_among k (numbers q t' ++ (c ∷ numbers r u'')) =
    λ k. omega (
      arith,
      times-append k (numbers r u'') (c ∷ numbers r t'),
      times-append k (numbers q t') (c ∷ numbers r u''),
      same k,
    ) in
    let here : (k : ℕ) → times_among k (c ∷ numbers r u'') ≤ times_among k (numbers q t' ++ (c ∷ numbers r u'')) =
    λ k. omega (arith, times-append k (numbers q t') (c ∷ numbers r u'')) in
    record {
      live =
          live_owned r (numbers q t' ++ (c ∷ numbers r u'')) c whole
          (omega (arith, times-append c (numbers q t') (c ∷ numbers r u''), times_same c (numbers r u'')));
      beside = b.held;
      apart =
          omega (
            arith,
            whole c,
            live_at_most r c,
            times-append c (numbers q t') (c ∷ numbers r u''),
            times_same c (numbers r u''),
            same c,
          );
      rest = held;
      owned = λ k. omega (arith, all k, whole k);
      moves =
          moves_trans m.moves (moves_beside (numbers q t' ++ numbers q u') (numbers r u'' ++ (c ∷ numbers r t'))
          (numbers q t') moves
          (λ k. times-append k (numbers q t') (numbers q u'))
          (λ k. all k ∙ times-append k (numbers q t') (c ∷ numbers r u'')));
      items =
          (λ i. map (λ (queued_packet : QueuedPacket). item_of queued_packet.entries) (b.queued_packets i)
          ++ (sym (first_out q r u' u'' c tag m.rest some left is)) i) ∙ m.items;
      plain = λ queue more.
          let before = m.plain queue more in
          let first = plain_out q r u' u'' c tag m.rest some left is before.1 in
          (subst AreBegunPlain (sym b.queued_packets) before.0, first.0, first.1);
    }

pub puts : (p r s : PoolView) (t u t' u'' w : TrainView) (c : ℕ) → IsTaken p t u r t' u'' c
    → t'.len < OUTPUT_QUEUE_PACKETS
    → queued_packets s w ≡ insert (queued_packets r t') t'.len
    (record { number = c; entries = (chain_of r c).entries; tag = 0 })
    → IsHeld s w → w.len ≡ t'.len + 1 → Moves r (c ∷ numbers r t') s (numbers s w) → IsMoving p t u s w u''
puts p r s t u t' u'' w c m few is held len moves =
    let f : QueuedPacket → Item = λ queued_packet. item_of queued_packet.entries in
    let x : QueuedPacket = record { number = c; entries = (chain_of r c).entries; tag = 0 } in
    let b : Beside r s u'' = beside_moves u'' moves m.owned m.rest in
    let whole : IsOwned s (numbers r u'' ++ numbers s w) = owned_beside (numbers r u'') moves m.owned in
    let queued_packets_are : queued_packets s w ≡ queued_packets r t' ++ x ∷ [] =
    is ∙ ap (λ (k : ℕ). insert (queued_packets r t') k x) (sym (length-queued_packets r t' m.beside))
    ∙ insert_end (queued_packets r t') x in
    let items_are : train_packets s w ≡ train_packets r t' ++ f x ∷ [] =
    ap (map f) queued_packets_are ∙ map-append f (queued_packets r t') (x ∷ []) in
    let all : (k : ℕ) → times_among k (numbers s w ++ numbers s u'') ≡ times_among k (numbers r u'' ++ numbers s w) =
    λ k. omega (
      arith,
      times-append k (numbers s w) (numbers s u''),
      times-append k (numbers r u'') (numbers s w),
      ap (times_among k) b.numbers,
    ) in
    record {
      queue = held;
      rest = b.held;
      owned = λ k. omega (arith, all k, whole k);
      moves =
          moves_trans m.moves (moves_beside (numbers r u'' ++ (c ∷ numbers r t')) (numbers s w ++ numbers s u'')
          (numbers r u'') moves
          (λ k. times-append k (numbers r u'') (c ∷ numbers r t'))
          (λ k. all k ∙ times-append k (numbers r u'') (numbers s w)));
      items =
          (λ i. items_are i ++ map f (b.queued_packets i))
          ∙ append_assoc (train_packets r t') (f x ∷ []) (train_packets r u'')
          ∙ m.items;
      plain = λ queue more.
          let before = m.plain queue more in (
            subst AreBegunPlain (sym queued_packets_are) (plain_more (queued_packets r t') x before.0 before.1),
            subst AreBegunPlain (sym b.queued_packets) before.2,
          );
      room = omega (arith, len, few);
    }

pub none_wait : (p : PoolView) (t : TrainView) → t.len ≡ 0 → train_packets p t ≡ []
none_wait p t e =
    ap (λ (xs : List ℕ). map (λ (queued_packet : QueuedPacket). item_of queued_packet.entries)
    (map (queued_packet_of p) xs)) (none_left p t e)

-- ---- the end: the rest is freed
pub taken_50 : (xs ys : List Item) → length xs ≤ OUTPUT_QUEUE_PACKETS
    → (length ys ≡ 0) ⊎ (length xs ≡ OUTPUT_QUEUE_PACKETS) → take OUTPUT_QUEUE_PACKETS (xs ++ ys) ≡ xs
taken_50 xs ys le h = go OUTPUT_QUEUE_PACKETS xs ys le h
  where
    go : (n : ℕ) (xs ys : List Item) → length xs ≤ n → (length ys ≡ 0) ⊎ (length xs ≡ n) → take n (xs ++ ys) ≡ xs
    go zero [] ys le h = refl
    go zero (x ∷ xs) ys le h = absurd (omega arith)
    go (suc n) [] [] le h = refl
    go (suc n) [] (y ∷ ys) le h = absurd (omega (arith, h))
    go (suc n) (x ∷ xs) ys le h = ap (λ (zs : List Item). x ∷ zs) (go n xs ys (omega arith) (elim h [
      | inl e ↦ inl e
      | inr e ↦ inr (omega (arith, e))
    ]))

pub record IsEnqueued (p : PoolView) (t u : TrainView) (s : PoolView) (w : TrainView) : Type 0 where
  pub queue : IsHeld s w
  pub items : train_packets s w ≡ take OUTPUT_QUEUE_PACKETS (train_packets p t ++ train_packets p u)
  pub plain : BeginPlain p t → BeginPlain p u → BeginPlain s w
  pub moves : Moves p (numbers p t ++ numbers p u) s (numbers s w)

pub enqueued : (p q s : PoolView) (t u t' u' : TrainView) → IsMoving p t u q t' u'
    → (u'.len ≡ 0) ⊎ (t'.len ≡ OUTPUT_QUEUE_PACKETS) → Moves q (numbers q u') s [] → IsEnqueued p t u s t'
enqueued p q s t u t' u' m ends freed =
    let b : Beside q s t' = beside_moves t' freed m.owned m.queue in
    let f : QueuedPacket → Item = λ queued_packet. item_of queued_packet.entries in
    record {
      queue = b.held;
      items =
          ap (map f) b.queued_packets ∙ sym
          (ap (take OUTPUT_QUEUE_PACKETS) (sym m.items)
          ∙ taken_50 (train_packets q t') (train_packets q u') (omega (arith, packets_len q t' m.queue, m.room))
          (elim ends [
            | inl e ↦ inl (omega (arith, packets_len q u' m.rest, e))
            | inr e ↦ inr (omega (arith, packets_len q t' m.queue, e))
          ]));
      plain = λ queue more. subst AreBegunPlain (sym b.queued_packets) (m.plain queue more).0;
      moves = moves_trans m.moves (moves_beside (numbers q t' ++ numbers q u') (numbers s t') (numbers q t') freed
          (λ k. times-append k (numbers q t') (numbers q u')) (λ k. omega (arith, ap (times_among k) b.numbers)));
    }

pub full_is : (p q : PoolView) (t u t' u' : TrainView) → IsMoving p t u q t' u'
    → (u'.len ≡ 0) ⊎ (t'.len ≡ OUTPUT_QUEUE_PACKETS)
    → nat_lt 0 u'.len ≡ nat_lt OUTPUT_QUEUE_PACKETS (length (train_packets p t ++ train_packets p u))
full_is p q t u t' u' m ends = go u'.len refl
  where
    total : length (train_packets p t ++ train_packets p u) ≡ t'.len + u'.len
    total =
        omega (
          arith,
          ap (λ (xs : List Item). length xs) m.items,
          length-append (train_packets q t') (train_packets q u'),
          packets_len q t' m.queue,
          packets_len q u' m.rest,
        )

    go : (k : ℕ) → u'.len ≡ k → nat_lt 0 k
        ≡ nat_lt OUTPUT_QUEUE_PACKETS (length (train_packets p t ++ train_packets p u))
    go zero e =
        sym (le-ltb OUTPUT_QUEUE_PACKETS (length (train_packets p t ++ train_packets p u))
        (omega (arith, total, e, m.room)))
    go (suc k) e =
        lt-ltb 0 (suc k) (omega arith)
        ∙ sym (lt-ltb OUTPUT_QUEUE_PACKETS (length (train_packets p t ++ train_packets p u))
        (omega (arith, total, e, ends)))

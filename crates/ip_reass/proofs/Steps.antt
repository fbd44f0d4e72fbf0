-- Steps of a train of fragments, as edits of a list.
use Rattle.std.proofs.Common.{◌≡◌, ℕ, zero, suc, ◌+◌, ◌-◌, ◌*◌, ◌/◌, ◌%◌, ◌<◌, ◌≤◌, eqb, List, [], ◌∷◌, ◌++◌, length, map, set, take, drop, insert, remove, refl, sym, ap, ◌∙◌, subst, arith}
use Rattle.std.proofs.lemmas.Bool.{cond-true, cond-false, le-leb, lt-leb}
use Rattle.std.proofs.lemmas.List.{get_or-map, drop_all, set_split, length-map, take-append-drop}
use Rattle.flat_model.specs.Fragments.Overlay.{Fragment}
use Rattle.mbuf_chain.specs.Chain.{Entry, flat_bytes, ChainView, PoolView, IsLive, chain_of, with_chain}
use Rattle.mbuf_chain.specs.Owners.{IsOwned, times_among, Moves}
use Rattle.mbuf_chain.specs.Train.{TrainView, QueuedPacket, no_queued_packet, queued_packet_at, numbers, queued_packets, IsHeld}
use Rattle.mbuf_chain.proofs.Laws.Owners.{apart_first, live_first, moves_trans, moves_beside, moves_with, live_with, shown_with}
use Rattle.mbuf_chain.proofs.Laws.Trains.{Beside, beside_with, FreedPacket, length-queued_packets}
use Rattle.chain_ops.specs.Trims.{without_first}
use Rattle.ip_reass.specs.Fragments.{QueuedFragment, queued_of, queued, queued_end, cut, cut_to, fragment_of, fragment_in, fragments, end_of_fragment, AllEnd}
use Rattle.ip_reass.specs.Inside.Walks.{queued_at, no_queued, fragment_at}
use Rattle.ip_reass.proofs.Walks.{fragment_is}
use Rattle.ip_reass.proofs.Edits.{insert_remove, take-remove, drop-remove, map-remove, map-insert}

-- ---- fragments by place
pub length-queued : (p : PoolView) (t : TrainView) → IsHeld p t → length (queued p t) ≡ t.len
length-queued p t h = length-map (queued_packets p t) queued_of ∙ length-queued_packets p t h

pub queued_is : (p : PoolView) (t : TrainView) (i : ℕ) → IsHeld p t → i < t.len
    → queued_at (queued p t) i ≡ queued_of (queued_packet_at p t i)
queued_is p t i h l =
    get_or-map queued_of (queued_packets p t) i no_queued_packet no_queued (omega (arith, length-queued_packets p t h))

-- the begin and the end of a fragment
pub begin_is : (p : PoolView) (t : TrainView) (i : ℕ) → IsHeld p t → i < t.len
    → (queued_at (queued p t) i).offset ≡ (fragment_at (fragments p t) i).offset
begin_is p t i h l =
    ap (λ (q : QueuedFragment). q.offset) (queued_is p t i h l)
    ∙ ap (λ (f : Fragment). f.offset) (sym (fragment_is p t i h l))

pub end_is : (p : PoolView) (t : TrainView) (i b n : ℕ) → IsHeld p t → i < t.len → b ≡ (queued_at (queued p t) i).offset
    → n ≡ length (flat_bytes (queued_packet_at p t i).entries) → b + n ≡ end_of_fragment (fragment_at (fragments p t) i)
end_is p t i b n h l e f =
    omega (arith, begin_is p t i h l, e, f, ap (λ (g : Fragment). length g.bytes) (fragment_is p t i h l))

-- the fragments of a queue
pub fragments_are : (p : PoolView) (t : TrainView) → fragments p t ≡ map fragment_of (queued p t)
fragments_are p t = go (queued_packets p t)
  where
    go : (cs : List QueuedPacket) → map fragment_in cs ≡ map fragment_of (map queued_of cs)
    go [] = refl
    go (queued_packet ∷ cs) = ap (λ (fs : List Fragment). fragment_in queued_packet ∷ fs) (go cs)

abbrev pub AllWithin : ℕ → List QueuedFragment → Type 0
AllWithin n [] = Unit {0}
AllWithin n (q ∷ qs) = (queued_end q ≤ n) × AllWithin n qs

pub end_at : (n : ℕ) (qs : List QueuedFragment) (i : ℕ) → AllWithin n qs → i < length qs
    → queued_end (queued_at qs i) ≤ n
end_at n [] i a l = absurd (omega arith)
end_at n (q ∷ qs) zero a l = a.0
end_at n (q ∷ qs) (suc i) a l = end_at n qs i a.1 (omega arith)

pub within_of : (n : ℕ) (p : PoolView) (t : TrainView) → AllEnd n (fragments p t) → AllWithin n (queued p t)
within_of n p t a = go (queued_packets p t) a
  where
    go : (cs : List QueuedPacket) → AllEnd n (map fragment_in cs) → AllWithin n (map queued_of cs)
    go [] a = tt
    go (queued_packet ∷ cs) a = (a.0, go cs a.1)

pub queued_cut : (c n tag : ℕ) (es : List Entry)
    → queued_of (record { number = c; entries = without_first n es; tag = tag + 2 * n })
    ≡ cut n (queued_of (record { number = c; entries = es; tag = tag }))
queued_cut c n tag es =
    let half : (tag + 2 * n) / 2 ≡ tag / 2 + n = omega arith in
    let odd : (tag + 2 * n) % 2 ≡ tag % 2 = omega arith in
    λ i. record { offset = half i; more = eqb (odd i) 1; entries = without_first n es }

-- ---- a fragment is freed
pub queue_freed : (p q r : PoolView) (t u : TrainView) (i : ℕ) → FreedPacket p t q r u
    → queued_packets q u ≡ remove (queued_packets p t) i → queued r u ≡ remove (queued p t) i
queue_freed p q r t u i f gone =
    ap (map queued_of) (f.queued_packets ∙ gone) ∙ map-remove queued_of (queued_packets p t) i

pub fragments_freed : (p r : PoolView) (t u : TrainView) (i : ℕ) → queued r u ≡ remove (queued p t) i
    → fragments r u ≡ remove (fragments p t) i
fragments_freed p r t u i e =
    fragments_are r u ∙ (ap (map fragment_of) e
    ∙ (map-remove fragment_of (queued p t) i ∙ ap (λ (fs : List Fragment). remove fs i) (sym (fragments_are p t))))

-- ---- a chain outside the train changed
pub record Changed (q : PoolView) (u : TrainView) (c : ℕ) (v : ChainView) (r : PoolView) : Type 0 where
  pub live : IsLive r c
  pub shown : chain_of r c ≡ v
  pub held : IsHeld r u
  pub apart : times_among c (numbers r u) ≡ 0
  pub queued_packets_are : queued_packets r u ≡ queued_packets q u
  pub moves : Moves q (c ∷ numbers q u) r (c ∷ numbers r u)

pub changed : {q r : PoolView} {u : TrainView} {c : ℕ} {v : ChainView} → IsLive q c → times_among c (numbers q u) ≡ 0
    → IsHeld q u → r ≡ with_chain q c v → Changed q u c v r
changed {q} {r} {u} {c} {v} live apart holds is =
    let b : Beside q r u = beside_with q r c v u is apart holds in
    record {
      live = live_with q r c v c is live;
      shown = shown_with q r c v is;
      held = b.held;
      apart = ap (times_among c) b.numbers ∙ apart;
      queued_packets_are = b.queued_packets;
      moves =
          moves_beside (c ∷ numbers q u) (c ∷ numbers r u) (numbers q u) (moves_with q r c v live is) (λ k. omega arith)
          (λ k. omega (arith, ap (times_among k) b.numbers));
    }

pub changed_first : {q r : PoolView} {u : TrainView} {c : ℕ} {v : ChainView} → IsOwned q (c ∷ numbers q u)
    → IsHeld q u → r ≡ with_chain q c v → Changed q u c v r
changed_first {q} {r} {u} {c} owned holds is =
    changed (live_first q c (numbers q u) owned) (apart_first q c (numbers q u) owned) holds is

-- ---- a fragment is cut
pub record Trimmed (p : PoolView) (t : TrainView) (i n : ℕ) (s : PoolView) (w : TrainView) : Type 0 where
  pub queue_is : queued s w ≡ set (queued p t) i (cut n (queued_at (queued p t) i))
  pub moves : Moves p (numbers p t) s (numbers s w)

pub trimmed_at : {p q r s : PoolView} {t u w : TrainView} {c i n tag : ℕ} → i < t.len → IsHeld p t
    → queued_packets q u ≡ remove (queued_packets p t) i
    → queued_packet_at p t i ≡ record { number = c; entries = (chain_of q c).entries; tag = tag }
    → Moves p (numbers p t) q (c ∷ numbers q u)
    → Changed q u c (record (chain_of q c) { entries = without_first n (chain_of q c).entries }) r
    → queued_packets s w ≡ insert (queued_packets r u) i
    (record { number = c; entries = (chain_of r c).entries; tag = tag + 2 * n })
    → Moves r (c ∷ numbers r u) s (numbers s w) → Trimmed p t i n s w
trimmed_at {p} {q} {r} {s} {t} {u} {w} {c} {i} {n} {tag} place held gone took moved change put moves =
    let within : i < length (queued_packets p t) = omega (arith, length-queued_packets p t held) in
    let within' : i < length (queued p t) = omega (arith, length-queued p t held) in
    let was : queued_at (queued p t) i
    ≡ queued_of (record { number = c; entries = (chain_of q c).entries; tag = tag }) =
    queued_is p t i held place ∙ ap queued_of took in
    let is : queued_of (record { number = c; entries = (chain_of r c).entries; tag = tag + 2 * n })
    ≡ cut n (queued_at (queued p t) i) =
    ap (λ (v : ChainView). queued_of (record { number = c; entries = v.entries; tag = tag + 2 * n })) change.shown
    ∙ (queued_cut c n tag (chain_of q c).entries ∙ ap (cut n) (sym was)) in
    record {
      queue_is =
          ap (map queued_of) (put ∙ ap (λ (xs : List QueuedPacket). insert xs i
          (record { number = c; entries = (chain_of r c).entries; tag = tag + 2 * n })) (change.queued_packets_are
          ∙ gone))
          ∙ (map-insert queued_of (remove (queued_packets p t) i) i _
          ∙ (ap (λ (xs : List QueuedFragment). insert xs i
          (queued_of (record { number = c; entries = (chain_of r c).entries; tag = tag + 2 * n }))) (map-remove
          queued_of (queued_packets p t) i)
          ∙ (insert_remove (queued p t) i _ within' ∙ ap (set (queued p t) i) is)));
      moves = moves_trans moved (moves_trans change.moves moves);
    }

-- ---- clearing what the new fragment covers
rest_at : (ps : List QueuedFragment) (i : ℕ) → i < length ps → drop i ps ≡ queued_at ps i ∷ drop (suc i) ps
rest_at [] i l = absurd (omega arith)
rest_at (p ∷ ps) zero l = refl
rest_at (p ∷ ps) (suc i) l = rest_at ps i (omega arith)

cut_to_whole : (e : ℕ) (p : QueuedFragment) (ps : List QueuedFragment) → e ≤ p.offset → cut_to e (p ∷ ps) ≡ p ∷ ps
cut_to_whole e p ps l = cond-true _ _ _ (le-leb e p.offset l)

cut_to_gone : (e : ℕ) (p : QueuedFragment) (ps : List QueuedFragment) → p.offset < e → queued_end p ≤ e
    → cut_to e (p ∷ ps) ≡ cut_to e ps
cut_to_gone e p ps a b = cond-false _ _ _ (lt-leb e p.offset a) ∙ cond-true _ _ _ (le-leb (queued_end p) e b)

cut_to_cut : (e : ℕ) (p : QueuedFragment) (ps : List QueuedFragment) → p.offset < e → e < queued_end p
    → cut_to e (p ∷ ps) ≡ cut (e - p.offset) p ∷ ps
cut_to_cut e p ps a b = cond-false _ _ _ (lt-leb e p.offset a) ∙ cond-false _ _ _ (lt-leb (queued_end p) e b)

-- a fragment, and the offset at which it begins
pub record IsNext (p : PoolView) (t : TrainView) (i b : ℕ) : Type 0 where
  pub within : i < length (queued p t)
  pub begin : (queued_at (queued p t) i).offset ≡ b

-- the loop that clears: the fragments before are unchanged, and so is the rest of the others from offset e on
pub record Clearing (e i : ℕ) (old now : List QueuedFragment) : Type 0 where
  pub front : take i now ≡ take i old
  pub rest : cut_to e (drop i now) ≡ cut_to e (drop i old)

pub clearing_more : {e i : ℕ} {old now next : List QueuedFragment} → Clearing e i old now → i < length now
    → (queued_at now i).offset < e → queued_end (queued_at now i) ≤ e → next ≡ remove now i → Clearing e i old next
clearing_more {e} {i} {old} {now} {next} c l a b is = subst (Clearing e i old) (sym is) (record {
  front = take-remove now i l ∙ c.front;
  rest =
      ap (cut_to e) (drop-remove now i l)
      ∙ (sym (cut_to_gone e (queued_at now i) (drop (suc i) now) a b)
      ∙ (ap (cut_to e) (sym (rest_at now i l)) ∙ c.rest));
})

-- the three ways in which the loop ends
pub cleared_all : {e i : ℕ} {old now : List QueuedFragment} → Clearing e i old now → length now ≤ i
    → now ≡ take i old ++ cut_to e (drop i old)
cleared_all {e} {i} {old} {now} c l =
    sym (take-append-drop i now) ∙ (λ j. c.front j
    ++ (drop_all i now l ∙ (ap (cut_to e) (sym (drop_all i now l)) ∙ c.rest)) j)

pub cleared_whole : {e i : ℕ} {old now : List QueuedFragment} → Clearing e i old now → i < length now
    → e ≤ (queued_at now i).offset → now ≡ take i old ++ cut_to e (drop i old)
cleared_whole {e} {i} {old} {now} c l a =
    sym (take-append-drop i now) ∙ (λ j. c.front j
    ++ (rest_at now i l ∙ (sym (cut_to_whole e (queued_at now i) (drop (suc i) now) a)
    ∙ (ap (cut_to e) (sym (rest_at now i l)) ∙ c.rest))) j)

pub cleared_cut : {e i : ℕ} (n : ℕ) {old now next : List QueuedFragment} → Clearing e i old now → i < length now
    → (queued_at now i).offset < e → e < queued_end (queued_at now i) → n ≡ e - (queued_at now i).offset
    → next ≡ set now i (cut n (queued_at now i)) → next ≡ take i old ++ cut_to e (drop i old)
cleared_cut {e} {i} n {old} {now} {next} c l a b n_is is =
    is ∙ (set_split now i (cut n (queued_at now i)) l
    ∙ (λ j. c.front j ++ (ap (λ (m : ℕ). cut m (queued_at now i) ∷ drop (suc i) now) n_is
    ∙ (sym (cut_to_cut e (queued_at now i) (drop (suc i) now) a b)
    ∙ (ap (cut_to e) (sym (rest_at now i l)) ∙ c.rest))) j))

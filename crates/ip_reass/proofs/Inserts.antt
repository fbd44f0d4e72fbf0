-- A chain inserted among the fragments of a train.
use Rattle.std.proofs.Common.{◌≡◌, ℕ, zero, suc, ◌+◌, ◌-◌, ◌/◌, ◌%◌, ◌<◌, ◌≤◌, min, Bool, true, false, cond, eqb, List, [], ◌∷◌, ◌++◌, length, map, take, drop, insert, Option, unwrap_or, refl, sym, ap, ◌∙◌, subst, arith, length-append}
use Rattle.std.specs.FinMap as finmap
use Rattle.std.proofs.lemmas.Bool.{cond-true, cond-false, le-leb, lt-leb}
use Rattle.std.proofs.lemmas.List.{drop_all, take_all, take-append-drop, take_at, drop_at, length-take-le, take-map, drop-map, map-append}
use Rattle.flat_model.specs.Fragments.Overlay.{Fragment, overlay, is_covered}
use Rattle.mbuf_chain.specs.Chain.{Entry, ChainView, PoolView, IsLive, chain_of, without, flat_bytes, string, no_chain}
use Rattle.mbuf_chain.specs.Owners.{times_among, Moves}
use Rattle.mbuf_chain.specs.Train.{TrainView, numbers, queued_packets, IsHeld}
use Rattle.mbuf_chain.proofs.Laws.Owners.{moves_trans, moves_beside, moves_without, live_same, live_one, live_from}
use Rattle.mbuf_chain.proofs.Laws.Trains.{Beside, beside_without}
use Rattle.chain_ops.specs.Trims.{without_first}
use Rattle.ip_reass.specs.Fragments.{QueuedFragment, queued_of, queued, queued_end, cut, cut_to, inserted_into, inserted_after, fragment_of, fragment_in, fragments, map_of, Apart, AllEnd, IsQueue, end_of_fragment}
use Rattle.ip_reass.specs.Inside.Walks.{arrived, reach, AllUpto, AllAbove, trimmed, left_from, fragment_at}
use Rattle.ip_reass.proofs.Walks.{length-fragments, reach_last}
use Rattle.ip_reass.proofs.Whole.{last_here, reach_inserted}
use Rattle.ip_reass.specs.Inside.Known.{apart_left, apart_right, end_trimmed, AllEnd-append, AllEnd-take, AllEnd-drop, AllEnd-left_from}
use Rattle.ip_reass.proofs.Overlays.{Around, inserted_is, inserted_apart, covered_yes, covered_no}
use Rattle.chain_ops.proofs.Laws.Strings.{without_first_bytes}
use Rattle.ip_reass.proofs.Edits.{map-insert, weight_trimmed}
use Rattle.ip_reass.proofs.Steps.{length-queued, fragments_are, Changed}

-- ---- a chain that waits while the train changes
pub record Waits (c : ℕ) (v : ChainView) (q : PoolView) (u : TrainView) : Type 0 where
  pub live : IsLive q c
  pub shown : chain_of q c ≡ v
  pub apart : times_among c (numbers q u) ≡ 0

pub waits : (r q : PoolView) (t u : TrainView) (c : ℕ) (v : ChainView) → IsLive r c → chain_of r c ≡ v
    → times_among c (numbers r t) ≡ 0 → Moves r (numbers r t) q (numbers q u) → Waits c v q u
waits r q t u c v live shown apart moves =
    let same : finmap.get q.chains c ≡ finmap.get r.chains c = moves.others c live apart in
    record {
      live = live_from q c (omega (arith, live_same r q c same, live_one r c live));
      shown = ap (λ (o : Option ChainView). unwrap_or o no_chain) same ∙ shown;
      apart = omega (arith, moves.owned c, live_same r q c same);
    }

insert_at : {X : Type 0} (xs ys : List X) (i : ℕ) (y : X) → length xs ≡ i → insert (xs ++ ys) i y ≡ xs ++ y ∷ ys
insert_at xs ys i y l = λ j. take_at xs ys i l j ++ y ∷ drop_at xs ys i l j

-- ---- the new queue
pub record Settled (p : PoolView) (t : TrainView) (i n c : ℕ) (q : QueuedFragment) (s : PoolView) (w : TrainView) : Type
    0 where
  pub queue_is : queued s w ≡ take i (queued p t) ++ cut n q ∷ cut_to (queued_end q) (drop i (queued p t))
  pub moves : Moves p (c ∷ numbers p t) s (numbers s w)

pub settled : (p r q s : PoolView) (t u w : TrainView) (c i n offset e tag : ℕ) (more : Bool) → i ≤ t.len → IsHeld p t
    → Changed p t c (record (chain_of p c) { entries = without_first n (chain_of p c).entries }) r
    → queued q u ≡ take i (queued r t) ++ cut_to e (drop i (queued r t)) → Moves r (numbers r t) q (numbers q u)
    → e ≡ offset + length (string (chain_of p c)) → tag / 2 ≡ offset + n → eqb (tag % 2) 1 ≡ more
    → queued_packets s w ≡ insert (queued_packets q u) i
    (record { number = c; entries = (chain_of q c).entries; tag = tag }) → Moves q (c ∷ numbers q u) s (numbers s w)
    → Settled p t i n c (arrived p c offset more) s w
settled p r q s t u w c i n offset e tag more place held change cleared moves ends half odd put goes =
    let wait : Waits c (record (chain_of p c) { entries = without_first n (chain_of p c).entries }) q u =
    waits r q t u c (record (chain_of p c) { entries = without_first n (chain_of p c).entries }) change.live
    change.shown change.apart moves in
    let same : queued r t ≡ queued p t = ap (map queued_of) change.queued_packets_are in
    let long : length (take i (queued p t)) ≡ i =
    length-take-le i (queued p t) (omega (arith, length-queued p t held)) in
    let mine : queued_of (record { number = c; entries = (chain_of q c).entries; tag = tag })
    ≡ cut n (arrived p c offset more) =
    λ j. record { offset = half j; more = odd j; entries = (wait.shown j).entries } in
    record {
      queue_is =
          ap (map queued_of) put ∙ (map-insert queued_of (queued_packets q u) i _
          ∙ ((λ j. insert ((cleared ∙ λ k. take i (same k) ++ cut_to (ends k) (drop i (same k))) j) i (mine j))
          ∙ insert_at (take i (queued p t)) (cut_to (offset + length (string (chain_of p c))) (drop i (queued p t))) i _
          long));
      moves =
          moves_trans change.moves (moves_trans
          (moves_beside (c ∷ numbers r t) (c ∷ numbers q u) (c ∷ []) moves (λ k. omega arith) (λ k. omega arith)) goes);
    }

-- ---- the same for fragments
pub fragment_cut : (n : ℕ) (q : QueuedFragment) → fragment_of (cut n q) ≡ trimmed n (fragment_of q)
fragment_cut n q =
    λ i. record {
      offset = q.offset + n;
      bytes = without_first_bytes n q.entries i;
      more = q.more;
      weight = weight_trimmed n q.entries i;
    }

map-cond : (b : Bool) (xs ys : List QueuedFragment)
    → map fragment_of (cond b xs ys) ≡ cond b (map fragment_of xs) (map fragment_of ys)
map-cond true xs ys = refl
map-cond false xs ys = refl

pub map-cut_to : (e : ℕ) (qs : List QueuedFragment) → map fragment_of (cut_to e qs) ≡ left_from e (map fragment_of qs)
map-cut_to e [] = refl
map-cut_to e (q ∷ qs) =
    map-cond _ (q ∷ qs) _
    ∙ (λ i. cond (Rattle.std.proofs.Common.leb e q.offset) (map fragment_of (q ∷ qs))
    ((map-cond _ (cut_to e qs) (cut (e - q.offset) q ∷ qs)
    ∙ (λ j. cond (Rattle.std.proofs.Common.leb (queued_end q) e) (map-cut_to e qs j)
    (fragment_cut (e - q.offset) q j ∷ map fragment_of qs))) i))

pub map-settled : (i n e : ℕ) (q : QueuedFragment) (qs : List QueuedFragment)
    → map fragment_of (take i qs ++ cut n q ∷ cut_to e (drop i qs))
    ≡ take i (map fragment_of qs) ++ trimmed n (fragment_of q) ∷ left_from e (drop i (map fragment_of qs))
map-settled i n e q qs =
    map-append fragment_of (take i qs) (cut n q ∷ cut_to e (drop i qs))
    ∙ (λ j. sym (take-map fragment_of i qs) j ++ fragment_cut n q j
    ∷ (map-cut_to e (drop i qs) ∙ ap (left_from e) (sym (drop-map fragment_of i qs))) j)

-- the queue that the code makes is the one of the definition
pub inserted_list : (low i : ℕ) (q : QueuedFragment) (qs : List QueuedFragment)
    → AllUpto q.offset (take i (map fragment_of qs)) → AllAbove q.offset (drop i (map fragment_of qs))
    → take i qs ++ cut (reach low (take i (map fragment_of qs)) - q.offset) q ∷ cut_to (queued_end q) (drop i qs)
    ≡ inserted_after low q qs
inserted_list low zero q [] u a = refl
inserted_list low (suc i) q [] u a = refl
inserted_list low zero q (r ∷ rs) u a = sym (cond-false _ _ _ (lt-leb r.offset q.offset a.0))
inserted_list low (suc i) q (r ∷ rs) u a =
    ap (λ (xs : List QueuedFragment). r ∷ xs) (inserted_list (queued_end r) i q rs u.1 a)
    ∙ sym (cond-true _ _ _ (le-leb r.offset q.offset u.0))

-- ---- the new train
pub around : (p : PoolView) (t : TrainView) (a i : ℕ) → IsQueue p t → AllUpto a (take i (fragments p t))
    → AllAbove a (drop i (fragments p t)) → Around a (take i (fragments p t)) (drop i (fragments p t))
around p t a i is upto above =
    let whole : take i (fragments p t) ++ drop i (fragments p t) ≡ fragments p t = take-append-drop i (fragments p t) in
    let order : Apart 0 (take i (fragments p t) ++ drop i (fragments p t)) = subst (Apart 0) (sym whole) is.apart in
    record {
      before = apart_left 0 (take i (fragments p t)) (drop i (fragments p t)) order;
      after = apart_right 0 (take i (fragments p t)) (drop i (fragments p t)) order;
      upto = upto;
      above = above;
    }

-- the fragments after the insertion
pub made_is : (p s : PoolView) (t w : TrainView) (i n c : ℕ) (q : QueuedFragment) → Settled p t i n c q s w
    → fragments s w ≡ take i (fragments p t) ++ trimmed n (fragment_of q)
    ∷ left_from (queued_end q) (drop i (fragments p t))
made_is p s t w i n c q done =
    let same : map fragment_of (queued p t) ≡ fragments p t = sym (fragments_are p t) in
    fragments_are s w ∙ (ap (map fragment_of) done.queue_is
    ∙ (map-settled i n (queued_end q) q (queued p t)
    ∙ (λ j. take i (same j) ++ trimmed n (fragment_of q) ∷ left_from (queued_end q) (drop i (same j)))))

pub record Inserted (p : PoolView) (t : TrainView) (q : QueuedFragment) (s : PoolView) (w : TrainView) : Type 0 where
  pub covered : is_covered (map_of (fragments p t)) (fragment_of q) ≡ false
  pub map_is : map_of (fragments s w) ≡ overlay (map_of (fragments p t)) (fragment_of q)
  pub queue_is : queued s w ≡ inserted_into q (queued p t)
  pub apart : Apart 0 (fragments s w)
  pub small : AllEnd 65515 (fragments s w)

pub inserted_in : (p s : PoolView) (t w : TrainView) (i n c : ℕ) (q : QueuedFragment) → IsQueue p t
    → AllUpto q.offset (take i (fragments p t)) → AllAbove q.offset (drop i (fragments p t))
    → n ≡ reach 0 (take i (fragments p t)) - q.offset → n < length (flat_bytes q.entries) → queued_end q ≤ 65515
    → Settled p t i n c q s w → Inserted p t q s w
inserted_in p s t w i n c q is upto above n_is some fits done =
    let f : Fragment = fragment_of q in
    let xs : List Fragment = take i (fragments p t) in
    let ys : List Fragment = drop i (fragments p t) in
    let w' : Around q.offset (take i (fragments p t)) (drop i (fragments p t)) = around p t q.offset i is upto above in
    let whole : take i (fragments p t) ++ drop i (fragments p t) ≡ fragments p t = take-append-drop i (fragments p t) in
    let same : map fragment_of (queued p t) ≡ fragments p t = sym (fragments_are p t) in
    let made : fragments s w ≡ take i (fragments p t) ++ trimmed n (fragment_of q)
    ∷ left_from (queued_end q) (drop i (fragments p t)) = made_is p s t w i n c q done in
    record {
      covered =
          ap (λ (zs : List Fragment). is_covered (map_of zs) (fragment_of q)) (sym whole)
          ∙ covered_no (fragment_of q) (take i (fragments p t)) (drop i (fragments p t)) w' (omega arith);
      map_is =
          ap map_of made ∙ (inserted_is (fragment_of q) (take i (fragments p t)) (drop i (fragments p t)) w' n n_is some
          ∙ ap (λ (zs : List Fragment). overlay (map_of zs) (fragment_of q)) whole);
      queue_is =
          done.queue_is
          ∙ (ap (λ (m : ℕ). take i (queued p t) ++ cut m q ∷ cut_to (queued_end q) (drop i (queued p t)))
          (n_is ∙ ap (λ (fs : List Fragment). reach 0 (take i fs) - q.offset) (sym same))
          ∙ inserted_list 0 i q (queued p t)
          (subst (λ (fs : List Fragment). AllUpto q.offset (take i fs)) (sym same) upto)
          (subst (λ (fs : List Fragment). AllAbove q.offset (drop i fs)) (sym same) above));
      apart =
          subst (Apart 0) (sym made)
          (inserted_apart (fragment_of q) (take i (fragments p t)) (drop i (fragments p t)) w' n
          n_is some);
      small =
          subst (AllEnd 65515) (sym made)
          (AllEnd-append 65515 (take i (fragments p t))
          (trimmed n (fragment_of q) ∷ left_from (queued_end q) (drop i (fragments p t)))
          (AllEnd-take 65515 i (fragments p t) is.small) (
            omega (arith, end_trimmed n (fragment_of q) (omega arith)),
            AllEnd-left_from 65515 (queued_end q) (drop i (fragments p t))
                (AllEnd-drop 65515 i (fragments p t) is.small),
          ));
    }

-- ---- a fragment after all others
without_none : (es : List Entry) → without_first 0 es ≡ es
without_none [] = refl
without_none (e ∷ es) =
    let n : length e.bytes - min 0 (length e.bytes) ≡ length e.bytes = omega arith in
    let z : 0 - length e.bytes ≡ 0 = omega arith in
    let s : e.start + min 0 (length e.bytes) ≡ e.start = omega arith in
    let m : min 0 (length e.bytes) ≡ 0 = omega arith in
    λ j. record {
      bytes = ((λ k. take (n k) (drop (m k) e.bytes)) ∙ (take_all (length e.bytes) e.bytes (omega arith))) j;
      start = s j;
      cluster = e.cluster;
    } ∷ (ap (λ (k : ℕ). without_first k es) z ∙ without_none es) j

pub cut_none : (q : QueuedFragment) → cut 0 q ≡ q
cut_none q =
    let z : q.offset + 0 ≡ q.offset = omega arith in
    λ j. record { offset = z j; more = q.more; entries = without_none q.entries j }

pub appended : (p s : PoolView) (t w : TrainView) (c i offset tag : ℕ) (more : Bool) → i ≡ t.len → IsHeld p t
    → tag / 2 ≡ offset → eqb (tag % 2) 1 ≡ more
    → queued_packets s w ≡ insert (queued_packets p t) i
    (record { number = c; entries = (chain_of p c).entries; tag = tag }) → Moves p (c ∷ numbers p t) s (numbers s w)
    → Settled p t t.len 0 c (arrived p c offset more) s w
appended p s t w c i offset tag more is_i held half odd put goes =
    let f : QueuedFragment = arrived p c offset more in
    let l : length (queued p t) ≡ t.len = length-queued p t held in
    let long : length (take t.len (queued p t)) ≡ t.len = length-take-le t.len (queued p t) (omega (arith, l)) in
    let none : drop t.len (queued p t) ≡ [] = drop_all t.len (queued p t) (omega (arith, l)) in
    let mine : queued_of (record { number = c; entries = (chain_of p c).entries; tag = tag })
    ≡ cut 0 (arrived p c offset more) =
    (λ j. record { offset = half j; more = odd j; entries = (chain_of p c).entries })
    ∙ sym (cut_none (arrived p c offset more)) in
    record {
      queue_is =
          ap (map queued_of) (put ∙ ap (λ (n : ℕ). insert (queued_packets p t) n
          (record {
            number = c;
            entries = (chain_of p c).entries;
            tag = tag;
          })) is_i) ∙ (map-insert queued_of (queued_packets p t) t.len _
          ∙ ((λ j. insert (sym (take-append-drop t.len (queued p t)) j) t.len (mine j))
          ∙ (insert_at (take t.len (queued p t)) (drop t.len (queued p t)) t.len (cut 0 (arrived p c offset more)) long
          ∙ ap (λ (rest : List QueuedFragment). take t.len (queued p t) ++ cut 0 (arrived p c offset more) ∷ rest)
          (none ∙ sym (ap (cut_to (queued_end (arrived p c offset more))) none)))));
      moves = goes;
    }

-- the new fragment is the last one
pub record IsLast (s : PoolView) (w : TrainView) (i : ℕ) (f : Fragment) : Type 0 where
  pub len : i + 1 ≡ length (fragments s w)
  pub more : (fragment_at (fragments s w) i).more ≡ f.more
  pub end : reach 0 (fragments s w) ≡ end_of_fragment f

pub is_last : (p s : PoolView) (t w : TrainView) (i c : ℕ) (q : QueuedFragment) → IsHeld p t → i ≡ t.len
    → Settled p t i 0 c q s w → IsLast s w i (fragment_of q)
is_last p s t w i c q held is_i done =
    let l : length (fragments p t) ≡ i = length-fragments p t held ∙ sym is_i in
    let none : drop i (fragments p t) ≡ [] = drop_all i (fragments p t) (omega (arith, l)) in
    let long : length (take i (fragments p t)) ≡ i = length-take-le i (fragments p t) (omega (arith, l)) in
    let made : fragments s w ≡ take i (fragments p t) ++ trimmed 0 (fragment_of q) ∷ [] =
    made_is p s t w i 0 c q done ∙ ap
    (λ (ys : List Fragment). take i (fragments p t) ++ trimmed 0 (fragment_of q) ∷ left_from (queued_end q) ys) none
    in
    let at : fragment_at (fragments s w) i ≡ trimmed 0 (fragment_of q) =
    ap (λ (fs : List Fragment). fragment_at fs i) made
    ∙ last_here (take i (fragments p t)) (trimmed 0 (fragment_of q)) i (sym long) in
    let len : i + 1 ≡ length (fragments s w) =
    omega (
      arith,
      long,
      ap (λ (fs : List Fragment). length fs) made,
      length-append (take i (fragments p t)) (trimmed 0 (fragment_of q) ∷ []),
    ) in
    record {
      len = len;
      more = ap (λ (f : Fragment). f.more) at;
      end = reach_last 0 i (fragments s w) len ∙ (ap end_of_fragment at ∙ end_trimmed 0 (fragment_of q) (omega arith));
    }

-- the end of the last fragment isn't lower than before
pub reaches : (p s : PoolView) (t w : TrainView) (i n c : ℕ) (q : QueuedFragment)
    → n ≡ reach 0 (take i (fragments p t)) - q.offset → n < length (flat_bytes q.entries) → Settled p t i n c q s w
    → reach 0 (fragments p t) ≤ reach 0 (fragments s w)
reaches p s t w i n c q is some done =
    omega (
      arith,
      ap (reach 0) (take-append-drop i (fragments p t)),
      ap (reach 0) (made_is p s t w i n c q done),
      reach_inserted n (fragment_of q) (take i (fragments p t)) (drop i (fragments p t)) is some,
    )

-- ---- a fragment whose bytes are all covered
pub record Covered (p : PoolView) (t : TrainView) (c : ℕ) (f : Fragment) (r : PoolView) : Type 0 where
  pub covered : is_covered (map_of (fragments p t)) f ≡ true
  pub queue_is : queued r t ≡ queued p t
  pub is : IsQueue r t
  pub moves : Moves p (c ∷ numbers p t) r (numbers r t)

pub queue_same : (p r : PoolView) (t : TrainView) → Beside p r t → IsQueue p t → IsQueue r t
queue_same p r t b is =
    let e : fragments r t ≡ fragments p t = ap (map fragment_in) b.queued_packets in
    record { held = b.held; apart = subst (Apart 0) (sym e) is.apart; small = subst (AllEnd 65515) (sym e) is.small }

pub covered_in : (p r : PoolView) (t : TrainView) (i c : ℕ) (f : Fragment) → IsQueue p t → IsLive p c
    → times_among c (numbers p t) ≡ 0 → AllUpto f.offset (take i (fragments p t))
    → AllAbove f.offset (drop i (fragments p t))
    → length f.bytes ≤ reach 0 (take i (fragments p t)) - f.offset → r ≡ without p c → Covered p t c f r
covered_in p r t i c f is live apart upto above none gone =
    let b : Beside p r t = beside_without p r c t gone apart is.held in
    let w' : Around f.offset (take i (fragments p t)) (drop i (fragments p t)) = around p t f.offset i is upto above in
    let whole : take i (fragments p t) ++ drop i (fragments p t) ≡ fragments p t = take-append-drop i (fragments p t) in
    record {
      covered =
          ap (λ (zs : List Fragment). is_covered (map_of zs) f) (sym whole)
          ∙ covered_yes f (take i (fragments p t)) (drop i (fragments p t)) w' none;
      queue_is = ap (map queued_of) b.queued_packets;
      is = queue_same p r t b is;
      moves =
          moves_beside (c ∷ numbers p t) (numbers r t) (numbers p t) (moves_without p r c live gone) (λ k. omega arith)
          (λ k. omega (arith, ap (times_among k) b.numbers));
    }

-- Joining the fragments of a train.
use Rattle.std.proofs.Common.{◌≡◌, ◌≢◌, ℕ, ◌+◌, ◌<◌, ◌≤◌, List, [], ◌∷◌, ◌++◌, length, map, remove, Option, refl, sym, ap, ◌∙◌, subst, arith, append_assoc, append-nil, unwrap_or, cond, Bool, true, false}
use Rattle.std.specs.Prelude.{nat_lt}
use Rattle.std.specs.List.{cons_option}
use Rattle.std.specs.FinMap as finmap
use Rattle.std.proofs.lemmas.List.{length-map}
use Rattle.flat_model.specs.Amounts.Weight.{Weight, all_of, ◌⊕◌, times, Covers}
use Rattle.flat_model.specs.Amounts.Layout as flat
use Rattle.flat_model.specs.Fragments.Overlay.{Fragment}
use Rattle.flat_model.specs.Fragments.Whole.{IsWhole, weight_of_pieces}
use Rattle.flat_model.specs.Machine.Arrival.{IsJoin}
use Rattle.mbuf_chain.specs.Chain.{Entry, Front, ChainView, PoolView, IsLive, chain_of, no_chain, without, flat_bytes, trailing_space}
use Rattle.mbuf_chain.specs.Steps.{with_back}
use Rattle.mbuf_chain.specs.Owners as owners
use Rattle.mbuf_chain.specs.Owners.{IsOwned, Moves}
use Rattle.mbuf_chain.specs.Frames.{SameAt}
use Rattle.mbuf_chain.specs.Train.{TrainView, queued_packet_at, numbers, queued_packets, IsHeld}
use Rattle.mbuf_chain.proofs.Laws.Owners.{times_same, moves_trans, moves_beside, moves_after, moves_without, moves_adds, owned_more, owned_after, live_first, live_at_most, live_same, live_one, live_from, same_beside}
use Rattle.mbuf_chain.proofs.Laws.Steps.{live_without}
use Rattle.mbuf_chain.proofs.Laws.Trains.{Beside, beside}
use Rattle.chain_ops.specs.Makes.{Makes}
use Rattle.chain_ops.specs.Joins.{cat, filled_up}
use Rattle.chain_ops.specs.Weights.{layout_entries, AreFit}
use Rattle.chain_ops.proofs.Laws.Strings.{cat_bytes}
use Rattle.chain_ops.proofs.Laws.Joins.{cat_length, cat_bag, cat_fit, covers_fit}
use Rattle.ledger.specs.Accounts.{entries_weight}
use Rattle.flat_model.proofs.Laws.{times-both}
use Rattle.ip_reass.specs.Fragments.{QueuedFragment, queued_of, queued, fragment_of, fragments, joined_fragments, joined_after, IsQueue, map_of}
use Rattle.ip_reass.specs.Inside.Walks.{bytes_of, queued_at, AllFit, AllSome}
use Rattle.ip_reass.proofs.Steps.{fragments_are, length-queued, queued_is}
use Rattle.ip_reass.proofs.Edits.{map-remove}
use Rattle.ip_reass.proofs.Whole.{bytes_are}
use Rattle.ip_reass.specs.Inside.Weighs.{weight_is}

-- ---- the lists
pub joined_next : (es : List Entry) (qs : List QueuedFragment) → 0 < length qs
    → joined_after es qs ≡ joined_after (cat es (queued_at qs 0).entries) (remove qs 0)
joined_next es [] l = absurd (omega arith)
joined_next es (q ∷ qs) l = refl

-- ---- the pool
pub record Joins (p q : PoolView) (t : TrainView) (c : ℕ) (r : PoolView) (u : TrainView) : Type 0 where
  pub live : IsLive r c
  pub held : IsHeld r u
  pub apart : owners.times_among c (numbers r u) ≡ 0
  pub queued_packets_are : queued_packets r u ≡ queued_packets q u
  pub moves : Moves p (c ∷ numbers p t) r (c ∷ numbers r u)

-- the chain joined so far, after the next one was removed from the train
pub record InHand (p q : PoolView) (u : TrainView) (c d : ℕ) : Type 0 where
  pub live : IsLive q c
  pub shown : chain_of q c ≡ chain_of p c
  pub other : IsLive q d
  pub apart : c ≢ d
  pub owned : IsOwned q (c ∷ d ∷ numbers q u)

pub in_hand : (p q : PoolView) (t u : TrainView) (c d : ℕ) → IsHeld p t → IsLive p c
    → owners.times_among c (numbers p t) ≡ 0
    → Moves p (numbers p t) q (d ∷ numbers q u) → InHand p q u c d
in_hand p q t u c d held live apart m =
    let same : finmap.get q.chains c ≡ finmap.get p.chains c = m.others c live apart in
    let live_q : IsLive q c = live_from q c (omega (arith, live_same p q c same, live_one p c live)) in
    let none : owners.times_among c (d ∷ numbers q u) ≡ 0 = omega (arith, m.owned c, live_same p q c same) in
    let owned : IsOwned q (d ∷ numbers q u) = owned_after m held.owned in
    record {
      live = live_q;
      shown = ap (λ (o : Option ChainView). unwrap_or o no_chain) same;
      other = live_first q d (numbers q u) owned;
      apart =
          λ e. absurd (omega (
            arith,
            none,
            ap (λ (j : ℕ). owners.times_among j (d ∷ numbers q u)) e,
            times_same d (numbers q u),
          ));
      owned = owned_more q c (d ∷ numbers q u) owned live_q none;
    }

pub joins : (p q r : PoolView) (t u : TrainView) (c d : ℕ) (f : Front) (es : List Entry) → InHand p q u c d
    → Moves p (numbers p t) q (d ∷ numbers q u) → IsHeld q u → Makes (without (without q d) c) r c f es
    → Joins p q t c r u
joins p q r t u c d f es h m held made =
    let step : Moves q (c ∷ d ∷ []) r (c ∷ []) =
    moves_trans (moves_after (c ∷ []) (moves_without q (without q d) d h.other refl))
    (moves_trans (moves_without (without q d) (without (without q d) c) c
    (live_without q (without q d) d refl c h.apart h.live) refl) (moves_adds made.adds)) in
    let same : SameAt q r (numbers q u) =
    same_beside (numbers q u) step held.owned (λ k l. omega (arith, h.owned k, live_at_most q k, l)) in
    let b : Beside q r u = beside q r u same held in
    let all : Moves q (c ∷ d ∷ numbers q u) r (c ∷ numbers r u) =
    moves_beside (c ∷ d ∷ numbers q u) (c ∷ numbers r u) (numbers q u) step (λ k. omega arith)
    (λ k. omega (arith, ap (owners.times_among k) b.numbers)) in
    let owned : IsOwned r (c ∷ numbers r u) = owned_after all h.owned in
    record {
      live = live_first r c (numbers r u) owned;
      held = b.held;
      apart = omega (arith, owned c, live_at_most r c, times_same c (numbers r u));
      queued_packets_are = b.queued_packets;
      moves =
          moves_trans (moves_beside (c ∷ numbers p t) (c ∷ d ∷ numbers q u) (c ∷ []) m (λ k. omega arith)
          (λ k. omega arith)) all;
    }

-- ---- the bytes
all_bytes : (es : List Entry) (cs : List QueuedFragment)
    → flat_bytes (joined_after es cs) ≡ flat_bytes es ++ bytes_of (map fragment_of cs)
all_bytes es [] = sym (append-nil (flat_bytes es))
all_bytes es (q ∷ cs) =
    all_bytes (cat es q.entries) cs
    ∙ (ap (λ (xs : List ℕ). xs ++ bytes_of (map fragment_of cs)) (cat_bytes es q.entries)
    ∙ append_assoc (flat_bytes es) (flat_bytes q.entries) (bytes_of (map fragment_of cs)))

pub queue_bytes : (cs : List QueuedFragment) → flat_bytes (joined_fragments cs) ≡ bytes_of (map fragment_of cs)
queue_bytes [] = refl
queue_bytes (q ∷ cs) = all_bytes q.entries cs

-- ---- the weight
abbrev pub queue_weight : List QueuedFragment → Weight
queue_weight cs = all_of (λ (q : QueuedFragment). entries_weight q.entries) cs

inserted_bag : (es : List Entry) → (flat.weight_of (layout_entries es)).bag ≡ (entries_weight es).bag
inserted_bag [] = refl
inserted_bag (e ∷ es) = ap (cons_option e.cluster) (inserted_bag es)

inserted_mbufs : (es : List Entry) → (flat.weight_of (layout_entries es)).mbufs ≡ (entries_weight es).mbufs
inserted_mbufs es = length-map es _

all_mbufs : (es : List Entry) (cs : List QueuedFragment)
    → length (joined_after es cs) ≤ length es + (queue_weight cs).mbufs
all_mbufs es [] = omega arith
all_mbufs es (q ∷ cs) = omega (arith, all_mbufs (cat es q.entries) cs, cat_length es q.entries)

cat_times : (c : ℕ) (es fs : List Entry)
    → times c (entries_weight (cat es fs)).bag ≤ times c (entries_weight es).bag + times c (entries_weight fs).bag
cat_times c es fs =
    omega (
      arith,
      cat_bag es fs c,
      ap (times c) (inserted_bag (cat es fs)),
      ap (times c) (inserted_bag es),
      ap (times c) (inserted_bag fs),
      times-both c (flat.weight_of (layout_entries es)) (flat.weight_of (layout_entries fs)),
    )

all_times : (c : ℕ) (es : List Entry) (cs : List QueuedFragment)
    → times c (entries_weight (joined_after es cs)).bag
    ≤ times c (entries_weight es).bag + times c (queue_weight cs).bag
all_times c es [] = omega arith
all_times c es (q ∷ cs) =
    omega (
      arith,
      all_times c (cat es q.entries) cs,
      cat_times c es q.entries,
      times-both c (entries_weight q.entries) (queue_weight cs),
    )

filled_some : (e : Entry) (fs : List Entry) → 0 < length (filled_up e fs)
filled_some e [] = omega arith
filled_some e (f ∷ fs) = go (nat_lt (length f.bytes) (trailing_space e)) (filled_some (with_back e f.bytes) fs)
  where
    go : (b : Bool) → 0 < length (filled_up (with_back e f.bytes) fs)
        → 0 < length (cond b (filled_up (with_back e f.bytes) fs) (e ∷ f ∷ fs))
    go true ih = ih
    go false ih = omega arith

cat_some : (es fs : List Entry) → 0 < length es → 0 < length (cat es fs)
cat_some [] fs l = absurd (omega arith)
cat_some (e ∷ []) fs l = filled_some e fs
cat_some (e ∷ f ∷ es) fs l = omega arith

all_some : (es : List Entry) (cs : List QueuedFragment) → 0 < length es → 0 < length (joined_after es cs)
all_some es [] l = l
all_some es (q ∷ cs) l = all_some (cat es q.entries) cs (cat_some es q.entries l)

all_fit : (es : List Entry) (cs : List QueuedFragment) → AreFit es → AllFit cs → AreFit (joined_after es cs)
all_fit es [] f a = f
all_fit es (q ∷ cs) f a = all_fit (cat es q.entries) cs (cat_fit es q.entries f a.0) a.1

map_weight : (cs : List QueuedFragment) → all_of (λ (p : Fragment). p.weight) (map fragment_of cs) ≡ queue_weight cs
map_weight [] = refl
map_weight (q ∷ cs) = ap (λ (w : Weight). entries_weight q.entries ⊕ w) (map_weight cs)

covers_of : (es : List Entry) → 0 < length es → AreFit es → Covers (entries_weight es) (length (flat_bytes es))
covers_of es l f =
    let c = covers_fit es l f in
    let m : (flat.weight_of (layout_entries es)).mbufs ≡ (entries_weight es).mbufs = inserted_mbufs es in
    let b : length (flat.weight_of (layout_entries es)).bag ≡ length (entries_weight es).bag =
    ap (λ (xs : List ℕ). length xs) (inserted_bag es) in
    subst (λ (w : Weight). Covers w (length (flat_bytes es))) (λ i. record { mbufs = m i; bag = inserted_bag es i }) c

-- **the join is one that the flat machine allows**
pub join_is : (p : PoolView) (t : TrainView) (n : ℕ) → IsQueue p t → AllSome (queued p t) → AllFit (queued p t)
    → IsWhole (map_of (fragments p t)) n
    → IsJoin (weight_of_pieces (map_of (fragments p t))) (entries_weight (joined_fragments (queued p t))) n
join_is p t n is some fit w =
    let same : fragments p t ≡ map fragment_of (queued p t) = fragments_are p t in
    let e : weight_of_pieces (map_of (fragments p t)) ≡ queue_weight (queued p t) =
    weight_is (fragments p t) is.apart is.small
    ∙ (ap (all_of (λ (f : Fragment). f.weight)) same ∙ map_weight (queued p t)) in
    let len : n ≡ length (flat_bytes (joined_fragments (queued p t))) =
    (bytes_are (fragments p t) n is.apart w).1
    ∙ ap (λ (xs : List ℕ). length xs) (ap bytes_of same ∙ sym (queue_bytes (queued p t))) in
    subst (λ (v : Weight). IsJoin v (entries_weight (joined_fragments (queued p t))) n) (sym e)
    (go (queued p t) some fit len)
  where
    go : (qs : List QueuedFragment) → AllSome qs → AllFit qs → n ≡ length (flat_bytes (joined_fragments qs))
        → IsJoin (queue_weight qs) (entries_weight (joined_fragments qs)) n
    go [] s f l = absurd (omega (arith, l, w.some))
    go (q ∷ qs) s f l = record {
      mbufs = all_mbufs q.entries qs;
      bag = λ c. omega (arith, all_times c q.entries qs, times-both c (entries_weight q.entries) (queue_weight qs));
      covers =
          subst (Covers (entries_weight (joined_after q.entries qs))) (sym l)
          (covers_of (joined_after q.entries qs) (all_some q.entries qs s.0) (all_fit q.entries qs f.0 f.1));
    }

-- **the bytes of the join are those of the map, in order**
pub joined_bytes : (p : PoolView) (t : TrainView) (n : ℕ) → IsQueue p t → IsWhole (map_of (fragments p t)) n
    → Rattle.flat_model.specs.Fragments.Whole.bytes_below (map_of (fragments p t)) n
    ≡ flat_bytes (joined_fragments (queued p t))
joined_bytes p t n is w =
    (bytes_are (fragments p t) n is.apart w).0 ∙ (ap bytes_of (fragments_are p t) ∙ sym (queue_bytes (queued p t)))

pub joined_len : (p : PoolView) (t : TrainView) (n : ℕ) → IsQueue p t → IsWhole (map_of (fragments p t)) n
    → n ≡ length (flat_bytes (joined_fragments (queued p t)))
joined_len p t n is w =
    (bytes_are (fragments p t) n is.apart w).1
    ∙ ap (λ (xs : List ℕ). length xs) (ap bytes_of (fragments_are p t) ∙ sym (queue_bytes (queued p t)))

pub entries_more : (p q r : PoolView) (t u : TrainView) (c d tag : ℕ) (f : Front) (whole : List Entry) → IsHeld p t
    → 0 < t.len → chain_of q c ≡ chain_of p c
    → queued_packet_at p t 0 ≡ record { number = d; entries = (chain_of q d).entries; tag = tag }
    → queued_packets q u ≡ remove (queued_packets p t) 0 → queued_packets r u ≡ queued_packets q u
    → Makes (without (without q d) c) r c f (cat (chain_of q c).entries (chain_of q d).entries)
    → joined_after (chain_of p c).entries (queued p t) ≡ whole
    → joined_after (chain_of r c).entries (queued r u) ≡ whole
entries_more p q r t u c d tag f whole held some shown taken gone kept made is =
    let first : queued_at (queued p t) 0 ≡ queued_of (queued_packet_at p t 0) = queued_is p t 0 held some in
    let e : (chain_of r c).entries ≡ cat (chain_of p c).entries (queued_at (queued p t) 0).entries =
    made.entries ∙ (λ i. cat (shown i).entries (sym (first ∙ ap queued_of taken) i).entries) in
    let left : queued r u ≡ remove (queued p t) 0 =
    ap (map queued_of) (kept ∙ gone) ∙ map-remove queued_of (queued_packets p t) 0 in
    (λ i. joined_after (e i) (left i))
    ∙ (sym (joined_next (chain_of p c).entries (queued p t) (omega (arith, length-queued p t held))) ∙ is)

-- A send that makes one packet for the link: the buffers that it needs, its bytes in mbufs, and its datagram.
use Rattle.std.proofs.Common.{◌≡◌, ◌≢◌, ℕ, ◌+◌, ◌<◌, ◌≤◌, Bool, true, false, cond, List, [], ◌∷◌, ◌++◌, length, drop, Option, Some, None, le_refl, take_all, refl, sym, ap, ◌∙◌, subst, arith}
use Rattle.std.specs.Prelude.{◌-◌, ◌*◌, ◌/◌, nat_le, count_by, sum_by, ◌==◌, ◌||◌}
use Rattle.std.proofs.lemmas.Bool.{cond-true, cond-false, le-leb, lt-leb, ne_eqb}
use Rattle.std.proofs.lemmas.List.{append-nil, drop-append-le, length-append, length-map}
use Rattle.std.proofs.Math.Seq.{drop-append_seam}
use Rattle.flat_model.specs.Amounts.Layout as flat
use Rattle.flat_model.specs.Amounts.Layout.{Room, Plain, Cluster, is_cluster, entries_on, need, need_bcast, need_of_part, sent, user}
use Rattle.flat_model.specs.Machine.Send.{need_to}
use Rattle.flat_model.specs.Machine.Sending as sending
use Rattle.flat_model.specs.Machine.Sending.{is_looped, mtu_to}
use Rattle.flat_model.specs.declared.config.Config.{Config}
use Rattle.flat_model.proofs.Laws.{count_cons, cuts_short}
use Rattle.mbuf_chain.specs.Chain.{Adds, ChainView, Entry, PoolView, alone, chain_of, free_clusters, held_mbufs, references, string, without}
use Rattle.mbuf_chain.specs.Steps.{joined, one_mbuf}
use Rattle.mbuf_chain.proofs.Laws.Accounts.{held-adds}
use Rattle.mbuf_chain.proofs.Laws.Owners.{shown_adds}
use Rattle.mbuf_chain.proofs.Laws.Steps.{adds_undone}
use Rattle.chain_ops.specs.Prepends.{prepended}
use Rattle.chain_ops.specs.Rooms.{at_end}
use Rattle.chain_ops.specs.Stored.{AreFree, Has, stored_first}
use Rattle.chain_ops.specs.Weights.{layout_entries}
use Rattle.chain_ops.proofs.Laws.Rooms.{one_cluster}
use Rattle.ip_out.specs.declared.ways.Way.{Way}
use Rattle.sock_calls.specs.Inside.Putting.{IsBuilt, IsSendLaidOut, IsStored, sent_entries, way_of}
use Rattle.sock_calls.proofs.SentRooms.{placed_count, user_small}

-- ---- the buffers that it needs

one_part : (n mtu : ℕ) (rooms : List Room) → n + 28 ≤ mtu → sent n ≡ rooms
    → need n mtu ≡ record { mbufs = length rooms + 0; clusters = count_by is_cluster rooms }
one_part n mtu rooms fits is =
    let cut = cuts_short (n + 8) mtu (omega arith) in
    λ i. record {
      mbufs = length (is i) + sum_by (need_of_part (is i)) (drop 1 (cut i));
      clusters = count_by is_cluster (is i);
    }

small_rooms : (n : ℕ) → n ≤ 72 → sent n ≡ Plain (28 + n) ∷ []
small_rooms n few = cond-true {A = List Room} _ _ _ (le-leb n 72 few)

large_rooms : (n : ℕ) → 208 ≤ n → n ≤ 1992 → sent n ≡ Plain 28 ∷ Cluster n ∷ []
large_rooms n many most = cond-false {A = List Room} _ _ _ (lt-leb n 72 (omega (arith, many)))
    ∙ ap (λ (rs : List Room). Plain 28 ∷ rs) (one_cluster 56 n (omega arith) many most)

pub small_need : (n mtu : ℕ) → n ≤ 72 → n + 28 ≤ mtu → record { mbufs = 1; clusters = 0 } ≡ need n mtu
small_need n mtu few fits = sym (one_part n mtu (Plain (28 + n) ∷ []) fits (small_rooms n few))

pub large_need : (n mtu : ℕ) → 208 ≤ n → n ≤ 1992 → n + 28 ≤ mtu → record { mbufs = 2; clusters = 1 } ≡ need n mtu
large_need n mtu many most fits = sym (one_part n mtu (Plain 28 ∷ Cluster n ∷ []) fits (large_rooms n many most))

-- if they are free, at least one mbuf is
pub small_free : (p : PoolView) (n : ℕ) → n ≤ 72 → Has p (sent n) → held_mbufs p < p.mbufs
small_free p n few has = omega (arith, has.0, ap (λ (rs : List Room). length rs) (small_rooms n few))

pub large_free : (p : PoolView) (n : ℕ) → 208 ≤ n → n ≤ 1992 → Has p (sent n) → (held_mbufs p + 2 ≤ p.mbufs)
    × (0 < free_clusters p)
large_free p n many most has = (
  omega (arith, has.0, ap (λ (rs : List Room). length rs) (large_rooms n many most)),
  omega (arith, has.1, ap (count_by is_cluster) (large_rooms n many most)),
)

-- a send to the link isn't a broadcast
pub need_link : (c : Config) (ip n : ℕ) → Way.Link ≡ way_of c ip → need_to c ip n ≡ need n (mtu_to c ip)
need_link c ip n e = go (is_looped c ip) (ip == c.bcast) e
  where
    go : (u t : Bool) → Way.Link ≡ cond u Way.Loopback (cond t Way.Both Way.Link)
        → cond t (need_bcast n) (need n (mtu_to c ip)) ≡ need n (mtu_to c ip)
    go true t e = cc
    go false true e = cc
    go false false e = refl

-- a send to another machine uses the link
pub by_link : (c : Config) (ip : ℕ) → (ip ≢ c.addr) × (ip ≢ c.bcast) × (ip ≢ 2130706433) → Way.Link ≡ way_of c ip
by_link c ip (apart, one, outside) =
    go (ip == c.addr) (ip == 2130706433) (ip == c.bcast) (ne_eqb ip c.addr apart) (ne_eqb ip 2130706433 outside)
    (ne_eqb ip c.bcast one)
  where
    go : (a l b : Bool) → a ≡ false → l ≡ false → b ≡ false
        → Way.Link ≡ cond (a || l) Way.Loopback (cond b Way.Both Way.Link)
    go true l b e f g = cc
    go false true b e f g = cc
    go false false true e f g = cc
    go false false false e f g = refl

-- ---- the bytes after the headers, in one mbuf

abbrev pub entry : List ℕ → ℕ → Option ℕ → Entry
entry xs start o = record { bytes = xs; start = start; cluster = o }

-- its mbufs are those of `from_user`, with the headers in front
small_entries : (hs xs : List ℕ) → length hs ≡ 28 → length xs ≤ 72
    → sent_entries [] hs xs ≡ entry (hs ++ xs) (100 - (length xs + 3) / 4 * 4) None ∷ []
small_entries hs xs len few =
    let n : ℕ = length xs in
    let v : ChainView = record { front = alone true; entries = entry xs (at_end true n) None ∷ []; cells = [] } in
    let one : stored_first 56 true [] (user n) xs ≡ v.entries =
    ap (λ (rooms : List Room). stored_first 56 true [] rooms xs) (user_small n few)
    ∙ ap (λ (ys : List ℕ). entry ys (at_end true n) None ∷ []) (take_all n xs (le_refl n)) in
    let fits : nat_le (length hs) (at_end true n - 28) ≡ true = le-leb _ _ (omega (arith, len, few)) in
    let start : at_end true n - length hs ≡ 100 - (n + 3) / 4 * 4 = omega (arith, len, few) in
    ap (λ (es : List Entry). prepended (record { front = alone true; entries = es; cells = [] }) hs) one
    ∙ cond-true {A = List Entry} _ _ _ fits ∙ ap (λ (k : ℕ). entry (hs ++ xs) k None ∷ []) start

large_entries : (hs xs : List ℕ) (k : ℕ) → length hs ≡ 28 → 208 ≤ length xs → length xs ≤ 1992
    → sent_entries (k ∷ []) hs xs ≡ entry hs 100 None ∷ entry xs 56 (Some k) ∷ []
large_entries hs xs k len many most =
    let n : ℕ = length xs in
    let one : stored_first 56 true (k ∷ []) (user n) xs ≡ entry xs 56 (Some k) ∷ [] =
    ap (λ (rooms : List Room). stored_first 56 true (k ∷ []) rooms xs) (one_cluster 56 n (omega arith) many most)
    ∙ ap (λ (ys : List ℕ). entry ys 56 (Some k) ∷ []) (take_all n xs (le_refl n)) in
    let none : nat_le (length hs) 0 ≡ false = lt-leb _ _ (omega (arith, len)) in
    let start : at_end true (length hs) ≡ 100 = ap (at_end true) len in
    ap (λ (es : List Entry). prepended (record { front = alone true; entries = es; cells = [] }) hs) one
    ∙ cond-false {A = List Entry} _ _ _ none
    ∙ ap (λ (j : ℕ). entry hs j None ∷ entry xs 56 (Some k) ∷ []) start

lies : {p q : PoolView} {c : ℕ} (v : ChainView) (cs hs xs : List ℕ) → Adds p q c v → v.front.header ≡ true
    → length cs ≡ count_by is_cluster (sent (length xs)) → AreFree p cs → v.entries ≡ sent_entries cs hs xs
    → layout_entries v.entries ≡ entries_on cs (sent (length xs)) → length (string v) ≡ length xs + 28
    → IsSendLaidOut p xs cs q c
lies {p} {q} {c} v cs hs xs adds headed number free there is size =
    let shown : chain_of q c ≡ v = shown_adds adds in
    record {
      number = number;
      free = free;
      made = subst (λ (w : ChainView). Adds p q c w) (sym shown) adds;
      headed = ap (λ (w : ChainView). w.front.header) shown ∙ headed;
      headers = hs;
      entries = ap (λ (w : ChainView). w.entries) shown ∙ there;
      placed = ap (λ (w : ChainView). layout_entries w.entries) shown ∙ is;
      size = ap (λ (w : ChainView). length (string w)) shown ∙ size;
      held = omega (
        arith,
        held-adds adds,
        length-map {B = flat.LayoutEntry} v.entries
            (λ (e : Entry). record { size = length e.bytes; cluster = e.cluster }),
        ap (λ (es : List flat.LayoutEntry). length es) is,
        placed_count cs (sent (length xs)),
      );
    }

data_of : (hs xs ys : List ℕ) → length hs ≡ 28 → ys ≡ hs ++ xs → drop 28 ys ≡ xs
data_of hs xs ys len is = ap (drop 28) is ∙ ap (λ (k : ℕ). drop k (hs ++ xs)) (sym len) ∙ drop-append_seam hs xs

one_free : (p : PoolView) (k : ℕ) → k < p.clusters → references p k ≡ 0 → AreFree p (k ∷ [])
one_free p k within none = record {
  exist = (within, tt);
  free = (none, tt);
  once = λ j. omega (arith, count_cons (λ (i : ℕ). i == j) k [], most (k == j));
}
  where
    most : (b : Bool) → cond {A = ℕ} b 1 0 ≤ 1
    most true = omega arith
    most false = omega arith

-- in the mbuf itself
pub stored_plain : {p q : PoolView} {c : ℕ} (hs xs : List ℕ) → length hs ≡ 28 → length xs ≤ 72
    → Adds p q c (one_mbuf true (entry (hs ++ xs) (100 - (length xs + 3) / 4 * 4) None) c) → IsStored p xs q c
unfolding entries_on
stored_plain {p} {q} {c} hs xs len few adds =
    let v : ChainView = one_mbuf true (entry (hs ++ xs) (100 - (length xs + 3) / 4 * 4) None) c in
    let rooms = small_rooms (length xs) few in
    let whole : string v ≡ hs ++ xs = append-nil (hs ++ xs) in
    let size : length (hs ++ xs) ≡ 28 + length xs = omega (arith, length-append hs xs, len) in
    record {
      clusters = [];
      lies = lies v [] hs xs adds refl (sym (ap (count_by is_cluster) rooms))
          (record { exist = tt; free = tt; once = λ k. omega arith }) (sym (small_entries hs xs len few))
          ((λ i. record { size = size i; cluster = None } ∷ []) ∙ sym (ap (entries_on []) rooms))
          (omega (arith, ap (λ (ys : List ℕ). length ys) whole, size));
      holds = data_of hs xs (string (chain_of q c)) len (ap string (shown_adds adds) ∙ whole);
    }

pub plain_string : {p q : PoolView} {c : ℕ} (hs xs : List ℕ) (start : ℕ)
    → Adds p q c (one_mbuf true (entry (hs ++ xs) start None) c) → string (chain_of q c) ≡ hs ++ xs
plain_string hs xs start adds = ap string (shown_adds adds) ∙ append-nil (hs ++ xs)

-- in a cluster, after an mbuf with the headers
pub stored_cluster : {p q : PoolView} {c k : ℕ} (hs xs cells : List ℕ) → length hs ≡ 28 → 208 ≤ length xs
    → length xs ≤ 1992 → k < p.clusters → references p k ≡ 0
    → Adds p q c (record {
      front = alone true;
      entries = entry hs 100 None ∷ entry xs 56 (Some k) ∷ [];
      cells = cells;
    }) → IsStored p xs q c
unfolding entries_on
stored_cluster {p} {q} {c} {k} hs xs cells len many most within none adds =
    let v : ChainView = record {
      front = alone true;
      entries = entry hs 100 None ∷ entry xs 56 (Some k) ∷ [];
      cells = cells;
    } in
    let rooms = large_rooms (length xs) many most in
    let whole : string v ≡ hs ++ xs = ap (λ (ys : List ℕ). hs ++ ys) (append-nil xs) in
    record {
      clusters = k ∷ [];
      lies = lies v (k ∷ []) hs xs adds refl (sym (ap (count_by is_cluster) rooms)) (one_free p k within none)
          (sym (large_entries hs xs k len many most))
          ((λ i. record { size = len i; cluster = None } ∷ record { size = length xs; cluster = Some k } ∷ [])
          ∙ sym (ap (entries_on (k ∷ [])) rooms))
          (omega (arith, ap (λ (ys : List ℕ). length ys) whole, length-append hs xs, len));
      holds = data_of hs xs (string (chain_of q c)) len (ap string (shown_adds adds) ∙ whole);
    }

pub cluster_string : {p q : PoolView} {c k : ℕ} (hs xs : List ℕ) (start : ℕ) (cells : List ℕ)
    → Adds p q c (record {
      front = alone true;
      entries = entry hs start None ∷ entry xs 56 (Some k) ∷ [];
      cells = cells;
    }) → string (chain_of q c) ≡ hs ++ xs
cluster_string hs xs start cells adds = ap string (shown_adds adds) ∙ ap (λ (ys : List ℕ). hs ++ ys) (append-nil xs)

-- a new chain of one mbuf, after another mbuf
pub linked : {p q r : PoolView} {b c : ℕ} (e f : Entry) → Adds p q b (one_mbuf false f b)
    → Adds (without q b) r c (joined (one_mbuf true e c) (chain_of q b))
    → Adds p r c (record { front = alone true; entries = e ∷ f ∷ []; cells = c ∷ b ∷ [] })
linked {p} {q} {r} {b} {c} e f back front =
    let v : ChainView = one_mbuf true e c in
    subst (λ (w : ChainView). Adds p r c (joined v w)) (shown_adds back)
    (subst (λ (t : PoolView). Adds t r c (joined v (chain_of q b))) (adds_undone (without q b) back refl) front)

-- a send to the link uses the link's MTU
pub mtu_link : (c : Config) (ip : ℕ) → Way.Link ≡ way_of c ip → mtu_to c ip ≡ c.mtu
mtu_link c ip e = go (is_looped c ip) (ip == c.bcast) e
  where
    go : (u t : Bool) → Way.Link ≡ cond u Way.Loopback (cond t Way.Both Way.Link) → cond u 1536 c.mtu ≡ c.mtu
    go true t e = cc
    go false t e = refl

-- ---- its datagram

pub built_at : {p q : PoolView} {chain : ℕ} (x : sending.Sending) (headers : List ℕ) → IsStored p x.bytes q chain
    → string (chain_of q chain) ≡ headers ++ x.bytes → length headers ≡ 28
    → drop 20 headers ++ x.bytes ≡ sending.datagram x → IsBuilt p x q chain
built_at x headers stored is len whole = record {
  clusters = stored.clusters;
  lies = stored.lies;
  datagram = ap (drop 20) is ∙ drop-append-le 20 headers x.bytes (omega (arith, len)) ∙ whole;
}

-- The buffers of a send and of its packets: the layout in the flat machine, and the mbufs of a chain with that layout.
use Rattle.std.proofs.Common.{◌≡◌, ℕ, zero, suc, ◌+◌, ◌-◌, ◌<◌, ◌≤◌, min, max, Bool, true, false, cond, List, [], ◌∷◌, length, drop, Some, None, refl, sym, ap, ◌∙◌, arith, inl, inr}
use Rattle.std.specs.Prelude.{◌⊎◌, ◌==◌, ◌||◌, nat_lt, nat_le, sum_by, count_by}
use Rattle.std.proofs.lemmas.Bool.{cases_lt, le-leb, lt-leb, cond-true, cond-false, eqb-true, ne_eqb, true≢false}
use Rattle.std.proofs.lemmas.List.{length-map}
use Rattle.std.proofs.lemmas.List.Sums.{sum_by-cons}
use Rattle.flat_model.specs.Fragments.Cuts.{Part, cuts}
use Rattle.flat_model.specs.Amounts.Layout as flat
use Rattle.flat_model.specs.Amounts.Layout.{Room, Plain, Cluster, size_of, is_cluster, filled, next_room, or_empty, user, sent, entries_on, meets_from, meets, entries_met, need_of_part, need, need_bcast}
use Rattle.flat_model.specs.Machine.Send.{need_to}
use Rattle.flat_model.specs.Machine.Sending.{is_looped, mtu_to}
use Rattle.flat_model.specs.declared.config.Config.{Config}
use Rattle.mbuf_chain.specs.Chain.{ChainView, PoolView, held_mbufs, string}
use Rattle.chain_ops.specs.Weights.{layout_entries}
use Rattle.chain_ops.proofs.Laws.Rooms.{rest_rooms, rooms_step, rest_none}
use Rattle.ip_out.specs.declared.ways.Way.{Way}
use Rattle.ip_out.specs.Packets.{part_need, later_need}
use Rattle.ip_out.specs.Ways.{way_need}
use Rattle.ledger.specs.Reserve.{are_free}
use Rattle.ledger.proofs.Laws.{enough_mbufs}
use Rattle.sock_calls.specs.Inside.Putting.{IsRouted, way_of}

-- ---- layouts, and the mbufs with these layouts
pub placed_count : (cs : List ℕ) (rooms : List Room) → length (entries_on cs rooms) ≡ length rooms
unfolding entries_on
placed_count [] [] = refl
placed_count (c ∷ cs) [] = refl
placed_count [] (Plain n ∷ rooms) = ap suc (placed_count [] rooms)
placed_count (c ∷ cs) (Plain n ∷ rooms) = ap suc (placed_count (c ∷ cs) rooms)
placed_count [] (Cluster n ∷ rooms) = ap suc (placed_count [] rooms)
placed_count (c ∷ cs) (Cluster n ∷ rooms) = ap suc (placed_count cs rooms)

-- one more mbuf, which overlaps the range or doesn't
met_one : (at a b n : ℕ) (e : flat.LayoutEntry) (es : List flat.LayoutEntry) (room : Room) (rooms : List Room)
    → e.size ≡ size_of room
    → ((at : ℕ) → length (meets_from (λ (x : flat.LayoutEntry). x.size) at es a b)
    ≡ length (meets_from size_of at rooms a b))
    → length (meets_from (λ (x : flat.LayoutEntry). x.size) at (e ∷ es) a b)
    ≡ length (meets_from size_of at (room ∷ rooms) a b)
unfolding meets_from
met_one at a b n e es room rooms same later =
    ap (λ (k : ℕ). length (cond {A = List flat.LayoutEntry} (nat_lt (max at a) (min (at + k) b))
    (e ∷ meets_from (λ (x : flat.LayoutEntry). x.size) (at + k) es a b)
    (meets_from (λ (x : flat.LayoutEntry). x.size) (at + k) es a b))) same
    ∙ go (nat_lt (max at a) (min (at + size_of room) b)) (later (at + size_of room))
  where
    go : (t : Bool) → length (meets_from (λ (x : flat.LayoutEntry). x.size) (at + size_of room) es a b)
        ≡ length (meets_from size_of (at + size_of room) rooms a b)
        → length (cond {A = List flat.LayoutEntry} t
        (e ∷ meets_from (λ (x : flat.LayoutEntry). x.size) (at + size_of room) es a b)
        (meets_from (λ (x : flat.LayoutEntry). x.size) (at + size_of room) es a b))
        ≡ length (cond {A = List Room} t (room ∷ meets_from size_of (at + size_of room) rooms a b)
        (meets_from size_of (at + size_of room) rooms a b))
    go true h = ap suc h
    go false h = h

met_none : (at a b : ℕ) → length (meets_from (λ (x : flat.LayoutEntry). x.size) at [] a b)
    ≡ length (meets_from size_of at [] a b)
unfolding meets_from
met_none at a b = refl

met_placed : (cs : List ℕ) (rooms : List Room) (a b at : ℕ)
    → length (meets_from (λ (x : flat.LayoutEntry). x.size) at (entries_on cs rooms) a b)
    ≡ length (meets_from size_of at rooms a b)
unfolding entries_on
met_placed [] [] a b at = met_none at a b
met_placed (c ∷ cs) [] a b at = met_none at a b
met_placed [] (Plain n ∷ rooms) a b at = met_one at a b n (record { size = n; cluster = None }) (entries_on [] rooms)
    (Plain n) rooms refl (met_placed [] rooms a b)
met_placed (c ∷ cs) (Plain n ∷ rooms) a b at = met_one at a b n (record { size = n; cluster = None })
    (entries_on (c ∷ cs) rooms) (Plain n) rooms refl (met_placed (c ∷ cs) rooms a b)
met_placed [] (Cluster n ∷ rooms) a b at = met_one at a b n (record { size = n; cluster = None }) (entries_on [] rooms)
    (Cluster n) rooms refl (met_placed [] rooms a b)
met_placed (c ∷ cs) (Cluster n ∷ rooms) a b at = met_one at a b n (record { size = n; cluster = Some c })
    (entries_on cs rooms) (Cluster n) rooms refl (met_placed cs rooms a b)

-- ---- the buffers of the later fragments
parts_need : (v : ChainView) (cs : List ℕ) (rooms : List Room) → layout_entries v.entries ≡ entries_on cs rooms
    → (ps : List Part)
    → sum_by (part_need v) ps ≡ sum_by (need_of_part rooms) ps
parts_need v cs rooms is [] = refl
parts_need v cs rooms is (p ∷ ps) =
    let here : length (entries_met (layout_entries v.entries) (20 + p.offset) (20 + p.offset + p.size))
    ≡ length (meets rooms (20 + p.offset) (20 + p.offset + p.size)) =
    ap (λ (es : List flat.LayoutEntry). length (entries_met es (20 + p.offset) (20 + p.offset + p.size))) is
    ∙ met_placed cs rooms (20 + p.offset) (20 + p.offset + p.size) 0 in
    omega (
      arith,
      here,
      parts_need v cs rooms is ps,
      sum_by-cons (part_need v) p ps,
      sum_by-cons (need_of_part rooms) p ps,
    )

pub later_is : (v : ChainView) (cs : List ℕ) (n mtu : ℕ) → layout_entries v.entries ≡ entries_on cs (sent n)
    → length (string v) ≡ n + 28 → later_need v mtu ≡ sum_by (need_of_part (sent n)) (drop 1 (cuts (n + 8) mtu))
later_is v cs n mtu is size =
    let carried : length (string v) - 20 ≡ n + 8 = omega (arith, size) in
    ap (λ (k : ℕ). sum_by (part_need v) (drop 1 (cuts k mtu))) carried
    ∙ parts_need v cs (sent n) is (drop 1 (cuts (n + 8) mtu))

uncut : (n mtu : ℕ) → n + 28 ≤ mtu → drop 1 (cuts (n + 8) mtu) ≡ []
unfolding cuts
uncut n mtu h = ap (λ (ps : List Part). drop 1 ps)
    (cond-true {A = List Part} (nat_le (20 + (n + 8)) mtu) _ _ (le-leb (20 + (n + 8)) mtu (omega (arith, h))))

-- ---- the buffers of a send
pub some_sent : (n : ℕ) → 0 < length (sent n)
some_sent n = go (nat_le n 72)
  where
    go : (t : Bool) → 0 < length (cond {A = List Room} t (Plain (28 + n) ∷ []) (Plain 28 ∷ user n))
    go true = omega arith
    go false = omega arith

user_none : user 0 ≡ Plain 0 ∷ []
unfolding filled
user_none = refl

pub user_small : (n : ℕ) → n ≤ 72 → user n ≡ Plain n ∷ []
user_small zero h = user_none
user_small (suc m) h =
    let n : ℕ = suc m in
    let test : nat_le 208 n ≡ false = lt-leb 208 n (omega (arith, h)) in
    let least : min n 100 ≡ n = omega (arith, h) in
    let room : next_room 1992 100 n ≡ Plain n = cond-false {A = Room} _ _ _ test ∙ ap Plain least in
    let none : n - n ≡ 0 = omega arith in
    ap or_empty (rooms_step 1992 100 n (omega arith) (omega arith) (omega arith))
    ∙ (λ j. or_empty (room j ∷ rest_rooms (n - size_of (room j)))) ∙ ap (λ (k : ℕ). Plain n ∷ rest_rooms k) none
    ∙ ap (λ (rs : List Room). Plain n ∷ rs) rest_none

-- without the headers, a layout has the same number of clusters, and no more mbufs
pub record Beside (n : ℕ) : Type 0 where
  pub clusters : count_by is_cluster (sent n) ≡ count_by is_cluster (user n)
  pub mbufs : length (user n) ≤ length (sent n)

pub beside : (n : ℕ) → Beside n
beside n = go (cases_lt 72 n)
  where
    go : (72 < n) ⊎ (n ≤ 72) → Beside n
    go (inl h) =
        let is : sent n ≡ Plain 28 ∷ user n = cond-false {A = List Room} _ _ _ (lt-leb n 72 h) in
        record { clusters = ap (count_by is_cluster) is; mbufs = omega (arith, ap (λ (rs : List Room). length rs) is) }
    go (inr h) =
        let is : sent n ≡ Plain (28 + n) ∷ [] = cond-true {A = List Room} _ _ _ (le-leb n 72 h) in
        let small = user_small n h in
        record {
          clusters = ap (count_by is_cluster) is ∙ sym (ap (count_by is_cluster) small);
          mbufs = omega (arith, ap (λ (rs : List Room). length rs) is, ap (λ (rs : List Room). length rs) small);
        }

pub need_clusters : (c : Config) (ip n : ℕ) → (need_to c ip n).clusters ≡ count_by is_cluster (sent n)
need_clusters c ip n = go (ip == c.bcast)
  where
    go : (t : Bool) → (cond t (need_bcast n) (need n (mtu_to c ip))).clusters ≡ count_by is_cluster (sent n)
    go true = refl
    go false = refl

need_most : (c : Config) (ip n : ℕ) → length (sent n) ≤ (need_to c ip n).mbufs
need_most c ip n = go (ip == c.bcast)
  where
    go : (t : Bool) → length (sent n) ≤ (cond t (need_bcast n) (need n (mtu_to c ip))).mbufs
    go true = omega arith
    go false = omega arith

pub has_mbufs : (p : PoolView) (c : Config) (ip n : ℕ)
    → are_free p (need_to c ip n).mbufs (need_to c ip n).clusters ≡ true
    → held_mbufs p + (need_to c ip n).mbufs ≤ p.mbufs
has_mbufs p c ip n h = enough_mbufs p (need_to c ip n).mbufs (need_to c ip n).clusters h
    (omega (arith, some_sent n, need_most c ip n))

-- ---- a send needs the buffers of its datagram and of its further packets
pub need_is_way : (c : Config) (ip n : ℕ) (v : ChainView) (cs : List ℕ) → IsRouted c → (ip ≡ c.bcast → n + 28 ≤ c.mtu)
    → layout_entries v.entries ≡ entries_on cs (sent n) → length (string v) ≡ n + 28
    → (need_to c ip n).mbufs ≡ length (sent n) + way_need (way_of c ip) v (mtu_to c ip)
need_is_way c ip n v cs routed fits is size = go (ip == c.bcast) refl (is_looped c ip) refl
  where
    count : length v.entries ≡ length (sent n)
    count = sym (length-map v.entries _) ∙ ap (λ (es : List flat.LayoutEntry). length es) is ∙ placed_count cs (sent n)

    not_looped : (ip == c.bcast) ≡ true → is_looped c ip ≡ false
    not_looped e =
        let b : ip ≡ c.bcast = eqb-true ip c.bcast e in
        λ i. ne_eqb ip c.addr (λ a. routed.apart (sym b ∙ a)) i || ne_eqb ip 2130706433
        (λ a. routed.outside (sym b ∙ a)) i

    go : (t : Bool) → (ip == c.bcast) ≡ t → (u : Bool) → is_looped c ip ≡ u
        → (cond t (need_bcast n) (need n (cond u 1536 c.mtu))).mbufs
        ≡ length (sent n) + way_need (cond u Way.Loopback (cond t Way.Both Way.Link)) v (cond u 1536 c.mtu)
    go true e true f = absurd (true≢false (sym f ∙ not_looped e))
    go true e false f = omega (
      arith,
      count,
      later_is v cs n c.mtu is size,
      ap (λ (ps : List Part). sum_by (need_of_part (sent n)) ps) (uncut n c.mtu (fits (eqb-true ip c.bcast e))),
    )
    go false e true f = omega (arith, later_is v cs n 1536 is size)
    go false e false f = omega (arith, later_is v cs n c.mtu is size)

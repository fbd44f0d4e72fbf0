-- The layouts have room for their bytes, and a send's packets weigh what its need names.
use Rattle.std.proofs.Common.{◌≡◌, ℕ, zero, suc, ◌+◌, ◌-◌, ◌*◌, ◌<◌, ◌≤◌, Bool, true, false, List, [], ◌∷◌, length, map, drop, refl, sym, ap, subst, arith, Option, Some, None, cond, min, max, ◌⊎◌, inl, inr}
use Rattle.std.specs.Prelude.{nat_lt, nat_le, count_by, sum_by}
use Rattle.std.specs.List.{AllByRecursion as Each, range_with_len, cons_option}
use Rattle.std.proofs.lemmas.Bool.{ltb-false, leb-true, cases_lt}
use Rattle.std.proofs.lemmas.List.Sums.{sum_by-cons}
use Rattle.flat_model.specs.Amounts.Weight.{Item, all_of}
use Rattle.flat_model.specs.Fragments.Cuts.{Part, part, chunk, chunks, cuts}
use Rattle.flat_model.specs.Amounts.Layout.{Room, Plain, Cluster, size_of, is_cluster, next_room, filled, or_empty, user, sent, wire, LayoutEntry, entries_on, weight_of, meets_from, need_of_part}
use Rattle.flat_model.specs.Packets.Header as Flat
use Rattle.flat_model.specs.Packets.Header.{packet}
use Rattle.flat_model.specs.Machine.Sending.{items, later_weight}
use Rattle.flat_model.specs.Runs.Consistent.{Carries}
use Rattle.flat_model.specs.declared.config.Config.{Config}
use Rattle.flat_model.proofs.Fragments.Grid.{chunk_some, chunk_fits, chunks_needed, cuts_short, cuts_long}
use Rattle.flat_model.proofs.Lists.Totals.{count_cons}
use Rattle.flat_model.proofs.Fragments.Overlaid.{carries_less}

-- ---- rooms

abbrev pub RoomFits : Room → Type 0
RoomFits (Plain n) = n ≤ 108
RoomFits (Cluster n) = n ≤ 2048

pub bytes_in : List Room → ℕ
bytes_in [] = 0
bytes_in (room ∷ rooms) = size_of room + bytes_in rooms

-- the next mbuf takes at least one byte, and no more than are left
record IsNext (room : Room) (left : ℕ) : Type 0 where
  fits : RoomFits room
  some : 0 < left → 1 ≤ size_of room
  most : size_of room ≤ left

next_is : (large small left : ℕ) → 1 ≤ large → large ≤ 2048 → 1 ≤ small → small ≤ 108
    → IsNext (next_room large small left) left
next_is large small left l1 l2 s1 s2 = go (nat_le 208 left)
  where
    go : (b : Bool) → IsNext (cond b (Cluster (min left large)) (Plain (min left small))) left
    go true = record { fits = omega arith; some = λ h. omega arith; most = omega arith }
    go false = record { fits = omega arith; some = λ h. omega arith; most = omega arith }

pub record IsFilled (rooms : List Room) (n : ℕ) : Type 0 where
  pub fit : Each RoomFits rooms
  pub bytes : bytes_in rooms ≡ n

filled_is : (most large small left : ℕ) → 1 ≤ large → large ≤ 2048 → 1 ≤ small → small ≤ 108 → left ≤ most
    → IsFilled (filled most large small left) left
unfolding filled bytes_in
filled_is zero large small left l1 l2 s1 s2 h = record { fit = tt; bytes = omega arith }
filled_is (suc most) large small zero l1 l2 s1 s2 h = record { fit = tt; bytes = refl }
filled_is (suc most) large small (suc less) l1 l2 s1 s2 h =
    let room : Room = next_room large small (suc less) in
    let n = next_is large small (suc less) l1 l2 s1 s2 in
    let some : 1 ≤ size_of room = n.some (omega arith) in
    let rest =
    filled_is most 2048 108 (suc less - size_of room) (omega arith) (omega arith) (omega arith) (omega arith)
    (omega arith) in
    record { fit = (n.fits, rest.fit); bytes = omega (arith, rest.bytes, n.most) }

or_empty_is : (rooms : List Room) (n : ℕ) → IsFilled rooms n → IsFilled (or_empty rooms) n
unfolding bytes_in
or_empty_is [] n f = record { fit = (omega arith, tt); bytes = omega (arith, f.bytes) }
or_empty_is (room ∷ rooms) n f = f

pub wire_is : (n : ℕ) → IsFilled (wire n) n
wire_is n =
    or_empty_is _ n (filled_is n 2048 100 n (omega arith) (omega arith) (omega arith) (omega arith) (omega arith))

user_is : (n : ℕ) → IsFilled (user n) n
user_is n =
    or_empty_is _ n (filled_is n 1992 100 n (omega arith) (omega arith) (omega arith) (omega arith) (omega arith))

pub sent_is : (n : ℕ) → IsFilled (sent n) (28 + n)
unfolding bytes_in
sent_is n = go (nat_le n 72) refl
  where
    go : (b : Bool) → nat_le n 72 ≡ b → IsFilled (cond b (Plain (28 + n) ∷ []) (Plain 28 ∷ user n)) (28 + n)
    go true e = let few : n ≤ 72 = leb-true n 72 e in record { fit = (omega arith, tt); bytes = omega arith }
    go false e = let u = user_is n in record { fit = (omega arith, u.fit); bytes = omega (arith, u.bytes) }

some_rooms : (rooms : List Room) → 1 ≤ length (or_empty rooms)
some_rooms [] = omega arith
some_rooms (room ∷ rooms) = omega arith

pub wire_some : (n : ℕ) → 1 ≤ length (wire n)
wire_some n = some_rooms _

pub sent_some : (n : ℕ) → 1 ≤ length (sent n)
sent_some n = go (nat_le n 72)
  where
    go : (b : Bool) → 1 ≤ length (cond b (Plain (28 + n) ∷ []) (Plain 28 ∷ user n))
    go true = omega arith
    go false = omega arith

-- ---- entries

record IsPlaced (rooms : List Room) (entries : List LayoutEntry) : Type 0 where
  number : length entries ≡ length rooms
  references : length (weight_of entries).bag ≤ length entries
  room : bytes_in rooms ≤ 108 * (length entries - length (weight_of entries).bag)
      + 2048 * length (weight_of entries).bag

placed_is : (clusters : List ℕ) (rooms : List Room) → length clusters ≡ count_by is_cluster rooms → Each RoomFits rooms
    → IsPlaced rooms (entries_on clusters rooms)
unfolding entries_on bytes_in
placed_is clusters [] e fit = record { number = refl; references = omega arith; room = omega arith }
placed_is clusters (Plain n ∷ rooms) e fit =
    let count = count_cons is_cluster (Plain n) rooms in
    let rest = placed_is clusters rooms (omega arith) fit.1 in
    record {
      number = omega (arith, rest.number);
      references = omega (arith, rest.references);
      room = omega (arith, rest.room, rest.references, fit.0);
    }
placed_is [] (Cluster n ∷ rooms) e fit = let count = count_cons is_cluster (Cluster n) rooms in absurd (omega arith)
placed_is (c ∷ clusters) (Cluster n ∷ rooms) e fit =
    let count = count_cons is_cluster (Cluster n) rooms in
    let rest = placed_is clusters rooms (omega arith) fit.1 in
    record {
      number = omega (arith, rest.number);
      references = omega (arith, rest.references);
      room = omega (arith, rest.room, rest.references, fit.0);
    }

-- the clusters of a layout are those that it was given
each_placed : (P : ℕ → Type 0) (clusters : List ℕ) (rooms : List Room) → Each P clusters
    → Each P (weight_of (entries_on clusters rooms)).bag
unfolding entries_on
each_placed P clusters [] h = tt
each_placed P clusters (Plain n ∷ rooms) h = each_placed P clusters rooms h
each_placed P [] (Cluster n ∷ rooms) h = each_placed P [] rooms tt
each_placed P (c ∷ clusters) (Cluster n ∷ rooms) h = (h.0, each_placed P clusters rooms h.1)

pub placed_mbufs : (clusters : List ℕ) (rooms : List Room) → length (entries_on clusters rooms) ≡ length rooms
unfolding entries_on
placed_mbufs clusters [] = refl
placed_mbufs clusters (Plain n ∷ rooms) = ap suc (placed_mbufs clusters rooms)
placed_mbufs [] (Cluster n ∷ rooms) = ap suc (placed_mbufs [] rooms)
placed_mbufs (c ∷ clusters) (Cluster n ∷ rooms) = ap suc (placed_mbufs clusters rooms)

-- the memory of a layout is that of its rooms
pub placed_memory : (clusters : List ℕ) (rooms : List Room) → length clusters ≡ count_by is_cluster rooms
    → 128 * length (entries_on clusters rooms) + 2048 * length (weight_of (entries_on clusters rooms)).bag
    ≡ 128 * length rooms + 2048 * count_by is_cluster rooms
unfolding entries_on
placed_memory clusters [] e = refl
placed_memory clusters (Plain n ∷ rooms) e =
    let count = count_cons is_cluster (Plain n) rooms in
    let rest = placed_memory clusters rooms (omega arith) in
    omega arith
placed_memory [] (Cluster n ∷ rooms) e = let count = count_cons is_cluster (Cluster n) rooms in absurd (omega arith)
placed_memory (c ∷ clusters) (Cluster n ∷ rooms) e =
    let count = count_cons is_cluster (Cluster n) rooms in
    let rest = placed_memory clusters rooms (omega arith) in
    omega arith

pub placed_carries : (c : Config) (clusters : List ℕ) (rooms : List Room) (n : ℕ) → IsFilled rooms n → 1 ≤ length rooms
    → length clusters ≡ count_by is_cluster rooms
    → Each (λ k. k < c.clusters) clusters → Carries c (weight_of (entries_on clusters rooms)) n
placed_carries c clusters rooms n f some e exist =
    let l = placed_is clusters rooms e f.fit in
    record {
      covers =
          record { some = omega (arith, l.number); references = l.references; room = omega (arith, l.room, f.bytes) };
      exist = each_placed (λ k. k < c.clusters) clusters rooms exist;
    }

-- ---- the mbufs that overlap a range

-- the number of bytes of a stretch that are in the range
shared : ℕ → ℕ → ℕ → ℕ → ℕ
shared at size a b = min (at + size) b - max at a

shared_none : (at a b : ℕ) → shared at 0 a b ≤ 0
unfolding shared
shared_none at a b = omega arith

-- n more bytes at the start of a stretch add at most n
shared_more : (at n size a b : ℕ) → shared at (n + size) a b ≤ n + shared (at + n) size a b
unfolding shared
shared_more at n size a b = omega arith

shared_past : (at n size a b : ℕ) → min (at + n) b ≤ max at a → shared at (n + size) a b ≤ shared (at + n) size a b
unfolding shared
shared_past at n size a b none = omega arith

record IsMet (at : ℕ) (rooms : List Room) (a b : ℕ) (met : List LayoutEntry) : Type 0 where
  references : length (weight_of met).bag ≤ length met
  room : shared at (bytes_in rooms) a b
      ≤ 108 * (length met - length (weight_of met).bag) + 2048 * length (weight_of met).bag

met_is : (clusters : List ℕ) (rooms : List Room) (at a b : ℕ) → length clusters ≡ count_by is_cluster rooms
    → Each RoomFits rooms
    → IsMet at rooms a b (meets_from (λ (entry : LayoutEntry). entry.size) at (entries_on clusters rooms) a b)
unfolding entries_on bytes_in meets_from
met_is clusters [] at a b e fit = record { references = omega arith; room = omega (arith, shared_none at a b) }
met_is clusters (Plain n ∷ rooms) at a b e fit =
    let count = count_cons is_cluster (Plain n) rooms in
    go (met_is clusters rooms (at + n) a b (omega arith) fit.1) (nat_lt (max at a) (min (at + n) b)) refl
  where
    later : List LayoutEntry
    later = meets_from (λ (entry : LayoutEntry). entry.size) (at + n) (entries_on clusters rooms) a b

    go : IsMet (at + n) rooms a b
        (meets_from (λ (entry : LayoutEntry). entry.size) (at + n) (entries_on clusters rooms) a
        b)
        → (t : Bool) → nat_lt (max at a) (min (at + n) b) ≡ t
        → IsMet at (Plain n ∷ rooms) a b
        (cond t (record { size = n; cluster = None }
        ∷ meets_from (λ (entry : LayoutEntry). entry.size) (at + n) (entries_on clusters rooms) a b) (meets_from
        (λ (entry : LayoutEntry). entry.size) (at + n) (entries_on clusters rooms) a b))
    go rest true t =
        record {
          references = omega (arith, rest.references);
          room = omega (arith, shared_more at n (bytes_in rooms) a b, rest.room, rest.references, fit.0);
        }
    go rest false t =
        record {
          references = rest.references;
          room = omega (arith, shared_past at n (bytes_in rooms) a b (ltb-false _ _ t), rest.room);
        }
met_is [] (Cluster n ∷ rooms) at a b e fit = let count = count_cons is_cluster (Cluster n) rooms in absurd (omega arith)
met_is (c ∷ clusters) (Cluster n ∷ rooms) at a b e fit =
    let count = count_cons is_cluster (Cluster n) rooms in
    go (met_is clusters rooms (at + n) a b (omega arith) fit.1) (nat_lt (max at a) (min (at + n) b)) refl
  where
    go : IsMet (at + n) rooms a b
        (meets_from (λ (entry : LayoutEntry). entry.size) (at + n) (entries_on clusters rooms) a
        b)
        → (t : Bool) → nat_lt (max at a) (min (at + n) b) ≡ t
        → IsMet at (Cluster n ∷ rooms) a b
        (cond t (record { size = n; cluster = Some c }
        ∷ meets_from (λ (entry : LayoutEntry). entry.size) (at + n) (entries_on clusters rooms) a b) (meets_from
        (λ (entry : LayoutEntry). entry.size) (at + n) (entries_on clusters rooms) a b))
    go rest true t =
        record {
          references = omega (arith, rest.references);
          room = omega (arith, shared_more at n (bytes_in rooms) a b, rest.room, rest.references, fit.0);
        }
    go rest false t =
        record {
          references = rest.references;
          room = omega (arith, shared_past at n (bytes_in rooms) a b (ltb-false _ _ t), rest.room);
        }

met_number : (clusters : List ℕ) (rooms : List Room) (at a b : ℕ)
    → length (meets_from (λ (entry : LayoutEntry). entry.size) at (entries_on clusters rooms) a b)
    ≡ length (meets_from size_of at rooms a b)
unfolding entries_on meets_from
met_number clusters [] at a b = refl
met_number clusters (Plain n ∷ rooms) at a b =
    go (nat_lt (max at a) (min (at + n) b)) _ _ (met_number clusters rooms (at + n) a b)
  where
    go : (t : Bool) (xs : List LayoutEntry) (ys : List Room) → length xs ≡ length ys
        → length (cond t (record { size = n; cluster = None } ∷ xs) xs) ≡ length (cond t (Plain n ∷ ys) ys)
    go true xs ys e = ap suc e
    go false xs ys e = e
met_number [] (Cluster n ∷ rooms) at a b =
    go (nat_lt (max at a) (min (at + n) b)) _ _ (met_number [] rooms (at + n) a b)
  where
    go : (t : Bool) (xs : List LayoutEntry) (ys : List Room) → length xs ≡ length ys
        → length (cond t (record { size = n; cluster = None } ∷ xs) xs) ≡ length (cond t (Cluster n ∷ ys) ys)
    go true xs ys e = ap suc e
    go false xs ys e = e
met_number (c ∷ clusters) (Cluster n ∷ rooms) at a b =
    go (nat_lt (max at a) (min (at + n) b)) _ _ (met_number clusters rooms (at + n) a b)
  where
    go : (t : Bool) (xs : List LayoutEntry) (ys : List Room) → length xs ≡ length ys
        → length (cond t (record { size = n; cluster = Some c } ∷ xs) xs) ≡ length (cond t (Cluster n ∷ ys) ys)
    go true xs ys e = ap suc e
    go false xs ys e = e

each_met : (P : ℕ → Type 0) (entries : List LayoutEntry) (at a b : ℕ) → Each P (weight_of entries).bag
    → Each P (weight_of (meets_from (λ (entry : LayoutEntry). entry.size) at entries a b)).bag
unfolding meets_from
each_met P [] at a b h = tt
each_met P (x ∷ xs) at a b h =
    go (nat_lt (max at a) (min (at + x.size) b)) x.cluster _ (each_met P xs (at + x.size) a b) h
  where
    rest : List LayoutEntry
    rest = meets_from (λ (entry : LayoutEntry). entry.size) (at + x.size) xs a b

    with_it : (o : Option ℕ) (ks ms : List ℕ) → (Each P ks → Each P ms) → Each P (cons_option o ks)
        → Each P (cons_option o ms) × Each P ms
    with_it None ks ms f h = (f h, f h)
    with_it (Some k) ks ms f h = ((h.0, f h.1), f h.1)

    go : (t : Bool) (o : Option ℕ) (ys : List LayoutEntry) → (Each P (weight_of xs).bag → Each P (weight_of ys).bag)
        → Each P (cons_option o (weight_of xs).bag)
        → Each P (weight_of (cond t (record { size = x.size; cluster = o } ∷ ys) ys)).bag
    go true o ys f h = (with_it o _ _ f h).0
    go false o ys f h = (with_it o _ _ f h).1

-- ---- the packets of a send

-- a part of a datagram of n bytes, in a packet that fits the link
pub record PartFits (n mtu : ℕ) (p : Part) : Type 0 where
  pub inside : p.offset + p.size ≤ n
  pub within : 20 + p.size ≤ mtu

grid_fits : (n mtu c i k : ℕ) → ((j : ℕ) → j < i + k → j * c < n) → 20 + c ≤ mtu
    → Each (PartFits n mtu) (map (part n c) (range_with_len i k))
grid_fits n mtu c i zero h le = tt
grid_fits n mtu c i (suc k) h le =
    let below : i * c < n = h i (omega arith) in
    (record { inside = omega arith; within = omega arith }, grid_fits n mtu c (i + 1) k (λ j l. h j (omega arith)) le)

pub parts_fit : (n mtu : ℕ) → 28 ≤ mtu → Each (PartFits n mtu) (cuts n mtu)
parts_fit n mtu low = go (cases_lt mtu (20 + n))
  where
    go : (mtu < 20 + n) ⊎ (20 + n ≤ mtu) → Each (PartFits n mtu) (cuts n mtu)
    go (inr h) =
        subst (Each (PartFits n mtu)) (sym (cuts_short n mtu h)) (record { inside = omega arith; within = h }, tt)
    go (inl h) = subst (Each (PartFits n mtu)) (sym (cuts_long n mtu h))
        (grid_fits n mtu (chunk mtu) 0 (chunks n (chunk mtu))
        (λ j l. chunks_needed n (chunk mtu) j (omega (arith, chunk_some mtu low)) (omega arith)) (chunk_fits mtu low))

pub length-packet : (h : Flat.Head) (t : List ℕ) → length (packet h t) ≡ 20 + length t
unfolding packet
length-packet h t = omega arith

-- an item with room for its packet, which fits the link
pub record ItemFits (c : Config) (mtu : ℕ) (item : Item) : Type 0 where
  pub carries : Carries c item.weight (length item.bytes)
  pub fits : length item.bytes ≤ mtu

module _ (c : Config) (clusters : List ℕ) (n mtu : ℕ) (number : length clusters ≡ count_by is_cluster (sent n))
    (exist : Each (λ k. k < c.clusters) clusters)
    (bytes : Part → List ℕ) (sizes : (p : Part) → length (bytes p) ≤ 20 + p.size) where
  later_fits : (p : Part) → PartFits (n + 8) mtu p
      → ItemFits c mtu (record { bytes = bytes p; weight = later_weight (entries_on clusters (sent n)) p })
  unfolding shared
  later_fits p fit =
      let f = sent_is n in
      let met = met_is clusters (sent n) 0 (20 + p.offset) (20 + p.offset + p.size) number f.fit in
      record {
        carries = record {
          covers =
              record {
                some = omega arith;
                references = omega (arith, met.references);
                room = omega (arith, met.room, met.references, f.bytes, fit.inside, sizes p);
              };
          exist =
              each_met (λ k. k < c.clusters) (entries_on clusters (sent n)) 0 (20 + p.offset) (20 + p.offset + p.size)
              (each_placed (λ k. k < c.clusters) clusters (sent n) exist);
        };
        fits = omega (arith, sizes p, fit.within);
      }

  pub items_fit : (parts : List Part) → Each (PartFits (n + 8) mtu) parts
      → Each (ItemFits c mtu) (items (entries_on clusters (sent n)) bytes parts)
  items_fit [] h = tt
  items_fit (p ∷ later) h = (
    record {
      carries =
          carries_less c (weight_of (entries_on clusters (sent n))) (length (bytes p)) (28 + n)
          (omega (arith, sizes p, h.0.inside))
          (placed_carries c clusters (sent n) (28 + n) (sent_is n) (sent_some n) number exist);
      fits = omega (arith, sizes p, h.0.within);
    },
    rest later h.1,
  )
    where
      rest : (parts : List Part) → Each (PartFits (n + 8) mtu) parts
          → Each (ItemFits c mtu) (map (λ q. record
          { bytes = bytes q; weight = later_weight (entries_on clusters (sent n)) q }) parts)
      rest [] h = tt
      rest (q ∷ qs) h = (later_fits q h.0, rest qs h.1)

  later_mbufs : (parts : List Part)
      → (all_of (λ (item : Item). item.weight)
      (map (λ q. record { bytes = bytes q; weight = later_weight (entries_on clusters (sent n)) q })
      parts)).mbufs ≡ sum_by (need_of_part (sent n)) parts
  later_mbufs [] = refl
  later_mbufs (q ∷ qs) =
      let here = met_number clusters (sent n) 0 (20 + q.offset) (20 + q.offset + q.size) in
      let rest = later_mbufs qs in
      let sum = sum_by-cons (need_of_part (sent n)) q qs in
      omega arith

  pub items_mbufs : (parts : List Part)
      → (all_of (λ (item : Item). item.weight) (items (entries_on clusters (sent n)) bytes parts)).mbufs
      ≤ length (sent n) + sum_by (need_of_part (sent n)) (drop 1 parts)
  items_mbufs [] = omega arith
  items_mbufs (p ∷ later) =
      let first = placed_mbufs clusters (sent n) in
      let rest = later_mbufs later in
      omega arith

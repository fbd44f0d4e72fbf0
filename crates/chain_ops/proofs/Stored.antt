-- Laws of stored bytes.
use Rattle.std.proofs.Common.{◌≡◌, ℕ, zero, suc, ◌+◌, ◌-◌, ◌<◌, ◌≤◌, min, cond, Bool, true, false, List, [], ◌∷◌, ◌++◌, length, take, drop, count_by, nat_eq, Option, None, Some, refl, sym, ap, ◌∙◌, subst, arith, inl, inr, append_assoc, append-nil}
use Rattle.std.specs.Prelude.{nat_le, option_to_list}
use Rattle.std.specs.List.{AllByRecursion}
use Rattle.std.proofs.lemmas.Bool.{cases_eq, lt-leb}
use Rattle.std.proofs.lemmas.List.{length-drop, length-take, take_all, take-append-drop}
use Rattle.std.proofs.lemmas.List.Sums.{sum_by-cons}
use Rattle.mbuf_chain.specs.Chain.{Entry, flat_bytes, ChainView, PoolView, IsLive, chain_of, with_chain, references, references_of, refers, free_clusters}
use Rattle.mbuf_chain.specs.Steps.{one_mbuf, joined}
use Rattle.mbuf_chain.specs.Owners.{times_among}
use Rattle.mbuf_chain.proofs.Laws.Owners.{times-append}
use Rattle.mbuf_chain.proofs.Laws.Accounts.{references-with, free-same, free-taken}
use Rattle.flat_model.specs.Amounts.Layout as flat
use Rattle.flat_model.specs.Amounts.Layout.{Room, Plain, Cluster, filled, or_empty, is_cluster, next_room, size_of, entries_on, user, wire}
use Rattle.chain_ops.specs.Weights.{layout_entries}
use Rattle.chain_ops.proofs.Laws.Rooms.{next_some, next_most, rest_rooms, rest_none, rooms_step}
use Rattle.chain_ops.specs.Stored.{AreFree, IsClusterTaken, stored, stored_first, first_start, rooms_for}

-- ---- the entry of a room
pub stored_step : (p : PoolView) (o : Option ℕ) (ds : List ℕ) (m : ℕ) (rooms : List Room) (xs : List ℕ) (b : Bool)
    → nat_le 208 m ≡ b → IsClusterTaken p b o
    → stored (option_to_list o ++ ds) (next_room 2048 108 m ∷ rooms) xs
    ≡ record { bytes = take (size_of (next_room 2048 108 m)) xs; start = cond b 0 20; cluster = o }
    ∷ stored ds rooms (drop (size_of (next_room 2048 108 m)) xs)
stored_step p o ds m rooms xs b test taken = go (nat_le 208 m) b o test taken
  where
    go : (t b : Bool) (o : Option ℕ) → t ≡ b → IsClusterTaken p b o
        → stored (option_to_list o ++ ds) (cond t (Cluster (min m 2048)) (Plain (min m 108)) ∷ rooms) xs
        ≡ record {
          bytes = take (size_of (cond t (Cluster (min m 2048)) (Plain (min m 108)))) xs;
          start = cond b 0 20;
          cluster = o;
        } ∷ stored ds rooms (drop (size_of (cond t (Cluster (min m 2048)) (Plain (min m 108)))) xs)
    go true true (Some c) e h = refl
    go true true None e h = absurd h
    go false false None e h = refl
    go false false (Some c) e h = absurd h
    go true false o e h = absurd (Rattle.std.proofs.lemmas.Bool.true≢false e)
    go false true o e h = absurd (Rattle.std.proofs.lemmas.Bool.false≢true e)

pub stored_begin : (p : PoolView) (large : ℕ) (ends : Bool) (o : Option ℕ) (ds : List ℕ) (m : ℕ) (rooms : List Room)
    (xs : List ℕ) (b : Bool) → nat_le 208 m ≡ b → IsClusterTaken p b o
    → stored_first large ends (option_to_list o ++ ds) (next_room (2048 - large) 100 m ∷ rooms) xs
    ≡ record {
      bytes = take (size_of (next_room (2048 - large) 100 m)) xs;
      start = cond b large (first_start ends (size_of (next_room (2048 - large) 100 m)));
      cluster = o;
    }
    ∷ stored ds rooms (drop (size_of (next_room (2048 - large) 100 m)) xs)
stored_begin p large ends o ds m rooms xs b test taken = go (nat_le 208 m) b o test taken
  where
    go : (t b : Bool) (o : Option ℕ) → t ≡ b → IsClusterTaken p b o
        → stored_first large ends (option_to_list o ++ ds)
        (cond t (Cluster (min m (2048 - large))) (Plain (min m 100)) ∷ rooms) xs
        ≡ record {
          bytes = take (size_of (cond t (Cluster (min m (2048 - large))) (Plain (min m 100)))) xs;
          start =
              cond b large (first_start ends (size_of (cond t (Cluster (min m (2048 - large))) (Plain (min m 100)))));
          cluster = o;
        }
        ∷ stored ds rooms (drop (size_of (cond t (Cluster (min m (2048 - large))) (Plain (min m 100)))) xs)
    go true true (Some c) e h = refl
    go true true None e h = absurd h
    go false false None e h = refl
    go false false (Some c) e h = absurd h
    go true false o e h = absurd (Rattle.std.proofs.lemmas.Bool.true≢false e)
    go false true o e h = absurd (Rattle.std.proofs.lemmas.Bool.false≢true e)

-- how many clusters a room takes
pub room_clusters : (p : PoolView) (large small m : ℕ) (rooms : List Room) (b : Bool) (o : Option ℕ) → nat_le 208 m ≡ b
    → IsClusterTaken p b o
    → count_by is_cluster (next_room large small m ∷ rooms) ≡ length (option_to_list o) + count_by is_cluster rooms
room_clusters p large small m rooms b o test taken =
    sum_by-cons (λ (r : Room). cond {A = ℕ} (is_cluster r) 1 0) (next_room large small m) rooms
    ∙ ap (λ (n : ℕ). n + count_by is_cluster rooms) (go (nat_le 208 m) b o test taken)
  where
    go : (t b : Bool) (o : Option ℕ) → t ≡ b → IsClusterTaken p b o
        → cond {A = ℕ} (is_cluster (cond t (Cluster (min m large)) (Plain (min m small)))) 1 0
        ≡ length (option_to_list o)
    go true true (Some c) e h = refl
    go true true None e h = absurd h
    go false false None e h = refl
    go false false (Some c) e h = absurd h
    go true false o e h = absurd (Rattle.std.proofs.lemmas.Bool.true≢false e)
    go false true o e h = absurd (Rattle.std.proofs.lemmas.Bool.false≢true e)

-- ---- the ledger
pub refs_one : (k d : ℕ) (header : Bool) (e : Entry)
    → references_of k (one_mbuf header e d) ≡ times_among k (option_to_list e.cluster)
refs_one k d header e = sum_by-cons (λ (f : Entry). cond {A = ℕ} (refers k f) 1 0) e [] ∙ go e.cluster
  where
    go : (o : Option ℕ) → cond {A = ℕ} (Rattle.std.specs.Option.option_eq nat_eq o (Some k)) 1 0 + 0
        ≡ times_among k (option_to_list o)
    go None = refl
    go (Some c) = refl

count-append : (q : Entry → Bool) (es fs : List Entry) → count_by q (es ++ fs) ≡ count_by q es + count_by q fs
count-append q [] fs = omega arith
count-append q (e ∷ es) fs =
    omega (
      arith,
      count-append q es fs,
      sum_by-cons (λ (f : Entry). cond {A = ℕ} (q f) 1 0) e (es ++ fs),
      sum_by-cons (λ (f : Entry). cond {A = ℕ} (q f) 1 0) e es,
    )

pub refs_joined : (k : ℕ) (v w : ChainView) → references_of k (joined v w) ≡ references_of k v + references_of k w
refs_joined k v w = count-append (refers k) v.entries w.entries

pub refs_linked : (p r : PoolView) (c k : ℕ) (w : ChainView) → IsLive p c → r ≡ with_chain p c (joined (chain_of p c) w)
    → references r k ≡ references p k + references_of k w
refs_linked p r c k w live is =
    omega (arith, references-with p r c k (joined (chain_of p c) w) live is, refs_joined k (chain_of p c) w)

pub ledger_step : (p r : PoolView) (b : Bool) (o : Option ℕ) → r.clusters ≡ p.clusters
    → ((k : ℕ) → references r k ≡ references p k + times_among k (option_to_list o)) → IsClusterTaken p b o
    → free_clusters r + length (option_to_list o) ≡ free_clusters p
ledger_step p r true None e h t = absurd t
ledger_step p r true (Some c) e h t =
    omega (
      arith,
      free-taken p r c e t.0 t.1 (omega (arith, h c, Rattle.mbuf_chain.proofs.Laws.Owners.times_same c []))
          (λ k ne. omega (arith, h k, Rattle.mbuf_chain.proofs.Laws.Owners.times_other k c [] ne)),
    )
ledger_step p r false None e h t = omega (arith, free-same p r e (λ k. omega (arith, h k)))
ledger_step p r false (Some c) e h t = absurd t

pub none_free : (p : PoolView) → AreFree p []
none_free p = record { exist = tt; free = tt; once = λ c. omega arith }

all-append : (P : ℕ → Type 0) (xs ys : List ℕ) → AllByRecursion P xs → AllByRecursion P ys → AllByRecursion P (xs ++ ys)
all-append P [] ys h k = k
all-append P (x ∷ xs) ys h k = (h.0, all-append P xs ys h.1 k)

-- one more cluster
pub free_more : (p : PoolView) (cs : List ℕ) (b : Bool) (o : Option ℕ) → AreFree p cs
    → ((c : ℕ) → o ≡ Some c → (c < p.clusters) × (references p c ≡ 0) × (times_among c cs ≡ 0))
    → AreFree p (cs ++ option_to_list o)
free_more p cs b None h t = subst (AreFree p) (sym (append-nil cs)) h
free_more p cs b (Some c) h t =
    let new = t c refl in
    record {
      exist = all-append (λ k. k < p.clusters) cs (c ∷ []) h.exist (new.0, tt);
      free = all-append (λ k. references p k ≡ 0) cs (c ∷ []) h.free (new.1, tt);
      once = λ k. elim (cases_eq k c) [
        | inl e ↦ subst (λ (j : ℕ). times_among j (cs ++ c ∷ []) ≤ 1) (sym e)
            (omega (arith, new.2, times-append c cs (c ∷ []), Rattle.mbuf_chain.proofs.Laws.Owners.times_same c []))
        | inr ne ↦ omega (
          arith,
          h.once k,
          times-append k cs (c ∷ []),
          Rattle.mbuf_chain.proofs.Laws.Owners.times_other k c [] ne,
        )
      ];
    }

pub taken_is : (p : PoolView) (b : Bool) (o : Option ℕ) → IsClusterTaken p b o → (c : ℕ) → o ≡ Some c
    → (c < p.clusters) × (references p c ≡ 0)
taken_is p true None t c e = absurd t
taken_is p true (Some d) t c e =
    subst (λ (k : ℕ). (k < p.clusters) × (references p k ≡ 0)) (Rattle.std.proofs.lemmas.Option.same_Some d c e) t
taken_is p false None t c e = absurd (Rattle.std.proofs.lemmas.Option.none-some c e)
taken_is p false (Some d) t c e = absurd t

pub rooms_begin : (large m : ℕ) → large ≤ 56
    → rooms_for large m ≡ next_room (2048 - large) 100 m ∷ rest_rooms (m - size_of (next_room (2048 - large) 100 m))
unfolding filled
rooms_begin large zero h = refl
rooms_begin large (suc m) h =
    ap or_empty (rooms_step (2048 - large) 100 (suc m) (omega arith) (omega arith) (omega arith))

small_most : (large m : ℕ) → nat_le 208 m ≡ false → size_of (next_room large 100 m) ≤ 100
small_most large m e =
    subst (λ (b : Bool). size_of (cond b (Cluster (min m large)) (Plain (min m 100))) ≤ 100) (sym e) (omega arith)

start_is : (large m : ℕ) (ends b : Bool) → nat_le 208 m ≡ b
    → cond b large (first_start ends (min (size_of (next_room (2048 - large) 100 m)) 100))
    ≡ cond b large (first_start ends (size_of (next_room (2048 - large) 100 m)))
start_is large m ends true e = refl
start_is large m ends false e =
    let most = small_most (2048 - large) m e in
    let same : min (size_of (next_room (2048 - large) 100 m)) 100 ≡ size_of (next_room (2048 - large) 100 m) =
    omega (arith, most) in
    ap (first_start ends) same

-- few bytes take one plain mbuf
pub few_rooms : (large m : ℕ) → large ≤ 56 → m ≤ 100 → rooms_for large m ≡ Plain m ∷ []
few_rooms large m h few =
    let all : min m 100 ≡ m = omega arith in
    let none : m - m ≡ 0 = omega arith in
    let room : next_room (2048 - large) 100 m ≡ Plain m =
    ap (λ (b : Bool). cond b (Cluster (min m (2048 - large))) (Plain (min m 100))) (lt-leb 208 m (omega arith))
    ∙ ap {B = Room} Plain all in
    rooms_begin large m h ∙ ap (λ (r : Room). r ∷ rest_rooms (m - size_of r)) room
    ∙ ap (λ (k : ℕ). Plain m ∷ rest_rooms k) none ∙ ap (λ (rs : List Room). Plain m ∷ rs) rest_none

pub few_stored : (large : ℕ) (ends : Bool) (start : ℕ) (xs : List ℕ) → large ≤ 56 → length xs ≤ 100
    → start ≡ first_start ends (min (length xs) 100)
    → record { bytes = xs; start = start; cluster = None } ∷ []
    ≡ stored_first large ends [] (rooms_for large (length xs)) xs
few_stored large ends start xs h few is =
    let all : min (length xs) 100 ≡ length xs = omega arith in
    let at : start ≡ first_start ends (length xs) = is ∙ ap (first_start ends) all in
    let here : record { bytes = xs; start = start; cluster = None }
    ≡ record { bytes = take (length xs) xs; start = first_start ends (length xs); cluster = None } =
    λ j. record { bytes = sym (take_all (length xs) xs (omega arith)) j; start = at j; cluster = None } in
    ap (λ (e : Entry). e ∷ []) here
    ∙ ap (λ (rooms : List Room). stored_first large ends [] rooms xs) (sym (few_rooms large (length xs) h few))

-- after the first mbuf was made
pub begin_all : (p : PoolView) (large : ℕ) (ends : Bool) (o : Option ℕ) (m : ℕ) (xs : List ℕ) (b : Bool) (len start : ℕ)
    (piece rest : List ℕ) (done : List Entry) → large ≤ 56 → nat_le 208 m ≡ b → IsClusterTaken p b o
    → len ≡ size_of (next_room (2048 - large) 100 m) → start ≡ first_start ends (min len 100) → piece ≡ take len xs
    → rest ≡ drop len xs → length rest ≡ m - len
    → done ≡ record { bytes = piece; start = cond b large start; cluster = o } ∷ []
    → (ds : List ℕ) → done ++ stored ds (rest_rooms (length rest)) rest
    ≡ stored_first large ends (option_to_list o ++ ds) (rooms_for large m) xs
begin_all p large ends o m xs b len start piece rest done most test taken size at front back left made ds =
    let n : ℕ = size_of (next_room (2048 - large) 100 m) in
    let at' : start ≡ first_start ends (min n 100) = at ∙ ap (λ (k : ℕ). first_start ends (min k 100)) size in
    let start' : cond b large start ≡ cond b large (first_start ends n) =
    ap (cond b large) at' ∙ start_is large m ends b test in
    let front' : piece ≡ take n xs = front ∙ ap (λ (k : ℕ). take k xs) size in
    let back' : rest ≡ drop n xs = back ∙ ap (λ (k : ℕ). drop k xs) size in
    let left' : length rest ≡ m - n = left ∙ ap (λ (k : ℕ). m - k) size in
    (λ j. made j ++ stored ds (rest_rooms (left' j)) (back' j))
    ∙ (λ j. let e : Entry = record { bytes = front' j; start = start' j; cluster = o } in
    e ∷ stored ds (rest_rooms (m - n)) (drop n xs))
    ∙ sym (stored_begin p large ends o ds m (rest_rooms (m - n)) xs b test taken)
    ∙ ap (λ (rooms : List Room). stored_first large ends (option_to_list o ++ ds) rooms xs)
    (sym (rooms_begin large m most))

-- after another mbuf was made
pub more_all : (p : PoolView) (W : List ℕ → List Entry) (o : Option ℕ) (cs : List ℕ) (m : ℕ) (rest later : List ℕ)
    (b : Bool) (next : ℕ) (piece : List ℕ) (done now : List Entry) → 0 < m → nat_le 208 m ≡ b → IsClusterTaken p b o
    → next ≡ size_of (next_room 2048 108 m) → piece ≡ take next rest → later ≡ drop next rest → length later ≡ m - next
    → now ≡ done ++ (record { bytes = piece; start = cond b 0 20; cluster = o } ∷ [])
    → ((es : List ℕ) → done ++ stored es (rest_rooms m) rest ≡ W (cs ++ es))
    → (ds : List ℕ) → now ++ stored ds (rest_rooms (length later)) later ≡ W ((cs ++ option_to_list o) ++ ds)
more_all p W o cs m rest later b next piece done now some test taken size front back left made all ds =
    let n : ℕ = size_of (next_room 2048 108 m) in
    let front' : piece ≡ take n rest = front ∙ ap (λ (k : ℕ). take k rest) size in
    let back' : later ≡ drop n rest = back ∙ ap (λ (k : ℕ). drop k rest) size in
    let left' : length later ≡ m - n = left ∙ ap (λ (k : ℕ). m - k) size in
    let e : Entry = record { bytes = take n rest; start = cond b 0 20; cluster = o } in
    (λ j. made j ++ stored ds (rest_rooms (left' j)) (back' j))
    ∙ (λ j. let f : Entry = record { bytes = front' j; start = cond b 0 20; cluster = o } in
    (done ++ (f ∷ [])) ++ stored ds (rest_rooms (m - n)) (drop n rest))
    ∙ append_assoc done (e ∷ []) (stored ds (rest_rooms (m - n)) (drop n rest))
    ∙ ap (λ (es : List Entry). done ++ es)
    (sym (stored_step p o ds m (rest_rooms (m - n)) rest b test taken)
    ∙ ap (λ (rooms : List Room). stored (option_to_list o ++ ds) rooms rest)
    (sym (rooms_step 2048 108 m (omega arith) (omega arith) some)))
    ∙ all (option_to_list o ++ ds)
    ∙ ap W (sym (append_assoc cs (option_to_list o) ds))

-- the numbers of rooms and of clusters
pub record Splits (all later : List Room) (o : Option ℕ) : Type 0 where
  pub number : length all ≡ suc (length later)
  pub count : count_by is_cluster all ≡ length (option_to_list o) + count_by is_cluster later

pub begin_splits : (p : PoolView) (large m len : ℕ) (rest : List ℕ) (b : Bool) (o : Option ℕ) → large ≤ 56
    → nat_le 208 m ≡ b → IsClusterTaken p b o → len ≡ size_of (next_room (2048 - large) 100 m) → length rest ≡ m - len
    → Splits (rooms_for large m) (rest_rooms (length rest)) o
begin_splits p large m len rest b o most test taken size left =
    let rooms = rooms_begin large m most in
    let left' : length rest ≡ m - size_of (next_room (2048 - large) 100 m) = left ∙ ap (λ (k : ℕ). m - k) size in
    record {
      number = ap (λ (rs : List Room). length rs) rooms ∙ ap (λ (k : ℕ). suc (length (rest_rooms k))) (sym left');
      count =
          ap (count_by is_cluster) rooms
          ∙ room_clusters p (2048 - large) 100 m (rest_rooms (m - size_of (next_room (2048 - large) 100 m))) b o test
          taken
          ∙ ap (λ (k : ℕ). length (option_to_list o) + count_by is_cluster (rest_rooms k)) (sym left');
    }

pub more_splits : (p : PoolView) (m next : ℕ) (later : List ℕ) (b : Bool) (o : Option ℕ) → 0 < m → nat_le 208 m ≡ b
    → IsClusterTaken p b o → next ≡ size_of (next_room 2048 108 m) → length later ≡ m - next
    → Splits (rest_rooms m) (rest_rooms (length later)) o
more_splits p m next later b o some test taken size left =
    let rooms = rooms_step 2048 108 m (omega arith) (omega arith) some in
    let left' : length later ≡ m - size_of (next_room 2048 108 m) = left ∙ ap (λ (k : ℕ). m - k) size in
    record {
      number = ap (λ (rs : List Room). length rs) rooms ∙ ap (λ (k : ℕ). suc (length (rest_rooms k))) (sym left');
      count =
          ap (count_by is_cluster) rooms
          ∙ room_clusters p 2048 108 m (rest_rooms (m - size_of (next_room 2048 108 m))) b o test taken
          ∙ ap (λ (k : ℕ). length (option_to_list o) + count_by is_cluster (rest_rooms k)) (sym left');
    }

-- at least one room is needed, and at least one cluster for 208 bytes or more
pub lacks_first : (large m : ℕ) → large ≤ 56
    → (0 < length (rooms_for large m)) × (nat_le 208 m ≡ true → 0 < count_by is_cluster (rooms_for large m))
lacks_first large m most =
    let rooms = rooms_begin large m most in (
      omega (arith, ap (λ (rs : List Room). length rs) rooms),
      λ e. omega (
        arith,
        ap (count_by is_cluster) rooms,
        sum_by-cons (λ (r : Room). cond {A = ℕ} (is_cluster r) 1 0) (next_room (2048 - large) 100 m)
            (rest_rooms (m - size_of (next_room (2048 - large) 100 m))),
        ap (λ (t : Bool). cond {A = ℕ} (is_cluster (cond t (Cluster (min m (2048 - large))) (Plain (min m 100)))) 1
            0) e,
      ),
    )

pub lacks_more : (m : ℕ) → 0 < m
    → (0 < length (rest_rooms m)) × (nat_le 208 m ≡ true → 0 < count_by is_cluster (rest_rooms m))
lacks_more m some =
    let rooms = rooms_step 2048 108 m (omega arith) (omega arith) some in (
      omega (arith, ap (λ (rs : List Room). length rs) rooms),
      λ e. omega (
        arith,
        ap (count_by is_cluster) rooms,
        sum_by-cons (λ (r : Room). cond {A = ℕ} (is_cluster r) 1 0) (next_room 2048 108 m)
            (rest_rooms (m - size_of (next_room 2048 108 m))),
        ap (λ (t : Bool). cond {A = ℕ} (is_cluster (cond t (Cluster (min m 2048)) (Plain (min m 108)))) 1 0) e,
      ),
    )

-- ---- the bytes, and the layout
-- the number of bytes in the rooms
abbrev pub room_sum : List Room → ℕ
room_sum [] = 0
room_sum (r ∷ rs) = size_of r + room_sum rs

filled_sum : (k large small m : ℕ) → 0 < large → 0 < small → m ≤ k → room_sum (filled k large small m) ≡ m
unfolding filled
filled_sum zero large small zero l s h = refl
filled_sum zero large small (suc m) l s h = absurd (omega arith)
filled_sum (suc k) large small zero l s h = refl
filled_sum (suc k) large small (suc m) l s h =
    let size = next_some large small (suc m) l s (omega arith) in
    omega (
      arith,
      size,
      next_most large small (suc m),
      filled_sum k 2048 108 (suc m - size_of (next_room large small (suc m))) (omega arith) (omega arith)
          (omega (arith, size)),
    )

pub rooms_sum : (large m : ℕ) → large ≤ 56 → room_sum (rooms_for large m) ≡ m
rooms_sum large m h =
    omega (
      arith,
      ap room_sum (rooms_begin large m h),
      next_most (2048 - large) 100 m,
      filled_sum (m - size_of (next_room (2048 - large) 100 m)) 2048 108 (m - size_of (next_room (2048 - large) 100 m))
          (omega arith) (omega arith) (omega arith),
    )

stored_bytes : (cs : List ℕ) (rooms : List Room) (xs : List ℕ) → length cs ≡ count_by is_cluster rooms
    → room_sum rooms ≡ length xs → flat_bytes (stored cs rooms xs) ≡ xs
stored_bytes cs [] [] e z = refl
stored_bytes cs [] (x ∷ xs) e z = absurd (omega arith)
stored_bytes cs (Plain n ∷ rooms) xs e z =
    ap (λ (ys : List ℕ). take n xs ++ ys)
    (stored_bytes cs rooms (drop n xs)
    (omega (arith, e, sum_by-cons (λ (r : Room). cond {A = ℕ} (is_cluster r) 1 0) (Plain n) rooms))
    (omega (arith, z, length-drop n xs))) ∙ take-append-drop n xs
stored_bytes [] (Cluster n ∷ rooms) xs e z =
    absurd (omega (arith, e, sum_by-cons (λ (r : Room). cond {A = ℕ} (is_cluster r) 1 0) (Cluster n) rooms))
stored_bytes (c ∷ cs) (Cluster n ∷ rooms) xs e z =
    ap (λ (ys : List ℕ). take n xs ++ ys)
    (stored_bytes cs rooms (drop n xs)
    (omega (arith, e, sum_by-cons (λ (r : Room). cond {A = ℕ} (is_cluster r) 1 0) (Cluster n) rooms))
    (omega (arith, z, length-drop n xs))) ∙ take-append-drop n xs

pub first_bytes : (large : ℕ) (ends : Bool) (cs : List ℕ) (rooms : List Room) (xs : List ℕ)
    → length cs ≡ count_by is_cluster rooms → room_sum rooms ≡ length xs
    → flat_bytes (stored_first large ends cs rooms xs) ≡ xs
first_bytes large ends cs [] [] e z = refl
first_bytes large ends cs [] (x ∷ xs) e z = absurd (omega arith)
first_bytes large ends cs (Plain n ∷ rooms) xs e z =
    ap (λ (ys : List ℕ). take n xs ++ ys)
    (stored_bytes cs rooms (drop n xs)
    (omega (arith, e, sum_by-cons (λ (r : Room). cond {A = ℕ} (is_cluster r) 1 0) (Plain n) rooms))
    (omega (arith, z, length-drop n xs))) ∙ take-append-drop n xs
first_bytes large ends [] (Cluster n ∷ rooms) xs e z =
    absurd (omega (arith, e, sum_by-cons (λ (r : Room). cond {A = ℕ} (is_cluster r) 1 0) (Cluster n) rooms))
first_bytes large ends (c ∷ cs) (Cluster n ∷ rooms) xs e z =
    ap (λ (ys : List ℕ). take n xs ++ ys)
    (stored_bytes cs rooms (drop n xs)
    (omega (arith, e, sum_by-cons (λ (r : Room). cond {A = ℕ} (is_cluster r) 1 0) (Cluster n) rooms))
    (omega (arith, z, length-drop n xs))) ∙ take-append-drop n xs

-- the layout is that of the flat machine
sized : (n : ℕ) (rooms : List Room) (xs : List ℕ) → n + room_sum rooms ≡ length xs → length (take n xs) ≡ n
sized n rooms xs z = omega (arith, z, length-take n xs)

stored_placed : (cs : List ℕ) (rooms : List Room) (xs : List ℕ) → length cs ≡ count_by is_cluster rooms
    → room_sum rooms ≡ length xs → layout_entries (stored cs rooms xs) ≡ entries_on cs rooms
unfolding entries_on
stored_placed cs [] xs e z = refl
stored_placed cs (Plain n ∷ rooms) xs e z =
    let rest =
    stored_placed cs rooms (drop n xs)
    (omega (arith, e, sum_by-cons (λ (r : Room). cond {A = ℕ} (is_cluster r) 1 0) (Plain n) rooms))
    (omega (arith, z, length-drop n xs)) in
    λ j. let x : flat.LayoutEntry = record { size = sized n rooms xs z j; cluster = None } in x ∷ rest j
stored_placed [] (Cluster n ∷ rooms) xs e z =
    absurd (omega (arith, e, sum_by-cons (λ (r : Room). cond {A = ℕ} (is_cluster r) 1 0) (Cluster n) rooms))
stored_placed (c ∷ cs) (Cluster n ∷ rooms) xs e z =
    let rest =
    stored_placed cs rooms (drop n xs)
    (omega (arith, e, sum_by-cons (λ (r : Room). cond {A = ℕ} (is_cluster r) 1 0) (Cluster n) rooms))
    (omega (arith, z, length-drop n xs)) in
    λ j. let x : flat.LayoutEntry = record { size = sized n rooms xs z j; cluster = Some c } in x ∷ rest j

pub first_placed : (large : ℕ) (ends : Bool) (cs : List ℕ) (rooms : List Room) (xs : List ℕ)
    → length cs ≡ count_by is_cluster rooms → room_sum rooms ≡ length xs
    → layout_entries (stored_first large ends cs rooms xs) ≡ entries_on cs rooms
unfolding entries_on
first_placed large ends cs [] xs e z = refl
first_placed large ends cs (Plain n ∷ rooms) xs e z =
    let rest =
    stored_placed cs rooms (drop n xs)
    (omega (arith, e, sum_by-cons (λ (r : Room). cond {A = ℕ} (is_cluster r) 1 0) (Plain n) rooms))
    (omega (arith, z, length-drop n xs)) in
    λ j. let x : flat.LayoutEntry = record { size = sized n rooms xs z j; cluster = None } in x ∷ rest j
first_placed large ends [] (Cluster n ∷ rooms) xs e z =
    absurd (omega (arith, e, sum_by-cons (λ (r : Room). cond {A = ℕ} (is_cluster r) 1 0) (Cluster n) rooms))
first_placed large ends (c ∷ cs) (Cluster n ∷ rooms) xs e z =
    let rest =
    stored_placed cs rooms (drop n xs)
    (omega (arith, e, sum_by-cons (λ (r : Room). cond {A = ℕ} (is_cluster r) 1 0) (Cluster n) rooms))
    (omega (arith, z, length-drop n xs)) in
    λ j. let x : flat.LayoutEntry = record { size = sized n rooms xs z j; cluster = Some c } in x ∷ rest j

pub user_placed : (cs : List ℕ) (xs : List ℕ) → length cs ≡ count_by is_cluster (user (length xs))
    → layout_entries (stored_first 56 true cs (user (length xs)) xs) ≡ entries_on cs (user (length xs))
user_placed cs xs e = first_placed 56 true cs (user (length xs)) xs e (rooms_sum 56 (length xs) (omega arith))

pub wire_placed : (cs : List ℕ) (xs : List ℕ) → length cs ≡ count_by is_cluster (wire (length xs))
    → layout_entries (stored_first 0 false cs (wire (length xs)) xs) ≡ entries_on cs (wire (length xs))
wire_placed cs xs e = first_placed 0 false cs (wire (length xs)) xs e (rooms_sum 0 (length xs) (omega arith))

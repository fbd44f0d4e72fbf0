-- The rows of the table, found by the buckets of their keys (this project's own).
use Rattle.std.specs.Prelude.{◌≡◌, ℕ, zero, suc, ◌+◌, ◌*◌, ◌/◌, ◌%◌, ◌<◌, ◌≤◌, ◌==◌, if◌then◌else◌, List, ◌++◌, map, take, remove, length, get_or, count_by, find, slice_get, Option, None, MatchOption}
use Rattle.flat_model.specs.Machine.State.{Key}
use Rattle.ip_reass.specs.Table.{has_key}
use Rattle.ip_reass.specs.declared.arrival.Arrival.{Arrival}
use Rattle.ip_reass.specs.declared.arrival.Arrival.TheVariants.{Kept, Whole, Dropped}
use Rattle.ip_reass.specs.declared.datagram.Datagram.{Datagram}
use Rattle.ip_reass.specs.declared.index.Row.{Row}

-- both halves of an address, added
abbrev pub halves_of : ℕ → ℕ
halves_of a = a % 65536 + a / 65536

-- the bucket of a key, among n buckets
abbrev pub bucket_of : ℕ → Key → ℕ
bucket_of count k =
    (k.id + 20011 * halves_of k.source + 10007 * halves_of k.destination + 211 * k.protocol) % count

-- those of all rows
abbrev pub buckets_of : ℕ → List Datagram → List ℕ
buckets_of count ds = map (λ (d : Datagram). bucket_of count d.key) ds

-- how many rows there are up to and including the last of the first k that is in bucket b; 0 if none is
abbrev pub upto_last : ℕ → List ℕ → ℕ → ℕ
upto_last b bs zero = 0
upto_last b bs (suc k) = if get_or bs k 0 == b then suc k else upto_last b bs k

-- the view of an index in contracts: the buckets of the rows, how many buckets there are, and how many rows fit
pub record IndexView : Type 0 where
  pub buckets : List ℕ
  pub count : ℕ
  pub room : ℕ

-- the index has these rows now, and as many buckets and as much room as before
pub record HasRows (x y : IndexView) (bs : List ℕ) : Type 0 where
  pub rows : y.buckets ≡ bs
  pub count : y.count ≡ x.count
  pub room : y.room ≡ x.room

abbrev pub buckets_in : List Row → ℕ → List ℕ
buckets_in rows n = map (λ (r : Row). r.bucket) (take n rows)

-- each bucket has the number of its last row, and each row that of the one before it in its bucket
pub record AreLinked (ends : List ℕ) (rows : List Row) (n : ℕ) : Type 0 where
  pub within : n ≤ length rows
  pub befores : (k : ℕ) (d : Row) → k < n → (get_or rows k d).before
      ≡ upto_last (get_or rows k d).bucket (buckets_in rows n) k
  pub inside : (k : ℕ) (d : Row) → k < n → (get_or rows k d).bucket < length ends
  pub lasts : (b : ℕ) → b < length ends → get_or ends b 0 ≡ upto_last b (buckets_in rows n) n

-- bs are the first of cs
pub record AreFirst (bs cs : List ℕ) : Type 0 where
  pub rest : List ℕ
  pub are : cs ≡ bs ++ rest

-- the rows that a table has after an arrival at a place
abbrev pub rows_left : Arrival → ℕ → List ℕ → List ℕ
rows_left Kept i bs = bs
rows_left (Whole c h) i bs = remove bs i
rows_left (Dropped why) i bs = bs

-- the index has the first rows of the table, perhaps not all
pub record Indexes (x : IndexView) (ds : List Datagram) : Type 0 where
  pub some : 0 < x.count
  pub rows : AreFirst x.buckets (buckets_of x.count ds)

-- it also has room for the others, and at most one row has this key
pub record CanFind (x : IndexView) (ds : List Datagram) (k : Key) : Type 0 where
  pub indexes : Indexes x ds
  pub room : length ds ≤ x.room
  pub once : count_by (has_key k) ds ≤ 1

-- the place of the first row with this key, if there is one
abbrev pub IsFound : Key → List Datagram → Option ℕ → Type 0
IsFound k ds r =
    MatchOption r (find (has_key k) ds ≡ None)
    (λ i. (i < length ds) × (find (has_key k) ds ≡ slice_get ds i) × (find (has_key k) (take i ds) ≡ None))

-- Laws of writes, over lists of entries.
use Rattle.std.proofs.Common.{◌≡◌, ℕ, zero, suc, ◌+◌, ◌-◌, ◌==◌, ◌<◌, ◌≤◌, min, Bool, true, false, cond, List, [], ◌∷◌, ◌++◌, length, take, drop, replicate, count_by, nat_eq, Option, None, Some, refl, sym, ap, ◌∙◌, arith, inl, inr, append_assoc, append-nil}
use Rattle.std.specs.Prelude.{◌⊎◌, ◌&&◌, nat_lt, slice_set, slice_index_or}
use Rattle.std.specs.Option.{option_eq}
use Rattle.std.proofs.lemmas.Bool.{cases_lt, cond-true, cond-false, eq-eqb, ne_eqb, lt-ltb, ltb-false, and_parts, not-true, false≢true}
use Rattle.std.proofs.lemmas.List.{take_all, drop_all, length-append, length-drop, length-replicate, length-take, drop-replicate, take-replicate, set-get_or, drop-append-le, take-append-le}
use Rattle.std.proofs.Math.Seq.{take-add}
use Rattle.std.proofs.lemmas.List.Sums.{sum_by-cons}
use Rattle.mbuf_chain.specs.declared.place.Place.{Place}
use Rattle.mbuf_chain.specs.Chain.{Entry, ChainView, PoolView, IsLive, IsPlace, IsUnshared, chain_of, entry_of, no_entry, flat_bytes, references, refers, with_chain, without}
use Rattle.mbuf_chain.specs.Steps.{overwritten, with_entry}
use Rattle.mbuf_chain.proofs.Laws.Lists.{take_over, drop_over}
use Rattle.mbuf_chain.proofs.Laws.Accounts.{references-with, references-without, references-adds}
use Rattle.chain_ops.specs.Makes.{Makes}
use Rattle.chain_ops.specs.Writes.{is_shared, is_writable, overlaid, plain_pieces, in_plain, tail_of, copied_back, written_bytes}
use Rattle.chain_ops.proofs.Laws.Lists.{take_least, drop-append}
use Rattle.chain_ops.proofs.Laws.Strings.{take_none, drop_none}
use Rattle.chain_ops.proofs.Lists.{at_entry, flat-append, walk_set}
use Rattle.chain_ops.proofs.Trims.{entries_now}

-- ---- which bytes may be written over
pub writable-none : (counts : ℕ → ℕ) (es : List Entry) (off : ℕ) → is_writable counts es off 0 ≡ true
writable-none counts [] off = refl
writable-none counts (e ∷ es) off =
    let none : 0 - (length e.bytes - off) ≡ 0 = omega arith in
    ap (is_writable counts es (off - length e.bytes)) none ∙ writable-none counts es (off - length e.bytes)

last_false : (a b s : Bool) → a ≡ true → b ≡ true → (a && (b && s)) ≡ false → s ≡ false
last_false true true s x y h = h
last_false false b s x y h = absurd (false≢true x)
last_false true false s x y h = absurd (false≢true y)

-- the entry at which a range begins isn't shared, and the others may be written to
pub writable_parts : (counts : ℕ → ℕ) (e : Entry) (es : List Entry) (off len : ℕ) → 0 < len
    → is_writable counts (e ∷ es) off len ≡ true
    → (off < length e.bytes → is_shared counts e.cluster ≡ false)
    × (is_writable counts es (off - length e.bytes) (len - (length e.bytes - off)) ≡ true)
writable_parts counts e es off len some h =
    let both = and_parts _ _ h in (
      λ l. last_false (nat_lt 0 len) (nat_lt off (length e.bytes)) (is_shared counts e.cluster) (lt-ltb 0 len some)
          (lt-ltb off (length e.bytes) l) (not-true _ both.0),
      both.1,
    )

-- ---- an entry that isn't shared
counted : (k : ℕ) (es : List Entry) (i : ℕ) → i < length es → (slice_index_or es i no_entry).cluster ≡ Some k
    → 0 < count_by (refers k) es
counted k [] i lt is = absurd (omega arith)
counted k (e ∷ es) zero lt is =
    omega (
      arith,
      sum_by-cons (λ (f : Entry). cond {A = ℕ} (refers k f) 1 0) e es,
      ap (λ (b : Bool). cond {A = ℕ} b 1 0) (ap (λ (o : Option ℕ). option_eq nat_eq o (Some k)) is ∙ eq-eqb k k refl),
    )
counted k (e ∷ es) (suc i) lt is =
    omega (arith, counted k es i (omega arith) is, sum_by-cons (λ (f : Entry). cond {A = ℕ} (refers k f) 1 0) e es)

pub unshared_at : (p : PoolView) (c i : ℕ) → IsLive p c → i < length (chain_of p c).entries
    → is_shared (references p) (entry_of (chain_of p c) i).cluster ≡ false → IsUnshared p (entry_of (chain_of p c) i)
unshared_at p c i live lt h = λ k is.
    let few : references p k ≤ 1 = ltb-false 1 (references p k) (ap (is_shared (references p)) (sym is) ∙ h) in
    omega (arith, few, counted k (chain_of p c).entries i lt is, references-without p (without p c) c k live refl)

-- ---- bytes written over others
pub overlaid-none : (es : List Entry) (off : ℕ) → overlaid es off [] ≡ es
overlaid-none [] off = refl
overlaid-none (e ∷ es) off =
    let same : take off e.bytes ++ ([] ++ drop (off + 0) e.bytes) ≡ e.bytes =
    ap (λ (k : ℕ). take off e.bytes ++ drop k e.bytes) (zero_more off)
    ∙ Rattle.std.proofs.lemmas.List.take-append-drop off e.bytes in
    (λ j. overwritten e off (take_none (length e.bytes - off) j)
    ∷ overlaid es (off - length e.bytes) (drop_none (length e.bytes - off) j))
    ∙ (λ j. let f : Entry = record { bytes = same j; start = e.start; cluster = e.cluster } in
    f ∷ overlaid-none es (off - length e.bytes) j)
  where
    zero_more : (n : ℕ) → n + 0 ≡ n
    zero_more n = omega arith

-- a write after the entry's bytes doesn't change the entry
pub overwritten-past : (e : Entry) (off : ℕ) (xs : List ℕ) → length e.bytes ≤ off
    → overwritten e off (take (length e.bytes - off) xs) ≡ e
overwritten-past e off xs h =
    let none : length e.bytes - off ≡ 0 = omega arith in
    let nothing : take (length e.bytes - off) xs ≡ [] = ap (λ (k : ℕ). take k xs) none ∙ zero_take xs in
    let same : take off e.bytes ++ ([] ++ drop (off + 0) e.bytes) ≡ e.bytes =
    (λ j. take_all off e.bytes h j ++ drop_all (off + 0) e.bytes (omega arith) j) ∙ append-nil e.bytes in
    ap (overwritten e off) nothing ∙ (λ j. record { bytes = same j; start = e.start; cluster = e.cluster })
  where
    zero_take : (ys : List ℕ) → take 0 ys ≡ []
    zero_take [] = refl
    zero_take (y ∷ ys) = refl

pub with_entry-same : (v : ChainView) (i : ℕ) → with_entry v i (entry_of v i) ≡ v
with_entry-same v i = λ j. record v { entries = set-get_or v.entries i no_entry j }

pub overlay_step : (v : ChainView) (at : Place) (skip : ℕ) (xs later : List ℕ) (len : ℕ) → IsPlace v at
    → len ≡ length (entry_of v at.index).bytes → later ≡ drop (len - skip) xs
    → take (at.index + 1) (slice_set v.entries at.index
    (overwritten (entry_of v at.index) skip (take (length (entry_of v at.index).bytes - skip) xs)))
    ++ overlaid (drop (at.index + 1)
    (slice_set v.entries at.index (overwritten (entry_of v at.index) skip
    (take (length (entry_of v at.index).bytes - skip) xs)))) (skip - len) later
    ≡ take at.index v.entries ++ overlaid (drop at.index v.entries) skip xs
overlay_step v at skip xs later len place is rest =
    let e : Entry = entry_of v at.index in
    let es : List Entry = drop (at.index + 1) v.entries in
    walk_set (λ fs. overlaid fs (skip - len) later) v.entries at.index
    (overwritten e skip (take (length e.bytes - skip) xs)) place.within
    ∙ (λ j. take at.index v.entries
    ++ (overwritten e skip (take (length e.bytes - skip) xs) ∷ overlaid es (skip - is j) (rest j)))
    ∙ ap (λ (n : ℕ). take at.index v.entries
    ++ (overwritten e skip (take (length e.bytes - skip) xs)
    ∷ overlaid es (skip - length e.bytes) (drop (n - skip) xs))) is
    ∙ ap (λ (fs : List Entry). take at.index v.entries ++ overlaid fs skip xs) (sym (at_entry v at place))

pub overlay_all : (q r : PoolView) (c : ℕ) (at : Place) (skip next len : ℕ) (xs later : List ℕ)
    → IsPlace (chain_of q c) at → len ≡ length (entry_of (chain_of q c) at.index).bytes → later ≡ drop (len - skip) xs
    → r ≡ with_chain q c (with_entry (chain_of q c) at.index
    (overwritten (entry_of (chain_of q c) at.index) skip
    (take (length (entry_of (chain_of q c) at.index).bytes - skip) xs))) → next ≡ at.index + 1
    → take next (chain_of r c).entries ++ overlaid (drop next (chain_of r c).entries) (skip - len) later
    ≡ take at.index (chain_of q c).entries ++ overlaid (drop at.index (chain_of q c).entries) skip xs
overlay_all q r c at skip next len xs later place is rest step nx =
    let now = entries_now q r c at.index _ step in
    (λ j. take (nx j) (now j) ++ overlaid (drop (nx j) (now j)) (skip - len) later)
    ∙ overlay_step (chain_of q c) at skip xs later len place is rest

-- the counts are unchanged
one_count : (k : ℕ) (es : List Entry) (i : ℕ) (f : Entry) → i < length es
    → f.cluster ≡ (slice_index_or es i no_entry).cluster
    → count_by (refers k) (slice_set es i f) ≡ count_by (refers k) es
one_count k [] i f lt is = absurd (omega arith)
one_count k (e ∷ es) zero f lt is =
    omega (
      arith,
      sum_by-cons (λ (g : Entry). cond {A = ℕ} (refers k g) 1 0) f es,
      sum_by-cons (λ (g : Entry). cond {A = ℕ} (refers k g) 1 0) e es,
      ap (λ (o : Option ℕ). cond {A = ℕ} (option_eq nat_eq o (Some k)) 1 0) is,
    )
one_count k (e ∷ es) (suc i) f lt is =
    omega (
      arith,
      one_count k es i f (omega arith) is,
      sum_by-cons (λ (g : Entry). cond {A = ℕ} (refers k g) 1 0) e (slice_set es i f),
      sum_by-cons (λ (g : Entry). cond {A = ℕ} (refers k g) 1 0) e es,
    )

pub counts_stay : (p q : PoolView) (c i k : ℕ) (f : Entry) → IsLive p c → i < length (chain_of p c).entries
    → f.cluster ≡ (entry_of (chain_of p c) i).cluster → q ≡ with_chain p c (with_entry (chain_of p c) i f)
    → references q k ≡ references p k
counts_stay p q c i k f live lt is step =
    omega (
      arith,
      references-with p q c k (with_entry (chain_of p c) i f) live step,
      one_count k (chain_of p c).entries i f lt is,
    )

-- ---- bytes after the old end
fuel : (k j : ℕ) (xs : List ℕ) → length xs ≤ k → length xs ≤ j → plain_pieces k xs ≡ plain_pieces j xs
fuel zero zero xs a b = refl
fuel zero (suc j) xs a b = sym (cond-true {A = List Entry} _ _ _ (eq-eqb (length xs) 0 (omega arith)))
fuel (suc k) zero xs a b = cond-true {A = List Entry} _ _ _ (eq-eqb (length xs) 0 (omega arith))
fuel (suc k) (suc j) xs a b =
    go (cases_lt 0 (length xs)) (λ some. fuel k j (drop 108 xs) (omega (arith, length-drop 108 xs, some))
    (omega (arith, length-drop 108 xs, some)))
  where
    go : (0 < length xs) ⊎ (length xs ≤ 0)
        → (0 < length xs → plain_pieces k (drop 108 xs) ≡ plain_pieces j (drop 108 xs))
        → plain_pieces (suc k) xs ≡ plain_pieces (suc j) xs
    go (inl some) ih =
        ap (λ (es : List Entry). let f : Entry = record { bytes = take 108 xs; start = 20; cluster = None } in
        cond (length xs == 0) [] (f ∷ es)) (ih some)
    go (inr none) ih =
        cond-true {A = List Entry} _ _ _ (eq-eqb (length xs) 0 (omega arith))
        ∙ sym (cond-true {A = List Entry} _ _ _ (eq-eqb (length xs) 0 (omega arith)))

pub in_plain-some : (xs : List ℕ) → 0 < length xs
    → in_plain xs ≡ record { bytes = take 108 xs; start = 20; cluster = None } ∷ in_plain (drop 108 xs)
in_plain-some [] some = absurd (omega arith)
in_plain-some (x ∷ xs) some =
    cond-false {A = List Entry} _ _ _ (ne_eqb (length (x ∷ xs)) 0 (λ z. absurd (omega (arith, z))))
    ∙ ap (λ (es : List Entry). let f : Entry = record { bytes = take 108 (x ∷ xs); start = 20; cluster = None } in
    f ∷ es) (fuel (length xs) (length (drop 108 (x ∷ xs))) (drop 108 (x ∷ xs))
    (omega (arith, length-drop 108 (x ∷ xs))) (omega arith))

pub in_plain-none : (xs : List ℕ) → length xs ≡ 0 → in_plain xs ≡ []
in_plain-none [] z = refl
in_plain-none (x ∷ xs) z = absurd (omega arith)

pieces_bytes : (k : ℕ) (xs : List ℕ) → length xs ≤ k → flat_bytes (plain_pieces k xs) ≡ xs
pieces_bytes zero [] h = refl
pieces_bytes zero (x ∷ xs) h = absurd (omega arith)
pieces_bytes (suc k) [] h = refl
pieces_bytes (suc k) (x ∷ xs) h =
    ap flat_bytes (cond-false {A = List Entry} _ _ _ (ne_eqb (length (x ∷ xs)) 0 (λ z. absurd (omega (arith, z)))))
    ∙ ap (λ (ys : List ℕ). take 108 (x ∷ xs) ++ ys)
    (pieces_bytes k (drop 108 (x ∷ xs)) (omega (arith, length-drop 108 (x ∷ xs))))
    ∙ Rattle.std.proofs.lemmas.List.take-append-drop 108 (x ∷ xs)

pub in_plain_bytes : (xs : List ℕ) → flat_bytes (in_plain xs) ≡ xs
in_plain_bytes xs = pieces_bytes (length xs) xs (omega arith)

pieces_counts : (k : ℕ) (most : ℕ) (xs : List ℕ) → count_by (refers k) (plain_pieces most xs) ≡ 0
pieces_counts k zero xs = refl
pieces_counts k (suc most) xs = go (length xs == 0) (pieces_counts k most (drop 108 xs))
  where
    go : (b : Bool) → count_by (refers k) (plain_pieces most (drop 108 xs)) ≡ 0
        → count_by (refers k) (cond {A = List Entry} b []
        (record { bytes = take 108 xs; start = 20; cluster = None } ∷ plain_pieces most (drop 108 xs))) ≡ 0
    go true ih = refl
    go false ih =
        omega (
          arith,
          ih,
          sum_by-cons (λ (g : Entry). cond {A = ℕ} (refers k g) 1 0)
              (record { bytes = take 108 xs; start = 20; cluster = None }) (plain_pieces most (drop 108 xs)),
        )

-- a chain of plain mbufs refers to no cluster
pub plain_counts : {p q : PoolView} {d : ℕ} {f : Rattle.mbuf_chain.specs.Chain.Front} (xs : List ℕ) (k : ℕ)
    → Makes p q d f (in_plain xs) → references q k ≡ references p k
plain_counts {p} {q} {d} xs k m =
    omega (arith, references-adds k m.adds, ap (count_by (refers k)) m.entries, pieces_counts k (length xs) xs)

-- the tail (z zeros, and then xs) without its first 108 bytes
pub tail_left : (z : ℕ) (xs : List ℕ) → replicate (z - 108) 0 ++ drop (108 - z) xs ≡ drop 108 (replicate z 0 ++ xs)
tail_left z xs =
    sym (drop-append 108 (replicate z 0) xs
    ∙ (λ j. drop-replicate {X = ℕ} 108 z 0 j ++ drop (108 - length-replicate {A = ℕ} z 0 j) xs))

zeros_first : (z : ℕ) → take {A = ℕ} 108 (replicate z 0) ≡ replicate (min z 108) 0
zeros_first z = elim (cases_lt z 108) [
  | inl l ↦ let same : z ≡ min z 108 = omega arith in
      take_all {A = ℕ} 108 (replicate z 0) (omega (arith, length-replicate {A = ℕ} z 0))
      ∙ ap (λ (n : ℕ). replicate n 0) same
  | inr l ↦ let same : 108 ≡ min z 108 = omega arith in
      take-replicate {X = ℕ} 108 z 0 l ∙ ap (λ (n : ℕ). replicate n 0) same
]

-- the first 108 bytes of the tail
pub tail_first : (z b n : ℕ) (xs : List ℕ) → b ≡ min z 108 → n ≡ min (length xs) (108 - b)
    → replicate b 0 ++ take n xs ≡ take 108 (replicate z 0 ++ xs)
tail_first z b n xs blank count =
    let room : 108 - z ≡ 108 - b = omega arith in
    let least : take n xs ≡ take (108 - z) xs =
    ap (λ (k : ℕ). take k xs) (count ∙ ap (min (length xs)) (sym room)) ∙ sym (take_least (108 - z) xs) in
    (λ j. replicate (blank j) 0 ++ least j)
    ∙ sym (take_over 108 (replicate z 0) xs ∙ (λ j. zeros_first z j ++ take (108 - length-replicate {A = ℕ} z 0 j) xs))

-- ---- the bytes of all
zero_take : (xs : List ℕ) → take 0 xs ≡ []
zero_take [] = refl
zero_take (x ∷ xs) = refl

abbrev both : List ℕ → List ℕ → List ℕ → ℕ → List ℕ
both b r xs off =
    (take off b ++ (take (length b - off) xs ++ drop (off + length (take (length b - off) xs)) b))
    ++ (take (off - length b) r ++ (take (length r - (off - length b)) (drop (length b - off) xs)
    ++ drop (off - length b + length (drop (length b - off) xs)) r))

abbrev over_both : List ℕ → List ℕ → List ℕ → ℕ → List ℕ
over_both b r xs off = take off (b ++ r) ++ (take (length (b ++ r) - off) xs ++ drop (off + length xs) (b ++ r))

-- the range is within the first piece
within_first : (b r xs : List ℕ) (off : ℕ) → off < length b → length xs ≤ length b - off
    → both b r xs off ≡ over_both b r xs off
within_first b r xs off l h =
    let size = length-append b r in
    let x : take (length b - off) xs ≡ xs = take_all (length b - off) xs h in
    let y : drop (length b - off) xs ≡ [] = drop_all (length b - off) xs h in
    let z : off - length b ≡ 0 = omega arith in
    let all : take (length (b ++ r) - off) xs ≡ xs = take_all (length (b ++ r) - off) xs (omega (arith, size)) in
    (λ j. (take off b ++ (x j ++ drop (off + length (x j)) b))
    ++ (take (z j) r ++ (take (length r - z j) (y j) ++ drop (z j + length (y j)) r)))
    ∙ (λ j. (take off b ++ (xs ++ drop (off + length xs) b)) ++ (zero_take r j ++ (take_none (length r - 0) j ++ r)))
    ∙ append_assoc (take off b) (xs ++ drop (off + length xs) b) r
    ∙ ap (λ (ys : List ℕ). take off b ++ ys) (append_assoc xs (drop (off + length xs) b) r)
    ∙ sym (λ j. take-append-le off b r (omega arith) j
    ++ (all j ++ drop-append-le (off + length xs) b r (omega arith) j))

-- the range begins in the first piece and ends in the second
across : (b r xs : List ℕ) (off : ℕ) → off < length b → length b - off ≤ length xs
    → both b r xs off ≡ over_both b r xs off
across b r xs off l h =
    let size = length-append b r in
    let n : ℕ = length b - off in
    let x : List ℕ = take n xs in
    let y : List ℕ = drop n xs in
    let count : length x ≡ n = omega (arith, length-take n xs) in
    let rest : length y ≡ length xs - n = length-drop n xs in
    let z : off - length b ≡ 0 = omega arith in
    let none : drop (off + length x) b ≡ [] = drop_all (off + length x) b (omega (arith, count)) in
    let whole : n + length r ≡ length (b ++ r) - off = omega (arith, size) in
    let after : length y ≡ off + length xs - length b = omega (arith, rest) in
    (λ j. (take off b ++ (x ++ none j)) ++ (take (z j) r ++ (take (length r - z j) y ++ drop (z j + length y) r)))
    ∙ (λ j. (take off b ++ append-nil x j)
    ++ (zero_take r j ++ (take (less (length r) j) y ++ drop (zero-more (length y) j) r)))
    ∙ append_assoc (take off b) x (take (length r) y ++ drop (length y) r)
    ∙ ap (λ (ys : List ℕ). take off b ++ ys) (sym (append_assoc x (take (length r) y) (drop (length y) r)))
    ∙ (λ j. take off b ++ (sym (take-add n (length r) xs) j ++ drop (after j) r))
    ∙ ap (λ (k : ℕ). take off b ++ (take k xs ++ drop (off + length xs - length b) r)) whole
    ∙ sym (λ j. take-append-le off b r (omega arith) j
    ++ (take (length (b ++ r) - off) xs ++ drop_over (off + length xs) b r (omega arith) j))
  where
    less : (k : ℕ) → k - 0 ≡ k
    less k = omega arith

    zero-more : (k : ℕ) → 0 + k ≡ k
    zero-more k = omega arith

-- the range begins in the second piece
in_second : (b r xs : List ℕ) (off : ℕ) → length b ≤ off → both b r xs off ≡ over_both b r xs off
in_second b r xs off h =
    let size = length-append b r in
    let n : length b - off ≡ 0 = omega arith in
    let x : take (length b - off) xs ≡ [] = ap (λ (k : ℕ). take k xs) n ∙ zero_take xs in
    let y : drop (length b - off) xs ≡ xs = ap (λ (k : ℕ). drop k xs) n in
    let none : drop (off + 0) b ≡ [] = drop_all (off + 0) b (omega arith) in
    let left : length r - (off - length b) ≡ length (b ++ r) - off = omega (arith, size) in
    let after : off - length b + length xs ≡ off + length xs - length b = omega arith in
    let k : ℕ = off - length b in
    (λ j. (take off b ++ (x j ++ drop (off + length (x j)) b))
    ++ (take k r ++ (take (length r - k) (y j) ++ drop (k + length (y j)) r)))
    ∙ (λ j. (take_all off b h j ++ none j) ++ (take k r ++ (take (left j) xs ++ drop (after j) r)))
    ∙ ap (λ (ys : List ℕ). ys ++ (take k r ++ (take (length (b ++ r) - off) xs ++ drop (off + length xs - length b) r)))
    (append-nil b)
    ∙ sym (append_assoc b (take k r) (take (length (b ++ r) - off) xs ++ drop (off + length xs - length b) r))
    ∙ ap (λ (ys : List ℕ). (ys ++ take k r) ++ (take (length (b ++ r) - off) xs ++ drop (off + length xs - length b) r))
    (sym (take_all off b h))
    ∙ sym (λ j. take_over off b r j
    ++ (take (length (b ++ r) - off) xs ++ drop_over (off + length xs) b r (omega arith) j))

overlaid_bytes : (es : List Entry) (off : ℕ) (xs : List ℕ)
    → flat_bytes (overlaid es off xs)
    ≡ take off (flat_bytes es) ++ (take (length (flat_bytes es) - off) xs ++ drop (off + length xs) (flat_bytes es))
overlaid_bytes [] off xs =
    let z : 0 - off ≡ 0 = omega arith in
    sym (λ j. take_none off j ++ ((ap (λ (k : ℕ). take k xs) z ∙ zero_take xs) j ++ drop_none (off + length xs) j))
overlaid_bytes (e ∷ es) off xs =
    ap (λ (ys : List ℕ). (take off e.bytes
    ++ (take (length e.bytes - off) xs
    ++ drop (off + length (take (length e.bytes - off) xs))
    e.bytes)) ++ ys) (overlaid_bytes es (off - length e.bytes) (drop (length e.bytes - off) xs))
    ∙ elim (cases_lt off (length e.bytes)) [
      | inl l ↦ elim (cases_lt (length e.bytes - off) (length xs)) [
        | inl m ↦ across e.bytes (flat_bytes es) xs off l (omega arith)
        | inr m ↦ within_first e.bytes (flat_bytes es) xs off l m
      ]
      | inr l ↦ in_second e.bytes (flat_bytes es) xs off l
    ]

-- bytes written over a list and beyond its end
extended : (s xs : List ℕ) (off : ℕ)
    → (take off s ++ (take (length s - off) xs ++ drop (off + length xs) s))
    ++ (replicate (off - length s) 0 ++ drop (length s - off) xs) ≡ written_bytes s off xs
extended s xs off = go (cases_lt (length s) off) (cases_lt (length s - off) (length xs))
  where
    go : (length s < off) ⊎ (off ≤ length s) → (length s - off < length xs) ⊎ (length xs ≤ length s - off)
        → (take off s ++ (take (length s - off) xs ++ drop (off + length xs) s))
        ++ (replicate (off - length s) 0 ++ drop (length s - off) xs) ≡ written_bytes s off xs
    go (inl l) b =
        let n : length s - off ≡ 0 = omega arith in
        let x : take (length s - off) xs ≡ [] = ap (λ (k : ℕ). take k xs) n ∙ zero_take xs in
        let y : drop (length s - off) xs ≡ xs = ap (λ (k : ℕ). drop k xs) n in
        let none : drop (off + length xs) s ≡ [] = drop_all (off + length xs) s (omega arith) in
        let zs : List ℕ = replicate (off - length s) 0 in
        (λ j. (take off s ++ (x j ++ none j)) ++ (zs ++ y j))
        ∙ ap (λ (ys : List ℕ). ys ++ (zs ++ xs)) (append-nil (take off s))
        ∙ ap (λ (ys : List ℕ). take off s ++ (zs ++ ys)) (sym (append-nil xs))
        ∙ sym (λ j. take off s ++ (zs ++ (xs ++ none j)))
    go (inr l) (inl m) =
        let z : off - length s ≡ 0 = omega arith in
        let none : drop (off + length xs) s ≡ [] = drop_all (off + length xs) s (omega arith) in
        let n : ℕ = length s - off in
        (λ j. (take off s ++ (take n xs ++ none j)) ++ (replicate (z j) 0 ++ drop n xs))
        ∙ ap (λ (ys : List ℕ). (take off s ++ ys) ++ drop n xs) (append-nil (take n xs))
        ∙ append_assoc (take off s) (take n xs) (drop n xs)
        ∙ ap (λ (ys : List ℕ). take off s ++ ys)
        (Rattle.std.proofs.lemmas.List.take-append-drop n xs ∙ sym (append-nil xs))
        ∙ sym (λ j. take off s ++ (replicate (z j) 0 ++ (xs ++ none j)))
    go (inr l) (inr m) =
        let z : off - length s ≡ 0 = omega arith in
        let x : take (length s - off) xs ≡ xs = take_all (length s - off) xs m in
        let y : drop (length s - off) xs ≡ [] = drop_all (length s - off) xs m in
        (λ j. (take off s ++ (x j ++ drop (off + length xs) s)) ++ (replicate (z j) 0 ++ y j))
        ∙ append-nil (take off s ++ (xs ++ drop (off + length xs) s))
        ∙ sym (λ j. take off s ++ (replicate (z j) 0 ++ (xs ++ drop (off + length xs) s)))

pub copied_back_bytes : (es : List Entry) (off : ℕ) (xs : List ℕ)
    → flat_bytes (copied_back es off xs) ≡ written_bytes (flat_bytes es) off xs
copied_back_bytes es off xs =
    flat-append (overlaid es off xs) (in_plain (tail_of (length (flat_bytes es)) off xs))
    ∙ (λ j. overlaid_bytes es off xs j ++ in_plain_bytes (tail_of (length (flat_bytes es)) off xs) j)
    ∙ extended (flat_bytes es) xs off

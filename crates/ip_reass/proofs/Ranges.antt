-- The offsets that the flat machine's pieces own, for a datagram whose fragments are in order and don't overlap.
use Rattle.std.proofs.Common.{◌≡◌, ℕ, zero, suc, ◌+◌, ◌-◌, ◌<◌, ◌≤◌, Bool, true, false, List, [], ◌∷◌, length, map, count_by, sum_by, slice_get, None, Some, option_map, refl, sym, ap, ◌∙◌, subst, inl, inr, arith}
use Rattle.std.specs.List.{range_with_len}
use Rattle.std.proofs.lemmas.Bool.{cases_lt, eq-eqb, ne_eqb, cond-true, cond-false}
use Rattle.std.proofs.lemmas.List.{length-map}
use Rattle.std.proofs.lemmas.List.Sums.{sum_by-cons}
use Rattle.std.proofs.lemmas.Option.{slice_get-map, slice_get-get_or, slice_get_past, slice_get_within, get_or_from_slice_get}
use Rattle.params.specs.declared.TheConstants.{IP_MAX_DATA}
use Rattle.flat_model.specs.Fragments.Overlay.{Map, Fragment}
use Rattle.flat_model.proofs.Laws.{count_cons}
use Rattle.mbuf_chain.specs.Chain.{PoolView}
use Rattle.ip_reass.specs.Fragments.{end_of_fragment, piece_of, map_of, bytes_held, fragments, Apart, AllEnd}
use Rattle.ip_reass.specs.Inside.Walks.{fragment_at, no_fragment}
use Rattle.ip_reass.specs.Inside.Known.{known_here, known_below, known_past, below, within, past, known_place, nothing_below}
use Rattle.ip_reass.specs.Inside.Weighs.{pieces_are}
use Rattle.ip_reass.specs.Questions.{is_of, owned_below, range_of, ranges, nth_of, summary_of, nth_unfinished, range_in, nth_range}
use Rattle.ip_reass.specs.Table.{IsUnfinished, AllUnfinished, unfinished_of, unfinished}
use Rattle.ip_reass.specs.declared.datagram.Datagram.{Datagram}
use Rattle.ip_reass.specs.declared.questions.HeldRange.{HeldRange}
use Rattle.ip_reass.specs.declared.questions.UnfinishedDatagram.{UnfinishedDatagram}
use Rattle.ip_reass.proofs.Walks.{length-fragments}
use Rattle.ip_reass.proofs.Places.{each_at}

-- the range of a fragment
abbrev pub held_by : Fragment → HeldRange
held_by f = record { offset = f.offset; len = length f.bytes; more = f.more }

-- of n numbers from `at` on, a test passes for those from a up to e
count_between : (test : ℕ → Bool) (a e at n : ℕ) → a ≤ e → e ≤ at + n → ((k : ℕ) → a ≤ k → k < e → test k ≡ true)
    → ((k : ℕ) → k < a → test k ≡ false) → ((k : ℕ) → e ≤ k → test k ≡ false)
    → count_by test (range_with_len at n) ≡ (e - a) - (at - a)
count_between test a e at zero o l hit low high = omega arith
count_between test a e at (suc n) o l hit low high =
    let rest = count_between test a e (at + 1) n o (omega arith) hit low high in
    let cons = count_cons test at (range_with_len (at + 1) n) in
    elim (cases_lt at a) [
      | inl b ↦ omega (arith, cons, cond-false {A = ℕ} _ 1 0 (low at b), rest)
      | inr b ↦ elim (cases_lt at e) [
        | inl c ↦ omega (arith, cons, cond-true {A = ℕ} _ 1 0 (hit at b c), rest)
        | inr c ↦ omega (arith, cons, cond-false {A = ℕ} _ 1 0 (high at c), rest)
      ]
    ]

-- a piece that begins before all these fragments owns no byte of them
later : (a low : ℕ) (fs : List Fragment) (k : ℕ) → Apart low fs → a < low → is_of a (map_of fs k) ≡ false
later a low [] k h l = refl
later a low (f ∷ fs) k h l = elim (known_place f k) [
  | below b ↦ ap (is_of a) (known_below f fs k b) ∙ later a (end_of_fragment f) fs k h.2 (omega arith)
  | past b ↦ ap (is_of a) (known_past f fs k b) ∙ later a (end_of_fragment f) fs k h.2 (omega arith)
  | within b c ↦ ap (is_of a) (known_here f fs k b c) ∙ ne_eqb f.offset a (λ e. absurd (omega arith))
]

-- From an offset on, the map is that of these fragments; a byte below it belongs to a piece that begins below it.
record IsFrom (m : Map) (low : ℕ) (fs : List Fragment) : Type 0 where
  pub same : (k : ℕ) → low ≤ k → m k ≡ map_of fs k
  pub under : (a k : ℕ) → low ≤ a → k < low → is_of a (m k) ≡ false

passed : (m : Map) (low : ℕ) (f : Fragment) (fs : List Fragment) → Apart low (f ∷ fs) → IsFrom m low (f ∷ fs)
    → IsFrom m (end_of_fragment f) fs
passed m low f fs h c = record {
  same = λ k l. c.same k (omega arith) ∙ known_past f fs k l;
  under = λ a k l s. elim (cases_lt k low) [
    | inl b ↦ c.under a k (omega arith) b
    | inr b ↦ ap (is_of a) (c.same k b) ∙ elim (known_place f k) [
      | below d ↦ ap (is_of a) (nothing_below f.offset (f ∷ fs) k (omega arith, h.1, h.2) d)
      | within d e ↦ ap (is_of a) (known_here f fs k d e) ∙ ne_eqb f.offset a (λ g. absurd (omega arith))
      | past d ↦ absurd (omega arith)
    ]
  ];
}

-- a fragment's piece owns one offset for each byte of the fragment
owned : (most : ℕ) (m : Map) (low : ℕ) (f : Fragment) (fs : List Fragment) → Apart low (f ∷ fs) → IsFrom m low (f ∷ fs)
    → end_of_fragment f ≤ most → owned_below most m f.offset ≡ length f.bytes
unfolding owned_below
owned most m low f fs h c l =
    let all =
    count_between (λ (k : ℕ). is_of f.offset (m k)) f.offset (end_of_fragment f) 0 most (omega arith) (omega arith)
    (λ k a b. ap (is_of f.offset) (c.same k (omega arith) ∙ known_here f fs k a b) ∙ eq-eqb f.offset f.offset refl)
    (λ k a. elim (cases_lt k low) [
      | inl b ↦ c.under f.offset k (omega arith) b
      | inr b ↦ ap (is_of f.offset) (c.same k b ∙ nothing_below f.offset (f ∷ fs) k (omega arith, h.1, h.2) a)
    ])
    (λ k a. ap (is_of f.offset) (c.same k (omega arith) ∙ known_past f fs k a)
    ∙ later f.offset (end_of_fragment f) fs k h.2 (omega arith)) in
    omega (arith, all)

each_held : (m : Map) (low : ℕ) (fs : List Fragment) → Apart low fs → AllEnd IP_MAX_DATA fs → IsFrom m low fs
    → map (range_of m) (map piece_of fs) ≡ map held_by fs
each_held m low [] h e c = refl
each_held m low (f ∷ fs) h e c =
    let len = owned IP_MAX_DATA m low f fs h c e.0 in
    let others = each_held m (end_of_fragment f) fs h.2 e.1 (passed m low f fs h c) in
    λ i. record { offset = f.offset; len = len i; more = f.more } ∷ others i

-- **the ranges are those of the fragments**
pub ranges_are : (fs : List Fragment) → Apart 0 fs → AllEnd IP_MAX_DATA fs → ranges (map_of fs) ≡ map held_by fs
ranges_are fs a e =
    ap (map (range_of (map_of fs))) (pieces_are fs a e)
    ∙ each_held (map_of fs) 0 fs a e (record { same = λ k l. refl; under = λ a k l s. absurd (omega arith) })

-- the sum of their bytes
sum_held : (fs : List Fragment) → sum_by (λ (range : HeldRange). range.len) (map held_by fs) ≡ bytes_held fs
sum_held [] = refl
sum_held (f ∷ fs) =
    sum_by-cons (λ (range : HeldRange). range.len) (held_by f) (map held_by fs)
    ∙ ap (λ n. length f.bytes + n) (sum_held fs)

pub bytes_reported : (fs : List Fragment) → Apart 0 fs → AllEnd IP_MAX_DATA fs
    → sum_by (λ (range : HeldRange). range.len) (ranges (map_of fs)) ≡ bytes_held fs
bytes_reported fs a e = ap (sum_by (λ (range : HeldRange). range.len)) (ranges_are fs a e) ∙ sum_held fs

pub ranges_reported : (fs : List Fragment) → Apart 0 fs → AllEnd IP_MAX_DATA fs → length (ranges (map_of fs)) ≡ length
    fs
ranges_reported fs a e = ap length (ranges_are fs a e) ∙ length-map fs held_by

-- ---- a range by its place
pub nth_past : (fs : List Fragment) (k : ℕ) → Apart 0 fs → AllEnd IP_MAX_DATA fs → length fs ≤ k
    → nth_of (map_of fs) k ≡ None
nth_past fs k a e l = slice_get_past (ranges (map_of fs)) k (omega (arith, ranges_reported fs a e, l))

pub nth_is : (fs : List Fragment) (k : ℕ) → Apart 0 fs → AllEnd IP_MAX_DATA fs → k < length fs
    → nth_of (map_of fs) k ≡ Some (held_by (fragment_at fs k))
nth_is fs k a e l =
    ap (λ (rs : List HeldRange). slice_get rs k) (ranges_are fs a e)
    ∙ (slice_get-map held_by fs k ∙ ap (option_map held_by) (slice_get-get_or fs k no_fragment l))

-- ---- a datagram by its place
-- the summary of a datagram
abbrev pub reported_from : Datagram → UnfinishedDatagram
reported_from d = record { key = d.key; ticks = d.ticks; bytes = d.bytes; ranges = d.fragments.len }

reported_is : (p : PoolView) (d : Datagram) → IsUnfinished p d → summary_of (unfinished_of p d) ≡ reported_from d
reported_is p d is =
    let bytes = bytes_reported (fragments p d.fragments) is.queue.apart is.queue.small ∙ sym is.counted in
    let number =
    ranges_reported (fragments p d.fragments) is.queue.apart is.queue.small
    ∙ length-fragments p d.fragments is.queue.held in
    λ i. record { key = d.key; ticks = d.ticks; bytes = bytes i; ranges = number i }

module _ (p : PoolView) (ds : List Datagram) (i : ℕ) where
  pub is_unfinished : (d : Datagram) → AllUnfinished p ds → slice_get ds i ≡ Some d → IsUnfinished p d
  is_unfinished d each is =
      subst (IsUnfinished p) (get_or_from_slice_get ds i d d is) (each_at p ds i d (slice_get_within ds i d is) each).0

  pub unfinished_here : (d : Datagram) → AllUnfinished p ds → slice_get ds i ≡ Some d
      → nth_unfinished i (unfinished p ds) ≡ Some (reported_from d)
  unfinished_here d each is =
      ap (option_map summary_of) (slice_get-map (unfinished_of p) ds i ∙ ap (option_map (unfinished_of p)) is)
      ∙ ap Some (reported_is p d (is_unfinished d each is))

  pub range_here : (k : ℕ) (d : Datagram) → slice_get ds i ≡ Some d
      → nth_range i k (unfinished p ds) ≡ nth_of (map_of (fragments p d.fragments)) k
  range_here k d is = ap (range_in k) (slice_get-map (unfinished_of p) ds i ∙ ap (option_map (unfinished_of p)) is)

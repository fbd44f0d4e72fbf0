-- What a caller of `mbuf_chain` knows after one of its steps.
use Rattle.std.proofs.Common.{◌≡◌, ℕ, ◌+◌, ◌≤◌, ◌==◌, Bool, true, false, cond, List, [], length, take, drop, Option, None, Some, is_some, IsTrue, refl, sym, ap, ◌∙◌, subst, arith}
use Rattle.std.proofs.lemmas.Bool.{cond-true, cond-false, eq-eqb}
use Rattle.std.proofs.lemmas.Option.{none-some}
use Rattle.std.proofs.lemmas.List.{length-append, length-take, length-drop}
use Rattle.mbuf_chain.specs.declared.place.Place.{Place}
use Rattle.mbuf_chain.specs.declared.place.Segment.{Segment}
use Rattle.mbuf_chain.specs.Chain.{Entry, ChainView, PoolView, chain_of, entry_of, string, room_start, room_end, IsLive, IsPlace, IsUnshared, with_chain, Adds}
use Rattle.mbuf_chain.specs.Steps.{one_mbuf, empty_entry, with_entry, with_back}
use Rattle.mbuf_chain.proofs.Laws.Owners.{shown_adds, kept_with}
use Rattle.mbuf_chain.proofs.Laws.Steps.{apart, new_entry, filled}
use Rattle.chain_ops.specs.Rooms.{room_low}
use Rattle.chain_ops.specs.Copies.{copied_entry}

-- ---- plain entries
pub none_of : (o : Option ℕ) → is_some o ≡ false → o ≡ None
none_of None e = refl
none_of (Some c) e = absurd (Rattle.std.proofs.lemmas.Bool.true≢false e)

pub plain_unshared : (p : PoolView) (e : Entry) → e.cluster ≡ None → IsUnshared p e
plain_unshared p e plain = λ c is. absurd (none-some c (sym plain ∙ is))

low_at_least : (h : Bool) (t : Bool) → 20 ≤ cond h (cond {A = ℕ} t 28 20) 20
low_at_least true true = omega arith
low_at_least true false = omega arith
low_at_least false true = omega arith
low_at_least false false = omega arith

-- a copy of a plain entry's bytes fits at the front of a plain mbuf
pub copy_room : (v : ChainView) (i : ℕ) (header : Bool) (skip n : ℕ) → (entry_of v i).cluster ≡ None
    → room_start v i ≤ (entry_of v i).start
    → (entry_of v i).start + length (entry_of v i).bytes ≤ room_end (entry_of v i)
    → (IsTrue header → IsTrue v.front.header × (i ≡ 0)) → skip + n ≤ length (entry_of v i).bytes
    → room_low header + n ≤ 128
copy_room v i header skip n plain low high headed within = go header headed
  where
    is_plain : is_some (entry_of v i).cluster ≡ false
    is_plain = ap (λ (o : Option ℕ). is_some o) plain

    end : room_end (entry_of v i) ≡ 128
    end = cond-false {A = ℕ} _ 2048 128 is_plain

    start : room_start v i ≡ cond v.front.header (cond {A = ℕ} (i == 0) 28 20) 20
    start = cond-false {A = ℕ} _ 0 _ is_plain

    go : (h : Bool) → (IsTrue h → IsTrue v.front.header × (i ≡ 0)) → room_low h + n ≤ 128
    go false hd = omega (arith, end, start, low_at_least v.front.header (i == 0))
    go true hd =
        let both = hd refl in
        omega (
          arith,
          end,
          start,
          cond-true {A = ℕ} v.front.header (cond {A = ℕ} (i == 0) 28 20) 20 both.0,
          cond-true {A = ℕ} (i == 0) 28 20 (eq-eqb i 0 both.1),
        )

-- a plain mbuf into which bytes of a plain entry were written is a copy
pub copy_made : (p q r : PoolView) (c i start : ℕ) (header : Bool) (e e' : Entry) (skip n : ℕ) → e.cluster ≡ None
    → start ≡ room_low header → e' ≡ e
    → Adds p q c (one_mbuf header (empty_entry start None) c) → i ≡ 0
    → r ≡ with_chain q c (with_entry (chain_of q c) i
    (with_back (entry_of (chain_of q c) i) (take n (drop skip e'.bytes))))
    → Adds p r c (one_mbuf header (copied_entry (room_low header) e skip n) c)
copy_made p q r c i start header e e' skip n plain low same a zero is =
    let xs : List ℕ = take n (drop skip e.bytes) in
    let shown : with_back (entry_of (chain_of q c) i) (take n (drop skip e'.bytes))
    ≡ with_back (empty_entry (room_low header) None) xs =
    (λ j. with_back (new_entry p q c i header (empty_entry start None) a zero j) (take n (drop skip (same j).bytes)))
    ∙ ap (λ (s : ℕ). with_back (empty_entry s None) xs) low in
    let copy : with_back (empty_entry (room_low header) None) xs ≡ copied_entry (room_low header) e skip n =
    ap (λ (o : Option ℕ). let f : Entry = record
    { bytes = xs; start = cond (is_some o) (e.start + skip) (room_low header); cluster = o } in f) (sym plain) in
    filled p q r c i header (empty_entry start None) (copied_entry (room_low header) e skip n) a zero
    (is ∙ ap (λ (f : Entry). with_chain q c (with_entry (chain_of q c) i f)) (shown ∙ copy))

-- the result of `segment` for a plain entry
pub plain_segment : (x : Segment) (start len : ℕ) (o : Option ℕ) (b : Bool)
    → x ≡ record { start = start; len = len; cluster = o } → b ≡ is_some x.cluster → b ≡ false → o ≡ None
plain_segment x start len o b is test fails =
    none_of o (ap (λ (y : Segment). is_some y.cluster) (sym is) ∙ sym test ∙ fails)

-- ---- a new chain and the others
pub place_in : (p q : PoolView) (k : ℕ) (at : Place) → chain_of q k ≡ chain_of p k → IsPlace (chain_of p k) at
    → IsPlace (chain_of q k) at
place_in p q k at same place = subst (λ (v : ChainView). IsPlace v at) (sym same) place

pub kept_adds : (p q : PoolView) (c k : ℕ) (v : ChainView) → Adds p q c v → IsLive p k → chain_of q k ≡ chain_of p k
kept_adds p q c k v a live = kept_with p q c v k a.pool (apart p q c v a k live)

pub string_one : (p q : PoolView) (c : ℕ) (header : Bool) (e : Entry) → Adds p q c (one_mbuf header e c)
    → length (string (chain_of q c)) ≡ length e.bytes
string_one p q c header e a =
    ap (λ (v : ChainView). length (string v)) (shown_adds a) ∙ omega (arith, length-append e.bytes [])

pub copied_length : (room : ℕ) (e : Entry) (skip n : ℕ) → skip + n ≤ length e.bytes
    → length (copied_entry room e skip n).bytes ≡ n
copied_length room e skip n within = omega (arith, length-take n (drop skip e.bytes), length-drop skip e.bytes)

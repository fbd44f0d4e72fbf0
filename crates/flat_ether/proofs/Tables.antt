-- The table of neighbours: no two have one address, and what holds of each.
use Rattle.std.proofs.Common.{◌≡◌, ◌≢◌, ℕ, ◌+◌, ◌≤◌, Bool, true, false, cond, List, [], ◌∷◌, ◌++◌, length, drop, Option, Some, None, refl, sym, ◌∙◌, zero, suc, arith, get_or}
use Rattle.std.specs.Prelude.{filter, map, nat_lt, slice_set, not}
use Rattle.std.specs.List.{position_or_len}
use Rattle.std.specs.List.{AllByRecursion as Each}
use Rattle.std.proofs.lemmas.Bool.{eqb-false, eqb-true, ltb-false}
use Rattle.std.proofs.lemmas.Option.{none-some, same_Some}
use Rattle.flat_model.proofs.Laws.{each-append, each-both, each-filter, each-map, each-weaker}
use Rattle.flat_ether.specs.Links.{neighbour_aged, asked_again, has_ip, neighbour_place, put, put_at, neighbour_stays, with_room}
use Rattle.flat_ether.specs.declared.neighbour.Neighbour.{Neighbour}

pub each-drop : {X : Type 0} (P : X → Type 0) (n : ℕ) (xs : List X) → Each P xs → Each P (drop n xs)
each-drop P zero xs h = h
each-drop P (suc n) [] h = tt
each-drop P (suc n) (x ∷ xs) h = each-drop P n xs h.1

each-set : {X : Type 0} (P : X → Type 0) (xs : List X) (i : ℕ) (x : X) → Each P xs → P x → Each P (slice_set xs i x)
each-set P [] i x h p = tt
each-set P (y ∷ ys) zero x h p = (p, h.1)
each-set P (y ∷ ys) (suc i) x h p = (h.0, each-set P ys i x h.1 p)

-- no neighbour has this address
abbrev pub IsNew : ℕ → List Neighbour → Type 0
IsNew ip ns = Each (λ n. n.ip ≢ ip) ns

-- no two have one address
abbrev pub AreDistinct : List Neighbour → Type 0
AreDistinct [] = Unit {0}
AreDistinct (n ∷ ns) = IsNew n.ip ns × AreDistinct ns

pub distinct_drop : (ns : List Neighbour) → AreDistinct ns → AreDistinct (drop 1 ns)
distinct_drop [] h = tt
distinct_drop (n ∷ ns) h = h.1

distinct_push : (n : Neighbour) (ns : List Neighbour) → AreDistinct ns → IsNew n.ip ns → AreDistinct (ns ++ n ∷ [])
distinct_push n [] h new = (tt, tt)
distinct_push n (m ∷ ns) h new =
    (each-append (λ x. x.ip ≢ m.ip) ns (n ∷ []) h.0 (λ e. new.0 (sym e), tt), distinct_push n ns h.1 new.1)

distinct_map : (ns : List Neighbour) → AreDistinct ns → AreDistinct (map neighbour_aged ns)
distinct_map [] h = tt
distinct_map (n ∷ ns) h = (each-map (λ m. m.ip ≢ n.ip) neighbour_aged (λ m is. is) ns h.0, distinct_map ns h.1)

distinct_filter : (ns : List Neighbour) → AreDistinct ns → AreDistinct (filter neighbour_stays ns)
distinct_filter [] h = tt
distinct_filter (n ∷ ns) h = go (neighbour_stays n) (distinct_filter ns h.1)
  where
    go : (b : Bool) → AreDistinct (filter neighbour_stays ns)
        → AreDistinct (cond b (n ∷ filter neighbour_stays ns) (filter neighbour_stays ns))
    go true rest = (each-filter (λ m. m.ip ≢ n.ip) neighbour_stays ns h.0, rest)
    go false rest = rest

pub distinct_stays : (ns : List Neighbour) → AreDistinct ns
    → AreDistinct (filter neighbour_stays (map neighbour_aged ns))
distinct_stays ns h = distinct_filter (map neighbour_aged ns) (distinct_map ns h)

-- ---- a neighbour that gets another request keeps its address

pub each_again : (P : Neighbour → Type 0) → ((n : Neighbour) → P n → P (asked_again n))
    → (ns : List Neighbour) (i : ℕ) (d : Neighbour) → Each P ns → Each P (slice_set ns i (asked_again (get_or ns i d)))
each_again P keeps [] i d h = tt
each_again P keeps (n ∷ ns) zero d h = (keeps n h.0, h.1)
each_again P keeps (n ∷ ns) (suc i) d h = (h.0, each_again P keeps ns i d h.1)

pub distinct_again : (ns : List Neighbour) (i : ℕ) (d : Neighbour) → AreDistinct ns
    → AreDistinct (slice_set ns i (asked_again (get_or ns i d)))
distinct_again [] i d h = tt
distinct_again (n ∷ ns) zero d h = h
distinct_again (n ∷ ns) (suc i) d h = (each_again (λ m. m.ip ≢ n.ip) (λ m is. is) ns i d h.0, distinct_again ns i d h.1)

-- ---- a neighbour that is put

new_past : (ip : ℕ) (ns : List Neighbour) → length ns ≤ position_or_len (has_ip ip) ns → IsNew ip ns
new_past ip [] h = tt
new_past ip (n ∷ ns) h = go (λ e. new_past ip ns e) (has_ip ip n) refl h
  where
    go : (length ns ≤ position_or_len (has_ip ip) ns → IsNew ip ns) → (b : Bool) → has_ip ip n ≡ b
        → suc (length ns) ≤ cond (not b) (1 + position_or_len (has_ip ip) ns) 0 → IsNew ip (n ∷ ns)
    go rest true e h = absurd (omega arith)
    go rest false e h = (eqb-false n.ip ip e, rest (omega arith))

-- if no place is found, the address is new
pub new_ip : (ip : ℕ) (ns : List Neighbour) → neighbour_place ip ns ≡ None → IsNew ip ns
new_ip ip ns e = go (nat_lt (position_or_len (has_ip ip) ns) (length ns)) refl e
  where
    go : (b : Bool) → nat_lt (position_or_len (has_ip ip) ns) (length ns) ≡ b
        → cond b (Some (position_or_len (has_ip ip) ns)) None ≡ None → IsNew ip ns
    go true l is = absurd (none-some _ (sym is))
    go false l is = new_past ip ns (omega (arith, ltb-false _ _ l))

place_is : (ip : ℕ) (ns : List Neighbour) (at : ℕ) → neighbour_place ip ns ≡ Some at
    → at ≡ position_or_len (has_ip ip) ns
place_is ip ns at e = go (nat_lt (position_or_len (has_ip ip) ns) (length ns)) e
  where
    go : (b : Bool) → cond b (Some (position_or_len (has_ip ip) ns)) None ≡ Some at
        → at ≡ position_or_len (has_ip ip) ns
    go true is = sym (same_Some _ at is)
    go false is = absurd (none-some at is)

module _ (Q : Neighbour → Type 0) (new : Neighbour) (ip : ℕ) (same : new.ip ≡ ip) (good : Q new) where
  set_each : (ns : List Neighbour) (at : ℕ) → at ≡ position_or_len (has_ip ip) ns → AreDistinct ns
      → Each (λ n. n.ip ≢ ip → Q n) ns → Each Q (slice_set ns at new)
  set_each [] at e d h = tt
  set_each (n ∷ ns) at e d h = go (λ k f. set_each ns k f d.1 h.1) (has_ip ip n) refl at e
    where
      go : ((k : ℕ) → k ≡ position_or_len (has_ip ip) ns → Each Q (slice_set ns k new)) → (b : Bool) → has_ip ip n ≡ b
          → (at : ℕ) → at ≡ cond (not b) (1 + position_or_len (has_ip ip) ns) 0 → Each Q (slice_set (n ∷ ns) at new)
      go rest true is zero e =
          (good, each-both (λ m other ready. ready (λ x. other (x ∙ sym (eqb-true n.ip ip is)))) ns d.0 h.1)
      go rest true is (suc at) e = absurd (omega arith)
      go rest false is zero e = absurd (omega arith)
      go rest false is (suc at) e = (h.0 (eqb-false n.ip ip is), rest at (omega arith))

  set_distinct : (ns : List Neighbour) (at : ℕ) → at ≡ position_or_len (has_ip ip) ns → AreDistinct ns
      → AreDistinct (slice_set ns at new)
  set_distinct [] at e d = tt
  set_distinct (n ∷ ns) at e d = go (λ k f. set_distinct ns k f d.1) (has_ip ip n) refl at e
    where
      go : ((k : ℕ) → k ≡ position_or_len (has_ip ip) ns → AreDistinct (slice_set ns k new)) → (b : Bool)
          → has_ip ip n ≡ b
          → (at : ℕ) → at ≡ cond (not b) (1 + position_or_len (has_ip ip) ns) 0
          → AreDistinct (slice_set (n ∷ ns) at new)
      go rest true is zero e = (each-weaker (λ m other x. other (x ∙ same ∙ sym (eqb-true n.ip ip is))) ns d.0, d.1)
      go rest true is (suc at) e = absurd (omega arith)
      go rest false is zero e = absurd (omega arith)
      go rest false is (suc at) e =
          (each-set (λ m. m.ip ≢ n.ip) ns at new d.0 (λ x. eqb-false n.ip ip is (sym x ∙ same)), rest at (omega arith))

  room_each : (b : Bool) (ns : List Neighbour) → Each Q ns → Each Q (cond b ns (drop 1 ns))
  room_each true ns h = h
  room_each false ns h = each-drop Q 1 ns h

-- What holds of all others and of the one that is put holds of each.
pub put_each : (Q : Neighbour → Type 0) (new : Neighbour) (ns : List Neighbour) → Q new → AreDistinct ns
    → Each (λ n. n.ip ≢ new.ip → Q n) ns → Each Q (put new ns)
put_each Q new ns good d h = go (neighbour_place new.ip ns) refl
  where
    go : (at : Option ℕ) → neighbour_place new.ip ns ≡ at → Each Q (put_at at new ns)
    go None e =
        let all : Each Q ns = each-both (λ m other ready. ready other) ns (new_ip new.ip ns e) h in
        each-append Q (with_room ns) (new ∷ []) (room_each Q new new.ip refl good (nat_lt (length ns) 32) ns all)
        (good, tt)
    go (Some at) e = set_each Q new new.ip refl good ns at (place_is new.ip ns at e) d h

pub put_distinct : (new : Neighbour) (ns : List Neighbour) → AreDistinct ns → AreDistinct (put new ns)
put_distinct new ns d = go (neighbour_place new.ip ns) refl
  where
    room : (b : Bool) → AreDistinct (cond b ns (drop 1 ns))
    room true = d
    room false = distinct_drop ns d

    fresh : (b : Bool) → IsNew new.ip ns → IsNew new.ip (cond b ns (drop 1 ns))
    fresh true h = h
    fresh false h = each-drop (λ n. n.ip ≢ new.ip) 1 ns h

    go : (at : Option ℕ) → neighbour_place new.ip ns ≡ at → AreDistinct (put_at at new ns)
    go None e =
        distinct_push new (with_room ns) (room (nat_lt (length ns) 32))
        (fresh (nat_lt (length ns) 32) (new_ip new.ip ns e))
    go (Some at) e = set_distinct (λ n. Unit {0}) new new.ip refl tt ns at (place_is new.ip ns at e) d

-- The unfinished datagram with one key, while things happen to other keys.
use Rattle.std.proofs.Common.{◌≡◌, ◌≢◌, ℕ, ◌+◌, ◌-◌, ◌^◌, ◌<◌, ◌≤◌, Bool, true, false, List, [], ◌∷◌, ◌++◌, length, map, refl, sym, ◌∙◌, ap, ◌⊎◌, inl, inr, arith, Option, Some, None, cond}
use Rattle.std.specs.Prelude.{find, filter, not, nat_lt, ⊤}
use Rattle.std.proofs.lemmas.Bool.{lt-ltb}
use Rattle.std.proofs.lemmas.Option.{none-some, same_Some}
use Rattle.flat_model.specs.Fragments.Overlay.{Map}
use Rattle.flat_model.specs.Machine.Count.{counted, counts_more}
use Rattle.flat_model.specs.Machine.State.{State, Key, Unfinished, begun, is_key}
use Rattle.flat_model.specs.Machine.Ledger.{Ledger, reclaimed}
use Rattle.flat_model.specs.declared.counter.Counter.TheVariants.{IpTotal, IpFragments, IpReassembled, IpReclaimed}
use Rattle.flat_model.specs.declared.counters.Counters.{Counters}
use Rattle.flat_model.proofs.Laws.{whole_key}
use Rattle.flat_wire.proofs.Closed.{IsClosedBy}
use Rattle.flat_wire.proofs.Counting.{AtLeast, at_least_counted}

pub false_true : false ≡ true → ⊥
false_true e = cc

module _ (k : Key) where
  abbrev pub at : List Unfinished → Option Unfinished
  at us = find (is_key k) us

  -- a datagram with another key
  other : (key : Key) (u : Unfinished) → key ≢ k → is_key k u ≡ true → is_key key u ≡ false
  other key u apart e = go (is_key key u) refl
    where
      go : (b : Bool) → is_key key u ≡ b → b ≡ false
      go false same = refl
      go true same = absurd (apart (sym ((whole_key key u).0 same) ∙ (whole_key k u).0 e))

  begun_other : (key : Key) → key ≢ k → is_key k (begun key) ≡ false
  begun_other key apart = go (is_key k (begun key)) refl
    where
      go : (b : Bool) → is_key k (begun key) ≡ b → b ≡ false
      go false e = refl
      go true e = absurd (apart ((whole_key k (begun key)).0 e))

  begins_other : (key : Key) → key ≢ k → (us : List Unfinished) → at (us ++ begun key ∷ []) ≡ at us
  begins_other key apart [] = ap (λ b. cond b (Some (begun key)) None) (begun_other key apart)
  begins_other key apart (u ∷ us) = ap (λ rest. cond (is_key k u) (Some u) rest) (begins_other key apart us)

  pub begins_this : (us : List Unfinished) → at us ≡ None → at (us ++ begun k ∷ []) ≡ Some (begun k)
  begins_this [] e = ap (λ b. cond b (Some (begun k)) None) ((whole_key k (begun k)).1 refl)
  begins_this (u ∷ us) e = go (is_key k u) e (begins_this us)
    where
      go : (b : Bool) → cond b (Some u) (at us) ≡ None → (at us ≡ None → at (us ++ begun k ∷ []) ≡ Some (begun k))
          → cond b (Some u) (at (us ++ begun k ∷ [])) ≡ Some (begun k)
      go true e rest = absurd (none-some u (sym e))
      go false e rest = rest e

  abbrev put : Key → Map → Unfinished → Unfinished
  put key bytes u = cond (is_key key u) (record u { bytes = bytes }) u

  same_key : (key : Key) (bytes : Map) (u : Unfinished) (b : Bool)
      → is_key k (cond b (record u { bytes = bytes }) u) ≡ is_key k u
  same_key key bytes u true = refl
  same_key key bytes u false = refl

  sets_other : (key : Key) (bytes : Map) → key ≢ k → (us : List Unfinished) → at (map (put key bytes) us) ≡ at us
  sets_other key bytes apart [] = refl
  sets_other key bytes apart (u ∷ us) =
      ap (λ b. cond b (Some (put key bytes u)) (at (map (put key bytes) us))) (same_key key bytes u (is_key key u))
      ∙ go (is_key k u) refl (sets_other key bytes apart us)
    where
      go : (b : Bool) → is_key k u ≡ b → at (map (put key bytes) us) ≡ at us
          → cond b (Some (put key bytes u)) (at (map (put key bytes) us)) ≡ cond b (Some u) (at us)
      go true e rest = ap (λ c. Some (cond c (record u { bytes = bytes }) u)) (other key u apart e)
      go false e rest = rest

  pub sets_this : (bytes : Map) (us : List Unfinished) (u : Unfinished) → at us ≡ Some u
      → at (map (put k bytes) us) ≡ Some (record u { bytes = bytes })
  sets_this bytes [] u e = absurd (none-some u e)
  sets_this bytes (v ∷ us) u e =
      ap (λ b. cond b (Some (put k bytes v)) (at (map (put k bytes) us))) (same_key k bytes v (is_key k v))
      ∙ go (is_key k v) refl e (sets_this bytes us u)
    where
      go : (b : Bool) → is_key k v ≡ b → cond b (Some v) (at us) ≡ Some u
          → (at us ≡ Some u → at (map (put k bytes) us) ≡ Some (record u { bytes = bytes }))
          → cond b (Some (put k bytes v)) (at (map (put k bytes) us)) ≡ Some (record u { bytes = bytes })
      go true is e rest =
          ap (λ c. Some (cond c (record v { bytes = bytes }) v)) is
          ∙ ap (λ (w : Unfinished). Some (record w { bytes = bytes })) (same_Some v u e)
      go false is e rest = rest e

  ends_other : (key : Key) → key ≢ k → (us : List Unfinished) → at (filter (λ u. not (is_key key u)) us) ≡ at us
  ends_other key apart [] = refl
  ends_other key apart (u ∷ us) = go (is_key key u) (is_key k u) refl refl (ends_other key apart us)
    where
      go : (b c : Bool) → is_key key u ≡ b → is_key k u ≡ c → at (filter (λ u. not (is_key key u)) us) ≡ at us
          → at (cond (not b) (u ∷ filter (λ u. not (is_key key u)) us) (filter (λ u. not (is_key key u)) us))
          ≡ cond c (Some u) (at us)
      go true true eb ec rest = absurd (false_true (sym (other key u apart ec) ∙ eb))
      go true false eb ec rest = rest
      go false true eb ec rest = ap (λ d. cond d (Some u) (at (filter (λ u. not (is_key key u)) us))) ec
      go false false eb ec rest =
          ap (λ d. cond d (Some u) (at (filter (λ u. not (is_key key u)) us))) ec ∙ rest

  -- ---- a tick

  abbrev older : Unfinished → Unfinished
  older u = record u { ticks = u.ticks - 1 }

  abbrev pub kept : List Unfinished → List Unfinished
  kept us = filter (λ u. nat_lt 0 u.ticks) (map older us)

  pub tick_none : (us : List Unfinished) → at us ≡ None → at (kept us) ≡ None
  tick_none [] e = refl
  tick_none (u ∷ us) e = go (is_key k u) (nat_lt 0 (u.ticks - 1)) refl e (tick_none us)
    where
      go : (b c : Bool) → is_key k u ≡ b → cond b (Some u) (at us) ≡ None → (at us ≡ None → at (kept us) ≡ None)
          → at (cond c (older u ∷ kept us) (kept us)) ≡ None
      go true c is e rest = absurd (none-some u (sym e))
      go false true is e rest = ap (λ d. cond d (Some (older u)) (at (kept us))) is ∙ rest e
      go false false is e rest = rest e

  pub tick_some : (us : List Unfinished) (u : Unfinished) → at us ≡ Some u → 1 < u.ticks
      → at (kept us) ≡ Some (older u)
  tick_some [] u e more = absurd (none-some u e)
  tick_some (v ∷ us) u e more = go (is_key k v) (nat_lt 0 (v.ticks - 1)) refl refl e (λ e. tick_some us u e more)
    where
      go : (b c : Bool) → is_key k v ≡ b → nat_lt 0 (v.ticks - 1) ≡ c → cond b (Some v) (at us) ≡ Some u
          → (at us ≡ Some u → at (kept us) ≡ Some (older u))
          → at (cond c (older v ∷ kept us) (kept us)) ≡ Some (older u)
      go true true is some e rest =
          ap (λ d. cond d (Some (older v)) (at (kept us))) is ∙ ap (λ w. Some (older w)) (same_Some v u e)
      go true false is none e rest =
          absurd (false_true (sym none ∙ lt-ltb 0 (v.ticks - 1)
          (omega (arith, more, ap (λ (w : Unfinished). w.ticks) (same_Some v u e)))))
      go false true is c e rest = ap (λ d. cond d (Some (older v)) (at (kept us))) is ∙ rest e
      go false false is c e rest = rest e

-- ---- what holds while other keys come and go, unless a datagram was reclaimed or buffers lacked

abbrev pub HasMore : ℕ → ℕ → Counters → Type 0
HasMore r b c = AtLeast (r + 1) b c ⊎ AtLeast r (b + 1) c

module _ (L : Ledger) (k : Key) (o : Option Unfinished) (r b : ℕ) (small_r : r < 2 ^ 64 - 1) (small_b : b < 2 ^ 64 - 1)
  where
    abbrev pub Stays : List Unfinished → Counters → Type 0
    Stays us c = AtLeast r b c × ((at k us ≡ o) ⊎ HasMore r b c)

    more_counts : (f : Counters → Counters)
        → ((m n : ℕ) (c : Counters) → m ≤ 2 ^ 64 - 1 → n ≤ 2 ^ 64 - 1 → AtLeast m n c → AtLeast m n (f c))
        → (c : Counters) → HasMore r b c → HasMore r b (f c)
    more_counts f keeps c (inl h) = inl (keeps (r + 1) b c (omega arith) (omega arith) h)
    more_counts f keeps c (inr h) = inr (keeps r (b + 1) c (omega arith) (omega arith) h)

    -- it never gets less again
    pub has_more_closed : IsClosedBy L (λ key. ⊤) (λ s. HasMore r b s.counters)
    has_more_closed = record {
      ended = λ why s h. more_counts (counted why) (λ m n c sm sn. at_least_counted L m n sm sn why c) s.counters h;
      dropped =
          λ s h. more_counts (counts_more IpReclaimed (length s.unfinished))
          (λ m n c sm sn a. record { reclaimed = omega (arith, a.reclaimed, sm); nobufs = a.nobufs }) s.counters h;
      queued = λ fd d s h. h;
      begins = λ key s q h. h;
      sets = λ key bytes s q h. h;
      finishes =
          λ key s q h. more_counts (counts_more IpReassembled 1)
          (λ m n c sm sn a. record { reclaimed = a.reclaimed; nobufs = a.nobufs }) s.counters h;
      fragment =
          λ s h. more_counts (counts_more IpFragments 1)
          (λ m n c sm sn a. record { reclaimed = a.reclaimed; nobufs = a.nobufs }) s.counters h;
      packet =
          λ s h. more_counts (counts_more IpTotal 1)
          (λ m n c sm sn a. record { reclaimed = a.reclaimed; nobufs = a.nobufs }) s.counters h;
    }

    counts : (us more : List Unfinished) (f : Counters → Counters) → at k more ≡ at k us
        → ((m n : ℕ) (c : Counters) → m ≤ 2 ^ 64 - 1 → n ≤ 2 ^ 64 - 1 → AtLeast m n c → AtLeast m n (f c))
        → (c : Counters) → Stays us c → Stays more (f c)
    counts us more f same keeps c (low, inl e) =
        (keeps r b c (omega arith) (omega arith) low, inl (same ∙ e))
    counts us more f same keeps c (low, inr h) =
        (keeps r b c (omega arith) (omega arith) low, inr (more_counts f keeps c h))

    pub stays_closed : IsClosedBy L (λ key. key ≢ k) (λ s. Stays s.unfinished s.counters)
    stays_closed = record {
      ended =
          λ why s h. counts s.unfinished s.unfinished (counted why) refl
          (λ m n c sm sn. at_least_counted L m n sm sn why c) s.counters
          h;
      dropped = λ s h. drops s s.unfinished refl h;
      queued = λ fd d s h. h;
      begins = λ key s q h. (h.0, moved s.unfinished _ s.counters (begins_other k key q s.unfinished) h.1);
      sets = λ key bytes s q h. (h.0, moved s.unfinished _ s.counters (sets_other k key bytes q s.unfinished) h.1);
      finishes =
          λ key s q h. counts s.unfinished _ (counts_more IpReassembled 1) (ends_other k key q s.unfinished)
          (λ m n c sm sn a. record { reclaimed = a.reclaimed; nobufs = a.nobufs }) s.counters h;
      fragment =
          λ s h. counts s.unfinished s.unfinished (counts_more IpFragments 1) refl
          (λ m n c sm sn a. record { reclaimed = a.reclaimed; nobufs = a.nobufs }) s.counters h;
      packet =
          λ s h. counts s.unfinished s.unfinished (counts_more IpTotal 1) refl
          (λ m n c sm sn a. record { reclaimed = a.reclaimed; nobufs = a.nobufs }) s.counters h;
    }
      where
        moved : (us more : List Unfinished) (c : Counters) → at k more ≡ at k us → (at k us ≡ o) ⊎ HasMore r b c
            → (at k more ≡ o) ⊎ HasMore r b c
        moved us more c same (inl e) = inl (same ∙ e)
        moved us more c same (inr h) = inr h

        -- a reclaim of nothing changes nothing, and any other is counted
        drops : (s : State) (us : List Unfinished) → s.unfinished ≡ us → Stays s.unfinished s.counters
            → Stays [] (reclaimed s).counters
        drops s [] e h =
            counts s.unfinished [] (counts_more IpReclaimed (length s.unfinished)) (ap (at k) (sym e))
            (λ m n c sm sn a. record { reclaimed = omega (arith, a.reclaimed, sm); nobufs = a.nobufs }) s.counters h
        drops s (u ∷ us) e h =
            let some : 0 < length s.unfinished = omega (arith, ap length e) in
            let low = h.0.reclaimed in (
              record { reclaimed = omega (arith, low, small_r); nobufs = h.0.nobufs },
              inr (inl (record { reclaimed = omega (arith, low, some, small_r); nobufs = h.0.nobufs })),
            )

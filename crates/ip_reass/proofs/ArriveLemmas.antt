-- An arriving fragment, as a step of the flat machine.
use Rattle.std.proofs.Common.{◌≡◌, ℕ, zero, suc, ◌+◌, ◌-◌, ◌<◌, ◌≤◌, Bool, true, false, cond, List, [], ◌∷◌, ◌++◌, length, find, count_by, drop, Option, None, Some, is_some, refl, sym, ap, ◌∙◌, subst, arith, length-drop}
use Rattle.std.specs.Prelude.{slice_get}
use Rattle.std.proofs.lemmas.Bool.{false≢true, ltb-false, or_parts, cond-true, cond-false}
use Rattle.std.proofs.lemmas.Option.{none-some}
use Rattle.flat_model.specs.Machine.Fate.{told}
use Rattle.flat_model.specs.declared.fate.Fate.{Fate}
use Rattle.flat_model.specs.Amounts.Weight.{Weight, Item, SameWeight, nothing, mbuf, ◌⊕◌, all_of, times}
use Rattle.flat_model.specs.Fragments.Whole.{weight_of_pieces}
use Rattle.flat_model.specs.Fragments.Overlay.{Fragment}
use Rattle.flat_model.specs.Machine.State.{State, Socket, Key, Unfinished, is_key, begun, begin_unfinished, ends}
use Rattle.flat_model.specs.Machine.Count.{counted, counts_more}
use Rattle.flat_model.specs.Machine.Ledger.{exact_ledger, HasBuffers, need_mbufs}
use Rattle.flat_model.specs.Machine.Arrival.{is_bad_fragment, counts_fragment, JoinsAs, InsertsAs, TestsAs, Ended}
use Rattle.flat_model.specs.declared.counters.Counters.{Counters}
use Rattle.flat_model.specs.declared.counter.Counter.TheVariants.{IpFragments}
use Rattle.flat_model.specs.declared.counters.Why.TheVariants.{BadFragment, NoBufs}
use Rattle.flat_model.proofs.Laws.{times-both, all_of-append}
use Rattle.mbuf_chain.specs.Chain.{Entry, Front, ChainView, PoolView, without, chain_of, entry_of, flat_bytes, string, with_chain}
use Rattle.mbuf_chain.specs.Owners as owners
use Rattle.mbuf_chain.specs.Owners.{IsOwned, Moves}
use Rattle.mbuf_chain.specs.Frames.{SameAt}
use Rattle.mbuf_chain.proofs.Laws.Owners.{moves_trans, moves_beside, moves_with, moves_without, moves_adds, same_with, same_beside, shown_with, owned_after, live_first, live_at_most, apart_first}
use Rattle.chain_ops.specs.Makes.{Makes}
use Rattle.ip_reass.proofs.Reserve.{Stays}
use Rattle.chain_ops.specs.Pulls as ops
use Rattle.chain_ops.specs.Trims.{without_first}
use Rattle.chain_ops.proofs.Laws.Strings.{without_first_bytes, pulled_up_bytes}
use Rattle.ledger.specs.Accounts.{IsAccounted, Shifts, entries_weight, weight_at, weight_owned}
use Rattle.ledger.proofs.Laws.{accounted_after}
use Rattle.ip_out.specs.declared.head.IpHead.{IpHead}
use Rattle.ip_reass.specs.Fragments.{fragment_of}
use Rattle.ip_reass.specs.Inside.Place.{IsFirst}
use Rattle.ip_reass.specs.Inside.Walks.{arrived}
use Rattle.ip_reass.specs.Table.{held_all, AreDistinct, IsTable, unfinished, unfinished_of}
use Rattle.ip_reass.specs.Inside.Steps.{datagram_at}
use Rattle.ip_reass.specs.Same.{held_all_same, table_same, unfinished_same, queues_same, table_weighs}
use Rattle.ip_reass.specs.Layouts.{queues, fragment_carried, ChainArrives}
use Rattle.ip_reass.specs.Arrivals.{with_waiting, flat_head, key_in, IsPulled, pulled_entries, carried_entries}
use Rattle.ip_reass.specs.declared.datagram.Datagram.{Datagram}
use Rattle.ip_reass.proofs.Places.{found_passes}

-- ---- the accounts after a step: for the chains that the arrival holds, and for the table
pub accounts : (p q : PoolView) (xs ys : List ℕ) (rest : State) (held a b : Weight) (ds es : List Datagram)
    (c d : Counters) → IsAccounted p (with_waiting p ds c rest) (held ⊕ a)
    → Moves p (xs ++ held_all p ds) q (ys ++ held_all q es)
    → IsOwned p (xs ++ held_all p ds) → IsTable p ds → IsTable q es → SameWeight (weight_owned p xs) a
    → SameWeight (weight_owned q ys) b → IsAccounted q (with_waiting q es d rest) (held ⊕ b)
accounts p q xs ys rest held a b ds es c d acc m owns is after wa wb =
    let sockets : Weight = all_of (λ (socket : Socket). all_of (λ x. x.item.weight) socket.queue) rest.sockets in
    let output : Weight = all_of (λ (item : Item). item.weight) rest.output in
    let up : Weight = all_of (λ (u : Unfinished). mbuf ⊕ weight_of_pieces u.bytes) (unfinished p ds) in
    let uq : Weight = all_of (λ (u : Unfinished). mbuf ⊕ weight_of_pieces u.bytes) (unfinished q es) in
    let before : weight_owned p (xs ++ held_all p ds) ≡ weight_owned p xs ⊕ weight_owned p (held_all p ds) =
    all_of-append (weight_at p) xs (held_all p ds) in
    let then_is : weight_owned q (ys ++ held_all q es) ≡ weight_owned q ys ⊕ weight_owned q (held_all q es) =
    all_of-append (weight_at q) ys (held_all q es) in
    let tp = table_weighs p ds is.each in
    let tq = table_weighs q es after.each in
    let shifts : Shifts (with_waiting p ds c rest) (held ⊕ a) (weight_owned p (xs ++ held_all p ds))
    (with_waiting q es d rest)
    (held ⊕ b) (weight_owned q (ys ++ held_all q es)) = record {
      mbufs =
          omega (
            arith,
            ap (λ (w : Weight). w.mbufs) before,
            ap (λ (w : Weight). w.mbufs) then_is,
            tp.mbufs,
            tq.mbufs,
            wa.mbufs,
            wb.mbufs,
          );
      bag = λ k. omega (
        arith,
        ap (λ (w : Weight). times k w.bag) before,
        ap (λ (w : Weight). times k w.bag) then_is,
        tp.bag k,
        tq.bag k,
        wa.bag k,
        wb.bag k,
        times-both k (weight_owned p xs) (weight_owned p (held_all p ds)),
        times-both k (weight_owned q ys) (weight_owned q (held_all q es)),
        times-both k (sockets ⊕ up ⊕ output) (held ⊕ a),
        times-both k (sockets ⊕ up) output,
        times-both k sockets up,
        times-both k held a,
        times-both k (sockets ⊕ uq ⊕ output) (held ⊕ b),
        times-both k (sockets ⊕ uq) output,
        times-both k sockets uq,
        times-both k held b,
      );
    } in
    accounted_after acc m owns refl shifts

pub one_weighs : (p : PoolView) (c : ℕ) → SameWeight (weight_owned p (c ∷ [])) (weight_at p c)
one_weighs p c = record { mbufs = omega arith; bag = λ k. omega (arith, times-both k (weight_at p c) nothing) }

pub same_weight : (a : Weight) → SameWeight a a
same_weight a = record { mbufs = refl; bag = λ k. refl }

-- ---- the header is removed
pub record Trimmed (q : PoolView) (es : List Datagram) (n : ℕ) (r : PoolView) : Type 0 where
  pub table : IsTable r es
  pub shows : unfinished r es ≡ unfinished q es
  pub rows : queues r es ≡ queues q es
  pub chain : chain_of r n ≡ record (chain_of q n) { entries = without_first 20 (chain_of q n).entries }
  pub owned : IsOwned r (n ∷ held_all r es)
  pub moves : Moves q (n ∷ held_all q es) r (n ∷ held_all r es)

pub trimmed_off : (q r : PoolView) (es : List Datagram) (n : ℕ) → IsTable q es → IsOwned q (n ∷ held_all q es)
    → r ≡ with_chain q n (record (chain_of q n) { entries = without_first 20 (chain_of q n).entries })
    → Trimmed q es n r
trimmed_off q r es n is owns gone =
    let v : ChainView = record (chain_of q n) { entries = without_first 20 (chain_of q n).entries } in
    let same : SameAt q r (held_all q es) =
    same_with q r n (record (chain_of q n) { entries = without_first 20 (chain_of q n).entries }) (held_all q es)
    (apart_first q n (held_all q es) owns) gone in
    let all : held_all r es ≡ held_all q es = held_all_same q r es same in
    let m : Moves q (n ∷ held_all q es) r (n ∷ held_all r es) =
    moves_beside (n ∷ held_all q es) (n ∷ held_all r es) (held_all q es)
    (moves_with q r n (record (chain_of q n) { entries = without_first 20 (chain_of q n).entries })
    (live_first q n (held_all q es) owns) gone) (λ k. omega arith) (λ k. omega
    (arith, ap (owners.times_among k) all)) in
    record {
      table = table_same q r es same is;
      shows = unfinished_same q r es same;
      rows = queues_same q r es same;
      chain = shown_with q r n (record (chain_of q n) { entries = without_first 20 (chain_of q n).entries }) gone;
      owned = owned_after m owns;
      moves = m;
    }

-- ---- the bytes of the fragment that joins
pub carried_bytes : (v : ChainView) → flat_bytes (carried_entries v) ≡ drop 20 (string v)
carried_bytes v =
    without_first_bytes 20 (pulled_entries v) ∙ ap (drop 20) (pulled_bytes (is_some (entry_of v 0).cluster))
  where
    pulled_bytes : (b : Bool) → flat_bytes (cond b (ops.entries_pulled v 20) v.entries) ≡ string v
    pulled_bytes true = pulled_up_bytes v 20
    pulled_bytes false = refl

-- ---- the three cases of `ChainArrives`
module _ (fate : Fate) (held : Weight) (old new : State) (h : IpHead) (v : ChainView) where
  -- a malformed fragment
  pub arrives_bad : is_bad_fragment (flat_head h) (h.total - 20) ≡ true
      → told fate (Ended BadFragment) new (ends BadFragment old)
      → ChainArrives (told fate) held h v old new
  arrives_bad bad is = record { yes = λ e. is; no = λ e. absurd (false≢true (sym e ∙ bad)) }

  -- the first mbuf is a cluster
  pub arrives_cluster : is_bad_fragment (flat_head h) (h.total - 20) ≡ false → is_some (entry_of v 0).cluster ≡ true
      → TestsAs exact_ledger (counts_fragment old) (held ⊕ entries_weight v.entries) 1 (told fate (Ended NoBufs) new)
      (λ mid. JoinsAs exact_ledger (told fate) held (key_in h) (fragment_of (fragment_carried v h)) mid new)
      → ChainArrives (told fate) held h v old new
  arrives_cluster good cluster tests = record {
    yes = λ e. absurd (false≢true (sym good ∙ e));
    no = λ e. record { yes = λ is. tests; no = λ is. absurd (false≢true (sym is ∙ cluster)) };
  }

  -- the first mbuf is plain
  pub arrives_plain : is_bad_fragment (flat_head h) (h.total - 20) ≡ false → is_some (entry_of v 0).cluster ≡ false
      → JoinsAs exact_ledger (told fate) held (key_in h) (fragment_of (fragment_carried v h)) (counts_fragment old) new
      → ChainArrives (told fate) held h v old new
  arrives_plain good plain joins = record {
    yes = λ e. absurd (false≢true (sym good ∙ e));
    no = λ e. record { yes = λ is. absurd (false≢true (sym plain ∙ is)); no = λ is. joins };
  }

-- the test for the header's mbuf and, if it passed, the fragment that joins the others
pub tests_of : (fate : Fate) (rest : State) (held : Weight) (new : State) (k : Key) (f : Fragment) (w : Weight)
    (p q : PoolView)
    (ds es : List Datagram) (c d : Counters) (answer : Bool) → IsPulled p ds c w answer q es d rest held
    → (answer ≡ true → JoinsAs exact_ledger (told fate) held k f (with_waiting q es d rest) new)
    → (answer ≡ false → told fate (Ended NoBufs) new (with_waiting q es d rest))
    → TestsAs exact_ledger (with_waiting p ds c rest) (held ⊕ w) 1 (told fate (Ended NoBufs) new)
    (λ mid. JoinsAs exact_ledger (told fate) held k f mid new)
tests_of fate rest held new k f w p q ds es c d true t joins ended = record {
  answer = true;
  mid = with_waiting q es t.mid rest;
  has_buffers = t.has_buffers;
  goes_on =
      record {
        yes = λ e. subst (λ (x : Counters). JoinsAs exact_ledger (told fate) held k f (with_waiting q es x rest)
            new) t.counts
            (joins refl);
        no = λ e. absurd (false≢true (sym e));
      };
}
tests_of fate rest held new k f w p q ds es c d false t joins ended = record {
  answer = false;
  mid = with_waiting q es t.mid rest;
  has_buffers = t.has_buffers;
  goes_on =
      record {
        yes = λ e. absurd (false≢true e);
        no = λ e. ((ended refl).0, (ended refl).1 ∙ ap (λ (x : Counters). with_waiting q es x rest) t.counts);
      };
}

-- ---- a look-up by key
pub none_by_key : (p : PoolView) (k : Key) (ds : List Datagram)
    → find (λ (d : Datagram). is_key k (unfinished_of p d)) ds ≡ None → find (is_key k) (unfinished p ds) ≡ None
none_by_key p k [] e = refl
none_by_key p k (d ∷ ds) e = go (is_key k (unfinished_of p d)) refl (none_by_key p k ds)
  where
    go : (b : Bool) → is_key k (unfinished_of p d) ≡ b
        → (find (λ (x : Datagram). is_key k (unfinished_of p x)) ds ≡ None → find (is_key k) (unfinished p ds) ≡ None)
        → find (is_key k) (unfinished p (d ∷ ds)) ≡ None
    go true is ih = absurd (none-some d (sym e ∙ cond-true _ _ _ is))
    go false is ih = cond-false _ _ _ is ∙ ih (sym (cond-false _ _ _ is) ∙ e)

pub some_by_key : (p : PoolView) (k : Key) (ds : List Datagram) (x : Datagram)
    → find (λ (d : Datagram). is_key k (unfinished_of p d)) ds ≡ Some x
    → find (is_key k) (unfinished p ds) ≡ Some (unfinished_of p x)
some_by_key p k [] x e = absurd (none-some x e)
some_by_key p k (d ∷ ds) x e = go (is_key k (unfinished_of p d)) refl (some_by_key p k ds x)
  where
    or_x : Option Datagram → Datagram
    or_x None = x
    or_x (Some y) = y

    go : (b : Bool) → is_key k (unfinished_of p d) ≡ b
        → (find (λ (y : Datagram). is_key k (unfinished_of p y)) ds ≡ Some x
        → find (is_key k) (unfinished p ds)
        ≡ Some (unfinished_of p x)) → find (is_key k) (unfinished p (d ∷ ds)) ≡ Some (unfinished_of p x)
    go true is ih =
        cond-true _ _ _ is ∙ ap (λ (y : Datagram). Some (unfinished_of p y)) (ap or_x (sym (cond-true _ _ _ is) ∙ e))
    go false is ih = cond-false _ _ _ is ∙ ih (sym (cond-false _ _ _ is) ∙ e)

-- ---- a fragment joins the others with its key
pub joins_none : (fate : Fate) (rest : State) (held : Weight) (new : State) (k : Key) (f : Fragment) (p : PoolView)
    (ds : List Datagram) (c : Counters) → find (is_key k) (unfinished p ds) ≡ None
    → TestsAs exact_ledger (with_waiting p ds c rest) (held ⊕ f.weight) 1 (told fate (Ended NoBufs) new)
    (λ mid. InsertsAs exact_ledger (told fate) held k f (begun k) (begin_unfinished k mid) new)
    → JoinsAs exact_ledger (told fate) held k f (with_waiting p ds c rest) new
joins_none fate rest held new k f p ds c none tests =
    record { none = λ e. tests; some = λ x e. absurd (none-some x (sym none ∙ e)) }

pub joins_some : (fate : Fate) (rest : State) (held : Weight) (new : State) (k : Key) (f : Fragment) (p : PoolView)
    (ds : List Datagram) (c : Counters) (d : Datagram) → find (is_key k) (unfinished p ds) ≡ Some (unfinished_of p d)
    → InsertsAs exact_ledger (told fate) held k f (unfinished_of p d) (with_waiting p ds c rest) new
    → JoinsAs exact_ledger (told fate) held k f (with_waiting p ds c rest) new
joins_some fate rest held new k f p ds c d found inserts = record {
  none = λ e. absurd (none-some (unfinished_of p d) (sym e ∙ found));
  some =
      λ x e. subst (λ (u : Unfinished). InsertsAs exact_ledger (told fate) held k f u (with_waiting p ds c rest) new)
      (ap or_d (sym found ∙ e)) inserts;
}
  where
    or_d : Option Unfinished → Unfinished
    or_d None = unfinished_of p d
    or_d (Some u) = u

pub slice_at : (ds : List Datagram) (i : ℕ) → i < length ds → slice_get ds i ≡ Some (datagram_at ds i)
slice_at [] i l = absurd (omega arith)
slice_at (d ∷ ds) zero l = refl
slice_at (d ∷ ds) (suc i) l = slice_at ds i (omega arith)

-- **its key was found at a place**
pub joins_found : (fate : Fate) (rest : State) (held : Weight) (new : State) (k : Key) (f : Fragment) (p : PoolView)
    (ds : List Datagram) (c : Counters) (i : ℕ) → IsFirst k ds i → AreDistinct p ds
    → (is_key k (unfinished_of p (datagram_at ds i)) ≡ true → count_by (is_key k) (unfinished p ds) ≤ 1
    → InsertsAs exact_ledger (told fate) held k f (unfinished_of p (datagram_at ds i)) (with_waiting p ds c rest) new)
    → JoinsAs exact_ledger (told fate) held k f (with_waiting p ds c rest) new
joins_found fate rest held new k f p ds c i first distinct step =
    let key : find (is_key k) (unfinished p ds) ≡ Some (unfinished_of p (datagram_at ds i)) =
    some_by_key p k ds (datagram_at ds i) (first.here ∙ slice_at ds i first.within) in
    let here : is_key k (unfinished_of p (datagram_at ds i)) ≡ true =
    found_passes (is_key k) (unfinished p ds) (unfinished_of p (datagram_at ds i)) key in
    joins_some fate rest held new k f p ds c (datagram_at ds i) key (step here (distinct k))

-- ---- the header's mbuf
pub pulled_lacking : (rest : State) (held w : Weight) (p q r : PoolView) (ds es : List Datagram) (c mid d : Counters)
    (answer : Bool) → answer ≡ false
    → HasBuffers exact_ledger (with_waiting p ds c rest) (held ⊕ w) (need_mbufs 1) answer (with_waiting q es mid rest)
    → unfinished r es ≡ unfinished q es → d ≡ counted NoBufs mid → IsPulled p ds c w false r es d rest held
pulled_lacking rest held w p q r ds es c mid d answer refused af shows counts = record {
  mid = mid;
  has_buffers =
      subst (λ (us : List Unfinished). HasBuffers exact_ledger (with_waiting p ds c rest) (held ⊕ w) (need_mbufs 1)
      false
      (record rest { unfinished = us; counters = mid })) (sym shows)
      (subst (λ (b : Bool). HasBuffers exact_ledger (with_waiting p ds c rest) (held ⊕ w) (need_mbufs 1) b
      (with_waiting q es mid rest)) refused af);
  counts = counts;
}

pub pulled_done : (rest : State) (held w : Weight) (p q r : PoolView) (ds es : List Datagram) (c mid : Counters)
    (answer : Bool) → answer ≡ true
    → HasBuffers exact_ledger (with_waiting p ds c rest) (held ⊕ w) (need_mbufs 1) answer (with_waiting q es mid rest)
    → unfinished r es ≡ unfinished q es → IsPulled p ds c w true r es mid rest held
pulled_done rest held w p q r ds es c mid answer agrees af shows = record {
  mid = mid;
  has_buffers =
      subst (λ (us : List Unfinished). HasBuffers exact_ledger (with_waiting p ds c rest) (held ⊕ w) (need_mbufs 1) true
      (record rest { unfinished = us; counters = mid })) (sym shows)
      (subst (λ (b : Bool). HasBuffers exact_ledger (with_waiting p ds c rest) (held ⊕ w) (need_mbufs 1) b
      (with_waiting q es mid rest)) agrees af);
  counts = refl;
}

-- the table, and the chain that was pulled up
pub record Pulled (p : PoolView) (ds : List Datagram) (c : ℕ) (q r : PoolView) (es : List Datagram) (d : ℕ) : Type 0
  where
    pub table : IsTable r es
    pub shows : unfinished r es ≡ unfinished q es
    pub rows : queues r es ≡ queues q es
    pub moves : Moves p (c ∷ held_all p ds) r (d ∷ held_all r es)

pub pulled : (p q r : PoolView) (ds es : List Datagram) (c d : ℕ) (f : Front) (entries : List Entry) → Stays p ds c q es
    → IsTable q es → Makes (without q c) r d f entries → Pulled p ds c q r es d
pulled p q r ds es c d f entries st is made =
    let step : Moves q (c ∷ []) r (d ∷ []) =
    moves_trans (moves_without q (without q c) c st.live refl) (moves_adds made.adds) in
    let same : SameAt q r (held_all q es) =
    same_beside (held_all q es) step is.owned (λ k l. omega (arith, st.owned k, live_at_most q k)) in
    let all : held_all r es ≡ held_all q es = held_all_same q r es same in
    record {
      table = table_same q r es same is;
      shows = unfinished_same q r es same;
      rows = queues_same q r es same;
      moves =
          moves_trans st.moves (moves_beside (c ∷ held_all q es) (d ∷ held_all r es) (held_all q es) step
          (λ k. omega arith) (λ k. omega (arith, ap (owners.times_among k) all)));
    }

-- ---- a fragment that isn't malformed
pub good_some : (h : IpHead) (n : ℕ) → is_bad_fragment (flat_head h) n ≡ false → 0 < n
good_some h zero e = absurd (false≢true (sym e))
good_some h (suc n) e = omega arith

pub good_small : (h : IpHead) (n : ℕ) → is_bad_fragment (flat_head h) n ≡ false → h.offset + n ≤ 65515
good_small h n e = ltb-false _ _ (or_parts _ _ e).1

-- **a fragment whose header is in a plain mbuf now**
module _ (fate : Fate) (rest : State) (held : Weight) (new : State) (h : IpHead) (p q r : PoolView)
    (ds es : List Datagram)
    (c c1 d : Counters) (n n' : ℕ) (good : is_bad_fragment (flat_head h) (h.total - 20) ≡ false)
    (counts : c1 ≡ counts_more IpFragments 1 c)
    (entries : (chain_of q n').entries ≡ pulled_entries (chain_of p n)) (t : Trimmed q es n' r)
    (joins : JoinsAs exact_ledger (told fate) held (key_in h) (fragment_of (arrived r n' h.offset h.more))
    (with_waiting r es d rest)
    new) where
  carried_now : fragment_of (arrived r n' h.offset h.more) ≡ fragment_of (fragment_carried (chain_of p n) h)
  carried_now =
      ap (λ (xs : List Entry). fragment_of (record { offset = h.offset; more = h.more; entries = xs }))
      (ap (λ (v : ChainView). v.entries) t.chain ∙ ap (without_first 20) entries)

  -- the fragment joins the others in the state after the test for its header's mbuf
  joins_then : (s : State) → with_waiting r es d rest ≡ s
      → JoinsAs exact_ledger (told fate) held (key_in h) (fragment_of (fragment_carried (chain_of p n) h)) s new
  joins_then s now =
      subst (λ (x : State). JoinsAs exact_ledger (told fate) held (key_in h)
      (fragment_of (fragment_carried (chain_of p n) h)) x new)
      now (subst (λ (x : Fragment). JoinsAs exact_ledger (told fate) held (key_in h) x (with_waiting r es d rest)
      new) carried_now
      joins)

  pub some_plain : is_some (entry_of (chain_of p n) 0).cluster ≡ false → q ≡ p → es ≡ ds → d ≡ c1
      → ChainArrives (told fate) held h (chain_of p n) (with_waiting p ds c rest) new
  some_plain plain q_is es_is d_is =
      let shows : unfinished r es ≡ unfinished p ds = t.shows ∙ (λ j. unfinished (q_is j) (es_is j)) in
      let now : with_waiting r es d rest ≡ counts_fragment (with_waiting p ds c rest) =
      λ j. record rest { unfinished = shows j; counters = (d_is ∙ counts) j } in
      arrives_plain fate held (with_waiting p ds c rest) new h (chain_of p n) good plain
      (joins_then (counts_fragment (with_waiting p ds c rest)) now)

  pub some_cluster : is_some (entry_of (chain_of p n) 0).cluster ≡ true
      → IsPulled p ds c1 (weight_at p n) true q es d rest held
      → ChainArrives (told fate) held h (chain_of p n) (with_waiting p ds c rest) new
  some_cluster cluster tested =
      let now : with_waiting r es d rest ≡ with_waiting q es d rest =
      λ j. record rest { unfinished = t.shows j; counters = d } in
      let was : with_waiting p ds c1 rest ≡ counts_fragment (with_waiting p ds c rest) =
      ap (λ (x : Counters). with_waiting p ds x rest) counts in
      arrives_cluster fate held (with_waiting p ds c rest) new h (chain_of p n) good cluster
      (subst (λ (s : State). TestsAs exact_ledger s (held ⊕ weight_at p n) 1 (told fate (Ended NoBufs) new)
      (λ mid. JoinsAs exact_ledger (told fate) held (key_in h) (fragment_of (fragment_carried (chain_of p n) h)) mid
      new)) was
      (tests_of fate rest held new (key_in h) (fragment_of (fragment_carried (chain_of p n) h)) (weight_at p n) p q
      ds es c1
      d true tested (λ e. joins_then (with_waiting q es d rest) now) (λ e. absurd (false≢true (sym e)))))

-- **no mbuf was free for its header**
pub none_cluster : (fate : Fate) (rest : State) (held : Weight) (new : State) (h : IpHead) (p q : PoolView)
    (ds es : List Datagram)
    (c c1 d : Counters) (n : ℕ) (answer : Bool) → is_bad_fragment (flat_head h) (h.total - 20) ≡ false
    → c1 ≡ counts_more IpFragments 1 c
    → is_some (entry_of (chain_of p n) 0).cluster ≡ true → IsPulled p ds c1 (weight_at p n) answer q es d rest held
    → answer ≡ false → told fate (Ended NoBufs) new (with_waiting q es d rest)
    → ChainArrives (told fate) held h (chain_of p n) (with_waiting p ds c rest) new
none_cluster fate rest held new h p q ds es c c1 d n answer good counts cluster tested refused is =
    let was : with_waiting p ds c1 rest ≡ counts_fragment (with_waiting p ds c rest) =
    ap (λ (x : Counters). with_waiting p ds x rest) counts in
    arrives_cluster fate held (with_waiting p ds c rest) new h (chain_of p n) good cluster
    (subst (λ (s : State). TestsAs exact_ledger s (held ⊕ weight_at p n) 1 (told fate (Ended NoBufs) new)
    (λ mid. JoinsAs exact_ledger (told fate) held (key_in h) (fragment_of (fragment_carried (chain_of p n) h)) mid
    new)) was
    (tests_of fate rest held new (key_in h) (fragment_of (fragment_carried (chain_of p n) h)) (weight_at p n) p q ds
    es c1 d
    answer tested (λ e. absurd (false≢true (sym refused ∙ e))) (λ e. is)))

-- the number of bytes that are carried
pub carried_size : (p : PoolView) (n len : ℕ) → length (string (chain_of p n)) ≡ 20 + len
    → length (flat_bytes (carried_entries (chain_of p n))) ≡ len
carried_size p n len long =
    omega (arith, long, length-drop 20 (string (chain_of p n)), ap length (carried_bytes (chain_of p n)))

pub carried_len : (p r : PoolView) (n n' len : ℕ) → length (string (chain_of p n)) ≡ 20 + len
    → (chain_of r n').entries ≡ carried_entries (chain_of p n) → length (string (chain_of r n')) ≡ len
carried_len p r n n' len long e = omega (arith, carried_size p n len long, ap length (ap flat_bytes e))

-- the same weight with other counters
pub accounted_counters : (p : PoolView) (ds : List Datagram) (c d : Counters) (rest : State) (held : Weight)
    → IsAccounted p (with_waiting p ds c rest) held → IsAccounted p (with_waiting p ds d rest) held
accounted_counters p ds c d rest held a =
    record { mbufs = a.mbufs; clusters = a.clusters; total = a.total; references = a.references }

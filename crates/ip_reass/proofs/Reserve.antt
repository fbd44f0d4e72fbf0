-- The chain that an arrival holds while the pool is tested, and a datagram that begins.
use Rattle.std.proofs.Common.{◌≡◌, ℕ, ◌*◌, ◌<◌, ◌≤◌, Bool, true, false, List, [], ◌∷◌, ◌++◌, length, find, count_by, get_or, None, refl, sym, ap, ◌∙◌, subst, arith, inl, inr, length-append}
use Rattle.std.proofs.lemmas.Bool.{false≢true, and_from, eq-eqb}
use Rattle.std.proofs.lemmas.List.Sums.{count_by-le-length}
use Rattle.flat_model.specs.Machine.Fate.{told}
use Rattle.flat_model.specs.declared.fate.Fate.{Fate}
use Rattle.flat_model.specs.Amounts.Weight.{Weight, ◌⊕◌}
use Rattle.flat_model.specs.Fragments.Overlay.{Fragment}
use Rattle.flat_model.specs.Machine.State.{State, Key, Unfinished, is_key, begun, begin_unfinished}
use Rattle.flat_model.specs.Machine.Count.{counted}
use Rattle.flat_model.specs.Machine.Ledger.{exact_ledger, HasBuffers, need_mbufs}
use Rattle.flat_model.specs.Machine.Arrival.{InsertsAs, TestsAs, Ended}
use Rattle.flat_model.specs.declared.counters.Counters.{Counters}
use Rattle.flat_model.specs.declared.counters.Why.TheVariants.{NoBufs}
use Rattle.flat_model.proofs.Laws.{count-append}
use Rattle.mbuf_chain.specs.Chain.{ChainView, PoolView, IsLive, chain_of, without, Adds}
use Rattle.mbuf_chain.specs.Steps.{one_mbuf, empty_entry}
use Rattle.mbuf_chain.specs.Owners.{times_among, IsOwned, Moves}
use Rattle.mbuf_chain.specs.Frames.{IsBounded, SameAt}
use Rattle.mbuf_chain.proofs.Laws.Owners.{times_same, chain_same, moves_trans, moves_beside, moves_without, same_beside, same_without, owned_after, live_first, apart_first, live_at_most}
use Rattle.mbuf_chain.proofs.Laws.Accounts.{owned_at_most}
use Rattle.ip_reass.specs.Fragments.{fragment_of}
use Rattle.ip_reass.specs.Inside.Walks.{arrived}
use Rattle.ip_reass.specs.Table.{held, held_all, new_datagram, AllUnfinished, HaveFragments, IsTable, unfinished, unfinished_of}
use Rattle.ip_reass.specs.Same.{held_all_same, table_same, unfinished_same, queues_same}
use Rattle.ip_reass.specs.Layouts.{queues}
use Rattle.ip_reass.specs.Inside.Steps.{datagram_at, no_datagram}
use Rattle.ip_reass.specs.Arrivals.{with_waiting}
use Rattle.ledger.specs.Accounts.{weight_at}
use Rattle.ip_reass.specs.declared.datagram.Datagram.{Datagram}
use Rattle.ip_reass.proofs.Places.{none_found}
use Rattle.ip_reass.proofs.Tables.{Begins, begins}

-- a new key takes an mbuf, and then its datagram begins
abbrev TestsForKey : Fate → Weight → Key → Fragment → State → State → Type 0
TestsForKey fate held k f old new =
    TestsAs exact_ledger old (held ⊕ f.weight) 1 (told fate (Ended NoBufs) new)
    (λ mid. InsertsAs exact_ledger (told fate) held k f (begun k) (begin_unfinished k mid) new)

-- ---- the caller holds chain c while the table takes a step
pub record Stays (p : PoolView) (ds : List Datagram) (c : ℕ) (q : PoolView) (es : List Datagram) : Type 0 where
  pub owned : IsOwned q (c ∷ held_all q es)
  pub chain : chain_of q c ≡ chain_of p c
  pub live : IsLive q c
  pub moves : Moves p (c ∷ held_all p ds) q (c ∷ held_all q es)

pub stays : (p q : PoolView) (ds es : List Datagram) (c : ℕ) → IsOwned p (c ∷ held_all p ds)
    → Moves p (held_all p ds) q (held_all q es) → Stays p ds c q es
stays p q ds es c owns m =
    let same : SameAt p q (c ∷ []) =
    same_beside (c ∷ []) m (λ k. omega (arith, owns k)) (λ k h. omega (arith, owns k, live_at_most p k)) in
    let moves : Moves p (c ∷ held_all p ds) q (c ∷ held_all q es) =
    moves_beside (c ∷ held_all p ds) (c ∷ held_all q es) (c ∷ []) m (λ k. omega arith) (λ k. omega arith) in
    record {
      owned = owned_after moves owns;
      chain = chain_same p q (c ∷ []) c same (omega (arith, times_same c []));
      live = live_first q c (held_all q es) (owned_after moves owns);
      moves = moves;
    }

-- chain c was freed
pub record Freed (p : PoolView) (ds : List Datagram) (c : ℕ) (q r : PoolView) (es : List Datagram) : Type 0 where
  pub table : IsTable r es
  pub shows : unfinished r es ≡ unfinished q es
  pub rows : queues r es ≡ queues q es
  pub moves : Moves p (c ∷ held_all p ds) r (held_all r es)

pub freed : (p q r : PoolView) (ds es : List Datagram) (c : ℕ) → Stays p ds c q es → IsTable q es → r ≡ without q c
    → Freed p ds c q r es
freed p q r ds es c st is gone =
    let same : SameAt q r (held_all q es) =
    same_without q r c (held_all q es) (apart_first q c (held_all q es) st.owned) gone in
    let all : held_all r es ≡ held_all q es = held_all_same q r es same in
    record {
      table = table_same q r es same is;
      shows = unfinished_same q r es same;
      rows = queues_same q r es same;
      moves =
          moves_trans st.moves (moves_beside (c ∷ held_all q es) (held_all r es) (held_all q es)
          (moves_without q r c st.live gone) (λ k. omega arith) (λ k. omega (arith, ap (times_among k) all)));
    }

-- ---- the two results of the test for a key's mbuf
pub lacking : (fate : Fate) (rest : State) (held : Weight) (new : State) (k : Key) (f : Fragment) (p q r : PoolView)
    (ds es : List Datagram) (c mid d : Counters)
    → HasBuffers exact_ledger (with_waiting p ds c rest) (held ⊕ f.weight) (need_mbufs 1) false
    (with_waiting q es mid rest) → unfinished r es ≡ unfinished q es → d ≡ counted NoBufs mid
    → told fate (Ended NoBufs) new (with_waiting r es d rest) → TestsForKey fate held k f (with_waiting p ds c rest) new
lacking fate rest held new k f p q r ds es c mid d af shows counts is = record {
  answer = false;
  mid = with_waiting q es mid rest;
  has_buffers = af;
  goes_on = record {
    yes = λ e. absurd (false≢true e);
    no = λ e. (is.0, is.1 ∙ (λ j. record rest { unfinished = shows j; counters = counts j }));
  };
}

-- the datagrams that are left after a test
none_then : (rest : State) (w : Weight) (k : Key) (p q : PoolView) (ds es : List Datagram) (c mid : Counters)
    → find (is_key k) (unfinished p ds) ≡ None
    → HasBuffers exact_ledger (with_waiting p ds c rest) w (need_mbufs 1) true (with_waiting q es mid rest)
    → count_by (is_key k) (unfinished q es) ≡ 0
none_then rest w k p q ds es c mid none (inl a) =
    ap (λ (s : State). count_by (is_key k) s.unfinished) a.1 ∙ none_found (is_key k) (unfinished p ds) none
none_then rest w k p q ds es c mid none (inr a) = ap (λ (s : State). count_by (is_key k) s.unfinished) a.1

get_or-end : {X : Type 0} (xs : List X) (x d : X) → get_or (xs ++ x ∷ []) (length xs) d ≡ x
get_or-end [] x d = refl
get_or-end (y ∷ ys) x d = get_or-end ys x d

same_key : (k : Key) → is_key k (begun k) ≡ true
same_key k =
    and_from _ _ (and_from _ _ (and_from _ _ (eq-eqb k.source k.source refl) (eq-eqb k.destination k.destination refl))
    (eq-eqb k.id k.id refl)) (eq-eqb k.protocol k.protocol refl)

-- a datagram that has begun, at the end of the table
pub record Began (p : PoolView) (ds : List Datagram) (n : ℕ) (k : Key) (q : PoolView) (es : List Datagram)
    (i : ℕ) : Type 0 where
  pub table : IsTable q es
  pub stays : Stays p ds n q es
  pub at : unfinished_of q (datagram_at es i) ≡ begun k
  pub shows : unfinished q es ≡ unfinished p ds ++ begun k ∷ []
  pub rows : queues q es ≡ queues p ds ++ record { key = k; fragments = [] } ∷ []

pub began : (p q : PoolView) (ds es : List Datagram) (n h i : ℕ) (k : Key) → IsTable p ds
    → IsOwned p (n ∷ held_all p ds) → Adds p q h (one_mbuf true (empty_entry 28 None) h)
    → es ≡ ds ++ new_datagram k h ∷ [] → i ≡ length ds → Began p ds n k q es i
began p q ds es n h i k is owns adds e i_is =
    let b : Begins p ds q es = begins p q ds es k h is adds e in
    record {
      table = b.table;
      stays = stays p q ds es n owns b.moves;
      at = ap (λ (d : Datagram). unfinished_of q d)
          ((λ j. get_or (e j) (i_is j) no_datagram) ∙ get_or-end ds (new_datagram k h) no_datagram);
      shows = b.shows k h e;
      rows = b.rows k h e;
    }

pub begins_here : (fate : Fate) (rest : State) (held : Weight) (new : State) (k : Key) (p q r : PoolView)
    (ds es hs : List Datagram) (c d : Counters) (n i offset : ℕ) (more : Bool)
    → find (is_key k) (unfinished p ds) ≡ None
    → HasBuffers exact_ledger (with_waiting p ds c rest) (held ⊕ weight_at p n) (need_mbufs 1) true
    (with_waiting q es d rest) → chain_of r n ≡ chain_of p n → Began q es n k r hs i
    → (is_key k (unfinished_of r (datagram_at hs i)) ≡ true → count_by (is_key k) (unfinished r hs) ≤ 1
    → InsertsAs exact_ledger (told fate) held k (fragment_of (arrived r n offset more))
    (unfinished_of r (datagram_at hs i))
    (with_waiting r hs d rest) new)
    → TestsForKey fate held k (fragment_of (arrived p n offset more)) (with_waiting p ds c rest) new
begins_here fate rest held new k p q r ds es hs c d n i offset more none af chain b step =
    let zero_then : count_by (is_key k) (unfinished q es) ≡ 0 =
    none_then rest (held ⊕ weight_at p n) k p q ds es c d none af in
    let here : is_key k (unfinished_of r (datagram_at hs i)) ≡ true = ap (is_key k) b.at ∙ same_key k in
    let one : count_by (is_key k) (begun k ∷ []) ≤ 1 = count_by-le-length (is_key k) (begun k ∷ []) in
    let most : count_by (is_key k) (unfinished r hs) ≤ 1 =
    omega (
      arith,
      ap (count_by (is_key k)) b.shows,
      count-append (is_key k) (unfinished q es) (begun k ∷ []),
      zero_then,
      one,
    ) in
    let inserts = step here most in
    let a : InsertsAs exact_ledger (told fate) held k (fragment_of (arrived p n offset more))
    (unfinished_of r (datagram_at hs i))
    (with_waiting r hs d rest) new =
    subst (λ (v : ChainView). InsertsAs exact_ledger (told fate) held k
    (fragment_of (record { offset = offset; more = more; entries = v.entries })) (unfinished_of r (datagram_at hs i))
    (with_waiting r hs d rest) new) chain inserts in
    let b' : InsertsAs exact_ledger (told fate) held k (fragment_of (arrived p n offset more)) (begun k)
    (with_waiting r hs d rest)
    new =
    subst (λ (u : Unfinished). InsertsAs exact_ledger (told fate) held k (fragment_of (arrived p n offset more)) u
    (with_waiting r hs d rest) new) b.at a in
    let c' : InsertsAs exact_ledger (told fate) held k (fragment_of (arrived p n offset more)) (begun k)
    (begin_unfinished k (with_waiting q es d rest)) new =
    subst (λ (us : List Unfinished). InsertsAs exact_ledger (told fate) held k
    (fragment_of (arrived p n offset more)) (begun k)
    (record rest { unfinished = us; counters = d }) new) b.shows b' in
    record {
      answer = true;
      mid = with_waiting q es d rest;
      has_buffers = af;
      goes_on = record { yes = λ e. c'; no = λ e. absurd (false≢true (sym e)) };
    }

-- the table has space: each datagram has an mbuf for its key and a fragment, and the caller's chain takes one more
pub room : (p : PoolView) (ds : List Datagram) (c : ℕ) → IsBounded p → IsTable p ds → HaveFragments ds
    → IsOwned p (c ∷ held_all p ds) → 2 * length ds < p.mbufs
room p ds c b is some owns = omega (arith, owned_at_most p (c ∷ held_all p ds) b owns, twice ds is.each some)
  where
    twice : (xs : List Datagram) → AllUnfinished p xs → HaveFragments xs → 2 * length xs ≤ length (held_all p xs)
    twice [] a f = omega arith
    twice (d ∷ xs) a f =
        omega (arith, f.0, a.0.queue.held.whole, twice xs a.1 f.1, length-append (held p d) (held_all p xs))

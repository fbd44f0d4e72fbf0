-- A test of the pool has the result of the machine's test, for each state that the pool accounts for.
use Rattle.std.proofs.Common.{◌≡◌, ℕ, Bool, true, false, List, [], ◌∷◌, length, refl, sym, ◌∙◌, subst, arith, inl, inr}
use Rattle.flat_model.specs.Machine.Count.{counts_more}
use Rattle.flat_model.specs.Amounts.Weight.{Weight, Item, mbuf, nothing, ◌⊕◌, all_of, SameWeight}
use Rattle.flat_model.specs.Fragments.Whole.{weight_of_pieces}
use Rattle.flat_model.specs.Machine.State.{State, Socket, Datagram, Unfinished}
use Rattle.flat_model.specs.Amounts.Layout.{Need}
use Rattle.flat_model.specs.Machine.Ledger.{weight_of_state, exact_ledger, HasBuffers, reclaimed}
use Rattle.flat_model.specs.declared.counter.Counter.TheVariants.{IpReclaimed}
use Rattle.flat_model.specs.declared.counters.Counters.{Counters}
use Rattle.mbuf_chain.specs.Chain.{PoolView}
use Rattle.mbuf_chain.specs.Owners.{IsOwned, Moves}
use Rattle.flat_model.proofs.Laws.{times-both}
use Rattle.ledger.specs.Accounts.{weight_owned, IsAccounted, Shifts}
use Rattle.ledger.specs.Reserve.{are_free, Reserves}
use Rattle.ledger.proofs.Accounts.{test_is}
use Rattle.ledger.proofs.Moved.{accounted_after}

-- what the unfinished datagrams of a state weigh
abbrev weight_of_unfinished : List Unfinished → Weight
weight_of_unfinished us = all_of (λ (u : Unfinished). mbuf ⊕ weight_of_pieces u.bytes) us

-- ---- the first test passes
pub reserves_at_once : {p : PoolView} {need : Need} (s : State) (held : Weight) (us : List Unfinished) (c : Counters)
    → are_free p need.mbufs need.clusters ≡ true → s.unfinished ≡ us → s.counters ≡ c → IsAccounted p s held
    → Reserves s held need true (record s { unfinished = us; counters = c }) p
reserves_at_once {p} {need} s held us c enough is_us is_c b =
    subst (λ (m : State). Reserves s held need true m p) (λ i. record s { unfinished = is_us i; counters = is_c i })
    (record { has_buffers = inl (sym (test_is p s held need b ∙ enough), refl); accounted = b })

-- ---- all waiting datagrams are freed, and the pool is tested again
shifts_reclaimed : (p q : PoolView) (s : State) (held : Weight) (waited : List ℕ)
    → SameWeight (weight_owned p waited) (weight_of_unfinished s.unfinished)
    → Shifts s held (weight_owned p waited) (reclaimed s) held (weight_owned q [])
shifts_reclaimed p q s held waited w =
    let u : Weight = weight_of_unfinished s.unfinished in
    let queued : Weight =
    all_of (λ (socket : Socket). all_of (λ (d : Datagram). d.item.weight) socket.queue) s.sockets in
    let out : Weight = all_of (λ (item : Item). item.weight) s.output in
    record {
      mbufs = omega (arith, w.mbufs);
      bag =
          λ c. omega (
            arith,
            w.bag c,
            times-both c (weight_of_state s) held,
            times-both c (weight_of_state (reclaimed s)) held,
            times-both c (queued ⊕ u) out,
            times-both c queued u,
            times-both c (queued ⊕ nothing) out,
            times-both c queued nothing,
          );
    }

has_buffers_again : (p q : PoolView) (s : State) (held : Weight) (need : Need) (answer : Bool) → IsAccounted p s held
    → IsAccounted q (reclaimed s) held
    → are_free p need.mbufs need.clusters ≡ false → answer ≡ are_free q need.mbufs need.clusters
    → HasBuffers exact_ledger s held need answer (reclaimed s)
has_buffers_again p q s held need true b after lacking is =
    inr (sym (test_is p s held need b ∙ lacking), refl, is ∙ sym (test_is q (reclaimed s) held need after))
has_buffers_again p q s held need false b after lacking is =
    (sym (test_is p s held need b ∙ lacking), refl, is ∙ sym (test_is q (reclaimed s) held need after))

no_length : {A : Type 0} (xs : List A) → length xs ≡ 0 → xs ≡ []
no_length [] e = refl
no_length (x ∷ xs) e = absurd (omega arith)

-- the owner of the chains `waited`, which weigh what the unfinished datagrams us weigh, freed them all
pub record GivesBack (p : PoolView) (waited : List ℕ) (us : List Unfinished) (c : Counters) (q : PoolView)
    (vs : List Unfinished) (d : Counters) : Type 0 where
  pub moves : Moves p waited q []
  pub owned : IsOwned p waited
  pub weighs : SameWeight (weight_owned p waited) (weight_of_unfinished us)
  pub none : length vs ≡ 0
  pub counters : d ≡ counts_more IpReclaimed (length us) c

pub reserves_again : {p q : PoolView} {need : Need} {waited : List ℕ} {us vs : List Unfinished} {c d : Counters}
    (s : State) (held : Weight) (answer : Bool)
    → GivesBack p waited us c q vs d → are_free p need.mbufs need.clusters ≡ false
    → answer ≡ are_free q need.mbufs need.clusters
    → s.unfinished ≡ us → s.counters ≡ c → IsAccounted p s held
    → Reserves s held need answer (record s { unfinished = vs; counters = d }) q
reserves_again {p} {q} {need} {waited} {us} {vs} {c} {d} s held answer g lacking is is_us is_c b =
    let w : SameWeight (weight_owned p waited) (weight_of_unfinished s.unfinished) =
    subst (λ (x : List Unfinished). SameWeight (weight_owned p waited) (weight_of_unfinished x)) (sym is_us) g.weighs
    in
    let after : IsAccounted q (reclaimed s) held =
    accounted_after b g.moves g.owned refl (shifts_reclaimed p q s held waited w) in
    let none : [] ≡ vs = sym (no_length vs g.none) in
    let counted : (reclaimed s).counters ≡ d =
    (λ i. counts_more IpReclaimed (length (is_us i)) (is_c i)) ∙ sym g.counters in
    subst (λ (m : State). Reserves s held need answer m q) (λ i. record s { unfinished = none i; counters = counted i })
    (record { has_buffers = has_buffers_again p q s held need answer b after lacking is; accounted = after })

use Rattle.std.proofs.Common.{◌≡◌, ◌+◌, ◌-◌, ◌<◌, ◌∷◌, ◌++◌, [], ℕ, Bool, false, Option, is_some, length, refl, sym, ap, ◌∙◌, subst, arith, inl, inr}
use Rattle.std.specs.Prelude.{option_to_list}
use Rattle.std.proofs.lemmas.Bool.{cond-true, cond-false, cases_Bool}
use Rattle.std.proofs.lemmas.Option.{none-some}
use Rattle.flat_model.specs.Amounts.Weight.{nothing, ◌⊕◌}
use Rattle.flat_model.specs.Machine.Arrival.{is_bad_fragment}
use Rattle.mbuf_chain.specs.Chain.{ChainView, PoolView, chain_of, entry_of, flat_bytes, string}
use Rattle.mbuf_chain.specs.Owners.{Moves}
use Rattle.mbuf_chain.proofs.Laws.Owners.{moves_none, moves_trans, owned_after}
use Rattle.chain_ops.specs.Trims.{without_first}
use Rattle.ledger.specs.Accounts.{weight_at, weight_owned}
use Rattle.ip_reass.specs.Arrivals.{carried_entries, flat_head, in_hand, key_in, with_waiting, IsPulled}
use Rattle.ip_reass.specs.Table.{TableView, held_all}
use Rattle.ip_reass.specs.Same.{distinct_same}
use Rattle.ip_reass.specs.Layouts.{fragment_carried, queues, under}
use Rattle.ip_reass.proofs.Queues.{arrived_layout, arrived_cause, cause_lacking}
use Rattle.ip_reass.proofs.Reserve.{Freed, stays, freed}
use Rattle.ip_reass.proofs.ArriveLemmas.{Trimmed, accounts, one_weighs, same_weight, trimmed_off, arrives_bad, none_cluster, some_plain, some_cluster, carried_len, carried_size, good_some, good_small, accounted_counters}
use Rattle.ip_reass.proofs.table.Reass.arrive.Goals as goal
use Rattle.ip_reass.proofs.table.Reass.arrive.Goals.{After-free_chain, After-pull_up, After-trim_front}

-- a malformed fragment was freed
bad : (c : After-free_chain) → Freed c.args.pool.now c.args.self.now.datagrams c.args.chain c.args.pool.now
    c.free_chain.new.self c.args.self.now.datagrams
bad c =
    freed c.args.pool.now c.args.pool.now c.free_chain.new.self c.args.self.now.datagrams c.args.self.now.datagrams
    c.args.chain (stays c.args.pool.now c.args.pool.now c.args.self.now.datagrams c.args.self.now.datagrams
    c.args.chain c.requires.owned (moves_none _ _)) c.requires.ready.table c.free_chain.ensures

pub returns-then-is_bad-clause-step : goal.returns-then-is_bad-clause-step
returns-then-is_bad-clause-step c = λ fate rest held new acc is.
    let fr = bad (goal.at.returns-then-is_bad-clause-step c).After-free_chain in
    arrives_bad fate held (with_waiting c.args.pool.now c.args.self.now.datagrams c.args.counters.now rest) new
    c.args.head
    (chain_of c.args.pool.now c.args.chain)
    (ap (λ (n : ℕ). is_bad_fragment (flat_head c.args.head) (n - 20)) (sym c.requires.total ∙ sym c.len-len.ensures)
    ∙ (sym c.is_bad.ensures ∙ c.if-is_bad.true)) (
      is.0,
      is.1 ∙ (λ j. record rest { unfinished = fr.shows j; counters = c.count_ended.ensures j }),
    )

pub returns-then-is_bad-clause-accounts : goal.returns-then-is_bad-clause-accounts
returns-then-is_bad-clause-accounts c = λ rest held acc.
    let fr = bad (goal.at.returns-then-is_bad-clause-accounts c).After-free_chain in
    accounts c.args.pool.now c.free_chain.new.self (c.args.chain ∷ []) [] rest held
    (weight_at c.args.pool.now c.args.chain) nothing c.args.self.now.datagrams c.args.self.now.datagrams
    c.args.counters.now c.count_ended.new.self acc fr.moves c.requires.owned c.requires.ready.table fr.table
    (one_weighs c.args.pool.now c.args.chain) (same_weight nothing)

pub returns-then-is_bad-clause-ready : goal.returns-then-is_bad-clause-ready
returns-then-is_bad-clause-ready c = record {
  table =
      (bad (goal.at.returns-then-is_bad-clause-ready c).After-free_chain).table;
  fragments = c.requires.ready.fragments;
  room = omega (arith, c.requires.ready.room, ap (λ (q : PoolView). q.mbufs) c.free_chain.ensures);
  distinct = distinct_same c.args.pool.now c.free_chain.new.self c.args.self.now.datagrams c.args.self.now.datagrams
      (bad (goal.at.returns-then-is_bad-clause-ready c).After-free_chain).shows c.requires.ready.distinct;
}

pub returns-then-is_bad-clause-moves : goal.returns-then-is_bad-clause-moves
returns-then-is_bad-clause-moves c =
    (bad (goal.at.returns-then-is_bad-clause-moves c).After-free_chain).moves

-- it isn't malformed
good : (c : After-pull_up) → is_bad_fragment (flat_head c.args.head) (c.len-len.result - 20) ≡ false
good c = sym c.is_bad.ensures ∙ c.if-is_bad.false

sound : (c : After-pull_up) → is_bad_fragment (flat_head c.args.head) (c.args.head.total - 20) ≡ false
sound c =
    ap (λ (n : ℕ). is_bad_fragment (flat_head c.args.head) (n - 20)) (sym c.requires.total ∙ sym c.len-len.ensures)
    ∙ good c

long : (c : After-pull_up) → length (string (chain_of c.args.pool.now c.args.chain)) ≡ 20 + (c.len-len.result - 20)
long c = omega (arith, c.len-len.ensures, c.requires.total, c.requires.header)

pub returns-in_default-clause-step : goal.returns-in_default-clause-step
returns-in_default-clause-step c = λ fate rest held new acc is.
    let is_sound = sound (goal.at.returns-in_default-clause-step c).After-pull_up in
    elim (cases_Bool (is_some (entry_of (chain_of c.args.pool.now c.args.chain) 0).cluster)) [
      | inr plain ↦ absurd (none-some c.args.chain (sym c.in_default.is ∙ (c.pull_up.ensures.plain plain).3))
      | inl cluster ↦
          let tested =
          c.pull_up.ensures.tested cluster rest held
          (accounted_counters c.args.pool.now c.args.self.now.datagrams c.args.counters.now c.count.new.self rest
          (held ⊕ weight_at c.args.pool.now c.args.chain) acc) in
          none_cluster fate rest held new c.args.head c.args.pool.now c.pull_up.new.pool c.args.self.now.datagrams
          c.pull_up.new.self.datagrams c.args.counters.now c.count.new.self c.pull_up.new.counters c.args.chain
          (is_some c.pull_up.result) is_sound c.count.ensures cluster tested (ap is_some c.in_default.is) is
    ]

pub returns-in_default-clause-accounts : goal.returns-in_default-clause-accounts
returns-in_default-clause-accounts c = λ rest held acc.
    let m =
    subst (λ (o : Option ℕ). Moves c.args.pool.now (c.args.chain ∷ held_all c.args.pool.now c.args.self.now.datagrams)
    c.pull_up.new.pool (option_to_list o
    ++ held_all c.pull_up.new.pool c.pull_up.new.self.datagrams)) c.in_default.is c.pull_up.ensures.moves in
    accounts c.args.pool.now c.pull_up.new.pool (c.args.chain ∷ []) [] rest held
    (weight_at c.args.pool.now c.args.chain) nothing c.args.self.now.datagrams c.pull_up.new.self.datagrams
    c.args.counters.now c.pull_up.new.counters acc m c.requires.owned c.requires.ready.table
    c.pull_up.ensures.ready.table (one_weighs c.args.pool.now c.args.chain) (same_weight nothing)

-- the fragment was pulled up
moved : (c : After-trim_front) → Moves c.args.pool.now
    (c.args.chain ∷ held_all c.args.pool.now c.args.self.now.datagrams)
    c.pull_up.new.pool (c.in-Some.chain ∷ held_all c.pull_up.new.pool c.pull_up.new.self.datagrams)
moved c =
    subst (λ (o : Option ℕ). Moves c.args.pool.now (c.args.chain ∷ held_all c.args.pool.now c.args.self.now.datagrams)
    c.pull_up.new.pool (option_to_list o
    ++ held_all c.pull_up.new.pool c.pull_up.new.self.datagrams)) c.in-Some.is c.pull_up.ensures.moves

-- and lost its header
trimmed : (c : After-trim_front)
    → Trimmed c.pull_up.new.pool c.pull_up.new.self.datagrams c.in-Some.chain c.trim_front.new.pool
trimmed c =
    trimmed_off c.pull_up.new.pool c.trim_front.new.pool c.pull_up.new.self.datagrams c.in-Some.chain
    c.pull_up.ensures.ready.table (owned_after (moved c) c.requires.owned) c.trim_front.ensures

pub insert_or_begin-requires : goal.insert_or_begin-requires
insert_or_begin-requires c =
    let at = (goal.at.insert_or_begin-requires c).After-trim_front in
    let before = (goal.at.insert_or_begin-requires c).After-pull_up in
    let size =
    carried_len c.args.pool.now c.trim_front.new.pool c.args.chain c.in-Some.chain (c.len-len.result - 20) (long before)
    (ap (λ (v : ChainView). v.entries) (trimmed at).chain ∙ ap (without_first 20) c.in-Some.ensures.entries) in
    record {
      ready = record {
        table = (trimmed at).table;
        fragments = c.pull_up.ensures.ready.fragments;
        room = omega (arith, c.pull_up.ensures.ready.room, (trimmed at).moves.mbufs);
        distinct =
            distinct_same c.pull_up.new.pool c.trim_front.new.pool c.pull_up.new.self.datagrams
            c.pull_up.new.self.datagrams (trimmed at).shows c.pull_up.ensures.ready.distinct;
      };
      owned = (trimmed at).owned;
      headed = ap (λ (v : ChainView). v.front.header) (trimmed at).chain ∙ c.in-Some.ensures.headed;
      some = omega (arith, size, good_some c.args.head (c.len-len.result - 20) (good before));
      small = omega (arith, size, good_small c.args.head (c.len-len.result - 20) (good before));
    }

pub returns-clause-step : goal.returns-clause-step
returns-clause-step c = λ fate rest held new acc goes.
    let at = (goal.at.returns-clause-step c).After-trim_front in
    let is_sound = sound (goal.at.returns-clause-step c).After-pull_up in
    let acc' =
    accounts c.args.pool.now c.trim_front.new.pool (c.args.chain ∷ []) (c.in-Some.chain ∷ []) rest held
    (weight_at c.args.pool.now c.args.chain) (weight_at c.trim_front.new.pool c.in-Some.chain)
    c.args.self.now.datagrams c.pull_up.new.self.datagrams c.args.counters.now c.pull_up.new.counters acc
    (moves_trans (moved at) (trimmed at).moves) c.requires.owned c.requires.ready.table (trimmed at).table (one_weighs c.args.pool.now c.args.chain)
    (one_weighs c.trim_front.new.pool c.in-Some.chain) in
    let joins = c.insert_or_begin.ensures.step fate rest held new acc' goes in
    elim (cases_Bool (is_some (entry_of (chain_of c.args.pool.now c.args.chain) 0).cluster)) [
      | inr plain ↦
          let same = c.pull_up.ensures.plain plain in
          some_plain fate rest held new c.args.head c.args.pool.now c.pull_up.new.pool c.trim_front.new.pool
          c.args.self.now.datagrams c.pull_up.new.self.datagrams c.args.counters.now c.count.new.self
          c.pull_up.new.counters c.args.chain c.in-Some.chain is_sound c.count.ensures c.in-Some.ensures.entries (trimmed at) joins
          plain
          same.0 (ap (λ (r : TableView). r.datagrams) same.1) same.2
      | inl cluster ↦
          let tested =
          subst (λ (b : Bool). IsPulled c.args.pool.now c.args.self.now.datagrams c.count.new.self
          (weight_at c.args.pool.now c.args.chain) b c.pull_up.new.pool c.pull_up.new.self.datagrams
          c.pull_up.new.counters rest held) (ap is_some c.in-Some.is)
          (c.pull_up.ensures.tested cluster rest held
          (accounted_counters c.args.pool.now c.args.self.now.datagrams c.args.counters.now c.count.new.self rest
          (held ⊕ weight_at c.args.pool.now c.args.chain) acc)) in
          some_cluster fate rest held new c.args.head c.args.pool.now c.pull_up.new.pool c.trim_front.new.pool
          c.args.self.now.datagrams c.pull_up.new.self.datagrams c.args.counters.now c.count.new.self
          c.pull_up.new.counters c.args.chain c.in-Some.chain is_sound c.count.ensures c.in-Some.ensures.entries (trimmed at) joins
          cluster
          tested
    ]

pub returns-clause-moves : goal.returns-clause-moves
returns-clause-moves c =
    let at = (goal.at.returns-clause-moves c).After-trim_front in
    moves_trans (moved at) (moves_trans (trimmed at).moves c.insert_or_begin.ensures.moves)

pub returns-clause-accounts : goal.returns-clause-accounts
returns-clause-accounts c = λ rest held acc.
    let at = (goal.at.returns-clause-accounts c).After-trim_front in
    accounts c.args.pool.now c.insert_or_begin.new.pool (c.args.chain ∷ []) (in_hand c.insert_or_begin.result) rest held
    (weight_at c.args.pool.now c.args.chain) (weight_owned c.insert_or_begin.new.pool
    (in_hand c.insert_or_begin.result))
    c.args.self.now.datagrams c.insert_or_begin.new.self.datagrams c.args.counters.now c.insert_or_begin.new.counters
    acc
    (moves_trans (moved at) (moves_trans (trimmed at).moves c.insert_or_begin.ensures.moves)) c.requires.owned c.requires.ready.table
    c.insert_or_begin.ensures.ready.table (one_weighs c.args.pool.now c.args.chain) (same_weight _)

pub returns-clause-whole : goal.returns-clause-whole
returns-clause-whole c = c.insert_or_begin.ensures.whole

pub returns-then-is_bad-clause-layout : goal.returns-then-is_bad-clause-layout
returns-then-is_bad-clause-layout c = record {
  waited = queues c.args.pool.now c.args.self.now.datagrams;
  before = inl refl;
  leaves =
      (bad (goal.at.returns-then-is_bad-clause-layout c).After-free_chain).rows;
}

pub returns-clause-layout : goal.returns-clause-layout
returns-clause-layout c =
    let at = (goal.at.returns-clause-layout c).After-trim_front in
    arrived_layout c.args.pool.now c.pull_up.new.pool c.trim_front.new.pool c.insert_or_begin.new.pool
    c.args.self.now.datagrams c.pull_up.new.self.datagrams c.insert_or_begin.new.self.datagrams c.args.chain
    c.in-Some.chain c.args.head c.insert_or_begin.result
    c.pull_up.ensures.waits (trimmed at).rows
    (ap (λ (v : ChainView). v.entries) (trimmed at).chain ∙ ap (without_first 20) c.in-Some.ensures.entries)
    c.insert_or_begin.ensures.layout

pub returns-then-is_bad-clause-cause : goal.returns-then-is_bad-clause-cause
returns-then-is_bad-clause-cause c =
    sym (cond-true _ _ _ (ap (λ (n : ℕ). is_bad_fragment (flat_head c.args.head) (n - 20))
    (sym c.requires.total ∙ sym c.len-len.ensures) ∙ (sym c.is_bad.ensures ∙ c.if-is_bad.true)))

pub returns-in_default-clause-cause : goal.returns-in_default-clause-cause
returns-in_default-clause-cause c =
    let at = (goal.at.returns-in_default-clause-cause c).After-pull_up in
    let some : 0 < length (flat_bytes (carried_entries (chain_of c.args.pool.now c.args.chain))) =
    omega (
      arith,
      carried_size c.args.pool.now c.args.chain (c.len-len.result - 20) (long at),
      good_some c.args.head (c.len-len.result - 20) (good at),
    ) in
    cause_lacking (key_in c.args.head) (fragment_carried (chain_of c.args.pool.now c.args.chain) c.args.head)
    (queues c.pull_up.new.pool c.pull_up.new.self.datagrams) some
    (c.pull_up.ensures.none (ap is_some c.in_default.is))
    ∙ sym (cond-false _ _ _ (sound at))

pub returns-clause-cause : goal.returns-clause-cause
returns-clause-cause c =
    let at = (goal.at.returns-clause-cause c).After-trim_front in
    arrived_cause c.args.pool.now c.trim_front.new.pool c.args.chain c.in-Some.chain c.args.head
    (under (key_in c.args.head) (queues c.insert_or_begin.new.pool c.insert_or_begin.new.self.datagrams))
    c.insert_or_begin.result
    (sound (goal.at.returns-clause-cause c).After-pull_up)
    (ap (λ (v : ChainView). v.entries) (trimmed at).chain ∙ ap (without_first 20) c.in-Some.ensures.entries)
    c.insert_or_begin.ensures.cause

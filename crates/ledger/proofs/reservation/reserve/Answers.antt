use Rattle.std.proofs.Common.{◌≡◌, ◌∙◌, ℕ, length, sym, ap, arith}
use Rattle.flat_model.specs.Machine.Count.{counts_more}
use Rattle.flat_model.specs.declared.counter.Counter.TheVariants.{IpReclaimed}
use Rattle.ledger.proofs.PoolTests.{reserves_at_once, reserves_again}
use Rattle.ledger.proofs.reservation.reserve.Goals as goal

pub returns-then-are_free-clause-reserves : goal.returns-then-are_free-clause-reserves
returns-then-are_free-clause-reserves g c = λ s held is_us is_c a.
    reserves_at_once s held _ _ (sym c.are_free.ensures ∙ c.if-are_free.true) is_us is_c a

pub returns-clause-reserves : goal.returns-clause-reserves
returns-clause-reserves g c = λ s held is_us is_c a.
    let law = g.met.R.Waiting in
    let base = g.met.R.Reclaim in
    let p = c.args.pool.now in
    let w = c.args.waiting.now in
    let count : c.from.result ≡ length (g.R.Waiting.unfinished p w) =
    omega (arith, c.from.ensures, c.reclaim-datagrams.ensures.count, law.counts p w c.requires) in
    reserves_again {vs = g.R.Waiting.unfinished c.reclaim-datagrams.new.pool c.reclaim-datagrams.new.self} s held _
    (record {
      moves = c.reclaim-datagrams.ensures.moves;
      owned = base.is_owner p w c.requires;
      weighs = law.weighs p w c.requires;
      none = law.counts _ _ c.reclaim-datagrams.ensures.ready ∙ c.reclaim-datagrams.ensures.none;
      counters = c.count_more.ensures ∙ ap (λ (n : ℕ). counts_more IpReclaimed n c.args.counters.now) count;
    }) (sym c.are_free.ensures ∙ c.if-are_free.false) c.are_free-2.ensures is_us is_c a

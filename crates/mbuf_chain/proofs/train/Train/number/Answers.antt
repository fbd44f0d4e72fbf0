use Rattle.std.proofs.Common.{◌≡◌, ℕ, suc, Option, drop, slice_get, subst, sym, ap, ◌∙◌, arith, add-one}
use Rattle.mbuf_chain.specs.Train.{TrainView, numbers}
use Rattle.mbuf_chain.proofs.Runs.{IsRun, Passing, passing, run_there, last_is, run_of}
use Rattle.mbuf_chain.proofs.Trains.{live_queued, end_there}
use Rattle.mbuf_chain.proofs.train.Train.number.Goals as goal
use Rattle.mbuf_chain.proofs.train.Train.number.Goals.{In-chains}

pub returns-then-self-i : goal.returns-then-self-i
returns-then-self-i c =
    last_is (numbers c.args.pool.now c.args.self.now) c.args.i
    (c.requires.held.whole ∙ (sym (ap (λ (t : TrainView). t.len) c.self.view_is)
    ∙ (c.if-self-i.true ∙ add-one c.args.i)))
    ∙ (sym c.requires.held.last ∙ (sym (ap (λ (t : TrainView). t.last) c.self.view_is)
    ∙ end_there c.self.inside.len c.self.inside.last (omega (arith, c.if-self-i.true))))

pub chains-init : goal.chains-init
chains-init c =
    let run =
    run_of c.args.pool.now c.args.self.now.len c.args.self.now.first c.requires.held.whole c.requires.held.ends in
    let some =
    end_there c.self.inside.len c.self.inside.first
    (omega (arith, c.requires.place, ap (λ (t : TrainView). t.len) c.self.view_is)) in
    subst (λ (at : Option ℕ). IsRun c.args.pool.now at (numbers c.args.pool.now c.args.self.now))
    (sym (ap (λ (t : TrainView). t.first) c.self.view_is) ∙ some) run

here : (c : In-chains)
    → Passing c.args.pool.now c.chains.at (numbers c.args.pool.now c.args.self.now) c.chains._passed
here c =
    passing c.args.pool.now c.chains.at (numbers c.args.pool.now c.args.self.now) c.chains._passed
    (omega (arith, c.requires.place, c.requires.held.whole, c.chains-test.true)) c.chains.invariant

pub after-requires : goal.after-requires
after-requires c =
    live_queued c.args.pool.now c.args.self.now c.chains._passed c.chains.at c.requires.held
    (here (goal.at.after-requires c).In-chains).stands

pub unreachable-requires : goal.unreachable-requires
unreachable-requires c =
    run_there c.args.pool.now _ (numbers c.args.pool.now c.args.self.now) (suc c.chains._passed)
    (omega (arith, c.requires.place, c.requires.held.whole, c.chains-test.true)) (here (goal.at.unreachable-requires c).In-chains).rest
    (sym c.after.ensures ∙ c.in_default.is)

pub chains-preserved : goal.chains-preserved
chains-preserved c =
    let at = (goal.at.chains-preserved c).In-chains in
    rw add-one (subst (λ (o : Option ℕ). IsRun c.args.pool.now o
    (drop (suc c.chains._passed) (numbers c.args.pool.now c.args.self.now))) (sym c.after.ensures
    ∙ c.in-Some.is) (here at).rest)

pub returns : goal.returns
returns c =
    let here =
    passing c.args.pool.now c.chains.at (numbers c.args.pool.now c.args.self.now) c.chains._passed
    (omega (arith, c.requires.place, c.requires.held.whole, c.chains.auto._passed-end)) c.chains.invariant in
    let end : c.args.i ≡ c.chains._passed = omega (arith, c.chains.auto._passed-end, c.chains-test.false) in
    ap (slice_get (numbers c.args.pool.now c.args.self.now)) end ∙ here.stands

use Rattle.std.proofs.Common.{◌∙◌, sym, ap, arith, refl, add-one}
use Rattle.std.proofs.lemmas.Option.{none-some}
use Rattle.mbuf_chain.specs.Train.{TrainView}
use Rattle.mbuf_chain.proofs.Trains.{live_queued, after_queued, next_queued}
use Rattle.mbuf_chain.proofs.train.Train.next.Goals as goal

pub after-requires : goal.after-requires
after-requires c =
    live_queued c.args.pool.now c.args.self.now c.args.at.index c.args.at.number c.requires.held c.requires.place.number

pub unreachable-requires : goal.unreachable-requires
unreachable-requires c =
    let next =
    after_queued c.args.pool.now c.args.self.now c.args.at.index c.args.at.number c.requires.held
    c.requires.place.number (omega (arith, c.requires.place.within, ap (λ (t : TrainView). t.len) c.self.view_is))
    in
    none-some next.0 (sym c.in-None.is ∙ (c.after.ensures ∙ next.1))

pub returns : goal.returns
returns c =
    let len = ap (λ (t : TrainView). t.len) c.self.view_is in
    let more =
    next_queued c.args.pool.now c.args.self.now c.args.at.index c.args.at.number c.in-Some.number c.requires.held
    c.requires.place.number (omega (arith, c.requires.place.within, len, c.if-self-at.false))
    (sym c.after.ensures ∙ c.in-Some.is) in (
      refl,
      record {
        within = omega (arith, c.requires.place.within, len, c.if-self-at.false);
        number = rw add-one more;
      },
    )

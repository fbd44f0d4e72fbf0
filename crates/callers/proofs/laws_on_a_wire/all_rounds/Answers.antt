use Rattle.std.proofs.Common.{inl, inr, refl}
use Rattle.callers.specs.Rounds.{IsRound}
use Rattle.callers.proofs.Rounds.{round_first}
use Rattle.callers.proofs.laws_on_a_wire.all_rounds.Goals as goal

pub loop-preserved : goal.loop-preserved
loop-preserved c =
    let a : IsRound c.args.one.now c.loop.first c.loop.second c.round.new.first c.round.new.second =
    c.round.ensures c.if-not-round.false in
    let b : IsRound c.args.other.now c.round.new.first c.round.new.second c.round-in-loop.new.first
    c.round-in-loop.new.second =
    c.round-in-loop.ensures c.if-not-round-2.false in (
      b.idle,
      λ s t later. c.loop.invariant.1 s t
          (round_first c.args.one.now c.args.other.now c.args.one.now c.loop.first c.loop.second c.round.new.first
          c.round.new.second s t (inl refl) a
          (round_first c.args.one.now c.args.other.now c.args.other.now c.round.new.first c.round.new.second
          c.round-in-loop.new.first c.round-in-loop.new.second s t (inr refl) b later)),
    )

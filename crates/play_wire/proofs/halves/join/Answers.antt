use Rattle.segment.specs.Inside.{view}
use Rattle.segment.specs.Law.{Ether, Joins, JoinsEther}
use Rattle.segment.specs.Frames.{IsEtherRefused}
use Rattle.segment.specs.Segment.{IsJoinRefused}
use Rattle.play_wire.proofs.ActLemmas.{joins_or_not}
use Rattle.play_wire.proofs.halves.join.Goals as goal

pub returns-in-Some : goal.returns-in-Some
returns-in-Some c =
    let v = view c.args.segment.now in
    joins_or_not v (view c.join_ether.new.self) (Ether (JoinsEther c.args.config c.in-Some.link)) c.join_ether.result
    (IsEtherRefused v c.args.config c.in-Some.link) c.join_ether.ensures

pub returns-in-None : goal.returns-in-None
returns-in-None c =
    let v = view c.args.segment.now in
    joins_or_not v (view c.join.new.self) (Joins c.args.config) c.join.result (IsJoinRefused v c.args.config)
    c.join.ensures

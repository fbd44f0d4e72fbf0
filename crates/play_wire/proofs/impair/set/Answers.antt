use Rattle.segment.specs.Inside.{view}
use Rattle.segment.specs.Law.{Impairs}
use Rattle.play_wire.proofs.ActLemmas.{one_act}
use Rattle.play_wire.proofs.impair.set.Goals as goal

pub returns-in-Some : goal.returns-in-Some
returns-in-Some c =
    one_act (view c.args.segment.now) (view c.impair.new.self) (Impairs c.args.place c.put.result) c.impair.ensures.set

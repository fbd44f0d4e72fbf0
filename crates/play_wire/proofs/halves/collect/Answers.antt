use Rattle.std.proofs.Common.{◌∙◌, refl, sym}
use Rattle.segment.specs.Inside.{view}
use Rattle.segment.specs.Law.{Collects, CollectsFrames, Ether}
use Rattle.play_wire.proofs.ActLemmas.{one_act}
use Rattle.play_wire.proofs.halves.collect.Goals as goal

pub returns-then-is_ether : goal.returns-then-is_ether
returns-then-is_ether c =
    one_act (view c.args.segment.now) (view c.collect_frames_watched.new.self) (Ether CollectsFrames)
    (sym c.is_ether.ensures ∙ c.if-is_ether.true, c.collect_frames_watched.ensures)

pub returns-else-is_ether : goal.returns-else-is_ether
returns-else-is_ether c =
    one_act (view c.args.segment.now) (view c.collect_watched.new.self) (Collects (view c.args.segment.now))
    (refl, c.collect_watched.ensures)

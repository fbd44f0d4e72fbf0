use Rattle.std.proofs.Common.{◌∙◌, refl, sym}
use Rattle.segment.specs.Inside.{view}
use Rattle.segment.specs.Law.{Delivers, DeliversFrames, Ether}
use Rattle.play_wire.proofs.ActLemmas.{one_act}
use Rattle.play_wire.proofs.halves.deliver.Goals as goal

pub returns-then-is_ether : goal.returns-then-is_ether
returns-then-is_ether c =
    one_act (view c.args.segment.now) (view c.deliver_frames_watched.new.self) (Ether DeliversFrames)
    (sym c.is_ether.ensures ∙ c.if-is_ether.true, c.deliver_frames_watched.ensures)

pub returns-else-is_ether : goal.returns-else-is_ether
returns-else-is_ether c =
    one_act (view c.args.segment.now) (view c.deliver_watched.new.self) (Delivers (view c.args.segment.now))
    (refl, c.deliver_watched.ensures)

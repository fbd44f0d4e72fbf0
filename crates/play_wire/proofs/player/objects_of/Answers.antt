use Rattle.std.proofs.Common.{◌∙◌}
use Rattle.play_wire.proofs.PlayLemmas.{not_both}
use Rattle.play_wire.proofs.player.objects_of.Goals as goal

pub returns-then-has_objects : goal.returns-then-has_objects
returns-then-has_objects c none =
    not_both c.has_objects.result c.if-has_objects.true (c.has_objects.ensures ∙ none)

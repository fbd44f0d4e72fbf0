use Rattle.flat_plain.proofs.rooms.+fill.Given as goal

abbrev pub decreases-fill : goal.decreases-fill
decreases-fill l = l.most

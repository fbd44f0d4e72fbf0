use Rattle.flat_plain.proofs.maps.+staying.Given as goal

abbrev pub decreases-staying : goal.decreases-staying
decreases-staying l = l.n

use Rattle.flat_ether.proofs.Counts.{martians_are_counted, no_martian}
use Rattle.flat_ether.proofs.laws.martians_are_dropped.Goals as goal

pub returns-clause-counted : goal.returns-clause-counted
returns-clause-counted c = λ config link. martians_are_counted config link

pub returns-clause-none : goal.returns-clause-none
returns-clause-none c = λ config mac f. no_martian config mac f

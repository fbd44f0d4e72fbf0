use Rattle.play_packet.proofs.NumberLemmas.{number-is, number-most}
use Rattle.play_packet.proofs.numbers.number_in.Goals as goal

pub returns-clause-is : goal.returns-clause-is
returns-clause-is c = number-is _ _ _ c.requires c.number.ensures

pub returns-clause-most : goal.returns-clause-most
returns-clause-most c = number-most _ _ _ c.number.ensures

use Rattle.play_packet.proofs.AddressLemmas.{address-is}
use Rattle.play_packet.proofs.ends.address_in.Goals as goal

pub returns : goal.returns
returns c = address-is c.args.word.now c.address_of.result c.address_of.ensures

use Rattle.play_packet.proofs.ByteLemmas.{bytes-are}
use Rattle.play_packet.proofs.numbers.bytes_in.Goals as goal

pub returns-clause-is : goal.returns-clause-is
returns-clause-is c = bytes-are _ _ _ c.bytes.ensures.bytes

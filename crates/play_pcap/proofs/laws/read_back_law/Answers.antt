use Rattle.play_pcap.proofs.Back.{read_back}
use Rattle.play_pcap.proofs.laws.read_back_law.Goals as goal

pub returns : goal.returns
returns c = read_back c.written_is_read.ensures

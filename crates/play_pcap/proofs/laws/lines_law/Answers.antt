use Rattle.play_pcap.proofs.ScriptLines.{line_asks}
use Rattle.play_pcap.proofs.laws.lines_law.Goals as goal

pub returns : goal.returns
returns c = line_asks

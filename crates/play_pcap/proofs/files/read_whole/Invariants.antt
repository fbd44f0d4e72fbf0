use Rattle.std.proofs.Common.{◌≤◌, ◌-◌, length}
use Rattle.std.specs.Io.KnownBytes.{Consumes}
use Rattle.play_pcap.specs.declared.files.TheConstants.{LONGEST_FILE}
use Rattle.play_pcap.proofs.files.read_whole.Given as goal

abbrev pub invariant-chunks : goal.invariant-chunks
invariant-chunks g l = record {
  all : Consumes (g.R.Read.remaining l.fn.reader) (g.R.Read.remaining l.reader) l.file.items;
  most : length l.file.items ≤ LONGEST_FILE;
}

abbrev pub decreases-chunks : goal.decreases-chunks
decreases-chunks g l = LONGEST_FILE - length l.file.items

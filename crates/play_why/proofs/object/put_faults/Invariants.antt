use Rattle.std.proofs.Common.{◌≡◌, ◌*◌, ◌≤◌, length, take}
use Rattle.play_why.specs.Objects.{faults_in}
use Rattle.play_why.proofs.object.put_faults.Given as goal

abbrev pub invariant-loop-finding : goal.invariant-loop-finding
invariant-loop-finding l = record {
  items : l.text ≡ faults_in (take l.finding-index l.findings);
  len : length l.text ≤ 8 * l.finding-index;
  most : l.finding-index ≤ length l.findings;
}

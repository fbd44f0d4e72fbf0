use Rattle.std.proofs.Common.{◌≡◌, ◌-◌, drop, length}
use Rattle.pcb_table.specs.Inside.Search.{from_port}
use Rattle.pcb_table.proofs.blocks.Blocks.from_port.Given as goal

abbrev pub invariant-places : goal.invariant-places
invariant-places l = from_port l.port (drop l.at l.blocks) ≡ from_port l.port (drop l.passed l.blocks)

abbrev pub decreases-places : goal.decreases-places
decreases-places l = length l.blocks - l.at

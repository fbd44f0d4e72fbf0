use Rattle.std.proofs.Common.{subst}
use Rattle.raw_cells.specs.Cells.{IsSized}
use Rattle.raw_cells.proofs.Parts.{region_sized}
use Rattle.raw_cells.proofs.region.Region.bytes.Goals as goal

pub returns-clause-sized : goal.returns-clause-sized
returns-clause-sized c = subst IsSized c.self.view_is (region_sized c.self.inside c.self.invariant)

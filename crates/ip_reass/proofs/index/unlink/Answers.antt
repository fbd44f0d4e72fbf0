use Rattle.std.proofs.Common.{◌-◌, get_or, refl, arith}
use Rattle.ip_reass.specs.declared.index.Row.{Row}
use Rattle.ip_reass.proofs.Linked.{linked_less}
use Rattle.ip_reass.proofs.index.unlink.Goals as goal

pub rows-preserved : goal.rows-preserved
rows-preserved c =
    let d : Row = record { bucket = 0; before = 0 } in
    record {
      linked =
          linked_less c.rows.lasts c.args.rows.now c.rows.left (c.rows.left - 1)
          (get_or c.args.rows.now (c.rows.left - 1) d) d c.rows.invariant.linked (omega arith) refl;
      place = omega arith;
    }

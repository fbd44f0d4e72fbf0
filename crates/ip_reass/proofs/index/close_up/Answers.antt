use Rattle.std.proofs.Common.{◌+◌, get_or, refl, arith}
use Rattle.ip_reass.specs.declared.index.Row.{Row}
use Rattle.ip_reass.proofs.Linked.{closed_none, closed_more}
use Rattle.ip_reass.proofs.index.close_up.Goals as goal

pub rows-init : goal.rows-init
rows-init c = record {
  linked = c.requires.linked;
  done = closed_none c.args.rows.now c.args.place c.args.len (omega arith);
  rest = λ j d lt. refl;
}

pub overflow_cast-lasts : goal.overflow_cast-lasts
overflow_cast-lasts c = omega (arith, c.requires.small)

pub rows-preserved : goal.rows-preserved
rows-preserved c =
    let d : Row = record { bucket = 0; before = 0 } in
    let b = (get_or c.rows.rows (c.rows.k + 1) d).bucket in
    let more =
    closed_more c.rows.lasts c.args.rows.now c.rows.rows c.args.place c.rows.k c.args.len d
    (record { bucket = b; before = get_or c.rows.lasts b 0 })
    c.rows.invariant.linked c.rows.invariant.done c.rows.invariant.rest
    (λ j e lt. omega (arith, c.requires.inside j e lt, c.rows.auto.lasts)) (omega (arith, c.rows.auto.k))
    (omega (arith, c.rows-test.true)) c.requires.len c.rows.auto.rows refl refl in
    record { linked = more.0; done = more.1; rest = more.2 }

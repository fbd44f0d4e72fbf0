use Rattle.std.proofs.Common.{get_or, refl}
use Rattle.ip_reass.specs.declared.index.Row.{Row}
use Rattle.ip_reass.proofs.Linked.{bucket_pushed, linked_more}
use Rattle.ip_reass.proofs.index.link.Goals as goal

pub returns-clause-linked : goal.returns-clause-linked
returns-clause-linked c =
    let r : Row = record { bucket = c.args.bucket; before = get_or c.args.lasts.now c.args.bucket 0 } in
    linked_more c.args.lasts.now c.args.rows.now c.args.len r c.requires.linked c.requires.room c.requires.bucket refl

pub returns-clause-rows : goal.returns-clause-rows
returns-clause-rows c =
    let r : Row = record { bucket = c.args.bucket; before = get_or c.args.lasts.now c.args.bucket 0 } in
    bucket_pushed c.args.rows.now c.args.len r c.requires.room

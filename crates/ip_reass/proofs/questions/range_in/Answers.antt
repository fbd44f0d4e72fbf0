use Rattle.std.proofs.Common.{◌<◌, get_or, length, ◌∙◌, sym, arith}
use Rattle.std.proofs.lemmas.Option.{slice_get-get_or}
use Rattle.ip_reass.specs.declared.datagram.Datagram.{Datagram}
use Rattle.ip_reass.proofs.Ranges.{is_unfinished, range_here}
use Rattle.ip_reass.proofs.questions.range_in.Goals as goal

pub range_at-requires : goal.range_at-requires
range_at-requires c =
    let d : Datagram = get_or c.args.table.now c.args.i c.index-table-i.result in
    let within : c.args.i < length c.args.table.now = omega (arith, c.if-i-table.false) in
    (is_unfinished c.args.pool.now c.args.table.now c.args.i d c.requires.each
    (slice_get-get_or c.args.table.now c.args.i c.index-table-i.result within)).queue

pub returns : goal.returns
returns c =
    let d : Datagram = get_or c.args.table.now c.args.i c.index-table-i.result in
    let within : c.args.i < length c.args.table.now = omega (arith, c.if-i-table.false) in
    c.range_at.ensures ∙ sym (range_here c.args.pool.now c.args.table.now c.args.i c.args.k d
    (slice_get-get_or c.args.table.now c.args.i c.index-table-i.result within))

use Rattle.std.proofs.Common.{◌≡◌, ◌<◌, Some, length, refl, ap, ◌∙◌, sym, arith}
use Rattle.std.proofs.lemmas.Option.{slice_get_read}
use Rattle.ip_reass.specs.declared.datagram.Datagram.{Datagram}
use Rattle.ip_reass.specs.declared.questions.UnfinishedDatagram.{UnfinishedDatagram}
use Rattle.ip_reass.proofs.Ranges.{reported_from, unfinished_here}
use Rattle.ip_reass.proofs.questions.unfinished_at.Goals as goal

pub returns : goal.returns
returns c =
    let d : Datagram = c.index-table-i.result in
    let within : c.args.i < length c.args.table.now = omega (arith, c.if-i-table.false) in
    let reported : UnfinishedDatagram =
    record { key = d.key; ticks = d.ticks; bytes = c.from.result; ranges = c.len-ranges.result } in
    let same : reported ≡ reported_from d =
    λ j. record { key = d.key; ticks = d.ticks; bytes = c.from.ensures j; ranges = c.len-ranges.ensures j } in
    ap Some same ∙ sym (unfinished_here c.args.pool.now c.args.table.now c.args.i d c.requires.each
    (slice_get_read c.args.table.now (length c.args.table.now) c.args.i d refl within c.index-table-i.is))

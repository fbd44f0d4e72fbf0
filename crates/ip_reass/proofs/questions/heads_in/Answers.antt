use Rattle.std.proofs.Common.{◌<◌, Option, length, refl, ap, sym, arith}
use Rattle.std.proofs.lemmas.Option.{slice_get_past, slice_get_read}
use Rattle.mbuf_chain.specs.Heads.{nth_heads}
use Rattle.ip_reass.specs.Questions.{held_by}
use Rattle.ip_reass.specs.declared.datagram.Datagram.{Datagram}
use Rattle.ip_reass.proofs.Ranges.{is_unfinished}
use Rattle.ip_reass.proofs.Holders.{live_holder}
use Rattle.ip_reass.proofs.questions.heads_in.Goals as goal

pub returns-then-i-table : goal.returns-then-i-table
returns-then-i-table c =
    sym (ap (λ (o : Option Datagram). nth_heads c.args.pool.now (held_by c.args.pool.now o) c.args.k)
    (slice_get_past c.args.table.now c.args.i (omega (arith, c.if-i-table.true))))

pub heads-requires : goal.heads-requires
heads-requires c =
    let d : Datagram = c.index-table-i.result in
    let within : c.args.i < length c.args.table.now = omega (arith, c.if-i-table.false) in
    live_holder c.args.pool.now d.holder
    (is_unfinished c.args.pool.now c.args.table.now c.args.i d c.requires.each
    (slice_get_read c.args.table.now (length c.args.table.now) c.args.i d refl within c.index-table-i.is)).holder

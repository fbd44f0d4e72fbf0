use Rattle.std.proofs.Common.{◌<◌, List, length, refl, subst, sym, ap, arith}
use Rattle.std.proofs.lemmas.List.{take_all}
use Rattle.std.proofs.lemmas.Option.{get_or_from_slice_get, slice_get_read}
use Rattle.ip_reass.specs.Expiring.{IsListed, expired_among}
use Rattle.ip_reass.specs.Table.{unfinished, unfinished_of}
use Rattle.ip_reass.specs.declared.datagram.Datagram.{Datagram}
use Rattle.ip_reass.specs.declared.expiring.Expired.{Expired}
use Rattle.ip_reass.proofs.Expiries.{listed_more, listed_none, more_expired, most_one}
use Rattle.ip_reass.proofs.Ranges.{is_unfinished}
use Rattle.ip_reass.proofs.expiring.list_all_expiring.Goals as goal

pub table-init : goal.table-init
table-init c = record { way = listed_none c.args.list.now 0; within = omega arith }

pub list_expiring-count-requires-clause-pieces : goal.list_expiring-count-requires-clause-pieces
list_expiring-count-requires-clause-pieces c =
    let within : c.table.i < length c.args.table.now = omega arith in
    is_unfinished c.args.pool.now c.args.table.now c.table.i c.index-table-i.result c.requires.each
    (slice_get_read c.args.table.now (length c.args.table.now) c.table.i c.index-table-i.result refl within
    c.index-table-i.is)

pub table-preserved : goal.table-preserved
table-preserved c =
    let d : Datagram = c.index-table-i.result in
    let within : c.table.i < length c.args.table.now = omega arith in
    let here = slice_get_read c.args.table.now (length c.args.table.now) c.table.i d refl within c.index-table-i.is in
    record {
      way = subst (λ (xs : List Expired). IsListed c.args.list.now 0 xs c.list_expiring-count.new.list
          c.list_expiring-count.result)
          (sym (more_expired c.args.pool.now c.args.table.now c.table.i d within
          (sym (get_or_from_slice_get c.args.table.now c.table.i d d here))))
          (listed_more c.table.invariant.way c.list_expiring-count.ensures);
      within = omega (
        arith,
        c.table.invariant.within,
        c.list_expiring-count.ensures.number,
        most_one (unfinished_of c.args.pool.now d),
      );
    }

pub returns : goal.returns
returns c =
    subst (λ (ds : List Datagram). IsListed c.args.list.now 0 (expired_among (unfinished c.args.pool.now ds))
    c.table.list c.table.count) (take_all c.table.i c.args.table.now (omega arith)) c.table.invariant.way

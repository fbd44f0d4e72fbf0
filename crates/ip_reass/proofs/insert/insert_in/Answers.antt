use Rattle.std.proofs.Common.{sym, subst}
use Rattle.mbuf_chain.proofs.Laws.Owners.{live_first}
use Rattle.ip_reass.specs.Fragments.{fragments, map_of}
use Rattle.ip_reass.specs.Inside.Walks.{ReportsWhole, arrived, is_left}
use Rattle.ip_reass.specs.declared.datagram.Datagram.{Datagram}
use Rattle.ip_reass.specs.Table.{held_all}
use Rattle.ip_reass.proofs.Places.{each_at}
use Rattle.ip_reass.proofs.InsertIn.{inserted_in_table, datagram_put, apart_at}
use Rattle.ip_reass.proofs.insert.insert_in.Goals as goal

pub returns-clause-inserts : goal.returns-clause-inserts
returns-clause-inserts c =
    inserted_in_table c.args.pool.now c.insert.new.pool c.args.table.now c.args.i c.args.chain c.index-table-i.result
    (arrived c.args.pool.now c.args.chain c.args.span.offset c.args.span.more) (is_left c.insert.result)
    c.insert.new.datagram c.requires.table c.requires.place c.requires.owned c.insert.ensures.inserted

pub insert-requires : goal.insert-requires
insert-requires c =
    let p = c.args.pool.now in
    let ds = c.args.table.now in
    let here = (each_at p ds c.args.i c.index-table-i.result c.requires.place c.requires.table.each).0 in
    record {
      queue = here.queue;
      counted = here.counted;
      live = live_first p c.args.chain (held_all p ds) c.requires.owned;
      headed = c.requires.headed;
      apart = apart_at p ds c.args.i c.args.chain c.index-table-i.result c.requires.place c.requires.owned;
      some = c.requires.some;
      small = c.requires.small;
    }

pub returns-clause-whole : goal.returns-clause-whole
returns-clause-whole c =
    subst (λ (d : Datagram). ReportsWhole (map_of (fragments c.insert.new.pool d.fragments)) c.insert.result)
    (sym (datagram_put c.args.table.now c.args.i c.insert.new.datagram c.requires.place)) c.insert.ensures.whole

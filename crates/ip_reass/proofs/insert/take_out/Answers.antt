use Rattle.std.proofs.Common.{sym, subst}
use Rattle.ip_reass.specs.declared.datagram.Datagram.{Datagram}
use Rattle.std.proofs.Common.{List}
use Rattle.ip_reass.specs.Inside.Steps.{TakesOut}
use Rattle.ip_reass.proofs.InsertIn.{taken_out, held_then}
use Rattle.ip_reass.proofs.insert.take_out.Goals as goal

pub returns-clause-takes : goal.returns-clause-takes
returns-clause-takes c =
    subst (λ (ds : List Datagram). TakesOut c.args.pool.now c.args.table.now.items c.args.i c.join_all.result
    c.join_all.new.pool ds) (sym c.take_row-holder.ensures.items)
    (taken_out c.args.pool.now c.free_chain.new.self c.join_all.new.pool c.args.table.now.items c.args.i
    c.join_all.result c.take_row-holder.result c.requires.table c.requires.place c.take_row-holder.ensures.value
    c.free_chain.ensures c.join_all.ensures.entries c.join_all.ensures.front c.join_all.ensures.moves)

pub join_all-requires-clause-held : goal.join_all-requires-clause-held
join_all-requires-clause-held c =
    held_then c.args.pool.now c.free_chain.new.self c.args.table.now.items c.args.i c.take_row-holder.result
    c.requires.table c.requires.place c.take_row-holder.ensures.value c.free_chain.ensures

use Rattle.std.proofs.Common.{refl, ◌∙◌, ap, take, arith, vec_len, ◌-◌}
use Rattle.std.proofs.lemmas.List.{take-take}
use Rattle.mbuf_chain.proofs.Laws.Owners.{moves_trans, moves_none}
use Rattle.ip_reass.proofs.Tables.{last_of, shorter, same_more, same_none}
use Rattle.ip_reass.proofs.table.free_beyond.Goals as goal

pub free_datagram-requires-clause-owned : goal.free_datagram-requires-clause-owned
free_datagram-requires-clause-owned c =
    (last_of c.table.pool c.table.table.items c.pop.new.self.items c.in-Some.datagram c.in-Some.ensures.items
    c.table.invariant.table).owned

pub free_datagram-requires-clause-held : goal.free_datagram-requires-clause-held
free_datagram-requires-clause-held c =
    (last_of c.table.pool c.table.table.items c.pop.new.self.items c.in-Some.datagram c.in-Some.ensures.items
    c.table.invariant.table).held

pub table-preserved-in-Some : goal.table-preserved-in-Some
table-preserved-in-Some c =
    let less =
    shorter c.table.pool c.free_datagram.new.pool c.table.table.items c.pop.new.self.items c.in-Some.datagram
    c.in-Some.ensures.items c.table.invariant.table c.free_datagram.ensures in
    record {
      place = omega (arith, c.in-Some.ensures.cases);
      items =
          ap (take c.args.kept) c.in-Some.ensures.rest
          ∙ (take-take c.args.kept (vec_len c.table.table - 1) c.table.table.items (omega arith)
          ∙ c.table.invariant.items);
      capacity = c.in-Some.ensures.capacity ∙ c.table.invariant.capacity;
      table = less.table;
      same =
          same_more c.args.pool.now c.table.pool c.free_datagram.new.pool c.table.table.items c.pop.new.self.items
          c.in-Some.datagram c.in-Some.ensures.items c.table.invariant.same less.same;
      moves = moves_trans c.table.invariant.moves less.moves;
    }

pub table-init : goal.table-init
table-init c = record {
  place = c.requires.place;
  items = refl;
  capacity = refl;
  table = c.requires.table;
  same = same_none c.args.pool.now _;
  moves = moves_none c.args.pool.now _;
}

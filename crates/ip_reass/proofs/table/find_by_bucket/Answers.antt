use Rattle.std.proofs.Common.{◌-◌, ◌<◌, length, get_or, refl, ◌∙◌, sym, arith}
use Rattle.ip_reass.specs.Table.{has_key}
use Rattle.ip_reass.specs.declared.datagram.Datagram.{Datagram}
use Rattle.ip_reass.proofs.Indexed.{compared, only_found, walk_begins, walk_goes_on, walk_ends}
use Rattle.ip_reass.proofs.Linked.{upto_most}
use Rattle.ip_reass.proofs.table.find_by_bucket.Goals as goal

pub rows-init : goal.rows-init
rows-init c =
    walk_begins c.catch_up.new.self.count c.args.key c.args.table.now c.catch_up.new.self.buckets
    c.bucket-bucket.result c.last-rows.result c.catch_up.ensures.rows c.bucket-bucket.ensures.is c.last-rows.ensures

pub returns-then-eq-clause-found : goal.returns-then-eq-clause-found
returns-then-eq-clause-found c =
    let i = c.rows.rows - 1 in
    let x : Datagram = c.index-table-place.result in
    let d : Datagram = get_or c.args.table.now i x in
    let lt : i < length c.args.table.now = omega (arith, c.rows.invariant.within, c.rows-test.true) in
    let found =
    only_found (has_key c.args.key) c.args.table.now i x lt
    (sym (compared c.args.key d) ∙ (sym c.eq.ensures ∙ c.if-eq.true)) c.requires.once in
    (lt, found.0, found.1)

pub rows-smaller : goal.rows-smaller
rows-smaller c =
    let bs = c.catch_up.new.self.buckets in
    omega (
      arith,
      c.before-rows.ensures,
      c.rows-test.true,
      upto_most (get_or bs (c.rows.rows - 1) 0) bs (c.rows.rows - 1),
    )

pub rows-preserved : goal.rows-preserved
rows-preserved c =
    let i = c.rows.rows - 1 in
    let x : Datagram = c.index-table-place.result in
    let d : Datagram = get_or c.args.table.now i x in
    walk_goes_on c.catch_up.new.self.count c.args.key c.args.table.now c.catch_up.new.self.buckets c.rows.rows i
    c.before-rows.result x c.catch_up.ensures.rows c.rows-test.true refl
    (sym (compared c.args.key d) ∙ (sym c.eq.ensures ∙ c.if-eq.false)) c.before-rows.ensures c.rows.invariant

pub returns-clause-found : goal.returns-clause-found
returns-clause-found c =
    walk_ends c.catch_up.new.self.count c.args.key c.args.table.now c.rows.rows c.rows.invariant c.rows-test.false

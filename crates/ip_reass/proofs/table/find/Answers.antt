use Rattle.std.proofs.Common.{ℕ, ◌-◌, ◌<◌, length, get_or, ◌∙◌, sym, arith}
use Rattle.ip_reass.specs.Table.{has_key}
use Rattle.ip_reass.specs.declared.datagram.Datagram.{Datagram}
use Rattle.ip_reass.proofs.Indexed.{compared, only_found}
use Rattle.ip_reass.proofs.table.find.Goals as goal

pub returns-then-eq-clause-found : goal.returns-then-eq-clause-found
returns-then-eq-clause-found c =
    let i : ℕ = length c.args.table.now - 1 in
    let x : Datagram = c.index-table-len.result in
    let d : Datagram = get_or c.args.table.now i x in
    let lt : i < length c.args.table.now = omega (arith, c.if-len-gt0.true) in
    let found =
    only_found (has_key c.args.key) c.args.table.now i x lt
    (sym (compared c.args.key d) ∙ (sym c.eq.ensures ∙ c.if-eq.true)) c.requires.once in
    (lt, found.0, found.1)

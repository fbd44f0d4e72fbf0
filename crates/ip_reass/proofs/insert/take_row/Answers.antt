use Rattle.std.proofs.Common.{◌≡◌, ◌∙◌, List, [], ◌∷◌, ◌++◌, length, get_or, remove, drop, sym, ap, arith}
use Rattle.std.proofs.lemmas.List.{take_at}
use Rattle.ip_reass.specs.declared.datagram.Datagram.{Datagram}
use Rattle.ip_reass.proofs.Edits.{last_same}
use Rattle.ip_reass.proofs.insert.take_row.Goals as goal
use Rattle.ip_reass.proofs.insert.take_row.Goals.{In-Some}

-- the popped row is the one that was moved to the end
taken : (c : In-Some) → (c.pop.new.self.items ≡ remove c.args.table.now.items c.args.i)
    × (c.in-Some.row ≡ get_or c.args.table.now.items c.args.i c.in-Some.row)
taken c =
    let rows : List Datagram = c.bring_to_end.new.rows in
    let written =
    take_at rows (drop (length rows) c.args.table.now.items) c.args.table.now.len (
    omega (
      arith,
      c.bring_to_end.auto.rows,
      ap (λ (xs : List Datagram). length xs) c.as_mut_slice.ensures.value,
      c.args.table.now.ok.0,
    )
    ) in
    last_same c.pop.new.self.items (remove c.args.table.now.items c.args.i) c.in-Some.row
    (get_or c.args.table.now.items c.args.i c.in-Some.row)
    (sym c.in-Some.ensures.items ∙ written ∙ c.bring_to_end.ensures c.in-Some.row
    ∙ ap (λ (xs : List Datagram). remove xs c.args.i ++ get_or xs c.args.i c.in-Some.row ∷ [])
    c.as_mut_slice.ensures.value)

pub returns-clause-value : goal.returns-clause-value
returns-clause-value c = (taken c).1

pub returns-clause-items : goal.returns-clause-items
returns-clause-items c = (taken c).0

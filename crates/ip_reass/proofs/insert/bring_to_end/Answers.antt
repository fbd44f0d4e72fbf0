use Rattle.std.proofs.Common.{◌≡◌, ◌∙◌, ◌+◌, List, get_or, insert, remove, swap, suc, sym, ap, arith}
use Rattle.std.proofs.lemmas.List.Edits.{length-remove}
use Rattle.ip_reass.specs.declared.datagram.Datagram.{Datagram}
use Rattle.ip_reass.proofs.Edits.{insert_back, insert_end, swap-insert}
use Rattle.ip_reass.proofs.insert.bring_to_end.Goals as goal

pub rows-init : goal.rows-init
rows-init c = record {
  place = omega arith;
  within = c.requires;
  rows = λ d. sym (insert_back c.args.rows.now c.args.i d c.requires);
}

pub rows-preserved : goal.rows-preserved
rows-preserved c =
    let xs : List Datagram = c.args.rows.now in
    let left = remove xs c.args.i in
    let less = length-remove xs c.args.i c.requires in
    let one : c.rows.k + 1 ≡ suc c.rows.k = omega arith in
    record {
      place = omega (arith, c.rows.invariant.place);
      within = omega (arith, c.rows-test.true, c.rows.auto.rows);
      rows =
          λ d. c.swap.ensures.after
          ∙ (λ j. swap (c.rows.invariant.rows d j) c.rows.k (one j))
          ∙ swap-insert left c.rows.k (get_or xs c.args.i d) (omega (arith, less, c.rows-test.true, c.rows.auto.rows))
          ∙ ap (λ k. insert left k (get_or xs c.args.i d)) (sym one);
    }

pub returns : goal.returns
returns c =
    let xs : List Datagram = c.args.rows.now in
    let less = length-remove xs c.args.i c.requires in
    λ d. c.rows.invariant.rows d
    ∙ insert_end (remove xs c.args.i) c.rows.k (get_or xs c.args.i d)
    (omega (arith, less, c.rows-test.false, c.rows.auto.rows, c.rows.invariant.within))

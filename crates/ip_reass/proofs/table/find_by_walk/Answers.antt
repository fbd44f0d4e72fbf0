use Rattle.std.proofs.Common.{◌<◌, length, get_or, ap, ◌∙◌, sym, arith, inl, inr}
use Rattle.std.proofs.lemmas.Bool.{cases_eq}
use Rattle.ip_reass.specs.Table.{has_key}
use Rattle.ip_reass.specs.declared.datagram.Datagram.{Datagram}
use Rattle.ip_reass.proofs.Indexed.{any_default, compared, none_found, only_found}
use Rattle.ip_reass.proofs.table.find_by_walk.Goals as goal

pub rows-init : goal.rows-init
rows-init c = record { none = λ k d lt. absurd (omega (arith, lt)) }

pub returns-then-eq : goal.returns-then-eq
returns-then-eq c =
    let i = c.rows.place in
    let x : Datagram = c.index-table-place.result in
    let d : Datagram = get_or c.args.table.now i x in
    let lt : i < length c.args.table.now = omega (arith, c.rows-test.true) in
    let found =
    only_found (has_key c.args.key) c.args.table.now i x lt
    (sym (compared c.args.key d) ∙ (sym c.eq.ensures ∙ c.if-eq.true)) c.requires in
    (lt, found.0, found.1)

pub rows-preserved : goal.rows-preserved
rows-preserved c = record {
  none = λ k d lt.
      let i = c.rows.place in
      let x : Datagram = c.index-table-place.result in
      elim (cases_eq k i) [
        | inl is ↦ ap (λ j. has_key c.args.key (get_or c.args.table.now j d)) is
            ∙ ap (has_key c.args.key) (any_default c.args.table.now i d x (omega (arith, c.rows-test.true)))
            ∙ sym (compared c.args.key (get_or c.args.table.now i x)) ∙ (sym c.eq.ensures ∙ c.if-eq.false)
        | inr ne ↦ c.rows.invariant.none k d (omega (arith, lt, ne))
      ];
}

pub returns : goal.returns
returns c =
    none_found (has_key c.args.key) c.args.table.now
    (λ k d lt. c.rows.invariant.none k d (omega (arith, lt, c.rows-test.false)))

use Rattle.std.proofs.Common.{◌∙◌, ap, sym}
use Rattle.std.proofs.lemmas.Bool.{le-leb, lt-leb}
use Rattle.flat_plain.specs.Tables.{held_of, plain_fragment}
use Rattle.flat_plain.proofs.Placing.{place_new, place_none, place_kept, place_over, place_cut, place_same}
use Rattle.flat_plain.proofs.maps.overlaid.Goals as goal

pub returns-then-within : goal.returns-then-within
returns-then-within c =
    λ map e o. place_new map (plain_fragment c.args.fragment c.args.bytes.now) c.args.k (e ∙ ap held_of c.in-None.is)
    (sym c.if-within.ensures) c.args.first o

pub returns-else-within : goal.returns-else-within
returns-else-within c =
    λ map e o. place_none map (plain_fragment c.args.fragment c.args.bytes.now) c.args.k (e ∙ ap held_of c.in-None.is)
    (sym c.if-within.ensures)

pub returns-then-cell-fragment : goal.returns-then-cell-fragment
returns-then-cell-fragment c =
    λ map e o. place_kept map (plain_fragment c.args.fragment c.args.bytes.now) c.args.k _ (e ∙ ap held_of c.in-Some.is)
    (sym c.if-within-2.ensures) (le-leb _ _ c.if-cell-fragment.true)

pub returns-then-within-2 : goal.returns-then-within-2
returns-then-within-2 c =
    λ map e o. place_over map (plain_fragment c.args.fragment c.args.bytes.now) c.args.k _ (e ∙ ap held_of c.in-Some.is)
    (sym c.if-within-2.ensures) (lt-leb _ _ c.if-cell-fragment.false) c.args.first o

pub returns-then-begins_between : goal.returns-then-begins_between
returns-then-begins_between c =
    λ map e o. place_cut map (plain_fragment c.args.fragment c.args.bytes.now) c.args.k _ (e ∙ ap held_of c.in-Some.is)
    (sym c.if-within-2.ensures) (sym c.if-begins_between.ensures)

pub returns-else-begins_between : goal.returns-else-begins_between
returns-else-begins_between c =
    λ map e o. place_same map (plain_fragment c.args.fragment c.args.bytes.now) c.args.k _ (e ∙ ap held_of c.in-Some.is)
    (sym c.if-within-2.ensures) (sym c.if-begins_between.ensures)

use Rattle.std.proofs.Common.{◌∙◌, ap, not, sym}
use Rattle.std.proofs.lemmas.Bool.{false≢true}
use Rattle.std.proofs.lemmas.Slice.Eq.{bytes_eq-Decides}
use Rattle.script_loop.specs.Left.{left}
use Rattle.play_wire.proofs.WireLemmas.{no_bound, no_most, not_end}
use Rattle.play_wire.proofs.wire_ask.bound_of.Goals as goal

pub returns-in_err-one_number : goal.returns-in_err-one_number
returns-in_err-one_number c =
    rw c.from_residual.ensures
    (no_bound (left c.args.rest) c.first_word.result.0.now (left c.first_word.result.1)
    (ap left c.in-Some.is ∙ c.first_word.ensures)
    (λ same. false≢true (sym (c.if-ne.ensures ∙ ap not
    ((bytes_eq-Decides c.first_word.result.0.now c.as_slice.result.now).1 (same ∙ sym c.as_slice.ensures)))))
    c.in_err-one_number.ensures)

pub returns-in_err-one_number-2 : goal.returns-in_err-one_number-2
returns-in_err-one_number-2 c =
    rw c.from_residual-in_err-one_number-2.ensures
    (no_most (left c.args.rest) c.first_word.result.0.now (left c.first_word.result.1)
    (ap left c.in-Some.is ∙ c.first_word.ensures)
    (not_end (left c.first_word.result.1) c.is_end.result c.is_end.ensures c.if-is_end.false)
    c.in_err-one_number-2.ensures)

use Rattle.std.proofs.Common.{◌≤◌, length, arith}
use Rattle.request.proofs.FormLemmas.{Asks-form, Asks-none, fits_form}
use Rattle.request.proofs.read.request_of.Goals as goal

pub returns-clause-event : goal.returns-clause-event
returns-clause-event c =
    let short : length c.args.line.now ≤ 131200 = omega arith in
    Asks-form _ _ c.in_ok-word.word _ _ short c.first_word.ensures c.in_ok-word.ensures c.form_of.ensures

pub returns-clause-fits : goal.returns-clause-fits
returns-clause-fits c = fits_form _ _ _ c.form_of.ensures

pub returns-in_err-word-clause-event : goal.returns-in_err-word-clause-event
returns-in_err-word-clause-event c =
    rw c.from_residual.ensures (Asks-none _ _ _ c.first_word.ensures c.in_err-word.ensures)

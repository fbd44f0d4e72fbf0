use Rattle.std.proofs.Common.{arith}
use Rattle.chain_script.proofs.Forms.{call_form, call_none, form_fits}
use Rattle.chain_script.proofs.line.call_of.Goals as goal

pub returns-clause-call : goal.returns-clause-call
returns-clause-call c =
    call_form _ _ _ _ _ _ (omega arith) c.first_word.ensures c.in_ok-word.ensures c.form_of.ensures

pub returns-clause-fits : goal.returns-clause-fits
returns-clause-fits c = form_fits _ _ _ _ c.form_of.ensures

pub returns-in_err-word-clause-call : goal.returns-in_err-word-clause-call
returns-in_err-word-clause-call c =
    rw c.from_residual.ensures (call_none _ _ _ c.first_word.ensures c.in_err-word.ensures)

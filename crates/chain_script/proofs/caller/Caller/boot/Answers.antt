use Rattle.std.proofs.lemmas.Result.{err_from_is_err_and}
use Rattle.chain_script.proofs.Booted.{booted_fits}
use Rattle.chain_script.proofs.caller.Caller.boot.Goals as goal

pub invariant_of-result-clause-fits : goal.invariant_of-result-clause-fits
invariant_of-result-clause-fits c =
    booted_fits c.over.result _ (λ j. (c.over.ensures j).chains) c.empty_slots.ensures.items

pub returns-in_err-store-clause-ok : goal.returns-in_err-store-clause-ok
returns-in_err-store-clause-ok c = rw (err_from_is_err_and c.from_residual.result c.from_residual.ensures.1).1 tt

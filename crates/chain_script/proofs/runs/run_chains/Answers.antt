use Rattle.chain_script.proofs.runs.run_chains.Goals as goal

pub returns-in-Ok-clause-served : goal.returns-in-Ok-clause-served
returns-in-Ok-clause-served g c = (_, rw c.in-Ok.ensures.ok at c.serve_script-outcome.ensures.served)

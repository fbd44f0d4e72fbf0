use Rattle.std.proofs.Common.{refl}
use Rattle.script_loop.proofs.Laws.{Moves-none}
use Rattle.script_loop.proofs.StreamLemmas.{MoreBy-none}
use Rattle.script_loop.proofs.serve.serve_script.Goals as goal

pub returns-in_default-clause-read : goal.returns-in_default-clause-read
returns-in_default-clause-read g c = MoreBy-none _

pub returns-in_default-clause-wrote : goal.returns-in_default-clause-wrote
returns-in_default-clause-wrote g c = MoreBy-none _

pub returns-in_default-clause-served : goal.returns-in_default-clause-served
returns-in_default-clause-served g c = (Moves-none _ _, refl)

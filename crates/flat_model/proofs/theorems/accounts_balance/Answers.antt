-- What is free is what isn't held.
use Rattle.flat_model.proofs.Machine.Balance.{free_and_held, references_are, none_held}
use Rattle.flat_model.proofs.theorems.accounts_balance.Goals as goal

pub returns-clause-mbufs : goal.returns-clause-mbufs
returns-clause-mbufs c = free_and_held

pub returns-clause-references : goal.returns-clause-references
returns-clause-references c = references_are

pub returns-clause-nothing_held : goal.returns-clause-nothing_held
returns-clause-nothing_held c = none_held

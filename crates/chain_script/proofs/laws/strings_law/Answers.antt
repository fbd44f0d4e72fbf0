use Rattle.std.proofs.Common.{refl}
use Rattle.chain_script.proofs.Reported.{boot_strings, string_step, string_prints}
use Rattle.chain_script.proofs.laws.strings_law.Goals as goal

pub returns-clause-slots : goal.returns-clause-slots
returns-clause-slots c mbufs clusters = refl

pub returns-clause-boot : goal.returns-clause-boot
returns-clause-boot c = boot_strings

pub returns-clause-step : goal.returns-clause-step
returns-clause-step c = string_step

pub returns-clause-prints : goal.returns-clause-prints
returns-clause-prints c = string_prints

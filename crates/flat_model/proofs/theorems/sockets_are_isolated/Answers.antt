-- Every step keeps the queues within their limits, and what the limits leave is enough.
use Rattle.flat_model.specs.Machine.State.{boot}
use Rattle.flat_model.proofs.Machine.Isolated.{each_holds, never_dropped, never_lacks, never_refused}
use Rattle.flat_model.proofs.Machine.KeptSteps.{boot_is_consistent}
use Rattle.flat_model.proofs.Machine.OnePacket.{comes_received}
use Rattle.flat_model.proofs.Machine.Within.{run_stays_within, step_stays_within}
use Rattle.flat_model.proofs.theorems.sockets_are_isolated.Goals as goal

pub returns-clause-start : goal.returns-clause-start
returns-clause-start c = λ config. tt

pub returns-clause-step : goal.returns-clause-step
returns-clause-step c = step_stays_within

pub returns-clause-run : goal.returns-clause-run
returns-clause-run c =
    λ config turns new boots leads. run_stays_within (boot config) new turns (boot_is_consistent config boots) tt leads

pub returns-clause-test : goal.returns-clause-test
returns-clause-test c = λ s mid held need yes is. never_lacks s mid held need yes is.sockets

pub returns-clause-send : goal.returns-clause-send
returns-clause-send c = never_refused

pub returns-clause-delivery : goal.returns-clause-delivery
returns-clause-delivery c = λ s new held sender item to is. never_dropped s new held sender item to is.sockets

pub returns-clause-holds : goal.returns-clause-holds
returns-clause-holds c = each_holds

pub returns-clause-arrival : goal.returns-clause-arrival
returns-clause-arrival c = comes_received

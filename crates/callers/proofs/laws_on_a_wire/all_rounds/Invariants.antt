use Rattle.net_stack.specs.Stack.{StackView}
use Rattle.callers.specs.Rounds.{AreRounds, IsIdle}
use Rattle.callers.proofs.laws_on_a_wire.all_rounds.Given as goal

-- rounds from here on make rounds from the start
abbrev pub invariant-loop : goal.invariant-loop
invariant-loop l =
    IsIdle l.first
    × ((s t : StackView) → AreRounds l.one l.other l.first l.second s t
    → AreRounds l.one l.other l.fn.first l.fn.second s t)

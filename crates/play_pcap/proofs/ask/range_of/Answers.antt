use Rattle.std.proofs.Common.{ℕ, ◌+◌, List, take, MatchOption, subst}
use Rattle.play_pcap.specs.Asks.{IsPair}
use Rattle.play_pcap.specs.declared.ask.Range.{Range}
use Rattle.play_pcap.proofs.Asking.{ranged, tail_all, unranged}
use Rattle.play_pcap.proofs.ask.range_of.Goals as goal

pub returns-in-Some-clause-is : goal.returns-in-Some-clause-is
returns-in-Some-clause-is c =
    let at : ℕ = c.in-Some.at in
    let front : List ℕ = take at c.args.word.now in
    ranged c.args.word.now at c.range_from.result c.in-Some.ensures
    (subst (λ (back : List ℕ). MatchOption c.range_from.result ((r : Range) → IsPair front back r → ⊥)
    (IsPair front back))
    (tail_all (at + 1) c.args.word.now) c.range_from.ensures.is)

pub returns-in-None-clause-is : goal.returns-in-None-clause-is
returns-in-None-clause-is c = unranged _ c.in-None.ensures

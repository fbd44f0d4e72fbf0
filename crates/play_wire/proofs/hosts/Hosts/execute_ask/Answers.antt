use Rattle.std.proofs.Common.{[], ◌∷◌, refl, ap, ap₂}
use Rattle.script_loop.specs.Left.{left}
use Rattle.segment.specs.Inside.{view}
use Rattle.segment.specs.Law.{Loses, Repeats, Seeds, Swaps}
use Rattle.play_wire.specs.Acts.{Replied}
use Rattle.play_wire.proofs.PlayLemmas.{by_hand, host_added, names_kept}
use Rattle.play_wire.proofs.hosts.Hosts.execute_ask.Goals as goal

pub returns-in-Host-clause-does : goal.returns-in-Host-clause-does
returns-in-Host-clause-does g c = rw c.in-Host.is
    (c.add.ensures.moves.0, c.add.ensures.moves.1, tt)

pub returns-in-Host-clause-names : goal.returns-in-Host-clause-names
returns-in-Host-clause-names g c = rw c.in-Host.is
    (host_added _ (left c.in-Host.words) _ _ c.add.result _ _ c.add.ensures.names)

pub returns-in-Wire-clause-does : goal.returns-in-Wire-clause-does
returns-in-Wire-clause-does g c = rw c.in-Wire.is
    ([], ap view c.wire.ensures.segment, refl)

pub returns-in-Wire-clause-names : goal.returns-in-Wire-clause-names
returns-in-Wire-clause-names g c = rw c.in-Wire.is
    (names_kept _ _ (ap (λ xs. xs.items) c.wire.ensures.names))

pub returns-in-Carry-clause-does : goal.returns-in-Carry-clause-does
returns-in-Carry-clause-does g c = rw c.in-Carry.is
    c.carry.ensures.carries

pub returns-in-Carry-clause-names : goal.returns-in-Carry-clause-names
returns-in-Carry-clause-names g c = rw c.in-Carry.is
    (names_kept _ _ (ap (λ xs. xs.items) c.carry.ensures.names))

pub returns-in-Collect-clause-does : goal.returns-in-Collect-clause-does
returns-in-Collect-clause-does g c = rw c.in-Collect.is
    c.collect.ensures.collects

pub returns-in-Collect-clause-names : goal.returns-in-Collect-clause-names
returns-in-Collect-clause-names g c = rw c.in-Collect.is
    (names_kept _ _ (ap (λ xs. xs.items) c.collect.ensures.names))

pub returns-in-Deliver-clause-does : goal.returns-in-Deliver-clause-does
returns-in-Deliver-clause-does g c = rw c.in-Deliver.is
    c.deliver.ensures.delivers

pub returns-in-Deliver-clause-names : goal.returns-in-Deliver-clause-names
returns-in-Deliver-clause-names g c = rw c.in-Deliver.is
    (names_kept _ _ (ap (λ xs. xs.items) c.deliver.ensures.names))

pub returns-in-Tick-clause-does : goal.returns-in-Tick-clause-does
returns-in-Tick-clause-does g c = rw c.in-Tick.is (
  c.tick.ensures.moves.0,
  c.tick.ensures.moves.1,
  ap₂ Replied c.set_ok-in-Tick.ensures.reply_line
      c.set_ok-in-Tick.ensures.below,
)

pub returns-in-Tick-clause-names : goal.returns-in-Tick-clause-names
returns-in-Tick-clause-names g c = rw c.in-Tick.is
    (names_kept _ _ (ap (λ xs. xs.items) c.tick.ensures.names))

pub returns-in-Seed-clause-does : goal.returns-in-Seed-clause-does
returns-in-Seed-clause-does g c = rw c.in-Seed.is (
  Seeds c.in-Seed.seed ∷ [],
  (view c.seed.new.self, c.seed.ensures, refl),
  (refl, ap₂ Replied c.set_ok-in-Seed.ensures.reply_line c.set_ok-in-Seed.ensures.below),
)

pub returns-in-Seed-clause-names : goal.returns-in-Seed-clause-names
returns-in-Seed-clause-names g c = rw c.in-Seed.is
    (names_kept _ _ refl)

pub returns-in-Drop-clause-does : goal.returns-in-Drop-clause-does
returns-in-Drop-clause-does g c = rw c.in-Drop.is
    (by_hand (view c.args.self.now.segment) (view c.lose.new.self) (Loses c.in-Drop.at) _ _ _ c.lose.ensures.lost
    c.lose.ensures.is c.report_there.ensures)

pub returns-in-Drop-clause-names : goal.returns-in-Drop-clause-names
returns-in-Drop-clause-names g c = rw c.in-Drop.is
    (names_kept _ _ refl)

pub returns-in-Repeat-clause-does : goal.returns-in-Repeat-clause-does
returns-in-Repeat-clause-does g c = rw c.in-Repeat.is
    (by_hand (view c.args.self.now.segment) (view c.repeat.new.self) (Repeats c.in-Repeat.at) _ _ _
    c.repeat.ensures.repeated
    c.repeat.ensures.is c.report_there-in-Repeat.ensures)

pub returns-in-Repeat-clause-names : goal.returns-in-Repeat-clause-names
returns-in-Repeat-clause-names g c = rw c.in-Repeat.is
    (names_kept _ _ refl)

pub returns-in-Swap-clause-does : goal.returns-in-Swap-clause-does
returns-in-Swap-clause-does g c = rw c.in-Swap.is
    (by_hand (view c.args.self.now.segment) (view c.swap.new.self) (Swaps c.in-Swap.at c.in-Swap.other) _ _ _
    c.swap.ensures.swapped
    c.swap.ensures.is c.report_there-in-Swap.ensures)

pub returns-in-Swap-clause-names : goal.returns-in-Swap-clause-names
returns-in-Swap-clause-names g c = rw c.in-Swap.is
    (names_kept _ _ refl)

pub returns-in-Impair-clause-does : goal.returns-in-Impair-clause-does
returns-in-Impair-clause-does g c = rw c.in-Impair.is
    (c.impair.ensures.moves.0, c.impair.ensures.moves.1, tt)

pub returns-in-Impair-clause-names : goal.returns-in-Impair-clause-names
returns-in-Impair-clause-names g c = rw c.in-Impair.is
    (names_kept _ _ (ap (λ xs. xs.items) c.impair.ensures.names))

pub returns-in-Show-clause-does : goal.returns-in-Show-clause-does
returns-in-Show-clause-does g c = rw c.in-Show.is
    ([], refl, refl)

pub returns-in-Show-clause-names : goal.returns-in-Show-clause-names
returns-in-Show-clause-names g c = rw c.in-Show.is
    (names_kept _ _ refl)

pub returns-in-Summary-clause-does : goal.returns-in-Summary-clause-does
returns-in-Summary-clause-does g c = rw c.in-Summary.is
    (c.summary.ensures.moves.0, c.summary.ensures.moves.1, tt)

pub returns-in-Summary-clause-names : goal.returns-in-Summary-clause-names
returns-in-Summary-clause-names g c = rw c.in-Summary.is
    (names_kept _ _ (ap (λ xs. xs.items) c.summary.ensures.names))

use Rattle.std.proofs.Common.{◌≡◌, ◌<◌, ℕ, None, get_or}
use Rattle.chain_script.specs.Inside.Slots.{FitsSlots}
use Rattle.chain_script.proofs.slots.free_all.Given as goal

abbrev pub invariant-slots : goal.invariant-slots
invariant-slots l = record {
  fits : FitsSlots l.pool l.chains;
  empty : (k : ℕ) → k < l.slot → get_or l.chains k None ≡ None;
}

use Rattle.std.proofs.Common.{◌≡◌, drop, map}
use Rattle.chain_script.specs.Drawings.{collected_slots}
use Rattle.chain_script.specs.Inside.Slots.{slot_of}
use Rattle.chain_script.proofs.draw.collect_slots.Given as goal

abbrev pub invariant-slots : goal.invariant-slots
invariant-slots l = record {
  items : collected_slots l.seen.items (drop l.slot (map (slot_of l.pool) l.chains))
      ≡ collected_slots l.fn.seen.items (map (slot_of l.pool) l.chains);
}

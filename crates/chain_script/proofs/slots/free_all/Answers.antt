use Rattle.std.proofs.Common.{◌<◌, ◌≢◌, length, below_more, get_or-set_other, get_or-set_same, refl, arith}
use Rattle.chain_script.proofs.SlotLemmas.{none_left}
use Rattle.chain_script.proofs.slots.free_all.Goals as goal

pub slots-preserved : goal.slots-preserved
slots-preserved c = record {
  fits = c.free_slot.ensures.fits;
  empty = below_more _ _
      (λ k h. let ne : k ≢ c.slots.slot = omega arith in
      rw c.free_slot.ensures.after (rw get_or-set_other (c.slots.invariant.empty k h)))
      (let lt : c.slots.slot < length c.slots.chains = omega (arith, c.slots-test.true) in
      rw c.free_slot.ensures.after (rw get_or-set_same refl));
}

pub returns-clause-empty : goal.returns-clause-empty
returns-clause-empty c =
    none_left c.slots.chains (λ k lt. c.slots.invariant.empty k (omega (arith, lt, c.slots-test.false)))

use Rattle.std.proofs.Common.{None, ◌∙◌}
use Rattle.chain_script.proofs.SlotLemmas.{all_none}
use Rattle.chain_script.proofs.caller.empty_slots.Goals as goal

pub returns-clause-items : goal.returns-clause-items
returns-clause-items c =
    c.from_array_in.ensures.items
    ∙ all_none c.from_fn-slots.result 64 c.from_fn-slots.ensures.items.long
    (λ k lt. (c.from_fn-slots.ensures.items.at k None lt).2.met)

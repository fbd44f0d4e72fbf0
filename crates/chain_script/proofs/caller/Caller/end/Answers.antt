use Rattle.std.proofs.Common.{List, ℕ, length, ap, subst, ◌∙◌, arith}
use Rattle.arrayvec.proofs.ArrayVecLemmas.{items-with_items}
use Rattle.mbuf_chain.specs.Owners.{IsAll}
use Rattle.chain_script.specs.Inside.Slots.{slot_numbers}
use Rattle.chain_script.proofs.caller.Caller.end.Goals as goal

pub end_empty-requires : goal.end_empty-requires
end_empty-requires c =
    ap slot_numbers (items-with_items c.args.self.chains c.free_all.new.chains
    (omega (arith, c.free_all.ensures.len, ap length c.as_mut_slice.ensures.value)))
    ∙ c.free_all.ensures.empty

pub returns : goal.returns
returns c = subst (λ (xs : List ℕ). IsAll c.free_all.new.pool xs) c.free_all.ensures.empty c.free_all.ensures.fits

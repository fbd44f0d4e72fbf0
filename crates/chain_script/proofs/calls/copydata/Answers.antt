use Rattle.std.proofs.Common.{◌≡◌, Some, None, get_or, ◌∙◌, sym}
use Rattle.chain_script.proofs.SlotLemmas.{slot_is, live_slot}
use Rattle.chain_script.proofs.calls.copydata.Goals as goal
use Rattle.chain_script.proofs.calls.copydata.Goals.{In-Some}

held : (c : In-Some) → get_or c.args.chains.now c.args.slot None ≡ Some c.in-Some.chain
held c =
    slot_is c.args.chains.now c.args.slot c.index-chains-slot.result (Some c.in-Some.chain) c.requires.slot.within
    (sym c.index-chains-slot.is ∙ c.in-Some.is)

pub len-requires : goal.len-requires
len-requires c =
    live_slot c.args.pool.now c.args.chains.now c.args.slot c.in-Some.chain c.requires.slot.fits c.requires.slot.within
    (held (goal.at.len-requires c).In-Some)

pub m_copydata-requires-clause-live : goal.m_copydata-requires-clause-live
m_copydata-requires-clause-live c =
    live_slot c.args.pool.now c.args.chains.now c.args.slot c.in-Some.chain c.requires.slot.fits c.requires.slot.within
    (held (goal.at.m_copydata-requires-clause-live c).In-Some)

use Rattle.std.proofs.Common.{Some, ◌∙◌, sym}
use Rattle.std.proofs.lemmas.Result.{err_from_is_err_and}
use Rattle.chain_script.proofs.SlotLemmas.{slot_is, live_slot}
use Rattle.chain_script.proofs.draw.draw.Goals as goal

pub put_chain-requires : goal.put_chain-requires
put_chain-requires c =
    let is =
    slot_is c.args.chains.now c.args.slot c.index-chains-slot.result (Some c.in-Some.chain) c.if-slot-chains.true
    (sym c.index-chains-slot.is ∙ c.in-Some.is) in
    live_slot c.args.pool.now c.args.chains.now c.args.slot c.in-Some.chain c.requires c.if-slot-chains.true is

pub returns-in_err-collect_slots : goal.returns-in_err-collect_slots
returns-in_err-collect_slots c = rw (err_from_is_err_and c.from_residual.result c.from_residual.ensures.1).1 tt

pub returns-in_err-put_chain : goal.returns-in_err-put_chain
returns-in_err-put_chain c =
    rw (err_from_is_err_and c.from_residual-in_err-put_chain.result
    c.from_residual-in_err-put_chain.ensures.1).1 tt

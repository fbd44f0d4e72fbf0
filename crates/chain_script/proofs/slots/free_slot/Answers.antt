use Rattle.chain_script.proofs.Stores.{free_done}
use Rattle.chain_script.proofs.SlotLemmas.{live_slot}
use Rattle.chain_script.proofs.slots.free_slot.Goals as goal

pub free_chain-requires : goal.free_chain-requires
free_chain-requires c =
    live_slot c.args.pool.now c.args.chains.now c.args.slot c.take-chain.result c.requires.fits c.requires.within
    c.take-chain.ensures.value

pub returns-clause-fits : goal.returns-clause-fits
returns-clause-fits c =
    rw c.take-chain.ensures.after (free_done c.args.pool.now c.free_chain.new.self c.args.chains.now c.args.slot
    c.take-chain.result c.requires.fits c.requires.within c.take-chain.ensures.value c.free_chain.ensures).0

use Rattle.std.proofs.Common.{None}
use Rattle.std.proofs.lemmas.List.{length-set}
use Rattle.chain_script.proofs.Stores.{free_done}
use Rattle.chain_script.proofs.SlotLemmas.{live_slot}
use Rattle.chain_script.proofs.calls.free.Goals as goal

pub free_chain-requires : goal.free_chain-requires
free_chain-requires c =
    live_slot c.args.pool.now c.args.chains.now c.args.slot c.take-chain.result c.requires.fits c.requires.within
    c.take-chain.ensures.value

pub returns : goal.returns
returns c =
    let done =
    free_done c.args.pool.now c.free_chain.new.self c.args.chains.now c.args.slot c.take-chain.result c.requires.fits
    c.requires.within c.take-chain.ensures.value c.free_chain.ensures in
    rw c.take-chain.ensures.after (record {
      fits = done.0;
      len = length-set c.args.chains.now c.args.slot None;
      step = done.1;
    })

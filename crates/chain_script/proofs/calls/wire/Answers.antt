use Rattle.std.proofs.Common.{◌≡◌, Some, None, get_or, refl}
use Rattle.std.proofs.lemmas.List.{length-set}
use Rattle.mbuf_chain.proofs.Laws.Owners.{moves_adds}
use Rattle.chain_script.proofs.Stores.{wire_done, wire_lacks}
use Rattle.chain_script.proofs.SlotLemmas.{slot_is, made_fits}
use Rattle.chain_script.proofs.calls.wire.Goals as goal
use Rattle.chain_script.proofs.calls.wire.Goals.{In-None}

empty : (c : In-None) → get_or c.args.chains.now c.args.slot None ≡ None
empty c = slot_is c.args.chains.now c.args.slot _ None c.requires.slot.within c.in-None.is

pub returns-in-Ok : goal.returns-in-Ok
returns-in-Ok c =
    let free = empty (goal.at.returns-in-Ok c).In-None in
    let made = c.in-Ok.ensures.ok in
    rw c.put.ensures (record {
      fits =
          made_fits c.args.pool.now _ c.args.chains.now c.args.slot c.in-Ok.chain c.requires.slot.fits
          c.requires.slot.within free (moves_adds made.3.adds);
      len = length-set c.args.chains.now c.args.slot (Some c.in-Ok.chain);
      step =
          wire_done c.args.pool.now _ c.args.chains.now c.args.slot c.in-Ok.chain c.args.bytes.now made.0
          c.requires.slot.fits free c.in-Ok.ensures.enough made.1 made.2 made.3;
    })

pub returns-in-Err : goal.returns-in-Err
returns-in-Err c =
    rw c.in-Err.ensures.same (record {
      fits = c.requires.slot.fits;
      len = refl;
      step =
          wire_lacks c.args.pool.now c.args.chains.now c.args.slot c.args.bytes.now c.requires.slot.fits
          (empty (goal.at.returns-in-Err c).In-None) c.in-Err.ensures.err;
    })

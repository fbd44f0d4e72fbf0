use Rattle.std.proofs.Common.{◌≡◌, Some, None, get_or, ◌∙◌, sym}
use Rattle.chain_script.specs.Steps.{Wrong_chain}
use Rattle.chain_script.proofs.SlotLemmas.{slot_is, live_slot}
use Rattle.chain_script.proofs.Shown.{show_done, show_empty}
use Rattle.chain_script.proofs.show.show.Goals as goal
use Rattle.chain_script.proofs.show.show.Goals.{In-Some}

held : (c : In-Some) → get_or c.args.chains.now c.args.slot None ≡ Some c.in-Some.chain
held c =
    slot_is c.args.chains.now c.args.slot c.index-chains-slot.result (Some c.in-Some.chain) c.requires.slot.within
    (sym c.index-chains-slot.is ∙ c.in-Some.is)

pub put_layout-requires-clause-live : goal.put_layout-requires-clause-live
put_layout-requires-clause-live c =
    live_slot c.args.pool.now c.args.chains.now c.args.slot c.in-Some.chain c.requires.slot.fits c.requires.slot.within
    (held (goal.at.put_layout-requires-clause-live c).In-Some)

pub returns-in-Some : goal.returns-in-Some
returns-in-Some c = (
  _,
  show_done c.args.pool.now c.args.chains.now c.args.slot c.in-Some.chain c.requires.slot.fits
      (held (goal.at.returns-in-Some c).In-Some),
  c.put_layout.ensures,
)

pub returns-in-None : goal.returns-in-None
returns-in-None c =
    let is =
    slot_is c.args.chains.now c.args.slot c.index-chains-slot.result None c.requires.slot.within
    (sym c.index-chains-slot.is ∙ c.in-None.is) in
    (Wrong_chain, show_empty c.args.pool.now c.args.chains.now c.args.slot is, c.put_done.ensures)

use Rattle.std.proofs.Common.{Some, None, ◌∙◌, sym, arith}
use Rattle.std.proofs.lemmas.Result.{err_from_is_err_and}
use Rattle.chain_script.proofs.SlotLemmas.{slot_is, live_slot}
use Rattle.chain_script.proofs.Drawn.{collected_held, collected_none}
use Rattle.chain_script.proofs.draw.collect_slots.Goals as goal
use Rattle.chain_script.proofs.draw.collect_slots.Goals.{in-Some+in_ok-collect_chain, in_default}

pub collect_chain-requires : goal.collect_chain-requires
collect_chain-requires c =
    let is =
    slot_is c.args.chains.now c.slots.slot c.index-chains-slot.result (Some c.in-Some.chain) c.slots-test.true
    (sym c.index-chains-slot.is ∙ c.in-Some.is) in
    live_slot c.args.pool.now c.args.chains.now c.slots.slot c.in-Some.chain c.requires c.slots-test.true is

pub slots-preserved : goal.slots-preserved
slots-preserved c = elim c.match-chains-slot.branch [
  | in-Some+in_ok-collect_chain w ↦
      let is =
      slot_is c.args.chains.now c.slots.slot c.index-chains-slot.result (Some w.in-Some.chain) c.slots-test.true
      (sym c.index-chains-slot.is ∙ w.in-Some.is) in
      search (
        arith,
        collected_held c.args.pool.now c.slots.seen.items c.args.chains.now c.slots.slot w.in-Some.chain
            c.slots-test.true is,
        c.slots.invariant.items,
        w.seen-is,
        w.collect_chain.ensures,
      )
  | in_default w ↦
      let is =
      slot_is c.args.chains.now c.slots.slot c.index-chains-slot.result None c.slots-test.true
      (sym c.index-chains-slot.is ∙ w.in_default.is) in
      search (
        arith,
        collected_none c.args.pool.now c.slots.seen.items c.args.chains.now c.slots.slot c.slots-test.true is,
        c.slots.invariant.items,
        w.seen-is,
      )
]

pub returns-in_err-collect_chain : goal.returns-in_err-collect_chain
returns-in_err-collect_chain c = rw (err_from_is_err_and c.from_residual.result c.from_residual.ensures.1).1 tt

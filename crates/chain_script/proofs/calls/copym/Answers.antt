use Rattle.std.proofs.Common.{◌≡◌, Some, None, get_or, refl, sym, ◌∙◌}
use Rattle.std.proofs.lemmas.List.{length-set}
use Rattle.mbuf_chain.proofs.Laws.Owners.{moves_adds}
use Rattle.chain_script.proofs.Joined.{copy_done, copy_lacks}
use Rattle.chain_script.proofs.SlotLemmas.{slot_is, live_slot, made_fits}
use Rattle.chain_script.proofs.calls.copym.Goals as goal
use Rattle.chain_script.proofs.calls.copym.Goals.{In-Some, In-None}

held : (c : In-Some) → get_or c.args.chains.now c.args.slot None ≡ Some c.in-Some.chain
held c =
    slot_is c.args.chains.now c.args.slot _ (Some c.in-Some.chain) c.requires.within
    (sym c.index-chains-slot.is ∙ c.in-Some.is)

empty : (c : In-None) → get_or c.args.chains.now c.args.to None ≡ None
empty c = slot_is c.args.chains.now c.args.to _ None c.requires.other (sym c.index-chains-to.is ∙ c.in-None.is)

pub len-requires : goal.len-requires
len-requires c =
    live_slot c.args.pool.now c.args.chains.now c.args.slot c.in-Some.chain c.requires.fits c.requires.within
    (held (goal.at.len-requires c).In-Some)

pub m_copym-requires-clause-live : goal.m_copym-requires-clause-live
m_copym-requires-clause-live c =
    live_slot c.args.pool.now c.args.chains.now c.args.slot c.in-Some.chain c.requires.fits c.requires.within
    (held (goal.at.m_copym-requires-clause-live c).In-Some)

pub returns-in-Ok : goal.returns-in-Ok
returns-in-Ok c =
    let at = goal.at.returns-in-Ok c in
    rw c.put.ensures (record {
      fits =
          made_fits c.args.pool.now _ c.args.chains.now c.args.to c.in-Ok.copy c.requires.fits c.requires.other
          (empty at.In-None) (moves_adds c.in-Ok.ensures.ok.adds);
      len = length-set c.args.chains.now c.args.to (Some c.in-Ok.copy);
      step =
          copy_done c.args.pool.now _ c.args.chains.now c.args.to c.args.slot c.in-Some.chain c.in-Ok.copy c.args.extent
          c.requires.fits (held at.In-Some) (empty at.In-None) (sym (rw c.len.ensures at c.if-not-is_part.ensures))
          c.in-Ok.ensures.enough c.in-Ok.ensures.ok;
    })

pub returns-in-Err : goal.returns-in-Err
returns-in-Err c =
    let at = goal.at.returns-in-Err c in
    rw c.in-Err.ensures.same (record {
      fits = c.requires.fits;
      len = refl;
      step =
          copy_lacks c.args.pool.now c.args.chains.now c.args.to c.args.slot c.in-Some.chain c.args.extent
          c.requires.fits (held at.In-Some) (empty at.In-None) (sym (rw c.len.ensures at c.if-not-is_part.ensures))
          c.in-Err.ensures.err;
    })

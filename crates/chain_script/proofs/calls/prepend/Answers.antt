use Rattle.std.proofs.Common.{◌≡◌, true, Some, None, get_or, refl}
use Rattle.std.proofs.lemmas.List.{length-set}
use Rattle.chain_script.specs.Lines.{Prepend}
use Rattle.chain_script.specs.Machines.{is_in_range}
use Rattle.chain_script.specs.Inside.Slots.{machine_of}
use Rattle.chain_script.proofs.Stores.{prepend_done, prepend_lacks, prepend_range, moves_changed}
use Rattle.chain_script.proofs.SlotLemmas.{slot_is, live_slot, same_slot, changed_fits}
use Rattle.chain_script.proofs.calls.prepend.Goals as goal
use Rattle.chain_script.proofs.calls.prepend.Goals.{In-Some, After-m_prepend}

held : (c : In-Some) → get_or c.args.chains.now c.args.slot None ≡ Some c.in-Some.chain
held c = slot_is c.args.chains.now c.args.slot _ (Some c.in-Some.chain) c.requires.within c.in-Some.is

range : (c : After-m_prepend) → get_or c.args.chains.now c.args.slot None ≡ Some c.in-Some.chain
    → is_in_range (machine_of c.args.pool.now c.args.chains.now) (Prepend c.args.slot c.args.bytes.now) ≡ true
range c is =
    prepend_range c.args.pool.now c.args.chains.now c.args.slot c.in-Some.chain c.args.bytes.now true is
    (rw c.len.ensures at c.if-not-may_prepend.ensures)

pub len-requires : goal.len-requires
len-requires c =
    live_slot c.args.pool.now c.args.chains.now c.args.slot c.in-Some.chain c.requires.fits c.requires.within
    (held (goal.at.len-requires c).In-Some)

pub m_prepend-requires-clause-live : goal.m_prepend-requires-clause-live
m_prepend-requires-clause-live c =
    live_slot c.args.pool.now c.args.chains.now c.args.slot c.in-Some.chain c.requires.fits c.requires.within
    (held (goal.at.m_prepend-requires-clause-live c).In-Some)

pub returns-in-Ok : goal.returns-in-Ok
returns-in-Ok c =
    let at = goal.at.returns-in-Ok c in
    let is = held at.In-Some in
    let live =
    live_slot c.args.pool.now c.args.chains.now c.args.slot c.in-Some.chain c.requires.fits c.requires.within is in
    record {
      fits =
          changed_fits c.args.pool.now c.m_prepend.new.pool c.args.chains.now c.args.slot c.in-Some.chain
          c.m_prepend.new.chain c.requires.fits c.requires.within is
          (moves_changed c.args.pool.now c.m_prepend.new.pool c.in-Some.chain c.m_prepend.new.chain _ _ live
          c.in-Ok.ensures.ok);
      len = length-set c.args.chains.now c.args.slot (Some c.m_prepend.new.chain);
      step =
          prepend_done c.args.pool.now c.m_prepend.new.pool c.args.chains.now c.args.slot c.in-Some.chain
          c.m_prepend.new.chain c.args.bytes.now c.requires.fits c.requires.within is (range at.After-m_prepend is)
          c.in-Ok.ensures.enough c.in-Ok.ensures.ok;
    }

pub returns-in-Err : goal.returns-in-Err
returns-in-Err c =
    let at = goal.at.returns-in-Err c in
    let is = held at.In-Some in
    rw (c.in-Err.ensures.same.0, c.in-Err.ensures.same.1, same_slot c.args.chains.now c.args.slot c.in-Some.chain is)
    (record {
      fits = c.requires.fits;
      len = refl;
      step =
          prepend_lacks c.args.pool.now c.args.chains.now c.args.slot c.in-Some.chain c.args.bytes.now c.requires.fits
          is (range at.After-m_prepend is) c.in-Err.ensures.err;
    })

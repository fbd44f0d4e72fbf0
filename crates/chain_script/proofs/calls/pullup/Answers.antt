use Rattle.std.proofs.Common.{◌≡◌, Some, None, get_or, refl, subst}
use Rattle.std.proofs.lemmas.List.{length-set}
use Rattle.mbuf_chain.specs.Chain.{chain_of}
use Rattle.chain_ops.specs.declared.pullup.Refusal.{Refusal}
use Rattle.chain_ops.specs.Pulls.{IsPullRefused}
use Rattle.chain_script.proofs.Joined.{pull_done, pull_lacks}
use Rattle.chain_script.proofs.SlotLemmas.{slot_is, live_slot, same_slot, changed_fits}
use Rattle.chain_script.proofs.Stores.{moves_changed}
use Rattle.chain_script.proofs.calls.pullup.Goals as goal
use Rattle.chain_script.proofs.calls.pullup.Goals.{In-Some}

held : (c : In-Some) → get_or c.args.chains.now c.args.slot None ≡ Some c.in-Some.chain
held c = slot_is c.args.chains.now c.args.slot _ (Some c.in-Some.chain) c.requires.within c.in-Some.is

pub m_pullup-requires : goal.m_pullup-requires
m_pullup-requires c =
    live_slot c.args.pool.now c.args.chains.now c.args.slot c.in-Some.chain c.requires.fits c.requires.within
    (held (goal.at.m_pullup-requires c).In-Some)

pub returns-in-Ok : goal.returns-in-Ok
returns-in-Ok c =
    let is = held (goal.at.returns-in-Ok c).In-Some in
    let live =
    live_slot c.args.pool.now c.args.chains.now c.args.slot c.in-Some.chain c.requires.fits c.requires.within is in
    record {
      fits =
          changed_fits c.args.pool.now c.m_pullup.new.pool c.args.chains.now c.args.slot c.in-Some.chain
          c.m_pullup.new.chain c.requires.fits c.requires.within is
          (moves_changed c.args.pool.now c.m_pullup.new.pool c.in-Some.chain c.m_pullup.new.chain _ _ live
          c.in-Ok.ensures.ok);
      len = length-set c.args.chains.now c.args.slot (Some c.m_pullup.new.chain);
      step =
          pull_done c.args.pool.now c.m_pullup.new.pool c.args.chains.now c.args.slot c.in-Some.chain
          c.m_pullup.new.chain c.args.n c.requires.fits c.requires.within is c.in-Ok.ensures.fits.0
          c.in-Ok.ensures.fits.1 c.in-Ok.ensures.enough c.in-Ok.ensures.ok;
    }

pub returns-in-Err-NoBufs : goal.returns-in-Err-NoBufs
returns-in-Err-NoBufs c =
    let is = held (goal.at.returns-in-Err-NoBufs c).In-Some in
    let err =
    subst (λ (r : Refusal). IsPullRefused c.args.pool.now (chain_of c.args.pool.now c.in-Some.chain) c.args.n r)
    c.in-Err-NoBufs.field-0-is c.in-Err-NoBufs.ensures.err in
    rw (
      c.in-Err-NoBufs.ensures.same.0,
      c.in-Err-NoBufs.ensures.same.1,
      same_slot c.args.chains.now c.args.slot c.in-Some.chain is,
    )
    (record {
      fits = c.requires.fits;
      len = refl;
      step =
          pull_lacks c.args.pool.now c.args.chains.now c.args.slot c.in-Some.chain c.args.n c.requires.fits is err.0
          err.1 err.2;
    })

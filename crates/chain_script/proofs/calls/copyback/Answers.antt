use Rattle.std.proofs.Common.{◌≡◌, ◌≤◌, ◌+◌, length, sym, Some, None, get_or, refl, arith}
use Rattle.chain_script.proofs.Joined.{write_done, write_lacks, write_shared}
use Rattle.chain_script.proofs.SlotLemmas.{slot_is, live_slot}
use Rattle.chain_script.proofs.calls.copyback.Goals as goal
use Rattle.chain_script.proofs.calls.copyback.Goals.{In-Some}

held : (c : In-Some) → get_or c.args.chains.now c.args.slot None ≡ Some c.in-Some.chain
held c = slot_is c.args.chains.now c.args.slot _ (Some c.in-Some.chain) c.requires.slot.within c.in-Some.is

pub is_writable-requires : goal.is_writable-requires
is_writable-requires c =
    live_slot c.args.pool.now c.args.chains.now c.args.slot c.in-Some.chain c.requires.slot.fits c.requires.slot.within
    (held (goal.at.is_writable-requires c).In-Some)

pub m_copyback-requires-clause-live : goal.m_copyback-requires-clause-live
m_copyback-requires-clause-live c =
    live_slot c.args.pool.now c.args.chains.now c.args.slot c.in-Some.chain c.requires.slot.fits c.requires.slot.within
    (held (goal.at.m_copyback-requires-clause-live c).In-Some)

pub returns-then-not-is_writable : goal.returns-then-not-is_writable
returns-then-not-is_writable c =
    let inside : c.args.off + length c.args.bytes.now ≤ 65535 = omega arith in record {
      fits = c.requires.slot.fits;
      len = refl;
      step =
          write_shared c.args.pool.now c.args.chains.now c.args.slot c.in-Some.chain c.args.off c.args.bytes.now
          c.requires.slot.fits (held (goal.at.returns-then-not-is_writable c).In-Some) inside
          (sym c.if-not-is_writable.ensures);
    }

pub returns-in-Ok : goal.returns-in-Ok
returns-in-Ok c =
    let inside : c.args.off + length c.args.bytes.now ≤ 65535 = omega arith in
    let done =
    write_done c.args.pool.now c.m_copyback.new.pool c.args.chains.now c.args.slot c.in-Some.chain c.args.off
    c.args.bytes.now c.requires.slot.fits c.requires.slot.within (held (goal.at.returns-in-Ok c).In-Some) inside
    (sym c.if-not-is_writable.ensures) c.in-Ok.ensures.enough c.in-Ok.ensures.ok in
    record { fits = done.0; len = refl; step = done.1 }

pub returns-in-Err : goal.returns-in-Err
returns-in-Err c =
    let inside : c.args.off + length c.args.bytes.now ≤ 65535 = omega arith in
    rw c.in-Err.ensures.same (record {
      fits = c.requires.slot.fits;
      len = refl;
      step =
          write_lacks c.args.pool.now c.args.chains.now c.args.slot c.in-Some.chain c.args.off c.args.bytes.now
          c.requires.slot.fits (held (goal.at.returns-in-Err c).In-Some) inside (sym c.if-not-is_writable.ensures)
          c.in-Err.ensures.err;
    })

use Rattle.std.proofs.Common.{◌≡◌, ◌<◌, ◌≤◌, false, List, length, sym, ap, ◌∙◌, arith}
use Rattle.std.specs.Prelude.{is_some}
use Rattle.ether_host.specs.Buffers.{is_resolvable_in}
use Rattle.ether_host.specs.declared.buffer.PacketBuffer.{PacketBuffer}
use Rattle.ether_host.proofs.Tables.{kept_all, kept_from, kept_off}
use Rattle.ether_host.proofs.tick.keep.Goals as goal

pub walk-preserved : goal.walk-preserved
walk-preserved c =
    let ps : List PacketBuffer = c.walk.held.items in
    let here : c.walk.at < length ps = omega (arith, c.walk.held.ok.0, c.len.ensures, c.walk-test.true) in
    let hopeless : is_resolvable_in c.args.neighbours.now c.index.result.now ≡ false =
    ap is_some (sym c.place_of.ensures) ∙ sym c.is_some.ensures ∙ c.if-is_some.false in
    record {
      kept =
          c.walk.invariant.kept ∙ kept_off c.args.neighbours.now ps c.walk.at c.index.result.now here c.index.ensures
          hopeless
          ∙ ap (λ (xs : List PacketBuffer). kept_from c.args.neighbours.now xs c.walk.at) (sym c.drop_at.ensures.items);
      within = omega (arith, here, c.drop_at.ensures.len, c.walk.held.ok.0, c.drop_at.new.held.ok.0);
      room = c.drop_at.ensures.capacity ∙ c.walk.invariant.room;
    }

pub returns-clause-kept : goal.returns-clause-kept
returns-clause-kept c =
    let all : length c.walk.held.items ≤ c.walk.at =
    omega (arith, c.walk.held.ok.0, c.len.ensures, c.walk-test.false) in
    sym (c.walk.invariant.kept ∙ kept_all c.args.neighbours.now c.walk.held.items c.walk.at all)

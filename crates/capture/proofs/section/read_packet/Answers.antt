use Rattle.std.proofs.Common.{length, Result, Ok, ap, refl, subst, arith}
use Rattle.capture.specs.Packets.{known}
use Rattle.capture.specs.Steps.{BlockReads, StepInside}
use Rattle.capture.specs.declared.fault.FaultAt.{FaultAt}
use Rattle.capture.specs.declared.section.Step.{Step}
use Rattle.capture.proofs.Sections.{none_is_left, packet_read, passed_next, passed_none, refused_then}
use Rattle.capture.proofs.section.read_packet.Goals as goal
use Rattle.capture.proofs.section.read_packet.Goals.{After-read_block}

-- the block was read with this result
abbrev Reads : (g : _) (c : After-read_block g) → Result Step FaultAt → Type 0
Reads g c =
    BlockReads (known c.loop-round.blocks) (g.S.Read.remaining c.loop-round.feed.source) c.loop-round.feed.buffer
    (known c.read_block.new.blocks) (g.S.Read.remaining c.read_block.new.feed.source) c.read_block.new.feed.buffer

pub loop-round-init : goal.loop-round-init
loop-round-init g c = record {
  held = c.requires;
  at_is = refl;
  passed = passed_none (known c.args.blocks.now) c.args.offset.now _ c.args.feed.now.buffer (omega arith);
}

pub returns-in-Ok-Ended-clause-reads : goal.returns-in-Ok-Ended-clause-reads
returns-in-Ok-Ended-clause-reads g c =
    let at = (goal.at.returns-in-Ok-Ended-clause-reads g c).After-read_block in
    none_is_left (known c.args.blocks.now) c.args.offset.now _ c.args.feed.now.buffer (known c.loop-round.blocks) _
    c.loop-round.offset _ _ c.loop-round.feed.buffer _ c.loop-round.invariant.passed
    (subst (λ (s : Step). Reads g at (Ok s)) c.in-Ok-Ended.field-0-is c.in-Ok-Ended.ensures.reads)

pub returns-in-Ok-Packet-clause-reads : goal.returns-in-Ok-Packet-clause-reads
returns-in-Ok-Packet-clause-reads g c =
    let at = (goal.at.returns-in-Ok-Packet-clause-reads g c).After-read_block in
    packet_read (known c.args.blocks.now) c.args.offset.now _ c.args.feed.now.buffer (known c.loop-round.blocks) _
    c.loop-round.offset _ _ c.loop-round.feed.buffer _ c.in-Ok-Packet.found c.loop-round.invariant.passed
    (subst (λ (s : Step). Reads g at (Ok s)) c.in-Ok-Packet.field-0-is c.in-Ok-Packet.ensures.reads)

pub returns-in-Ok-Packet-clause-inside : goal.returns-in-Ok-Packet-clause-inside
returns-in-Ok-Packet-clause-inside g c =
    subst (λ (s : Step). StepInside (length c.read_block.new.feed.buffer) (Ok s)) c.in-Ok-Packet.field-0-is
    c.in-Ok-Packet.ensures.inside

pub returns-in-Err-clause-reads : goal.returns-in-Err-clause-reads
returns-in-Err-clause-reads g c =
    refused_then (known c.args.blocks.now) c.args.offset.now _ c.args.feed.now.buffer (known c.loop-round.blocks)
    (known c.read_block.new.blocks) c.loop-round.offset _ _ c.loop-round.feed.buffer c.read_block.new.feed.buffer
    c.in-Err.error c.loop-round.invariant.passed c.in-Err.ensures.reads

pub loop-round-preserved : goal.loop-round-preserved
loop-round-preserved g c =
    let at = (goal.at.loop-round-preserved g c).After-read_block in
    let none = ap length c.clear.ensures in record {
      held = omega (arith, none);
      at_is = refl;
      passed =
          passed_next (known c.args.blocks.now) c.args.offset.now _ c.args.feed.now.buffer (known c.loop-round.blocks)
          _ c.loop-round.offset _ _ _ c.loop-round.feed.buffer _ _ c.loop-round.invariant.passed
          (subst (λ (s : Step). Reads g at (Ok s)) c.in-Ok-Passed.field-0-is c.in-Ok-Passed.ensures.reads)
          (omega arith) c.clear.ensures;
    }

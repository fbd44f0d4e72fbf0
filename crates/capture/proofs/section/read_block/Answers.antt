use Rattle.std.proofs.Common.{ℕ, List, length, Option, Some, Ok, subst}
use Rattle.capture.specs.Packets.{IsInside, Takes, known}
use Rattle.capture.specs.declared.blocks.Found.{Found}
use Rattle.capture.proofs.Sections.{block_read, block_refused}
use Rattle.capture.proofs.section.read_block.Goals as goal

pub returns-in-Ok-Some-clause-reads : goal.returns-in-Ok-Some-clause-reads
returns-in-Ok-Some-clause-reads g c =
    let k = known c.args.blocks.now in
    let new = known c.take.new.self in
    let bytes = c.as_slice.result.now in
    let takes = subst (λ (f : Option Found). Takes k bytes (Ok f) new) c.in-Ok-Some.field-0-is
    c.in-Ok-Some.ensures.takes in
    let loaded = c.in_default.ensures in
    block_read k new _ _ c.args.feed.now.buffer c.load_block.new.feed.buffer bytes (Some c.in-Ok-Some.found)
    c.as_slice.ensures loaded.0 loaded.1 takes

pub returns-in-Ok-Some-clause-inside : goal.returns-in-Ok-Some-clause-inside
returns-in-Ok-Some-clause-inside g c =
    let inside = subst (IsInside (length c.as_slice.result.now)) c.in-Ok-Some.field-0-is c.in-Ok-Some.ensures.inside in
    subst (λ (xs : List ℕ). IsInside (length xs) (Some c.in-Ok-Some.found)) c.as_slice.ensures inside

pub returns-in-Err-take-clause-reads : goal.returns-in-Err-take-clause-reads
returns-in-Err-take-clause-reads g c =
    let loaded = c.in_default.ensures in
    block_refused (known c.args.blocks.now) (known c.take.new.self) _ _ c.args.feed.now.buffer
    c.load_block.new.feed.buffer
    c.as_slice.result.now c.in-Err-take.error c.as_slice.ensures loaded.0 loaded.1 c.in-Err-take.ensures.takes

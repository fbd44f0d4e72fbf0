use Rattle.std.proofs.Common.{ℕ, List, length, Option, Some, Ok, ap, sym, subst, ◌∙◌}
use Rattle.capture.specs.SeenBlocks.{part}
use Rattle.capture.specs.Packets.{IsInside, BlockGives, known}
use Rattle.capture.specs.declared.blocks.Found.{Found}
use Rattle.capture.proofs.Placed.{placed}
use Rattle.capture.proofs.blocks.Blocks.take.Goals as goal

pub returns-in-Ok-Some-clause-takes : goal.returns-in-Ok-Some-clause-takes
returns-in-Ok-Some-clause-takes c =
    let block = part c.in_ok-block.block in
    let first = c.in_ok-block.ensures in
    let found = c.in-Ok-Some.found in
    let new = known c.take_block.new.self in
    let inside = subst (IsInside (length block.body)) c.in-Ok-Some.field-0-is c.in-Ok-Some.ensures.inside in
    let says = subst (λ (f : Option Found). BlockGives (known c.args.self.now) block (Ok f) new) c.in-Ok-Some.field-0-is
    c.in-Ok-Some.ensures.says in
    let at = placed block c.args.bytes.now c.in_ok-block._rest.now found.from found.len first.spelled inside in (
      block,
      record { next = first.found; head = first.headed; rest = c.in_ok-block._rest.now; spelled = first.spelled },
      says ∙ ap (λ (xs : List ℕ).
          Ok (
            new,
            Some (record {
              time = found.time;
              original = found.original_len;
              link_number = found.link_number;
              link = found.link;
              bytes = xs;
            }),
          ))
          (sym at),
    )

use Rattle.std.proofs.Common.{◌+◌, ap, ◌∙◌, arith}
use Rattle.flat_model.specs.Packets.Checksum.{fold16}
use Rattle.in_cksum.specs.Inside.{swapped_sum}
use Rattle.in_cksum.proofs.Numbers.{replaced}
use Rattle.in_cksum.proofs.lanes.sum_part.Goals as goal

pub returns-clause-folded : goal.returns-clause-folded
returns-clause-folded c =
    replaced c.from.result c.sum_numbers-2.result
    (c.sum_turns-turns.result.sum + swapped_sum c.sum_turns-turns.result.rest.now) c.sum_numbers-2.ensures.folded
    ∙ ap fold16 (omega (arith, c.from.ensures)) ∙ c.sum_turns-turns.ensures.folded

use Rattle.chain_ops.proofs.Laws.Steps.{plain_segment}
use Rattle.chain_ops.proofs.step.new_copy.Goals as goal

pub copy_plain-requires-clause-plain : goal.copy_plain-requires-clause-plain
copy_plain-requires-clause-plain c =
    plain_segment _ _ _ _ _ c.segment-segment.ensures.value c.is_some.ensures c.if-is_some.false

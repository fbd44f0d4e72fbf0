use Rattle.in_cksum.specs.Inside.{swapped_sum}
use Rattle.in_cksum.proofs.Rests.{counts_alone}
use Rattle.in_cksum.proofs.Words.{swap-swapped_sum}
use Rattle.in_cksum.proofs.sum_head.Goals as goal

pub returns : goal.returns
returns c =
    rw (
      c.swap_bytes.ensures,
      c.fold.ensures,
      counts_alone c.sum_rest.result (swapped_sum c.args.bytes.now) c.sum_rest.ensures.counts,
    ) (swap-swapped_sum
    c.args.bytes.now)

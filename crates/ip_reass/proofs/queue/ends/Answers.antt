use Rattle.std.proofs.Common.{◌+◌, ◌≡◌, length, ap, arith}
use Rattle.mbuf_chain.specs.Chain.{flat_bytes}
use Rattle.ip_reass.specs.Fragments.{QueuedFragment, queued, queued_end}
use Rattle.ip_reass.specs.Inside.Walks.{queued_at}
use Rattle.ip_reass.proofs.Steps.{queued_is, length-queued, end_at, within_of}
use Rattle.ip_reass.proofs.queue.ends.Goals as goal

ended : (c : goal.After-len_at)
    → c.begins.result + c.len_at.result
    ≡ queued_end (queued_at (queued c.args.pool.now c.args.train.now) c.args.at.index)
ended c =
    let at = queued_is c.args.pool.now c.args.train.now c.args.at.index c.requires.held c.requires.place.within in
    omega (arith, c.begins.ensures, c.len_at.ensures, ap (λ (q : QueuedFragment). length (flat_bytes q.entries)) at)

pub overflow_add-result : goal.overflow_add-result
overflow_add-result c =
    omega (
      arith,
      ended c,
      end_at 65515 (queued c.args.pool.now c.args.train.now) c.args.at.index
          (within_of 65515 c.args.pool.now c.args.train.now c.requires.small)
          (omega (arith, length-queued c.args.pool.now c.args.train.now c.requires.held)),
    )

pub returns : goal.returns
returns c = ended c

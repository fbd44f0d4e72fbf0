use Rattle.std.proofs.Common.{length}
use Rattle.flat_plain.proofs.queues.+bytes_queued.Given as goal

abbrev pub decreases-bytes_queued : goal.decreases-bytes_queued
decreases-bytes_queued l = length l.queue.now

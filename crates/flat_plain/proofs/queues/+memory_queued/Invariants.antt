use Rattle.std.proofs.Common.{length}
use Rattle.flat_plain.proofs.queues.+memory_queued.Given as goal

abbrev pub decreases-memory_queued : goal.decreases-memory_queued
decreases-memory_queued l = length l.queue.now

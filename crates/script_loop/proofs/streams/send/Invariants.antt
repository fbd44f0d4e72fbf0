use Rattle.std.proofs.Common.{◌≡◌, ℕ, List, ◌++◌, length}
use Rattle.std.specs.Io.KnownBytes.{Appends}
use Rattle.script_loop.specs.Streams.{MoreBy}
use Rattle.script_loop.proofs.streams.send.Given as goal

abbrev pub invariant-loop-rest : goal.invariant-loop-rest
invariant-loop-rest g l = record {
  sent : (written : List ℕ) × (l.bytes ≡ written ++ l.rest)
      × Appends (g.W.Write.contents l.fn.writer) (g.W.Write.contents l.writer) written;
  counted : MoreBy 0 (g.W.Sink.failures l.fn.writer) (g.W.Sink.failures l.writer);
}

abbrev pub decreases-loop-rest : goal.decreases-loop-rest
decreases-loop-rest g l = length l.rest

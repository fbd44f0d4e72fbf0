use Rattle.std.proofs.Common.{◌≡◌, ℕ, List, []}
use Rattle.script_loop.specs.Inside.{Answered, FitsLimits, budget}
use Rattle.script_loop.specs.Serves.{ReadsAndWrites}
use Rattle.script_loop.specs.Streams.{MoreBy}
use Rattle.script_loop.proofs.serve.serve_within.Given as goal

abbrev pub invariant-chunks : goal.invariant-chunks
invariant-chunks g l = record {
  empty : l.text ≡ [];
  within : FitsLimits l.count l.line;
  read : MoreBy 0 (g.R.Source.failures l.fn.reader) (g.R.Source.failures l.reader);
  wrote : MoreBy 0 (g.W.Sink.failures l.fn.writer) (g.W.Sink.failures l.writer);
  served : (seen : List ℕ) × (written : List ℕ)
      × ReadsAndWrites (g.R.Read.remaining l.fn.reader) (g.R.Read.remaining l.reader) seen
      (g.W.Write.contents l.fn.writer) (g.W.Write.contents l.writer) written
      × Answered g.A.Answers.may_answer (g.A.Answers.state l.fn.machine) (g.A.Answers.state l.machine) seen l.line
      l.count written;
}

abbrev pub decreases-chunks : goal.decreases-chunks
decreases-chunks g l = budget l.count l.line

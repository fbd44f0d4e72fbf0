use Rattle.std.proofs.Common.{◌≡◌, ℕ, ◌≤◌, ◌+◌, List, ◌++◌, length}
use Rattle.std.specs.Io.KnownBytes.{Appends}
use Rattle.script_loop.specs.Streams.{MoreBy}
use Rattle.script_loop.specs.Inside.{Answered, FitsLimits, budget}
use Rattle.script_loop.proofs.serve.take_chunk.Given as goal

abbrev pub invariant-loop-at : goal.invariant-loop-at
invariant-loop-at g l = record {
  room : length l.text ≤ 65536;
  within : FitsLimits l.now l.line;
  fewer : budget l.now l.line + length l.chunk ≤ budget l.fn.count l.fn.line + length l.rest;
  counted : MoreBy 0 (g.W.Sink.failures l.fn.writer) (g.W.Sink.failures l.writer);
  taken : (front : List ℕ) × (l.chunk ≡ front ++ l.rest)
      × ((begin : g.A.Answers.State) (seen written : List ℕ)
      → Answered g.A.Answers.may_answer begin (g.A.Answers.state l.fn.machine) seen l.fn.line l.fn.count written
      → (more : List ℕ) × Appends (g.W.Write.contents l.fn.writer) (g.W.Write.contents l.writer) more
      × Answered g.A.Answers.may_answer begin (g.A.Answers.state l.machine) (seen ++ front) l.line l.now
      ((written ++ more) ++ l.text));
}

abbrev pub decreases-loop-at : goal.decreases-loop-at
decreases-loop-at g l = length l.rest

use Rattle.std.proofs.lemmas.Bool.{false≢true}
use Rattle.script_loop.proofs.WordLemmas.{words-some}
use Rattle.script_loop.proofs.words.is_end.Goals as goal

pub returns-in-Some : goal.returns-in-Some
returns-in-Some c = rw c.in-Some.is (λ no. absurd (false≢true no), λ e. absurd (words-some c.in-Some.field-0.now e))

-- Words that request no task, and words that could be read.
use Rattle.std.proofs.Common.{◌≡◌, ℕ, List, Option, Result, Ok, Err, sym, inl, subst}
use Rattle.std.specs.Prelude.{MatchResult}
use Rattle.flat_model.specs.declared.config.Config.{Config}
use Rattle.script_loop.proofs.Laws.{Moves-none}
use Rattle.link_script.specs.Options.{IsCommand, IsAskedBy}
use Rattle.link_script.specs.Program.{IsWordsFault, Ran}
use Rattle.link_script.specs.declared.command_line.Failure.{Failure}
use Rattle.link_script.specs.declared.options.Task.{Task}
use Rattle.link_script.specs.declared.command_line.Failure.TheVariants.{Usage, Run}

-- nothing was read or written
pub Ran-none : (asks : Task → Type 0) (a w : Option (List ℕ)) (failure : Failure) → IsWordsFault asks failure
    → Ran asks a a w w (Err failure)
Ran-none asks a w Usage h = (h, Moves-none a w)
Ran-none asks a w (Run fault) h = inl (h, Moves-none a w)

-- the result for words that could be read
pub Asked-words : {W E : Type 0} (texts : W → List (List ℕ)) (d : Config) (w : Result W E) (all : W)
    (bytes : List (List ℕ)) (r : Result Task Failure)
    → w ≡ Ok all → texts all ≡ bytes → MatchResult r (IsCommand d bytes) (IsWordsFault (IsCommand d bytes))
    → MatchResult r (IsAskedBy texts d w) (IsWordsFault (IsAskedBy texts d w))
Asked-words {W} {E} texts d w all bytes r is same h =
    subst (λ (x : Result W E). MatchResult r (IsAskedBy texts d x) (IsWordsFault (IsAskedBy texts d x))) (sym is)
    (subst (λ (b : List (List ℕ)). MatchResult r (IsCommand d b) (IsWordsFault (IsCommand d b))) (sym same) h)

-- Runs: one more event, and the lines of a script.
use Rattle.std.proofs.Common.{ℕ, Bool, List, [], ◌∷◌, ◌++◌, Option, Some, None, refl, subst}
use Rattle.flat_model.specs.Machine.Event.{Event, Reply, IsEvent}
use Rattle.flat_model.specs.Machine.State.{State}
use Rattle.flat_model.specs.Machine.Ledger.{Ledger}
use Rattle.flat_model.specs.Machine.Step.{StepBy}
use Rattle.flat_model.specs.Runs.Run.{Turn, Leads}
use Rattle.flat_model.specs.Scripts.Script.{AnswersAll, Prints, AreTurns, IsPrintOfRun}
use Rattle.flat_model.proofs.Runs.Ranges.{in_range}

pub one_more_turn : (L : Ledger) (old mid new : State) (turns : List Turn) (turn : Turn)
    → Leads L old turns mid → IsEvent turn.event → StepBy L mid turn.event turn.reply new
    → Leads L old (turns ++ turn ∷ []) new
one_more_turn L old mid new [] turn run is step =
    (is, new, subst (λ s. StepBy L s turn.event turn.reply new) run step, refl)
one_more_turn L old mid new (first ∷ turns) turn (range, next, taken, later) is step =
    (range, next, taken, one_more_turn L next mid new turns turn later is step)

-- the turns of lines with these replies
record Replied (L : Ledger) (serves : Event → Bool) (old : State) (lines : List (List ℕ))
    (answers : List (Option Reply))
    (new : State) : Type 0 where
  turns : List Turn
  are : AreTurns serves lines answers turns
  leads : Leads L old turns new

replied : (L : Ledger) (serves : Event → Bool) (old new : State) (lines : List (List ℕ)) (answers : List (Option Reply))
    → AnswersAll serves (StepBy L) old lines answers new → Replied L serves old lines answers new
replied L serves old new [] [] same = record { turns = []; are = refl; leads = same }
replied L serves old new [] (answer ∷ answers) h = absurd h
replied L serves old new (line ∷ lines) [] h = absurd h
replied L serves old new (line ∷ lines) (Some reply ∷ answers) (mid, (event, asks, step), later) =
    let rest = replied L serves mid new lines answers later in
    record {
      turns = record { event = event; reply = reply } ∷ rest.turns;
      are = (asks, refl, rest.are);
      leads = (in_range line event asks.form, mid, step, rest.leads);
    }
replied L serves old new (line ∷ lines) (None ∷ answers) (mid, (nothing, same), later) =
    let rest =
    replied L serves old new lines answers (subst (λ s. AnswersAll serves (StepBy L) s lines answers new) same later) in
    record { turns = rest.turns; are = (nothing, rest.are); leads = rest.leads }

-- what is printed for lines is the output of a run
pub print_of_run : (L : Ledger) (serves : Event → Bool) (old new : State) (lines : List (List ℕ)) (printed : List ℕ)
    → Prints serves (StepBy L) old lines printed new → IsPrintOfRun L serves old lines printed new
print_of_run L serves old new lines printed (answers, answered, text) =
    let t = replied L serves old new lines answers answered in
    record { answers = answers; turns = t.turns; are = t.are; leads = t.leads; text = text }

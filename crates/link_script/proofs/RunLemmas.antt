-- The output of a machine, by its replies.
use Rattle.std.proofs.Common.{ℕ, List, [], ◌∷◌, ◌++◌, ap, ◌∙◌}
use Rattle.flat_model.specs.Machine.Event.{Event, Reply}
use Rattle.flat_model.specs.Machine.State.{State, boot}
use Rattle.flat_model.specs.Machine.Step.{Step}
use Rattle.flat_model.specs.Machine.Ledger.{exact_ledger}
use Rattle.flat_model.specs.Scripts.Texts.{answer_text}
use Rattle.flat_model.specs.declared.config.Config.{Config}
use Rattle.flat_model.specs.Scripts.Script as script
use Rattle.flat_model.specs.Scripts.Script.{PrintsRun, all_events}
use Rattle.flat_model.proofs.Laws.{print_of_run}
use Rattle.script_loop.specs.Printed.{Prints}
use Rattle.link_script.specs.Says.{SaysBy}

-- the output of a machine by its replies is its output by steps
pub Prints-answers : (step : State → Event → Reply → State → Type 0) (old new : State) (lines : List (List ℕ))
    (printed : List ℕ)
    → Prints (SaysBy step) old lines printed new → script.Prints all_events step old lines printed new
Prints-answers step old new [] printed h = ([], h.0, h.1)
Prints-answers step old new (line ∷ lines) printed h =
    let rest = Prints-answers step h.0 new lines h.2 h.4 in (
      h.3.0 ∷ rest.0,
      (h.0, h.3.1, rest.1),
      h.5 ∙ ap (λ (t : List ℕ). t ++ h.2) h.3.2
          ∙ ap (λ (t : List ℕ). answer_text h.3.0 ++ t) rest.2,
    )

-- and from boot it's the output of a run
pub Prints-run : (config : Config) (new : State) (lines : List (List ℕ)) (printed : List ℕ)
    → Prints (SaysBy Step) (boot config) lines printed new → PrintsRun config lines printed new
Prints-run config new lines printed h =
    print_of_run exact_ledger all_events (boot config) new lines printed
    (Prints-answers Step (boot config) new lines printed h)

-- The state of a stack after a script as the page gets it: all its mbufs (this project's own).
use Rattle.std.specs.Prelude.{◌≡◌, ◌++◌, ℕ, List, [], length, Option, Some, IfOk, IfSome, Result}
use Rattle.flat_model.specs.Machine.State.{State, boot}
use Rattle.flat_model.specs.Machine.Step.{Step}
use Rattle.flat_model.specs.declared.config.Config.{Config}
use Rattle.net_stack.specs.Stack.{StackView, IsStack, state_of}
use Rattle.chain_script.specs.Drawings.{served}
use Rattle.link_script.specs.Boots.{BootsRun}
use Rattle.page.specs.Says.{SaysLine}
use Rattle.page.specs.States.{all_sockets, below, cluster_object, output_objects, unfinished_objects}
use Rattle.page.specs.Served.{Handed, drawn_number, drawn_text}
use Rattle.script_loop.specs.Serves.{Serves}
use Rattle.script_loop.specs.declared.fault.RunFault.{RunFault}

-- the sockets, the output queue, the unfinished datagrams and the clusters, in this order
abbrev pub stack_objects : StackView → List ℕ
stack_objects s =
    all_sockets s
    ++ (output_objects s
    ++ (below (unfinished_objects s) (length (state_of s).unfinished) ++ below (cluster_object s) s.pool.clusters))

-- The text is that of a stack with this state. The reference machine's state doesn't say which mbufs it takes.
unfoldable pub IsStateText : State → List ℕ → Type 0
IsStateText new text = (s : StackView) × IsStack s × (state_of s ≡ new) × (text ≡ stack_objects s)

-- A whole script was served on a new machine, with an outcome that is allowed. The text, if there is one, is that of
-- the stack's final state. The page gets the outcome's number and the length of the text, and its buffer contains the
-- text.
pub record Pictured (config : Config) (script : List ℕ) (answer len : ℕ) (before after : List ℕ) : Type 0 where
  pub outcome : Result (Option (List ℕ)) RunFault
  pub replies : List ℕ
  pub unread : Option (List ℕ)
  pub new : State
  pub allowed : BootsRun config (served outcome)
  pub answered : Serves (SaysLine Step) (boot config) new (Some script) unread (Some []) (Some replies) (served outcome)
  pub drawn : IfOk outcome (λ text. IfSome text (IsStateText new))
  pub numbered : answer ≡ drawn_number outcome
  pub counted : len ≡ length (drawn_text outcome)
  pub handed : Handed (drawn_text outcome) before after

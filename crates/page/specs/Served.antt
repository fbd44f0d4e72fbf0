-- What a page gets for a script that was served (this project's own).
use Rattle.std.specs.Prelude.{◌≡◌, ◌≤◌, ◌<◌, ◌++◌, ℕ, Bool, true, false, List, [], length, drop, take, codes, Option, Some, None, IfSome, IfOk, Result, Ok, Err}
use Rattle.flat_model.specs.declared.config.Config.{Config}
use Rattle.mbuf_pool.specs.declared.sizes.Sizes.{Sizes}
use Rattle.chain_script.specs.Boots.{BootsChains}
use Rattle.chain_script.specs.Drawings.{drawing, served}
use Rattle.chain_script.specs.Machines.{Machine, booted}
use Rattle.chain_script.specs.Steps.{Says}
use Rattle.flat_model.specs.Machine.State.{boot}
use Rattle.flat_model.specs.Machine.Step.{Step}
use Rattle.link_script.specs.Boots as stack_boots
use Rattle.page.specs.declared.settings.PageMachine.{PageMachine}
use Rattle.page.specs.declared.settings.PagePool.{PagePool}
use Rattle.capture.specs.File.{file_header_bytes, our_header}
use Rattle.play_pcap.specs.Files.{no_folder}
use Rattle.play_pcap.specs.Traces.{Keeps, Traced, unwritten}
use Rattle.play_script.specs.Reports as plays
use Rattle.play_script.specs.declared.print.TheConstants.{NAME}
use Rattle.play_text.specs.declared.form.Form.TheVariants.{Json}
use Rattle.script_loop.specs.Serves.{Serves}
use Rattle.script_loop.specs.declared.fault.RunFault.{RunFault}
use Rattle.script_loop.specs.declared.fault.RunFault.TheVariants.{Read, Write, Memory, TooManyLines, BadSizes, BadConfig}

-- ---- the page's settings of the machine

abbrev pub machine_config : PageMachine → Config
machine_config m = record {
  addr = m.addr;
  bcast = m.bcast;
  mtu = m.mtu;
  mbufs = m.mbufs;
  clusters = m.clusters;
  first_id = m.first_id;
}

abbrev pub sizes_of : PagePool → Sizes
sizes_of p = record { mbufs = p.mbufs; clusters = p.clusters }

-- ---- what the page gets

-- the outcome as a number
abbrev pub outcome_number : Result Unit RunFault → ℕ
outcome_number (Ok done) = 0
outcome_number (Err BadSizes) = 1
outcome_number (Err BadConfig) = 2
outcome_number (Err Memory) = 3
outcome_number (Err TooManyLines) = 4
outcome_number (Err Read) = 5
outcome_number (Err Write) = 6

-- The buffer after the replies were written: they are at its beginning, if they fit; all other bytes are unchanged.
pub record Handed (replies before after : List ℕ) : Type 0 where
  pub fits : length replies ≤ length before → after ≡ replies ++ drop (length replies) before
  pub lacks : length before < length replies → after ≡ before

-- A whole script was served from the state `booted`, each reply being one that it `gives`: with an outcome that `boots`
-- allows, and these replies. The page gets the outcome's number and the length of the replies, and its buffer contains
-- them.
pub record PageRun {S : Type 0} (gives : S → List ℕ → List ℕ → S → Type 0) (booted : S)
    (boots : Result Unit RunFault → Type 0) (script : List ℕ) (answer len : ℕ) (before after : List ℕ) : Type 0 where
  pub outcome : Result Unit RunFault
  pub replies : List ℕ
  pub unread : Option (List ℕ)
  pub new : S
  pub allowed : boots outcome
  pub served : Serves gives booted new (Some script) unread (Some []) (Some replies) outcome
  pub numbered : answer ≡ outcome_number outcome
  pub counted : len ≡ length replies
  pub handed : Handed replies before after

-- ---- a drawing

-- The number of an outcome with a drawing. If memory for the drawing runs out, it's the number for a run without enough
-- memory.
abbrev pub drawn_number : Result (Option (List ℕ)) RunFault → ℕ
drawn_number (Ok (Some text)) = outcome_number (Ok tt)
drawn_number (Ok None) = outcome_number (Err Memory)
drawn_number (Err fault) = outcome_number (Err fault)

-- the drawing, which has no bytes if nothing was drawn
abbrev pub drawn_text : Result (Option (List ℕ)) RunFault → List ℕ
drawn_text (Ok (Some text)) = text
drawn_text (Ok None) = []
drawn_text (Err fault) = []

-- A whole script of calls on chains was served over a new pool, with an outcome that is allowed. The drawing, if there
-- is one, is that of the slot in the machine's final state. The page gets the number and the length of the drawing, and
-- its buffer contains it.
pub record Drawn (pool : PagePool) (slot : ℕ) (script : List ℕ) (answer len : ℕ) (before after : List ℕ) : Type 0 where
  pub outcome : Result (Option (List ℕ)) RunFault
  pub replies : List ℕ
  pub unread : Option (List ℕ)
  pub new : Machine
  pub allowed : BootsChains (sizes_of pool) (served outcome)
  pub answered : Serves Says (booted pool.mbufs pool.clusters) new (Some script) unread (Some []) (Some replies)
      (served outcome)
  pub drawn : IfOk outcome (λ text. IfSome text (λ bytes. bytes ≡ drawing new slot))
  pub numbered : answer ≡ drawn_number outcome
  pub counted : len ≡ length (drawn_text outcome)
  pub handed : Handed (drawn_text outcome) before after

-- ---- a capture

-- The number of an outcome with a capture, which is complete or not. An incomplete one counts as a failed write.
abbrev pub kept_number : Bool → Result Unit RunFault → ℕ
kept_number true outcome = outcome_number outcome
kept_number false outcome = outcome_number (Err Write)

-- A whole play script was served on a new machine, whose capture began with the header of a file. The page gets the
-- number and the length of the capture, and its buffer contains it.
pub record Kept (config : Config) (script : List ℕ) (answer len : ℕ) (before after : List ℕ) : Type 0 where
  pub outcome : Result Unit RunFault
  pub objects : List ℕ
  pub file : List ℕ
  pub unread : Option (List ℕ)
  pub begun : Traced
  pub new : plays.Play
  pub ticks : begun.ticks ≡ 0
  pub headed : Keeps (unwritten (Some [])) begun (file_header_bytes our_header)
  pub allowed : stack_boots.BootsRun config outcome
  pub served : Serves (plays.Reports Step no_folder)
      (plays.started (boot config) begun Json (take NAME (codes "script"))) new
      (Some script) unread (Some []) (Some objects) outcome
  pub wrote : new.traced.wrote ≡ Some file
  pub numbered : answer ≡ kept_number new.traced.whole outcome
  pub counted : len ≡ length file
  pub handed : Handed file before after

-- memory for a capture ran out, and nothing was played
abbrev pub IsUnkept : ℕ → ℕ → List ℕ → List ℕ → Type 0
IsUnkept answer len before after = (answer ≡ outcome_number (Err Memory)) × (len ≡ 0) × (after ≡ before)

-- Captures that are played.
use Rattle.std.proofs.Common.{◌≡◌, ℕ, suc, ◌<◌, List, [], ◌∷◌, get_or, map, Option, Result, Ok, Err, inl, inr, refl, sym, ap, ◌∙◌, subst, append-nil}
use Rattle.std.specs.List.{AllByRecursion as Each}
use Rattle.std.proofs.lemmas.List.Elements.{All-from_recursion}
use Rattle.flat_model.specs.Machine.Event.{IsBytes}
use Rattle.flat_model.specs.Machine.Ledger.{exact_ledger}
use Rattle.flat_model.specs.Machine.Step.{Step}
use Rattle.flat_model.specs.Runs.Run.{Turn, Leads}
use Rattle.play_pcap.specs.Acts.{Act}
use Rattle.play_pcap.specs.Asks.{IsAsked}
use Rattle.play_pcap.specs.Events.{Goes, PlaysFile, capture_acts}
use Rattle.play_pcap.specs.Files.{IsAvailable, PlaysNamed}
use Rattle.play_pcap.specs.Traces.{Keeps, Pass, Traced, passes_bytes}
use Rattle.play_pcap.specs.declared.ask.Details.{Details}
use Rattle.play_pcap.specs.declared.fault.CaptureFault.{CaptureFault}
use Rattle.play_pcap.specs.declared.fault.CaptureFault.TheVariants.{NotOpened, NotRead, TooLong, Memory, TooFew, Bad}
use Rattle.play_pcap.specs.declared.moves.Tally.{Tally}
use Rattle.play_script.proofs.Laws.{Capture-idle}
use Rattle.play_script.proofs.CaptureLemmas.{Joins, Keeps-none, passes_bytes-append}
use Rattle.play_script.specs.Captures.{Captures, moved_by, pass_if, passes, ticks_after, ticks_by}
use Rattle.play_text.specs.Tables.{no_drops}
use Rattle.play_text.specs.declared.table.Table.{Table}
use Rattle.play_script.specs.Plays.{ComesTo, CapturedView, ReplayView, came_turn, replay_of}
use Rattle.stack_call.specs.Moves.{StackSteps}
use Rattle.play_script.specs.Runs.{AreAskedTurns}

-- a list whose elements are below 256 is a list of bytes
pub are_bytes : (xs : List ℕ) → ((k : ℕ) → get_or xs k 0 < 256) → IsBytes xs
are_bytes xs fits = All-from_recursion (λ byte. byte < 256) xs (go xs fits)
  where
    go : (ys : List ℕ) → ((k : ℕ) → get_or ys k 0 < 256) → Each (λ byte. byte < 256) ys
    go [] f = tt
    go (y ∷ ys) f = (f 0, go ys (λ k. f (suc k)))

-- ---- turns

-- nothing is added
pub Captures-same : (number : ℕ) (t u : Traced) → u ≡ t → Captures number t [] u
Captures-same number t u same = subst (λ (s : Traced). Captures number t [] s) (sym same) (Keeps-none t, refl)

-- one turn before others
Captures-front : Joins → (number : ℕ) (old mid new : Traced) (turn : Turn) (turns : List Turn)
    → Captures number old (turn ∷ []) mid → Captures number mid turns new → Captures number old (turn ∷ turns) new
Captures-front join number old mid new turn turns first rest =
    let front : List Pass = pass_if old.ticks number (moved_by turn.event turn.reply) in
    let behind : List Pass = passes number (ticks_by turn.event old.ticks) turns in
    let kept : Keeps old mid (passes_bytes front) =
    subst (λ (ps : List Pass). Keeps old mid (passes_bytes ps)) (append-nil front) first.0 in
    let later : Keeps mid new (passes_bytes behind) =
    subst (λ (t : ℕ). Keeps mid new (passes_bytes (passes number t turns))) first.1 rest.0 in (
      subst (λ (bytes : List ℕ). Keeps old new bytes) (sym (passes_bytes-append front behind))
          (join old mid new (passes_bytes front) (passes_bytes behind) kept later),
      rest.1 ∙ ap (λ (t : ℕ). ticks_after t turns) first.1,
    )

-- the acts of a capture, one after another
Goes-turns : Joins → (acts : List Act) (old new : ReplayView) → Goes (ComesTo Step) acts old new
    → Leads exact_ledger old.seen.machine (map came_turn acts) new.seen.machine
    × Captures old.seen.line old.seen.traced (map came_turn acts) new.seen.traced
Goes-turns join [] old new same = (
  ap (λ (s : ReplayView). s.seen.machine) same,
  Captures-same old.seen.line old.seen.traced new.seen.traced (ap (λ (s : ReplayView). s.seen.traced) same),
)
Goes-turns join (act ∷ acts) old new (mid, went, rest) =
    let later = Goes-turns join acts mid new rest in (
      (went.0, mid.seen.machine, went.1, later.0),
      Captures-front join old.seen.line old.seen.traced mid.seen.traced new.seen.traced (came_turn act)
          (map came_turn acts) went.2
          (subst (λ (n : ℕ). Captures n mid.seen.traced (map came_turn acts) new.seen.traced) went.3 later.1),
    )

-- ---- the turns of a capture

abbrev pub MakesTurns : (List ℕ → List ℕ → Type 0) → List ℕ → List ℕ → Option (List ℕ) → CapturedView → CapturedView
    → Type 0
MakesTurns has shown plain wanted old new =
    (turns : List Turn) × AreAskedTurns has plain turns
    × Leads exact_ledger old.machine turns new.machine
    × Captures old.line old.traced turns new.traced

-- no turns
Turns-none : (has : List ℕ → List ℕ → Type 0) (shown plain word : List ℕ) (wanted : Option (List ℕ)) (d : Details)
    (old new : ReplayView)
    → IsAsked plain word d → new ≡ old → MakesTurns has shown plain wanted old.seen new.seen
Turns-none has shown plain word wanted d old new asked same = (
  [],
  inr (inr (inr ((Capture-idle plain word d asked).0, (Capture-idle plain word d asked).1, refl))),
  ap (λ (s : ReplayView). s.seen.machine) same,
  Captures-same old.seen.line old.seen.traced new.seen.traced (ap (λ (s : ReplayView). s.seen.traced) same),
)

-- the turns of the file that was read
File-turns : Joins → (has : List ℕ → List ℕ → Type 0) (shown plain word file : List ℕ) (wanted : Option (List ℕ))
    (d : Details)
    (outcome : Result Tally CaptureFault) (old new : ReplayView) → IsAsked plain word d → IsAvailable has word file
    → PlaysFile (ComesTo Step) d file outcome old new → MakesTurns has shown plain wanted old.seen new.seen
File-turns join has shown plain word file wanted d (Ok tally) old new asked had (w, reads, range, goes, reported) =
    let made = Goes-turns join (capture_acts d w) old new goes in (
      map came_turn (capture_acts d w),
      inr (inr (inl (word, d, file, w, asked, had, reads, range, refl))),
      made.0,
      made.1,
    )
File-turns join has shown plain word file wanted d (Err NotOpened) old new asked had plays = absurd plays
File-turns join has shown plain word file wanted d (Err NotRead) old new asked had plays = absurd plays
File-turns join has shown plain word file wanted d (Err TooLong) old new asked had plays = absurd plays
File-turns join has shown plain word file wanted d (Err Memory) old new asked had same =
    Turns-none has shown plain word wanted d old new asked same
File-turns join has shown plain word file wanted d (Err TooFew) old new asked had (w, reads, few, same) =
    Turns-none has shown plain word wanted d old new asked same
File-turns join has shown plain word file wanted d (Err (Bad fault)) old new asked had (reads, same) =
    Turns-none has shown plain word wanted d old new asked same

pub Named-turns : Joins → (has : List ℕ → List ℕ → Type 0) (shown plain word : List ℕ) (wanted : Option (List ℕ))
    (d : Details)
    (outcome : Result Tally CaptureFault) (old new : ReplayView) → IsAsked plain word d
    → PlaysNamed has (ComesTo Step) d word outcome old new → MakesTurns has shown plain wanted old.seen new.seen
Named-turns join has shown plain word wanted d outcome old new asked (inl (file, had, plays)) =
    File-turns join has shown plain word file wanted d outcome old new asked had plays
Named-turns join has shown plain word wanted d outcome old new asked (inr (fault, unread, is, same)) =
    Turns-none has shown plain word wanted d old new asked same

-- at first, no packet was dropped
pub Played-begun : (has : List ℕ → List ℕ → Type 0) (d : Details) (word : List ℕ) (outcome : Result Tally CaptureFault)
    (old : CapturedView) (new : ReplayView) (causes : Table) → causes ≡ no_drops
    → PlaysNamed has (ComesTo StackSteps) d word outcome (replay_of old causes) new
    → PlaysNamed has (ComesTo StackSteps) d word outcome (replay_of old no_drops) new
Played-begun has d word outcome old new causes none plays =
    subst (λ (t : Table). PlaysNamed has (ComesTo StackSteps) d word outcome (replay_of old t) new) none plays

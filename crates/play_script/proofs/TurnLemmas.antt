-- The turns of lines.
use Rattle.std.proofs.Common.{◌≡◌, ◌⊎◌, ℕ, zero, suc, ◌-◌, ◌<◌, ◌==◌, ◌&&◌, Bool, true, false, List, [], ◌∷◌, ◌++◌, length, replicate, Option, Some, None, Result, Ok, Err, inl, inr, refl, sym, ap, ◌∙◌, arith, subst}
use Rattle.std.proofs.lemmas.Bool.{eqb-true, false≢true}
use Rattle.play_line.specs.Time.{TimedView, timed}
use Rattle.play_line.specs.declared.fault.SyntaxError.{SyntaxError}
use Rattle.flat_model.specs.Machine.Count.{more_by}
use Rattle.flat_model.specs.Machine.Event.{Event, Reply, Tick, Done}
use Rattle.flat_model.specs.Machine.Ledger.{exact_ledger}
use Rattle.flat_model.specs.Machine.State.{State, boot}
use Rattle.flat_model.specs.Machine.Step.{Step}
use Rattle.flat_model.specs.Runs.Run.{Turn, Leads}
use Rattle.flat_model.specs.declared.config.Config.{Config}
use Rattle.script_loop.specs.Printed.{Prints}
use Rattle.play_script.specs.Settings.{IsSet}
use Rattle.play_script.specs.declared.fault.SettingFault.{SettingFault}
use Rattle.play_script.specs.declared.fault.SettingFault.TheVariants.{Late}
use Rattle.play_pcap.specs.Traces.{Traced, Keeps, passes_bytes}
use Rattle.play_script.specs.Asks.{Ask, Call, Ticks, Show, Capture, Settings, Calls, IsTicks, Writes}
use Rattle.play_script.proofs.Laws.{Calls-in_range, Settings-idle, Show-idle}
use Rattle.play_script.proofs.CaptureLemmas.{Joins, Keeps-none, Captures-join, Captures-more}
use Rattle.play_script.proofs.PlayLemmas.{Captures-same, Named-turns}
use Rattle.play_script.specs.Actions.{Does, turns_with}
use Rattle.play_script.specs.Captures.{Captures, all_passes, turn_of}
use Rattle.play_script.specs.Lines.{Reading, Nothing, TooLong, Faulty, Asks, reading_part}
use Rattle.play_text.specs.Tables.{no_drops}
use Rattle.play_script.specs.Plays.{CapturedView, captured_of, replay_of}
use Rattle.play_script.specs.Runs.{AreAskedTurns, ArePlayedTurns, AreTimedTurns, IsRunOf, all_turns, MaySet, MaySetAll, MayTimedSet}
use Rattle.play_script.specs.Reports.{Play, Reports, ReportsAsk, ReportsReading, ReportsAsked, ReportsSettled, ReportsTimed, IsSettled, IsWaited, next_line, stays_head}

-- ticks one after another are turns
Ticks-lead : (n : ℕ) (old new : State) (reply : Reply) → Does Step old (replicate n Tick) reply new
    → Leads exact_ledger old (turns_with (replicate n Tick) reply) new
Ticks-lead zero old new reply h = h
Ticks-lead (suc n) old new reply (mid, step, rest) = (tt, mid, step, Ticks-lead n mid new reply rest)

-- the reply of each of them is `Done`
ticks_turns : (n : ℕ) → turns_with (replicate n Tick) Done ≡ replicate n (turn_of Tick Done)
ticks_turns zero = refl
ticks_turns (suc n) = ap (λ (ts : List Turn). turn_of Tick Done ∷ ts) (ticks_turns n)

Ticks-done : (n : ℕ) (old new : State) (reply : Reply) → 0 < n → Does Step old (replicate n Tick) reply new
    → reply ≡ Done
Ticks-done zero old new reply some h = absurd (omega (arith, some))
Ticks-done (suc n) old new reply some (mid, step, rest) = step.0

Leads-append : (old mid new : State) (first rest : List Turn) → Leads exact_ledger old first mid
    → Leads exact_ledger mid rest new
    → Leads exact_ledger old (first ++ rest) new
Leads-append old mid new [] rest same later = subst (λ s. Leads exact_ledger s rest new) same later
Leads-append old mid new (turn ∷ first) rest (range, next, step, leads) later =
    (range, next, step, Leads-append next mid new first rest leads later)

-- the turns of a line, their effect on the machine, and what they add to a capture
abbrev Makes : (List ℕ → List ℕ → Type 0) → List ℕ → ℕ → State → State → Traced → Traced → Type 0
Makes has plain number old new t u =
    (turns : List Turn) × AreAskedTurns has plain turns × Leads exact_ledger old turns new × Captures number t turns u

Makes-one : (has : List ℕ → List ℕ → Type 0) (number : ℕ) (old new : State) (t u : Traced) (shown plain : List ℕ)
    (wanted : Option (List ℕ)) (event : Event) (reply : Reply)
    → Calls plain event → Does Step old (event ∷ []) reply new
    → Captures number t (turns_with (event ∷ []) reply) u
    → Makes has plain number old new t u
Makes-one has number old new t u shown plain wanted event reply asks (mid, step, same) captured = (
  turn_of event reply ∷ [],
  inl (event, reply, asks, refl),
  (Calls-in_range plain event asks, mid, step, same),
  captured,
)

Makes-ticks : (has : List ℕ → List ℕ → Type 0) (number : ℕ) (old new : State) (t u : Traced) (shown plain : List ℕ)
    (wanted : Option (List ℕ)) (n : ℕ) (reply : Reply)
    → IsTicks plain n → Does Step old (replicate n Tick) reply new
    → Captures number t (turns_with (replicate n Tick) reply) u
    → Makes has plain number old new t u
Makes-ticks has number old new t u shown plain wanted n reply is does captured =
    let done : turns_with (replicate n Tick) reply ≡ replicate n (turn_of Tick Done) =
    ap (λ (r : Reply). turns_with (replicate n Tick) r) (Ticks-done n old new reply is.3 does) ∙ ticks_turns n in
    (turns_with (replicate n Tick) reply, inr (inl (n, is, done)), Ticks-lead n old new reply does, captured)

-- ---- a line

-- a line that isn't a line of settings: its turns, which are none if settings are still accepted after it
record Asked (Are : List Turn → Type 0) (now new : Play) : Type 0 where
  turns : List Turn
  are : Are turns
  leads : Leads exact_ledger now.machine turns new.machine
  captured : Captures now.number now.traced turns new.traced
  number : new.number ≡ now.number
  config : new.config ≡ now.config
  head : new.head ≡ true → (now.head ≡ true) × (turns ≡ [])

-- a line whose settings made a new machine
record Settled (Are : List Turn → Type 0) (May : Config → Config → Type 0) (now new : Play) : Type 0 where
  are : Are []
  captured : Captures now.number now.traced [] new.traced
  number : new.number ≡ now.number
  was : now.head ≡ true
  machine : new.machine ≡ boot new.config
  set : May now.config new.config

not_late : (c : Config) → Ok c ≡ Err Late → ⊥
not_late c e = cc

-- a line's reply by the turns of its request
Executed-turns : Joins → (has : List ℕ → List ℕ → Type 0) (ask : Ask) (old new : CapturedView) (shown plain : List ℕ)
    (wanted : Option (List ℕ)) (text : List ℕ) (failed : Bool)
    → Writes plain ask → ReportsAsk Step has ask old failed text new
    → (turns : List Turn) × AreAskedTurns has plain turns
    × Leads exact_ledger old.machine turns new.machine
    × Captures old.line old.traced turns new.traced × (stays_head ask ≡ true → turns ≡ [])
Executed-turns join has (Call event) old new shown plain wanted text failed asks (done, fine) =
    let made =
    Makes-one has old.line old.machine new.machine old.traced new.traced shown plain wanted event done.reply asks
    done.does done.captured in
    (made.0, made.1, made.2, made.3, λ stays. absurd (false≢true stays))
Executed-turns join has (Ticks n) old new shown plain wanted text failed ticks (done, fine) =
    let made =
    Makes-ticks has old.line old.machine new.machine old.traced new.traced shown plain wanted n done.reply ticks
    done.does done.captured in
    (made.0, made.1, made.2, made.3, λ stays. absurd (false≢true stays))
Executed-turns join has (Show topic) old new shown plain wanted text failed is (same, traced, fine) =
    let idle = Show-idle plain topic is in (
      [],
      inr (inr (inr (idle.0, idle.1, refl))),
      same,
      Captures-same old.line old.traced new.traced traced,
      λ stays. refl,
    )
Executed-turns join has (Capture name d) old new shown plain wanted text failed asked
    (causes, (outcome, before, after, plays, was, now, reports, fails)) =
    let made =
    Named-turns join has shown plain name wanted d outcome (replay_of old no_drops) (replay_of new causes) asked plays
    in
    (made.0, made.1, made.2, made.3, λ stays. absurd (false≢true stays))
Executed-turns join has (Settings named) old new shown plain wanted text failed asks reported = absurd reported

and_first : (a b : Bool) → (a && b) ≡ true → a ≡ true
and_first true b h = refl
and_first false b h = h

and_second : (a b : Bool) → (a && b) ≡ true → b ≡ true
and_second true b h = h
and_second false b h = absurd (false≢true h)

Idle : (Are : List Turn → Type 0) (now new : Play) → Are []
    → new.machine ≡ now.machine → new.traced ≡ now.traced → new.number ≡ now.number
    → new.config ≡ now.config → new.head ≡ now.head → Asked Are now new
Idle Are now new are machine traced number config head = record {
  turns = [];
  are = are;
  leads = machine;
  captured = Captures-same now.number now.traced new.traced traced;
  number = number;
  config = config;
  head = λ h. (sym head ∙ h, refl);
}

Settings-line : (has : List ℕ → List ℕ → Type 0) (now new : Play) (shown plain text : List ℕ) (wanted : Option (List ℕ))
    (named : List (List ℕ)) (head : Bool) → now.head ≡ head
    → Writes plain (Settings named) → (outcome : Result Config SettingFault) → IsSettled head now.config named outcome
    → ReportsSettled now shown wanted outcome text new
    → Asked (AreAskedTurns has plain) now new
    ⊎ Settled (AreAskedTurns has plain) (MaySet (Asks shown plain wanted)) now new
Settings-line has now new shown plain text wanted named head was is (Err fault) settled (reported, same) =
    inl (Idle (AreAskedTurns has plain) now new
    (inr (inr (inr ((Settings-idle plain is.0).0, (Settings-idle plain is.0).1, refl))))
    (ap (λ (p : Play). p.machine) same) (ap (λ (p : Play). p.traced) same)
    (ap (λ (p : Play). p.number) same) (ap (λ (p : Play). p.config) same) (ap (λ (p : Play). p.head) same))
Settings-line has now new shown plain text wanted named true was is (Ok c) (set, right) (reported, same) =
    inr (record {
      are = inr (inr (inr ((Settings-idle plain is.0).0, (Settings-idle plain is.0).1, refl)));
      captured = Captures-same now.number now.traced new.traced (ap (λ (p : Play). p.traced) same);
      number = ap (λ (p : Play). p.number) same;
      was = was;
      machine = ap (λ (p : Play). p.machine) same ∙ ap boot (sym (ap (λ (p : Play). p.config) same));
      set =
          inr (
            named,
            is,
            subst (λ (d : Config). IsSet now.config named (Ok d)) (sym (ap (λ (p : Play). p.config) same))
                set,
          );
    })
Settings-line has now new shown plain text wanted named false was is (Ok c) settled reported =
    absurd (not_late c settled)

Asked-line : Joins → (has : List ℕ → List ℕ → Type 0) (now new : Play) (shown plain text : List ℕ)
    (wanted : Option (List ℕ))
    → ReportsAsked Step has now shown plain wanted text new
    → Asked (AreAskedTurns has plain) now new
    ⊎ Settled (AreAskedTurns has plain) (MaySet (Asks shown plain wanted)) now new
Asked-line join has now new shown plain text wanted (None, none, (what, reports, same)) =
    inl (Idle (AreAskedTurns has plain) now new
    (inr (inr (inr (λ event. none (Call event), λ n. none (Ticks n), refl))))
    (ap (λ (p : Play). p.machine) same) (ap (λ (p : Play). p.traced) same)
    (ap (λ (p : Play). p.number) same) (ap (λ (p : Play). p.config) same) (ap (λ (p : Play). p.head) same))
Asked-line join has now new shown plain text wanted (Some ask, asks, inr (named, is, (outcome, settled, reported))) =
    Settings-line has now new shown plain text wanted named now.head refl (subst (λ (a : Ask). Writes plain a) is asks)
    outcome settled reported
Asked-line join has now new shown plain text wanted (
  Some ask,
  asks,
  inl (
    after,
    failed,
    said,
    below,
    answered,
    reports,
    same,
  ),
) =
    let made =
    Executed-turns join has ask (captured_of now.machine now.traced now.number) after shown plain wanted said failed
    asks
    answered in
    let stayed : new.head ≡ (now.head && stays_head ask) = ap (λ (p : Play). p.head) same in
    inl (record {
      turns = made.0;
      are = made.1;
      leads = subst (λ s. Leads exact_ledger now.machine made.0 s) (sym (ap (λ (p : Play). p.machine) same)) made.2;
      captured =
          subst (λ (t : Traced). Captures now.number now.traced made.0 t) (sym (ap (λ (p : Play). p.traced) same))
          made.3;
      number = ap (λ (p : Play). p.number) same;
      config = ap (λ (p : Play). p.config) same;
      head = λ h. (
        and_first now.head (stays_head ask) (sym stayed ∙ h),
        made.4 (and_second now.head (stays_head ask) (sym stayed ∙ h)),
      );
    })

eq_zero : (n : ℕ) → (n == 0) ≡ true → n ≡ 0
eq_zero n h = eqb-true n 0 h

-- if no tick passes before a line without turns, there are no turns
no_ticks : (n : ℕ) (rest : List Turn) → n ≡ 0 → rest ≡ [] → replicate n (turn_of Tick Done) ++ rest ≡ []
no_ticks n rest none same = ap (λ (k : ℕ). replicate k (turn_of Tick Done) ++ rest) none ∙ same

-- a line before which this many ticks pass
Waited-line : Joins → (has : List ℕ → List ℕ → Type 0) (n : ℕ) (now mid new : Play) (shown plain : List ℕ)
    (wanted : Option (List ℕ)) → IsWaited Step n now mid
    → Asked (AreAskedTurns has plain) mid new
    ⊎ Settled (AreAskedTurns has plain) (MaySet (Asks shown plain wanted)) mid new
    → Asked (ArePlayedTurns has n (Asks shown plain wanted)) now new
    ⊎ Settled (ArePlayedTurns has n (Asks shown plain wanted)) (MaySet (Asks shown plain wanted)) now new
Waited-line join has n now mid new shown plain wanted waited line =
    let ticks : List Turn = replicate n (turn_of Tick Done) in
    let passed : Leads exact_ledger now.machine ticks mid.machine =
    subst (λ (ts : List Turn). Leads exact_ledger now.machine ts mid.machine) (ticks_turns n)
    (Ticks-lead n now.machine mid.machine Done waited.does) in
    let kept : Captures now.number now.traced ticks mid.traced =
    subst (λ (ts : List Turn). Captures now.number now.traced ts mid.traced) (ticks_turns n) waited.captured in
    let number : mid.number ≡ now.number = ap (λ (p : Play). p.number) waited.is in
    let config : mid.config ≡ now.config = ap (λ (p : Play). p.config) waited.is in
    let head : mid.head ≡ (now.head && n == 0) = ap (λ (p : Play). p.head) waited.is in
    elim line [
      | inl asked ↦ inl (record {
        turns = ticks ++ asked.turns;
        are = (asked.turns, refl, asked.are);
        leads = Leads-append now.machine mid.machine new.machine ticks asked.turns passed asked.leads;
        captured =
            Captures-more join now.number now.traced mid.traced new.traced ticks asked.turns kept
            (subst (λ (k : ℕ). Captures k mid.traced asked.turns new.traced) number asked.captured);
        number = asked.number ∙ number;
        config = asked.config ∙ config;
        head = λ h. (
          and_first now.head (n == 0) (sym head ∙ (asked.head h).0),
          no_ticks n asked.turns (eq_zero n (and_second now.head (n == 0) (sym head ∙ (asked.head h).0)))
              (asked.head h).1,
        );
      })
      | inr settled ↦
          let none : n ≡ 0 = eq_zero n (and_second now.head (n == 0) (sym head ∙ settled.was)) in
          let empty : ticks ++ [] ≡ [] = no_ticks n [] none refl in
          let both : Captures now.number now.traced (ticks ++ []) new.traced =
          Captures-more join now.number now.traced mid.traced new.traced ticks [] kept
          (subst (λ (k : ℕ). Captures k mid.traced [] new.traced) number settled.captured) in
          inr (record {
            are = ([], sym empty, settled.are);
            captured = subst (λ (ts : List Turn). Captures now.number now.traced ts new.traced) empty both;
            number = settled.number ∙ number;
            was = and_first now.head (n == 0) (sym head ∙ settled.was);
            machine = settled.machine;
            set =
                subst (λ (c : Config). MaySet (Asks shown plain wanted) c new.config) config settled.set;
          })
    ]

Reports-line : Joins → (has : List ℕ → List ℕ → Type 0) (now new : Play) (n before : ℕ) (line : Reading)
    (text : List ℕ) → ReportsReading Step has now n before line text new
    → Asked (ArePlayedTurns has n line) now new ⊎ Settled (ArePlayedTurns has n line) (MaySet line) now new
Reports-line join has now new n before Nothing text (is, same) =
    inl (Idle (ArePlayedTurns has n Nothing) now new refl (ap (λ (p : Play). p.machine) same)
    (ap (λ (p : Play). p.traced) same)
    (ap (λ (p : Play). p.number) same) (ap (λ (p : Play). p.config) same) (ap (λ (p : Play). p.head) same))
Reports-line join has now new n before TooLong text (is, same) =
    inl (Idle (ArePlayedTurns has n TooLong) now new refl (ap (λ (p : Play). p.machine) same)
    (ap (λ (p : Play). p.traced) same)
    (ap (λ (p : Play). p.number) same) (ap (λ (p : Play). p.config) same) (ap (λ (p : Play). p.head) same))
Reports-line join has now new n before (Faulty error) text (is, same) =
    inl (Idle (ArePlayedTurns has n (Faulty error)) now new refl (ap (λ (p : Play). p.machine) same)
    (ap (λ (p : Play). p.traced) same)
    (ap (λ (p : Play). p.number) same) (ap (λ (p : Play). p.config) same) (ap (λ (p : Play). p.head) same))
Reports-line join has now new n before (Asks shown plain wanted) text (mid, waited, reported) =
    Waited-line join has n now mid new shown plain wanted waited
    (Asked-line join has mid new shown plain text wanted reported)

Timed-line : Joins → (has : List ℕ → List ℕ → Type 0) (now new : Play) (line text : List ℕ)
    (t : Result TimedView SyntaxError) → ReportsTimed Step has now line t text new
    → Asked (AreTimedTurns has line t) now new ⊎ Settled (AreTimedTurns has line t) (MayTimedSet line t) now new
Timed-line join has now new line text (Err error) (is, same) =
    inl (Idle (AreTimedTurns has line (Err error)) now new refl
    (ap (λ (p : Play). p.machine) same) (ap (λ (p : Play). p.traced) same)
    (ap (λ (p : Play). p.number) same) (ap (λ (p : Play). p.config) same) (ap (λ (p : Play). p.head) same))
Timed-line join has now new line text (Ok t) reported =
    Reports-line join has now new t.ticks (length line - length t.part) (reading_part line t.part) text reported

-- ---- all lines

MaySet-same : (line : Reading) (c : Config) → MaySet line c c
MaySet-same Nothing c = refl
MaySet-same TooLong c = refl
MaySet-same (Faulty error) c = refl
MaySet-same (Asks shown plain wanted) c = inl refl

MayTimedSet-same : (line : List ℕ) (t : Result TimedView SyntaxError) (c : Config) → MayTimedSet line t c c
MayTimedSet-same line (Err error) c = refl
MayTimedSet-same line (Ok t) c = MaySet-same (reading_part line t.part) c

MaySetAll-same : (lines : List (List ℕ)) (c : Config) → MaySetAll lines c c
MaySetAll-same [] c = refl
MaySetAll-same (line ∷ lines) c = (c, MayTimedSet-same line (timed line) c, MaySetAll-same lines c)

-- what a line adds to a capture, before what other lines add
Kept-before : Joins → (has : List ℕ → List ℕ → Type 0) (now old mid new : Play) (lines : List (List ℕ))
    (first : List Turn) (rest : IsRunOf has mid lines new)
    → now.traced ≡ old.traced → now.number ≡ more_by 1 old.number → mid.number ≡ now.number
    → Captures now.number now.traced first mid.traced
    → Keeps old.traced new.traced (passes_bytes (all_passes old.number old.traced.ticks (first ∷ rest.turns)))
Kept-before join has now old mid new lines first rest t n m captured =
    Captures-join join (more_by 1 old.number) mid.number old.traced mid.traced new.traced first rest.turns (m ∙ n)
    (subst (λ (k : ℕ). Captures k old.traced first mid.traced) n
    (subst (λ (s : Traced). Captures now.number s first mid.traced) t captured))
    rest.kept

-- a line before a run of other lines
Asked-before : Joins → (has : List ℕ → List ℕ → Type 0) (now old mid new : Play) (line : List ℕ) (lines : List (List ℕ))
    → now.machine ≡ old.machine → now.traced ≡ old.traced
    → now.number ≡ more_by 1 old.number → now.config ≡ old.config → now.head ≡ old.head
    → Asked (AreTimedTurns has line (timed line)) now mid → IsRunOf has mid lines new
    → IsRunOf has old (line ∷ lines) new
Asked-before join has now old mid new line lines m t n c h first rest =
    elim rest.begins [
      | inl same ↦ record {
        first = old.machine;
        begins = inl refl;
        turns = first.turns ∷ rest.turns;
        are = (first.are, rest.are);
        leads = Leads-append old.machine mid.machine new.machine first.turns (all_turns rest.turns)
            (subst (λ s. Leads exact_ledger s first.turns mid.machine) m first.leads)
            (subst (λ s. Leads exact_ledger s (all_turns rest.turns) new.machine) same rest.leads);
        kept = Kept-before join has now old mid new lines first.turns rest t n first.number first.captured;
      }
      | inr (stays, (d, set, is)) ↦ record {
        first = rest.first;
        begins = inr (
          sym h ∙ (first.head stays).0,
          (
            d,
            (
              old.config,
              MayTimedSet-same line (timed line) old.config,
              subst (λ (e : Config). MaySetAll lines e d) (first.config ∙ c) set,
            ),
            is,
          ),
        );
        turns = [] ∷ rest.turns;
        are = (
          subst (λ (ts : List Turn). AreTimedTurns has line (timed line) ts) (first.head stays).1 first.are,
          rest.are,
        );
        leads = rest.leads;
        kept = Kept-before join has now old mid new lines [] rest t n first.number
            (subst (λ (ts : List Turn). Captures now.number now.traced ts mid.traced) (first.head stays).1
            first.captured);
      }
    ]

Settled-before : Joins → (has : List ℕ → List ℕ → Type 0) (now old mid new : Play) (line : List ℕ)
    (lines : List (List ℕ)) → now.traced ≡ old.traced
    → now.number ≡ more_by 1 old.number → now.config ≡ old.config → now.head ≡ old.head
    → Settled (AreTimedTurns has line (timed line)) (MayTimedSet line (timed line)) now mid → IsRunOf has mid lines new
    → IsRunOf has old (line ∷ lines) new
Settled-before join has now old mid new line lines t n c h first rest =
    let set : MayTimedSet line (timed line) old.config mid.config =
    subst (λ (e : Config). MayTimedSet line (timed line) e mid.config) c first.set in
    let kept = Kept-before join has now old mid new lines [] rest t n first.number first.captured in
    elim rest.begins [
      | inl same ↦ record {
        first = rest.first;
        begins =
            inr (
              sym h ∙ first.was,
              (
                mid.config,
                (mid.config, set, MaySetAll-same lines mid.config),
                same
                    ∙ first.machine,
              ),
            );
        turns = [] ∷ rest.turns;
        are = (first.are, rest.are);
        leads = rest.leads;
        kept = kept;
      }
      | inr (stays, (d, later, is)) ↦ record {
        first = rest.first;
        begins = inr (sym h ∙ first.was, (d, (mid.config, set, later), is));
        turns = [] ∷ rest.turns;
        are = (first.are, rest.are);
        leads = rest.leads;
        kept = kept;
      }
    ]

pub Prints-run : Joins → (has : List ℕ → List ℕ → Type 0) (old new : Play) (lines : List (List ℕ)) (printed : List ℕ)
    → Prints (Reports Step has) old lines printed new → IsRunOf has old lines new
Prints-run join has old new [] printed (same, none) = record {
  first = old.machine;
  begins = inl refl;
  turns = [];
  are = refl;
  leads = ap (λ (p : Play). p.machine) same;
  kept = subst (λ (t : Traced). Keeps old.traced t []) (sym (ap (λ (p : Play). p.traced) same)) (Keeps-none old.traced);
}
Prints-run join has old new (line ∷ lines) printed (mid, text, rest, reports, later, joined) =
    let after = Prints-run join has mid new lines rest later in
    elim (Timed-line join has (next_line line old) mid line text (timed line) reports) [
      | inl asked ↦ Asked-before join has (next_line line old) old mid new line lines refl refl refl refl refl asked
          after
      | inr settled ↦ Settled-before join has (next_line line old) old mid new line lines refl refl refl refl settled
          after
    ]

-- A line, and its effects.
use Rattle.std.proofs.Common.{◌≡◌, ◌⊎◌, inl, inr, ℕ, zero, suc, ◌&&◌, Bool, true, false, List, [], ◌∷◌, ◌++◌, arith, Option, Some, refl, sym, ap, ◌∙◌, subst, append-nil}
use Rattle.std.specs.Prelude.{codes, slice_get, None, MatchResult, Result, Ok, Err}
use Rattle.play_text.specs.Texts.{if_there}
use Rattle.play_line.specs.Time.{TimedView, timed}
use Rattle.play_line.specs.declared.fault.SyntaxError.{SyntaxError}
use Rattle.play_script.specs.Lines.{Reading}
use Rattle.flat_model.specs.Amounts.Choice.{Choice}
use Rattle.segment.specs.Law.{Act, AreActs, IsAct}
use Rattle.segment.specs.Segment.{SegmentView}
use Rattle.play_wire.specs.Acts.{Outcome, Replied, Refused, AreLedTo, IsMissing}
use Rattle.play_wire.specs.Links.{IsHostLine}
use Rattle.play_wire.specs.Reports.{WirePlay, DoesLine, IsByHand, IsDone, IsWaited, Reports, ReportsPart, ReportsTimed, added_by, next_wire_line}
use Rattle.play_wire.specs.Wires.{AsksWire, Host}
use Rattle.play_wire.specs.Inside.{outcome_of}
use Rattle.play_wire.specs.declared.fault.Fault.{Fault}
use Rattle.play_wire.specs.declared.fault.Fault.TheVariants as fault

pub done_by_wire : (play : WirePlay) (named : Bool) (host words plain : List ℕ) (came : Outcome) (v w : SegmentView)
    (old new : List (List ℕ))
    → play.segment ≡ v → play.names ≡ old → named ≡ false → words ≡ plain
    → (acts : List Act) × AreActs v acts w × DoesLine words v acts came w old new
    → (acts : List Act) × IsDone play (if_there named host) plain acts came w new
done_by_wire play named host words plain came v w old new e f is same (acts, are, does) =
    let read : DoesLine plain v acts came w old new =
    subst (λ (line : List ℕ). DoesLine line v acts came w old new) same does in
    let here : DoesLine plain play.segment acts came w old new =
    subst (λ (x : SegmentView). DoesLine plain x acts came w old new) (sym e) read in
    let mine : DoesLine plain play.segment acts came w play.names new =
    subst (λ (names : List (List ℕ)). DoesLine plain play.segment acts came w names new) (sym f) here in (
      acts,
      subst (λ b. IsDone play (if_there b host) plain acts came w new) (sym is)
          (subst (λ (x : SegmentView). AreActs x acts w) (sym e) are, mine),
    )

-- the names after a host was added, or wasn't
pub host_added : (name : List ℕ) (settings old new : List (List ℕ)) (came : Result Unit Fault) (reply_line below : List
    ℕ)
    → MatchResult came (λ _. new ≡ old ++ name ∷ []) (λ _. new ≡ old)
    → new ≡ old ++ added_by (Some (Host name settings)) (outcome_of came reply_line below)
host_added name settings old new (Ok done) reply_line below is = is
host_added name settings old new (Err fault) reply_line below is = is ∙ sym (append-nil old)

pub names_kept : (old new : List (List ℕ)) → new ≡ old → new ≡ old ++ []
names_kept old new is = is ∙ sym (append-nil old)

-- a packet in flight is moved by hand, if it exists
pub by_hand : (v w : SegmentView) (act : Act) (seen there : Bool) (came : Outcome) → IsAct v act w → seen ≡ there
    → Choice seen (came ≡ Replied (codes "ok") []) (came ≡ Refused fault.NoPacket)
    → (acts : List Act) × AreActs v acts w × IsByHand there act acts came
by_hand v w act seen there came did same reply_line = (
  act ∷ [],
  (w, did, refl),
  (
    refl,
    subst (λ (b : Bool). Choice b (came ≡ Replied (codes "ok") []) (came ≡ Refused fault.NoPacket)) same reply_line,
  ),
)

pub done_by_host : (play : WirePlay) (named : Bool) (host words plain : List ℕ) (came : Outcome) (v w : SegmentView)
    (old : List (List ℕ)) (place : ℕ)
    → play.segment ≡ v → play.names ≡ old → named ≡ true
    → slice_get old place ≡ Some host → words ≡ plain
    → (acts : List Act) × (IsHostLine place words v acts came w ⊎ IsMissing place v acts came w)
    → (acts : List Act) × IsDone play (if_there named host) plain acts came w old
done_by_host play named host words plain came v w old place e f is there same (acts, did) =
    let line = λ (ws : List ℕ) (x : SegmentView). IsHostLine place ws x acts came w ⊎ IsMissing place x acts came w in
    let read : line plain v = subst (λ (ws : List ℕ). line ws v) same did in
    let mine : line plain play.segment = subst (λ (x : SegmentView). line plain x) (sym e) read in
    let named_so : slice_get play.names place ≡ Some host =
    subst (λ (xs : List (List ℕ)). slice_get xs place ≡ Some host) (sym f) there in (
      acts,
      subst (λ b. IsDone play (if_there b host) plain acts came w old) (sym is)
          (sym f, inl (place, named_so, mine)),
    )

pub done_by_none : (play : WirePlay) (named : Bool) (host plain : List ℕ) (v : SegmentView) (old : List (List ℕ))
    → play.segment ≡ v → play.names ≡ old → named ≡ true
    → (acts : List Act) × IsDone play (if_there named host) plain acts (Refused fault.NoHost) v old
done_by_none play named host plain v old e f is = (
  [],
  subst (λ b. IsDone play (if_there b host) plain [] (Refused fault.NoHost) v old) (sym is)
      (sym f, inr (refl, sym e, refl)),
)

-- a line that names no host and has no request does nothing
pub done_by_nobody : (play : WirePlay) (named : Bool) (host plain : List ℕ) (v : SegmentView) (old : List (List ℕ))
    → play.segment ≡ v → play.names ≡ old → named ≡ false → AsksWire plain None
    → (acts : List Act) × IsDone play (if_there named host) plain acts (Refused fault.Nothing) v old
done_by_nobody play named host plain v old e f is none = (
  [],
  subst (λ b. IsDone play (if_there b host) plain [] (Refused fault.Nothing) v old) (sym is)
      (sym e, (None, none, (refl, refl), names_kept play.names old (sym f))),
)

-- a part of a line with this reading
pub reported_part : (now new : WirePlay) (host : Option (List ℕ)) (ticks before : ℕ) (read is : Reading) (acts : List
    Act)
    (text : List ℕ) → read ≡ is → ReportsPart now host ticks before is acts text new
    → ReportsPart now host ticks before read acts text new
reported_part now new host ticks before read is acts text same reports =
    subst (λ (r : Reading). ReportsPart now host ticks before r acts text new) (sym same) reports

-- a line with this time
pub reported_timed : (old now new : WirePlay) (line : List ℕ) (t : Result TimedView SyntaxError) (acts : List Act) (text : List
    ℕ)
    → now ≡ next_wire_line line old → t ≡ timed line → ReportsTimed now line t acts text new → Reports old line text new
reported_timed old now new line t acts text counted is reports = (
  acts,
  subst (λ (r : Result TimedView SyntaxError). ReportsTimed (next_wire_line line old) line r acts text new) is
      (subst (λ (p : WirePlay). ReportsTimed p line t acts text new) counted reports),
)

-- ticks that pass before a line
pub waited_none : (n : ℕ) (v : SegmentView) → n ≡ 0 → (acts : List Act) × IsWaited n v acts v
waited_none zero v none = ([], (refl, refl))
waited_none (suc n) v none = absurd (omega (arith, none))

pub waited_some : (n : ℕ) (v w : SegmentView) → (n ≡ 0 → ⊥) → AreLedTo v w
    → (acts : List Act) × IsWaited n v acts w
waited_some zero v w some led = absurd (some refl)
waited_some (suc n) v w some led = led

pub nothing_more : (old : List ℕ) → old ≡ old ++ []
nothing_more [] = refl
nothing_more (x ∷ xs) = ap (λ ys. x ∷ ys) (nothing_more xs)

pub and_false : (b : Bool) → false ≡ (b && false)
and_false true = refl
and_false false = refl

-- ---- the objects after that of a line

pub not_both : {A : Type 0} → (b : Bool) → b ≡ true → b ≡ false → A
not_both b t f = absurd (never (sym f ∙ t))
  where
    never : false ≡ true → ⊥
    never e = cc

-- Whole scripts.
use Rattle.std.proofs.Common.{◌≡◌, inl, inr, ℕ, zero, suc, List, [], ◌∷◌, ◌++◌, map, Option, Some, None, Result, Ok, Err, refl, sym, ap, subst}
use Rattle.play_line.specs.Time.{TimedView, timed}
use Rattle.play_line.specs.declared.fault.SyntaxError.{SyntaxError}
use Rattle.play_script.specs.Lines.{Reading, Nothing, TooLong, Faulty, Asks, reading_part}
use Rattle.script_loop.specs.Printed.{Prints}
use Rattle.std.specs.Prelude.{slice_get}
use Rattle.flat_ether.specs.Links.{LinkState}
use Rattle.segment.specs.Law.{Act, QueriesError, Calls, Ether, ReceivesFrame, Seeds, AreActs, IsAct}
use Rattle.segment.specs.Segment.{SegmentView}
use Rattle.play_wire.specs.Acts.{Outcome, IsStackLine}
use Rattle.play_wire.specs.Links.{DoesAtLink, DoesLink, IsHostLine, LinkAsk, Frame, LastError, Neighbours, Counts, Ticks, Packets}
use Rattle.play_wire.specs.Runs.{AreReportedBy, IsLawful, IsPlayed}
use Rattle.play_text.specs.declared.form.Form.{Form}
use Rattle.play_wire.specs.Reports.{WirePlay, Reports, ReportsPart, ReportsTimed, IsDone, IsWaited, next_wire_line, wire_started}
use Rattle.play_wire.proofs.ActLemmas.{acts_append, calls_are_acts}

none_are : (v w : SegmentView) (acts : List Act) → acts ≡ [] → w ≡ v → AreActs v acts w
none_are v w acts none same = subst (λ (xs : List Act). AreActs v xs w) (sym none) same

stack_acts : (place : ℕ) (plain : List ℕ) (v w : SegmentView) (acts : List Act) (came : Outcome)
    → IsStackLine place plain v acts came w → AreActs v acts w
stack_acts place plain v w acts came is =
    subst (λ (xs : List Act). AreActs v xs w) (sym is.acts_are)
    (subst (λ (x : SegmentView). AreActs v (map (Calls place) is.turns) x) (sym is.leads)
    (calls_are_acts place v is.turns is.before is.after is.here is.answered.2))

one_is : (v w : SegmentView) (acts : List Act) (act : Act) → acts ≡ act ∷ [] → IsAct v act w → AreActs v acts w
one_is v w acts act one is = subst (λ (xs : List Act). AreActs v xs w) (sym one) (w, is, refl)

at_link_acts : (place : ℕ) (v w : SegmentView) (acts : List Act) (came : Outcome) (ask : LinkAsk) (link : LinkState)
    → DoesAtLink place ask link v acts came w → AreActs v acts w
at_link_acts place v w acts came (Frame frame) link (s, t, l, m, old, new, is, acts_are, reported) =
    one_is v w acts (Ether (ReceivesFrame place frame)) acts_are is
at_link_acts place v w acts came (LastError fd) link (error, is, acts_are, reported) =
    one_is v w acts (Ether (QueriesError place fd error)) acts_are is
at_link_acts place v w acts came Neighbours link (none, reported, same) = none_are v w acts none same
at_link_acts place v w acts came Counts link (none, reported, same) = none_are v w acts none same
at_link_acts place v w acts came (Ticks n) link (are, acts_are, reported) = are
at_link_acts place v w acts came Packets link (none, refused, same) = none_are v w acts none same

link_acts : (place : ℕ) (v w : SegmentView) (acts : List Act) (came : Outcome) (ask : LinkAsk)
    (link : Option LinkState)
    → DoesLink place ask link v acts came w → AreActs v acts w
link_acts place v w acts came ask None (none, refused, same) = none_are v w acts none same
link_acts place v w acts came ask (Some link) does = at_link_acts place v w acts came ask link does

host_acts : (place : ℕ) (plain : List ℕ) (v w : SegmentView) (acts : List Act) (came : Outcome)
    → IsHostLine place plain v acts came w → AreActs v acts w
host_acts place plain v w acts came (inl (others, is)) = stack_acts place plain v w acts came is
host_acts place plain v w acts came (inr (ask, writes, for_link, does)) =
    link_acts place v w acts came ask (slice_get v.links place) does

done_acts : (now : WirePlay) (host : Option (List ℕ)) (plain : List ℕ) (acts : List Act) (came : Outcome)
    (segment : SegmentView) (names : List (List ℕ))
    → IsDone now host plain acts came segment names → AreActs now.segment acts segment
done_acts now None plain acts came segment names done = done.0
done_acts now (Some host) plain acts came segment names (same, inl (place, named, inl is)) =
    host_acts place plain now.segment segment acts came is
done_acts now (Some host) plain acts came segment names (same, inl (place, named, inr missing)) =
    none_are now.segment segment acts missing.1 missing.3
done_acts now (Some host) plain acts came segment names (same, inr (none, kept, refused)) =
    none_are now.segment segment acts none kept

waited_acts : (n : ℕ) (v w : SegmentView) (acts : List Act) → IsWaited n v acts w → AreActs v acts w
waited_acts zero v w acts (none, same) = none_are v w acts none same
waited_acts (suc n) v w acts are = are

part_acts : (now new : WirePlay) (host : Option (List ℕ)) (ticks before : ℕ) (line : Reading) (acts : List Act)
    (text : List ℕ)
    → ReportsPart now host ticks before line acts text new → AreActs now.segment acts new.segment
part_acts now new host ticks before Nothing acts text (none, is, same) =
    none_are now.segment new.segment acts none (ap (λ (p : WirePlay). p.segment) same)
part_acts now new host ticks before TooLong acts text (none, is, same) =
    none_are now.segment new.segment acts none (ap (λ (p : WirePlay). p.segment) same)
part_acts now new host ticks before (Faulty error) acts text (none, is, same) =
    none_are now.segment new.segment acts none (ap (λ (p : WirePlay). p.segment) same)
part_acts now new host ticks before (Asks shown plain wanted) acts text
    (first, rest, mid, joined, waited, (came, segment, names, done, is, same)) =
    subst (λ (v : SegmentView). AreActs now.segment acts v) (sym (ap (λ (p : WirePlay). p.segment) same))
    (subst (λ (xs : List Act). AreActs now.segment xs segment) (sym joined)
    (acts_append now.segment mid segment first rest (waited_acts ticks now.segment mid first waited)
    (done_acts (record now { segment = mid }) host plain rest came segment names done)))

timed_acts : (now new : WirePlay) (line : List ℕ) (t : Result TimedView SyntaxError) (acts : List Act) (text : List ℕ)
    → ReportsTimed now line t acts text new → AreActs now.segment acts new.segment
timed_acts now new line (Err error) acts text (none, is, same) =
    none_are now.segment new.segment acts none (ap (λ (p : WirePlay). p.segment) same)
timed_acts now new line (Ok t) acts text (host, part, parted, reports) =
    part_acts now new host t.ticks _ (reading_part line part) acts text reports

-- the output for lines, with the acts that caused it
pub reported_by_acts : (old new : WirePlay) (lines : List (List ℕ)) (printed : List ℕ) → Prints Reports old lines
    printed new
    → (acts : List Act) × AreReportedBy old lines acts printed new × AreActs old.segment acts new.segment
reported_by_acts old new [] printed (same, none) = ([], (refl, none, same), ap (λ (p : WirePlay). p.segment) same)
reported_by_acts old new (line ∷ lines) printed (mid, text, more, (first, reports), later, joined) =
    let rest = reported_by_acts mid new lines more later in (
      first ++ rest.0,
      (mid, first, rest.0, text, more, reports, rest.1, refl, joined),
      acts_append old.segment mid.segment new.segment first rest.0
          (timed_acts (next_wire_line line old) mid line (timed line) first text reports) rest.2,
    )

pub played : (seed : ℕ) (form : Form) (name : List ℕ) (new : WirePlay) (lines : List (List ℕ)) (printed : List ℕ)
    → ((acts : List Act) → IsLawful acts new.segment) → Prints Reports (wire_started seed form name) lines printed new
    → IsPlayed seed form name lines printed new
played seed form name new lines printed law prints =
    let made = reported_by_acts (wire_started seed form name) new lines printed prints in
    record {
      acts = made.0;
      reported = made.1;
      done = ((wire_started seed form name).segment, refl, made.2);
      lawful = law (Seeds seed ∷ made.0);
    }

-- Two hosts on one Ethernet without end are two machines on one wire without end.
use Rattle.std.proofs.Common.{◌≡◌, ℕ, List, [], ◌∷◌, length, refl, sym, ap, ◌∙◌, subst}
use Rattle.std.specs.List.{AllByRecursion as Each, cons_option}
use Rattle.std.proofs.lemmas.List.Elements.{All-from_recursion, recursion_from_All}
use Rattle.flat_model.specs.Machine.Ledger.{exact_ledger}
use Rattle.flat_model.specs.Machine.State.{boot}
use Rattle.flat_model.specs.Runs.Run.{Turn, Leads}
use Rattle.flat_model.specs.declared.config.Config.{Config}
use Rattle.flat_wire.specs.Ever.{AreNear, AreWiredForEver, AreWiredWhole, IsMadeBySend, IsShortSend}
use Rattle.flat_wire.specs.Trail.{PassedStep, trail_turns}
use Rattle.flat_wire.specs.Wire.{ComesFrom}
use Rattle.flat_ether.specs.Ever.{ArePassed, AreOnEthernetForEver, AreOnEthernetWhole, PassedAct, acts_passed, step_by, steps_of_acts, turn_of_act, turns_of_acts}
use Rattle.flat_ether.specs.Hosts.{HostAct, AreHostActs, Host, IsHostAct, host_up}
use Rattle.flat_ether.specs.Laws.{MakesTurns}
use Rattle.flat_ether.specs.declared.link.Link.{Link}
use Rattle.flat_ether.proofs.Marked.{AreMarked, IsMute, all_arrive, all_near, all_steps, all_turns_hold, made_among, seen_before, seen_turns, turns_of_steps}
use Rattle.flat_ether.proofs.Runs.{MakesSteps, steps_done, turns_done}
use Rattle.flat_ether.proofs.Two.{carried}

-- the acts, with the hosts between them
abbrev pub done_of : (old : Host) (passed : List PassedAct) (new : Host) → ArePassed old passed new
    → AreHostActs old (acts_passed passed) new
done_of old [] new e = e
done_of old (p ∷ later) new (at, is, rest) =
    (p.new, subst (λ (h : Host). IsHostAct h p.act p.new) at is, done_of p.new later new rest)

steps_are : (c : Config) (l : Link) (old : Host) (passed : List PassedAct) (new : Host) (h : ArePassed old passed new)
    → steps_done c l old (acts_passed passed) new (done_of old passed new h) ≡ steps_of_acts c l.mac passed
steps_are c l old [] new e = refl
steps_are c l old (p ∷ later) new (at, is, rest) =
    ap (λ (h : Host). cons_option (step_by (turn_of_act c l.mac p.act) h.machine p.new.machine)
    (steps_done c l p.new (acts_passed later) new (done_of p.new later new rest))) (sym at)
    ∙ ap (cons_option (step_by (turn_of_act c l.mac p.act) p.old.machine p.new.machine))
    (steps_are c l p.new later new rest)

pub whole : (c d : Config) (l m : Link) (sent came : List HostAct) (s t : Host)
    (w : AreOnEthernetWhole c d l m sent came s t)
    (a : MakesSteps c l sent s (steps_done c l (host_up c l) sent s w.first_acts)) (b : MakesTurns d m came t)
    → AreWiredWhole exact_ledger exact_ledger c d a.makes.turns b.turns s.machine t.machine
whole c d l m sent came s t w a b = record {
  first_boots = w.first_boots;
  second_boots = w.second_boots;
  first_runs = a.makes.leads;
  second_runs = b.leads;
  not_addr = w.not_addr;
  not_bcast = w.not_bcast;
  whole =
      All-from_recursion (λ (turn : Turn). IsShortSend c.mtu turn.event) a.makes.turns
      (subst (Each (λ (turn : Turn). IsShortSend c.mtu turn.event)) a.steps.turns_are
      (all_turns_hold (λ (turn : Turn). IsShortSend c.mtu turn.event) short a.steps.all a.steps.marked
      (subst (Each (λ (turn : Turn). IsShortSend c.mtu turn.event))
      (sym (ap trail_turns a.steps.shown_are ∙ turns_done c l (host_up c l) sent s w.first_acts))
      (recursion_from_All _ (turns_of_acts c l.mac sent) w.whole))));
  wire = carried c d l m sent came s t a.makes b w.wire;
}
  where
    short : (p : PassedStep) → IsMute p → IsShortSend c.mtu p.turn.event
    short p mute = subst (IsShortSend c.mtu) (sym mute.event) tt

pub endless : (c d : Config) (l m : Link) (sent : List PassedAct) (came : List HostAct) (s t : Host) (born : ℕ → ℕ)
    (w : AreOnEthernetForEver c d l m sent came s t born)
    (a : MakesSteps c l (acts_passed sent) s
    (steps_done c l (host_up c l) (acts_passed sent) s (done_of (host_up c l) sent s w.first_acts)))
    (turns : List Turn) → Leads exact_ledger (boot d) turns t.machine → (shown : List PassedStep)
    → trail_turns shown ≡ turns_of_acts d m.mac came → (b : AreMarked exact_ledger (boot d) turns t.machine shown)
    → AreWiredForEver exact_ledger exact_ledger c d (all_steps a.steps.all) turns s.machine t.machine
    (λ k. born (seen_before b.all k))
endless c d l m sent came s t born w a turns leads shown shown_are b = record {
  first_boots = w.first_boots;
  second_boots = w.second_boots;
  first_runs = a.steps.trail;
  second_runs = leads;
  not_addr = w.not_addr;
  not_bcast = w.not_bcast;
  wire = λ before after turn packet e comes from.
      made_among a.steps.all (born (seen_before b.all (length before))) packet a.steps.marked
      (subst (λ (ps : List PassedStep). IsMadeBySend ps (born (seen_before b.all (length before))) packet)
      (sym (a.steps.shown_are ∙ steps_are c l (host_up c l) sent s w.first_acts))
      (all_arrive b.all b.marked (λ k x. IsMadeBySend (steps_of_acts c l.mac sent) (born k) x) (ComesFrom c.addr)
      (λ earlier later y x f. w.wire earlier later y x (sym seen ∙ f)) before after turn packet (b.turns_are ∙ e) comes
      from));
  near =
      subst (λ (ts : List Turn). AreNear c.addr ts (λ k. born (seen_before b.all k))) b.turns_are
      (all_near b.all b.marked c.addr born
      (subst (λ (ts : List Turn). AreNear c.addr ts born) (sym seen) w.near));
}
  where
    seen : seen_turns b.all ≡ turns_of_acts d m.mac came
    seen = ap trail_turns b.shown_are ∙ shown_are

-- the first host's turns are those of its trail
pub turns_are : (c : Config) (l : Link) (acts : List HostAct) (new : Host) (shown : List PassedStep)
    (a : MakesSteps c l acts new shown) → trail_turns (all_steps a.steps.all) ≡ a.makes.turns
turns_are c l acts new shown a = turns_of_steps a.steps.all ∙ a.steps.turns_are

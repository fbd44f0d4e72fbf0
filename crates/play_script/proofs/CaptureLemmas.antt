-- What turns add to a capture.
use Rattle.std.proofs.Common.{◌≡◌, ℕ, zero, suc, ◌-◌, ◌<◌, ◌≤◌, Bool, true, false, List, [], ◌∷◌, ◌++◌, flat_map, map, replicate, Option, refl, sym, ap, ◌∙◌, arith, subst, append-nil, append_assoc}
use Rattle.std.proofs.KnownBytes.{Appends-nil}
use Rattle.std.proofs.lemmas.List.{map-append}
use Rattle.std.proofs.lemmas.List.Concat.{flat_map-append}
use Rattle.flat_model.specs.Machine.Event.{Event, Reply, Set_limit, Tick}
use Rattle.flat_model.specs.Runs.Run.{Turn}
use Rattle.capture.specs.Records.{Captured, record_bytes}
use Rattle.capture.specs.declared.pcap.header.Order.TheVariants.{Little}
use Rattle.play_pcap.specs.Traces.{Keeps, Pass, SentAfter, Traced, later, pass_bytes, passes_bytes, record_of}
use Rattle.play_script.proofs.ActionLemmas.{ticks_move}
use Rattle.play_script.specs.Actions.{moved_in, turns_with}
use Rattle.play_script.specs.Captures.{Captures, Logs, after_ticks, all_passes, later_by, moved_by, pass_if, passes, tick_in, ticks_after, ticks_by, turn_of}
use Rattle.play_script.specs.Inside.{events_of, ticks_of}
use Rattle.play_script.specs.declared.action.Action.{Action}
use Rattle.play_script.specs.declared.action.Action.TheVariants.{Call, Limit, Ticks}
use Rattle.request.specs.Requests.{event_of}

-- ---- what is written

none_sent : (whole : Bool) (wrote : Option (List ℕ)) → SentAfter whole whole wrote wrote []
none_sent true wrote = Appends-nil wrote
none_sent false wrote = (refl, refl)

pub Keeps-none : (t : Traced) → Keeps t t []
Keeps-none t = none_sent t.whole t.wrote

pub passes_bytes-append : (xs ys : List Pass) → passes_bytes (xs ++ ys) ≡ passes_bytes xs ++ passes_bytes ys
passes_bytes-append xs ys =
    ap (λ (cs : List Captured). flat_map (record_bytes Little) cs) (map-append record_of xs ys)
    ∙ flat_map-append (record_bytes Little) (map record_of xs) (map record_of ys)

-- one packet
pub Keeps-one : (old new : Traced) (p : Pass) → Keeps old new (pass_bytes p) → Keeps old new (passes_bytes (p ∷ []))
Keeps-one old new p h = subst (λ (bytes : List ℕ). Keeps old new bytes) (sym (append-nil (pass_bytes p))) h

-- ---- ticks

pub after-none : (n : ℕ) (t : Traced) → n ≤ 0 → after_ticks n t ≡ t
after-none zero t none = refl
after-none (suc n) t none = absurd (omega (arith, none))

-- one tick before others
pub after-tick : (n m : ℕ) (old new : Traced) → 0 < n → m ≡ n - 1
    → new.ticks ≡ later old.ticks → new.whole ≡ old.whole → new.wrote ≡ old.wrote
    → after_ticks m new ≡ after_ticks n old
after-tick zero m old new some is t w b = absurd (omega (arith, some))
after-tick (suc n) m old new some is t w b =
    let less : m ≡ n = omega arith in rw (less, t, w, b) refl

-- after a packet
pub Logs-ticks : (number n : ℕ) (old mid new : Traced) (moved : Option (List ℕ)) → Logs number old moved 0 mid
    → new ≡ after_ticks n mid → Logs number old moved n new
Logs-ticks number n old mid new moved h is =
    subst (λ (t : Traced). Logs number old moved n t) (sym is) (h.0, ap (λ (t : ℕ). later_by n t) h.1)

ticks_pass : (number n t : ℕ) (reply : Reply) → passes number t (turns_with (replicate n Tick) reply) ≡ []
ticks_pass number zero t reply = refl
ticks_pass number (suc n) t reply = ticks_pass number n (later t) reply

ticks_later : (n t : ℕ) (reply : Reply) → later_by n t ≡ ticks_after t (turns_with (replicate n Tick) reply)
ticks_later zero t reply = refl
ticks_later (suc n) t reply = ticks_later n (later t) reply

-- ---- a line

-- one event
pub Captures-one : (number : ℕ) (old new : Traced) (event : Event) (reply : Reply) (moved : Option (List ℕ)) (n : ℕ)
    → moved ≡ moved_by event reply → n ≡ tick_in event → Logs number old moved n new
    → Captures number old (turn_of event reply ∷ []) new
Captures-one number old new event reply moved n is ticks h = (
  subst (λ (ps : List Pass). Keeps old new (passes_bytes ps))
      (sym (append-nil (pass_if old.ticks number (moved_by event reply))))
      (subst (λ (m : Option (List ℕ)). Keeps old new (passes_bytes (pass_if old.ticks number m))) is h.0),
  subst (λ (k : ℕ). new.ticks ≡ later_by k old.ticks) ticks h.1,
)

-- the action of a line
pub Captures-action : (number : ℕ) (old new : Traced) (action : Action) (reply : Reply) (moved : Option (List ℕ)) (n :
    ℕ)
    → moved ≡ moved_in (events_of action) reply → n ≡ ticks_of action → Logs number old moved n new
    → Captures number old (turns_with (events_of action) reply) new
Captures-action number old new (Call request) reply moved n is ticks h =
    Captures-one number old new (event_of request) reply moved n is ticks h
Captures-action number old new (Limit fd limit) reply moved n is ticks h =
    Captures-one number old new (Set_limit fd limit) reply moved n is ticks h
Captures-action number old new (Ticks count) reply moved n is ticks h = (
  subst (λ (ps : List Pass). Keeps old new (passes_bytes ps)) (sym (ticks_pass number count old.ticks reply))
      (subst (λ (m : Option (List ℕ)). Keeps old new (passes_bytes (pass_if old.ticks number m)))
      (is ∙ ticks_move count reply) h.0),
  subst (λ (k : ℕ). new.ticks ≡ later_by k old.ticks) ticks h.1 ∙ ticks_later count old.ticks reply,
)

-- ---- lines one after another

abbrev pub Joins : Type 0
Joins = (old mid new : Traced) (a b : List ℕ) → Keeps old mid a → Keeps mid new b → Keeps old new (a ++ b)

-- ---- turns one after another

passes-append : (number t : ℕ) (first rest : List Turn)
    → passes number t (first ++ rest) ≡ passes number t first ++ passes number (ticks_after t first) rest
passes-append number t [] rest = refl
passes-append number t (turn ∷ first) rest =
    let now : List Pass = pass_if t number (moved_by turn.event turn.reply) in
    let later : ℕ = ticks_by turn.event t in
    ap (λ (ps : List Pass). now ++ ps) (passes-append number later first rest)
    ∙ sym (append_assoc now (passes number later first) (passes number (ticks_after later first) rest))

ticks_after-append : (t : ℕ) (first rest : List Turn)
    → ticks_after t (first ++ rest) ≡ ticks_after (ticks_after t first) rest
ticks_after-append t [] rest = refl
ticks_after-append t (turn ∷ first) rest = ticks_after-append (ticks_by turn.event t) first rest

pub Captures-more : Joins → (number : ℕ) (old mid new : Traced) (first rest : List Turn)
    → Captures number old first mid → Captures number mid rest new → Captures number old (first ++ rest) new
Captures-more join number old mid new first rest before after =
    let front : List Pass = passes number old.ticks first in
    let back : List Pass = passes number (ticks_after old.ticks first) rest in
    let later : Keeps mid new (passes_bytes back) =
    subst (λ (t : ℕ). Keeps mid new (passes_bytes (passes number t rest))) before.1 after.0 in (
      subst (λ (ps : List Pass). Keeps old new (passes_bytes ps)) (sym (passes-append number old.ticks first rest))
          (subst (λ (bytes : List ℕ). Keeps old new bytes) (sym (passes_bytes-append front back))
          (join old mid new (passes_bytes front) (passes_bytes back) before.0 later)),
      after.1 ∙ ap (λ (t : ℕ). ticks_after t rest) before.1 ∙ sym (ticks_after-append old.ticks first rest),
    )

-- a line before others
pub Captures-join : Joins → (number m : ℕ) (old mid new : Traced) (first : List Turn) (rest : List (List Turn))
    → m ≡ number
    → Captures number old first mid → Keeps mid new (passes_bytes (all_passes m mid.ticks rest))
    → Keeps old new (passes_bytes (passes number old.ticks first
    ++ all_passes number (ticks_after old.ticks first) rest))
Captures-join join number m old mid new first rest is captured kept =
    let later_kept : Keeps mid new (passes_bytes (all_passes number (ticks_after old.ticks first) rest)) =
    subst (λ (t : ℕ). Keeps mid new (passes_bytes (all_passes number t rest))) captured.1
    (subst (λ (k : ℕ). Keeps mid new (passes_bytes (all_passes k mid.ticks rest))) is kept) in
    subst (λ (bytes : List ℕ). Keeps old new bytes)
    (sym (passes_bytes-append (passes number old.ticks first) (all_passes number (ticks_after old.ticks first) rest)))
    (join old mid new _ _ captured.0 later_kept)

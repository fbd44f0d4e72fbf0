-- The lines of one host.
use Rattle.std.proofs.Common.{◌≡◌, ℕ, Bool, List, [], ◌∷◌, map, Some, refl, sym, ap, subst}
use Rattle.flat_model.specs.Amounts.Choice.{Choice}
use Rattle.flat_model.specs.Machine.Event.{Event, Reply, Counted}
use Rattle.flat_model.specs.Machine.State.{State}
use Rattle.flat_model.specs.Machine.Step.{Step}
use Rattle.flat_model.specs.Runs.Run.{Turn}
use Rattle.flat_model.specs.Scripts.Texts.{reply_text}
use Rattle.flat_model.specs.declared.counters.Counters.{Counters}
use Rattle.net_stack.specs.Stack.{StackView, state_of}
use Rattle.play_script.specs.Asks.{Call, Writes}
use Rattle.play_script.proofs.Laws.{Calls-in_range}
use Rattle.play_script.specs.Actions.{Does}
use Rattle.play_script.specs.Outcomes.{reply_line, drops_between}
use Rattle.segment.specs.Law.{Calls}
use Rattle.segment.specs.Segment.{SegmentView}
use Rattle.play_wire.specs.Acts.{Outcome, Replied, IsLineExecuted, IsStackLine, call_turn}
use Rattle.play_wire.specs.Inside.{IsExchanged, IsKept}
use Rattle.play_wire.proofs.ActLemmas.{put_back}

-- the counters in a reply, or these if it has none
counts_of : Reply → Counters → Counters
counts_of (Counted counters) other = counters
counts_of _ other = other

pub counted_is : (a b : Counters) → Counted a ≡ Counted b → a ≡ b
unfolding counts_of
counted_is a b e = ap (λ r. counts_of r a) e

-- a call with a reply, and its effects
pub answered_by_call : (plain : List ℕ) (s t : StackView) (text below : List ℕ) (event : Event)
    (reply : Reply)
    → Writes plain (Call event) → Does Step (state_of s) (event ∷ []) reply (state_of t)
    → text ≡ reply_line (reply_text reply) (drops_between (state_of s) (state_of t))
    → (turns : List Turn) × IsLineExecuted plain s turns (Replied text below) t
answered_by_call plain s t text below event reply asks (mid, step, end) is = (
  call_turn event reply ∷ [],
  (
    Some (Call event),
    asks,
    (Calls-in_range plain event asks, t, subst (λ (m : State). Step (state_of s) event reply m) (sym end) step, refl),
    (reply, refl, (below, ap (λ (t : List ℕ). Replied t below) is)),
  ),
)

-- a line of a host, executed on its stack while another one is at the host's place
pub host_line : (place : ℕ) (plain : List ℕ) (v mid w : SegmentView) (spare s t other : StackView)
    (came : Outcome) (turns : List Turn) (b : Bool)
    → IsExchanged place v spare mid s → IsLineExecuted plain s turns came t
    → Choice b (IsExchanged place mid t w other) (IsKept place mid w)
    → IsStackLine place plain v (map (Calls place) turns) came w
host_line place plain v mid w spare s t other came turns b first answered back =
    let put = put_back place v mid w spare s t other b first back in
    record { turns = turns; before = s; after = t; here = put.0; answered = answered; acts_are = refl; leads = put.1 }

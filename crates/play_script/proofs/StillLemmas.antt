-- Calls that change no counter: no packet is dropped by them.
use Rattle.std.proofs.Common.{◌≡◌, ℕ, ◌<◌, Bool, true, false, List, [], ◌∷◌, ◌++◌, flat_map, refl, sym, ap, ◌∙◌, subst, arith, Option, Some, None}
use Rattle.std.specs.Prelude.{nat_lt, if◌then◌else◌, codes}
use Rattle.std.proofs.lemmas.Bool.{false≢true, ltb-true}
use Rattle.flat_model.specs.Machine.Count.{counter_of, value_of}
use Rattle.flat_model.specs.Machine.Calls as Calls
use Rattle.flat_model.specs.Machine.Calls.{Refuses, OnSocket, GetsPort}
use Rattle.flat_model.specs.Machine.Event.{Event, Reply, Open, Bind, Connect, Send, Receive, Close, Set_option, Set_limit, Comes, Transmit, Tick, Ask_counters, Ask_usage, Counted}
use Rattle.flat_model.specs.Machine.State.{State, Socket, change_socket}
use Rattle.flat_model.specs.Machine.Step.{Step}
use Rattle.flat_model.specs.declared.address.Addr.{Addr}
use Rattle.flat_model.specs.declared.counters.Counters.{Counters}
use Rattle.flat_model.specs.declared.counters.Why.{Why}
use Rattle.flat_model.proofs.Laws.{by_choice, by_case}
use Rattle.play_show.specs.Changes.{IsSnapshot}
use Rattle.play_show.specs.declared.snapshot.Snapshot.{Snapshot}
use Rattle.play_script.specs.Actions.{Does}
use Rattle.play_script.specs.Inside.{is_still, is_still_action, events_of}
use Rattle.play_script.specs.Outcomes.{cause_text, drops_text, drops_between}
use Rattle.play_text.specs.Words.{all_causes, cause_words}
use Rattle.play_script.specs.declared.action.Action.{Action}
use Rattle.play_script.specs.declared.action.Action.TheVariants.{Call, Limit, Ticks}
use Rattle.stack_call.specs.Moves.{StackSteps}
use Rattle.request.specs.Requests.{event_of}

module _ (old new : State) (reply : Reply) where
  abbrev K : State → Type 0
  K s = s.counters ≡ old.counters

  refused : (mid : State) (errno : _) → K mid → Refuses errno mid reply new → K new
  refused mid errno k r = subst K (sym r.1) k

  named : (mid chosen : State) (local asked : Option ℕ) (port : ℕ) → K mid → GetsPort mid local asked port chosen
      → K chosen
  named mid chosen local (Some n) port k g = subst K (sym g.1) k
  named mid chosen local None port k g = subst K (sym g.1) k

  on : (fd : ℕ) (P : Socket → Type 0) → ((me : Socket) → P me → K new) → OnSocket fd old reply new P → K new
  on fd P goes h = by_case h (λ e r. refused old _ refl r) (λ me e call. goes me call)

  binds : (fd : ℕ) (a : Addr) (me : Socket) → Calls.Binds fd a me old reply new → K new
  binds fd a me h = by_case h
      (λ e (port, chosen, g, answer, n). subst K (sym n) (named old chosen _ _ port refl g))
      (λ errno e r. refused old errno refl r)

  connects : (fd : ℕ) (a : Addr) (me : Socket) → Calls.Connects fd a me old reply new → K new
  connects fd a me h = by_case h
      (λ e (port, chosen, g, answer, n).
      subst K (sym n) (named (change_socket fd Calls.disconnected old) chosen _ _ port refl g))
      (λ errno e r. refused (change_socket fd Calls.disconnected old) errno refl r)

  pub Still-counters : (event : Event) → is_still event ≡ true → Step old event reply new → K new
  Still-counters Open is h = by_choice h
      (λ e (fd, least, answer, n). subst K (sym n) refl) (λ e r. refused old _ refl r)
  Still-counters (Bind fd a) is h = on fd _ (λ me r. binds fd a me r) h
  Still-counters (Connect fd a) is h = on fd _ (λ me r. connects fd a me r) h
  Still-counters (Send fd to bytes) is h = absurd (false≢true is)
  Still-counters (Receive fd most) is h = absurd (false≢true is)
  Still-counters (Close fd) is h = absurd (false≢true is)
  Still-counters (Set_option fd option on') is h = on fd _ (λ me r. subst K (sym r.1) refl) h
  Still-counters (Set_limit fd limit) is h = on fd _ (λ me r. subst K (sym r.1) refl) h
  Still-counters (Comes packet) is h = absurd (false≢true is)
  Still-counters Transmit is h = absurd (false≢true is)
  Still-counters Tick is h = absurd (false≢true is)
  Still-counters Ask_counters is h = subst K (sym h.1) refl
  Still-counters Ask_usage is h = subst K (sym h.3) refl

below_itself : (n : ℕ) → nat_lt n n ≡ false
below_itself n = go (nat_lt n n) refl
  where
    go : (b : Bool) → nat_lt n n ≡ b → nat_lt n n ≡ false
    go true e = absurd (omega (arith, ltb-true n n e))
    go false e = e

no_drop : (cs : Counters) (whys : List Why) → flat_map (cause_text cs cs) whys ≡ []
no_drop cs [] = refl
no_drop cs (why ∷ whys) = go (nat_lt (value_of (counter_of why) cs) (value_of (counter_of why) cs))
    (below_itself (value_of (counter_of why) cs)) ∙ no_drop cs whys
  where
    go : (b : Bool) → b ≡ false
        → (if b then codes " dropped " ++ cause_words why else []) ++ flat_map (cause_text cs cs) whys
        ≡ flat_map (cause_text cs cs) whys
    go false e = refl
    go true e = absurd (false≢true (sym e))

-- the counters are the same before and after
no_drops : (old new : State) → new.counters ≡ old.counters → drops_between old new ≡ []
no_drops old new e = subst (λ (cs : Counters). drops_text old.counters cs ≡ []) (sym e) (no_drop old.counters all_causes)

pub Still-drops : (action : Action) (old new : State) (reply : Reply) → is_still_action action ≡ true
    → Does StackSteps old (events_of action) reply new → drops_between old new ≡ []
unfolding StackSteps
Still-drops (Call request) old new reply is (mid, step, end) =
    no_drops old new (ap (λ (s : State). s.counters) end ∙ Still-counters old mid reply (event_of request) is step)
Still-drops (Limit fd limit) old new reply is (mid, step, end) =
    no_drops old new (ap (λ (s : State). s.counters) end ∙ Still-counters old mid reply (Set_limit fd limit) refl step)
Still-drops (Ticks n) old new reply is does = absurd (false≢true is)

same_counters : (c d : Counters) → Counted c ≡ Counted d → c ≡ d
same_counters c d e = cc

-- the causes that two snapshots show
pub Snapshot-drops : (old new : State) (before after : Snapshot) → IsSnapshot StackSteps old before
    → IsSnapshot StackSteps new after → drops_text before.counters after.counters ≡ drops_between old new
unfolding StackSteps
Snapshot-drops old new before after was now =
    ap (λ (cs : Counters). drops_text cs after.counters) (same_counters before.counters old.counters (was.counters).0)
    ∙ ap (λ (cs : Counters). drops_text old.counters cs) (same_counters after.counters new.counters (now.counters).0)

-- Every event but an arrival, a send and a tick keeps the unfinished datagrams, the counters and the configuration.
use Rattle.std.proofs.Common.{◌≡◌, ℕ, List, [], ◌∷◌, sym, subst, Option, Some, None}
use Rattle.std.specs.Prelude.{⊤}
use Rattle.flat_model.specs.Amounts.Weight.{Item}
use Rattle.flat_model.specs.Machine.Event.{Event, Reply, Open, Bind, Connect, Send, Receive, Close, Set_option, Set_limit, Comes, Transmit, Tick, Ask_counters, Ask_usage}
use Rattle.flat_model.specs.declared.config.Config.{Config}
use Rattle.flat_model.specs.declared.counters.Counters.{Counters}
use Rattle.flat_model.specs.declared.errno.Errno.{Errno}
use Rattle.flat_model.specs.Machine.State.{State, Socket, Datagram, Unfinished, socket_at}
use Rattle.flat_model.specs.Machine.Calls as Calls
use Rattle.flat_model.specs.Machine.Calls.{OnSocket, GetsPort, Refuses}
use Rattle.flat_model.specs.Machine.Ledger.{Ledger}
use Rattle.flat_model.specs.Machine.Step.{StepBy, Transmits}
use Rattle.flat_model.proofs.Laws.{by_choice, by_case}

module _ (L : Ledger) (U : Config → List Unfinished → Counters → Type 0) where
  abbrev pub K : State → Type 0
  K s = U s.config s.unfinished s.counters

  pub refuses : (old new : State) (reply : Reply) (errno : Errno) → K old → Refuses errno old reply new → K new
  refuses old new reply errno k h = subst K (sym h.1) k

  pub gets : (old new : State) (local asked : Option ℕ) (port : ℕ) → K old → GetsPort old local asked port new → K new
  gets old new local (Some q) port k h = subst K (sym h.1) k
  gets old new local None port k h = subst K (sym h.1) k

  pub on_fd : (fd : ℕ) (old new : State) (reply : Reply) (Call : Socket → Type 0) → K old
      → OnSocket fd old reply new Call
      → ((me : Socket) → socket_at fd old ≡ Some me → Call me → K new) → K new
  on_fd fd old new reply Call k h goes = by_case h (λ e r. refuses old new reply _ k r) goes

  pub receives : (fd most : ℕ) (queue : List Datagram) (old new : State) (reply : Reply) → K old
      → Calls.Receives fd most queue old reply new → K new
  receives fd most [] old new reply k h = refuses old new reply _ k h
  receives fd most (d ∷ later) old new reply k h = subst K (sym h.1) k

  pub transmits : (output : List Item) (old new : State) (reply : Reply) → K old → Transmits output old reply new
      → K new
  transmits [] old new reply k h = subst K (sym h.1) k
  transmits (item ∷ later) old new reply k h = subst K (sym h.1) k

  abbrev pub IsQuiet : Event → Type 0
  IsQuiet (Send fd to bytes) = ⊥
  IsQuiet (Comes packet) = ⊥
  IsQuiet Tick = ⊥
  IsQuiet _ = ⊤

  pub quiet : (event : Event) (reply : Reply) (old new : State) → IsQuiet event → K old
      → StepBy L old event reply new → K new
  quiet Open reply old new q k h =
      by_choice h (λ e (fd, least, answer, is). subst K (sym is) k) (λ e r. refuses old new reply _ k r)
  quiet (Bind fd a) reply old new q k h = on_fd fd old new reply _ k h (λ me at c. by_case c
      (λ e (port, chosen, g, answer, n). subst K (sym n) (gets old chosen _ _ port k g))
      (λ errno e r. refuses old new reply errno k r))
  quiet (Connect fd a) reply old new q k h = on_fd fd old new reply _ k h (λ me at c. by_case c
      (λ e (port, chosen, g, answer, n). subst K (sym n) (gets _ chosen _ _ port k g))
      (λ errno e r. refuses _ new reply errno k r))
  quiet (Send fd to bytes) reply old new q k h = absurd q
  quiet (Receive fd most) reply old new q k h =
      on_fd fd old new reply _ k h (λ me at r. receives fd most me.queue old new reply k r)
  quiet (Close fd) reply old new q k h = on_fd fd old new reply _ k h (λ me at r. subst K (sym r.1) k)
  quiet (Set_option fd option on) reply old new q k h =
      on_fd fd old new reply _ k h (λ me at r. subst K (sym r.1) k)
  quiet (Set_limit fd limit) reply old new q k h =
      on_fd fd old new reply _ k h (λ me at r. subst K (sym r.1) k)
  quiet (Comes packet) reply old new q k h = absurd q
  quiet Transmit reply old new q k h = transmits old.output old new reply k h
  quiet Tick reply old new q k h = absurd q
  quiet Ask_counters reply old new q k h = subst K (sym h.1) k
  quiet Ask_usage reply old new q k h = subst K (sym h.3) k

-- A datagram that goes to sockets: only copies that are lost are counted. If nothing can be said of a copy, there is no
-- such delivery.
use Rattle.std.proofs.Common.{◌≡◌, ℕ, List, [], ◌∷◌, map, Option, Some, None, sym, ◌∙◌, subst}
use Rattle.flat_model.specs.Amounts.Weight.{Weight, Item, ◌⊕◌}
use Rattle.flat_model.specs.Machine.Arrival as Arrival
use Rattle.flat_model.specs.Machine.Arrival.{Offered, Saying}
use Rattle.flat_model.specs.Machine.Ledger.{Ledger}
use Rattle.flat_model.specs.Machine.State.{State, Socket, ends}
use Rattle.flat_model.specs.declared.address.Addr.{Addr}
use Rattle.flat_model.specs.declared.counters.Why.{Why}
use Rattle.flat_model.specs.declared.counters.Why.TheVariants.{NoBufs, UdpFullSocket}
use Rattle.flat_model.proofs.Laws.{by_choice}
use Rattle.flat_fate.specs.Counted.{CountsLosses, CountsNone}
use Rattle.flat_fate.proofs.Counting.{full_loses, lack_loses}
use Rattle.flat_fate.proofs.Walk.{after_test}

after_none : (s t n : State) → CountsNone s t → CountsLosses t n → CountsLosses s n
after_none s t n same loses why full bufs = loses why full bufs ∙ same why

loses_there : (s n is : State) → n ≡ is → CountsLosses s is → CountsLosses s n
loses_there s n is e loses = subst (λ (t : State). CountsLosses s t) (sym e) loses

module _ (L : Ledger) (T : ℕ → Option Why → State → State → Type 0) where
  -- ---- copies of which nothing is said
  module _ (none : (fd : ℕ) (lack : Option Why) (new is : State) → T fd lack new is → ⊥) where
    never_appends : (fd : ℕ) (held : Weight) (sender : Addr) (item : Item) (to : Socket) (s n : State)
        → Arrival.AppendsAs L (T fd) held sender item to s n → ⊥
    never_appends fd held sender item to s n h =
        by_choice h
        (λ _ t. after_test L s (held ⊕ item.weight) 1 _ _ t (λ mid same e. none fd None n _ e)
        (λ mid same e. none fd (Some NoBufs) n _ e))
        (λ _ e. none fd (Some UdpFullSocket) n _ e)

    pub never : (held : Weight) (sender : Addr) (item : Item) (tos : List Socket) (s n : State)
        → Arrival.DeliversAs L T held sender item tos s n → ⊥
    never held sender item [] s n h = h
    never held sender item (last ∷ []) s n h = never_appends last.fd held sender item last s n h
    never held sender item (to ∷ next ∷ more) s n (after, t, later) = never held sender item (next ∷ more) after n later

  -- ---- copies of which at least the state is said
  module _ (state : (fd : ℕ) (lack : Option Why) (new is : State) → T fd lack new is → new ≡ is) where
    appends_losing : (fd : ℕ) (held : Weight) (sender : Addr) (item : Item) (to : Socket) (s n : State)
        → Arrival.AppendsAs L (T fd) held sender item to s n → CountsLosses s n
    appends_losing fd held sender item to s n h =
        by_choice h
        (λ _ t. after_test L s (held ⊕ item.weight) 1 _ _ t
        (λ mid same e. loses_there s n _ (state fd None n _ e) (λ why full bufs. same why))
        (λ mid same e. loses_there s n (ends NoBufs mid) (state fd (Some NoBufs) n _ e)
        (after_none s mid (ends NoBufs mid) same (lack_loses mid))))
        (λ _ e. loses_there s n (ends UdpFullSocket s) (state fd (Some UdpFullSocket) n _ e) (full_loses s))

    pub loses : (held : Weight) (sender : Addr) (item : Item) (tos : List Socket) (s n : State)
        → Arrival.DeliversAs L T held sender item tos s n → CountsLosses s n
    loses held sender item [] s n h = absurd h
    loses held sender item (last ∷ []) s n h = appends_losing last.fd held sender item last s n h
    loses held sender item (to ∷ next ∷ more) s n (after, t, later) =
        let here : CountsLosses s after =
        after_test L s (held ⊕ item.weight) item.weight.mbufs _ _ t
        (λ mid same a. after_none s mid after same
        (appends_losing to.fd (held ⊕ item.weight) sender item to mid after a))
        (λ mid same e. loses_there s after (ends NoBufs mid) (state to.fd (Some NoBufs) after _ e)
        (after_none s mid (ends NoBufs mid) same (lack_loses mid))) in
        let rest : CountsLosses after n = loses held sender item (next ∷ more) after n later in
        λ why full bufs. rest why full bufs ∙ here why full bufs

-- ---- the same of what is said of a packet's end

abbrev pub offered_to : Saying → Socket → List Socket → ℕ → Option Why → State → State → Type 0
offered_to S to more fd lack = S (Offered (map (λ (socket : Socket). socket.fd) (to ∷ more)) fd lack)

module _ (L : Ledger) (S : Saying) where
  pub no_offer : (P : State → State → Type 0)
      → ((fds : List ℕ) (fd : ℕ) (lack : Option Why) (new is : State) → S (Offered fds fd lack) new is → ⊥)
      → (held : Weight) (sender : Addr) (item : Item) (to : Socket) (more : List Socket) (s n : State)
      → Arrival.DeliversAs L (offered_to S to more) held sender item (to ∷ more) s n → P s n
  no_offer P none held sender item to more s n d =
      absurd (never L (offered_to S to more)
      (λ fd lack new is h. none (map (λ (socket : Socket). socket.fd) (to ∷ more)) fd lack new is h)
      held sender item (to ∷ more) s n d)

  pub some_offer : ((fds : List ℕ) (fd : ℕ) (lack : Option Why) (new is : State) → S (Offered fds fd lack) new is
      → new ≡ is)
      → (held : Weight) (sender : Addr) (item : Item) (to : Socket) (more : List Socket) (s n : State)
      → Arrival.DeliversAs L (offered_to S to more) held sender item (to ∷ more) s n → CountsLosses s n
  some_offer state held sender item to more s n d =
      loses L (offered_to S to more)
      (λ fd lack new is h. state (map (λ (socket : Socket). socket.fd) (to ∷ more)) fd lack new is h)
      held sender item (to ∷ more) s n d

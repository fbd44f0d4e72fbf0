-- Two machines on one wire without end: the log of the first gives the numbers.
use Rattle.std.proofs.Common.{◌≡◌, ◌≢◌, ℕ, ◌+◌, ◌%◌, ◌/◌, ◌^◌, ◌<◌, ◌≤◌, false, List, [], ◌∷◌, length, map, refl, sym, ap, subst, ◌⊎◌, inl, inr, arith, Option, Some, None}
use Rattle.std.specs.Prelude.{Contains}
use Rattle.std.specs.List.{AllByRecursion as Each}
use Rattle.flat_model.specs.Fragments.Cuts.{Part, cuts}
use Rattle.flat_model.specs.Machine.State.{IsConfig, State, Socket, Datagram, boot, loopback}
use Rattle.flat_model.specs.declared.config.Config.{Config}
use Rattle.flat_model.specs.declared.address.Addr.{Addr}
use Rattle.flat_model.specs.Machine.Ledger.{Ledger}
use Rattle.flat_model.specs.Machine.Sending.{Sending, datagram}
use Rattle.flat_model.specs.Runs.Run.{Turn, Leads}
use Rattle.flat_wire.specs.Wire.{IsAnswered}
use Rattle.flat_wire.proofs.Seen.{Seen, Member, older, sees, IsNearTo, Labelled, AreNear}
use Rattle.flat_model.specs.Machine.Event.{Event, Open, Bind, Connect, Send, Receive, Close, Set_option, Set_limit, Comes, Transmit, Tick, Ask_counters, Ask_usage}
use Rattle.std.proofs.lemmas.Option.{none-some}
use Rattle.flat_wire.proofs.Sendable.{IsSendable}
use Rattle.flat_wire.proofs.Recorded as Recorded
use Rattle.flat_wire.proofs.Recorded.{Among}
use Rattle.flat_wire.proofs.Numbers as Numbers
use Rattle.flat_wire.proofs.Ever as Ever

module _ (L M : Ledger) (first second : Config) (sent : List Turn) (s : State)
    (first_boots : IsConfig first) (recorded : Recorded.IsRecorded L first first_boots sent s)
    (not_addr : first.addr ≢ second.addr) (not_bcast : first.addr ≢ second.bcast) where
  abbrev pub at : ℕ → Sending
  at n = Numbers.at L first first_boots recorded.log n

  pub ids : (n : ℕ) → (at n).id ≡ (first.first_id + n) % 65536
  ids n = Numbers.ids L first first_boots recorded.log recorded.numbered n

  abbrev Answered : Sending → Type 0
  Answered x = IsAnswered L first sent s x.port x.to x.bytes

  -- a part of a send of the log
  pub record IsPart (x : Sending) (p : Part) : Type 0 where
    pub logged : Among recorded.log x
    pub sendable : IsSendable first.mtu x
    pub is_part : Contains (cuts (length (datagram x)) first.mtu) p
    pub answered : p.more ≡ false → IsAnswered L first sent s x.port x.to x.bytes

  pub not_loopback : loopback ≢ first.addr
  not_loopback e = first_boots.addr.no_loopback (ap (λ n. n / 2 ^ 24) (sym e))

  pub low : 28 ≤ first.mtu
  low = let least : 68 ≤ first.mtu = first_boots.least_mtu in omega arith

  -- each fragment from the first's address has the number of the send that made it
  abbrev pub IsLabelledBy : Event → Option ℕ → Type 0
  IsLabelledBy = Ever.IsLabelled first.addr second.addr second.bcast first.mtu
      (λ x. IsAnswered L first sent s x.port x.to x.bytes) M first.first_id at IsPart
      ids (λ x p g. g.sendable) (λ x p g. g.is_part) (λ x p g e. g.answered e) low
      (λ e. not_addr (sym e)) (λ e. not_bcast (sym e)) not_loopback

  abbrev pub AreLabelled : List Labelled → Type 0
  AreLabelled ls = Each (λ (l : Labelled). IsLabelledBy l.turn.event l.label) ls

  pub law_for_ever : (came : List Labelled) (t : State) → AreLabelled came → AreNear [] came
      → Leads M (boot second) (map (λ (l : Labelled). l.turn) came) t
      → (socket : Socket) (d : Datagram) → Contains t.sockets socket → Contains socket.queue d
      → d.sender.ip ≡ first.addr
      → (to : Addr) × IsAnswered L first sent s d.sender.port to d.item.bytes × (socket.port ≡ Some to.port)
      × ((to.ip ≡ second.addr) ⊎ (to.ip ≡ second.bcast))
  law_for_ever came t labelled near runs socket d in_sockets in_queue from =
      let w =
      Ever.received_for_ever first.addr second.addr second.bcast first.mtu
      (λ x. IsAnswered L first sent s x.port x.to x.bytes) M first.first_id at IsPart
      ids (λ x p g. g.sendable) (λ x p g. g.is_part) (λ x p g e. g.answered e) low
      (λ e. not_addr (sym e)) (λ e. not_bcast (sym e)) not_loopback second refl refl came t labelled near runs socket d
      in_sockets in_queue from in (
        w.sending.to,
        subst (λ port. IsAnswered L first sent s port w.sending.to d.item.bytes) w.sender
            (subst (λ bytes. IsAnswered L first sent s w.sending.port w.sending.to bytes) w.bytes w.answered),
        w.receiver,
        w.here,
      )

-- a first machine that never sends fragments needs no premise
pub near_without_fragments : (seen : List Seen) (came : List Labelled)
    → Each (λ (l : Labelled). l.label ≡ None) came → AreNear seen came
near_without_fragments seen [] none = tt
near_without_fragments seen (l ∷ came) none =
    (go l.turn.event l.label none.0, near_without_fragments (sees l.turn.event l.label seen) came none.1)
  where
    go : (event : Event) (label : Option ℕ) → label ≡ None → IsNearTo event label seen
    go (Comes packet) None e = tt
    go (Comes packet) (Some n) e = absurd (none-some n (sym e))
    go Open label e = tt
    go (Bind fd a) label e = tt
    go (Connect fd a) label e = tt
    go (Send fd to bytes) label e = tt
    go (Receive fd most) label e = tt
    go (Close fd) label e = tt
    go (Set_option fd option on) label e = tt
    go (Set_limit fd limit) label e = tt
    go Transmit label e = tt
    go Tick label e = tt
    go Ask_counters label e = tt
    go Ask_usage label e = tt

-- one that sends fewer than 65,536 times needs no other premise
pub near_if_few : (seen : List Seen) (came : List Labelled)
    → ((x : Seen) → Member seen x → x.number < 65536)
    → Each (λ (l : Labelled). (n : ℕ) → l.label ≡ Some n → n < 65536) came → AreNear seen came
near_if_few seen [] few is = tt
near_if_few seen (l ∷ came) few is = (
  near l.turn.event l.label is.0,
  near_if_few (sees l.turn.event l.label seen) came
      (later l.turn.event l.label is.0) is.1,
)
  where
    near : (event : Event) (label : Option ℕ) → ((n : ℕ) → label ≡ Some n → n < 65536) → IsNearTo event label seen
    near (Comes packet) None s = tt
    near (Comes packet) (Some n) s = λ x m young. (omega (arith, few x m, s n refl), omega (arith, few x m, s n refl))
    near Open label s = tt
    near (Bind fd a) label s = tt
    near (Connect fd a) label s = tt
    near (Send fd to bytes) label s = tt
    near (Receive fd most) label s = tt
    near (Close fd) label s = tt
    near (Set_option fd option on) label s = tt
    near (Set_limit fd limit) label s = tt
    near Transmit label s = tt
    near Tick label s = tt
    near Ask_counters label s = tt
    near Ask_usage label s = tt

    older_few : (y x : Seen) → older y ≡ x → y.number < 65536 → x.number < 65536
    older_few y x e h = omega (arith, h, ap (λ (z : Seen). z.number) e)

    later : (event : Event) (label : Option ℕ) → ((n : ℕ) → label ≡ Some n → n < 65536)
        → (x : Seen) → Member (sees event label seen) x → x.number < 65536
    later (Comes packet) None s x m = few x m
    later (Comes packet) (Some n) s x (inl e) = omega (arith, s n refl, ap (λ (z : Seen). z.number) e)
    later (Comes packet) (Some n) s x (inr m) = few x m
    later Tick label s x m =
        let y = Ever.member_older seen x m in older_few y.0 x y.2 (few y.0 y.1)
    later Open label s x m = few x m
    later (Bind fd a) label s x m = few x m
    later (Connect fd a) label s x m = few x m
    later (Send fd to bytes) label s x m = few x m
    later (Receive fd most) label s x m = few x m
    later (Close fd) label s x m = few x m
    later (Set_option fd option on) label s x m = few x m
    later (Set_limit fd limit) label s x m = few x m
    later Transmit label s x m = few x m
    later Ask_counters label s x m = few x m
    later Ask_usage label s x m = few x m

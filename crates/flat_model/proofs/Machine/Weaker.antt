-- A ledger that allows all that another one allows makes a machine that may do all that the other may do. And what is
-- said of a packet's ends may be replaced by what follows from it.
use Rattle.std.proofs.Common.{ℕ, Bool, true, false, List, [], ◌∷◌, length, map, inl, inr, ap, refl, Option, None, Some}
use Rattle.flat_model.specs.Amounts.Choice.{Choice, Case}
use Rattle.flat_model.specs.Amounts.Weight.{Weight, Item, ◌⊕◌, nothing}
use Rattle.flat_model.specs.Amounts.Layout.{Need, wire, entries_on, weight_of}
use Rattle.flat_model.specs.Packets.Header.{Head, head_of}
use Rattle.flat_model.specs.Fragments.Overlay.{Map, Fragment, overlay}
use Rattle.flat_model.specs.Fragments.Whole.{bytes_below}
use Rattle.flat_model.specs.Machine.Event.{Event, Reply, Open, Bind, Connect, Send, Receive, Close, Set_option, Set_limit, Comes, Transmit, Tick, Ask_counters, Ask_usage, Done}
use Rattle.flat_model.specs.declared.usage.Mbstat.{Mbstat}
use Rattle.flat_model.specs.declared.address.Addr.{Addr}
use Rattle.flat_model.specs.Machine.State.{State, Socket, Key, Unfinished, begun, begin_unfinished, end_unfinished, ends}
use Rattle.flat_model.specs.Machine.Ledger.{Ledger, HasBuffers, AreTaken, need_mbufs, exact_ledger, loose_ledger}
use Rattle.flat_model.specs.Machine.Arrival as Arrival
use Rattle.flat_model.specs.Machine.Arrival.{Origin, By_wire, Looped, End, Ended, Offered, Stored, Reassembled, Saying, silent}
use Rattle.flat_model.specs.declared.counters.Why.{Why}
use Rattle.flat_model.specs.declared.counters.Why.TheVariants.{CantForward, BadFragment, FragmentDropped, NoProtocol, UdpFullSocket, NoBufs}
use Rattle.flat_model.specs.Machine.Send as Send
use Rattle.flat_model.specs.Machine.Step.{ComesInAs, Step, StepBy}
use Rattle.flat_model.specs.Machine.Fate.{Fated, told}
use Rattle.flat_model.specs.declared.fate.Fate.{Fate}
use Rattle.flat_model.specs.Runs.Run.{Turn, Leads}

-- M allows all that L allows
pub record IsWeaker (L M : Ledger) : Type 0 where
  pub has : (s : State) (held : Weight) (need : Need) (yes : Bool) → L.has s held need yes → M.has s held need yes
  pub may_take : (s : State) (held : Weight) (c : ℕ) → L.may_take s held c → M.may_take s held c
  pub may_show : (s : State) (usage : Mbstat) → L.may_show s usage → M.may_show s usage

pub loose_is_weaker : IsWeaker exact_ledger loose_ledger
loose_is_weaker = record {
  has = λ s held need yes h. tt;
  may_take = λ s held c h. tt;
  may_show =
      λ s usage h. record { mbufs = ap (λ (u : Mbstat). u.mbufs) h; clusters = ap (λ (u : Mbstat). u.clusters) h };
}

pub itself : (L : Ledger) → IsWeaker L L
itself L = record {
  has = λ s held need yes h. h;
  may_take = λ s held c h. h;
  may_show = λ s usage h. h;
}

choice : {b : Bool} {P P' Q Q' : Type 0} → (P → P') → (Q → Q') → Choice b P Q → Choice b P' Q'
choice f g c = record { yes = λ e. f (c.yes e); no = λ e. g (c.no e) }

by_value : {T : Type 0} {o : Option T} {P P' : Type 0} {Q Q' : T → Type 0} → (P → P') → ((x : T) → Q x → Q' x)
    → Case o P Q → Case o P' Q'
by_value f g c = record { none = λ e. f (c.none e); some = λ x e. g x (c.some x e) }

same : {P : Type 0} → P → P
same p = p

module _ (L M : Ledger) (weaker : IsWeaker L M) where
  has_buffers : (old new : State) (held : Weight) (need : Need) (yes : Bool) → HasBuffers L old held need yes new
      → HasBuffers M old held need yes new
  has_buffers old new held need true (inl (h, e)) = inl (weaker.has _ _ _ _ h, e)
  has_buffers old new held need true (inr (h, e, again)) = inr (weaker.has _ _ _ _ h, e, weaker.has _ _ _ _ again)
  has_buffers old new held need false (h, e, again) = (weaker.has _ _ _ _ h, e, weaker.has _ _ _ _ again)

  taken : (s : State) (n : ℕ) (clusters : List ℕ) → AreTaken L s n clusters → AreTaken M s n clusters
  taken s n clusters t =
      record { number = t.number; distinct = t.distinct; free = λ k d h. weaker.may_take s nothing _ (t.free k d h) }

  tests : (old : State) (held : Weight) (n : ℕ) (F G P Q : State → Type 0) → ((is : State) → F is → G is)
      → ((mid : State) → P mid → Q mid)
      → Arrival.TestsAs L old held n F P → Arrival.TestsAs M old held n G Q
  tests old held n F G P Q fails f t = record {
    answer = t.answer;
    mid = t.mid;
    has_buffers = has_buffers old t.mid held (need_mbufs n) t.answer t.has_buffers;
    goes_on = choice (f t.mid) (fails (ends NoBufs t.mid)) t.goes_on;
  }

  appends_too : (S T : Option Why → State → State → Type 0)
      → ((lack : Option Why) (new is : State) → S lack new is → T lack new is) → (held : Weight) (sender : Addr)
      (item : Item) (to : Socket) (old new : State)
      → Arrival.AppendsAs L S held sender item to old new → Arrival.AppendsAs M T held sender item to old new
  appends_too S T says held sender item to old new =
      choice (tests old (held ⊕ item.weight) 1 _ _ _ _ (says (Some NoBufs) new) (λ mid e. says None new _ e))
      (says (Some UdpFullSocket) new _)

  pub delivers_too : (S T : ℕ → Option Why → State → State → Type 0)
      → ((fd : ℕ) (lack : Option Why) (new is : State) → S fd lack new is → T fd lack new is) → (held : Weight)
      (sender : Addr) (item : Item) (tos : List Socket) (old new : State)
      → Arrival.DeliversAs L S held sender item tos old new → Arrival.DeliversAs M T held sender item tos old new
  delivers_too S T says held sender item [] old new h = h
  delivers_too S T says held sender item (last ∷ []) old new h =
      appends_too (S last.fd) (T last.fd) (says last.fd) held sender item last old new h
  delivers_too S T says held sender item (to ∷ next ∷ more) old new (after, t, later) = (
    after,
    tests old (held ⊕ item.weight) item.weight.mbufs _ _ _ _ (says to.fd (Some NoBufs) after)
        (λ mid a. appends_too (S to.fd) (T to.fd) (says to.fd) (held ⊕ item.weight) sender item to mid after a) t,
    delivers_too S T says held sender item (next ∷ more) after new later,
  )

  module _ (S T : Saying) (says : (end : End) (new is : State) → S end new is → T end new is) where
    goes_to : (held : Weight) (sender : Addr) (item : Item) (destination : ℕ) (tos : List Socket) (old new : State)
        → Arrival.GoesToAs L S held sender item destination tos old new
        → Arrival.GoesToAs M T held sender item destination tos old new
    goes_to held sender item destination [] old new h = says _ new _ h
    goes_to held sender item destination (to ∷ more) old new h =
        delivers_too _ _ (λ fd lack. says (Offered (map (λ (s : Socket). s.fd) (to ∷ more)) fd lack)) held sender item
        (to ∷ more) old new h

    whole : (held : Weight) (source destination protocol : ℕ) (item : Item) (old new : State)
        → Arrival.WholeArrivesAs L S held source destination protocol item old new
        → Arrival.WholeArrivesAs M T held source destination protocol item old new
    whole held source destination protocol item old new =
        choice (by_value (λ g. goes_to held _ _ destination _ old new g) (λ why e. says (Ended why) new _ e))
        (says (Ended NoProtocol) new _)

  module _ (S T : Saying) (says : (end : End) (new is : State) → S end new is → T end new is) where
    settles : (held : Weight) (k : Key) (bytes : Map) (old new : State) → Arrival.SettlesAs L S held k bytes old new
        → Arrival.SettlesAs M T held k bytes old new
    settles held k bytes old new (inl (n, w, joined, j, a)) = inl (
      n,
      w,
      joined,
      record { mbufs = j.mbufs; bag = j.bag; covers = j.covers },
      whole _ _ (λ end. says (Reassembled end)) held k.source k.destination k.protocol
          (record { bytes = bytes_below bytes n; weight = joined })
          (Arrival.counts_reassembled (end_unfinished k old)) new a,
    )
    settles held k bytes old new (inr (none, h)) = inr (none, says Stored new _ h)

    inserts : (held : Weight) (k : Key) (f : Fragment) (u : Unfinished) (old new : State)
        → Arrival.InsertsAs L S held k f u old new → Arrival.InsertsAs M T held k f u old new
    inserts held k f u old new =
        choice (says (Ended FragmentDropped) new _) (settles held k (overlay u.bytes f) old new)

    joins : (held : Weight) (k : Key) (f : Fragment) (old new : State) → Arrival.JoinsAs L S held k f old new
        → Arrival.JoinsAs M T held k f old new
    joins held k f old new = by_value
        (tests old (held ⊕ f.weight) 1 _ _ _ _ (says (Ended NoBufs) new)
        (λ mid h. inserts held k f (begun k) (begin_unfinished k mid) new h))
        (λ u h. inserts held k f u old new h)

    pulls_up : (origin : Origin) (held w : Weight) (total : ℕ) (old new : State) (P Q : Weight → State → Type 0)
        → ((w : Weight) (mid : State) → P w mid → Q w mid)
        → Arrival.PullsUpAs L S origin held w total old new P → Arrival.PullsUpAs M T origin held w total old new Q
    pulls_up Looped held w total old new P Q f h = f w old h
    pulls_up (By_wire received) held w total old new P Q f h =
        choice (tests old (held ⊕ w) 1 _ _ _ _ (says (Ended NoBufs) new) (λ mid r. f _ mid r)) (f w old) h

    fragment : (origin : Origin) (held : Weight) (h : Head) (item : Item) (old new : State)
        → Arrival.FragmentArrivesAs L S origin held h item old new
        → Arrival.FragmentArrivesAs M T origin held h item old new
    fragment origin held h item old new =
        choice (says (Ended BadFragment) new _) (pulls_up origin held item.weight _ (Arrival.counts_fragment old) new
        _ _ (λ w mid j. joins held _ _ mid new j))

    passes : (origin : Origin) (held : Weight) (item : Item) (old new : State)
        → Arrival.PassesAs L S origin held item old new → Arrival.PassesAs M T origin held item old new
    passes origin held item old new = choice
        (choice (fragment origin held (head_of item.bytes) (Arrival.carried item) old new)
        (whole S T says held (head_of item.bytes).source (head_of item.bytes).destination (head_of item.bytes).protocol
        (Arrival.carried item) old new))
        (says (Ended CantForward) new _)

    pub arrives_too : (origin : Origin) (held : Weight) (item : Item) (old new : State)
        → Arrival.ArrivesAs L S origin held item old new → Arrival.ArrivesAs M T origin held item old new
    arrives_too origin held item old new =
        by_value (passes origin held item (Arrival.counts_packet old) new) (λ why e. says (Ended why) new _ e)

    pub comes_in_too : (packet : List ℕ) (old new : State) → ComesInAs L S packet old new → ComesInAs M T packet old new
    comes_in_too packet old new (answer, mid, a, c) = (
      answer,
      mid,
      has_buffers old mid nothing _ answer a,
      choice (λ (clusters, t, r). (
        clusters,
        taken mid _ clusters t,
        arrives_too (By_wire (length packet)) nothing
            (record { bytes = packet; weight = weight_of (entries_on clusters (wire (length packet))) }) mid new r,
      )) (says (Ended NoBufs) new _) c,
    )

  all_arrive : (items : List Item) (old new : State) → Arrival.AllArrive L items old new
      → Arrival.AllArrive M items old new
  all_arrive [] old new h = h
  all_arrive (item ∷ items) old new (mid, a, later) =
      (mid, arrives_too silent silent (λ end new is e. e) Looped _ item old mid a, all_arrive items mid new later)

  goes : (fd : ℕ) (me : Socket) (to : Addr) (bytes : List ℕ) (old new : State) (reply : Reply)
      → Send.Goes L fd me to bytes old reply new → Send.Goes M fd me to bytes old reply new
  goes fd me to bytes old new reply (port, named, clusters, gets, t, left) =
      (port, named, clusters, gets, taken old _ clusters t, (all_arrive _ _ new left.0, left.1))

  sends : (fd : ℕ) (to : Option Addr) (bytes : List ℕ) (me : Socket) (old new : State) (reply : Reply)
      → Send.Sends L fd to bytes me old reply new → Send.Sends M fd to bytes me old reply new
  sends fd to bytes me old new reply = by_value
      (λ (answer, mid, a, c). (
        answer,
        mid,
        has_buffers old mid nothing _ answer a,
        choice (goes fd me _ bytes mid new reply) same c,
      ))
      (λ errno r. r)

  pub step_too : (old new : State) (event : Event) (reply : Reply) → StepBy L old event reply new
      → StepBy M old event reply new
  step_too old new Open reply h = h
  step_too old new (Bind fd a) reply h = h
  step_too old new (Connect fd a) reply h = h
  step_too old new (Send fd to bytes) reply h = by_value same (λ me s. sends fd to bytes me old new reply s) h
  step_too old new (Receive fd most) reply h = h
  step_too old new (Close fd) reply h = h
  step_too old new (Set_option fd option on) reply h = h
  step_too old new (Set_limit fd limit) reply h = h
  step_too old new (Comes packet) reply h = (h.0, comes_in_too silent silent (λ end new is e. e) packet old new h.1)
  step_too old new Transmit reply h = h
  step_too old new Tick reply h = h
  step_too old new Ask_counters reply h = h
  step_too old new Ask_usage reply (usage, shows, answer, is) = (usage, weaker.may_show old usage shows, answer, is)

  pub run_too : (old new : State) (turns : List Turn) → Leads L old turns new → Leads M old turns new
  run_too old new [] h = h
  run_too old new (turn ∷ turns) (ranges, mid, s, later) =
      (ranges, mid, step_too old mid turn.event turn.reply s, run_too mid new turns later)

-- ---- a packet with its fate is a step

pub fated_step : (old new : State) (packet : List ℕ) (fate : Fate) → Fated old packet fate new
    → Step old (Comes packet) Done new
fated_step old new packet fate fated = (
  refl,
  comes_in_too exact_ledger exact_ledger (itself exact_ledger) (told fate) silent (λ end new is h. h.1) packet old new
      fated,
)

-- The packets that a machine gave out have numbers.
use Rattle.std.proofs.Common.{◌≡◌, ◌≢◌, ℕ, zero, suc, ◌+◌, ◌≤◌, ◌<◌, get_or, Bool, true, false, List, [], ◌∷◌, length, map, refl, sym, ◌∙◌, ap, subst, ◌⊎◌, inl, inr, arith, Option, Some, None}
use Rattle.std.specs.Prelude.{◌==◌, nat_lt, slice_index, filter_map, Contains, All}
use Rattle.std.specs.List.{AllByRecursion as Each, cons_option}
use Rattle.std.proofs.lemmas.Bool.{eqb-true, eqb-false, ltb-true, ltb-false}
use Rattle.std.proofs.lemmas.List.Elements.{All-from_recursion, All-contains}
use Rattle.std.proofs.lemmas.Option.{none-some, same_Some}
use Rattle.flat_model.specs.Fragments.Cuts.{Part}
use Rattle.flat_model.specs.Machine.Event.{Event, Open, Bind, Connect, Send, Receive, Close, Set_option, Set_limit, Comes, Transmit, Tick, Ask_counters, Ask_usage}
use Rattle.flat_model.specs.Machine.State.{IsConfig, State}
use Rattle.flat_model.specs.declared.config.Config.{Config}
use Rattle.flat_model.specs.Machine.Ledger.{Ledger}
use Rattle.flat_model.specs.Machine.Sending.{Sending, datagram, packet_for}
use Rattle.flat_model.specs.Runs.Run.{Turn}
use Rattle.flat_model.proofs.Laws.{cuts_short, length-udp}
use Rattle.flat_wire.specs.Wire.{packet_out, packet_in, came_in, ComesFrom, ip_source}
use Rattle.flat_wire.proofs.Seen.{Labelled}
use Rattle.flat_wire.proofs.Recorded as Recorded
use Rattle.flat_wire.proofs.Recorded.{Among}
use Rattle.flat_wire.proofs.Second as Second
use Rattle.flat_wire.specs.Ever.{IsShortSend}
use Rattle.flat_wire.proofs.Numbers as Numbers
use Rattle.flat_wire.proofs.LawEver as LawEver

-- whether a packet comes from an address
pub comes_from : (S : ℕ) (packet : List ℕ) → ComesFrom S packet ⊎ (ComesFrom S packet → ⊥)
comes_from S packet =
    go (nat_lt (length packet) 16) (ip_source packet == S) (slice_index packet 9 == 17) refl refl refl
  where
    go : (a b c : Bool) → nat_lt (length packet) 16 ≡ a → (ip_source packet == S) ≡ b
        → (slice_index packet 9 == 17) ≡ c → ComesFrom S packet ⊎ (ComesFrom S packet → ⊥)
    go true b c ea eb ec = inr (λ f. absurd (omega (arith, ltb-true (length packet) 16 ea, f.long)))
    go false false c ea eb ec = inr (λ f. eqb-false (ip_source packet) S eb f.source)
    go false true false ea eb ec = inr (λ f. eqb-false (slice_index packet 9) 17 ec f.udp)
    go false true true ea eb ec = inl (record {
      long = ltb-false (length packet) 16 ea;
      source = eqb-true (ip_source packet) S eb;
      udp = eqb-true (slice_index packet 9) 17 ec;
    })

-- whether a part is a fragment
is_frag : (p : Part) → Second.IsFrag p ⊎ (Second.IsFrag p → ⊥)
is_frag p = go p.more (nat_lt 0 p.offset) refl refl
  where
    no : false ≡ true → ⊥
    no e = cc

    go : (a b : Bool) → p.more ≡ a → nat_lt 0 p.offset ≡ b → Second.IsFrag p ⊎ (Second.IsFrag p → ⊥)
    go true b ea eb = inl (inl ea)
    go false true ea eb = inl (inr (ltb-true 0 p.offset eb))
    go false false ea eb = inr (λ f. nothing f)
      where
        nothing : Second.IsFrag p → ⊥
        nothing (inl e) = no (sym ea ∙ e)
        nothing (inr l) = absurd (omega (arith, l, ltb-false 0 p.offset eb))

module _ (L M : Ledger) (first second : Config) (sent : List Turn) (s : State)
    (first_boots : IsConfig first) (recorded : Recorded.IsRecorded L first first_boots sent s)
    (not_addr : first.addr ≢ second.addr) (not_bcast : first.addr ≢ second.bcast) where
  abbrev at : ℕ → Sending
  at = LawEver.at L M first second sent s first_boots recorded not_addr not_bcast

  abbrev numbered_at : List Sending → ℕ → Sending
  numbered_at = Numbers.at L first first_boots

  abbrev IsPart : Sending → Part → Type 0
  IsPart = LawEver.IsPart L M first second sent s first_boots recorded not_addr not_bcast

  -- a send of a log has a number
  number_of : (log : List Sending) (x : Sending) → Among log x
      → (n : ℕ) × (n < length log) × (numbered_at log n ≡ x)
  number_of [] x a = absurd a
  number_of (y ∷ older) x (inl e) =
      (length older, omega arith, Numbers.at_newest L first first_boots y older ∙ e)
  number_of (y ∷ older) x (inr a) =
      let r = number_of older x a in
      (r.0, omega (arith, r.1), Numbers.at_older L first first_boots y older r.0 r.1 ∙ r.2)

  abbrev IsLabelledBy : Event → Option ℕ → Type 0
  IsLabelledBy = LawEver.IsLabelledBy L M first second sent s first_boots recorded not_addr not_bcast

  abbrev FromFirst : List ℕ → Type 0
  FromFirst packet = ComesFrom first.addr packet → Contains (filter_map packet_out sent) packet

  abbrev IsShort : Option ℕ → Type 0
  IsShort label = (n : ℕ) → label ≡ Some n → n < length recorded.log

  unlabelled : IsShort None
  unlabelled n e = absurd (none-some n e)

  -- no send is longer than one packet
  abbrev AreWhole : Type 0
  AreWhole = All (λ (turn : Turn). IsShortSend first.mtu turn.event) sent

  record HasLabel (event : Event) : Type 0 where
    label : Option ℕ
    right : IsLabelledBy event label
    short : IsShort label
    none : AreWhole → label ≡ None

  -- then no packet is a fragment
  no_fragment : (packet : List ℕ) (g : Recorded.IsGiven L first first_boots recorded.log sent s packet) → AreWhole
      → Second.IsFrag g.part → ⊥
  no_fragment packet g whole f = only _ is.0 is.1 is.2 f
    where
      size : length (datagram g.sending) ≡ 8 + length g.sending.bytes
      size =
          length-udp g.sending.source g.sending.to.ip g.sending.port g.sending.to.port g.sending.bytes

      short : length g.sending.bytes + 28 ≤ first.mtu
      short = All-contains (λ (turn : Turn). IsShortSend first.mtu turn.event) sent _ whole g.asked.among

      is : Contains (record { offset = 0; size = length (datagram g.sending); more = false } ∷ []) g.part
      is =
          subst (λ (ps : List Part). Contains ps g.part)
          (cuts_short (length (datagram g.sending)) first.mtu (omega (arith, size, short))) g.is_part

      only : (n k : ℕ) → k < 1 → get_or (record { offset = 0; size = n; more = false } ∷ []) k g.part ≡ g.part
          → Second.IsFrag g.part → ⊥
      only n zero l e (inl more) = no (ap (λ (q : Part). q.more) e ∙ more)
        where
          no : false ≡ true → ⊥
          no e = cc
      only n zero l e (inr some) = omega (arith, some, ap (λ (q : Part). q.offset) e)
      only n (suc k) l e f = absurd (omega (arith, l))

  label_of : (packet : List ℕ) → FromFirst packet → HasLabel (Comes packet)
  label_of packet is = go (comes_from first.addr packet)
    where
      ok : (g : Recorded.IsGiven L first first_boots recorded.log sent s packet) → IsPart g.sending g.part
      ok g = record { logged = g.logged; sendable = g.sendable; is_part = g.is_part; answered = g.answered }

      frag : (g : Recorded.IsGiven L first first_boots recorded.log sent s packet)
          → Second.IsFrag g.part ⊎ (Second.IsFrag g.part → ⊥) → HasLabel (Comes packet)
      frag g (inr whole) = record {
        label = None;
        right = λ from. record { sending = g.sending; part = g.part; ok = ok g; whole = whole; is = g.is };
        short = unlabelled;
        none = λ w. refl;
      }
      frag g (inl f) = let n = number_of recorded.log g.sending g.logged in record {
        label = Some n.0;
        right = (
          g.part,
          subst (λ x. IsPart x g.part) (sym n.2) (ok g),
          g.is ∙ ap (λ x. packet_for x g.part) (sym n.2),
        );
        short = λ m e. subst (λ k. k < length recorded.log) (same_Some n.0 m e) n.1;
        none = λ w. absurd (no_fragment packet g w f);
      }

      go : ComesFrom first.addr packet ⊎ (ComesFrom first.addr packet → ⊥) → HasLabel (Comes packet)
      go (inr other) = record {
        label = None;
        right = λ from. absurd (other from);
        short = unlabelled;
        none = λ w.
            refl;
      }
      go (inl from) =
          let g = All-contains (Recorded.IsGiven L first first_boots recorded.log sent s) (filter_map packet_out sent)
          packet (All-from_recursion _ (filter_map packet_out sent) recorded.gave) (is from) in
          frag g (is_frag g.part)

  one_label : (event : Event) (rest : List (List ℕ)) → Each FromFirst (cons_option (came_in event) rest)
      → HasLabel event × Each FromFirst rest
  one_label (Comes packet) rest h = (label_of packet h.0, h.1)
  one_label Open rest h = (record { label = None; right = tt; short = unlabelled; none = λ w. refl }, h)
  one_label (Bind fd a) rest h = (record { label = None; right = tt; short = unlabelled; none = λ w. refl }, h)
  one_label (Connect fd a) rest h = (record { label = None; right = tt; short = unlabelled; none = λ w. refl }, h)
  one_label (Send fd to bytes) rest h = (record { label = None; right = tt; short = unlabelled; none = λ w. refl }, h)
  one_label (Receive fd most) rest h = (record { label = None; right = tt; short = unlabelled; none = λ w. refl }, h)
  one_label (Close fd) rest h = (record { label = None; right = tt; short = unlabelled; none = λ w. refl }, h)
  one_label (Set_option fd option on) rest h = (
    record {
      label = None;
      right = tt;
      short = unlabelled;
      none = λ w.
          refl;
    },
    h,
  )
  one_label (Set_limit fd limit) rest h = (record { label = None; right = tt; short = unlabelled; none = λ w. refl }, h)
  one_label Transmit rest h = (record { label = None; right = tt; short = unlabelled; none = λ w. refl }, h)
  one_label Tick rest h = (record { label = None; right = tt; short = unlabelled; none = λ w. refl }, h)
  one_label Ask_counters rest h = (record { label = None; right = tt; short = unlabelled; none = λ w. refl }, h)
  one_label Ask_usage rest h = (record { label = None; right = tt; short = unlabelled; none = λ w. refl }, h)

  -- the turns with numbers
  pub record HasLabels (turns : List Turn) : Type 0 where
    pub came : List Labelled
    pub turns_are : map (λ (l : Labelled). l.turn) came ≡ turns
    pub right : Each (λ (l : Labelled). IsLabelledBy l.turn.event l.label) came
    pub short : Each (λ (l : Labelled). IsShort l.label) came
    pub none : AreWhole → Each (λ (l : Labelled). l.label ≡ None) came

  pub labels_exist : (turns : List Turn) → Each FromFirst (filter_map packet_in turns) → HasLabels turns
  labels_exist [] h = record { came = []; turns_are = refl; right = tt; short = tt; none = λ w. tt }
  labels_exist (turn ∷ turns) h =
      let o = one_label turn.event (filter_map packet_in turns) h in
      let rest = labels_exist turns o.1 in
      record {
        came = record { turn = turn; label = o.0.label } ∷ rest.came;
        turns_are = ap (λ ts. turn ∷ ts) rest.turns_are;
        right = (o.0.right, rest.right);
        short = (o.0.short, rest.short);
        none = λ w. (o.0.none w, rest.none w);
      }

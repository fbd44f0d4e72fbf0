-- Whole runs of a host from its start.
use Rattle.std.proofs.Common.{◌≡◌, ℕ, Bool, true, false, cond, List, [], ◌∷◌, ◌++◌, Option, Some, None, refl, sym, ap, ◌∙◌, subst, append_assoc}
use Rattle.std.specs.Prelude.{All, Contains, filter_map, is_some, option_to_list, Result}
use Rattle.std.specs.List.{AllByRecursion as Each, cons_option}
use Rattle.std.proofs.lemmas.List.{map-append}
use Rattle.std.proofs.lemmas.List.Elements.{All-from_recursion, recursion_from_All, All-contains_itself, All-head, Contains-append_left, Contains-append_right, filter_map-append}
use Rattle.flat_model.specs.Amounts.Weight.{Item}
use Rattle.flat_model.specs.Machine.Event.{IsEvent, Transmit, Given, Comes, Done, Tick}
use Rattle.flat_model.specs.Machine.Ledger.{exact_ledger}
use Rattle.flat_model.specs.Machine.State.{State, Socket, boot, socket_at}
use Rattle.flat_model.specs.Runs.Run.{Turn, Leads}
use Rattle.flat_model.specs.declared.config.Config.{Config}
use Rattle.flat_model.specs.declared.fate.Fate.{Fate}
use Rattle.flat_model.proofs.Laws.{each-weaker, fated_step}
use Rattle.flat_wire.specs.Trail.{PassedStep, trail_turns}
use Rattle.flat_wire.specs.Wire.{packet_in, packet_out}
use Rattle.flat_ether.specs.Claims.{is_claimed}
use Rattle.flat_ether.specs.Ever.{step_by, turn_if, turn_of_act, turns_of_acts}
use Rattle.flat_ether.specs.Frames.{body_of, kind_of}
use Rattle.flat_ether.specs.Hosts.{HostAct, AreHostActs, Comes_in, Drained, Goes_out, Clock, Calls, CallsMachine, Asks_error, Host, ReceivesKind, IsHostAct, drained, error_of_socket, expired_keys, gives, gives_after, gives_claimed, gives_drained, gives_probe, host_up, is_to_us, makes_place, or_drains, with_output_left}
use Rattle.flat_ether.specs.declared.error.NetFault.{NetFault}
use Rattle.flat_model.specs.declared.errno.Errno.{Errno}
use Rattle.flat_ether.specs.Laws.{AreSent, IsFrameSent, MakesTurns, arp_if, frame_out, frames_then, packet_if, packets_in, packets_to}
use Rattle.flat_ether.specs.Links.{Gives, LinkState, answers_fate, gives_claim, gives_own, ignores, receives_arp, refuses, sends, takes_error, ticks}
use Rattle.flat_ether.specs.Options.{plain}
use Rattle.flat_ether.specs.declared.link.Link.{Link}
use Rattle.flat_ether.specs.declared.link.FrameKind.{FrameKind}
use Rattle.flat_ether.specs.declared.link.FrameKind.TheVariants.{Packet, Martian, Arp, Other}
use Rattle.flat_ether.proofs.Arrived as Arrived
use Rattle.flat_ether.proofs.Marked.{AreMarked, both_marked, mute_marked, none_marked, one_marked, then_marked}
use Rattle.flat_ether.proofs.Plain.{plain_bytes, plain_short}
use Rattle.flat_ether.proofs.Sent as Sent
use Rattle.flat_ether.proofs.Turns.{then_leads, transmits, same_output, bytes_of_body, short_body}

module _ (c : Config) (l : Link) where
  abbrev Good : List (List ℕ) → List (List ℕ) → LinkState → Type 0
  Good F G s = Sent.IsGood c l F G s

  -- more is known to have been given
  more_good : (F G G' : List (List ℕ)) (s : LinkState) → Good F G s → Good F (G ++ G') s
  more_good F G G' s good = record {
    config = good.config;
    link_is = good.link_is;
    neighbours = each-weaker (λ n is. record { learned = is.learned; near = is.near }) s.neighbours good.neighbours;
    distinct = good.distinct;
    replies = good.replies;
    held =
        each-weaker (λ h is. record { made = Contains-append_left G G' h.packet is.made; route = is.route }) s.held
        good.held;
    answered =
        each-weaker (λ p is. record { made = Sent.more_made c l F G G' p is.made; route = is.route }) s.answer
        good.answered;
    quotes = good.quotes;
  }

  -- An act on a machine and its link, after these frames arrived and these packets were given: `then'` are the frames
  -- that have arrived afterwards.
  record Makes (F G then' : List (List ℕ)) (old new : State) (link : LinkState) (packets out : List (List ℕ))
      (turn : Option Turn) : Type 0 where
    turns : List Turn
    leads : Leads exact_ledger old turns new
    in' : filter_map packet_in turns ≡ packets
    good : Good then' (G ++ filter_map packet_out turns) link
    sent : Each (IsFrameSent c l F (G ++ filter_map packet_out turns)) out
    steps : AreMarked exact_ledger old turns new (cons_option (step_by turn old new) [])

  -- nothing was given
  same : (F G : List (List ℕ)) (s : LinkState) → Good F G s → Good F (G ++ []) s
  same F G s good = more_good F G [] s good

  quiet : (F G : List (List ℕ)) (s t : State) (link : LinkState) → t ≡ s → Good F G link
      → Makes F G F s t link [] [] None
  quiet F G s t link e good = record {
    turns = [];
    leads = e;
    in' = refl;
    good = same F G link good;
    sent = tt;
    steps = none_marked s t e;
  }

  -- ---- frames that are sent

  sent_list : (F G : List (List ℕ)) (f : Option (List ℕ)) → ((x : List ℕ) → f ≡ Some x → IsFrameSent c l F G x)
      → Each (IsFrameSent c l F G) (option_to_list f)
  sent_list F G None is = tt
  sent_list F G (Some f) is = (is f refl, tt)

  contains_last : (G : List (List ℕ)) (p : List ℕ) (more : List (List ℕ)) → Contains (G ++ p ∷ more) p
  contains_last G p more =
      Contains-append_right G (p ∷ more) p (All-head (Contains (p ∷ more)) p more (All-contains_itself (p ∷ more)))

  drains : (items : List Item) (F G : List (List ℕ)) (s : State) (link : LinkState) → s.output ≡ items → Good F G link
      → Makes F G F s (with_output_left s (drained items link).output) (drained items link).link []
      (option_to_list (drained items link).frame) None
  drains [] F G s link e good = quiet F G s _ link (same_output s [] e) good
  drains (item ∷ later) F G s link e good =
      go (sends item.bytes link) given
      (λ t g. drains later F (G ++ item.bytes ∷ []) (with_output_left s later) t refl g)
    where
      given : Sent.IsGiven c l F (G ++ item.bytes ∷ []) (sends item.bytes link)
      given =
          Sent.sends_given c l F (G ++ item.bytes ∷ []) item.bytes link (more_good F G (item.bytes ∷ []) link good)
          (contains_last G item.bytes [])

      turn : Turn
      turn = record { event = Transmit; reply = Given (Some item.bytes) }

      go : (g : Gives) → Sent.IsGiven c l F (G ++ item.bytes ∷ []) g
          → ((t : LinkState) → Good F (G ++ item.bytes ∷ []) t
          → Makes F (G ++ item.bytes ∷ []) F (with_output_left s later) (with_output_left s (drained later t).output)
          (drained later t).link [] (option_to_list (drained later t).frame) None)
          → Makes F G F s (with_output_left s (or_drains g later (drained later g.1)).output)
          (or_drains g later (drained later g.1)).link []
          (option_to_list (or_drains g later (drained later g.1)).frame) None
      go (None, t) is rest =
          let r = rest t is.good in
          let more : (G ++ item.bytes ∷ []) ++ filter_map packet_out r.turns
          ≡ G ++ item.bytes ∷ filter_map packet_out r.turns =
          append_assoc G (item.bytes ∷ []) (filter_map packet_out r.turns) in
          record {
            turns = turn ∷ r.turns;
            leads = (tt, with_output_left s later, transmits s item later e, r.leads);
            in' = r.in';
            good = subst (λ H. Good F H (drained later t).link) more r.good;
            sent = subst (λ H. Each (IsFrameSent c l F H) (option_to_list (drained later t).frame)) more r.sent;
            steps =
                mute_marked s (with_output_left s later) turn refl refl (transmits s item later e) r.steps;
          }
      go (Some f, t) is rest = record {
        turns = turn ∷ [];
        leads = (tt, with_output_left s later, transmits s item later e, refl);
        in' = refl;
        good = is.good;
        sent = (is.sent f refl, tt);
        steps =
            mute_marked s (with_output_left s later) turn refl refl (transmits s item later e)
            (none_marked (with_output_left s later) (with_output_left s later) refl);
      }

  -- frames of the link's own
  own_makes : (F G : List (List ℕ)) (s : State) (g : Gives) → Sent.IsGiven c l F G g
      → Makes F G F s s g.1 [] (option_to_list g.0) None
  own_makes F G s g own = record {
    turns = [];
    leads = refl;
    in' = refl;
    good = same F G g.1 own.good;
    sent = each-weaker (λ f is. Sent.more_sent c l F G [] f is) (option_to_list g.0) (sent_list F G g.0 own.sent);
    steps = none_marked s s refl;
  }

  abbrev after_by : Host → Drained → Bool → Option (List ℕ) × Host
  after_by h d b =
      cond b (d.frame, record { machine = with_output_left h.machine d.output; link = d.link })
      ((gives_own d.link).0, record { machine = with_output_left h.machine d.output; link = (gives_own d.link).1 })

  after_makes : (F G : List (List ℕ)) (h : Host) (d : Drained)
      → Makes F G F h.machine (with_output_left h.machine d.output) d.link [] (option_to_list d.frame) None
      → Makes F G F h.machine (gives_after h d).1.machine (gives_after h d).1.link []
      (option_to_list (gives_after h d).0) None
  after_makes F G h d m = go (is_some d.frame)
    where
      own : Sent.IsGiven c l F (G ++ filter_map packet_out m.turns) (gives_own d.link)
      own = Sent.own_given c l F (G ++ filter_map packet_out m.turns) d.link m.good

      go : (b : Bool) → Makes F G F h.machine (after_by h d b).1.machine (after_by h d b).1.link []
          (option_to_list (after_by h d b).0) None
      go true = m
      go false = record {
        turns = m.turns;
        leads = m.leads;
        in' = m.in';
        good = own.good;
        sent = sent_list F (G ++ filter_map packet_out m.turns) (gives_own d.link).0 own.sent;
        steps = m.steps;
      }

  abbrev gives_by : Host → Bool → Option (List ℕ) × Host
  gives_by h b =
      cond b ((gives_own h.link).0, record h { link = (gives_own h.link).1 }) (gives_drained h (gives_own h.link).1)

  claimed_makes : (F G : List (List ℕ)) (h : Host) → Good F G h.link
      → Makes F G F h.machine (gives_claimed h).1.machine (gives_claimed h).1.link []
      (option_to_list (gives_claimed h).0) None
  claimed_makes F G h good = go (is_some (gives_own h.link).0)
    where
      own : Sent.IsGiven c l F G (gives_own h.link)
      own = Sent.own_given c l F G h.link good

      go : (b : Bool) → Makes F G F h.machine (gives_by h b).1.machine (gives_by h b).1.link []
          (option_to_list (gives_by h b).0) None
      go true = own_makes F G h.machine (gives_own h.link) own
      go false =
          after_makes F G h (drained h.machine.output (gives_own h.link).1)
          (drains h.machine.output F G h.machine (gives_own h.link).1 refl own.good)

  gives_makes : (F G : List (List ℕ)) (h : Host) → Good F G h.link
      → Makes F G F h.machine (gives h).1.machine (gives h).1.link [] (option_to_list (gives h).0) None
  gives_makes F G h good = go (is_claimed h.link.claim)
    where
      go : (b : Bool) → Makes F G F h.machine (cond b (gives_claimed h) (gives_probe h)).1.machine
          (cond b (gives_claimed h) (gives_probe h)).1.link []
          (option_to_list (cond b (gives_claimed h) (gives_probe h)).0) None
      go true = claimed_makes F G h good
      go false = own_makes F G h.machine (gives_claim h.link) (Sent.claim_given c l F G h.link good)

  -- ---- each act

  calls_good : (F G : List (List ℕ)) (old new : Host) (turn : Turn) → Good F G old.link → CallsMachine turn old new
      → Good F (G ++ filter_map packet_out (turn ∷ [])) new.link
  calls_good F G old new turn good is =
      subst (Good F (G ++ filter_map packet_out (turn ∷ []))) (sym is.link)
      (more_good F G (filter_map packet_out (turn ∷ [])) old.link good)

  act_makes : (F G : List (List ℕ)) (old new : Host) (act : HostAct) → Good F G old.link → IsHostAct old act new
      → Makes F G (frames_then act F) old.machine new.machine new.link (packets_in c l.mac act) (frame_out act)
      (turn_of_act c l.mac act)
  act_makes F G old new (Comes_in f) good is =
      go (kind_of old.link.config old.link.link.mac f) (kind_of c l.mac f) kinds refl is.2
    where
      kinds : kind_of old.link.config old.link.link.mac f ≡ kind_of c l.mac f
      kinds =
          ap (λ (x : Config). kind_of x old.link.link.mac f) good.config
          ∙ ap (λ (x : Link). kind_of c x.mac f) good.link_is

      here : Contains (f ∷ F) f
      here = contains_last [] f F

      can_come : IsEvent (Comes (plain (body_of f)))
      can_come = (plain_bytes (body_of f) (bytes_of_body f is.0), plain_short (body_of f) (short_body f is.1))

      wider : arp_if (kind_of c l.mac f) f ≡ None → Good (f ∷ F) (G ++ []) old.link
      wider e = same (f ∷ F) G old.link (Arrived.quiet_good c l F G f old.link good e)

      taken : (fate : Fate) → Good (f ∷ F) (G ++ []) old.link → (b : Bool)
          → Good (f ∷ F) (G ++ []) (cond b (answers_fate (body_of f) fate (makes_place (body_of f) old.link))
          (makes_place (body_of f) old.link))
      taken fate wide true =
          Sent.fate_good c l (f ∷ F) (G ++ []) f fate (makes_place (body_of f) old.link)
          (Sent.place_good c l (f ∷ F) (G ++ []) (body_of f) old.link wide) here
      taken fate wide false = Sent.place_good c l (f ∷ F) (G ++ []) (body_of f) old.link wide

      still : (link : LinkState) → new ≡ record old { link = link } → Good (f ∷ F) (G ++ []) link
          → Makes F G (f ∷ F) old.machine new.machine new.link [] [] None
      still link e g = record {
        turns = [];
        leads = ap (λ (h : Host). h.machine) e;
        in' = refl;
        good = subst (Good (f ∷ F) (G ++ [])) (sym (ap (λ (h : Host). h.link) e)) g;
        sent = tt;
        steps = none_marked old.machine new.machine (ap (λ (h : Host). h.machine) e);
      }

      go : (s t : FrameKind) → s ≡ t → kind_of c l.mac f ≡ t → ReceivesKind s f old new
          → Makes F G (f ∷ F) old.machine new.machine new.link (packet_if t f) [] (turn_if t f)
      go s t e k h =
          subst (λ (x : FrameKind). Makes F G (f ∷ F) old.machine new.machine new.link (packet_if x f) [] (turn_if x f))
          e
          (by s (k ∙ sym e) h)
        where
          by : (s : FrameKind) → kind_of c l.mac f ≡ s → ReceivesKind s f old new
              → Makes F G (f ∷ F) old.machine new.machine new.link (packet_if s f) [] (turn_if s f)
          by Packet k h = record {
            turns = record { event = Comes (plain (body_of f)); reply = Done } ∷ [];
            leads = (
              can_come,
              new.machine,
              fated_step old.machine new.machine (plain (body_of f)) h.fate h.machine,
              refl,
            );
            in' = refl;
            good =
                subst (Good (f ∷ F) (G ++ [])) (sym h.link)
                (taken h.fate (wider (ap (λ (x : FrameKind). arp_if x f) k))
                (is_to_us (makes_place (body_of f) old.link) f));
            sent = tt;
            steps =
                one_marked old.machine new.machine (record { event = Comes (plain (body_of f)); reply = Done })
                can_come
                (fated_step old.machine new.machine (plain (body_of f)) h.fate h.machine);
          }
          by Martian k h =
              still (refuses old.link) h (wider (ap (λ (x : FrameKind). arp_if x f) k))
          by Arp k h =
              still (receives_arp (body_of f) old.link) h (same (f ∷ F) G (receives_arp (body_of f) old.link)
              (Arrived.receives_good c l F G f (ap (λ (x : FrameKind). arp_if x f) k) old.link good))
          by Other k h =
              still (ignores old.link) h (wider (ap (λ (x : FrameKind). arp_if x f) k))
  act_makes F G old new (Goes_out f) good is =
      subst (λ (x : Option (List ℕ) × Host). Makes F G F old.machine x.1.machine x.1.link [] (option_to_list x.0) None)
      (sym is) (gives_makes F G old good)
  act_makes F G old new Clock good is = record {
    turns = record { event = Tick; reply = Done } ∷ [];
    leads = (tt, new.machine, is.machine, refl);
    in' = refl;
    good = subst (Good F (G ++ [])) (sym is.link) (same F G (ticks (expired_keys old.machine) old.link)
        (Sent.ticks_good c l F G (expired_keys old.machine) old.link good));
    sent = tt;
    steps = one_marked old.machine new.machine (record { event = Tick; reply = Done }) tt is.machine;
  }
  act_makes F G old new (Calls turn) good is = record {
    turns = turn ∷ [];
    leads = (is.event, new.machine, is.machine, refl);
    in' = refl;
    good = calls_good F G old new turn good is;
    sent = tt;
    steps = one_marked old.machine new.machine turn is.event is.machine;
  }
  act_makes F G old new (Asks_error fd fault) good is =
      subst (λ (x : Result (Option NetFault) Errno × Host). Makes F G F old.machine x.1.machine x.1.link [] [] None)
      (sym is)
      (go (socket_at fd old.machine))
    where
      go : (me : Option Socket) → Makes F G F old.machine (error_of_socket me old).1.machine
          (error_of_socket me old).1.link [] [] None
      go None = quiet F G old.machine old.machine old.link refl good
      go (Some me) =
          quiet F G old.machine old.machine (takes_error me.port me.peer old.link).1 refl
          (Sent.takes_good c l F G me.port me.peer old.link good)

  -- ---- all of them

  -- the frames that arrived before acts and during them, the last one first
  abbrev all_then : List HostAct → List (List ℕ) → List (List ℕ)
  all_then [] F = F
  all_then (act ∷ acts) F = all_then acts (frames_then act F)

  -- the steps of these acts that are seen
  abbrev pub steps_done : (old : Host) (acts : List HostAct) (new : Host) → AreHostActs old acts new → List PassedStep
  steps_done old [] new done = []
  steps_done old (act ∷ acts) new (mid, is, later) =
      cons_option (step_by (turn_of_act c l.mac act) old.machine mid.machine) (steps_done mid acts new later)

  record MakesAll (F G : List (List ℕ)) (old new : State) (link : LinkState) (acts : List HostAct)
      (shown : List PassedStep) : Type 0 where
    turns : List Turn
    leads : Leads exact_ledger old turns new
    in' : filter_map packet_in turns ≡ packets_to c l.mac acts
    good : Good (all_then acts F) (G ++ filter_map packet_out turns) link
    sent : AreSent c l (G ++ filter_map packet_out turns) F acts
    steps : AreMarked exact_ledger old turns new shown

  acts_make : (F G : List (List ℕ)) (old new : Host) (acts : List HostAct) → Good F G old.link
      → (done : AreHostActs old acts new)
      → MakesAll F G old.machine new.machine new.link acts (steps_done old acts new done)
  acts_make F G old new [] good done = record {
    turns = [];
    leads = ap (λ (h : Host). h.machine) done;
    in' = refl;
    good = subst (λ (h : Host). Good F (G ++ []) h.link) (sym done) (same F G old.link good);
    sent = tt;
    steps = none_marked old.machine new.machine (ap (λ (h : Host). h.machine) done);
  }
  acts_make F G old new (act ∷ acts) good (mid, is, later) =
      let a = act_makes F G old mid act good is in
      let b = acts_make (frames_then act F) (G ++ filter_map packet_out a.turns) mid new acts a.good later in
      let out : (G ++ filter_map packet_out a.turns) ++ filter_map packet_out b.turns
      ≡ G ++ filter_map packet_out (a.turns ++ b.turns) =
      append_assoc G (filter_map packet_out a.turns) (filter_map packet_out b.turns)
      ∙ ap (λ xs. G ++ xs) (sym (filter_map-append packet_out a.turns b.turns)) in
      let sent : Each (IsFrameSent c l F ((G ++ filter_map packet_out a.turns) ++ filter_map packet_out b.turns))
      (frame_out act) =
      each-weaker (λ f given. Sent.more_sent c l F (G ++ filter_map packet_out a.turns) (filter_map packet_out b.turns)
      f given) (frame_out act) a.sent in
      record {
        turns = a.turns ++ b.turns;
        leads = then_leads old.machine mid.machine new.machine a.turns b.turns a.leads b.leads;
        in' =
            filter_map-append packet_in a.turns b.turns ∙ ap (λ xs. xs ++ filter_map packet_in b.turns) a.in'
            ∙ ap (λ xs. packets_in c l.mac act ++ xs) b.in';
        good = subst (λ H. Good (all_then acts (frames_then act F)) H new.link) out b.good;
        sent = subst (λ H. AreSent c l H F (act ∷ acts)) out (All-from_recursion _ (frame_out act) sent, b.sent);
        steps =
            then_marked old.machine mid.machine new.machine a.turns b.turns
            (step_by (turn_of_act c l.mac act) old.machine mid.machine) (steps_done mid acts new later) a.steps
            b.steps;
      }

  up_good : Good [] [] (host_up c l).link
  up_good =
      record {
        config = refl;
        link_is = refl;
        neighbours = tt;
        distinct = tt;
        replies = tt;
        held = tt;
        answered = tt;
        quotes = tt;
      }

  -- the machine gave each packet that waits
  all_waiting : (F G : List (List ℕ)) (s : LinkState) → Good F G s → All (λ h. Contains G h.packet) s.held
  all_waiting F G s good = All-from_recursion _ s.held (each-weaker (λ h is. is.made) s.held good.held)

  abbrev made_by : (acts : List HostAct) (new : Host) (shown : List PassedStep)
      → MakesAll [] [] (host_up c l).machine new.machine new.link acts shown → MakesTurns c l acts new
  made_by acts new shown m = record {
    turns = m.turns;
    leads = m.leads;
    came = m.in';
    went = m.sent;
    waits = all_waiting (all_then acts []) (filter_map packet_out m.turns) new.link m.good;
  }

  pub makes_turns : (acts : List HostAct) (new : Host) → AreHostActs (host_up c l) acts new → MakesTurns c l acts new
  makes_turns acts new done =
      made_by acts new (steps_done (host_up c l) acts new done) (acts_make [] [] (host_up c l) new acts up_good done)

  -- the turns of these acts, with the steps that are seen
  pub record MakesSteps (acts : List HostAct) (new : Host) (shown : List PassedStep) : Type 0 where
    pub makes : MakesTurns c l acts new
    pub steps : AreMarked exact_ledger (boot c) makes.turns new.machine shown

  pub makes_steps : (acts : List HostAct) (new : Host) (done : AreHostActs (host_up c l) acts new)
      → MakesSteps acts new (steps_done (host_up c l) acts new done)
  makes_steps acts new done =
      let m = acts_make [] [] (host_up c l) new acts up_good done in
      record { makes = made_by acts new (steps_done (host_up c l) acts new done) m; steps = m.steps }

  -- the turns of the steps that are seen
  pub turns_done : (old : Host) (acts : List HostAct) (new : Host) (done : AreHostActs old acts new)
      → trail_turns (steps_done old acts new done) ≡ turns_of_acts c l.mac acts
  turns_done old [] new done = refl
  turns_done old (act ∷ acts) new (mid, is, later) = go (turn_of_act c l.mac act) (turns_done mid acts new later)
    where
      go : (turn : Option Turn) → trail_turns (steps_done mid acts new later) ≡ turns_of_acts c l.mac acts
          → trail_turns (cons_option (step_by turn old.machine mid.machine) (steps_done mid acts new later))
          ≡ cons_option turn (turns_of_acts c l.mac acts)
      go None e = e
      go (Some turn) e = ap (λ ts. turn ∷ ts) e

  -- ---- a call among other acts

  acts_split : (old new : Host) (xs ys : List HostAct) → AreHostActs old (xs ++ ys) new
      → (mid : Host) × AreHostActs old xs mid × AreHostActs mid ys new
  acts_split old new [] ys h = (old, refl, h)
  acts_split old new (x ∷ xs) ys (next, is, rest) =
      let r = acts_split next new xs ys rest in
      (r.0, (next, is, r.1), r.2)

  packets_append : (xs ys : List HostAct)
      → packets_to c l.mac (xs ++ ys) ≡ packets_to c l.mac xs ++ packets_to c l.mac ys
  packets_append [] ys = refl
  packets_append (x ∷ xs) ys =
      ap (λ ps. packets_in c l.mac x ++ ps) (packets_append xs ys)
      ∙ sym (append_assoc (packets_in c l.mac x) (packets_to c l.mac xs) (packets_to c l.mac ys))

  sent_append : (G F : List (List ℕ)) (xs ys : List HostAct) → AreSent c l G F xs → AreSent c l G (all_then xs F) ys
      → AreSent c l G F (xs ++ ys)
  sent_append G F [] ys h k = k
  sent_append G F (x ∷ xs) ys h k = (h.0, sent_append G (frames_then x F) xs ys h.1 k)

  more_all : (G G' F : List (List ℕ)) (acts : List HostAct) → AreSent c l G F acts → AreSent c l (G ++ G') F acts
  more_all G G' F [] h = tt
  more_all G G' F (act ∷ acts) h = (
    All-from_recursion _ (frame_out act)
        (each-weaker (λ f is. Sent.more_sent c l F G G' f is) (frame_out act)
        (recursion_from_All (IsFrameSent c l F G) (frame_out act) h.0)),
    more_all G G' (frames_then act F) acts h.1,
  )

  -- the turns of all acts, and of those before the call
  pub record IsSplit (before after : List HostAct) (turn : Turn) (new : Host) : Type 0 where
    pub then' : Host
    pub first : MakesTurns c l before then'
    pub rest : List Turn
    pub all : MakesTurns c l (before ++ Calls turn ∷ after) new
    pub turns_are : all.turns ≡ first.turns ++ turn ∷ rest
    pub shown : List PassedStep
    pub shown_are : trail_turns shown ≡ turns_of_acts c l.mac (before ++ Calls turn ∷ after)
    pub steps : AreMarked exact_ledger (boot c) all.turns new.machine shown

  pub split : (before after : List HostAct) (turn : Turn) (new : Host)
      → AreHostActs (host_up c l) (before ++ Calls turn ∷ after) new → IsSplit before after turn new
  split before after turn new acts = go (acts_split (host_up c l) new before (Calls turn ∷ after) acts)
    where
      go : (mid : Host) × AreHostActs (host_up c l) before mid × AreHostActs mid (Calls turn ∷ after) new
          → IsSplit before after turn new
      go (mid, early, (next, is, late)) =
          let a = acts_make [] [] (host_up c l) mid before up_good early in
          let out : List (List ℕ) = filter_map packet_out a.turns in
          let call : List (List ℕ) = filter_map packet_out (turn ∷ []) in
          let call_step : PassedStep = record { old = mid.machine; turn = turn; new = next.machine } in
          let b =
          acts_make (all_then before []) (out ++ call) next new after
          (calls_good (all_then before []) out mid next turn a.good is) late in
          let given : (out ++ call) ++ filter_map packet_out b.turns
          ≡ filter_map packet_out (a.turns ++ turn ∷ b.turns) =
          append_assoc out call (filter_map packet_out b.turns)
          ∙ ap (λ xs. out ++ xs) (sym (filter_map-append packet_out (turn ∷ []) b.turns))
          ∙ sym (filter_map-append packet_out a.turns (turn ∷ b.turns)) in
          let early_sent : AreSent c l ((out ++ call) ++ filter_map packet_out b.turns) [] before =
          more_all (out ++ call) (filter_map packet_out b.turns) [] before (more_all out call [] before a.sent) in
          record {
            then' = mid;
            first = made_by before mid (steps_done (host_up c l) before mid early) a;
            rest = b.turns;
            all = record {
              turns = a.turns ++ turn ∷ b.turns;
              leads =
                  then_leads (host_up c l).machine mid.machine new.machine a.turns (turn ∷ b.turns) a.leads
                  (is.event, next.machine, is.machine, b.leads);
              came = filter_map-append packet_in a.turns (turn ∷ b.turns)
                  ∙ ap (λ xs. xs ++ filter_map packet_in (turn ∷ b.turns)) a.in'
                  ∙ ap (λ xs. packets_to c l.mac before ++ xs)
                  (filter_map-append packet_in (turn ∷ []) b.turns
                  ∙ ap (λ xs. filter_map packet_in (turn ∷ []) ++ xs) b.in')
                  ∙ sym (packets_append before (Calls turn ∷ after));
              went = subst (λ H. AreSent c l H [] (before ++ Calls turn ∷ after)) given
                  (sent_append ((out ++ call) ++ filter_map packet_out b.turns) [] before (Calls turn ∷ after)
                  early_sent (All-from_recursion _ [] tt, b.sent));
              waits =
                  all_waiting (all_then after (all_then before []))
                  (filter_map packet_out (a.turns ++ turn ∷ b.turns)) new.link
                  (subst (λ H. Good (all_then after (all_then before [])) H new.link) given b.good);
            };
            turns_are = refl;
            shown = steps_done (host_up c l) before mid early ++ call_step ∷ steps_done next after new late;
            shown_are =
                map-append (λ (p : PassedStep). p.turn) (steps_done (host_up c l) before mid early)
                (call_step ∷ steps_done next after new late)
                ∙ ap (λ ts. ts ++ turn ∷ trail_turns (steps_done next after new late))
                (turns_done (host_up c l) before mid early)
                ∙ ap (λ ts. turns_of_acts c l.mac before ++ turn ∷ ts) (turns_done next after new late)
                ∙ sym (filter_map-append (turn_of_act c l.mac) before (Calls turn ∷ after));
            steps =
                both_marked (host_up c l).machine mid.machine new.machine a.turns (turn ∷ b.turns)
                (steps_done (host_up c l) before mid early) (call_step ∷ steps_done next after new late) a.steps
                (then_marked mid.machine next.machine new.machine (turn ∷ []) b.turns (Some call_step)
                (steps_done next after new late) (one_marked mid.machine next.machine turn is.event is.machine)
                b.steps);
          }

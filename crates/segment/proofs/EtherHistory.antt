-- What was done with each host of an Ethernet segment, from its start on.
use Rattle.std.proofs.Common.{◌≡◌, ◌≢◌, ◌⊎◌, inl, inr, ℕ, ◌+◌, List, [], ◌∷◌, ◌++◌, length, zero, suc, Bool, true, false, Option, None, Some, refl, sym, ap, ◌∙◌, subst, arith}
use Rattle.std.specs.Prelude.{slice_get, slice_set, nat_le, ◌==◌, if◌then◌else◌, option_to_list}
use Rattle.std.proofs.Math.ListN.{length-set}
use Rattle.std.proofs.lemmas.Bool.{eqb-true}
use Rattle.std.proofs.lemmas.Bool.Decides.{eqb_tells}
use Rattle.std.proofs.lemmas.Option.{none-some}
use Rattle.flat_model.specs.Machine.State.{IsConfig}
use Rattle.flat_model.specs.Machine.State.{State}
use Rattle.flat_model.specs.Machine.Step.{Step}
use Rattle.flat_model.specs.Runs.Run.{Turn}
use Rattle.flat_model.specs.declared.config.Config.{Config}
use Rattle.flat_ether.specs.Hosts.{Host, HostAct, AreHostActs, Asks_error, Clock, Comes_in, Ticks, gives, host_up, last_error}
use Rattle.flat_ether.specs.Hosts as host
use Rattle.flat_ether.specs.Laws.{frames_out}
use Rattle.flat_ether.specs.Links.{LinkState, link_up}
use Rattle.flat_ether.specs.declared.link.Link.{Link}
use Rattle.flat_ether.specs.declared.sizes.TheConstants.{ETHER_MTU}
use Rattle.ether_host.specs.View.{halves}
use Rattle.net_stack.specs.Stack.{StackView, state_of}
use Rattle.segment.specs.EtherLaw.{GoByFrames, GoesByFrames, acts_of, host_of_halves, coming, coming_in, host_acts, host_at, if_host, takes_if, taking, taking_in, then_takes}
use Rattle.segment.specs.Flying.{Flying}
use Rattle.segment.specs.Frames.{FrameComes, ReceiveEach, IsEtherJoined, IsHostStep, frames_given, frames_to, hosts_of, or_more}
use Rattle.segment.specs.Law.{Act, Ether, Joins, Calls, Collects, Delivers, Impairs, Seeds, Loses, Repeats, Swaps, AreActs, IsAct, IsHostCalled, JoinsEther, CollectsFrames, DeliversFrames, ReceivesFrame, QueriesError, TicksHost}
use Rattle.segment.specs.Segment.{SegmentView, AreBoth, AtEach, leaving}
use Rattle.segment.specs.declared.links.TheConstants.{FRAMES}
use Rattle.segment.proofs.History.{get_within, length-last}
use Rattle.segment.proofs.Walking.{get_set_same, get_set_other}

-- ---- a host's next frames, one after another

abbrev short_or : Host → Bool → Option (List ℕ) × Host
short_or h b = if b then gives h else (None, h)

given_pair : (n : ℕ) (o : Option (List ℕ)) (k : Host) → AreHostActs k (taking n k) (frames_given n k).1
    → AreHostActs k (then_takes o (taking n k)) (or_more (o, k) (frames_given n k)).1
given_pair n None k h = refl
given_pair n (Some f) k h = h

pub taking_acts : (n : ℕ) (h : Host) → AreHostActs h (taking n h) (frames_given n h).1
taking_acts zero h = refl
taking_acts (suc n) h = go (taking_acts n (gives h).1) (nat_le h.machine.config.mtu ETHER_MTU)
  where
    paired : ((gives h).0, (gives h).1) ≡ gives h
    paired = refl

    go : AreHostActs (gives h).1 (taking n (gives h).1) (frames_given n (gives h).1).1 → (b : Bool)
        → AreHostActs h (takes_if b (gives h).0 ++ then_takes (short_or h b).0 (taking n (short_or h b).1))
        (or_more (short_or h b) (frames_given n (short_or h b).1)).1
    go rest false = refl
    go rest true = (
      (gives h).1,
      paired,
      subst (λ (r : Option (List ℕ) × Host). AreHostActs (gives h).1 (then_takes r.0 (taking n r.1))
          (or_more r (frames_given n r.1)).1) paired
          (given_pair n (gives h).0 (gives h).1 rest),
    )

out_pair : (n : ℕ) (o : Option (List ℕ)) (k : Host) → frames_out (taking n k) ≡ (frames_given n k).0
    → option_to_list o ++ frames_out (then_takes o (taking n k)) ≡ (or_more (o, k) (frames_given n k)).0
out_pair n None k e = refl
out_pair n (Some f) k e = ap (λ (fs : List (List ℕ)). f ∷ fs) e

-- the frames that the link takes are those that the host gives
pub taking_out : (n : ℕ) (h : Host) → frames_out (taking n h) ≡ (frames_given n h).0
taking_out zero h = refl
taking_out (suc n) h = go (taking_out n (gives h).1) (nat_le h.machine.config.mtu ETHER_MTU)
  where
    paired : ((gives h).0, (gives h).1) ≡ gives h
    paired = refl

    go : frames_out (taking n (gives h).1) ≡ (frames_given n (gives h).1).0 → (b : Bool)
        → frames_out (takes_if b (gives h).0 ++ then_takes (short_or h b).0 (taking n (short_or h b).1))
        ≡ (or_more (short_or h b) (frames_given n (short_or h b).1)).0
    go rest false = refl
    go rest true =
        subst (λ (r : Option (List ℕ) × Host). option_to_list r.0 ++ frames_out (then_takes r.0 (taking n r.1))
        ≡ (or_more r (frames_given n r.1)).0) paired
        (out_pair n (gives h).0 (gives h).1 rest)

coming_acts : (frames : List (List ℕ)) (h u : Host) → ReceiveEach frames h u → AreHostActs h (coming frames) u
coming_acts [] h u e = e
coming_acts (f ∷ frames) h u (mid, received, later) = (mid, received, coming_acts frames mid u later)

-- ---- hosts by their places

both_none : (s : Option StackView) → host_of_halves s None ≡ None
both_none None = refl
both_none (Some s) = refl

pub hosts_get : (stacks : List StackView) (links : List LinkState) (k : ℕ)
    → slice_get (hosts_of stacks links) k ≡ host_of_halves (slice_get stacks k) (slice_get links k)
hosts_get [] links k = refl
hosts_get (s ∷ stacks) [] k = sym (both_none (slice_get (s ∷ stacks) k))
hosts_get (s ∷ stacks) (l ∷ links) zero = refl
hosts_get (s ∷ stacks) (l ∷ links) (suc k) = hosts_get stacks links k

both_each : (R : Host → Host → Type 0) (x y u v : Option Host) → x ≡ u → y ≡ v → AreBoth R x y → AreBoth R u v
both_each R x y u v e f h = subst (λ p. AreBoth R p v) e (subst (λ q. AreBoth R x q) f h)

-- the hosts of two segments, at one index
pub at_place : (R : ℕ → Host → Host → Type 0) (old new : SegmentView) (k : ℕ)
    → AtEach R (hosts_of old.stacks old.links) (hosts_of new.stacks new.links)
    → AreBoth (R k) (host_at k old) (host_at k new)
at_place R old new k each =
    both_each (R k) _ _ _ _ (hosts_get old.stacks old.links k) (hosts_get new.stacks new.links k) (each k)

abbrev half_of : LinkState → State → Host
half_of l machine = record { machine = machine; link = l }

-- from the host that was there, or from its start if none was
abbrev pub BeginsHost : Config → List HostAct → Host → Option Config → Option Host → Type 0
BeginsHost c acts t None None = (l : Link) × IsConfig c × AreHostActs (host_up c l) acts t
BeginsHost c acts t (Some d) (Some h) = (d ≡ c) × AreHostActs h acts t
BeginsHost c acts t _ _ = ⊥

then_acts : (a b t : Host) (xs ys : List HostAct) → AreHostActs a xs b → AreHostActs b ys t → AreHostActs a (xs ++ ys) t
then_acts a b t [] ys same later = subst (λ (h : Host). AreHostActs h ys t) same later
then_acts a b t (x ∷ xs) ys (mid, is, rest) later = (mid, is, then_acts mid b t xs ys rest later)

module _ (k : ℕ) (c : Config) (t : Host) where
  on : (more acts : List HostAct) (o : Option Config) (x y : Option Host) → (x ≡ None → more ≡ [])
      → AreBoth (λ h u. AreHostActs h more u) x y → BeginsHost c acts t o y → BeginsHost c (more ++ acts) t o x
  on more acts None None None none went b =
      subst (λ (m : List HostAct). BeginsHost c (m ++ acts) t None None) (sym (none refl)) b
  on more acts None None (Some u) none went b = absurd went
  on more acts None (Some h) None none went b = absurd went
  on more acts None (Some h) (Some u) none went b = absurd b
  on more acts (Some d) None None none went b = absurd b
  on more acts (Some d) None (Some u) none went b = absurd went
  on more acts (Some d) (Some h) None none went b = absurd went
  on more acts (Some d) (Some h) (Some u) none went b = (b.0, then_acts h u t more acts went b.1)

  joined_at : (configs : List Config) (stacks : List StackView) (links : List LinkState) (k : ℕ) (acts : List HostAct)
      (d : Config) (s : StackView) (up : LinkState) (l : Link) → length configs ≡ length links
      → length links ≡ length stacks → IsConfig d → halves s up ≡ host_up d l
      → BeginsHost c acts t (slice_get (configs ++ d ∷ []) k)
      (host_of_halves (slice_get (stacks ++ s ∷ []) k) (slice_get (links ++ up ∷ []) k))
      → BeginsHost c acts t (slice_get configs k) (host_of_halves (slice_get stacks k) (slice_get links k))
  joined_at [] [] [] zero acts d s up l e f is start b = (
    l,
    subst IsConfig b.0 is,
    subst (λ (x : Config). AreHostActs (host_up x l) acts t) b.0 (subst (λ (h : Host). AreHostActs h acts t) start b.1),
  )
  joined_at [] [] [] (suc k) acts d s up l e f is start b = b
  joined_at [] [] (z ∷ links) k acts d s up l e f is start b = absurd (omega (arith, e))
  joined_at [] (y ∷ stacks) [] k acts d s up l e f is start b = absurd (omega (arith, f))
  joined_at [] (y ∷ stacks) (z ∷ links) k acts d s up l e f is start b = absurd (omega (arith, e))
  joined_at (x ∷ configs) [] [] k acts d s up l e f is start b = absurd (omega (arith, e))
  joined_at (x ∷ configs) [] (z ∷ links) k acts d s up l e f is start b = absurd (omega (arith, f))
  joined_at (x ∷ configs) (y ∷ stacks) [] k acts d s up l e f is start b = absurd (omega (arith, e))
  joined_at (x ∷ configs) (y ∷ stacks) (z ∷ links) zero acts d s up l e f is start b = b
  joined_at (x ∷ configs) (y ∷ stacks) (z ∷ links) (suc k) acts d s up l e f is start b =
      joined_at configs stacks links k acts d s up l (omega (arith, e)) (omega (arith, f)) is start b

  joined : (acts : List HostAct) (d : Config) (l : Link) (old new : SegmentView)
      → length old.configs ≡ length old.links → IsEtherJoined d l old new
      → BeginsHost c acts t (slice_get new.configs k) (host_at k new)
      → BeginsHost c acts t (slice_get old.configs k) (host_at k old)
  joined acts d l old new even j from =
      joined_at old.configs old.stacks old.links k acts d j.stack (link_up d l) l even
      (eqb-true (length old.links) (length old.stacks) j.free.0.1) j.is_config
      (ap (half_of (link_up d l)) j.started)
      (subst (λ (xs : List Config). BeginsHost c acts t (slice_get xs k)
      (host_of_halves (slice_get (old.stacks ++ j.stack ∷ []) k) (slice_get (old.links ++ link_up d l ∷ []) k)))
      j.configs
      (subst (λ (xs : List StackView). BeginsHost c acts t (slice_get new.configs k)
      (host_of_halves (slice_get xs k) (slice_get (old.links ++ link_up d l ∷ []) k))) j.stacks
      (subst (λ (xs : List LinkState). BeginsHost c acts t (slice_get new.configs k)
      (host_of_halves (slice_get new.stacks k) (slice_get xs k))) j.links from)))

  none_there : (x : Option Host) (act : HostAct) → x ≡ None → if_host x act ≡ []
  none_there None act e = refl
  none_there (Some h) act e = absurd (none-some _ (sym e))

  none_takes : (x : Option Host) → x ≡ None → taking_in x ≡ []
  none_takes None e = refl
  none_takes (Some h) e = absurd (none-some _ (sym e))

  none_comes : (flight : List Flying) (x : Option Host) → x ≡ None → coming_in k x flight ≡ []
  none_comes flight None e = refl
  none_comes flight (Some h) e = absurd (none-some _ (sym e))

  took : (x y : Option Host) → AreBoth (λ h u. u ≡ (frames_given FRAMES h).1) x y
      → AreBoth (λ h u. AreHostActs h (taking_in x) u) x y
  took None None h = tt
  took None (Some u) h = absurd h
  took (Some h) None e = absurd e
  took (Some h) (Some u) e = subst (λ (v : Host). AreHostActs h (taking FRAMES h) v) (sym e) (taking_acts FRAMES h)

  came : (flight : List Flying) (x y : Option Host)
      → AreBoth (λ h u. ReceiveEach (frames_to k h.link.link.mac flight) h u) x y
      → AreBoth (λ h u. AreHostActs h (coming_in k x flight) u) x y
  came flight None None h = tt
  came flight None (Some u) h = absurd h
  came flight (Some h) None e = absurd e
  came flight (Some h) (Some u) e = coming_acts (frames_to k h.link.link.mac flight) h u e

  same_config : (acts : List HostAct) (old new : SegmentView) → new.configs ≡ old.configs
      → BeginsHost c acts t (slice_get new.configs k) (host_at k new)
      → BeginsHost c acts t (slice_get old.configs k) (host_at k new)
  same_config acts old new e from =
      subst (λ (xs : List Config). BeginsHost c acts t (slice_get xs k) (host_at k new)) e from

  -- an act on this host, or on another one
  one_went : (act : HostAct) (other : ℕ) (acts : List HostAct) (o : Option Config) (x y : Option Host)
      → (other ≡ k → AreBoth (λ h u. AreHostActs h (act ∷ []) u) x y) → (other ≢ k → y ≡ x)
      → BeginsHost c acts t o y → BeginsHost c ((if other == k then if_host x act else []) ++ acts) t o x
  one_went act other acts o x y mine others b = by (eqb_tells other k)
    where
      there : (x y : Option Host) → AreBoth (λ h u. AreHostActs h (act ∷ []) u) x y
          → AreBoth (λ h u. AreHostActs h (if_host x act) u) x y
      there None None h = tt
      there None (Some u) h = absurd h
      there (Some h) None e = absurd e
      there (Some h) (Some u) e = e

      by : (((other == k) ≡ true) × (other ≡ k)) ⊎ (((other == k) ≡ false) × (other ≢ k))
          → BeginsHost c ((if other == k then if_host x act else []) ++ acts) t o x
      by (inl h) =
          subst (λ (b : Bool). BeginsHost c ((if b then if_host x act else []) ++ acts) t o x) (sym h.0)
          (on (if_host x act) acts o x y (none_there x act) (there x y (mine h.1)) b)
      by (inr h) =
          subst (λ (b : Bool). BeginsHost c ((if b then if_host x act else []) ++ acts) t o x) (sym h.0)
          (subst (λ (z : Option Host). BeginsHost c acts t o z) (others h.1) b)

  both_set : (stacks : List StackView) (links : List LinkState) (place : ℕ) (s : StackView) (l : LinkState)
      → place ≢ k
      → host_of_halves (slice_get (slice_set stacks place s) k) (slice_get (slice_set links place l) k)
      ≡ host_of_halves (slice_get stacks k) (slice_get links k)
  both_set stacks links place s l other =
      ap (λ x. host_of_halves x (slice_get (slice_set links place l) k)) (get_set_other stacks place k s other)
      ∙ ap (λ y. host_of_halves (slice_get stacks k) y) (get_set_other links place k l other)

  stack_set : (stacks : List StackView) (links : List LinkState) (place : ℕ) (s : StackView) → place ≢ k
      → host_of_halves (slice_get (slice_set stacks place s) k) (slice_get links k)
      ≡ host_of_halves (slice_get stacks k) (slice_get links k)
  stack_set stacks links place s other = ap (λ x. host_of_halves x (slice_get links k))
      (get_set_other stacks place k s other)

  abbrev after_call : SegmentView → ℕ → StackView → Option Host
  after_call old place s = host_of_halves (slice_get (slice_set old.stacks place s) k) (slice_get old.links k)

  abbrev after_step : SegmentView → ℕ → StackView → LinkState → Option Host
  after_step old place s l =
      host_of_halves (slice_get (slice_set old.stacks place s) k) (slice_get (slice_set old.links place l) k)

  -- a call
  called : (place : ℕ) (turn : Turn) (acts : List HostAct) (old new : SegmentView) → IsHostCalled place turn old new
      → BeginsHost c acts t (slice_get new.configs k) (host_at k new)
      → BeginsHost c (host_acts k old (Calls place turn) ++ acts) t (slice_get old.configs k) (host_at k old)
  called place turn acts old new is from =
      one_went (host.Calls turn) place acts (slice_get old.configs k) (host_at k old) (after_call old place is.after)
      mine
      (stack_set old.stacks old.links place is.after)
      (subst (λ (xs : List LinkState). BeginsHost c acts t (slice_get old.configs k)
      (host_of_halves (slice_get (slice_set old.stacks place is.after) k) (slice_get xs k))) is.links
      (subst (λ (xs : List StackView). BeginsHost c acts t (slice_get old.configs k)
      (host_of_halves (slice_get xs k) (slice_get new.links k))) is.stacks (same_config acts old new is.configs from)))
    where
      linked : (l : Option LinkState)
          → AreBoth (λ h u. AreHostActs h (host.Calls turn ∷ []) u) (host_of_halves (Some is.before) l)
          (host_of_halves (Some is.after) l)
      linked None = tt
      linked (Some l) = (
        halves is.after l,
        record {
          event = is.calls.0;
          machine =
              subst (λ (s : StackView). Step (state_of is.before) turn.event turn.reply (state_of s)) (sym is.calls.3)
              is.calls.2;
          link = refl;
        },
        refl,
      )

      mine : place ≡ k → AreBoth (λ h u. AreHostActs h (host.Calls turn ∷ []) u) (host_at k old)
          (after_call old place is.after)
      mine e =
          let here : slice_get old.stacks k ≡ Some is.before =
          subst (λ n. slice_get old.stacks n ≡ Some is.before) e is.here in
          let there : slice_get (slice_set old.stacks place is.after) k ≡ Some is.after =
          subst (λ n. slice_get (slice_set old.stacks place is.after) n ≡ Some is.after) e
          (get_set_same old.stacks place is.after (get_within old.stacks place is.before is.here)) in
          both_each _ _ _ _ _ (ap (λ x. host_of_halves x (slice_get old.links k)) (sym here))
          (ap (λ x. host_of_halves x (slice_get old.links k)) (sym there)) (linked (slice_get old.links k))

  -- a frame from outside, a question for an error, or a tick
  stepped : (act : HostAct) (place : ℕ) (R : Host → Host → Type 0) (acts : List HostAct) (old new : SegmentView)
      → ((h u : Host) → R h u → AreHostActs h (act ∷ []) u) → IsHostStep place R old new
      → BeginsHost c acts t (slice_get new.configs k) (host_at k new)
      → BeginsHost c ((if place == k then if_host (host_at k old) act else []) ++ acts) t (slice_get old.configs k)
      (host_at k old)
  stepped act place R acts old new goes is from =
      one_went act place acts (slice_get old.configs k) (host_at k old) (after_step old place is.stack' is.link') mine
      (both_set old.stacks old.links place is.stack' is.link')
      (subst (λ (w : SegmentView). BeginsHost c acts t (slice_get w.configs k) (host_at k w)) is.is from)
    where
      one : (x : Option StackView) (y : Option LinkState) (u : Option StackView) (v : Option LinkState)
          → x ≡ Some is.stack → y ≡ Some is.link → u ≡ Some is.stack' → v ≡ Some is.link'
          → AreBoth (λ h u. AreHostActs h (act ∷ []) u) (host_of_halves x y) (host_of_halves u v)
      one x y u v e f g h =
          both_each _ _ _ _ _ (ap (λ a. host_of_halves a (Some is.link)) (sym e) ∙ ap (λ b. host_of_halves x b) (sym f))
          (ap (λ a. host_of_halves a (Some is.link')) (sym g) ∙ ap (λ b. host_of_halves u b) (sym h))
          (goes (halves is.stack is.link) (halves is.stack' is.link') is.goes)

      mine : place ≡ k → AreBoth (λ h u. AreHostActs h (act ∷ []) u) (host_at k old)
          (after_step old place is.stack' is.link')
      mine e =
          one (slice_get old.stacks k) (slice_get old.links k) _ _
          (subst (λ n. slice_get old.stacks n ≡ Some is.stack) e is.stack_is)
          (subst (λ n. slice_get old.links n ≡ Some is.link) e is.link_is)
          (subst (λ n. slice_get (slice_set old.stacks place is.stack') n ≡ Some is.stack') e
          (get_set_same old.stacks place is.stack' (get_within old.stacks place is.stack is.stack_is)))
          (subst (λ n. slice_get (slice_set old.links place is.link') n ≡ Some is.link') e
          (get_set_same old.links place is.link' (get_within old.links place is.link is.link_is)))

-- ---- the number of links is the number of configurations

pub even_on : (act : Act) (old new : SegmentView) → GoesByFrames act → IsAct old act new
    → length old.configs ≡ length old.links → length new.configs ≡ length new.links
even_on (Ether (JoinsEther d l)) old new framed j even =
    ap length j.configs ∙ length-last old.configs d ∙ ap (λ n. n + 1) even
    ∙ sym (ap length j.links ∙ length-last old.links (link_up d l))
even_on (Ether CollectsFrames) old new framed is even = ap length is.1.configs ∙ even ∙ sym is.1.links
even_on (Ether DeliversFrames) old new framed is even = ap length is.1.configs ∙ even ∙ sym is.1.links
even_on (Ether (ReceivesFrame place f)) old new framed is even =
    subst (λ (w : SegmentView). length w.configs ≡ length w.links) (sym is.is)
    (even ∙ sym (length-set old.links place is.link'))
even_on (Ether (QueriesError place fd fault)) old new framed is even =
    subst (λ (w : SegmentView). length w.configs ≡ length w.links) (sym is.is)
    (even ∙ sym (length-set old.links place is.link'))
even_on (Ether (TicksHost place)) old new framed is even =
    subst (λ (w : SegmentView). length w.configs ≡ length w.links) (sym is.is)
    (even ∙ sym (length-set old.links place is.link'))
even_on (Joins d) old new framed is even = absurd framed
even_on (Calls place turn) old new framed is even = ap length is.configs ∙ even ∙ sym (ap length is.links)
even_on (Collects found) old new framed is even = absurd framed
even_on (Delivers found) old new framed is even = absurd framed
even_on (Impairs place chances) old new framed is even =
    subst (λ (w : SegmentView). length w.configs ≡ length w.links) (sym is) even
even_on (Seeds seed) old new framed is even =
    subst (λ (w : SegmentView). length w.configs ≡ length w.links) (sym is) even
even_on (Loses place) old new framed is even =
    subst (λ (w : SegmentView). length w.configs ≡ length w.links) (sym is) even
even_on (Repeats place) old new framed is even =
    subst (λ (w : SegmentView). length w.configs ≡ length w.links) (sym is) even
even_on (Swaps place other) old new framed is even =
    subst (λ (w : SegmentView). length w.configs ≡ length w.links) (sym is) even

-- ---- whatever was done

module _ (k : ℕ) (c : Config) (t : Host) where
  one_act : (act : Act) (acts : List HostAct) (old new : SegmentView) → GoesByFrames act → IsAct old act new
      → length old.configs ≡ length old.links
      → BeginsHost c acts t (slice_get new.configs k) (host_at k new)
      → BeginsHost c (host_acts k old act ++ acts) t (slice_get old.configs k) (host_at k old)
  one_act (Ether (JoinsEther d l)) acts old new framed is even from = joined k c t acts d l old new even is from
  one_act (Ether CollectsFrames) acts old new framed is even from =
      on k c t (taking_in (host_at k old)) acts (slice_get old.configs k) (host_at k old) (host_at k new)
      (none_takes k c t (host_at k old))
      (took k c t (host_at k old) (host_at k new)
      (at_place (λ place h u. u ≡ (frames_given FRAMES h).1) old new k is.1.hosts))
      (same_config k c t acts old new is.1.configs from)
  one_act (Ether DeliversFrames) acts old new framed is even from =
      on k c t (coming_in k (host_at k old) (leaving old).0) acts (slice_get old.configs k) (host_at k old)
      (host_at k new) (none_comes k c t (leaving old).0 (host_at k old))
      (came k c t (leaving old).0 (host_at k old) (host_at k new)
      (at_place (λ place h u. ReceiveEach (frames_to place h.link.link.mac (leaving old).0) h u) old new k is.1.hosts))
      (same_config k c t acts old new is.1.configs from)
  one_act (Ether (ReceivesFrame place f)) acts old new framed is even from =
      stepped k c t (Comes_in f) place (FrameComes f) acts old new (λ h u received. (u, received, refl)) is from
  one_act (Ether (QueriesError place fd fault)) acts old new framed is even from =
      stepped k c t (Asks_error fd fault) place (λ h u. (fault, u) ≡ last_error fd h) acts old new
      (λ h u asked. (u, asked, refl)) is from
  one_act (Ether (TicksHost place)) acts old new framed is even from =
      stepped k c t Clock place Ticks acts old new (λ h u ticked. (u, ticked, refl)) is from
  one_act (Joins d) acts old new framed is even from = absurd framed
  one_act (Calls place turn) acts old new framed is even from = called k c t place turn acts old new is from
  one_act (Collects found) acts old new framed is even from = absurd framed
  one_act (Delivers found) acts old new framed is even from = absurd framed
  one_act (Impairs place chances) acts old new framed is even from =
      subst (λ (w : SegmentView). BeginsHost c acts t (slice_get w.configs k) (host_at k w)) is from
  one_act (Seeds seed) acts old new framed is even from =
      subst (λ (w : SegmentView). BeginsHost c acts t (slice_get w.configs k) (host_at k w)) is from
  one_act (Loses place) acts old new framed is even from =
      subst (λ (w : SegmentView). BeginsHost c acts t (slice_get w.configs k) (host_at k w)) is from
  one_act (Repeats place) acts old new framed is even from =
      subst (λ (w : SegmentView). BeginsHost c acts t (slice_get w.configs k) (host_at k w)) is from
  one_act (Swaps place other) acts old new framed is even from =
      subst (λ (w : SegmentView). BeginsHost c acts t (slice_get w.configs k) (host_at k w)) is from

  pub host_began : (acts : List Act) (v last : SegmentView) (done : AreActs v acts last) → GoByFrames acts
      → length v.configs ≡ length v.links → slice_get last.configs k ≡ Some c → host_at k last ≡ Some t
      → BeginsHost c (acts_of k v acts last done) t (slice_get v.configs k) (host_at k v)
  host_began [] v last done framed even is_c is_t =
      subst (λ (w : SegmentView). BeginsHost c [] t (slice_get w.configs k) (host_at k w)) done
      (subst (λ (o : Option Config). BeginsHost c [] t o (host_at k last)) (sym is_c)
      (subst (λ (p : Option Host). BeginsHost c [] t (Some c) p) (sym is_t) (refl, refl)))
  host_began (act ∷ acts) v last (mid, is, done) framed even is_c is_t =
      one_act act (acts_of k mid acts last done) v mid framed.0 is even
      (host_began acts mid last done framed.1 (even_on act v mid framed.0 is even) is_c is_t)

-- Two hosts of an Ethernet segment are among hosts on one Ethernet.
use Rattle.std.proofs.Common.{◌≡◌, ◌≢◌, ◌⊎◌, inl, inr, ℕ, ◌<◌, List, [], ◌∷◌, ◌++◌, length, zero, suc, Bool, true, false, Option, None, Some, refl, sym, ap, ◌∙◌, subst, arith}
use Rattle.std.specs.Prelude.{slice_get, slice_set, ◌==◌, if◌then◌else◌, Contains}
use Rattle.std.specs.List.{list_all}
use Rattle.std.proofs.lemmas.Bool.Decides.{eqb_tells}
use Rattle.std.proofs.lemmas.List.Elements.{All-from_recursion, recursion_from_All}
use Rattle.std.proofs.lemmas.Option.{none-some}
use Rattle.flat_model.specs.Machine.State.{IsConfig}
use Rattle.flat_model.specs.declared.config.Config.{Config}
use Rattle.flat_model.proofs.Laws.{each-weaker}
use Rattle.flat_ether.specs.Hosts.{Host, HostAct, AreHostActs, host_up}
use Rattle.flat_ether.specs.Laws.{AreAmongHosts, IsUnforged, frames_in, frames_out}
use Rattle.flat_ether.specs.Links.{LinkState, link_up}
use Rattle.flat_ether.specs.declared.link.Link.{Link}
use Rattle.ether_host.specs.View.{halves}
use Rattle.net_stack.specs.Stack.{StackView}
use Rattle.segment.specs.EtherLaw.{GoByFrames, AreOnEtherSegment, GoesByFrames, acts_of, host_of_halves, coming, coming_in, frames_received_by, host_acts, host_at, if_host, taking_in}
use Rattle.segment.specs.Frames.{ReceiveEach, frames_given, frames_to}
use Rattle.segment.specs.Law.{Act, Ether, Joins, Calls, Collects, Delivers, Impairs, Seeds, Loses, Repeats, Swaps, AreActs, IsAct, JoinsEther, CollectsFrames, DeliversFrames, ReceivesFrame, QueriesError, TicksHost}
use Rattle.segment.specs.Segment.{SegmentView, AreBoth, are_apart, leaving, no_hosts}
use Rattle.segment.specs.declared.links.TheConstants.{FRAMES}
use Rattle.segment.proofs.EtherHistory.{at_place, even_on, host_began}
use Rattle.segment.proofs.EtherWires.{frames_come, out_append}
use Rattle.segment.proofs.History.{get_front, get_within}
use Rattle.segment.proofs.Hosts.{AreApart, all_pass, get_last_or, from_are_apart, turned}

-- ---- all hosts have distinct addresses

abbrev AllApart : List Config → Type 0
AllApart cs =
    (i k : ℕ) (c d : Config) → i ≢ k → slice_get cs i ≡ Some c → slice_get cs k ≡ Some d → AreApart c d

none_apart : AllApart []
none_apart i k c d h e f = absurd (none-some _ e)

joined_apart : (cs : List Config) (d : Config) → AllApart cs → list_all (are_apart d) cs ≡ true
    → AllApart (cs ++ d ∷ [])
joined_apart cs d all pass i k a b h e f = by (get_last_or cs d a i e) (get_last_or cs d b k f)
  where
    by : (slice_get cs i ≡ Some a) ⊎ ((i ≡ length cs) × (d ≡ a))
        → (slice_get cs k ≡ Some b) ⊎ ((k ≡ length cs) × (d ≡ b)) → AreApart a b
    by (inl e) (inl f) = all i k a b h e f
    by (inl e) (inr f) =
        turned b a (from_are_apart b a (subst (λ (x : Config). are_apart x a ≡ true) f.1
        (all_pass (are_apart d) cs i a pass e)))
    by (inr e) (inl f) =
        from_are_apart a b (subst (λ (x : Config). are_apart x b ≡ true) e.1 (all_pass (are_apart d) cs k b pass f))
    by (inr e) (inr f) = absurd (h (e.0 ∙ sym f.0))

-- ---- the hosts after an act

both_some : (x : Option StackView) (y : Option LinkState) (h : Host) → host_of_halves x y ≡ Some h
    → (s : StackView) × (l : LinkState) × (x ≡ Some s) × (y ≡ Some l)
both_some None y h e = absurd (none-some _ e)
both_some (Some s) None h e = absurd (none-some _ e)
both_some (Some s) (Some l) h e = (s, l, refl, refl)

both_make : (x : Option StackView) (y : Option LinkState) (s : StackView) (l : LinkState) → x ≡ Some s → y ≡ Some l
    → (h : Host) × (host_of_halves x y ≡ Some h)
both_make x y s l e f = (halves s l, ap (λ z. host_of_halves z y) e ∙ ap (λ z. host_of_halves (Some s) z) f)

both_there : (R : Host → Host → Type 0) (x y : Option Host) (h : Host) → x ≡ Some h → AreBoth R x y
    → (u : Host) × (y ≡ Some u)
both_there R None y h e r = absurd (none-some _ e)
both_there R (Some a) None h e r = absurd r
both_there R (Some a) (Some u) h e r = (u, refl)

set_there : {X : Type 0} (xs : List X) (place k : ℕ) (y x : X) → slice_get xs k ≡ Some x
    → (z : X) × (slice_get (slice_set xs place y) k ≡ Some z)
set_there [] place k y x e = absurd (none-some _ e)
set_there (a ∷ xs) zero zero y x e = (y, refl)
set_there (a ∷ xs) zero (suc k) y x e = (x, e)
set_there (a ∷ xs) (suc place) zero y x e = (a, refl)
set_there (a ∷ xs) (suc place) (suc k) y x e = set_there xs place k y x e

within_some : {X : Type 0} (xs : List X) (k : ℕ) → k < length xs → (x : X) × (slice_get xs k ≡ Some x)
within_some [] k less = absurd (omega (arith, less))
within_some (x ∷ xs) zero less = (x, refl)
within_some (x ∷ xs) (suc k) less = within_some xs k (omega (arith, less))

-- a host is there still
there_on : (k : ℕ) (act : Act) (old new : SegmentView) (h : Host) → GoesByFrames act → IsAct old act new
    → host_at k old ≡ Some h → (u : Host) × (host_at k new ≡ Some u)
there_on k (Ether (JoinsEther d up)) old new h framed j e =
    let p = both_some (slice_get old.stacks k) (slice_get old.links k) h e in
    both_make (slice_get new.stacks k) (slice_get new.links k) p.0 p.1
    (ap (λ xs. slice_get xs k) j.stacks
    ∙ get_front old.stacks (j.stack ∷ []) k (get_within old.stacks k p.0 p.2) ∙ p.2)
    (ap (λ xs. slice_get xs k) j.links
    ∙ get_front old.links (link_up d up ∷ []) k (get_within old.links k p.1 p.3) ∙ p.3)
there_on k (Ether CollectsFrames) old new h framed is e =
    both_there _ (host_at k old) (host_at k new) h e
    (at_place (λ place h u. u ≡ (frames_given FRAMES h).1) old new k is.1.hosts)
there_on k (Ether DeliversFrames) old new h framed is e =
    both_there _ (host_at k old) (host_at k new) h e
    (at_place (λ place h u. ReceiveEach (frames_to place h.link.link.mac (leaving old).0) h u) old new k is.1.hosts)
there_on k (Ether (ReceivesFrame place f)) old new h framed is e =
    let p = both_some (slice_get old.stacks k) (slice_get old.links k) h e in
    let s = set_there old.stacks place k is.stack' p.0 p.2 in
    let l = set_there old.links place k is.link' p.1 p.3 in
    subst (λ (w : SegmentView). (u : Host) × (host_at k w ≡ Some u)) (sym is.is) (both_make _ _ s.0 l.0 s.1 l.1)
there_on k (Ether (QueriesError place fd fault)) old new h framed is e =
    let p = both_some (slice_get old.stacks k) (slice_get old.links k) h e in
    let s = set_there old.stacks place k is.stack' p.0 p.2 in
    let l = set_there old.links place k is.link' p.1 p.3 in
    subst (λ (w : SegmentView). (u : Host) × (host_at k w ≡ Some u)) (sym is.is) (both_make _ _ s.0 l.0 s.1 l.1)
there_on k (Ether (TicksHost place)) old new h framed is e =
    let p = both_some (slice_get old.stacks k) (slice_get old.links k) h e in
    let s = set_there old.stacks place k is.stack' p.0 p.2 in
    let l = set_there old.links place k is.link' p.1 p.3 in
    subst (λ (w : SegmentView). (u : Host) × (host_at k w ≡ Some u)) (sym is.is) (both_make _ _ s.0 l.0 s.1 l.1)
there_on k (Joins d) old new h framed is e = absurd framed
there_on k (Calls place turn) old new h framed is e =
    let p = both_some (slice_get old.stacks k) (slice_get old.links k) h e in
    let s = set_there old.stacks place k is.after p.0 p.2 in
    both_make (slice_get new.stacks k) (slice_get new.links k) s.0 p.1 (ap (λ xs. slice_get xs k) is.stacks ∙ s.1)
    (ap (λ xs. slice_get xs k) is.links ∙ p.3)
there_on k (Collects found) old new h framed is e = absurd framed
there_on k (Delivers found) old new h framed is e = absurd framed
there_on k (Impairs place chances) old new h framed is e = (h, ap (host_at k) is ∙ e)
there_on k (Seeds seed) old new h framed is e = (h, ap (host_at k) is ∙ e)
there_on k (Loses place) old new h framed is e = (h, ap (host_at k) is ∙ e)
there_on k (Repeats place) old new h framed is e = (h, ap (host_at k) is ∙ e)
there_on k (Swaps place other) old new h framed is e = (h, ap (host_at k) is ∙ e)

configs_on : (act : Act) (old new : SegmentView) → GoesByFrames act → IsAct old act new → AllApart old.configs
    → AllApart new.configs
configs_on (Ether (JoinsEther d up)) old new framed j all =
    subst AllApart (sym j.configs) (joined_apart old.configs d all j.free.2)
configs_on (Ether CollectsFrames) old new framed is all = subst AllApart (sym is.1.configs) all
configs_on (Ether DeliversFrames) old new framed is all = subst AllApart (sym is.1.configs) all
configs_on (Ether (ReceivesFrame place f)) old new framed is all =
    subst (λ (w : SegmentView). AllApart w.configs) (sym is.is) all
configs_on (Ether (QueriesError place fd fault)) old new framed is all =
    subst (λ (w : SegmentView). AllApart w.configs) (sym is.is) all
configs_on (Ether (TicksHost place)) old new framed is all =
    subst (λ (w : SegmentView). AllApart w.configs) (sym is.is) all
configs_on (Joins d) old new framed is all = absurd framed
configs_on (Calls place turn) old new framed is all = subst AllApart (sym is.configs) all
configs_on (Collects found) old new framed is all = absurd framed
configs_on (Delivers found) old new framed is all = absurd framed
configs_on (Impairs place chances) old new framed is all =
    subst (λ (w : SegmentView). AllApart w.configs) (sym is) all
configs_on (Seeds seed) old new framed is all = subst (λ (w : SegmentView). AllApart w.configs) (sym is) all
configs_on (Loses place) old new framed is all = subst (λ (w : SegmentView). AllApart w.configs) (sym is) all
configs_on (Repeats place) old new framed is all = subst (λ (w : SegmentView). AllApart w.configs) (sym is) all
configs_on (Swaps place other) old new framed is all = subst (λ (w : SegmentView). AllApart w.configs) (sym is) all

-- ---- and after all acts

all_apart : (acts : List Act) (v last : SegmentView) → GoByFrames acts → AreActs v acts last → AllApart v.configs
    → AllApart last.configs
all_apart [] v last framed done all = subst (λ (w : SegmentView). AllApart w.configs) (sym done) all
all_apart (act ∷ acts) v last framed (mid, is, done) all =
    all_apart acts mid last framed.1 done (configs_on act v mid framed.0 is all)

all_even : (acts : List Act) (v last : SegmentView) → GoByFrames acts → AreActs v acts last
    → length v.configs ≡ length v.links → length last.configs ≡ length last.links
all_even [] v last framed done even =
    subst (λ (w : SegmentView). length w.configs ≡ length w.links) (sym done) even
all_even (act ∷ acts) v last framed (mid, is, done) even =
    all_even acts mid last framed.1 done (even_on act v mid framed.0 is even)

still_there : (k : ℕ) (acts : List Act) (v last : SegmentView) (h : Host) → GoByFrames acts → AreActs v acts last
    → host_at k v ≡ Some h → (u : Host) × (host_at k last ≡ Some u)
still_there k [] v last h framed done e = (h, ap (host_at k) done ∙ e)
still_there k (act ∷ acts) v last h framed (mid, is, done) e =
    let next = there_on k act v mid h framed.0 is e in
    still_there k acts mid last next.0 framed.1 done next.1

contains_either : {X : Type 0} (xs ys : List X) (x : X) → Contains (xs ++ ys) x → Contains xs x ⊎ Contains ys x
contains_either [] ys x h = inr h
contains_either (y ∷ xs) ys x (zero, less, e) = inl (0, omega arith, e)
contains_either (y ∷ xs) ys x (suc n, less, e) = go (contains_either xs ys x (n, omega (arith, less), e))
  where
    go : Contains xs x ⊎ Contains ys x → Contains (y ∷ xs) x ⊎ Contains ys x
    go (inl r) = inl (suc r.0, omega (arith, r.1), r.2)
    go (inr r) = inr r

no_element : {X : Type 0} (x : X) → Contains [] x → ⊥
no_element x (n, less, e) = absurd (omega (arith, less))

-- a host that gave a frame is there
module _ (k : ℕ) (f : List ℕ) where
  some_takes : (o : Option Host) → Contains (frames_out (taking_in o)) f → (h : Host) × (o ≡ Some h)
  some_takes None h = absurd (no_element f h)
  some_takes (Some m) h = (m, refl)

  nothing : (b : Bool) (o : Option Host) (act : HostAct) → frames_out (act ∷ []) ≡ []
      → Contains (frames_out (if b then if_host o act else [])) f → ⊥
  nothing true None act e h = no_element f h
  nothing true (Some m) act e h = no_element f (subst (λ (fs : List (List ℕ)). Contains fs f) e h)
  nothing false o act e h = no_element f h

  coming_none : (frames : List (List ℕ)) → Contains (frames_out (coming frames)) f → ⊥
  coming_none [] h = no_element f h
  coming_none (g ∷ frames) h = coming_none frames h

  gave : (act : Act) (v : SegmentView) → GoesByFrames act → Contains (frames_out (host_acts k v act)) f
      → (h : Host) × (host_at k v ≡ Some h)
  gave (Ether (JoinsEther d up)) v framed h = absurd (no_element f h)
  gave (Ether CollectsFrames) v framed h = some_takes (host_at k v) h
  gave (Ether DeliversFrames) v framed h = by (host_at k v) h
    where
      by : (o : Option Host) → Contains (frames_out (coming_in k o (leaving v).0)) f
          → (h : Host) × (host_at k v ≡ Some h)
      by None h = absurd (no_element f h)
      by (Some m) h = absurd (coming_none (frames_to k m.link.link.mac (leaving v).0) h)
  gave (Ether (ReceivesFrame other g)) v framed h = absurd (nothing (other == k) (host_at k v) _ refl h)
  gave (Ether (QueriesError other fd fault)) v framed h = absurd (nothing (other == k) (host_at k v) _ refl h)
  gave (Ether (TicksHost other)) v framed h = absurd (nothing (other == k) (host_at k v) _ refl h)
  gave (Joins d) v framed h = absurd framed
  gave (Calls other turn) v framed h = absurd (nothing (other == k) (host_at k v) _ refl h)
  gave (Collects found) v framed h = absurd framed
  gave (Delivers found) v framed h = absurd framed
  gave (Impairs place chances) v framed h = absurd (no_element f h)
  gave (Seeds seed) v framed h = absurd (no_element f h)
  gave (Loses place) v framed h = absurd (no_element f h)
  gave (Repeats place) v framed h = absurd (no_element f h)
  gave (Swaps place other) v framed h = absurd (no_element f h)

  giver_there : (acts : List Act) (v last : SegmentView) (done : AreActs v acts last) → GoByFrames acts
      → Contains (frames_out (acts_of k v acts last done)) f → (h : Host) × (host_at k last ≡ Some h)
  giver_there [] v last done framed h = absurd (no_element f h)
  giver_there (act ∷ acts) v last (mid, is, done) framed h =
      go (λ later. giver_there acts mid last done framed.1 later)
      (contains_either (frames_out (host_acts k v act)) (frames_out (acts_of k mid acts last done)) f
      (subst (λ (fs : List (List ℕ)). Contains fs f) (out_append (host_acts k v act) (acts_of k mid acts last done)) h))
    where
      go : (Contains (frames_out (acts_of k mid acts last done)) f → (h : Host) × (host_at k last ≡ Some h))
          → Contains (frames_out (host_acts k v act)) f ⊎ Contains (frames_out (acts_of k mid acts last done)) f
          → (h : Host) × (host_at k last ≡ Some h)
      go rest (inl now) =
          let here = gave act v framed.0 now in
          still_there k (act ∷ acts) v last here.0 framed (mid, is, done) here.1
      go rest (inr later) = rest later

-- ---- two hosts

module _ (room i j : ℕ) (first second : Config) (s t : Host) (acts : List Act) (last : SegmentView)
    (done : AreActs (no_hosts room) acts last) (w : AreOnEtherSegment room i j first second s t acts last done) where
  abbrev of_host : ℕ → List HostAct
  of_host k = acts_of k (no_hosts room) acts last done

  apart : AllApart last.configs
  apart = all_apart acts (no_hosts room) last w.framed done none_apart

  began : (k : ℕ) (c : Config) (h : Host) → slice_get last.configs k ≡ Some c → host_at k last ≡ Some h
      → (l : Link) × IsConfig c × AreHostActs (host_up c l) (of_host k) h
  began k c h e f = host_began k c h acts (no_hosts room) last done w.framed refl e f

  -- a frame that a host sent isn't forged
  given_up : (k : ℕ) (f : List ℕ) → Contains (frames_out (of_host k)) f → IsUnforged first.addr (of_host i) f
  given_up k f there = by (eqb_tells i k)
    where
      by : (((i == k) ≡ true) × (i ≡ k)) ⊎ (((i == k) ≡ false) × (i ≢ k)) → IsUnforged first.addr (of_host i) f
      by (inl h) = inl (subst (λ n. Contains (frames_out (of_host n)) f) (sym h.1) there)
      by (inr h) =
          let u = giver_there k f acts (no_hosts room) last done w.framed there in
          let p = both_some (slice_get last.stacks k) (slice_get last.links k) u.0 u.1 in
          let even : length last.configs ≡ length last.links = all_even acts (no_hosts room) last w.framed done refl in
          let d = within_some last.configs k (omega (arith, even, get_within last.links k p.1 p.3)) in
          let one = began k d.0 u.0 d.1 u.1 in
          let two : AreApart first d.0 = apart i k first d.0 h.1 w.first_is d.1 in
          inr (inl (
            record { config = d.0; link = one.0; acts = of_host k; last = u.0 },
            record { boots = one.1; done = one.2; not_addr = two.addr; not_bcast = two.bcast },
            there,
          ))

  pub among : (l : Link) × (m : Link) × AreAmongHosts first second l m (of_host i) (of_host j) s t
  among =
      let one = began i first s w.first_is w.first_host in
      let two = began j second t w.second_is w.second_host in
      let pair : AreApart first second = apart i j first second w.two w.first_is w.second_is in (
        one.0,
        two.0,
        record {
          first_boots = one.1;
          second_boots = two.1;
          first_acts = one.2;
          second_acts = two.2;
          not_addr = pair.addr;
          not_bcast = pair.bcast;
          few = w.few;
          frames =
              All-from_recursion _ (frames_in (of_host j))
              (frames_come (IsUnforged first.addr (of_host i)) j last acts (no_hosts room) done w.framed tt given_up
              (each-weaker (λ f free. inr (inr free)) (frames_received_by j acts)
              (recursion_from_All _ (frames_received_by j acts) w.received)));
          handed = w.handed;
        },
      )

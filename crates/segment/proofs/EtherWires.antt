-- The frames that arrive at a host of an Ethernet segment are those that its hosts gave, or came from outside.
use Rattle.std.proofs.Common.{◌≡◌, ℕ, List, [], ◌∷◌, ◌++◌, length, zero, suc, Bool, true, false, Option, None, Some, refl, sym, ap, ◌∙◌, subst, arith, append_assoc}
use Rattle.std.specs.Prelude.{slice_get, ◌==◌, ◌&&◌, nat_lt, if◌then◌else◌, Contains}
use Rattle.std.specs.List.{AllByRecursion as Each, cons_option}
use Rattle.flat_model.proofs.Laws.{each-append, each-map_to, each-take, each-weaker}
use Rattle.flat_ether.specs.Hosts.{Host, HostAct, Asks_error as Asked, Calls as Called, Clock, Comes_in as Comes}
use Rattle.flat_ether.specs.Laws.{frame_in, frame_out, frames_in, frames_out}
use Rattle.segment.specs.EtherLaw.{GoByFrames, acts_of, coming, coming_in, frames_received_by, host_acts, host_at, if_host, takes_if, taking, taking_in, then_takes}
use Rattle.segment.specs.Chances.{entering}
use Rattle.segment.specs.Flying.{Flying, sent_by}
use Rattle.segment.specs.Frames.{AreFramesCollected, frame_goes_to, frames_below, frames_given, frames_of, frames_to, given_in, gives_short, hosts_in}
use Rattle.segment.specs.Law.{Act, Ether, Joins, Calls, Collects, Delivers, Impairs, Seeds, Loses, Repeats, Swaps, AreActs, JoinsEther, CollectsFrames, DeliversFrames, ReceivesFrame, QueriesError, TicksHost}
use Rattle.segment.specs.Segment.{SegmentView, leaving}
use Rattle.segment.specs.declared.links.TheConstants.{FRAMES}
use Rattle.segment.proofs.Choosing.{each_entering, each_leaving, each_lost, each_repeated, each_stay, each_swapped}
use Rattle.segment.proofs.EtherHistory.{hosts_get, taking_out}
use Rattle.segment.proofs.Wires.{contains_after}

-- ---- lists of acts

pub out_append : (xs ys : List HostAct) → frames_out (xs ++ ys) ≡ frames_out xs ++ frames_out ys
out_append [] ys = refl
out_append (x ∷ xs) ys =
    ap (λ fs. frame_out x ++ fs) (out_append xs ys) ∙ sym (append_assoc (frame_out x) (frames_out xs) (frames_out ys))

in_append : (xs ys : List HostAct) → frames_in (xs ++ ys) ≡ frames_in xs ++ frames_in ys
in_append [] ys = refl
in_append (x ∷ xs) ys =
    ap (λ fs. frame_in x ++ fs) (in_append xs ys) ∙ sym (append_assoc (frame_in x) (frames_in xs) (frames_in ys))

-- frames that go bring none
taking_in_none : (n : ℕ) (h : Host) → frames_in (taking n h) ≡ []
taking_in_none zero h = refl
taking_in_none (suc n) h = go (taking_in_none n (gives_short h).1) _ _ (gives_short h).0
  where
    later : frames_in (taking n (gives_short h).1) ≡ [] → (o : Option (List ℕ))
        → frames_in (then_takes o (taking n (gives_short h).1)) ≡ []
    later rest None = refl
    later rest (Some f) = rest

    go : frames_in (taking n (gives_short h).1) ≡ [] → (b : Bool) (f o : Option (List ℕ))
        → frames_in (takes_if b f ++ then_takes o (taking n (gives_short h).1)) ≡ []
    go rest true f o = later rest o
    go rest false f o = later rest o

coming_all : (frames : List (List ℕ)) → frames_in (coming frames) ≡ frames
coming_all [] = refl
coming_all (f ∷ frames) = ap (λ fs. f ∷ fs) (coming_all frames)

contains_front : {X : Type 0} (xs ys : List X) (x : X) → Contains xs x → Contains (xs ++ ys) x
contains_front [] ys x (n, less, e) = absurd (omega (arith, less))
contains_front (y ∷ xs) ys x (zero, less, e) = (0, omega arith, e)
contains_front (y ∷ xs) ys x (suc n, less, e) =
    let r = contains_front xs ys x (n, omega (arith, less), e) in
    (suc r.0, omega (arith, r.1), r.2)

contains_each : {X : Type 0} (xs : List X) → Each (λ x. Contains xs x) xs
contains_each [] = tt
contains_each (x ∷ xs) =
    ((0, omega arith, refl), each-weaker (λ y h. (suc h.0, omega (arith, h.1), h.2)) xs (contains_each xs))

-- ---- what flies

module _ (P : List ℕ → Type 0) where
  abbrev Fly : List Flying → Type 0
  Fly = Each (λ (f : Flying). P f.packet)

  each_to : (place : ℕ) (mac : _) (flight : List Flying) → Fly flight → Each P (frames_to place mac flight)
  each_to place mac [] h = tt
  each_to place mac (f ∷ flight) h = go (frame_goes_to place mac f) (each_to place mac flight h.1)
    where
      go : (b : Bool) → Each P (frames_to place mac flight)
          → Each P (cons_option (if b then Some f.packet else None) (frames_to place mac flight))
      go true later = (h.0, later)
      go false later = later

  each_below : (hosts : List Host) (n : ℕ) → ((k : ℕ) → Each P (given_in (slice_get hosts k)))
      → Fly (frames_below hosts n)
  each_below hosts zero h = tt
  each_below hosts (suc n) h =
      each-append (λ (f : Flying). P f.packet) (frames_below hosts n) (sent_by n (given_in (slice_get hosts n)))
      (each_below hosts n h)
      (each-map_to (λ (f : Flying). P f.packet) _ (λ packet g. g) (given_in (slice_get hosts n)) (h n))

  collected_flies : (old new : SegmentView) → AreFramesCollected old new → Fly old.flight
      → ((k : ℕ) → Each P (given_in (slice_get (hosts_in old) k))) → Fly new.flight
  collected_flies old new is flies given =
      subst Fly (sym is.flight)
      (each-take (λ (f : Flying). P f.packet) old.room
      (old.flight ++ (entering old.chances (frames_of old) old.random).0)
      (each-append (λ (f : Flying). P f.packet) old.flight (entering old.chances (frames_of old) old.random).0 flies
      (each_entering P old.chances (frames_of old) old.random
      (each_below (hosts_in old) (length old.links) given))))

  -- the frames that a host gives now are among those of all its acts from now on
  given_now : (o : Option Host) (acts : List HostAct)
      → ((f : List ℕ) → Contains (frames_out (taking_in o ++ acts)) f → P f) → Each P (given_in o)
  given_now None acts up = tt
  given_now (Some h) acts up =
      each-weaker
      (λ f there. up f
      (subst (λ (fs : List (List ℕ)). Contains fs f) (sym (out_append (taking FRAMES h) acts))
      (contains_front (frames_out (taking FRAMES h)) (frames_out acts) f
      (subst (λ (fs : List (List ℕ)). Contains fs f) (sym (taking_out FRAMES h)) there))))
      (frames_given FRAMES h).0 (contains_each (frames_given FRAMES h).0)

  came_now : (place : ℕ) (o : Option Host) (flight : List Flying) → Fly flight
      → Each P (frames_in (coming_in place o flight))
  came_now place None flight h = tt
  came_now place (Some m) flight h =
      subst (Each P) (sym (coming_all (frames_to place m.link.link.mac flight)))
      (each_to place m.link.link.mac flight h)

  none_taken : (o : Option Host) → frames_in (taking_in o) ≡ []
  none_taken None = refl
  none_taken (Some h) = taking_in_none FRAMES h

  then_each : (xs ys : List HostAct) → Each P (frames_in xs) → Each P (frames_in ys) → Each P (frames_in (xs ++ ys))
  then_each xs ys a b =
      subst (Each P) (sym (in_append xs ys)) (each-append P (frames_in xs) (frames_in ys) a b)

  none_first : (xs ys : List HostAct) → frames_in xs ≡ [] → Each P (frames_in ys) → Each P (frames_in (xs ++ ys))
  none_first xs ys none b = then_each xs ys (subst (Each P) (sym none) tt) b

  if_one : (b : Bool) (o : Option Host) (act : HostAct) → frame_in act ≡ []
      → frames_in (if b then if_host o act else []) ≡ []
  if_one true None act e = refl
  if_one true (Some h) act e = ap (λ (fs : List (List ℕ)). fs ++ []) e
  if_one false o act e = refl

  -- a frame from outside
  received_now : (j other : ℕ) (f : List ℕ) (o : Option Host) (acts : List HostAct) (rest : List (List ℕ))
      → Each P ((if other == j then f ∷ [] else []) ++ rest) → (Each P rest → Each P (frames_in acts))
      → Each P (frames_in ((if other == j then if_host o (Comes f) else []) ++ acts))
  received_now j other f o acts rest outside later = go (other == j) o outside
    where
      go : (b : Bool) (o : Option Host) → Each P ((if b then f ∷ [] else []) ++ rest)
          → Each P (frames_in ((if b then if_host o (Comes f) else []) ++ acts))
      go true None h = later h.1
      go true (Some m) h = (h.0, later h.1)
      go false o h = later h

  module _ (j : ℕ) (last : SegmentView) where
    abbrev Up : (acts : List Act) → (v : SegmentView) → AreActs v acts last → Type 0
    Up acts v done = (k : ℕ) (f : List ℕ) → Contains (frames_out (acts_of k v acts last done)) f → P f

    up_later : (act : Act) (acts : List Act) (v mid : SegmentView) (done : AreActs mid acts last)
        → ((k : ℕ) (f : List ℕ) → Contains (frames_out (host_acts k v act ++ acts_of k mid acts last done)) f → P f)
        → Up acts mid done
    up_later act acts v mid done up k f there =
        up k f (subst (λ (fs : List (List ℕ)). Contains fs f)
        (sym (out_append (host_acts k v act) (acts_of k mid acts last done)))
        (contains_after (frames_out (host_acts k v act)) (frames_out (acts_of k mid acts last done)) f there))

    -- the frames that arrive at the host at this place
    pub frames_come : (acts : List Act) (v : SegmentView) (done : AreActs v acts last) → GoByFrames acts
        → Fly v.flight → Up acts v done → Each P (frames_received_by j acts) → Each P (frames_in (acts_of j v acts last done))
    frames_come [] v done framed flies up outside = tt
    frames_come (Ether (JoinsEther d l) ∷ acts) v (mid, is, done) framed flies up outside =
        frames_come acts mid done framed.1 (subst Fly (sym is.flight) flies)
        (up_later (Ether (JoinsEther d l)) acts v mid done up) outside
    frames_come (Ether CollectsFrames ∷ acts) v (mid, is, done) framed flies up outside =
        none_first (taking_in (host_at j v)) (acts_of j mid acts last done) (none_taken (host_at j v))
        (frames_come acts mid done framed.1
        (collected_flies v mid is.1 flies
        (λ k. subst (λ (o : Option Host). Each P (given_in o)) (sym (hosts_get v.stacks v.links k))
        (given_now (host_at k v) (acts_of k mid acts last done) (up k))))
        (up_later (Ether CollectsFrames) acts v mid done up) outside)
    frames_come (Ether DeliversFrames ∷ acts) v (mid, is, done) framed flies up outside =
        then_each (coming_in j (host_at j v) (leaving v).0) (acts_of j mid acts last done)
        (came_now j (host_at j v) (leaving v).0 (each_leaving P v flies))
        (frames_come acts mid done framed.1 (subst Fly (sym is.1.flight) (each_stay P v.flight flies))
        (up_later (Ether DeliversFrames) acts v mid done up) outside)
    frames_come (Ether (ReceivesFrame other f) ∷ acts) v (mid, is, done) framed flies up outside =
        received_now j other f (host_at j v) (acts_of j mid acts last done) (frames_received_by j acts) outside
        (λ later. frames_come acts mid done framed.1 (subst (λ (w : SegmentView). Fly w.flight) (sym is.is) flies)
        (up_later (Ether (ReceivesFrame other f)) acts v mid done up) later)
    frames_come (Ether (QueriesError other fd fault) ∷ acts) v (mid, is, done) framed flies up outside =
        none_first (host_acts j v (Ether (QueriesError other fd fault))) (acts_of j mid acts last done)
        (if_one (other == j) (host_at j v) (Asked fd fault) refl)
        (frames_come acts mid done framed.1 (subst (λ (w : SegmentView). Fly w.flight) (sym is.is) flies)
        (up_later (Ether (QueriesError other fd fault)) acts v mid done up) outside)
    frames_come (Ether (TicksHost other) ∷ acts) v (mid, is, done) framed flies up outside =
        none_first (host_acts j v (Ether (TicksHost other))) (acts_of j mid acts last done)
        (if_one (other == j) (host_at j v) Clock refl)
        (frames_come acts mid done framed.1 (subst (λ (w : SegmentView). Fly w.flight) (sym is.is) flies)
        (up_later (Ether (TicksHost other)) acts v mid done up) outside)
    frames_come (Joins d ∷ acts) v done framed flies up outside = absurd framed.0
    frames_come (Calls place turn ∷ acts) v (mid, is, done) framed flies up outside =
        none_first (host_acts j v (Calls place turn)) (acts_of j mid acts last done)
        (if_one (place == j) (host_at j v) (Called turn) refl)
        (frames_come acts mid done framed.1 (subst Fly (sym is.flight) flies)
        (up_later (Calls place turn) acts v mid done up) outside)
    frames_come (Collects found ∷ acts) v done framed flies up outside = absurd framed.0
    frames_come (Delivers found ∷ acts) v done framed flies up outside = absurd framed.0
    frames_come (Impairs place chances ∷ acts) v (mid, is, done) framed flies up outside =
        frames_come acts mid done framed.1 (subst (λ (w : SegmentView). Fly w.flight) (sym is) flies)
        (up_later (Impairs place chances) acts v mid done up) outside
    frames_come (Seeds seed ∷ acts) v (mid, is, done) framed flies up outside =
        frames_come acts mid done framed.1 (subst (λ (w : SegmentView). Fly w.flight) (sym is) flies)
        (up_later (Seeds seed) acts v mid done up) outside
    frames_come (Loses place ∷ acts) v (mid, is, done) framed flies up outside =
        frames_come acts mid done framed.1
        (subst (λ (w : SegmentView). Fly w.flight) (sym is)
        (each_lost (λ (f : Flying). P f.packet) place v.flight flies))
        (up_later (Loses place) acts v mid done up) outside
    frames_come (Repeats place ∷ acts) v (mid, is, done) framed flies up outside =
        frames_come acts mid done framed.1
        (subst (λ (w : SegmentView). Fly w.flight) (sym is)
        (each_repeated (λ (f : Flying). P f.packet) v.room place v.flight flies))
        (up_later (Repeats place) acts v mid done up) outside
    frames_come (Swaps place other ∷ acts) v (mid, is, done) framed flies up outside =
        frames_come acts mid done framed.1
        (subst (λ (w : SegmentView). Fly w.flight) (sym is)
        (each_swapped (λ (f : Flying). P f.packet)
        (nat_lt place (length v.flight) && nat_lt other (length v.flight)) place other v.flight flies))
        (up_later (Swaps place other) acts v mid done up) outside

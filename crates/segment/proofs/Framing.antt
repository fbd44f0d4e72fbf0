-- Frames that hosts on an Ethernet give and take, one after another.
use Rattle.std.proofs.Common.{◌≡◌, ◌⊎◌, inl, inr, ℕ, ◌+◌, ◌<◌, ◌≤◌, Bool, true, false, List, [], ◌∷◌, ◌++◌, drop, length, map, take, get_or, zero, suc, Option, None, Some, refl, sym, ap, ◌∙◌, subst, add-one, append_assoc, arith}
use Rattle.std.specs.Prelude.{if◌then◌else◌, slice_get, slice_set}
use Rattle.std.specs.List.{cons_option}
use Rattle.std.proofs.Math.ListN.{length-set}
use Rattle.std.proofs.lemmas.List.{append-nil, drop-set-lt, length-map, map-append}
use Rattle.flat_ether.specs.Hosts.{Host}
use Rattle.flat_model.specs.declared.config.Config.{Config}
use Rattle.flat_ether.specs.Links.{LinkState}
use Rattle.flat_ether.specs.declared.link.Link.{Link}
use Rattle.flat_ether.specs.declared.mac.Mac.{Mac}
use Rattle.ether_host.specs.Inside.{link_seen}
use Rattle.ether_host.specs.View.{halves}
use Rattle.ether_host.specs.declared.layer.LinkLayer.{LinkLayer}
use Rattle.net_stack.specs.Boots.{IsUnbooted}
use Rattle.net_stack.specs.Stack.{StackView}
use Rattle.net_stack.specs.declared.stack.BootFault.{BootFault}
use Rattle.net_stack.specs.declared.stack.BootFault.TheVariants.{Memory, BadSizes, BadConfig}
use Rattle.segment.specs.Flying.{Flying, sent_by}
use Rattle.segment.specs.Frames.{ReceiveEach, IsEtherRefused, IsFree, frame_goes_to, frames_below, frames_given, frames_to, given_in, gives_short, hosts_of, or_more}
use Rattle.segment.specs.Inside.{EachHost, flying}
use Rattle.segment.specs.Segment.{SegmentView, AreBoth}
use Rattle.segment.specs.declared.frame.Frame.{Frame}
use Rattle.segment.specs.declared.chances.Chances.{Chances}
use Rattle.segment.specs.declared.segment.JoinFault.TheVariants.{Unbooted}
use Rattle.segment.specs.declared.tally.Tally.{Tally}
use Rattle.segment.specs.declared.links.TheConstants.{FRAMES}
use Rattle.segment.proofs.Walking.{IsWalked, below_or, get_at, get_past, walk_ends, walk_on}
use Rattle.segment.proofs.Frames.{map_get, map_set}
use Rattle.segment.proofs.Taking.{if_goes, received_next}

-- ---- frames that a host gives

pub given_more : (n m : ℕ) (h k : Host) (f : List ℕ) → n ≡ suc m → (Some f, k) ≡ gives_short h
    → frames_given n h ≡ (f ∷ (frames_given m k).0, (frames_given m k).1)
given_more n m h k f more step =
    ap (λ i. frames_given i h) more
    ∙ ap (λ (r : Option (List ℕ) × Host). or_more r (frames_given m r.1)) (sym step)

pub given_end : (n m : ℕ) (h k : Host) → n ≡ suc m → (None, k) ≡ gives_short h → frames_given n h ≡ ([], k)
given_end n m h k more step =
    ap (λ i. frames_given i h) more
    ∙ ap (λ (r : Option (List ℕ) × Host). or_more r (frames_given m r.1)) (sym step)

pub given_none : (n : ℕ) (h : Host) → n ≡ 0 → frames_given n h ≡ ([], h)
given_none n h none = ap (λ i. frames_given i h) none

-- what was given so far, and what is still to come
abbrev pub IsSoFar : ℕ → Host → ℕ → Host → List (List ℕ) → Type 0
IsSoFar most first left now given =
    frames_given most first ≡ (given ++ (frames_given left now).0, (frames_given left now).1)

pub so_far_more : (most : ℕ) (first : Host) (n m : ℕ) (h k : Host) (given : List (List ℕ)) (f : List ℕ)
    → IsSoFar most first n h given → n ≡ suc m → (Some f, k) ≡ gives_short h
    → IsSoFar most first m k (given ++ f ∷ [])
so_far_more most first n m h k given f before more step =
    before
    ∙ ap (λ (r : List (List ℕ) × Host). (given ++ r.0, r.1)) (given_more n m h k f more step)
    ∙ ap (λ (fs : List (List ℕ)). (fs, (frames_given m k).1)) (sym (append_assoc given (f ∷ []) (frames_given m k).0))

pub so_far_end : (most : ℕ) (first : Host) (n : ℕ) (h k : Host) (given : List (List ℕ))
    → IsSoFar most first n h given → frames_given n h ≡ ([], k) → frames_given most first ≡ (given, k)
so_far_end most first n h k given before end =
    before
    ∙ ap (λ (r : List (List ℕ) × Host). (given ++ r.0, r.1)) end
    ∙ ap (λ (fs : List (List ℕ)). (fs, k)) (append-nil given)

pub sent_one : (sender : ℕ) (given : List (List ℕ)) (f : List ℕ)
    → sent_by sender (given ++ f ∷ []) ≡ sent_by sender given ++ record { sender = sender; packet = f; wait = 0 } ∷ []
sent_one sender given f = map-append _ given (f ∷ [])

-- ---- hosts by their places

pub hosts_set : (stacks : List StackView) (links : List LinkLayer) (k : ℕ) (s : StackView) (l : LinkLayer)
    → hosts_of (slice_set stacks k s) (map link_seen (slice_set links k l))
    ≡ slice_set (hosts_of stacks (map link_seen links)) k (halves s (link_seen l))
hosts_set [] links k s l = refl
hosts_set (x ∷ stacks) [] zero s l = refl
hosts_set (x ∷ stacks) [] (suc k) s l = refl
hosts_set (x ∷ stacks) (y ∷ links) zero s l = refl
hosts_set (x ∷ stacks) (y ∷ links) (suc k) s l =
    ap (λ hs. halves x (link_seen y) ∷ hs) (hosts_set stacks links k s l)

pub hosts_length : (stacks : List StackView) (links : List LinkLayer)
    → length (hosts_of stacks (map link_seen links)) ≤ length links
hosts_length [] links = omega arith
hosts_length (x ∷ stacks) [] = omega arith
hosts_length (x ∷ stacks) (y ∷ links) = omega (arith, hosts_length stacks links)

pub hosts_short : (stacks : List StackView) (links : List LinkLayer)
    → length (hosts_of stacks (map link_seen links)) ≤ length stacks
hosts_short [] links = omega arith
hosts_short (x ∷ stacks) [] = omega arith
hosts_short (x ∷ stacks) (y ∷ links) = omega (arith, hosts_short stacks links)

pub hosts_long : (stacks : List StackView) (links : List LinkLayer) (k : ℕ) → k < length stacks → k < length links
    → k < length (hosts_of stacks (map link_seen links))
hosts_long [] links k h g = absurd (omega arith)
hosts_long (x ∷ stacks) [] k h g = absurd (omega arith)
hosts_long (x ∷ stacks) (y ∷ links) zero h g = omega arith
hosts_long (x ∷ stacks) (y ∷ links) (suc k) h g = omega (arith, hosts_long stacks links k (omega arith) (omega arith))

-- the host with the stack and the link at this index
pub hosts_here : (stacks : List StackView) (links : List LinkLayer) (k : ℕ) (s ds : StackView) (l dl : LinkLayer)
    (d : Host) → k < length stacks → k < length links → s ≡ get_or stacks k ds → l ≡ get_or links k dl
    → halves s (link_seen l) ≡ get_or (hosts_of stacks (map link_seen links)) k d
hosts_here [] links k s ds l dl d h g e f = absurd (omega arith)
hosts_here (x ∷ stacks) [] k s ds l dl d h g e f = absurd (omega arith)
hosts_here (x ∷ stacks) (y ∷ links) zero s ds l dl d h g e f =
    ap (λ (a : StackView). halves a (link_seen l)) e ∙ ap (λ (b : LinkLayer). halves x (link_seen b)) f
hosts_here (x ∷ stacks) (y ∷ links) (suc k) s ds l dl d h g e f =
    hosts_here stacks links k s ds l dl d (omega arith) (omega arith) e f

-- a place without a host
pub walk_none : {X : Type 0} (R : ℕ → X → X → Type 0) (old now : List X) (place : ℕ) → IsWalked R old now place
    → length now ≤ place → IsWalked R old now (place + 1)
walk_none R old now place w past =
    record { done = λ k h. by k (below_or k place); rest = λ k h. w.rest k (omega arith); len = w.len }
  where
    by : (k : ℕ) → (k < place) ⊎ (place ≤ k) → AreBoth (R k) (slice_get old k) (slice_get now k)
    by k (inl h) = w.done k h
    by k (inr h) = let n : slice_get now k ≡ None = get_past now k (omega (arith, past)) in
        let o : slice_get old k ≡ None = sym (w.rest k h) ∙ n in
        subst (λ x. AreBoth (R k) x (slice_get now k)) (sym o) (subst (λ y. AreBoth (R k) None y) (sym n) tt)

-- the frames of the hosts up to the next place
pub below_next : (place : ℕ) (R : ℕ → Host → Host → Type 0) (old now : List Host) (h d : Host)
    → IsWalked R old now place → place < length now → h ≡ get_or now place d
    → frames_below old (place + 1) ≡ frames_below old place ++ sent_by place (frames_given FRAMES h).0
below_next place R old now h d w within is =
    let here : slice_get old place ≡ Some h = sym (w.rest place (omega arith)) ∙ get_at now place h d within is in
    ap (frames_below old) (add-one place)
    ∙ ap (λ (x : Option Host). frames_below old place ++ sent_by place (given_in x)) here

pub below_none : (place : ℕ) (R : ℕ → Host → Host → Type 0) (old now : List Host) → IsWalked R old now place
    → length now ≤ place → frames_below old (place + 1) ≡ frames_below old place
below_none place R old now w past =
    let none : slice_get old place ≡ None = sym (w.rest place (omega arith)) ∙ get_past now place past in
    ap (frames_below old) (add-one place)
    ∙ ap (λ (x : Option Host). frames_below old place ++ sent_by place (given_in x)) none
    ∙ append-nil (frames_below old place)

-- ---- frames that come

-- frames, and then others
pub then_receive : (a b c : Host) (xs ys : List (List ℕ)) → ReceiveEach xs a b → ReceiveEach ys b c
    → ReceiveEach (xs ++ ys) a c
then_receive a b c [] ys same later = subst (λ (h : Host). ReceiveEach ys h c) same later
then_receive a b c (x ∷ xs) ys (mid, received, rest) later = (mid, received, then_receive mid b c xs ys rest later)

pub more_received : (place : ℕ) (mac : Mac) (i : ℕ) (frames : List Frame) (frame : Frame) (a h k : Host)
    → i < length frames → frame ≡ get_or frames i frame
    → ReceiveEach (frames_to place mac (map flying (take i frames))) a h
    → ReceiveEach (if_goes (frame_goes_to place mac) (flying frame)) h k
    → ReceiveEach (frames_to place mac (map flying (take (i + 1) frames))) a k
more_received place mac i frames frame a h k within is before one =
    let goes = frame_goes_to place mac in
    subst (λ (fs : List (List ℕ)). ReceiveEach fs a k) (sym (received_next goes i frames frame within is))
    (then_receive a h k (frames_to place mac (map flying (take i frames))) (if_goes goes (flying frame)) before one)

pub receive_goes : (place : ℕ) (mac : Mac) (f : Flying) (h k u : Host) (bytes : List ℕ) → frame_goes_to place mac f
    ≡ true
    → bytes ≡ f.packet → u ≡ k → ReceiveEach (bytes ∷ []) h k
    → ReceiveEach (if_goes (frame_goes_to place mac) f) h u
receive_goes place mac f h k u bytes is same end received =
    subst (λ (b : Bool). ReceiveEach (cons_option (if b then Some f.packet else None) []) h u) (sym is)
    (subst (λ (p : List ℕ). ReceiveEach (p ∷ []) h u) same
    (subst (λ (x : Host). ReceiveEach (bytes ∷ []) h x) (sym end) received))

pub receive_not : (place : ℕ) (mac : Mac) (f : Flying) (h k : Host) → frame_goes_to place mac f ≡ false → k ≡ h
    → ReceiveEach (if_goes (frame_goes_to place mac) f) h k
receive_not place mac f h k is same =
    subst (λ (b : Bool). ReceiveEach (cons_option (if b then Some f.packet else None) []) h k) (sym is) same

-- ---- one host of a segment

pub walked_by : (R : ℕ → Host → Host → Type 0) (old : List Host) (stacks ss : List StackView)
    (links ls : List LinkLayer)
    (place : ℕ) (s t : StackView) (l m : LinkLayer) → IsWalked R old (hosts_of stacks (map link_seen links)) place
    → place < length stacks → place < length links → s ≡ get_or stacks place s → l ≡ get_or links place l
    → R place (halves s (link_seen l)) (halves t (link_seen m)) → ss ≡ slice_set stacks place t
    → ls ≡ slice_set links place m
    → IsWalked R old (hosts_of ss (map link_seen ls)) (place + 1)
walked_by R old stacks ss links ls place s t l m w within near is at step a b =
    subst (λ (hs : List Host). IsWalked R old hs (place + 1))
    (sym (ap (λ (xs : List StackView). hosts_of xs (map link_seen ls)) a
    ∙ ap (λ (ys : List LinkLayer). hosts_of (slice_set stacks place t) (map link_seen ys)) b
    ∙ hosts_set stacks links place t m))
    (walk_on R old (hosts_of stacks (map link_seen links)) place (halves s (link_seen l)) (halves t (link_seen m))
    (halves s (link_seen l)) w
    (hosts_long stacks links place within near)
    (hosts_here stacks links place s s l l (halves s (link_seen l)) within near is at) step)

pub walked_past : (R : ℕ → Host → Host → Type 0) (old : List Host) (stacks ss : List StackView)
    (links ls : List LinkLayer) (place : ℕ) → IsWalked R old (hosts_of stacks (map link_seen links)) place
    → length stacks ≤ place → ss ≡ stacks → ls ≡ links → IsWalked R old (hosts_of ss (map link_seen ls)) (place + 1)
walked_past R old stacks ss links ls place w past a b =
    subst (λ (hs : List Host). IsWalked R old hs (place + 1))
    (sym (ap (λ (xs : List StackView). hosts_of xs (map link_seen ls)) a
    ∙ ap (λ (ys : List LinkLayer). hosts_of stacks (map link_seen ys)) b))
    (walk_none R old (hosts_of stacks (map link_seen links)) place w (omega (arith, hosts_short stacks links)))

-- ---- all hosts of a segment, one after another

-- the hosts below a place went by this relation; a stack without a link is as it was
pub record HaveGone (R : ℕ → Host → Host → Type 0) (ss : List StackView) (ls : List LinkLayer)
    (ss' : List StackView) (ls' : List LinkLayer) (place : ℕ) : Type 0 where
  pub walked : IsWalked R (hosts_of ss (map link_seen ls)) (hosts_of ss' (map link_seen ls')) place
  pub links : length ls' ≡ length ls
  pub others : drop (length (map link_seen ls)) ss' ≡ drop (length (map link_seen ls)) ss

module _ {R : ℕ → Host → Host → Type 0} {stacks ss : List StackView} {links ls : List LinkLayer} {place : ℕ}
    (gone : HaveGone R stacks links ss ls place) where
  -- the next one goes
  pub one_gone : {ts : List StackView} {ms : List LinkLayer} (s t : StackView) (l m : LinkLayer) → place < length ss
      → place < length links → s ≡ get_or ss place s → l ≡ get_or ls place l
      → R place (halves s (link_seen l)) (halves t (link_seen m)) → ts ≡ slice_set ss place t
      → ms ≡ slice_set ls place m → HaveGone R stacks links ts ms (place + 1)
  one_gone {ts} {ms} s t l m within near is at step a b = record {
    walked =
        walked_by R (hosts_of stacks (map link_seen links)) ss ts ls ms place s t l m gone.walked within
        (omega (arith, gone.links)) is at step a b;
    links = ap (λ ys. length ys) b ∙ length-set ls place m ∙ gone.links;
    others =
        ap (drop (length (map link_seen links))) a
        ∙ drop-set-lt (length (map link_seen links)) ss place t (omega (arith, length-map links link_seen))
        ∙ gone.others;
  }

  -- the next link has no stack
  pub past_gone : {ts : List StackView} {ms : List LinkLayer} → length ss ≤ place → ts ≡ ss → ms ≡ ls
      → HaveGone R stacks links ts ms (place + 1)
  past_gone {ts} {ms} past a b = record {
    walked = walked_past R (hosts_of stacks (map link_seen links)) ss ts ls ms place gone.walked past a b;
    links = ap (λ ys. length ys) b ∙ gone.links;
    others = ap (drop (length (map link_seen links))) a ∙ gone.others;
  }

  pub all_gone : length links ≤ place → EachHost R stacks links ss ls
  all_gone all = record {
    hosts =
        walk_ends R (hosts_of stacks (map link_seen links)) (hosts_of ss (map link_seen ls)) place gone.walked
        (omega (arith, hosts_length stacks links));
    links = gone.links;
    others = gone.others;
  }

-- the frames of the host at the next place
pub below_by : (place : ℕ) (R : ℕ → Host → Host → Type 0) (old : List Host) (stacks : List StackView)
    (links : List LinkLayer) (s : StackView) (l : LinkLayer)
    → IsWalked R old (hosts_of stacks (map link_seen links)) place
    → place < length stacks → place < length links → s ≡ get_or stacks place s → l ≡ get_or links place l
    → frames_below old (place + 1)
    ≡ frames_below old place ++ sent_by place (frames_given FRAMES (halves s (link_seen l))).0
below_by place R old stacks links s l w within near is at =
    below_next place R old (hosts_of stacks (map link_seen links)) (halves s (link_seen l)) (halves s (link_seen l)) w
    (hosts_long stacks links place within near)
    (hosts_here stacks links place s s l l (halves s (link_seen l)) within near is at)

pub below_past : (place : ℕ) (R : ℕ → Host → Host → Type 0) (old : List Host) (stacks : List StackView)
    (links : List LinkLayer) → IsWalked R old (hosts_of stacks (map link_seen links)) place → length stacks ≤ place
    → frames_below old (place + 1) ≡ frames_below old place
below_past place R old stacks links w past =
    below_none place R old (hosts_of stacks (map link_seen links)) w (omega (arith, hosts_short stacks links))

pub set_back : {X : Type 0} (xs : List X) (i : ℕ) (x : X) → slice_get xs i ≡ Some x → slice_set xs i x ≡ xs
set_back [] i x e = refl
set_back (y ∷ xs) zero x e = cc
set_back (y ∷ xs) (suc i) x e = ap (λ ys. y ∷ ys) (set_back xs i x e)

-- a segment whose parts are the same
pub view_same : (v : SegmentView) (configs : List Config) (stacks : List StackView) (links : List LinkState)
    (chances : List Chances) (tallies : List Tally) → configs ≡ v.configs → stacks ≡ v.stacks → links ≡ v.links
    → chances ≡ v.chances → tallies ≡ v.tallies
    → record v { configs = configs; stacks = stacks; links = links; chances = chances; tallies = tallies } ≡ v
view_same v configs stacks links chances tallies a b c d e =
    ap (λ (x : List Config). record v {
      configs = x;
      stacks = stacks;
      links = links;
      chances = chances;
      tallies = tallies;
    }) a
    ∙ ap (λ (x : List StackView). record v { stacks = x; links = links; chances = chances; tallies = tallies }) b
    ∙ ap (λ (x : List LinkState). record v { links = x; chances = chances; tallies = tallies }) c
    ∙ ap (λ (x : List Chances). record v { chances = x; tallies = tallies }) d
    ∙ ap (λ (x : List Tally). record v { tallies = x }) e

pub unbooted : (fault : BootFault) (v : SegmentView) (config : Config) (link : Link) → IsFree v config link
    → IsUnbooted config fault → IsEtherRefused v config link (Unbooted fault)
unbooted Memory v config link free why = free
unbooted BadSizes v config link free why = (free, why)
unbooted BadConfig v config link free why = (free, why)

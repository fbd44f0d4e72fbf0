-- Lines that the link of a host executes.
use Rattle.std.proofs.Common.{◌≡◌, ◌<◌, ◌≤◌, ◌⊎◌, inl, inr, ℕ, zero, suc, Bool, true, false, List, [], ◌∷◌, ◌++◌, Option, Some, None, refl, sym, ap, ap₂, ◌∙◌, subst, arith}
use Rattle.std.proofs.lemmas.Bool.{lt-ltb}
use Rattle.std.specs.Prelude.{◌==◌, cond, if◌then◌else◌, codes, is_some, nat_lt, length, option_map, slice_get, ◌&&◌, IfSome, Result}
use Rattle.flat_ether.specs.Claims.{address_state}
use Rattle.flat_ether.specs.Links.{LinkState}
use Rattle.flat_ether.specs.declared.claim.AddressState.{AddressState}
use Rattle.flat_ether.specs.declared.link.Link.{Link}
use Rattle.flat_ether.specs.declared.neighbour.Neighbour.{Neighbour}
use Rattle.flat_ether.specs.declared.tallies.Tallies.{Tallies}
use Rattle.flat_ether.specs.declared.error.NetFault.{NetFault}
use Rattle.flat_model.specs.Amounts.Choice.{Choice}
use Rattle.flat_model.specs.Scripts.Grammar.{words, IsHex}
use Rattle.std.specs.List.{onto_first}
use Rattle.flat_model.specs.declared.counters.Counters.{Counters}
use Rattle.flat_model.specs.declared.errno.Errno.{Errno}
use Rattle.net_stack.specs.Stack.{StackView, state_of}
use Rattle.segment.specs.Frames.{IsErrorQueried, HasReceived}
use Rattle.segment.specs.Law.{Act, AreActs, QueriesError, Ether, ReceivesFrame}
use Rattle.segment.specs.Segment.{SegmentView, is_linked}
use Rattle.play_wire.specs.Acts.{IsMissing, IsStackLine, Outcome, Replied, Refused}
use Rattle.play_wire.specs.Inside.{HasCounted, HasNotCounted, IsAtHost, IsAtLink, IsAtStack, ReadsOfLink, bytes_asked, link_asks}
use Rattle.play_wire.specs.LinkTexts.{error_text, received_text, neighbours_text, state_text}
use Rattle.play_wire.specs.Links.{DoesLink, IsForStack, IsHostLine, AsksLink, AsksOfLink, LinkAsk, Frame, LastError, Neighbours, Counts, Ticks, Packets, WritesLink, is_for_link, is_of_link, ticks_at}
use Rattle.play_wire.specs.Verbs.{IsOneNumber, IsTickCount}
use Rattle.play_forms.specs.Near.{has_name}
use Rattle.play_forms.specs.Table.{hosted_commands}
use Rattle.play_forms.specs.declared.command.Command.{Command}
use Rattle.play_forms.specs.declared.command.Command.TheVariants as command
use Rattle.std.specs.List.{find}
use Rattle.play_wire.specs.declared.fault.Fault.TheVariants as fault
use Rattle.play_wire.specs.declared.link_ask.LinkAsk.{LinkAsk as Asked}
use Rattle.play_wire.specs.declared.report_link.Counts.{Counts as HostCounts}
use Rattle.play_wire.proofs.ActLemmas.{get_set}

-- ---- a line of a host

by_link : (place : ℕ) (plain : List ℕ) (ask : LinkAsk) (v w : SegmentView) (came : Outcome) (acts : List Act)
    → WritesLink plain ask → is_for_link (slice_get v.links place) ask ≡ true
    → DoesLink place ask (slice_get v.links place) v acts came w ⊎ IsMissing place v acts came w
    → IsHostLine place plain v acts came w ⊎ IsMissing place v acts came w
by_link place plain ask v w came acts writes there (inl does) = inl (inr (ask, writes, there, does))
by_link place plain ask v w came acts writes there (inr missing) = inr missing

pub host_by_link : (place : ℕ) (plain : List ℕ) (ask : LinkAsk) (v w : SegmentView) (came : Outcome)
    → WritesLink plain ask → is_for_link (slice_get v.links place) ask ≡ true → IsAtLink place ask v came w
    → IsAtHost place plain v came w
host_by_link place plain ask v w came writes there (acts, did) =
    (acts, by_link place plain ask v w came acts writes there did)

by_stack : (place : ℕ) (plain : List ℕ) (v w : SegmentView) (came : Outcome) (acts : List Act)
    → IsForStack place plain v → IsStackLine place plain v acts came w ⊎ IsMissing place v acts came w
    → IsHostLine place plain v acts came w ⊎ IsMissing place v acts came w
by_stack place plain v w came acts others (inl is) = inl (inl (others, is))
by_stack place plain v w came acts others (inr missing) = inr missing

pub host_by_stack : (place : ℕ) (plain : List ℕ) (v v' w : SegmentView) (came : Outcome)
    → IsForStack place plain v × (v' ≡ v) → IsAtStack place plain v' came w
    → IsAtHost place plain v came w
host_by_stack place plain v v' w came (others, same) (acts, did) =
    let so : IsStackLine place plain v acts came w ⊎ IsMissing place v acts came w =
    subst (λ (x : SegmentView). IsStackLine place plain x acts came w ⊎ IsMissing place x acts came w) same did in
    (acts, by_stack place plain v w came acts others so)

-- ---- the request of a line

-- The request of a command and the words after it is that of the line. This and `asks_none` have the form of those in
-- WireLemmas. One lemma for both would take the list of commands, both relations and the type of the request.
pub asks_as : (plain word : List ℕ) (c : Command) (args : List (List ℕ)) (asked : Option Asked)
    → words plain ≡ word ∷ args → find (has_name word) hosted_commands ≡ Some c → ReadsOfLink c args asked
    → AsksLink plain (link_asks asked)
asks_as plain word c args (Some ask) cut is reads = (c, word, args, cut, is, reads.0)
asks_as plain word c args None cut is none = λ ask h.
    let all : h.1 ∷ h.2 ≡ word ∷ args = sym h.3 ∙ cut in
    let first : h.1 ≡ word = cc all in
    let rest : h.2 ≡ args = cc all in
    let both : Some h.0 ≡ Some c = sym h.4 ∙ ap (λ (w : List ℕ). find (has_name w) hosted_commands) first ∙ is in
    let same : h.0 ≡ c = cc both in
    none ask (subst (λ (x : Command). AsksOfLink x args ask) same
    (subst (λ (xs : List (List ℕ)). AsksOfLink h.0 xs ask) rest h.5))

-- the bytes of a request fit in a packet
pub fits_asked : (c : Command) (args : List (List ℕ)) (asked : Option Asked) → ReadsOfLink c args asked
    → IfSome asked (λ ask. bytes_asked ask ≤ 65535)
fits_asked c args (Some ask) reads = reads.1
fits_asked c args None reads = tt

-- a line that begins with no command has no request
pub asks_none : (plain word : List ℕ) (args : List (List ℕ)) → words plain ≡ word ∷ args
    → find (has_name word) hosted_commands ≡ None → AsksLink plain None
asks_none plain word args cut none = λ ask h.
    let all : h.1 ∷ h.2 ≡ word ∷ args = sym h.3 ∙ cut in
    let first : h.1 ≡ word = cc all in
    let both : Some h.0 ≡ None = sym h.4 ∙ ap (λ (w : List ℕ). find (has_name w) hosted_commands) first ∙ none in
    cc both

pub no_ticks : (args : List (List ℕ)) → ((n : ℕ) → IsTickCount args n → ⊥) → (ask : LinkAsk)
    → AsksOfLink command.Tick args ask → ⊥
no_ticks args none (Ticks n) h = none n h
no_ticks args none ask h = h

pub no_error : (args : List (List ℕ)) → ((n : ℕ) → IsOneNumber 4294967295 args n → ⊥) → (ask : LinkAsk)
    → AsksOfLink command.LastError args ask → ⊥
no_error args none (LastError n) h = none n h
no_error args none ask h = h

pub no_shown : (args : List (List ℕ)) (word : List ℕ) → args ≡ word ∷ [] → (word ≡ codes "neighbours" → ⊥)
    → (word ≡ codes "link" → ⊥) → (ask : LinkAsk) → AsksOfLink command.ShowOfHost args ask → ⊥
no_shown args word cut first second Neighbours h =
    let both : word ∷ [] ≡ codes "neighbours" ∷ [] = sym cut ∙ h in first (cc both)
no_shown args word cut first second Counts h =
    let both : word ∷ [] ≡ codes "link" ∷ [] = sym cut ∙ h in second (cc both)
no_shown args word cut first second ask h = h

pub no_frame : (args : List (List ℕ)) (word : List ℕ) → args ≡ word ∷ [] → ((frame : List ℕ) → IsHex word frame → ⊥)
    → (ask : LinkAsk) → AsksOfLink command.Frame args ask → ⊥
no_frame args word cut none (Frame frame) h =
    let both : h.0 ∷ [] ≡ word ∷ [] = sym h.1 ∙ cut in
    none frame (subst (λ (w : List ℕ). IsHex w frame) (cc both) h.2)
no_frame args word cut none ask h = h

pub none_is : {X Y : Type 0} (f : X → Y) (x : Option X) → option_map f x ≡ None → x ≡ None
none_is f None e = refl
none_is f (Some x) e = absurd (never e)
  where
    never : Some (f x) ≡ None → ⊥
    never g = cc

-- a host with a link passes each such request to the link
pub for_its_link : (links : Option LinkState) (ask : LinkAsk) (link : Link)
    → option_map (λ (l : LinkState). l.link) links ≡ Some link → is_for_link links ask ≡ true
for_its_link None ask link e = absurd (never e)
  where
    never : None ≡ Some link → ⊥
    never g = cc
for_its_link (Some l) ask link e = refl

-- a host without a link passes on only those that a bare stack can't execute
pub for_no_link : (links : Option LinkState) (ask : LinkAsk) (b : Bool)
    → option_map (λ (l : LinkState). l.link) links ≡ None → is_of_link ask ≡ b → is_for_link links ask ≡ b
for_no_link links ask b e is =
    ap (λ (x : Option LinkState). is_for_link x ask) (none_is (λ (l : LinkState). l.link) links e) ∙ is

pub link_there : (links : Option LinkState) (link : Link) → option_map (λ (l : LinkState). l.link) links ≡ Some link
    → is_some links ≡ true
link_there None link e = absurd (never e)
  where
    never : None ≡ Some link → ⊥
    never g = cc
link_there (Some l) link e = refl

-- a line has at least one word
words-some : (line : List ℕ) → words line ≡ [] → ⊥
words-some [] e = cc
words-some (x ∷ xs) e = elim (x == 32) as (λ b. cond b ([] ∷ words xs) (onto_first x (words xs)) ≡ [] → ⊥) [
  | true ↦ λ same. cc
  | false ↦ λ same. onto-some (words xs) same
] e
  where
    onto-some : (ws : List (List ℕ)) → onto_first x ws ≡ [] → ⊥
    onto-some [] same = cc
    onto-some (w ∷ ws) same = cc

-- a packet that a line describes
pub packet_spelled : (named : Bool) (packet line : List ℕ) → named ≡ true
    → WritesLink (if named then codes "rx " ++ packet else line) Packets
packet_spelled true packet line e = (command.Rx, codes "rx", words packet, refl, refl, words-some packet)
packet_spelled false packet line e = absurd (never e)
  where
    never : false ≡ true → ⊥
    never g = cc

-- words that don't describe a packet
pub ask_spelled : (named : Bool) (packet line plain : List ℕ) (ask : Option LinkAsk) → named ≡ false → plain ≡ line
    → AsksLink plain ask → AsksLink (if named then codes "rx " ++ packet else line) ask
ask_spelled true packet line plain ask e same is = absurd (never e)
  where
    never : true ≡ false → ⊥
    never g = cc
ask_spelled false packet line plain ask e same is = subst (λ (p : List ℕ). AsksLink p ask) same is

pub no_link : (place : ℕ) (ask : LinkAsk) (v : SegmentView) → slice_get v.links place ≡ None
    → IsAtLink place ask v (Refused fault.NoLink) v
no_link place ask v e = (
  [],
  inl (subst (λ (x : Option LinkState). DoesLink place ask x v [] (Refused fault.NoLink) v) (sym e)
      (refl, refl, refl)),
)

pub no_link_by : {Y : Type 0} (f : LinkState → Y) (place : ℕ) (ask : LinkAsk) (v : SegmentView)
    → option_map f (slice_get v.links place) ≡ None → IsAtLink place ask v (Refused fault.NoLink) v
no_link_by f place ask v e = no_link place ask v (none_is f (slice_get v.links place) e)

pub no_host : (place : ℕ) (ask : LinkAsk) (v : SegmentView) → slice_get v.stacks place ≡ None
    → IsAtLink place ask v (Refused fault.NoHost) v
no_host place ask v e = ([], inr (e, refl, refl, refl))

pub not_counted : (place : ℕ) (ask : LinkAsk) (v w : SegmentView) → w ≡ v → is_some (slice_get v.links place) ≡ true
    → HasNotCounted place v → IsAtLink place ask v (Refused fault.NoHost) w
not_counted place ask v w same there (inl none) = absurd (never (sym (ap is_some none) ∙ there))
  where
    never : false ≡ true → ⊥
    never g = cc
not_counted place ask v w same there (inr none) =
    subst (λ (x : SegmentView). IsAtLink place ask v (Refused fault.NoHost) x) (sym same) (no_host place ask v none)

-- ---- requests to be shown something

some_is : {X Y : Type 0} (f : X → Y) (x : Option X) (y : Y) → option_map f x ≡ Some y
    → (it : X) × (x ≡ Some it) × (f it ≡ y)
some_is f None y e = absurd (never e)
  where
    never : None ≡ Some y → ⊥
    never g = cc
some_is f (Some x) y e = (x, refl, cc e)

pub neighbours_shown : (place : ℕ) (v : SegmentView) (ns : List Neighbour) (reply_line below : List ℕ)
    → option_map (λ (l : LinkState). l.neighbours) (slice_get v.links place) ≡ Some ns
    → reply_line ≡ neighbours_text ns → IsAtLink place Neighbours v (Replied reply_line below) v
neighbours_shown place v ns reply_line below e is =
    let there = some_is (λ (l : LinkState). l.neighbours) (slice_get v.links place) ns e in
    let text : reply_line ≡ neighbours_text there.0.neighbours = is ∙ ap neighbours_text (sym there.2) in (
      [],
      inl (subst (λ (x : Option LinkState). DoesLink place Neighbours x v [] (Replied reply_line below) v) (sym there.1)
          (refl, (below, ap (λ (t : List ℕ). Replied t below) text), refl)),
    )

pub link_shown : (place : ℕ) (v : SegmentView) (state : AddressState) (reply_line below : List ℕ)
    → Some state ≡ option_map (λ (l : LinkState). address_state l.claim) (slice_get v.links place)
    → reply_line ≡ state_text state → IsAtLink place Counts v (Replied reply_line below) v
link_shown place v state reply_line below f is = by (slice_get v.links place) refl
  where
    by : (x : Option LinkState) → slice_get v.links place ≡ x → IsAtLink place Counts v (Replied reply_line below) v
    by None n = absurd (never (f ∙ ap (option_map (λ (l : LinkState). address_state l.claim)) n))
      where
        never : Some state ≡ None → ⊥
        never h = cc
    by (Some l) n =
        let state_is : state ≡ address_state l.claim =
        cc (f ∙ ap (option_map (λ (l : LinkState). address_state l.claim)) n) in (
          [],
          inl (subst (λ (x : Option LinkState). DoesLink place Counts x v [] (Replied reply_line below) v) (sym n)
              (refl, (below, ap (λ (t : List ℕ). Replied t below) (is ∙ ap state_text state_is)), refl)),
        )

-- ---- ticks

pub ticked : (place n : ℕ) (v w : SegmentView) (reply_line below : List ℕ) → is_some (slice_get v.links place) ≡ true
    → AreActs v (ticks_at place n) w → reply_line ≡ codes "ok" → below ≡ []
    → IsAtLink place (Ticks n) v (Replied reply_line below) w
ticked place n v w reply_line below there acts text none = by (slice_get v.links place) refl
  where
    by : (x : Option LinkState) → slice_get v.links place ≡ x → IsAtLink place (Ticks n) v (Replied reply_line below) w
    by None e = absurd (never (sym (ap is_some e) ∙ there))
      where
        never : false ≡ true → ⊥
        never h = cc
    by (Some l) e = (
      ticks_at place n,
      inl (subst (λ (x : Option LinkState). DoesLink place (Ticks n) x v (ticks_at place n) (Replied reply_line below)
          w)
          (sym e) (acts, refl, ap₂ Replied text none)),
    )

pub packets_refused : (place : ℕ) (v : SegmentView) → is_some (slice_get v.links place) ≡ true
    → IsAtLink place Packets v (Refused fault.OnEthernet) v
packets_refused place v there = by (slice_get v.links place) refl
  where
    by : (x : Option LinkState) → slice_get v.links place ≡ x → IsAtLink place Packets v (Refused fault.OnEthernet) v
    by None e = absurd (never (sym (ap is_some e) ∙ there))
      where
        never : false ≡ true → ⊥
        never h = cc
    by (Some l) e = (
      [],
      inl (subst (λ (x : Option LinkState). DoesLink place Packets x v [] (Refused fault.OnEthernet) v) (sym e)
          (refl, refl, refl)),
    )

-- ---- a frame, and an error

there_below : {X : Type 0} (xs : List X) (i : ℕ) (x : X) → slice_get xs i ≡ Some x → i < length xs
there_below [] i x e = absurd (never e)
  where
    never : None ≡ Some x → ⊥
    never g = cc
there_below (y ∷ xs) zero x e = omega arith
there_below (y ∷ xs) (suc i) x e = omega (arith, there_below xs i x e)

there_lt : {X : Type 0} (xs : List X) (i : ℕ) (x : X) → slice_get xs i ≡ Some x → nat_lt i (length xs) ≡ true
there_lt xs i x e = lt-ltb i (length xs) (there_below xs i x e)

both_true : (a b : Bool) → a ≡ true → b ≡ true → (a && b) ≡ true
both_true a b e f = rw (e, f) refl

-- a host with counters exists
pub is_there : (place : ℕ) (v : SegmentView) (counts : HostCounts) → HasCounted place v counts
    → (nat_lt place (length v.stacks) && nat_lt place (length v.links)) ≡ true
is_there place v counts (s, l, at, stack, link) =
    both_true (nat_lt place (length v.stacks)) (nat_lt place (length v.links)) (there_lt v.stacks place s at.0)
    (there_lt v.links place l at.1)

received_so : (place : ℕ) (frame : List ℕ) (v w : SegmentView) (before after : HostCounts) (reply_line : List ℕ)
    → HasCounted place v before → HasReceived place frame v w → HasCounted place w after
    → reply_line ≡ received_text before.stack before.link after.stack after.link
    → IsAtLink place (Frame frame) v (Replied reply_line []) w
received_so place frame v w before after reply_line (s, l, at, stack, link) is (t, m, at', stack', link') text =
    let said : reply_line ≡ received_text (state_of s).counters l.tallies (state_of t).counters m.tallies =
    text ∙ ap₂ (λ a b. received_text a b after.stack after.link) stack link
    ∙ ap₂ (λ a b. received_text (state_of s).counters l.tallies a b) stack' link' in (
      Ether (ReceivesFrame place frame) ∷ [],
      inl (subst (λ (x : Option LinkState). DoesLink place (Frame frame) x v (Ether (ReceivesFrame place frame) ∷ [])
          (Replied reply_line []) w)
          (sym at.1)
          (s, t, l, m, at, at', is, refl, ap (λ x. Replied x []) said)),
    )

is_received : (place : ℕ) (frame : List ℕ) (v w : SegmentView) (before : HostCounts) (b : Bool) → HasCounted place v
    before
    → b ≡ (nat_lt place (length v.stacks) && nat_lt place (length v.links))
    → Choice b (HasReceived place frame v w) (w ≡ v) → HasReceived place frame v w
is_received place frame v w before b counted is choice = choice.yes (is ∙ is_there place v before counted)

pub frame_received : (place : ℕ) (frame : List ℕ) (v v' w w' : SegmentView) (before after : HostCounts) (b : Bool)
    (reply_line below : List ℕ)
    → v' ≡ v → HasCounted place v before → b ≡ (nat_lt place (length v'.stacks) && nat_lt place (length v'.links))
    → Choice b (HasReceived place frame v' w) (w ≡ v') → w' ≡ w → HasCounted place w after
    → reply_line ≡ received_text before.stack before.link after.stack after.link → below ≡ []
    → IsAtLink place (Frame frame) v (Replied reply_line below) w'
frame_received place frame v v' w w' before after b reply_line below same counted is choice same' counted' text none =
    let counted_so : HasCounted place v' before =
    subst (λ (x : SegmentView). HasCounted place x before) (sym same) counted in
    let here : IsAtLink place (Frame frame) v' (Replied reply_line []) w =
    received_so place frame v' w before after reply_line counted_so (is_received place frame v' w before b counted_so is
    choice)
    counted' text in
    subst (λ (x : SegmentView). IsAtLink place (Frame frame) x (Replied reply_line below) w') same
    (subst (λ (x : SegmentView). IsAtLink place (Frame frame) v' (Replied reply_line below) x) (sym same')
    (subst (λ (xs : List ℕ). IsAtLink place (Frame frame) v' (Replied reply_line xs) w) (sym none) here))

-- a host that received a frame still exists
still_there : (place : ℕ) (frame : List ℕ) (v w : SegmentView) → HasReceived place frame v w → HasNotCounted place w → ⊥
still_there place frame v w is (inl none) =
    never (sym none ∙ ap (λ (x : SegmentView). slice_get x.links place) is.is
    ∙ get_set v.links place is.link is.link' is.link_is)
  where
    never : None ≡ Some is.link' → ⊥
    never g = cc
still_there place frame v w is (inr none) =
    never (sym none ∙ ap (λ (x : SegmentView). slice_get x.stacks place) is.is
    ∙ get_set v.stacks place is.stack is.stack' is.stack_is)
  where
    never : None ≡ Some is.stack' → ⊥
    never g = cc

pub frame_counted : (place : ℕ) (frame : List ℕ) (v v' w w' : SegmentView) (before : HostCounts) (b : Bool)
    → v' ≡ v → HasCounted place v before → b ≡ (nat_lt place (length v'.stacks) && nat_lt place (length v'.links))
    → Choice b (HasReceived place frame v' w) (w ≡ v') → HasNotCounted place w
    → IsAtLink place (Frame frame) v (Refused fault.NoHost) w'
frame_counted place frame v v' w w' before b same counted is choice none =
    absurd (still_there place frame v' w (is_received place frame v' w before b
    (subst (λ (x : SegmentView). HasCounted place x before) (sym same) counted) is choice) none)

pub error_asked : (place fd : ℕ) (v v' w : SegmentView) (before : HostCounts) (error : Result (Option NetFault) Errno)
    (reply_line below : List ℕ)
    → v' ≡ v → HasCounted place v before → IsErrorQueried place fd error v' w
    → reply_line ≡ error_text error → below ≡ [] → IsAtLink place (LastError fd) v (Replied reply_line below) w
error_asked place fd v v' w before error reply_line below same (s, l, at, stack, link) is text none =
    let is_so : IsErrorQueried place fd error v w =
    subst (λ (x : SegmentView). IsErrorQueried place fd error x w) same is in (
      Ether (QueriesError place fd error) ∷ [],
      inl (subst (λ (x : Option LinkState). DoesLink place (LastError fd) x v (Ether (QueriesError place fd error) ∷ [])
          (Replied reply_line below) w)
          (sym at.1)
          (error, is_so, refl, ap₂ Replied text none)),
    )

-- for a host that exists, the reply isn't `NoHost`
pub error_never : (place : ℕ) (ask : LinkAsk) (v v' w : SegmentView) (before : HostCounts) → v' ≡ v
    → HasCounted place v before
    → false ≡ (nat_lt place (length v'.stacks) && nat_lt place (length v'.links))
    → IsAtLink place ask v (Refused fault.NoHost) w
error_never place ask v v' w before same counted is =
    absurd (never (is ∙ is_there place v' before (subst (λ (x : SegmentView). HasCounted place x before) (sym same)
    counted)))
  where
    never : false ≡ true → ⊥
    never g = cc

-- the counters of a host with a link
pub counted_so : (place : ℕ) (v : SegmentView) (stack : Counters) (link : Tallies)
    → Some stack ≡ option_map (λ (s : StackView). (state_of s).counters) (slice_get v.stacks place)
    → Some link ≡ option_map (λ (l : LinkState). l.tallies) (slice_get v.links place)
    → HasCounted place v (record { stack = stack; link = link })
counted_so place v stack link e f =
    let s = some_is (λ (s : StackView). (state_of s).counters) (slice_get v.stacks place) stack (sym e) in
    let l = some_is (λ (l : LinkState). l.tallies) (slice_get v.links place) link (sym f) in
    (s.0, l.0, (s.1, l.1), sym s.2, sym l.2)

-- a host with a link that isn't on an Ethernet has no stack
pub not_linked : (place : ℕ) (ask : LinkAsk) (v : SegmentView) → is_some (slice_get v.links place) ≡ true
    → is_linked place v ≡ false → IsAtLink place ask v (Refused fault.NoHost) v
not_linked place ask v link is = by (slice_get v.stacks place) (slice_get v.links place) refl refl
  where
    never : false ≡ true → ⊥
    never g = cc

    by : (x : Option StackView) (y : Option LinkState) → slice_get v.stacks place ≡ x → slice_get v.links place ≡ y
        → IsAtLink place ask v (Refused fault.NoHost) v
    by None y e f = no_host place ask v e
    by (Some s) None e f = absurd (never (sym (ap is_some f) ∙ link))
    by (Some s) (Some l) e f =
        absurd (never (sym is ∙ both_true (nat_lt place (length v.stacks)) (nat_lt place (length v.links))
        (there_lt v.stacks place s e) (there_lt v.links place l f)))

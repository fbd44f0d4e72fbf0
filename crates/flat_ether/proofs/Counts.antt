-- How often a running host dropped a martian, and how many replies it accepted: no other act on the host changes these
-- counts, and the identification of the next reply is one more after each reply.
use Rattle.std.proofs.Common.{◌≡◌, ◌⊎◌, inl, inr, ℕ, ◌+◌, ◌-◌, ◌%◌, ◌^◌, ◌<◌, ◌≤◌, min, Bool, true, false, cond, List, [], ◌∷◌, length, Option, Some, None, refl, sym, ap, ◌∙◌, subst, arith}
use Rattle.std.specs.Prelude.{◌==◌, ◌&&◌, not, All, Result, Ok, Err, is_some, nat_lt, position, slice_get}
use Rattle.std.specs.List.{AllByRecursion as Each}
use Rattle.std.proofs.lemmas.List.Elements.{All-from_recursion}
use Rattle.flat_model.specs.Amounts.Weight.{Item}
use Rattle.flat_model.specs.Machine.Count.{more_by}
use Rattle.flat_model.specs.Packets.Header.{head_of, u16_at}
use Rattle.flat_model.specs.Machine.State.{IsConfig, Key, Socket, socket_at}
use Rattle.flat_model.specs.declared.address.Addr.{Addr}
use Rattle.flat_model.specs.declared.config.Config.{Config}
use Rattle.flat_model.specs.declared.counters.Why.{Why}
use Rattle.flat_model.specs.declared.fate.Fate.{Fate}
use Rattle.flat_model.specs.declared.fate.Fate.TheVariants.{Delivered, Kept, Completed, Dropped}
use Rattle.flat_model.specs.declared.errno.Errno.{Errno}
use Rattle.flat_ether.specs.Claims.{claim_due, is_claimed}
use Rattle.flat_ether.specs.Errors.{error_at, error_in}
use Rattle.flat_ether.specs.Frames.{arp_of, body_of, is_addressed, is_martian, kind_of, packet_kind}
use Rattle.flat_ether.specs.Hosts.{HostAct, AreHostActs, Asks_error, Calls, Clock, Comes_in, Drained, Goes_out, ReceivesKind, Host, IsHostAct, drained, error_of_socket, expired_keys, gives, gives_claimed, gives_drained, gives_probe, host_up, is_to_us, makes_place, or_drains}
use Rattle.flat_ether.specs.Options.{has_options}
use Rattle.flat_ether.specs.Icmp.{answer_to, echo_reply, error_for, error_reply, expired_error, is_first, is_no_protocol}
use Rattle.flat_ether.specs.Laws.{answered, martian_if, martian_in, martians_in, packet_if, packets_in}
use Rattle.flat_ether.specs.Links.{Gives, WaitingPacket, LinkState, ages, answers_by, answers_expired, answers_fate, answers_first, answers_now, answers_on, answers_with, asks, asks_at, by_route, claim_frame, drops_first, counts_conflict, counts_expired, counts_unreachable, first_ready, gives_answer, gives_claim, gives_held, gives_own, gives_reply, gives_request, receives_arp, holds_packet, is_answering, is_asked, is_busy, is_conflict, is_request_due, is_learned, is_sound_arp, keeps_answer, learns, limits, mac_of, makes_way, puts_answer, puts_error, quote_for, quote_with, adds_error_if, adds_error, or_then, queues_reply, neighbour_place, replies_to, reports_expired, route_of, sends, sends_answer, sends_at, sends_held, takes_at, takes_error, to_hop, with_place}
use Rattle.flat_ether.specs.Routes.{route}
use Rattle.flat_ether.specs.declared.answer.Answer.{Answer}
use Rattle.flat_ether.specs.declared.answer.Answer.TheVariants.{Echo, Error, Silence}
use Rattle.flat_ether.specs.declared.arp.Arp.{Arp}
use Rattle.flat_ether.specs.declared.claim.ClaimFrame.{ClaimFrame}
use Rattle.flat_ether.specs.declared.claim.ClaimFrame.TheVariants.{Probe, Announcement, Nothing}
use Rattle.flat_ether.specs.declared.error.NetFault.{NetFault}
use Rattle.flat_ether.specs.declared.error.SocketError.{SocketError}
use Rattle.flat_ether.specs.declared.link.FrameKind.{FrameKind}
use Rattle.flat_ether.specs.declared.link.FrameKind.TheVariants.{Packet, Martian, Arp as Of_arp, Other}
use Rattle.flat_ether.specs.declared.link.Link.{Link}
use Rattle.flat_ether.specs.declared.link.Route.{Route}
use Rattle.flat_ether.specs.declared.link.Route.TheVariants.{All as To_all, Hop, NoRoute}
use Rattle.flat_ether.specs.declared.mac.Mac.{Mac}
use Rattle.flat_ether.specs.declared.neighbour.PendingReply.{PendingReply}
use Rattle.flat_ether.specs.declared.sizes.TheConstants.{ETHER_MTU, ETHER_TYPE_ARP, ETHER_TYPE_IP, HELD_PACKETS, PENDING_REPLIES}
use Rattle.flat_ether.proofs.Plain.{plain_martian}

-- the configuration and the link, by which a frame is classified; the number of martians; the identification of the
-- next reply, and the numbers of the three kinds of replies
abbrev Tally : Type 0
Tally = Config × Link × ℕ × ℕ × ℕ × ℕ × ℕ

abbrev tally : LinkState → Tally
tally s = (
  s.config,
  s.link,
  s.tallies.martians,
  s.answer_id,
  s.tallies.echoes,
  s.tallies.unreachable,
  s.tallies.expired,
)

abbrev next_id : ℕ → ℕ
next_id id = (id + 1) % 65536

-- an echo reply more, a "destination unreachable" more, and a "time exceeded" more
abbrev echoed : Tally → Tally
echoed x = (x.0, x.1, x.2, next_id x.3, more_by 1 x.4, x.5, x.6)

abbrev reported : Tally → Tally
reported x = (x.0, x.1, x.2, next_id x.3, x.4, more_by 1 x.5, x.6)

abbrev expired : Tally → Tally
expired x = (x.0, x.1, x.2, next_id x.3, x.4, x.5, more_by 1 x.6)

abbrev with_next : Tally → Tally
with_next x = (x.0, x.1, x.2, next_id x.3, x.4, x.5, x.6)

abbrev IsNext : Tally → Tally → Type 0
IsNext x y = (y ≡ x) ⊎ (y ≡ echoed x) ⊎ (y ≡ reported x) ⊎ (y ≡ expired x)

next_cond : (b : Bool) (s t u : LinkState) → IsNext (tally s) (tally t) → IsNext (tally s) (tally u)
    → IsNext (tally s) (tally (cond b t u))
next_cond true s t u e f = e
next_cond false s t u e f = f

by_cond : (b : Bool) (s t u : LinkState) → tally t ≡ tally s → tally u ≡ tally s → tally (cond b t u) ≡ tally s
by_cond true s t u e f = e
by_cond false s t u e f = f

by_gives : (b : Bool) (s : LinkState) (g h : Gives) → tally g.1 ≡ tally s → tally h.1 ≡ tally s
    → tally (cond b g h).1 ≡ tally s
by_gives true s g h e f = e
by_gives false s g h e f = f

by_host : (b : Bool) (s : LinkState) (g h : Option (List ℕ) × Host) → tally g.1.link ≡ tally s
    → tally h.1.link ≡ tally s → tally (cond b g h).1.link ≡ tally s
by_host true s g h e f = e
by_host false s g h e f = f

-- ---- frames that arrive

asks_same : (hop : ℕ) (s : LinkState) → tally (asks hop s) ≡ tally s
asks_same hop s = by_cond (is_some (neighbour_place hop s.neighbours)) s _ _ refl refl

way_same : (s : LinkState) → tally (makes_way s) ≡ tally s
way_same s = by_cond (is_answering s) s _ _ refl refl

puts_next : (hop : ℕ) (packets : List (List ℕ)) (s : LinkState)
    → tally (puts_answer hop packets s) ≡ with_next (tally s)
puts_next hop packets s =
    asks_same hop (record s { answer = packets; answer_hop = hop; answer_id = next_id s.answer_id })

by_next : (hop : ℕ) (a : Answer) (came : List ℕ) (s : LinkState)
    → IsNext (tally s) (tally (answers_by hop a came s))
by_next hop Silence came s = inl refl
by_next hop Echo came s =
    let t : LinkState = makes_way s in
    inr (inl (ap (λ (x : Tally). (x.0, x.1, x.2, x.3, more_by 1 x.4, x.5, x.6))
    (puts_next hop (echo_reply t.config t.answer_id came) t) ∙ ap echoed (way_same s)))
by_next hop (Error kind code) came s =
    next_cond (nat_lt 0 s.errors_left) s (puts_error hop kind code came t) (limits s)
    (next_cond (kind == 11) s (counts_expired put) (counts_unreachable put)
    (inr (inr (inr (ap (λ (x : Tally). (x.0, x.1, x.2, x.3, x.4, x.5, more_by 1 x.6)) same))))
    (inr (inr (inl (ap (λ (x : Tally). (x.0, x.1, x.2, x.3, x.4, more_by 1 x.5, x.6)) same))))) (inl refl)
  where
    t : LinkState
    t = makes_way s

    put : LinkState
    put =
        puts_answer hop (error_reply t.config t.answer_id kind code came)
        (record t { errors_left = t.errors_left - 1 })

    same : tally put ≡ with_next (tally s)
    same =
        puts_next hop (error_reply t.config t.answer_id kind code came)
        (record t { errors_left = t.errors_left - 1 }) ∙ ap with_next (way_same s)

now_next : (a : Answer) (came : List ℕ) (s : LinkState) → IsNext (tally s) (tally (answers_now a came s))
now_next a came s =
    next_cond (is_busy s) s _ _ (inl refl) (on (route s.config s.link (head_of came).source))
  where
    on : (r : Route) → IsNext (tally s) (tally (answers_on r a came s))
    on To_all = inl refl
    on (Hop hop) = by_next hop a came s
    on NoRoute = inl refl

answers_next : (a : Answer) (came : List ℕ) (s : LinkState) → IsNext (tally s) (tally (answers_with a came s))
answers_next Silence came s = inl refl
answers_next Echo came s = now_next Echo came s
answers_next (Error kind code) came s = now_next (Error kind code) came s

adds_error_if_same : (b : Bool) (came : List ℕ) (s : LinkState) → tally (adds_error_if b came s) ≡ tally s
adds_error_if_same b came s = by_cond b s _ _ (go (error_in s.config came)) refl
  where
    go : (e : Option SocketError) → tally (adds_error e s) ≡ tally s
    go None = refl
    go (Some e) = refl

owes_same : (a : Arp) (s : LinkState) → tally (queues_reply a s) ≡ tally s
owes_same a s = by_cond (is_asked s a) s _ _ (by_cond (nat_lt (length s.replies) PENDING_REPLIES) s _ _ refl refl) refl

learns_same : (a : Arp) (s : LinkState) → tally (learns a s) ≡ tally s
learns_same a s = by_cond (is_learned s a) s _ _ refl refl

receives_same : (b : List ℕ) (s : LinkState) → tally (receives_arp b s) ≡ tally s
receives_same b s =
    by_cond (is_sound_arp s.link b) s _ _
    (by_cond (is_conflict s (arp_of b)) s _ _ (owes_same (arp_of b) (counts_conflict s))
    (owes_same (arp_of b) (learns (arp_of b) s) ∙ learns_same (arp_of b) s))
    refl

-- ---- frames that are sent

holds_same : (hop : ℕ) (packet : List ℕ) (s : LinkState) → tally (holds_packet hop packet s) ≡ tally s
holds_same hop packet s =
    by_cond (nat_lt ETHER_MTU (length packet)) s _ _ refl
    (by_cond (nat_lt (length s.held) HELD_PACKETS) s s (drops_first s) refl refl)

sends_same : (packet : List ℕ) (s : LinkState) → tally (sends packet s).1 ≡ tally s
sends_same packet s = go (route_of s packet)
  where
    to : (hop : ℕ) (mac : Option Mac) → tally (to_hop hop packet s mac).1 ≡ tally s
    to hop None = asks_same hop (holds_packet hop packet s) ∙ holds_same hop packet s
    to hop (Some mac) = refl

    go : (r : Route) → tally (by_route packet s r).1 ≡ tally s
    go To_all = refl
    go (Hop hop) = to hop (mac_of hop s.neighbours)
    go NoRoute = refl

claim_same : (s : LinkState) → tally (gives_claim s).1 ≡ tally s
claim_same s = go (claim_due s.claim)
  where
    go : (frame : ClaimFrame) → tally (claim_frame frame s).1 ≡ tally s
    go Nothing = refl
    go Probe = refl
    go Announcement = refl

reply_same : (s : LinkState) → tally (gives_reply s).1 ≡ tally s
reply_same s = go s.replies
  where
    go : (owed : List PendingReply) → tally (replies_to owed s).1 ≡ tally s
    go [] = refl
    go (o ∷ later) = refl

request_same : (s : LinkState) → tally (gives_request s).1 ≡ tally s
request_same s = go (position is_request_due s.neighbours)
  where
    go : (at : Option ℕ) → tally (asks_at at s).1 ≡ tally s
    go None = refl
    go (Some at) = refl

held_same : (s : LinkState) → tally (gives_held s).1 ≡ tally s
held_same s = go (first_ready s.neighbours s.held)
  where
    one : (at : ℕ) (mac : Mac) (h : Option WaitingPacket) → tally (sends_held at mac h s).1 ≡ tally s
    one at mac None = refl
    one at mac (Some h) = refl

    go : (found : Option (ℕ × Mac)) → tally (sends_at found s).1 ≡ tally s
    go None = refl
    go (Some found) = one found.0 found.1 (slice_get s.held found.0)

answer_same : (s : LinkState) → tally (gives_answer s).1 ≡ tally s
answer_same s = go (slice_get s.answer 0) (mac_of s.answer_hop s.neighbours)
  where
    go : (packet : Option (List ℕ)) (mac : Option Mac) → tally (sends_answer packet mac s).1 ≡ tally s
    go None mac = refl
    go (Some packet) None = refl
    go (Some packet) (Some mac) = refl

then_same : (g : Gives) (next : LinkState → Gives) (s : LinkState) → tally g.1 ≡ tally s
    → ((t : LinkState) → tally (next t).1 ≡ tally t)
    → tally (or_then g next).1 ≡ tally s
then_same g next s e same = by_gives (is_some g.0) s g (next g.1) e (same g.1 ∙ e)

own_same : (s : LinkState) → tally (gives_own s).1 ≡ tally s
own_same s =
    let replied : Gives = or_then (gives_claim s) gives_reply in
    let asked : Gives = or_then replied gives_request in
    let sent : Gives = or_then asked gives_held in
    then_same sent gives_answer s
    (then_same asked gives_held s (then_same replied gives_request s
    (then_same (gives_claim s) gives_reply s (claim_same s) reply_same) request_same) held_same)
    answer_same

drained_same : (items : List Item) (s : LinkState) → tally (drained items s).link ≡ tally s
drained_same [] s = refl
drained_same (item ∷ later) s = go (sends item.bytes s) (sends_same item.bytes s) (λ t. drained_same later t)
  where
    go : (g : Gives) → tally g.1 ≡ tally s → ((t : LinkState) → tally (drained later t).link ≡ tally t)
        → tally (or_drains g later (drained later g.1)).link ≡ tally s
    go (None, t) e rest = rest t ∙ e
    go (Some f, t) e rest = e

gives_drained_same : (h : Host) (s : LinkState) → tally (gives_drained h s).1.link ≡ tally s
gives_drained_same h s =
    let d : Drained = drained h.machine.output s in
    by_host (is_some d.frame) s _ _ (drained_same h.machine.output s)
    (own_same d.link ∙ drained_same h.machine.output s)

gives_same : (h : Host) → tally (gives h).1.link ≡ tally h.link
gives_same h =
    by_host (is_claimed h.link.claim) h.link (gives_claimed h) (gives_probe h)
    (by_host (is_some (gives_own h.link).0) h.link _ _ (own_same h.link)
    (gives_drained_same h (gives_own h.link).1 ∙ own_same h.link))
    (claim_same h.link)

-- ---- the clock

kept_same : (s : LinkState) → tally (keeps_answer (ages s)) ≡ tally s
kept_same s =
    by_cond (is_answering (ages s) && not (is_some (neighbour_place s.answer_hop (ages s).neighbours))) s _ (ages s)
    refl refl

expired_next : (quote : Option (List ℕ)) (s : LinkState) → IsNext (tally s) (tally (answers_expired quote s))
expired_next None s = inl refl
expired_next (Some quote) s = answers_next (expired_error quote) quote s

-- ---- a query for an error

takes_same : (port : Option ℕ) (peer : Option Addr) (s : LinkState) → tally (takes_error port peer s).1 ≡ tally s
takes_same None peer s = refl
takes_same (Some port) None s = refl
takes_same (Some port) (Some peer) s = go (error_at port peer s.errors)
  where
    go : (at : Option ℕ) → tally (takes_at at s).1 ≡ tally s
    go None = refl
    go (Some at) = refl

asked_same : (me : Option Socket) (h : Host) → tally (error_of_socket me h).1.link ≡ tally h.link
asked_same None h = refl
asked_same (Some me) h = takes_same me.port me.peer h.link

-- ---- each act, and all of them

-- one more, or the same number as before
one_more : (k n : ℕ) → more_by n (more_by k 0) ≡ more_by (k + n) 0
one_more k n = omega (arith)

module _ (c : Config) (l : Link) where
  -- k martians arrived, and n replies were accepted
  record Counted (k : ℕ) (x : Tally) : Type 0 where
    config : x.0 ≡ c
    link : x.1 ≡ l
    martians : x.2 ≡ more_by k 0
    replies : ℕ
    id : x.3 % 65536 ≡ (c.first_id + replies) % 65536
    small : c.first_id < 65536 → x.3 < 65536
    least : min replies 65536 ≤ x.4 + x.5 + x.6
    most : x.4 + x.5 + x.6 ≤ replies

  abbrev Counts : ℕ → Host → Type 0
  Counts k h = Counted k (tally h.link)

  same_counts : (k : ℕ) (old new : Host) → Counts k old → tally new.link ≡ tally old.link → Counts (k + 0) new
  same_counts k old new is e =
      subst (λ (x : Tally). Counted (k + 0) x) (sym e)
      (subst (λ (n : ℕ). Counted n (tally old.link)) (omega (arith)) is)

  next_counts : (k : ℕ) (x y : Tally) → Counted k x → IsNext x y → Counted k y
  next_counts k x y is (inl e) = subst (Counted k) (sym e) is
  next_counts k x y is (inr (inl e)) = subst (Counted k) (sym e) (record {
    config = is.config;
    link = is.link;
    martians = is.martians;
    replies = is.replies + 1;
    id = omega (arith, is.id);
    small = λ f. omega (arith);
    least = omega (arith, is.least);
    most = omega (arith, is.most);
  })
  next_counts k x y is (inr (inr (inl e))) = subst (Counted k) (sym e) (record {
    config = is.config;
    link = is.link;
    martians = is.martians;
    replies = is.replies + 1;
    id = omega (arith, is.id);
    small = λ f. omega (arith);
    least = omega (arith, is.least);
    most = omega (arith, is.most);
  })
  next_counts k x y is (inr (inr (inr e))) = subst (Counted k) (sym e) (record {
    config = is.config;
    link = is.link;
    martians = is.martians;
    replies = is.replies + 1;
    id = omega (arith, is.id);
    small = λ f. omega (arith);
    least = omega (arith, is.least);
    most = omega (arith, is.most);
  })

  expired_counts : (k : ℕ) (ks : List Key) (s : LinkState) → Counted k (tally s)
      → Counted k (tally (reports_expired ks s))
  expired_counts k [] s is = is
  expired_counts k (key ∷ ks) s is =
      expired_counts k ks (answers_expired (quote_with key s.firsts) s)
      (next_counts k (tally s) _ is (expired_next (quote_with key s.firsts) s))

  first_next : (quote : Option (List ℕ)) (why : Why) (s : LinkState)
      → IsNext (tally s) (tally (answers_first quote why s))
  first_next None why s = inl refl
  first_next (Some quote) why s = answers_next (error_for quote why) quote s

  fate_next : (came : List ℕ) (fate : Fate) (s : LinkState) → IsNext (tally s) (tally (answers_fate came fate s))
  fate_next came (Delivered reached) s = inl refl
  fate_next came Kept s = next_cond (is_first s.config came) s _ _ (inl refl) (inl refl)
  fate_next came (Completed (Ok reached)) s = inl refl
  fate_next came (Completed (Err why)) s = first_next (quote_for came s) why s
  fate_next came (Dropped why) s =
      subst (IsNext (tally s))
      (sym (adds_error_if_same (is_no_protocol why) came (answers_with (answer_to s.config came why) came s)))
      (answers_next (answer_to s.config came why) came s)

  taken_next : (b : Bool) (came : List ℕ) (fate : Fate) (s : LinkState)
      → IsNext (tally s) (tally (cond b (answers_fate came fate s) s))
  taken_next true came fate s = fate_next came fate s
  taken_next false came fate s = inl refl

  place_same : (came : List ℕ) (s : LinkState) → tally (makes_place came s) ≡ tally s
  place_same came s =
      by_cond (has_options came) s (with_place s) s
      (by_cond (nat_lt (length s.held) HELD_PACKETS) s s (drops_first s) refl refl) refl

  received_counts : (k : ℕ) (f : List ℕ) (old new : Host) (kind : FrameKind) → Counts k old → ReceivesKind kind f old
      new
      → Counts (k + martian_if kind) new
  received_counts k f old new Packet is h =
      subst (λ (n : ℕ). Counted n (tally new.link)) (omega (arith))
      (subst (λ (s : LinkState). Counted k (tally s)) (sym h.link)
      (next_counts k (tally (makes_place (body_of f) old.link)) _
      (subst (Counted k) (sym (place_same (body_of f) old.link)) is)
      (taken_next (is_to_us (makes_place (body_of f) old.link) f) (body_of f) h.fate
      (makes_place (body_of f) old.link))))
  received_counts k f old new Martian is h =
      subst (λ (x : Host). Counted (k + 1) (tally x.link)) (sym h) (record {
        config = is.config;
        link = is.link;
        martians = ap (more_by 1) is.martians ∙ one_more k 1;
        replies = is.replies;
        id = is.id;
        small = is.small;
        least = is.least;
        most = is.most;
      })
  received_counts k f old new Of_arp is h =
      same_counts k old new is (ap (λ (x : Host). tally x.link) h ∙ receives_same (body_of f) old.link)
  received_counts k f old new Other is h = same_counts k old new is (ap (λ (x : Host). tally x.link) h)

  -- a frame is of the same kind for the host as for its configuration
  kinds : (k : ℕ) (old : Host) (f : List ℕ) → Counts k old
      → kind_of old.link.config old.link.link.mac f ≡ kind_of c l.mac f
  kinds k old f is =
      ap (λ (x : Config). kind_of x old.link.link.mac f) is.config ∙ ap (λ (x : Link). kind_of c x.mac f) is.link

  act_counts : (k : ℕ) (old new : Host) (act : HostAct) → Counts k old → IsHostAct old act new
      → Counts (k + martian_in c l.mac act) new
  act_counts k old new (Comes_in f) is h =
      received_counts k f old new (kind_of c l.mac f) is
      (subst (λ (x : FrameKind). ReceivesKind x f old new) (kinds k old f is) h.2)
  act_counts k old new (Goes_out f) is h =
      same_counts k old new is (subst (λ (x : Option (List ℕ) × Host). tally x.1.link ≡ tally old.link) (sym h)
      (gives_same old))
  act_counts k old new Clock is h =
      subst (λ (n : ℕ). Counted n (tally new.link)) (omega (arith))
      (subst (λ (s : LinkState). Counted k (tally s)) (sym h.link)
      (expired_counts k (expired_keys old.machine) (keeps_answer (ages old.link))
      (subst (Counted k) (sym (kept_same old.link)) is)))
  act_counts k old new (Calls turn) is h = same_counts k old new is (ap tally h.link)
  act_counts k old new (Asks_error fd fault) is h =
      same_counts k old new is (subst (λ (x : Result (Option NetFault) Errno × Host). tally x.1.link ≡ tally old.link)
      (sym h) (asked_same (socket_at fd old.machine) old))

  acts_count : (k : ℕ) (old new : Host) (acts : List HostAct) → Counts k old → AreHostActs old acts new
      → Counts (k + martians_in c l.mac acts) new
  acts_count k old new [] is done = same_counts k old new is (ap (λ (h : Host). tally h.link) done)
  acts_count k old new (act ∷ acts) is (mid, first, later) =
      subst (λ (n : ℕ). Counts n new) (omega (arith))
      (acts_count (k + martian_in c l.mac act) mid new acts (act_counts k old mid act is first) later)

  counted : (acts : List HostAct) (new : Host) → AreHostActs (host_up c l) acts new
      → Counts (0 + martians_in c l.mac acts) new
  counted acts new done = acts_count 0 (host_up c l) new acts up done
    where
      up : Counts 0 (host_up c l)
      up = record {
        config = refl;
        link = refl;
        martians = refl;
        replies = 0;
        id = omega (arith);
        small = λ f. f;
        least = omega (arith);
        most = omega (arith);
      }

  pub martians_are_counted : (acts : List HostAct) (new : Host) → AreHostActs (host_up c l) acts new
      → new.link.tallies.martians ≡ more_by (martians_in c l.mac acts) 0
  martians_are_counted acts new done =
      (counted acts new done).martians ∙ ap (λ (n : ℕ). more_by n 0) (omega (arith))

  pub numbered_next : (acts : List HostAct) (new : Host) → IsConfig c → AreHostActs (host_up c l) acts new
      → answered new.link.tallies < 2 ^ 16
      → new.link.answer_id ≡ (c.first_id + answered new.link.tallies) % 2 ^ 16
  numbered_next acts new boots done few =
      let is : Counts (0 + martians_in c l.mac acts) new = counted acts new done in
      let all : is.replies ≡ answered new.link.tallies =
      omega (arith, is.least, is.most) in
      let small : new.link.answer_id < 65536 = is.small boots.first_id in
      omega (arith, is.id, small, all)

-- ---- no martian arrives at the machine

pub no_martian : (c : Config) (mac : Mac) (f : List ℕ)
    → All (λ packet. is_martian c packet ≡ false) (packets_in c mac (Comes_in f))
no_martian c mac f = All-from_recursion _ (packet_if (kind_of c mac f) f) (received (is_addressed mac f))
  where
    Free : FrameKind → Type 0
    Free kind = Each (λ packet. is_martian c packet ≡ false) (packet_if kind f)

    of_packet : (b : Bool) → is_martian c (body_of f) ≡ b → Free (cond b Martian Packet)
    of_packet true e = tt
    of_packet false e = (plain_martian c (body_of f) e, tt)

    of_other : (b : Bool) → Free (cond b Of_arp Other)
    of_other true = tt
    of_other false = tt

    typed : (b : Bool) → Free (cond b (packet_kind c (body_of f)) (cond (u16_at 12 f == ETHER_TYPE_ARP) Of_arp Other))
    typed true = of_packet (is_martian c (body_of f)) refl
    typed false = of_other (u16_at 12 f == ETHER_TYPE_ARP)

    received : (b : Bool)
        → Free (cond b (cond (u16_at 12 f == ETHER_TYPE_IP) (packet_kind c (body_of f))
        (cond (u16_at 12 f == ETHER_TYPE_ARP) Of_arp Other)) Other)
    received true = typed (u16_at 12 f == ETHER_TYPE_IP)
    received false = tt

-- The frames that a host sends: the source of each packet, and its destination on the link.
use Rattle.std.proofs.Common.{◌≡◌, ◌⊎◌, inl, inr, ℕ, Bool, true, false, cond, List, [], ◌∷◌, ◌++◌, length, take, drop, Option, Some, None, refl, sym, ap, ◌∙◌, subst, zero, suc, ◌+◌, ◌-◌, ◌%◌, add-one, get_or}
use Rattle.std.specs.Prelude.{Contains, ◌==◌, ◌&&◌, not, filter, is_some, map, nat_lt, position, slice_get, slice_index, remove, Ok, Err}
use Rattle.std.specs.List.{AllByRecursion as Each}
use Rattle.std.proofs.lemmas.List.Elements.{All-contains_itself, Contains-append_left, Contains-append_right, recursion_from_All}
use Rattle.std.proofs.lemmas.List.Quantifiers.{position-Some}
use Rattle.std.proofs.lemmas.Option.{none-some, same_Some}
use Rattle.std.proofs.lemmas.Bool.{and_parts, eqb-true}
use Rattle.flat_model.specs.declared.config.Config.{Config}
use Rattle.flat_model.specs.declared.counters.Why.{Why}
use Rattle.flat_model.specs.declared.counters.Why.TheVariants.{NoProtocol, UdpNoPort}
use Rattle.flat_model.specs.declared.fate.Fate.{Fate}
use Rattle.flat_model.specs.declared.fate.Fate.TheVariants.{Delivered, Kept, Completed, Dropped}
use Rattle.flat_model.specs.Machine.Arrival.{key_of}
use Rattle.flat_model.specs.Machine.Count.{more_by}
use Rattle.flat_model.specs.Machine.State.{Key}
use Rattle.flat_model.specs.Packets.Header.{head_of}
use Rattle.flat_model.proofs.Laws.{each-append, each-both, each-filter, each-map, each-take, each-weaker}
use Rattle.flat_ether.specs.Claims.{claim_due}
use Rattle.flat_ether.specs.Errors.{error_at, error_in}
use Rattle.flat_ether.specs.declared.error.SocketError.{SocketError}
use Rattle.flat_model.specs.declared.address.Addr.{Addr}
use Rattle.flat_ether.specs.Frames.{arp_bytes, arp_of, body_of, ether_broadcast, frame, is_arp, is_host_mac, kind_of, no_mac, same_mac}
use Rattle.flat_ether.specs.Icmp.{answer_to, echo_message, echo_reply, error_for, error_message, error_reply, expired_error, is_answerable, is_first, is_no_protocol, is_ping, is_quote_of, quote_of, reflected}
use Rattle.flat_ether.specs.Laws.{IsMade, IsReply, IsRoute, IsFrameSent, arp_if, last_given, is_arp_from, given_in}
use Rattle.flat_ether.specs.Links.{Gives, WaitingPacket, LinkState, ages, neighbour_aged, answers_by, answers_dropped, answers_expired, answers_fate, answers_first, answers_now, answers_on, answers_with, asked_at, asks, asks_at, by_route, claim_frame, drops_first, counts_too_long, counts_expired, counts_icmp_dropped, counts_unreachable, first_ready, gives_answer, gives_claim, gives_held, gives_own, gives_reply, gives_request, is_resolvable, has_ip, holds_packet, is_answering, is_asked, is_busy, is_request_due, is_sound_arp, keeps_answer, keeps_first, limits, makes_way, mac_known, mac_in, adds_error_if, adds_error, takes_at, takes_error, mac_of, or_then, queues_reply, neighbour_place, put, puts_answer, puts_echo, puts_error, quote_in, quote_for, quote_with, ready_or, replies_to, reports_expired, sends, sends_answer, sends_at, sends_held, neighbour_stays, takes_place, ticks, to_hop, unknown, route_of, route_to, with_place}
use Rattle.flat_ether.specs.Hosts.{makes_place}
use Rattle.flat_ether.specs.Options.{has_options}
use Rattle.flat_ether.specs.Routes.{is_neighbour, route}
use Rattle.flat_ether.specs.declared.answer.Answer.{Answer}
use Rattle.flat_ether.specs.declared.answer.Answer.TheVariants.{Echo, Error, Silence}
use Rattle.flat_ether.specs.declared.arp.Arp.{Arp}
use Rattle.flat_ether.specs.declared.claim.ClaimFrame.{ClaimFrame}
use Rattle.flat_ether.specs.declared.claim.ClaimFrame.TheVariants.{Probe, Announcement, Nothing}
use Rattle.flat_ether.specs.declared.link.Link.{Link}
use Rattle.flat_ether.specs.declared.link.Route.{Route}
use Rattle.flat_ether.specs.declared.link.Route.TheVariants.{All, Hop, NoRoute}
use Rattle.flat_ether.specs.declared.mac.Mac.{Mac}
use Rattle.flat_ether.specs.declared.neighbour.Neighbour.{Neighbour}
use Rattle.flat_ether.specs.declared.neighbour.PendingReply.{PendingReply}
use Rattle.flat_ether.proofs.Replies.{quoted_reply, reply_route}
use Rattle.flat_ether.proofs.Tables.{AreDistinct, distinct_again, distinct_stays, each-drop, each_again, put_distinct, put_each}

each-remove : {X : Type 0} (P : X → Type 0) (xs : List X) (i : ℕ) → Each P xs → Each P (remove xs i)
each-remove P xs i h = each-append P (take i xs) (drop (suc i) xs) (each-take P i xs h) (each-drop P (suc i) xs h)

each-get : {X : Type 0} (P : X → Type 0) (xs : List X) (i : ℕ) (x : X) → Each P xs → slice_get xs i ≡ Some x → P x
each-get P [] i x h e = absurd (none-some x e)
each-get P (y ∷ ys) zero x h e = subst P (same_Some y x e) h.0
each-get P (y ∷ ys) (suc i) x h e = each-get P ys i x h.1 e

each-or : {X : Type 0} (P : X → Type 0) (xs : List X) (i : ℕ) (d : X) → Each P xs → P d → P (get_or xs i d)
each-or P [] i d h e = e
each-or P (x ∷ xs) zero d h e = h.0
each-or P (x ∷ xs) (suc i) d h e = each-or P xs i d h.1 e

get_or_of_get : {X : Type 0} (xs : List X) (i : ℕ) (x : X) → slice_get xs i ≡ Some x → get_or xs i x ≡ x
get_or_of_get [] i x e = refl
get_or_of_get (y ∷ ys) zero x e = same_Some y x e
get_or_of_get (y ∷ ys) (suc i) x e = get_or_of_get ys i x e

-- more packets that were given
module _ (c : Config) (l : Link) (F G G' : List (List ℕ)) where
  pub more_made : (p : List ℕ) → IsMade c F G p → IsMade c F (G ++ G') p
  more_made p (inl h) = inl (Contains-append_left G G' p h)
  more_made p (inr h) = inr h

  pub more_sent : (f : List ℕ) → IsFrameSent c l F G f → IsFrameSent c l F (G ++ G') f
  more_sent f (inl h) = inl h
  more_sent f (inr h) =
      inr (record {
        packet = h.packet;
        mac = h.mac;
        frame_is = h.frame_is;
        made = more_made h.packet h.made;
        route = h.route;
      })

-- one frame more
module _ (c : Config) (F G : List (List ℕ)) (f : List ℕ) where
  pub later_made : (p : List ℕ) → IsMade c F G p → IsMade c (f ∷ F) G p
  later_made p (inl h) = inl h
  later_made p (inr (reply, (g, came, id, is), in')) =
      inr (reply, (g, Contains-append_right (f ∷ []) F g came, id, is), in')

-- what an error quotes of the packet of a frame that arrived
abbrev pub IsQuote : List (List ℕ) → List ℕ → Type 0
IsQuote F quote = (f : List ℕ) × Contains F f × (quote ≡ quote_of (body_of f))

abbrev pub IsFromHost : PendingReply → Type 0
IsFromHost o = is_host_mac o.mac ≡ true

-- a hardware address that was learned is one that a host can have
pub given_host : (c : Config) (l : Link) (ip : ℕ) (F : List (List ℕ)) (mac : Mac) → last_given c l ip F ≡ Some mac
    → is_host_mac mac ≡ true
given_host c l ip [] mac e = absurd (none-some mac e)
given_host c l ip (f ∷ F) mac e = of (given_host c l ip F mac) (arp_if (kind_of c l.mac f) f) e
  where
    sound : (last_given c l ip F ≡ Some mac → is_host_mac mac ≡ true) → (b : List ℕ) (x : Bool) → is_arp_from l ip b ≡ x
        → cond x (Some (arp_of b).mac) (last_given c l ip F) ≡ Some mac → is_host_mac mac ≡ true
    sound before b true is e =
        let whole : is_sound_arp l b ≡ true = (and_parts (is_sound_arp l b) _ is).0 in
        let rest = (and_parts (is_arp b) _ whole).1 in
        subst (λ (m : Mac). is_host_mac m ≡ true) (same_Some (arp_of b).mac mac e)
        (and_parts (not (same_mac (arp_of b).mac l.mac)) _ rest).1
    sound before b false is e = before e

    of : (last_given c l ip F ≡ Some mac → is_host_mac mac ≡ true) → (o : Option (List ℕ))
        → given_in l ip o (last_given c l ip F) ≡ Some mac → is_host_mac mac ≡ true
    of before None e = before e
    of before (Some b) e = sound before b (is_arp_from l ip b) refl e

module _ (c : Config) (l : Link) (F G : List (List ℕ)) where
  pub record IsKnown (n : Neighbour) : Type 0 where
    pub learned : (mac : Mac) → n.mac ≡ Some mac → last_given c l n.ip F ≡ Some mac
    pub near : (mac : Mac) → n.mac ≡ Some mac → is_neighbour c l n.ip ≡ true

  -- what the machine gave
  pub record IsWaiting (h : WaitingPacket) : Type 0 where
    pub made : Contains G h.packet
    pub route : route_to c l h.packet ≡ Hop h.hop

  pub record IsAnswer (hop : ℕ) (p : List ℕ) : Type 0 where
    pub made : IsMade c F G p
    pub route : route_to c l p ≡ Hop hop

  pub record Parts (own : Config) (link : Link) (ns : List Neighbour) (rs : List PendingReply) (hs : List WaitingPacket)
      (hop : ℕ) (answer firsts : List (List ℕ)) : Type 0 where
    pub config : own ≡ c
    pub link_is : link ≡ l
    pub neighbours : Each IsKnown ns
    pub distinct : AreDistinct ns
    pub replies : Each IsFromHost rs
    pub held : Each IsWaiting hs
    pub answered : Each (IsAnswer hop) answer
    pub quotes : Each (IsQuote F) firsts

  -- by parts, so that a change of anything else needs no proof
  abbrev pub IsGood : LinkState → Type 0
  IsGood s = Parts s.config s.link s.neighbours s.replies s.held s.answer_hop s.answer s.firsts

  with_parts : {own : Config} {link : Link} {ns ns' : List Neighbour} {rs rs' : List PendingReply}
      {hs hs' : List WaitingPacket} {hop hop' : ℕ} {answer answer' firsts : List (List ℕ)}
      → Parts own link ns rs hs hop answer firsts → Each IsKnown ns' → AreDistinct ns' → Each IsFromHost rs'
      → Each IsWaiting hs' → Each (IsAnswer hop') answer' → Parts own link ns' rs' hs' hop' answer' firsts
  with_parts good neighbours distinct replies held answered = record {
    config = good.config;
    link_is = good.link_is;
    neighbours = neighbours;
    distinct = distinct;
    replies = replies;
    held = held;
    answered = answered;
    quotes = good.quotes;
  }

  pub record IsGiven (g : Gives) : Type 0 where
    pub good : IsGood g.1
    pub sent : (f : List ℕ) → g.0 ≡ Some f → IsFrameSent c l F G f

  nothing : (s : LinkState) → IsGood s → IsGiven (None, s)
  nothing s good = record { good = good; sent = λ f e. absurd (none-some f e) }

  by_test : (P : LinkState → Type 0) (b : Bool) (s t : LinkState) → P s → P t → P (cond b s t)
  by_test P true s t first second = first
  by_test P false s t first second = second

  -- ---- the table

  put_good : (n : Neighbour) (ns : List Neighbour) → IsKnown n → AreDistinct ns → Each IsKnown ns
      → Each IsKnown (put n ns)
  put_good n ns is d h = put_each IsKnown n ns is d (each-weaker (λ m known other. known) ns h)

  known_mac : (hop : ℕ) (mac : Mac) (ns : List Neighbour) → Each IsKnown ns → mac_of hop ns ≡ Some mac
      → last_given c l hop F ≡ Some mac
  known_mac hop mac ns h e = go (neighbour_place hop ns) refl e
    where
      there : (at : ℕ) (o : Option Neighbour) → neighbour_place hop ns ≡ Some at → slice_get ns at ≡ o
          → mac_in o ≡ Some mac
          → last_given c l hop F ≡ Some mac
      there at None p g is = absurd (none-some mac is)
      there at (Some n) p g is =
          let passes : has_ip hop n ≡ true =
          subst (λ (x : Neighbour). has_ip hop x ≡ true) (get_or_of_get ns at n g)
          (position-Some (has_ip hop) ns at n p).1 in
          let known : IsKnown n = each-get IsKnown ns at n h g in
          subst (λ ip. last_given c l ip F ≡ Some mac) (eqb-true n.ip hop passes) (known.learned mac is)

      go : (at : Option ℕ) → neighbour_place hop ns ≡ at → mac_known at ns ≡ Some mac → last_given c l hop F ≡ Some mac
      go None p is = absurd (none-some mac is)
      go (Some at) p is = there at (slice_get ns at) p refl is

  -- ---- packets that go

  route_is : (s : LinkState) (packet : List ℕ) (w : Route) → IsGood s → route_of s packet ≡ w → route_to c l packet ≡ w
  route_is s packet w good e =
      ap (λ (x : Config). route_to x l packet) (sym good.config)
      ∙ ap (λ (x : Link). route_to s.config x packet) (sym good.link_is) ∙ e

  carried : (s : LinkState) (packet : List ℕ) (mac : Mac) → IsGood s → IsMade c F G packet → IsRoute c l F packet mac
      → (f : List ℕ)
      → Some (frame mac s.link.mac 0x0800 packet) ≡ Some f → IsFrameSent c l F G f
  carried s packet mac good made route f e = inr (record {
    packet = packet;
    mac = mac;
    frame_is = sym (same_Some _ f e) ∙ ap (λ (x : Link). frame mac x.mac 0x0800 packet) good.link_is;
    made = made;
    route = route;
  })

  free_good : (s : LinkState) → IsGood s → IsGood (with_place s)
  free_good s good =
      by_test IsGood (nat_lt (length s.held) 8) s (drops_first s) good
      (with_parts good good.neighbours good.distinct good.replies (each-drop IsWaiting 1 s.held good.held)
      good.answered)

  pub place_good : (came : List ℕ) (s : LinkState) → IsGood s → IsGood (makes_place came s)
  place_good came s good = by_test IsGood (has_options came) (with_place s) s (free_good s good) good

  holds_good : (hop : ℕ) (packet : List ℕ) (s : LinkState) → IsGood s
      → IsWaiting (record { hop = hop; packet = packet }) → IsGood (holds_packet hop packet s)
  holds_good hop packet s good is =
      by_test IsGood (nat_lt 1500 (length packet)) (counts_too_long s)
      (takes_place hop packet (with_place s)) good (takes (with_place s) (free_good s good))
    where
      takes : (t : LinkState) → IsGood t → IsGood (takes_place hop packet t)
      takes t g =
          with_parts g g.neighbours g.distinct g.replies
          (each-append IsWaiting t.held (record { hop = hop; packet = packet } ∷ []) g.held (is, tt)) g.answered

  no_mac_known : (ip : ℕ) → IsKnown (unknown ip)
  no_mac_known ip = record { learned = λ mac e. absurd (none-some mac e); near = λ mac e. absurd (none-some mac e) }

  asks_good : (hop : ℕ) (s : LinkState) → IsGood s → IsGood (asks hop s)
  asks_good hop s good =
      by_test IsGood (is_some (neighbour_place hop s.neighbours)) s
      (record s { neighbours = put (unknown hop) s.neighbours })
      good
      (with_parts good (put_good (unknown hop) s.neighbours (no_mac_known hop) good.distinct good.neighbours)
      (put_distinct (unknown hop) s.neighbours good.distinct) good.replies good.held good.answered)

  pub sends_given : (packet : List ℕ) (s : LinkState) → IsGood s → Contains G packet → IsGiven (sends packet s)
  sends_given packet s good made = by (route_of s packet) refl
    where
      to : (hop : ℕ) (mac : Option Mac) → route_of s packet ≡ Hop hop → mac_of hop s.neighbours ≡ mac
          → IsGiven (to_hop hop packet s mac)
      to hop None w e =
          nothing (asks hop (holds_packet hop packet s)) (asks_good hop (holds_packet hop packet s)
          (holds_good hop packet s good (record { made = made; route = route_is s packet (Hop hop) good w })))
      to hop (Some mac) w e = record {
        good = good;
        sent =
            carried s packet mac good (inl made)
            (inr (hop, route_is s packet (Hop hop) good w, known_mac hop mac s.neighbours good.neighbours e));
      }

      by : (w : Route) → route_of s packet ≡ w → IsGiven (by_route packet s w)
      by All e =
          record {
            good = good;
            sent = carried s packet ether_broadcast good (inl made)
                (inl (route_is s packet All good e, refl));
          }
      by (Hop hop) e = to hop (mac_of hop s.neighbours) e refl
      by NoRoute e = record { good = good; sent = λ f e. absurd (none-some f e) }

  -- ---- the link's own frames

  arp_sent : (s : LinkState) (op sender : ℕ) (to target_mac : Mac) (target : ℕ) → IsGood s
      → (sender ≡ s.config.addr) ⊎ (sender ≡ 0) → (to ≡ ether_broadcast) ⊎ (is_host_mac to ≡ true) → (f : List ℕ)
      → Some (frame to s.link.mac 0x0806 (arp_bytes op s.link.mac sender target_mac target)) ≡ Some f
      → IsFrameSent c l F G f
  arp_sent s op sender to target_mac target good from goes f e = inl (record {
    op = op;
    sender = sender;
    sender_is = go from;
    to = to;
    to_is = goes;
    target_mac = target_mac;
    target = target;
    frame_is =
        sym (same_Some _ f e) ∙ ap (λ (x : Link). frame to x.mac 0x0806 (arp_bytes op x.mac sender target_mac target))
        good.link_is;
  })
    where
      go : (sender ≡ s.config.addr) ⊎ (sender ≡ 0) → (sender ≡ c.addr) ⊎ (sender ≡ 0)
      go (inl is) = inl (is ∙ ap (λ (x : Config). x.addr) good.config)
      go (inr is) = inr is

  pub claim_given : (s : LinkState) → IsGood s → IsGiven (gives_claim s)
  claim_given s good = go (claim_due s.claim)
    where
      go : (due : ClaimFrame) → IsGiven (claim_frame due s)
      go Nothing = nothing s good
      go Probe =
          record {
            good = good;
            sent = arp_sent s 1 0 ether_broadcast no_mac s.config.addr good (inr refl) (inl refl);
          }
      go Announcement =
          record {
            good = good;
            sent = arp_sent s 1 s.config.addr ether_broadcast no_mac s.config.addr good (inl refl) (inl refl);
          }

  reply_given : (s : LinkState) → IsGood s → IsGiven (gives_reply s)
  reply_given s good = go s.replies good.replies
    where
      go : (replies : List PendingReply) → Each IsFromHost replies → IsGiven (replies_to replies s)
      go [] h = nothing s good
      go (o ∷ later) h = record {
        good = with_parts good good.neighbours good.distinct h.1 good.held good.answered;
        sent = arp_sent s 2 s.config.addr o.mac o.mac o.ip good (inl refl) (inr h.0);
      }

  -- a request goes to all, or to a host's address
  asked_host : (n : Neighbour) → IsKnown n → (m : Option Mac) → n.mac ≡ m
      → (asked_at m ≡ ether_broadcast) ⊎ (is_host_mac (asked_at m) ≡ true)
  asked_host n known None e = inl refl
  asked_host n known (Some mac) e = inr (given_host c l n.ip F mac (known.learned mac e))

  request_given : (s : LinkState) → IsGood s → IsGiven (gives_request s)
  request_given s good = go (position is_request_due s.neighbours)
    where
      go : (at : Option ℕ) → IsGiven (asks_at at s)
      go None = nothing s good
      go (Some at) =
          let n : Neighbour = get_or s.neighbours at (unknown 0) in
          record {
            good =
                with_parts good
                (each_again IsKnown (λ m is. record { learned = is.learned; near = is.near }) s.neighbours at (unknown 0)
                good.neighbours) (distinct_again s.neighbours at (unknown 0) good.distinct) good.replies good.held
                good.answered;
            sent =
                arp_sent s 1 s.config.addr (asked_at n.mac) no_mac n.ip good (inl refl)
                (asked_host n (each-or IsKnown s.neighbours at (unknown 0) good.neighbours (no_mac_known 0)) n.mac
                refl);
          }

  -- the packet that is found waits for a next hop, whose hardware address came in a frame
  record IsFound (hs : List WaitingPacket) (found : ℕ × Mac) : Type 0 where
    h : WaitingPacket
    at : slice_get hs found.0 ≡ Some h
    learned : last_given c l h.hop F ≡ Some found.1

  found_ready : (ns : List Neighbour) (hs : List WaitingPacket) (found : ℕ × Mac) → Each IsKnown ns
      → first_ready ns hs ≡ Some found → IsFound hs found
  found_ready ns [] found known e = absurd (none-some found e)
  found_ready ns (h ∷ hs) found known e =
      go (λ next f. found_ready ns hs next known f) (mac_of h.hop ns) (first_ready ns hs) refl refl e
    where
      go : ((next : ℕ × Mac) → first_ready ns hs ≡ Some next → IsFound hs next)
          → (o : Option Mac) (later : Option (ℕ × Mac)) → mac_of h.hop ns ≡ o → first_ready ns hs ≡ later
          → ready_or o later ≡ Some found → IsFound (h ∷ hs) found
      go rest (Some mac) later m f is =
          let same : (0, mac) ≡ found = same_Some (0, mac) found is in
          subst (IsFound (h ∷ hs)) same (record { h = h; at = refl; learned = known_mac h.hop mac ns known m })
      go rest None None m f is = absurd (none-some found is)
      go rest None (Some next) m f is =
          let n = rest next f in
          let same : (next.0 + 1, next.1) ≡ found = same_Some (next.0 + 1, next.1) found is in
          subst (IsFound (h ∷ hs)) same (record
          { h = n.h; at = ap (slice_get (h ∷ hs)) (add-one next.0) ∙ n.at; learned = n.learned })

  held_given : (s : LinkState) → IsGood s → IsGiven (gives_held s)
  held_given s good = go (first_ready s.neighbours s.held) refl
    where
      of : (at : ℕ) (mac : Mac) (h h' : Option WaitingPacket) → slice_get s.held at ≡ h → IsFound s.held (at, mac)
          → IsGiven (sends_held at mac h s)
      of at mac None h' e is = nothing s good
      of at mac (Some h) h' e is =
          let same : is.h ≡ h = same_Some is.h h (sym is.at ∙ e) in
          let waits : IsWaiting h = each-get IsWaiting s.held at h good.held e in
          record {
            good = with_parts good good.neighbours good.distinct good.replies (each-remove IsWaiting s.held at good.held)
                good.answered;
            sent =
                carried s h.packet mac good (inl waits.made)
                (inr (
                  h.hop,
                  waits.route,
                  subst (λ (x : WaitingPacket). last_given c l x.hop F ≡ Some mac) same
                      is.learned,
                ));
          }

      go : (found : Option (ℕ × Mac)) → first_ready s.neighbours s.held ≡ found → IsGiven (sends_at found s)
      go None e = nothing s good
      go (Some found) e =
          of found.0 found.1 (slice_get s.held found.0) None refl
          (found_ready s.neighbours s.held found good.neighbours e)

  answer_given : (s : LinkState) → IsGood s → IsGiven (gives_answer s)
  answer_given s good = go (slice_get s.answer 0) (mac_of s.answer_hop s.neighbours) refl refl
    where
      go : (answer : Option (List ℕ)) (mac : Option Mac) → slice_get s.answer 0 ≡ answer
          → mac_of s.answer_hop s.neighbours ≡ mac → IsGiven (sends_answer answer mac s)
      go None mac e m = nothing s good
      go (Some packet) None e m = nothing s good
      go (Some packet) (Some mac) e m =
          let is : IsAnswer s.answer_hop packet =
          each-get (IsAnswer s.answer_hop) s.answer 0 packet good.answered e in
          record {
            good = with_parts good good.neighbours good.distinct good.replies good.held
                (each-drop (IsAnswer s.answer_hop) 1 s.answer good.answered);
            sent =
                carried s packet mac good is.made
                (inr (s.answer_hop, is.route, known_mac s.answer_hop mac s.neighbours good.neighbours m));
          }

  or_given : (g : Gives) (next : LinkState → Gives) → IsGiven g → ((s : LinkState) → IsGood s → IsGiven (next s))
      → IsGiven (or_then g next)
  or_given g next first second = go (is_some g.0)
    where
      go : (b : Bool) → IsGiven (cond b g (next g.1))
      go true = first
      go false = second g.1 first.good

  pub own_given : (s : LinkState) → IsGood s → IsGiven (gives_own s)
  own_given s good =
      let first : Gives = or_then (gives_claim s) gives_reply in
      let second : Gives = or_then first gives_request in
      let third : Gives = or_then second gives_held in
      or_given third gives_answer (or_given second gives_held
      (or_given first gives_request (or_given (gives_claim s) gives_reply (claim_given s good) reply_given)
      request_given) held_given) answer_given

  -- ---- frames that arrive, and the clock

  pub owes_good : (a : Arp) (s : LinkState) → is_host_mac a.mac ≡ true → IsGood s → IsGood (queues_reply a s)
  owes_good a s host good = go (is_asked s a)
    where
      inner : (b : Bool) → IsGood (cond b (record s { replies = s.replies ++ record { mac = a.mac; ip = a.ip } ∷ [] })
          (record s { tallies = record s.tallies { replies_dropped = more_by 1 s.tallies.replies_dropped } }))
      inner true =
          with_parts good good.neighbours good.distinct
          (each-append IsFromHost s.replies (record { mac = a.mac; ip = a.ip } ∷ []) good.replies (host, tt)) good.held
          good.answered
      inner false = good

      go : (b : Bool) → IsGood (cond b
          (cond (nat_lt (length s.replies) 8)
          (record s { replies = s.replies ++ record { mac = a.mac; ip = a.ip } ∷ [] })
          (record s { tallies = record s.tallies { replies_dropped = more_by 1 s.tallies.replies_dropped } })) s)
      go true = inner (nat_lt (length s.replies) 8)
      go false = good

  adds_error_good : (e : Option SocketError) (s : LinkState) → IsGood s → IsGood (adds_error e s)
  adds_error_good None s good = good
  adds_error_good (Some e) s good = good

  pub adds_error_if_good : (b : Bool) (came : List ℕ) (s : LinkState) → IsGood s → IsGood (adds_error_if b came s)
  adds_error_if_good true came s good = adds_error_good (error_in s.config came) s good
  adds_error_if_good false came s good = good

  takes_at_good : (at : Option ℕ) (s : LinkState) → IsGood s → IsGood (takes_at at s).1
  takes_at_good None s good = good
  takes_at_good (Some at) s good = good

  pub takes_good : (port : Option ℕ) (peer : Option Addr) (s : LinkState) → IsGood s
      → IsGood (takes_error port peer s).1
  takes_good None peer s good = good
  takes_good (Some port) None s good = good
  takes_good (Some port) (Some peer) s good = takes_at_good (error_at port peer s.errors) s good

  kept_good : (s : LinkState) → IsGood s → IsGood (keeps_answer (ages s))
  kept_good s good =
      by_test IsGood (is_answering (ages s) && not (is_some (neighbour_place s.answer_hop (ages s).neighbours)))
      (counts_icmp_dropped (record (ages s) { answer = [] })) (ages s)
      (with_parts aged aged.neighbours aged.distinct aged.replies aged.held tt) aged
    where
      aged : IsGood (ages s)
      aged =
          with_parts good
          (each-filter IsKnown neighbour_stays (map neighbour_aged s.neighbours)
          (each-map IsKnown neighbour_aged (λ n is. record { learned = is.learned; near = is.near }) s.neighbours
          good.neighbours))
          (distinct_stays s.neighbours good.distinct) good.replies
          (each-filter IsWaiting (is_resolvable (filter neighbour_stays (map neighbour_aged s.neighbours))) s.held
          good.held)
          good.answered

  -- ---- a reply is put in its place

  way_good : (s : LinkState) → IsGood s → IsGood (makes_way s)
  way_good s good = by_test IsGood (is_answering s) (counts_icmp_dropped s) s good good

  puts_good : (hop : ℕ) (packets : List (List ℕ)) (s : LinkState) → IsGood s → Each (IsAnswer hop) packets
      → IsGood (puts_answer hop packets s)
  puts_good hop packets s good is =
      asks_good hop (record s { answer = packets; answer_hop = hop; answer_id = (s.answer_id + 1) % 65536 })
      (with_parts good good.neighbours good.distinct good.replies good.held is)

  -- a reply to this packet is one to the packet of a frame that arrived
  abbrev pub CanReply : Answer → List ℕ → Type 0
  CanReply Silence came = Unit {0}
  CanReply Echo came = (id : ℕ) → IsReply c F (echo_reply c id came)
  CanReply (Error kind code) came = (id : ℕ) → IsReply c F (error_reply c id kind code came)

  answered : (hop id : ℕ) (came body : List ℕ) → IsReply c F (reflected c id came body)
      → route c l (head_of came).source ≡ Hop hop → Each (IsAnswer hop) (reflected c id came body)
  answered hop id came body is e =
      let reply : List (List ℕ) = reflected c id came body in
      each-both (λ p in' to. record { made = inr (reply, is, in'); route = to }) reply
      (recursion_from_All _ reply (All-contains_itself reply)) (reply_route c l id came body hop e)

  echo_good : (hop : ℕ) (came : List ℕ) (s : LinkState) → IsGood s → CanReply Echo came
      → route c l (head_of came).source ≡ Hop hop → IsGood (puts_echo hop came s)
  echo_good hop came s good can e =
      puts_good hop (echo_reply s.config s.answer_id came) s good
      (subst (λ (x : Config). Each (IsAnswer hop) (echo_reply x s.answer_id came)) (sym good.config)
      (answered hop s.answer_id came (echo_message came) (can s.answer_id) e))

  error_good : (hop kind code : ℕ) (came : List ℕ) (s : LinkState) → IsGood s → CanReply (Error kind code) came
      → route c l (head_of came).source ≡ Hop hop → IsGood (puts_error hop kind code came s)
  error_good hop kind code came s good can e =
      by_test IsGood (kind == 11) (counts_expired put) (counts_unreachable put) put_is put_is
    where
      put : LinkState
      put =
          puts_answer hop (error_reply s.config s.answer_id kind code came)
          (record s { errors_left = s.errors_left - 1 })

      put_is : IsGood put
      put_is =
          puts_good hop (error_reply s.config s.answer_id kind code came)
          (record s { errors_left = s.errors_left - 1 }) good
          (subst (λ (x : Config). Each (IsAnswer hop) (error_reply x s.answer_id kind code came)) (sym good.config)
          (answered hop s.answer_id came (error_message kind code came) (can s.answer_id) e))

  by_good : (hop : ℕ) (came : List ℕ) (a : Answer) (s : LinkState) → IsGood s → CanReply a came
      → route c l (head_of came).source ≡ Hop hop → IsGood (answers_by hop a came s)
  by_good hop came Silence s good can e = good
  by_good hop came Echo s good can e = echo_good hop came (makes_way s) (way_good s good) can e
  by_good hop came (Error kind code) s good can e =
      by_test IsGood (nat_lt 0 s.errors_left) (puts_error hop kind code came (makes_way s)) (limits s)
      (error_good hop kind code came (makes_way s) (way_good s good) can e) good

  now_good : (came : List ℕ) (a : Answer) (s : LinkState) → IsGood s → CanReply a came
      → IsGood (answers_now a came s)
  now_good came a s good can =
      by_test IsGood (is_busy s) (counts_icmp_dropped s) (answers_on way a came s) good (on way refl)
    where
      way : Route
      way = route s.config s.link (head_of came).source

      on : (r : Route) → way ≡ r → IsGood (answers_on r a came s)
      on All e = good
      on (Hop hop) e =
          by_good hop came a s good can
          (ap (λ (x : Config). route x l (head_of came).source) (sym good.config)
          ∙ ap (λ (x : Link). route s.config x (head_of came).source) (sym good.link_is) ∙ e)
      on NoRoute e = good

  answers_good : (came : List ℕ) (a : Answer) (s : LinkState) → IsGood s → CanReply a came
      → IsGood (answers_with a came s)
  answers_good came Silence s good can = good
  answers_good came Echo s good can = now_good came Echo s good can
  answers_good came (Error kind code) s good can = now_good came (Error kind code) s good can

  -- ---- what became of the packet of a frame

  can_cond : (b : Bool) (x y : Answer) (came : List ℕ) → CanReply x came → CanReply y came → CanReply (cond b x y) came
  can_cond true x y came first second = first
  can_cond false x y came first second = second

  -- an error is one about the packet, if an error of any type and code is
  can_error : (came : List ℕ) (why : Why) → ((kind code : ℕ) → CanReply (Error kind code) came)
      → CanReply (error_for came why) came
  can_error came UdpNoPort can = can 3 3
  can_error came NoProtocol can =
      can_cond (slice_index came 9 == 1) Silence (Error 3 2) came tt (can 3 2)
  can_error came _ can = tt

  dropped_good : (f : List ℕ) (why : Why) (s : LinkState) → IsGood s → Contains F f
      → IsGood (answers_dropped (body_of f) why s)
  dropped_good f why s good came =
      adds_error_if_good (is_no_protocol why) (body_of f) (answers_with (answer_to s.config (body_of f) why) (body_of f) s)
      (answers_good (body_of f) (answer_to s.config (body_of f) why) s good
      (can_cond (is_answerable s.config (body_of f))
      (cond (is_ping (body_of f) why) Echo (error_for (body_of f) why)) Silence (body_of f)
      (can_cond (is_ping (body_of f) why) Echo (error_for (body_of f) why) (body_of f)
      (λ id. (f, came, id, inl refl))
      (can_error (body_of f) why (λ kind code id. (f, came, id, inr (kind, code, refl))))) tt))

  first_good : (f : List ℕ) (s : LinkState) → IsGood s → Contains F f → IsGood (keeps_first (body_of f) s)
  first_good f s good came =
      by_test IsGood (is_first s.config (body_of f))
      (record s { firsts = take 2 (quote_of (body_of f) ∷ s.firsts) }) s
      (record {
        config = good.config;
        link_is = good.link_is;
        neighbours = good.neighbours;
        distinct = good.distinct;
        replies = good.replies;
        held = good.held;
        answered = good.answered;
        quotes = each-take (IsQuote F) 2 (quote_of (body_of f) ∷ s.firsts) ((f, came, refl), good.quotes);
      }) good

  -- an error that quotes a packet is one about it
  quote_can : (q : List ℕ) → IsQuote F q → (kind code : ℕ) → CanReply (Error kind code) q
  quote_can q (f, came, e) kind code id = (
    f,
    came,
    id,
    inr (kind, code, ap (error_reply c id kind code) e ∙ quoted_reply c id kind code (body_of f)),
  )

  quote_good : (quote : Option (List ℕ)) (why : Why) (s : LinkState) → IsGood s
      → ((q : List ℕ) → quote ≡ Some q → IsQuote F q) → IsGood (answers_first quote why s)
  quote_good None why s good is = good
  quote_good (Some q) why s good is =
      answers_good q (error_for q why) s good (can_error q why (quote_can q (is q refl)))

  at_quote : (at : Option ℕ) (firsts : List (List ℕ)) (q : List ℕ) → Each (IsQuote F) firsts
      → quote_in at firsts ≡ Some q → IsQuote F q
  at_quote None firsts q is e = absurd (none-some q e)
  at_quote (Some at) firsts q is e = each-get (IsQuote F) firsts at q is e

  quote_is : (f : List ℕ) (s : LinkState) (q : List ℕ) → IsGood s → Contains F f → quote_for (body_of f) s ≡ Some q
      → IsQuote F q
  quote_is f s q good came = go (is_first s.config (body_of f)) (nat_lt (length (body_of f)) 20)
    where
      k : Key
      k = key_of (head_of (body_of f))

      go : (b short : Bool)
          → cond b (Some (quote_of (body_of f))) (cond short None (quote_with k s.firsts)) ≡ Some q → IsQuote F q
      go true short e = (f, came, sym (same_Some (quote_of (body_of f)) q e))
      go false true e = absurd (none-some q e)
      go false false e = at_quote (position (is_quote_of k) s.firsts) s.firsts q good.quotes e

  pub fate_good : (f : List ℕ) (fate : Fate) (s : LinkState) → IsGood s → Contains F f
      → IsGood (answers_fate (body_of f) fate s)
  fate_good f (Delivered reached) s good came = good
  fate_good f Kept s good came = first_good f s good came
  fate_good f (Completed (Ok reached)) s good came = good
  fate_good f (Completed (Err why)) s good came =
      quote_good (quote_for (body_of f) s) why s good (λ q e. quote_is f s q good came e)
  fate_good f (Dropped why) s good came = dropped_good f why s good came

  -- ---- a tick

  expired_good : (quote : Option (List ℕ)) (s : LinkState) → IsGood s
      → ((q : List ℕ) → quote ≡ Some q → IsQuote F q) → IsGood (answers_expired quote s)
  expired_good None s good is = good
  expired_good (Some q) s good is =
      answers_good q (expired_error q) s good
      (can_cond ((slice_index q 9 == 1) && not (slice_index q 20 == 8)) Silence (Error 11 1) q tt
      (quote_can q (is q refl) 11 1))

  all_expired_good : (ks : List Key) (s : LinkState) → IsGood s → IsGood (reports_expired ks s)
  all_expired_good [] s good = good
  all_expired_good (k ∷ ks) s good =
      all_expired_good ks (answers_expired (quote_with k s.firsts) s)
      (expired_good (quote_with k s.firsts) s good
      (λ q e. at_quote (position (is_quote_of k) s.firsts) s.firsts q good.quotes e))

  pub ticks_good : (ks : List Key) (s : LinkState) → IsGood s → IsGood (ticks ks s)
  ticks_good ks s good = all_expired_good ks (keeps_answer (ages s)) (kept_good s good)

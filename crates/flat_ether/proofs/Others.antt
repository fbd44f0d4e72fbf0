-- Any number of hosts on one Ethernet: none of them sends UDP in another's name.
use Rattle.std.proofs.Common.{◌≡◌, ◌≢◌, ◌⊎◌, inl, inr, ℕ, ◌/◌, ◌^◌, Bool, true, false, List, [], ◌∷◌, ◌++◌, Option, Some, None, refl, sym, ap, ◌∙◌}
use Rattle.std.specs.Prelude.{◌==◌, ◌||◌, filter_map, if◌then◌else◌}
use Rattle.std.specs.List.{AllByRecursion as Each, cons_option}
use Rattle.std.proofs.lemmas.Bool.{eqb-true, or_cases}
use Rattle.std.proofs.lemmas.List.Elements.{All-contains, All-from_recursion, recursion_from_All}
use Rattle.flat_model.specs.Machine.State.{IsConfig, boot, loopback}
use Rattle.flat_model.specs.Packets.Header.{u16_at}
use Rattle.flat_model.specs.declared.config.Config.{Config}
use Rattle.flat_model.proofs.Laws.{each-append, each-weaker}
use Rattle.flat_wire.specs.Wire.{ComesFrom, ip_source, packet_in, packet_out}
use Rattle.flat_ether.specs.Frames.{body_of, is_addressed, kind_of, packet_kind}
use Rattle.flat_ether.specs.Hosts.{HostAct, AreHostActs, Asks_error, Calls, Clock, Comes_in, Goes_out, Host, host_up}
use Rattle.flat_ether.specs.Laws.{AreAmongHosts, AreOnEthernet, IsFrameSent, IsInFrames, IsUnforged, IsOwn, IsUdpFrame, MakesTurns, frames_in, frames_out, packet_if, packets_handed, packets_to}
use Rattle.flat_ether.specs.declared.link.Link.{Link}
use Rattle.flat_ether.specs.declared.link.FrameKind.{FrameKind}
use Rattle.flat_ether.specs.declared.link.FrameKind.TheVariants.{Packet, Martian, Arp, Other}
use Rattle.flat_ether.specs.declared.mac.Mac.{Mac}
use Rattle.flat_ether.specs.declared.sizes.TheConstants.{ETHER_TYPE_ARP, ETHER_TYPE_IP}
use Rattle.flat_ether.specs.Options.{plain}
use Rattle.flat_ether.proofs.Plain.{plain_from, plain_same}
use Rattle.flat_ether.proofs.Runs.{makes_turns}
use Rattle.flat_ether.proofs.Sources.{IsOwnPlain, boot_sourced, given_own, given_plain}
use Rattle.flat_ether.proofs.Two.{sent_udp, went_so}

-- ---- a host sends in no other's name

own_frame : (c : Config) (l : Link) (given : List (List ℕ)) → Each (IsOwn c) given → (f : List ℕ)
    → ((F : List (List ℕ)) × IsFrameSent c l F given f) → IsUdpFrame f → IsOwn c (body_of f)
own_frame c l given own f sent udp =
    All-contains (IsOwn c) given (body_of f) (All-from_recursion (IsOwn c) given own)
    (sent_udp c l sent.0 given f (body_of f) sent.1 udp.0 refl udp.1)

pub own_frames : (c : Config) (l : Link) (acts : List HostAct) (new : Host) → IsConfig c
    → AreHostActs (host_up c l) acts new → Each (λ f. IsUdpFrame f → IsOwn c (body_of f)) (frames_out acts)
own_frames c l acts new is done =
    let made : MakesTurns c l acts new = makes_turns c l acts new done in
    let given : List (List ℕ) = filter_map packet_out made.turns in
    each-weaker
    (own_frame c l given (given_own c (boot c) new.machine made.turns (boot_sourced c is) made.leads))
    (frames_out acts) (went_so c l given [] acts made.went)

-- a UDP packet that a host sent has a header of five words
plain_frames : (c : Config) (l : Link) (acts : List HostAct) (new : Host) → IsConfig c
    → AreHostActs (host_up c l) acts new → Each (λ f. IsUdpFrame f → plain (body_of f) ≡ body_of f) (frames_out acts)
plain_frames c l acts new is done =
    let made : MakesTurns c l acts new = makes_turns c l acts new done in
    let given : List (List ℕ) = filter_map packet_out made.turns in
    let own : Each (IsOwnPlain c) given =
    given_plain c (boot c) new.machine made.turns (boot_sourced c is) made.leads in
    each-weaker
    (λ f sent udp. plain_same (body_of f) (All-contains (IsOwnPlain c) given (body_of f)
    (All-from_recursion (IsOwnPlain c) given own) (sent_udp c l sent.0 given f (body_of f) sent.1 udp.0 refl udp.1)).1)
    (frames_out acts) (went_so c l given [] acts made.went)

-- a packet of another host doesn't come from this one
not_own : (c o : Config) (packet : List ℕ) → IsConfig c → c.addr ≢ o.addr → c.addr ≢ o.bcast → IsOwn o packet
    → ¬ ComesFrom c.addr packet
not_own c o packet is not_addr not_bcast own from =
    go (or_cases ((ip_source packet == o.addr) || (ip_source packet == o.bcast)) (ip_source packet == loopback) own)
  where
    not_loopback : c.addr ≢ loopback
    not_loopback e = is.addr.no_loopback (ap (λ n. n / 2 ^ 24) e)

    first : ((ip_source packet == o.addr) ≡ true) ⊎ ((ip_source packet == o.bcast) ≡ true) → ⊥
    first (inl e) = not_addr (sym from.source ∙ eqb-true (ip_source packet) o.addr e)
    first (inr e) = not_bcast (sym from.source ∙ eqb-true (ip_source packet) o.bcast e)

    go : (((ip_source packet == o.addr) || (ip_source packet == o.bcast)) ≡ true)
        ⊎ ((ip_source packet == loopback) ≡ true) → ⊥
    go (inl e) = first (or_cases (ip_source packet == o.addr) (ip_source packet == o.bcast) e)
    go (inr e) = not_loopback (sym from.source ∙ eqb-true (ip_source packet) loopback e)

-- ---- packets that arrive at a host

no_arp : Arp ≡ Packet → ⊥
no_arp e = cc

no_other : Other ≡ Packet → ⊥
no_other e = cc

is_ip : (received ip arp : Bool) (kind : FrameKind)
    → (if received then (if ip then kind else if arp then Arp else Other) else Other) ≡ Packet → ip ≡ true
is_ip true true arp kind e = refl
is_ip true false true kind e = absurd (no_arp e)
is_ip true false false kind e = absurd (no_other e)
is_ip false ip arp kind e = absurd (no_other e)

type_of : (d : Config) (mac : Mac) (f : List ℕ) → kind_of d mac f ≡ Packet → u16_at 12 f ≡ ETHER_TYPE_IP
type_of d mac f e =
    eqb-true (u16_at 12 f) ETHER_TYPE_IP
    (is_ip (is_addressed mac f) (u16_at 12 f == ETHER_TYPE_IP) (u16_at 12 f == ETHER_TYPE_ARP)
    (packet_kind d (body_of f)) e)

module _ (c d : Config) (l : Link) (s : Host) (mac : Mac) (sent : List HostAct) (is : IsConfig c)
    (done : AreHostActs (host_up c l) sent s) where
  abbrev Carried : List ℕ → Type 0
  Carried packet = ComesFrom c.addr packet → IsInFrames (frames_out sent) packet

  carried : (f : List ℕ) → IsUnforged c.addr sent f → u16_at 12 f ≡ ETHER_TYPE_IP → Carried (plain (body_of f))
  carried f (inl here) type from =
      let whole : ComesFrom c.addr (body_of f) = plain_from c.addr (body_of f) from in (
        f,
        here,
        type,
        sym (All-contains (λ g. IsUdpFrame g → plain (body_of g) ≡ body_of g) (frames_out sent) f
            (All-from_recursion (λ g. IsUdpFrame g → plain (body_of g) ≡ body_of g) (frames_out sent)
            (plain_frames c l sent s is done)) here (type, whole.udp)),
      )
  carried f (inr (inl (o, other, gave))) type from =
      let own : IsOwn o.config (body_of f) =
      All-contains (λ g. IsUdpFrame g → IsOwn o.config (body_of g)) (frames_out o.acts) f
      (All-from_recursion (λ g. IsUdpFrame g → IsOwn o.config (body_of g)) (frames_out o.acts)
      (own_frames o.config o.link o.acts o.last other.boots other.done)) gave
      (type, (plain_from c.addr (body_of f) from).udp) in
      absurd (not_own c o.config (body_of f) is other.not_addr other.not_bcast own
      (plain_from c.addr (body_of f) from))
  carried f (inr (inr free)) type from = absurd (free (plain_from c.addr (body_of f) from))

  of_kind : (f : List ℕ) → IsUnforged c.addr sent f → (k : FrameKind) → kind_of d mac f ≡ k
      → Each Carried (packet_if k f)
  of_kind f given Packet e = (carried f given (type_of d mac f e), tt)
  of_kind f given Martian e = tt
  of_kind f given Arp e = tt
  of_kind f given Other e = tt

  by_call : (o : Option (List ℕ)) (acts : List HostAct)
      → (Each (λ packet. ¬ ComesFrom c.addr packet) (packets_handed acts) → Each Carried (packets_to d mac acts))
      → Each (λ packet. ¬ ComesFrom c.addr packet) (cons_option o [] ++ packets_handed acts)
      → Each Carried (cons_option o [] ++ packets_to d mac acts)
  by_call None acts goes h = goes h
  by_call (Some packet) acts goes h = ((λ from. absurd (h.0 from)), goes h.1)

  came_so : (acts : List HostAct) → Each (IsUnforged c.addr sent) (frames_in acts)
      → Each (λ packet. ¬ ComesFrom c.addr packet) (packets_handed acts) → Each Carried (packets_to d mac acts)
  came_so [] given handed = tt
  came_so (Comes_in f ∷ acts) given handed =
      each-append Carried (packet_if (kind_of d mac f) f) (packets_to d mac acts)
      (of_kind f given.0 (kind_of d mac f) refl) (came_so acts given.1 handed)
  came_so (Goes_out f ∷ acts) given handed = came_so acts given handed
  came_so (Clock ∷ acts) given handed = came_so acts given handed
  came_so (Calls turn ∷ acts) given handed = by_call (packet_in turn) acts (came_so acts given) handed
  came_so (Asks_error fd fault ∷ acts) given handed = came_so acts given handed

pub on_ethernet : (c d : Config) (l m : Link) (sent came : List HostAct) (s t : Host)
    → AreAmongHosts c d l m sent came s t → AreOnEthernet c d l m sent came s t
on_ethernet c d l m sent came s t w = record {
  first_boots = w.first_boots;
  second_boots = w.second_boots;
  first_acts = w.first_acts;
  second_acts = w.second_acts;
  not_addr = w.not_addr;
  not_bcast = w.not_bcast;
  few = w.few;
  wire =
      All-from_recursion _ (packets_to d m.mac came)
      (came_so c d l s m.mac sent w.first_boots w.first_acts came (recursion_from_All _ (frames_in came) w.frames)
      (recursion_from_All _ (packets_handed came) w.handed));
}

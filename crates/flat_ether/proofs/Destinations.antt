-- Each frame that a host sends goes to the broadcast address or to one that a host can have.
use Rattle.std.proofs.Common.{◌≡◌, ◌≢◌, ◌⊎◌, inl, inr, ℕ, ◌+◌, ◌*◌, ◌/◌, ◌%◌, true, List, [], sym, ap, ◌∙◌, arith}
use Rattle.std.specs.Prelude.{◌==◌, filter_map}
use Rattle.std.specs.List.{AllByRecursion as Each}
use Rattle.std.proofs.lemmas.Bool.{and_parts, eqb-true, false≢true, not-true}
use Rattle.flat_model.specs.Packets.Header.{u32_at}
use Rattle.flat_model.specs.declared.config.Config.{Config}
use Rattle.flat_model.proofs.Laws.{each-weaker}
use Rattle.flat_wire.specs.Wire.{packet_out}
use Rattle.flat_ether.specs.Frames.{arp_bytes, ether_broadcast, frame, is_host_mac, mac_at, no_mac, same_mac}
use Rattle.flat_ether.specs.Hosts.{HostAct, AreHostActs, Host, host_up}
use Rattle.flat_ether.specs.Laws.{IsFrameSent, IsRoute, IsToHost, MakesTurns, frames_out}
use Rattle.flat_ether.specs.declared.link.Link.{Link}
use Rattle.flat_ether.specs.declared.mac.Mac.{Mac}
use Rattle.flat_ether.proofs.Runs.{makes_turns}
use Rattle.flat_ether.proofs.Sent.{given_host}
use Rattle.flat_ether.proofs.Sources.{four}
use Rattle.flat_ether.proofs.Two.{went_so}

two : (n : ℕ) → 256 * (n / 256) + n % 256 ≡ n
two n = omega arith

destination_read : (to source : Mac) (kind : ℕ) (body : List ℕ) → mac_at 0 (frame to source kind body) ≡ to
destination_read to source kind body =
    ap (λ n. record { high = n; low = u32_at 2 (frame to source kind body) }) (two to.high)
    ∙ ap (λ n. record { high = to.high; low = n }) (four to.low)

-- a hardware address to which it may be sent
abbrev IsTo : Mac → Type 0
IsTo m = (m ≡ ether_broadcast) ⊎ (is_host_mac m ≡ true)

host_parts : (m : Mac) → is_host_mac m ≡ true → (m.high / 256 % 2 ≡ 0) × (m ≢ no_mac)
host_parts m is =
    let parts = and_parts (m.high / 256 % 2 == 0) _ is in (
      eqb-true (m.high / 256 % 2) 0 parts.0,
      λ e. false≢true (sym (not-true _ parts.1) ∙ ap (λ (x : Mac). same_mac x no_mac) e),
    )

read_so : (f : List ℕ) (m : Mac) → mac_at 0 f ≡ m → IsTo m → IsToHost f
read_so f m e (inl is) = inl (e ∙ is)
read_so f m e (inr is) =
    let h = host_parts m is in
    inr (ap (λ (x : Mac). x.high / 256 % 2) e ∙ h.0, λ none. h.1 (sym e ∙ none))

routed : (c : Config) (l : Link) (F : List (List ℕ)) (packet : List ℕ) (mac : Mac) → IsRoute c l F packet mac → IsTo mac
routed c l F packet mac (inl (all, is)) = inl is
routed c l F packet mac (inr (hop, is, given)) = inr (given_host c l hop F mac given)

sent_to : (c : Config) (l : Link) (given : List (List ℕ)) (f : List ℕ)
    → ((F : List (List ℕ)) × IsFrameSent c l F given f) → IsToHost f
sent_to c l given f (F, inl own) =
    read_so f own.to (ap (mac_at 0) own.frame_is ∙ destination_read own.to l.mac 0x0806
    (arp_bytes own.op l.mac own.sender own.target_mac own.target)) own.to_is
sent_to c l given f (F, inr h) =
    read_so f h.mac (ap (mac_at 0) h.frame_is ∙ destination_read h.mac l.mac 0x0800 h.packet)
    (routed c l F h.packet h.mac h.route)

pub host_frames : (c : Config) (l : Link) (acts : List HostAct) (new : Host) → AreHostActs (host_up c l) acts new
    → Each IsToHost (frames_out acts)
host_frames c l acts new done =
    let made : MakesTurns c l acts new = makes_turns c l acts new done in
    let given : List (List ℕ) = filter_map packet_out made.turns in
    each-weaker (sent_to c l given) (frames_out acts) (went_so c l given [] acts made.went)

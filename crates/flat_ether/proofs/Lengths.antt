-- No packet that a host sends is longer than the MTU of its link.
use Rattle.std.proofs.Common.{◌≡◌, inl, inr, ℕ, ◌+◌, ◌≤◌, List, [], ◌∷◌, length, map, max, min, take, drop, ap, sym, subst, arith, length-take}
use Rattle.std.specs.List.{AllByRecursion as Each}
use Rattle.std.specs.Prelude.{filter_map}
use Rattle.std.proofs.lemmas.List.Elements.{All-contains, All-from_recursion, recursion_from_All}
use Rattle.flat_model.specs.Amounts.Weight.{Item}
use Rattle.flat_model.specs.Fragments.Cuts.{Part, cuts}
use Rattle.flat_model.specs.Machine.State.{IsConfig, State, boot}
use Rattle.flat_model.specs.Packets.Header.{head_of, u16_at}
use Rattle.flat_model.specs.Runs.Laws.{CutsJoin}
use Rattle.flat_model.specs.declared.config.Config.{Config}
use Rattle.flat_model.proofs.Laws.{each-weaker}
use Rattle.flat_wire.specs.Wire.{packet_out}
use Rattle.flat_ether.specs.Frames.{body_of}
use Rattle.flat_ether.specs.Hosts.{HostAct, AreHostActs, Host, host_up}
use Rattle.flat_ether.specs.Icmp.{answer_mtu, echo_message, error_message, part_packet, reflected}
use Rattle.flat_ether.specs.Laws.{IsFrameSent, IsMade, IsReply, IsWithin, MakesTurns, frames_out}
use Rattle.flat_ether.specs.declared.link.Link.{Link}
use Rattle.flat_ether.proofs.Replies.{length-packet}
use Rattle.flat_ether.proofs.Runs.{makes_turns}
use Rattle.flat_ether.proofs.Sources.{IsSourced, boot_sourced, given_each}
use Rattle.flat_ether.proofs.Two.{not_both, went_so}

abbrev IsShort : ℕ → List ℕ → Type 0
IsShort mtu p = length p ≤ mtu

-- ---- the packets that the machine sent

output_short : (c : Config) (s : State) → IsSourced c s → Each (λ (item : Item). IsShort c.mtu item.bytes) s.output
output_short c s k =
    each-weaker (λ item is. subst (λ (x : Config). IsShort x.mtu item.bytes) k.config is.fits) s.output
    k.consistent.output

-- ---- the packets of an ICMP reply

part_short : (source id destination : ℕ) (body : List ℕ) (mtu : ℕ) (p : Part) → 20 + p.size ≤ mtu
    → IsShort mtu (part_packet source id destination body p)
part_short source id destination body mtu p h =
    let whole : length (part_packet source id destination body p) ≡ 20 + length (take p.size (drop p.offset body)) =
    length-packet _ _ in
    let part : length (take p.size (drop p.offset body)) ≡ min p.size (length (drop p.offset body)) =
    length-take p.size (drop p.offset body) in
    omega arith

parts_short : (source id destination : ℕ) (body : List ℕ) (mtu : ℕ) (ps : List Part)
    → Each (λ (p : Part). 20 + p.size ≤ mtu) ps → Each (IsShort mtu) (map (part_packet source id destination body) ps)
parts_short source id destination body mtu [] h = tt
parts_short source id destination body mtu (p ∷ ps) h =
    (part_short source id destination body mtu p h.0, parts_short source id destination body mtu ps h.1)

-- a string cut for an MTU of 28 or more
abbrev Cut : Type 0
Cut = (s : List ℕ) (mtu : ℕ) → 28 ≤ mtu → CutsJoin s mtu

reflected_short : Cut → (c : Config) (id : ℕ) (came body : List ℕ) → IsConfig c
    → Each (IsShort c.mtu) (reflected c id came body)
reflected_short cut c id came body is =
    let least : 68 ≤ c.mtu = is.least_mtu in
    let mtu : max c.mtu 68 ≡ c.mtu = omega arith in
    let some : 28 ≤ max c.mtu 68 = omega arith in
    subst (λ n. Each (IsShort n) (reflected c id came body)) mtu
    (parts_short c.addr id (head_of came).source body (answer_mtu c) (cuts (length body) (answer_mtu c))
    (recursion_from_All _ (cuts (length body) (answer_mtu c)) (cut body (answer_mtu c) some).within))

-- ---- and each frame

module _ (cut : Cut) (c : Config) (l : Link) (given : List (List ℕ)) (is : IsConfig c)
    (all : Each (IsShort c.mtu) given) where
  made_short : (F : List (List ℕ)) (p : List ℕ) → IsMade c F given p → IsShort c.mtu p
  made_short F p (inl h) = All-contains (IsShort c.mtu) given p (All-from_recursion (IsShort c.mtu) given all) h
  made_short F p (inr (reply, of, in')) =
      All-contains (IsShort c.mtu) reply p (All-from_recursion (IsShort c.mtu) reply (reply_short of)) in'
    where
      reply_short : IsReply c F reply → Each (IsShort c.mtu) reply
      reply_short (f, came, id, inl e) =
          subst (Each (IsShort c.mtu)) (sym e) (reflected_short cut c id (body_of f) (echo_message (body_of f)) is)
      reply_short (f, came, id, inr (kind, code, e)) =
          subst (Each (IsShort c.mtu)) (sym e)
          (reflected_short cut c id (body_of f) (error_message kind code (body_of f)) is)

  sent_short : (f : List ℕ) → ((F : List (List ℕ)) × IsFrameSent c l F given f) → IsWithin c.mtu f
  sent_short f (F, inl own) type = absurd (not_both (u16_at 12 f) (ap (u16_at 12) own.frame_is) type)
  sent_short f (F, inr h) type =
      let same : body_of f ≡ h.packet = ap body_of h.frame_is in
      subst (IsShort c.mtu) (sym same) (made_short F h.packet h.made)

pub short_frames : Cut → (c : Config) (l : Link) (acts : List HostAct) (new : Host) → IsConfig c
    → AreHostActs (host_up c l) acts new → Each (IsWithin c.mtu) (frames_out acts)
short_frames cut c l acts new is done =
    let made : MakesTurns c l acts new = makes_turns c l acts new done in
    let given : List (List ℕ) = filter_map packet_out made.turns in
    each-weaker
    (sent_short cut c l given is
    (given_each c (IsShort c.mtu) (output_short c) (boot c) new.machine made.turns (boot_sourced c is) made.leads))
    (frames_out acts) (went_so c l given [] acts made.went)

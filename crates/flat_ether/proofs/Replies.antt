-- The packets of an ICMP reply: each has a whole header, with the addresses and the identification of the reply.
use Rattle.std.proofs.Common.{◌≡◌, ℕ, ◌+◌, ◌*◌, ◌-◌, ◌/◌, ◌%◌, Bool, true, false, cond, List, [], ◌∷◌, ◌<◌, length, map, take, refl, ap, ◌∙◌, arith}
use Rattle.std.specs.Prelude.{All, nat_lt, slice_index}
use Rattle.std.specs.List.{AllByRecursion as Each}
use Rattle.std.proofs.lemmas.Bool.{ltb-true}
use Rattle.std.proofs.lemmas.List.{get_or-take, take-take}
use Rattle.std.proofs.lemmas.List.Elements.{All-from_recursion}
use Rattle.flat_model.specs.Fragments.Cuts.{Part, cuts}
use Rattle.flat_model.specs.Packets.Header.{Head, head_of, packet, u32_at}
use Rattle.flat_model.specs.declared.config.Config.{Config}
use Rattle.flat_ether.specs.Icmp.{answer_mtu, echo_message, echo_reply, error_message, error_reply, message, part_packet, part_packets, quote_of, reflected}
use Rattle.flat_ether.specs.Laws.{HasId}
use Rattle.flat_ether.specs.Options.{header_size}
use Rattle.flat_ether.specs.Links.{route_to}
use Rattle.flat_ether.specs.Routes.{route}
use Rattle.flat_ether.specs.declared.link.Link.{Link}
use Rattle.flat_ether.specs.declared.link.Route.TheVariants.{Hop, NoRoute}
use Rattle.flat_ether.proofs.Sources.{four}

pub length-packet : (h : Head) (t : List ℕ) → length (packet h t) ≡ 20 + length t
unfolding packet
length-packet h t = omega arith

pub destination_read : (h : Head) (t : List ℕ) → u32_at 16 (packet h t) ≡ h.destination
unfolding packet
destination_read h t = four h.destination

-- its route is that to its destination
packet_route : (c : Config) (l : Link) (h : Head) (t : List ℕ) → route_to c l (packet h t) ≡ route c l h.destination
packet_route c l h t = go (nat_lt (length (packet h t)) 20) refl
  where
    long : length (packet h t) ≡ 20 + length t
    long = length-packet h t

    go : (b : Bool) → nat_lt (length (packet h t)) 20 ≡ b
        → cond b NoRoute (route c l (u32_at 16 (packet h t))) ≡ route c l h.destination
    go true e = absurd (omega (arith, ltb-true _ _ e, long))
    go false e = ap (route c l) (destination_read h t)

pub reply_route : (c : Config) (l : Link) (id : ℕ) (came body : List ℕ) (hop : ℕ)
    → route c l (head_of came).source ≡ Hop hop → Each (λ p. route_to c l p ≡ Hop hop) (reflected c id came body)
reply_route c l id came body hop e = go (cuts (length body) (answer_mtu c))
  where
    go : (parts : List Part)
        → Each (λ p. route_to c l p ≡ Hop hop) (map (part_packet c.addr id (head_of came).source body) parts)
    go [] = tt
    go (p ∷ ps) = (packet_route c l _ _ ∙ e, go ps)

-- ---- an error that quotes a packet is one about the packet

quoted : (i : ℕ) (came : List ℕ) → i < 28 → slice_index (quote_of came) i ≡ slice_index came i
quoted i came h = get_or-take (28 + (header_size came - 20)) came i 0 (omega arith)

quoted_again : (came : List ℕ) → quote_of (quote_of came) ≡ quote_of came
quoted_again came =
    let n : ℕ = 28 + (header_size came - 20) in
    ap (λ byte. take (28 + (byte % 16 * 4 - 20)) (take n came)) (quoted 0 came (omega arith))
    ∙ take-take n n came (omega arith)

pub quoted_source : (came : List ℕ) → (head_of (quote_of came)).source ≡ (head_of came).source
quoted_source came =
    let a = quoted 12 came (omega arith) in
    let b = quoted 13 came (omega arith) in
    let d = quoted 14 came (omega arith) in
    let e = quoted 15 came (omega arith) in
    omega (arith, a, b, d, e)

pub quoted_reply : (c : Config) (id kind code : ℕ) (came : List ℕ)
    → error_reply c id kind code (quote_of came) ≡ error_reply c id kind code came
quoted_reply c id kind code came =
    ap (λ (source : ℕ). part_packets c.addr id source (error_message kind code (quote_of came)) (answer_mtu c))
    (quoted_source came)
    ∙ ap (λ (quote : List ℕ). part_packets c.addr id (head_of came).source
    (message kind code (0 ∷ 0 ∷ 0 ∷ 0 ∷ quote)) (answer_mtu c)) (quoted_again came)

-- ---- its identification

two : (n : ℕ) → 256 * (n / 256) + n % 256 ≡ n
two n = omega arith

id_read : (h : Head) (t : List ℕ) → (head_of (packet h t)).id ≡ h.id
unfolding packet
id_read h t = two h.id

numbered : (c : Config) (id : ℕ) (came body : List ℕ) → Each (HasId id) (reflected c id came body)
numbered c id came body = go (cuts (length body) (answer_mtu c))
  where
    go : (parts : List Part) → Each (HasId id) (map (part_packet c.addr id (head_of came).source body) parts)
    go [] = tt
    go (p ∷ ps) = (id_read _ _, go ps)

pub echo_numbered : (c : Config) (id : ℕ) (came : List ℕ) → All (HasId id) (echo_reply c id came)
echo_numbered c id came =
    All-from_recursion (HasId id) (echo_reply c id came) (numbered c id came (echo_message came))

pub error_numbered : (c : Config) (id kind code : ℕ) (came : List ℕ)
    → All (HasId id) (error_reply c id kind code came)
error_numbered c id kind code came =
    All-from_recursion (HasId id) (error_reply c id kind code came)
    (numbered c id came (error_message kind code came))

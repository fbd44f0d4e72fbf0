-- A frame that carries a packet gives that packet, whatever padding follows it.
use Rattle.std.proofs.Common.{◌≡◌, ℕ, ◌+◌, ◌≤◌, List, [], ◌∷◌, ◌++◌, length, drop, get_or, ltb, false, Result, Ok, refl, ap, subst, ◌∙◌, arith, inl, inr}
use Rattle.std.specs.Int.{w16}
use Rattle.std.proofs.lemmas.Bool.{le-ltb}
use Rattle.std.proofs.lemmas.List.{take_at, drop_at, drop-append-le, get_or_append_left, length-append, length-drop}
use Rattle.std.proofs.Math.Seq.{drop-append_seam, drop-append-add}
use Rattle.capture.specs.File.{number_of}
use Rattle.capture.specs.Frames.{unpadded, after, by_ppp, by_protocol, packet_in_frame, IsPacket, IsTagged, CarriesIpv4}
use Rattle.capture.specs.declared.pcap.header.Order.TheVariants.{Big}
use Rattle.capture.specs.declared.pcap.link.NoPacket.{NoPacket}
use Rattle.capture.specs.declared.pcap.link_type.LinkType.{LinkType}
use Rattle.capture.specs.declared.pcap.link_type.LinkType.TheVariants.{Null, Ethernet, Ppp, Raw, Loop, LinuxCooked, Ipv4, LinuxCooked2}

abbrev ok : List ℕ → Result (List ℕ) NoPacket
ok x = Ok x

total_is : (packet padding : List ℕ) → IsPacket packet → number_of Big w16 (drop 2 (packet ++ padding)) ≡ length packet
total_is packet padding p =
    let long = p.header in
    let short : 2 ≤ length packet = omega arith in
    let d : drop 2 (packet ++ padding) ≡ drop 2 packet ++ padding = drop-append-le 2 packet padding short in
    let l : length (drop 2 packet) + 2 ≡ length packet = omega (arith, length-drop 2 packet) in
    let a : get_or (drop 2 packet ++ padding) 0 0 ≡ get_or (drop 2 packet) 0 0 =
    get_or_append_left (drop 2 packet) padding 0 0 (omega arith) in
    let b : get_or (drop 2 packet ++ padding) 1 0 ≡ get_or (drop 2 packet) 1 0 =
    get_or_append_left (drop 2 packet) padding 0 1 (omega arith) in
    let t = p.total in
    let e = ap (number_of Big w16) d in
    omega (arith, a, b, t, e)

cut_off : (packet padding : List ℕ) → IsPacket packet → unpadded (packet ++ padding) ≡ packet
cut_off packet padding p =
    let t = total_is packet padding p in
    let low : ltb (length packet) 20 ≡ false = le-ltb _ _ p.header in
    let high : ltb (length (packet ++ padding)) (length packet) ≡ false =
    le-ltb _ _ (omega (arith, length-append packet padding)) in
    rw (t, low, high) (take_at packet padding (length packet) refl)

one_tag : (a b : ℕ) (packet padding : List ℕ) → IsPacket packet
    → after 0x8100 (a ∷ b ∷ 8 ∷ 0 ∷ (packet ++ padding)) ≡ Ok packet
unfolding after
one_tag a b packet padding p =
    let long : ltb (length (a ∷ b ∷ 8 ∷ 0 ∷ (packet ++ padding))) 4 ≡ false = le-ltb _ _ (omega arith) in
    rw long (ap ok (cut_off packet padding p))

two_tags : (a b c d : ℕ) (packet padding : List ℕ) → IsPacket packet
    → after 0x88a8 (a ∷ b ∷ 0x81 ∷ 0 ∷ c ∷ d ∷ 8 ∷ 0 ∷ (packet ++ padding)) ≡ Ok packet
unfolding after
two_tags a b c d packet padding p =
    let outer : ltb (length (a ∷ b ∷ 0x81 ∷ 0 ∷ c ∷ d ∷ 8 ∷ 0 ∷ (packet ++ padding))) 4 ≡ false =
    le-ltb _ _ (omega arith) in
    let inner : ltb (length (c ∷ d ∷ 8 ∷ 0 ∷ (packet ++ padding))) 4 ≡ false = le-ltb _ _ (omega arith) in
    rw (outer, inner) (ap ok (cut_off packet padding p))

-- after the first two bytes, read as a number
tagged : (bytes packet padding : List ℕ) → IsPacket packet → IsTagged bytes (packet ++ padding)
    → after (number_of Big w16 bytes) (drop 2 bytes) ≡ Ok packet
unfolding after
tagged bytes packet padding p t =
    elim t [
      | inl e ↦ rw e (ap ok (cut_off packet padding p))
      | inr s ↦ elim s [
        | inl one ↦ rw one.2 (one_tag one.0 one.1 packet padding p)
        | inr two ↦ rw two.4 (two_tags two.0 two.1 two.2 two.3 packet padding p)
      ]
    ]

tag_len : (bytes carried : List ℕ) → IsTagged bytes carried → 2 ≤ length bytes
tag_len bytes carried t =
    elim t [
      | inl e ↦ rw e (omega arith)
      | inr s ↦ elim s [ inl one ↦ rw one.2 (omega arith) | inr two ↦ rw two.4 (omega arith) ]
    ]

in_front : (front bytes packet padding : List ℕ) → IsPacket packet → IsTagged bytes (packet ++ padding)
    → by_protocol (length front) (length front + 2) (front ++ bytes) ≡ Ok packet
in_front front bytes packet padding p t =
    let two = tag_len bytes (packet ++ padding) t in
    let long : ltb (length (front ++ bytes)) (length front + 2) ≡ false =
    le-ltb _ _ (omega (arith, length-append front bytes, two)) in
    rw (long, drop-append_seam front bytes, drop-append-add front bytes 2) (tagged bytes packet padding p t)

found : (packet padding : List ℕ) → IsPacket packet → ok (unpadded (packet ++ padding)) ≡ ok packet
found packet padding p = ap ok (cut_off packet padding p)

cooked : (others packet padding : List ℕ) → length others ≡ 18 → IsPacket packet
    → packet_in_frame LinuxCooked2 (8 ∷ 0 ∷ (others ++ (packet ++ padding))) ≡ Ok packet
unfolding after
cooked others packet padding len p =
    let long : ltb (length (8 ∷ 0 ∷ (others ++ (packet ++ padding)))) 20 ≡ false =
    le-ltb _ _ (omega (arith, length-append others (packet ++ padding))) in
    let d : drop 18 (others ++ (packet ++ padding)) ≡ packet ++ padding = drop_at others (packet ++ padding) 18 len in
    rw (long, d) (found packet padding p)

low_family : (packet padding : List ℕ) → IsPacket packet
    → packet_in_frame Null (2 ∷ 0 ∷ 0 ∷ 0 ∷ (packet ++ padding)) ≡ Ok packet
low_family packet padding p =
    let long : ltb (length (2 ∷ 0 ∷ 0 ∷ 0 ∷ (packet ++ padding))) 4 ≡ false = le-ltb _ _ (omega arith) in
    rw long (found packet padding p)

high_family : (packet padding : List ℕ) → IsPacket packet
    → (packet_in_frame Null (0 ∷ 0 ∷ 0 ∷ 2 ∷ (packet ++ padding)) ≡ Ok packet)
    × (packet_in_frame Loop (0 ∷ 0 ∷ 0 ∷ 2 ∷ (packet ++ padding)) ≡ Ok packet)
high_family packet padding p =
    let long : ltb (length (0 ∷ 0 ∷ 0 ∷ 2 ∷ (packet ++ padding))) 4 ≡ false = le-ltb _ _ (omega arith) in
    (rw long (found packet padding p), rw long (found packet padding p))

raw : (packet padding : List ℕ) → IsPacket packet → packet_in_frame Raw (packet ++ padding) ≡ Ok packet
raw [] padding p = let long = p.header in absurd (omega arith)
raw (b ∷ bs) padding p = rw p.version (found (b ∷ bs) padding p)

full_protocol : (packet padding : List ℕ) → IsPacket packet → by_ppp (0 ∷ 0x21 ∷ (packet ++ padding)) ≡ Ok packet
full_protocol packet padding p =
    let long : ltb (length (0x21 ∷ (packet ++ padding))) 1 ≡ false = le-ltb _ _ (omega arith) in
    rw long (found packet padding p)

short_protocol : (packet padding : List ℕ) → IsPacket packet
    → packet_in_frame Ppp (0x21 ∷ (packet ++ padding)) ≡ Ok packet
short_protocol [] padding p = let long = p.header in absurd (omega arith)
short_protocol (b ∷ bs) padding p = found (b ∷ bs) padding p

pub carried : (link : LinkType) (frame packet padding : List ℕ) → IsPacket packet
    → CarriesIpv4 link frame (packet ++ padding) → packet_in_frame link frame ≡ Ok packet
carried Ethernet frame packet padding p c =
    ap (packet_in_frame Ethernet) c.4 ∙ subst (λ (n : ℕ). by_protocol n (n + 2) (c.0 ++ c.1) ≡ ok packet) c.2
    (in_front c.0 c.1 packet padding p c.3)
carried LinuxCooked frame packet padding p c =
    ap (packet_in_frame LinuxCooked) c.4
    ∙ subst (λ (n : ℕ). by_protocol n (n + 2) (c.0 ++ c.1) ≡ ok packet) c.2 (in_front c.0 c.1 packet padding p c.3)
carried LinuxCooked2 frame packet padding p c = ap (packet_in_frame LinuxCooked2) c.2 ∙ cooked c.0 packet padding c.1 p
carried Ppp frame packet padding p c =
    elim c [
      | inl e ↦ ap (packet_in_frame Ppp) e ∙ full_protocol packet padding p
      | inr s ↦ elim s [
        | inl e ↦ ap (packet_in_frame Ppp) e ∙ full_protocol packet padding p
        | inr t ↦ elim t [
          | inl e ↦ ap (packet_in_frame Ppp) e ∙ short_protocol packet padding p
          | inr e ↦ ap (packet_in_frame Ppp) e ∙ found packet padding p
        ]
      ]
    ]
carried Null frame packet padding p c =
    elim c [
      | inl e ↦ ap (packet_in_frame Null) e ∙ low_family packet padding p
      | inr e ↦ ap (packet_in_frame Null) e
          ∙ (high_family packet padding p).0
    ]
carried Loop frame packet padding p c = ap (packet_in_frame Loop) c ∙ (high_family packet padding p).1
carried Raw frame packet padding p c = ap (packet_in_frame Raw) c ∙ raw packet padding p
carried Ipv4 frame packet padding p c = ap (packet_in_frame Ipv4) c ∙ found packet padding p

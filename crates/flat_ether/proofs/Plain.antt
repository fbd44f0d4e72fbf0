-- What a packet keeps when its options are taken out: the addresses, the protocol, and bytes below 256.
use Rattle.std.proofs.Common.{◌≡◌, ℕ, ◌+◌, ◌-◌, ◌/◌, ◌%◌, ◌<◌, ◌≤◌, Bool, true, false, cond, List, [], ◌∷◌, ◌++◌, length, take, zero, suc, refl, sym, ap, ◌∙◌, arith, length-take, length-drop}
use Rattle.std.specs.Prelude.{◌==◌, ◌&&◌, ◌||◌, nat_le, nat_lt, slice_index}
use Rattle.std.specs.List.{AllByRecursion as Each}
use Rattle.std.proofs.lemmas.Bool.{and_parts, false≢true, leb-true, ltb-true}
use Rattle.std.proofs.lemmas.List.Elements.{All-from_recursion, recursion_from_All}
use Rattle.flat_model.specs.Machine.Event.{IsBytes}
use Rattle.flat_model.specs.Packets.Checksum.{checksum}
use Rattle.flat_model.specs.Packets.Header.{Head, address_bytes, flag, front_bytes, head_of, packet, total_of, two_bytes, u16_at, u32_at}
use Rattle.flat_model.specs.declared.config.Config.{Config}
use Rattle.flat_model.proofs.Laws.{each-append, each-take}
use Rattle.flat_wire.specs.Wire.{ComesFrom}
use Rattle.flat_ether.specs.Frames.{is_bad_source, is_loopback, is_martian}
use Rattle.flat_ether.specs.Options.{carried_in, has_options, header_size, plain, without_options}
use Rattle.flat_ether.proofs.Replies.{destination_read, length-packet}
use Rattle.flat_ether.proofs.Sources.{source_read}
use Rattle.flat_ether.proofs.Turns.{each-drop}

-- what holds without options, and of the packet as it came
plain_by : (P : List ℕ → Type 0) (p : List ℕ) → (has_options p ≡ true → P (without_options p)) → P p → P (plain p)
unfolding plain
plain_by P p without as_came = go (has_options p) refl
  where
    go : (b : Bool) → has_options p ≡ b → P (cond b (without_options p) p)
    go true e = without e
    go false e = as_came

-- a packet with options is longer than a header, and has more than five words of it
record HasThem (p : List ℕ) : Type 0 where
  long : nat_le 20 (length p) ≡ true
  words : 5 < slice_index p 0 % 16
  short : 20 + (total_of p - header_size p) ≤ 1500

has_them : (p : List ℕ) → has_options p ≡ true → HasThem p
has_them p e =
    let a = and_parts (nat_le 20 (length p)) _ e in
    let b = and_parts (slice_index p 0 / 16 == 4) _ a.1 in
    let c = and_parts (nat_lt 5 (slice_index p 0 % 16)) _ b.1 in
    let d = and_parts (nat_le (header_size p) (total_of p)) _ c.1 in
    let f = and_parts (nat_le (total_of p) (length p)) _ d.1 in
    let g = and_parts (nat_le (20 + (total_of p - header_size p)) 1500) _ f.1 in
    record { long = a.0; words = ltb-true _ _ c.0; short = leb-true _ _ g.0 }

-- a header of five words has no options
pub plain_same : (p : List ℕ) → slice_index p 0 ≡ 69 → plain p ≡ p
plain_same p first = plain_by (λ q. q ≡ p) p (λ e. let words = (has_them p e).words in absurd (omega arith)) refl

pub plain_short : (p : List ℕ) → length p ≤ 65535 → length (plain p) ≤ 65535
plain_short p h = plain_by (λ q. length q ≤ 65535) p with' h
  where
    with' : has_options p ≡ true → length (without_options p) ≤ 65535
    with' e =
        let short = (has_them p e).short in
        omega (
          arith,
          length-packet (head_of p) (carried_in p),
          length-drop (header_size p) (take (total_of p) p),
          length-take (total_of p) p,
        )

-- ---- its bytes

abbrev AreBytes : List ℕ → Type 0
AreBytes = Each (λ byte. byte < 256)

byte_below : (bytes : List ℕ) (i : ℕ) → AreBytes bytes → slice_index bytes i < 256
byte_below [] i h = omega arith
byte_below (b ∷ bytes) zero h = h.0
byte_below (b ∷ bytes) (suc i) h = byte_below bytes i h.1

two_below : (bytes : List ℕ) (i : ℕ) → AreBytes bytes → u16_at i bytes < 65536
two_below bytes i h = omega (arith, byte_below bytes i h, byte_below bytes (i + 1) h)

four_below : (bytes : List ℕ) (i : ℕ) → AreBytes bytes → u32_at i bytes < 4294967296
four_below bytes i h = omega (arith, two_below bytes i h, two_below bytes (i + 2) h)

two_are : (n : ℕ) → n < 65536 → AreBytes (two_bytes n)
two_are n h = (omega arith, (omega arith, tt))

flags_below : (b : Bool) (n : ℕ) → n < 8192 → flag b 8192 + n < 65536
flags_below true n h = omega arith
flags_below false n h = omega arith

packet_bytes : (h : Head) (t : List ℕ) → h.id < 65536 → h.offset / 8 < 8192 → h.protocol < 256 → h.source < 4294967296
    → h.destination < 4294967296 → 20 + length t < 65536 → AreBytes t → AreBytes (packet h t)
unfolding packet
packet_bytes h t id offset protocol source destination long bytes =
    let total = two_are (20 + length t) long in
    let number = two_are h.id id in
    let flags = two_are (flag h.more 8192 + h.offset / 8) (flags_below h.more (h.offset / 8) offset) in
    let high = two_are (h.source / 65536) (omega arith) in
    let low = two_are (h.source % 65536) (omega arith) in
    let high' = two_are (h.destination / 65536) (omega arith) in
    let low' = two_are (h.destination % 65536) (omega arith) in
    let sum =
    two_are (checksum (front_bytes h (length t) ++ 0 ∷ 0 ∷ address_bytes h.source h.destination)) (omega arith) in
    let addresses : AreBytes (address_bytes h.source h.destination ++ t) =
    each-append (λ byte. byte < 256) (address_bytes h.source h.destination) t
    (high.0, (high.1.0, (low.0, (low.1.0, (high'.0, (high'.1.0, (low'.0, (low'.1.0, tt)))))))) bytes in (
      omega arith,
      (
        omega arith,
        (
          total.0,
          (
            total.1.0,
            (
              number.0,
              (
                number.1.0,
                (
                  flags.0,
                  (
                    flags.1.0,
                    (
                      omega arith,
                      (protocol, (sum.0, (sum.1.0, addresses))),
                    ),
                  ),
                ),
              ),
            ),
          ),
        ),
      ),
    )

pub plain_bytes : (p : List ℕ) → IsBytes p → IsBytes (plain p)
plain_bytes p h = plain_by IsBytes p with' h
  where
    bytes : AreBytes p
    bytes = recursion_from_All (λ byte. byte < 256) p h

    with' : has_options p ≡ true → IsBytes (without_options p)
    with' e =
        let short = (has_them p e).short in
        All-from_recursion (λ byte. byte < 256) (without_options p)
        (packet_bytes (head_of p) (carried_in p) (two_below p 4 bytes) (omega arith) (byte_below p 9 bytes)
        (four_below p 12 bytes) (four_below p 16 bytes)
        (omega (
          arith,
          length-drop (header_size p) (take (total_of p) p),
          length-take (total_of p) p,
        )) (each-drop (header_size p) (take (total_of p) p) (each-take (λ byte. byte < 256) (total_of p) p bytes)))

-- ---- its addresses

protocol_read : (h : Head) (t : List ℕ) → slice_index (packet h t) 9 ≡ h.protocol
unfolding packet
protocol_read h t = refl

pub plain_source : (p : List ℕ) → u32_at 12 (plain p) ≡ u32_at 12 p
plain_source p = plain_by (λ q. u32_at 12 q ≡ u32_at 12 p) p (λ e. source_read (head_of p) (carried_in p)) refl

pub plain_protocol : (p : List ℕ) → slice_index (plain p) 9 ≡ slice_index p 9
plain_protocol p =
    plain_by (λ q. slice_index q 9 ≡ slice_index p 9) p (λ e. protocol_read (head_of p) (carried_in p)) refl

-- it comes from an address if the packet does
pub plain_from : (address : ℕ) (p : List ℕ) → ComesFrom address (plain p) → ComesFrom address p
plain_from address p from = record {
  long =
      plain_by (λ q. 16 ≤ length q → 16 ≤ length p) p
      (λ e h. let l = leb-true _ _ (has_them p e).long in omega arith) (λ h. h) from.long;
  source = sym (plain_source p) ∙ from.source;
  udp = sym (plain_protocol p) ∙ from.udp;
}

and_false : (a b c : Bool) → a ≡ true → (a && b) ≡ false → (c && b) ≡ false
and_false true b true e h = h
and_false true b false e h = refl
and_false false b c e h = absurd (false≢true e)

pub plain_martian : (c : Config) (p : List ℕ) → is_martian c p ≡ false → is_martian c (plain p) ≡ false
plain_martian c p free = plain_by (λ q. is_martian c q ≡ false) p with' free
  where
    with' : has_options p ≡ true → is_martian c (without_options p) ≡ false
    with' e =
        ap (λ n. nat_le 20 (length (without_options p))
        && (is_bad_source c n || is_loopback (u32_at 16 (without_options p)))) (source_read (head_of p) (carried_in p))
        ∙ ap (λ n. nat_le 20 (length (without_options p)) && (is_bad_source c (u32_at 12 p) || is_loopback n))
        (destination_read (head_of p) (carried_in p))
        ∙ and_false (nat_le 20 (length p)) (is_bad_source c (u32_at 12 p) || is_loopback (u32_at 16 p))
        (nat_le 20 (length (without_options p))) (has_them p e).long free

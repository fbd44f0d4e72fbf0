-- What is read back from a packet.
use Rattle.std.proofs.Common.{◌≡◌, ℕ, ◌+◌, ◌*◌, ◌/◌, ◌%◌, ◌<◌, Bool, true, false, List, ◌∷◌, ◌++◌, length, take, drop, refl, ◌∙◌, ap, arith}
use Rattle.std.specs.Prelude.{nat_lt}
use Rattle.std.proofs.lemmas.List.{take_all, drop_at, length-append}
use Rattle.std.proofs.lemmas.Bool.{lt-ltb, le-ltb}
use Rattle.flat_model.specs.Packets.Checksum.{checksum}
use Rattle.flat_model.specs.Packets.Header.{Head, packet, udp, flag, front_bytes, address_bytes, two_bytes, u16_at, u32_at, head_of, total_of, udp_bytes}
use Rattle.flat_model.proofs.Laws.{length-udp}

pub record IsHead (h : Head) (n : ℕ) : Type 0 where
  pub id : h.id < 65536
  pub steps : h.offset % 8 ≡ 0
  pub offset : h.offset < 65536
  pub source : h.source < 4294967296
  pub destination : h.destination < 4294967296
  pub total : 20 + n < 65536

two : (n : ℕ) → 256 * (n / 256) + n % 256 ≡ n
two n = omega arith

four : (n : ℕ) → 65536 * (256 * (n / 65536 / 256) + n / 65536 % 256) + (256 * (n % 65536 / 256) + n % 65536 % 256) ≡ n
four n = omega arith

more_read : (more : Bool) (k : ℕ) → k < 8192 → nat_lt 0 ((flag more 8192 + k) / 8192 % 2) ≡ more
more_read true k h = lt-ltb _ _ (omega arith)
more_read false k h = le-ltb _ _ (omega arith)

offset_read : (more : Bool) (offset : ℕ) → offset % 8 ≡ 0 → offset < 65536
    → (flag more 8192 + offset / 8) % 8192 * 8 ≡ offset
offset_read true offset steps h = omega arith
offset_read false offset steps h = omega arith

pub total_read : (h : Head) (t : List ℕ) → total_of (packet h t) ≡ 20 + length t
unfolding packet
total_read h t = two (20 + length t)

pub source_read : (h : Head) (t : List ℕ) → u32_at 12 (packet h t) ≡ h.source
unfolding packet
source_read h t = four h.source

pub head_read : (h : Head) (t : List ℕ) → IsHead h (length t) → head_of (packet h t) ≡ h
unfolding packet
head_read h t is =
    let id : 256 * (h.id / 256) + h.id % 256 ≡ h.id = two h.id in
    let field = two (flag h.more 8192 + h.offset / 8) in
    let more = ap (λ v. nat_lt 0 (v / 8192 % 2)) field ∙ more_read h.more (h.offset / 8) (omega (arith, is.offset)) in
    let offset = ap (λ v. v % 8192 * 8) field ∙ offset_read h.more h.offset is.steps is.offset in
    let source = four h.source in
    let destination = four h.destination in
    λ i. record {
      id = id i;
      more = more i;
      offset = offset i;
      protocol = h.protocol;
      source = source i;
      destination = destination i;
    }

-- the header of a packet
header : Head → List ℕ → List ℕ
header h t =
    front_bytes h (length t) ++ two_bytes
    (checksum (front_bytes h (length t) ++ 0 ∷ 0 ∷ address_bytes h.source h.destination))
    ++ address_bytes h.source h.destination

pub carried_read : (h : Head) (t : List ℕ) → drop 20 (take (total_of (packet h t)) (packet h t)) ≡ t
unfolding packet header
carried_read h t =
    ap (λ n. drop 20 (take n (packet h t))) (total_read h t)
    ∙ ap (drop 20) (take_all (20 + length t) (packet h t) (omega (arith, length-append (header h t) t)))
    ∙ drop_at (header h t) t 20 refl

-- ---- UDP

module _ (source destination port to : ℕ) (s : List ℕ) where
  pub port_read : u16_at 0 (udp source destination port to s) ≡ port
  unfolding udp
  port_read = two port

  pub to_read : u16_at 2 (udp source destination port to s) ≡ to
  unfolding udp
  to_read = two to

  pub bytes_read : udp_bytes (udp source destination port to s) ≡ s
  unfolding udp
  bytes_read =
      ap (λ n. drop 8 (take n (udp source destination port to s))) (two (8 + length s))
      ∙ ap (drop 8) (take_all (8 + length s) (udp source destination port to s)
      (omega (arith, length-udp source destination port to s)))

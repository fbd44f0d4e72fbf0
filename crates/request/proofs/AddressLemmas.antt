-- An address as a number, and as four octets.
use Rattle.std.proofs.Common.{◌≡◌, ℕ, ◌+◌, ◌*◌, ◌<◌, ◌^◌, ◌/◌, ◌%◌, List, [], ◌∷◌, refl, ◌∙◌, arith}
use Rattle.std.specs.Int.{w32, from_be_bytes}
use Rattle.std.specs.Net.Grammar.{IsDotted}
use Rattle.std.specs.Net.Text.{dotted_text}
use Rattle.flat_model.specs.Scripts.Grammar.{address_text, IsAddress}

address-octets : (a b c d n : ℕ) → a < 256 → b < 256 → c < 256 → d < 256
    → n ≡ a * 16777216 + b * 65536 + c * 256 + d → (n < 2 ^ 32) × (dotted_text a b c d ≡ address_text n)
address-octets a b c d n small_a small_b small_c small_d is =
    let first : n / 16777216 ≡ a = omega arith in
    let second : n / 65536 % 256 ≡ b = omega arith in
    let third : n / 256 % 256 ≡ c = omega arith in
    let fourth : n % 256 ≡ d = omega arith in (
      omega arith,
      rw (first, second, third, fourth) refl,
    )

-- the octets that a text writes are the bytes of the address
pub IsAddress-of : (text octets : List ℕ) (n : ℕ) → IsDotted text octets → n ≡ from_be_bytes w32 octets
    → IsAddress text n
IsAddress-of text octets n h is =
    let sum : n ≡ h.a * 16777216 + h.b * 65536 + h.c * 256 + h.d = is ∙ rw h.value (omega arith) in
    let written = address-octets h.a h.b h.c h.d n h.fit.0 h.fit.1 h.fit.2 h.fit.3 sum in
    (written.0, h.spelled ∙ written.1)

pub IsAddress-dotted : (text : List ℕ) (n : ℕ) → IsAddress text n
    → IsDotted text (n / 2 ^ 24 ∷ n / 2 ^ 16 % 256 ∷ n / 2 ^ 8 % 256 ∷ n % 256 ∷ [])
IsAddress-dotted text n h =
    let small : n < 4294967296 = h.0 in record {
      a = n / 2 ^ 24;
      b = n / 2 ^ 16 % 256;
      c = n / 2 ^ 8 % 256;
      d = n % 256;
      fit = (omega arith, omega arith, omega arith, omega arith);
      value = refl;
      spelled = h.1;
    }

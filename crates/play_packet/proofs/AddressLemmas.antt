-- The address that a word writes, as a relation and as a function.
use Rattle.std.proofs.Common.{◌≡◌, ◌<◌, ◌≤◌, ◌^◌, ◌+◌, ◌*◌, ◌-◌, ◌/◌, ◌%◌, ◌==◌, ℕ, true, false, cond, List, [], ◌∷◌, ◌++◌, MatchOption, bytes_eq, Option, Some, None, refl, sym, ap, ◌∙◌, append_assoc, append-nil, arith}
use Rattle.std.specs.Prelude.{decimal, nat_lt}
use Rattle.std.specs.Net.Text.{dotted_text}
use Rattle.std.proofs.lemmas.Bool.Decides.{nat_tests}
use Rattle.std.proofs.lemmas.Fmt.{decimal_by_steps}
use Rattle.std.proofs.lemmas.Slice.Eq.{bytes_eq-Decides}
use Rattle.flat_model.specs.Scripts.Grammar.{IsAddress, address_text}
use Rattle.play_packet.specs.Ends.{address_in, octets_value}

digit-read : (front octet d : ℕ) (rest : List ℕ) → d < 10
    → octets_value front octet ((48 + d) ∷ rest) ≡ octets_value front (10 * octet + d) rest
digit-read front octet d rest small =
    let no_dot : (48 + d == 46) ≡ false = grind (arith, nat_tests) in
    let value : 48 + d - 48 ≡ d = omega arith in
    rw no_dot (rw value refl)

-- these digits are an octet
abbrev Reads : ℕ → List ℕ → Type 0
Reads n digits = (front : ℕ) (rest : List ℕ) → octets_value front 0 (digits ++ rest) ≡ octets_value front n rest

one-read : (n : ℕ) → n < 10 → Reads n ((48 + n) ∷ [])
one-read n small front rest =
    let value : 10 * 0 + n ≡ n = omega arith in
    digit-read front 0 n rest small ∙ rw value refl

more-read : (n : ℕ) (digits : List ℕ) → 10 ≤ n → Reads (n / 10) digits → Reads n (digits ++ ((48 + n % 10) ∷ []))
more-read n digits large before front rest =
    let small : n % 10 < 10 = omega arith in
    let value : 10 * (n / 10) + n % 10 ≡ n = omega arith in
    rw (append_assoc digits ((48 + n % 10) ∷ []) rest)
    (before front ((48 + n % 10) ∷ rest) ∙ digit-read front (n / 10) (n % 10) rest small ∙ rw value refl)

octet-read : (n : ℕ) → n < 256 → Reads n (decimal n)
octet-read n small = decimal_by_steps Reads one-read more-read n (omega (arith, small))

dotted-cut : (a b c d : ℕ)
    → dotted_text a b c d ≡ decimal a ++ (46 ∷ (decimal b ++ (46 ∷ (decimal c ++ (46 ∷ decimal d)))))
dotted-cut a b c d = simp append_assoc

dotted-read : (a b c d : ℕ) → a < 256 → b < 256 → c < 256 → d < 256
    → octets_value 0 0 (dotted_text a b c d) ≡ 256 * (256 * (256 * (256 * 0 + a) + b) + c) + d
dotted-read a b c d small_a small_b small_c small_d =
    ap (octets_value 0 0) (dotted-cut a b c d)
    ∙ octet-read a small_a 0 (46 ∷ (decimal b ++ (46 ∷ (decimal c ++ (46 ∷ decimal d)))))
    ∙ octet-read b small_b (256 * 0 + a) (46 ∷ (decimal c ++ (46 ∷ decimal d)))
    ∙ octet-read c small_c (256 * (256 * 0 + a) + b) (46 ∷ decimal d)
    ∙ ap (octets_value (256 * (256 * (256 * 0 + a) + b) + c) 0) (sym (append-nil (decimal d)))
    ∙ octet-read d small_d (256 * (256 * (256 * 0 + a) + b) + c) []

address-read : (ip : ℕ) → ip < 2 ^ 32 → octets_value 0 0 (address_text ip) ≡ ip
address-read ip room =
    let small : ip < 4294967296 = room in
    let a : ip / 16777216 < 256 = omega (arith, small) in
    let b : ip / 65536 % 256 < 256 = omega arith in
    let c : ip / 256 % 256 < 256 = omega arith in
    let d : ip % 256 < 256 = omega arith in
    let sum : 256 * (256 * (256 * (256 * 0 + ip / 16777216) + ip / 65536 % 256) + ip / 256 % 256) + ip % 256 ≡ ip =
    omega arith in
    dotted-read (ip / 16777216) (ip / 65536 % 256) (ip / 256 % 256) (ip % 256) a b c d ∙ sum

has_room : (ip : ℕ) → ip < 2 ^ 32 → cond (nat_lt ip (2 ^ 32)) (Some ip) None ≡ Some ip
has_room ip small = grind (arith, nat_tests)

has_none : (ip : ℕ) → (ip < 2 ^ 32 → ⊥) → cond (nat_lt ip (2 ^ 32)) (Some ip) None ≡ None
has_none ip large = grind (arith, nat_tests)

an_address : (word : List ℕ) (ip : ℕ) → IsAddress word ip → address_in word ≡ Some ip
an_address word ip (small, is) =
    let value : octets_value 0 0 word ≡ ip = ap (octets_value 0 0) is ∙ address-read ip small in
    rw value (rw ((bytes_eq-Decides word (address_text ip)).1 is) (has_room ip small))

no_address : (word : List ℕ) → ((ip : ℕ) → IsAddress word ip → ⊥) → address_in word ≡ None
no_address word none =
    let ip : ℕ = octets_value 0 0 word in
    elim (bytes_eq word (address_text ip)) as (λ b. bytes_eq word (address_text ip) ≡ b
    → cond b (cond (nat_lt ip (2 ^ 32)) (Some ip) None) None ≡ None) [
      | true ↦ λ is. has_none ip (λ small. none ip (small, (bytes_eq-Decides word (address_text ip)).0 is))
      | false ↦ λ is. refl
    ] refl

pub address-is : (word : List ℕ) (r : Option ℕ)
    → MatchOption r ((ip : ℕ) → IsAddress word ip → ⊥) (λ ip. IsAddress word ip)
    → r ≡ address_in word
address-is word None h = sym (no_address word h)
address-is word (Some ip) h = sym (an_address word ip h)

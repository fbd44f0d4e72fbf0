-- The number that a word writes, as a relation and as a function.
use Rattle.std.proofs.Common.{◌≡◌, ◌≤◌, ℕ, true, false, cond, List, MatchOption, bytes_eq, Option, Some, None, refl, sym, ap, ◌∙◌, arith}
use Rattle.std.specs.Prelude.{IfSome, decimal, nat_le}
use Rattle.std.specs.Str.Parse.{digits_value}
use Rattle.std.proofs.lemmas.Bool.Decides.{nat_tests}
use Rattle.std.proofs.lemmas.Fmt.{decimal_is_IsNumeral}
use Rattle.std.proofs.lemmas.Slice.Eq.{bytes_eq-Decides}
use Rattle.flat_model.specs.Scripts.Grammar.{IsNumber}
use Rattle.play_packet.specs.Numbers.{number_in}

fits : (most n : ℕ) → n ≤ most → cond (nat_le n most) (Some n) None ≡ Some n
fits most n small = grind (arith, nat_tests)

is_too_large : (most n : ℕ) → (n ≤ most → ⊥) → cond (nat_le n most) (Some n) None ≡ None
is_too_large most n large = grind (arith, nat_tests)

a_number : (most : ℕ) (word : List ℕ) (n : ℕ) → most ≤ 65535 → IsNumber most word n → number_in most word ≡ Some n
a_number most word n room (small, is) =
    let value : digits_value 10 word ≡ n =
    ap (digits_value 10) is ∙ (decimal_is_IsNumeral n (omega (arith, small, room))).1 in
    rw value (rw ((bytes_eq-Decides word (decimal n)).1 is) (fits most n small))

no_number : (most : ℕ) (word : List ℕ) → ((n : ℕ) → IsNumber most word n → ⊥) → number_in most word ≡ None
no_number most word none =
    let n : ℕ = digits_value 10 word in
    elim (bytes_eq word (decimal n)) as (λ b. bytes_eq word (decimal n) ≡ b
    → cond b (cond (nat_le n most) (Some n) None) None ≡ None) [
      | true ↦ λ is. is_too_large most n (λ small. none n (small, (bytes_eq-Decides word (decimal n)).0 is))
      | false ↦ λ is. refl
    ] refl

pub number-is : (most : ℕ) (word : List ℕ) (r : Option ℕ) → most ≤ 65535
    → MatchOption r ((n : ℕ) → IsNumber most word n → ⊥) (λ n. IsNumber most word n)
    → r ≡ number_in most word
number-is most word None room h = sym (no_number most word h)
number-is most word (Some n) room h = sym (a_number most word n room h)

pub number-most : (most : ℕ) (word : List ℕ) (r : Option ℕ)
    → MatchOption r ((n : ℕ) → IsNumber most word n → ⊥) (λ n. IsNumber most word n)
    → IfSome r (λ n. n ≤ most)
number-most most word None h = tt
number-most most word (Some n) h = h.0

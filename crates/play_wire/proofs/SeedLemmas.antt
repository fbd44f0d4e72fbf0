-- The seed that a word writes.
use Rattle.std.proofs.Common.{◌≡◌, ◌<◌, ◌^◌, ◌==◌, ℕ, zero, suc, true, false, cond, List, [], ◌∷◌, drop, Result, Ok, Err, refl, ap, subst, arith}
use Rattle.std.proofs.lemmas.Bool.{eqb-true}
use Rattle.std.proofs.lemmas.Str.{IsUtf8-from_ascii}
use Rattle.std.proofs.lemmas.Str.Parse.{digit_from_value}
use Rattle.std.specs.Str.{IsAscii, IsUtf8}
use Rattle.std.specs.Str.Parse.{AllDigits, IsNumeral, ParsesUnsigned, digits_value, without_leading_plus}
use Rattle.play_wire.specs.Wires.{IsSeed}

digits-ascii : (digits : List ℕ) → AllDigits 10 digits → IsAscii digits
digits-ascii [] all i = omega arith
digits-ascii (c ∷ cs) all zero = omega (arith, digit_from_value c all.0)
digits-ascii (c ∷ cs) all (suc i) = digits-ascii cs all.1 i

plus-ascii : (word : List ℕ) → AllDigits 10 (without_leading_plus word) → IsAscii word
plus-ascii [] all = λ i. omega arith
plus-ascii (c ∷ cs) all = elim (c == 43) as (λ b. (c == 43) ≡ b → AllDigits 10 (drop (cond b 1 0) (c ∷ cs))
    → IsAscii (c ∷ cs)) [
      | true ↦ λ is digits. after (eqb-true c 43 is) digits
      | false ↦ λ is digits. digits-ascii (c ∷ cs) digits
    ] refl all
  where
    after : c ≡ 43 → AllDigits 10 cs → IsAscii (c ∷ cs)
    after is digits zero = omega (arith, is)
    after is digits (suc i) = digits-ascii cs digits i

-- a numeral is a text
pub seed-text : (word : List ℕ) → IsNumeral 10 (without_leading_plus word) → IsUtf8 word
seed-text word numeral = IsUtf8-from_ascii word (plus-ascii word numeral.1)

pub seed-parsed : {E : Type 0} (word text : List ℕ) (r : Result ℕ E) → text ≡ word → ParsesUnsigned 64 10 text r
    → IsNumeral 10 (without_leading_plus word) → digits_value 10 (without_leading_plus word) < 2 ^ 64
    → r ≡ Ok (digits_value 10 (without_leading_plus word))
seed-parsed {E} word text (Ok n) same parses numeral small =
    let here : ParsesUnsigned {E = E} 64 10 word (Ok n) =
    subst (λ (w : List ℕ). ParsesUnsigned {E = E} 64 10 w (Ok n)) same parses in ap Ok here.1
seed-parsed {E} word text (Err fault) same parses numeral small =
    let here : ParsesUnsigned {E = E} 64 10 word (Err fault) =
    subst (λ (w : List ℕ). ParsesUnsigned {E = E} 64 10 w (Err fault)) same parses in
    absurd (here (numeral, small))

pub seed-is : {E : Type 0} (args : List (List ℕ)) (word text : List ℕ) (r : Result ℕ E) (seed : ℕ) → args ≡ word ∷ []
    → text ≡ word → ParsesUnsigned 64 10 text r → r ≡ Ok seed → IsSeed args seed
seed-is {E} args word text r seed cut same parses is =
    let read : ParsesUnsigned {E = E} 64 10 text (Ok seed) =
    subst (λ (x : Result ℕ E). ParsesUnsigned 64 10 text x) is parses in
    let here : ParsesUnsigned {E = E} 64 10 word (Ok seed) =
    subst (λ (w : List ℕ). ParsesUnsigned {E = E} 64 10 w (Ok seed)) same read in
    (word, cut, here.0.0, here.0.1, here.1)

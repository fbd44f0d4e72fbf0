-- The first word of a text.
use Rattle.std.proofs.Common.{◌≡◌, ℕ, ◌<◌, ◌≤◌, ◌==◌, Bool, true, false, List, [], ◌∷◌, length, get_or, Option, Some, None, zero, suc, refl, ap, arith, nat_lt}
use Rattle.std.specs.List.{position, position_or_len}
use Rattle.std.proofs.lemmas.List.Splits.{length-slice_split}
use Rattle.memchr.specs.Find.{IsFirstByte, is_byte}
use Rattle.flat_model.specs.Scripts.Grammar.{words}

-- a text has at least one word
pub words-some : (text : List ℕ) → words text ≡ [] → ⊥
words-some text e =
    let size = length-slice_split (λ b. b == 32) text in
    let none : length (words text) ≡ 0 = ap length e in
    omega (arith, size, none)

not_true : (b : Bool) → (b ≡ true → ⊥) → b ≡ false
not_true true none = absurd (none refl)
not_true false none = refl

-- the first place at which the test passes
first_at : (text : List ℕ) (at : ℕ) → at < length text
    → ((k : ℕ) → 0 ≤ k → k < at → (get_or text k 0 == 32) ≡ true → ⊥) → (get_or text at 0 == 32) ≡ true
    → position_or_len (λ b. b == 32) text ≡ at
first_at [] at below none is = absurd (omega arith)
first_at (b ∷ text) zero below none is = rw is refl
first_at (b ∷ text) (suc at) below none is =
    let other = not_true (b == 32) (none 0 (omega arith) (omega arith)) in
    let later = first_at text at (omega arith) (λ k low high pass. none (suc k) (omega arith) (omega arith) pass) is in
    rw (other, later) (omega arith)

-- the test passes nowhere
first_nowhere : (text : List ℕ) → ((k : ℕ) → 0 ≤ k → k < length text → (get_or text k 0 == 32) ≡ true → ⊥)
    → position_or_len (λ b. b == 32) text ≡ length text
first_nowhere [] none = refl
first_nowhere (b ∷ text) none =
    let other = not_true (b == 32) (none 0 (omega arith) (omega arith)) in
    let later = first_nowhere text (λ k low high pass. none (suc k) (omega arith) (omega arith) pass) in
    rw (other, later) (omega arith)

is_below : (a b : ℕ) → a < b → nat_lt a b ≡ true
is_below a b h = grind arith

isnt_below : (a : ℕ) → nat_lt a a ≡ false
isnt_below a = grind arith

-- the first space in a text, as the search found it
pub first-position : (text : List ℕ) (r : Option ℕ) → IsFirstByte (is_byte 32) text r → r ≡ position (λ b. b == 32) text
first-position text (Some at) h =
    rw (first_at text at h.0.high h.0.before h.1, is_below at (length text) h.0.high) refl
first-position text None h = rw (first_nowhere text h, isnt_below (length text)) refl

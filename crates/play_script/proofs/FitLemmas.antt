-- Words that are compared one after another.
use Rattle.std.proofs.Common.{◌≡◌, ℕ, ◌==◌, Bool, true, false, ◌&&◌, List, [], ◌∷◌, length, bytes_eq, codes, refl, ap, arith}
use Rattle.std.proofs.lemmas.List.Splits.{length-slice_split}
use Rattle.flat_model.specs.Scripts.Grammar.{words}
use Rattle.play_script.specs.Outcomes as outcomes

-- a text has at least one word
pub words-some : (text : List ℕ) → words text ≡ [] → ⊥
words-some text e =
    let size = length-slice_split (λ b. b == 32) text in
    let none : length (words text) ≡ 0 = ap length e in
    omega (arith, size, none)

and-false : (b : Bool) → (b && false) ≡ false
and-false true = refl
and-false false = refl

and-and-false : (a b : Bool) → (a && (b && false)) ≡ false
and-and-false true b = and-false b
and-and-false false b = refl

-- two words or more aren't just `..`
pub rest-longer : (wanted more : List (List ℕ)) (word : List ℕ) → wanted ≡ word ∷ more → (more ≡ [] → ⊥)
    → outcomes.is_rest wanted ≡ false
rest-longer wanted [] word e some = absurd (some refl)
rest-longer wanted (next ∷ more) word e some = rw e refl

-- the reply has no more words
pub fits-end : (wanted : List (List ℕ)) → (wanted ≡ [] → ⊥) → outcomes.fits_words wanted [] ≡ outcomes.is_rest wanted
fits-end [] some = absurd (some refl)
fits-end (word ∷ more) some = refl

fits-fewer : (reply_line : List (List ℕ)) → (reply_line ≡ [] → ⊥) → outcomes.fits_words [] reply_line ≡ false
fits-fewer [] some = absurd (some refl)
fits-fewer (got ∷ rest) some = refl

-- if the words aren't just `..`, the first must match, and so must those after it
pub fits-step : (wanted reply_line more rest : List (List ℕ)) (word got : List ℕ) → wanted ≡ word ∷ more → reply_line ≡
    got ∷ rest
    → outcomes.is_rest wanted ≡ false
    → outcomes.fits_words wanted reply_line
    ≡ (outcomes.is_same_word word got && outcomes.fits_words more rest)
fits-step wanted reply_line more rest word got e f none =
    rw (e, f) (
    let mine : outcomes.is_rest (word ∷ more) ≡ false = rw e at none in rw mine refl
    )

-- more words are expected than the reply has, or fewer
pub fits-longer : (wanted reply_line more : List (List ℕ)) (word got : List ℕ) → wanted ≡ word ∷ more → reply_line ≡ got
    ∷ []
    → (more ≡ [] → ⊥) → outcomes.is_rest wanted ≡ false → outcomes.is_same_word word got ≡ true
    → outcomes.fits_words wanted reply_line ≡ outcomes.is_rest more
fits-longer wanted reply_line more word got e f some none same =
    rw (fits-step wanted reply_line more [] word got e f none, same) (fits-end more some)

pub fits-shorter : (wanted reply_line more : List (List ℕ)) (word got : List ℕ) → wanted ≡ word ∷ [] → reply_line ≡ got
    ∷ more
    → (more ≡ [] → ⊥) → outcomes.is_rest wanted ≡ false
    → outcomes.fits_words wanted reply_line ≡ false
fits-shorter wanted reply_line more word got e f some none =
    rw (fits-step wanted reply_line [] more word got e f none, fits-fewer more some) (and-false _)

pub unnumbered-longer : (wanted reply_line more : List (List ℕ)) (word got number : List ℕ) → wanted ≡ word ∷ more
    → reply_line ≡ got ∷ number ∷ [] → (more ≡ [] → ⊥)
    → outcomes.fits_unnumbered wanted reply_line
    ≡ (bytes_eq word (codes "error") && (bytes_eq got (codes "error") && outcomes.is_rest more))
unnumbered-longer wanted reply_line more word got number e f some = rw (e, f, fits-end more some) refl

pub unnumbered-shorter : (wanted reply_line more : List (List ℕ)) (word got number : List ℕ) → wanted ≡ word ∷ []
    → reply_line ≡ got ∷ number ∷ more
    → (more ≡ [] → ⊥) → outcomes.fits_unnumbered wanted reply_line ≡ false
unnumbered-shorter wanted reply_line more word got number e f some =
    rw (e, f, fits-fewer more some) (and-and-false _ _)

-- The reply to a line, with the causes for which packets were dropped (this project's own).
use Rattle.std.specs.Prelude.{ℕ, ◌==◌, ◌-◌, ◌&&◌, ◌||◌, Bool, true, false, List, [], ◌∷◌, ◌++◌, length, get_or, drop, take, flat_map, if◌then◌else◌, codes, bytes_eq, Option, Some, None}
use Rattle.flat_model.specs.Machine.Count.{counter_of}
use Rattle.flat_model.specs.Machine.Event.{Reply}
use Rattle.flat_model.specs.Machine.State.{State}
use Rattle.flat_model.specs.Scripts.Grammar.{words}
use Rattle.flat_model.specs.Scripts.Texts.{reply_text}
use Rattle.flat_model.specs.declared.counters.Counters.{Counters}
use Rattle.flat_model.specs.declared.counters.Why.{Why}
use Rattle.play_text.specs.Words.{all_causes, cause_words, rose}

-- ---- why packets were dropped

-- a cause is printed if its counter went up
abbrev pub cause_text : Counters → Counters → Why → List ℕ
cause_text before after why =
    if rose (counter_of why) before after then codes " dropped " ++ cause_words why else []

abbrev pub drops_text : Counters → Counters → List ℕ
drops_text before after = flat_map (cause_text before after) all_causes

-- the causes whose counters are higher in the later state
abbrev pub drops_between : State → State → List ℕ
drops_between old new = drops_text old.counters new.counters

-- ---- the outcome of a line

abbrev pub is_some_text : List ℕ → Bool
is_some_text [] = false
is_some_text (byte ∷ bytes) = true

-- The reply and the causes. If packets were dropped, a bare `ok` isn't printed.
abbrev pub reply_line : List ℕ → List ℕ → List ℕ
reply_line reply drops = if bytes_eq reply (codes "ok") && is_some_text drops then drop 1 drops else reply ++ drops

-- a line without a request has no outcome
abbrev pub outcome : Option Reply → Counters → Counters → Option (List ℕ)
outcome None before after = None
outcome (Some reply) before after = Some (reply_line (reply_text reply) (drops_text before after))

-- ---- what is expected

-- the single word `..`
abbrev pub is_rest : List (List ℕ) → Bool
is_rest [] = false
is_rest (word ∷ []) = bytes_eq word (codes "..")
is_rest (word ∷ next ∷ words) = false

-- a mark of punctuation: a comma, a full stop, a colon or a semicolon
abbrev pub is_mark : ℕ → Bool
is_mark byte = byte == 44 || (byte == 46 || (byte == 58 || byte == 59))

-- a word without the mark that it ends with
abbrev pub bare : List ℕ → List ℕ
bare word = if is_mark (get_or word (length word - 1) 0) then take (length word - 1) word else word

-- `_` matches any word, and a mark at the end of a word doesn't count
abbrev pub is_same_word : List ℕ → List ℕ → Bool
is_same_word word got = bytes_eq word (codes "_") || bytes_eq (bare word) (bare got)

-- The words match one by one: `_` matches any word, and `..` at the end matches any rest, even an empty one.
abbrev pub fits_words : List (List ℕ) → List (List ℕ) → Bool
fits_words [] [] = true
fits_words (word ∷ words) (got ∷ gots) =
    is_rest (word ∷ words) || (is_same_word word got && fits_words words gots)
fits_words [] (got ∷ gots) = false
fits_words (word ∷ words) [] = is_rest (word ∷ words)

-- an error may be expected without its number
abbrev pub fits_unnumbered : List (List ℕ) → List (List ℕ) → Bool
fits_unnumbered (word ∷ words) (got ∷ number ∷ gots) =
    bytes_eq word (codes "error") && (bytes_eq got (codes "error") && fits_words words gots)
fits_unnumbered [] gots = false
fits_unnumbered (word ∷ words) [] = false
fits_unnumbered (word ∷ words) (got ∷ []) = false

abbrev pub meets_reply : List ℕ → List ℕ → Bool
meets_reply wanted reply_line = fits_words (words wanted) (words reply_line) || fits_unnumbered (words wanted) (words
    reply_line)

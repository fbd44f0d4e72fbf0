-- The mark for an answer, compared with a key's (this project's own).
use Rattle.std.specs.Prelude.{ℕ, ◌==◌, ◌&&◌, ◌||◌, not, Bool, true, false, List, [], ◌∷◌, length, if◌then◌else◌, codes, bytes_eq, Option, Some, None}
use Rattle.flat_model.specs.Scripts.Grammar.{words}
use Rattle.play_script.specs.Outcomes.{meets_reply}
use Rattle.play_grade.specs.declared.marks.Mark.{Mark}
use Rattle.play_grade.specs.declared.marks.Mark.TheVariants.{Right, Wrong, Missing}

-- an open word: it is empty, stands for any word, or is the placeholder of an answer
abbrev pub is_open_word : List ℕ → Bool
is_open_word word =
    length word == 0 || (bytes_eq word (codes "_") || (bytes_eq word (codes "?") || bytes_eq word (codes "..")))

abbrev pub all_open : List (List ℕ) → Bool
all_open [] = true
all_open (word ∷ words) = is_open_word word && all_open words

-- an answer has a word that isn't open
abbrev pub is_answer : Option (List ℕ) → Bool
is_answer None = false
is_answer (Some text) = not (all_open (words text))

-- it is right if it meets the key's answer as a reply would
abbrev pub mark_of : List ℕ → Option (List ℕ) → Mark
mark_of wanted None = Missing
mark_of wanted (Some given) =
    if all_open (words given) then Missing
    else if meets_reply wanted given then Right
    else Wrong

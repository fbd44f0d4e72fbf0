-- Which command a misspelled word is near to (this project's own).
use Rattle.std.specs.Prelude.{ℕ, ◌==◌, ◌&&◌, ◌||◌, Bool, List, [], ◌∷◌, length, take, drop, get_or, bytes_eq, if◌then◌else◌, nat_le, Option}
use Rattle.std.specs.List.{find}
use Rattle.play_forms.specs.Table.{name_of}
use Rattle.play_forms.specs.declared.command.Command.{Command}

-- the first two bytes are swapped
abbrev pub is_swapped : List ℕ → List ℕ → Bool
is_swapped word name =
    (nat_le 2 (length word) && nat_le 2 (length name))
    && (get_or word 0 0 == get_or name 1 0
    && (get_or word 1 0 == get_or name 0 0 && bytes_eq (drop 2 word) (drop 2 name)))

-- They differ by one edit at their first bytes: one byte is replaced, missing or added, or two are swapped.
abbrev pub differs_once : List ℕ → List ℕ → Bool
differs_once word name =
    bytes_eq (drop 1 word) (drop 1 name)
    || (bytes_eq word (drop 1 name) || (bytes_eq (drop 1 word) name || is_swapped word name))

-- they differ by one edit at any byte, or are equal
abbrev pub is_typo : List ℕ → List ℕ → Bool
is_typo [] name = differs_once [] name
is_typo (a ∷ word) [] = differs_once (a ∷ word) []
is_typo (a ∷ word) (b ∷ name) = if a == b then is_typo word name else differs_once (a ∷ word) (b ∷ name)

-- the second begins with the first, which has three bytes or more
abbrev pub is_front : List ℕ → List ℕ → Bool
is_front front word = nat_le 3 (length front) && bytes_eq front (take (length front) word)

-- A word is near to a name if one edit turns it into the name, or if one of the two begins with the other.
abbrev pub is_near : List ℕ → List ℕ → Bool
is_near word name = is_typo word name || (is_front word name || is_front name word)

-- the word is the command's name
abbrev pub has_name : List ℕ → Command → Bool
has_name word asked = bytes_eq word (name_of asked)

-- the first of some commands that a word is near to
abbrev pub nearest : List ℕ → List Command → Option Command
nearest word commands = find (λ c. is_near word (name_of c)) commands

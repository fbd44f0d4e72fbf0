-- The lines of an input, which is cut at each byte 10 (this project's own).
use Rattle.std.specs.Prelude.{ℕ, ◌==◌, List, [], ◌∷◌, ◌++◌, if◌then◌else◌}

-- the whole lines, each ended by a byte 10; `begun` came before the bytes
abbrev pub whole_lines_after : List ℕ → List ℕ → List (List ℕ)
whole_lines_after begun [] = []
whole_lines_after begun (byte ∷ bytes) =
    if byte == 10 then begun ∷ whole_lines_after [] bytes else whole_lines_after (begun ++ byte ∷ []) bytes

-- the bytes after the last byte 10; `begun` came before the bytes
abbrev pub begun_after : List ℕ → List ℕ → List ℕ
begun_after begun [] = begun
begun_after begun (byte ∷ bytes) =
    if byte == 10 then begun_after [] bytes else begun_after (begun ++ byte ∷ []) bytes

-- the whole lines, without the byte 10 that ends each
unfoldable pub whole_lines : List ℕ → List (List ℕ)
whole_lines input = whole_lines_after [] input

-- the last line, if no byte 10 ends it
unfoldable pub begun_line : List ℕ → List ℕ
begun_line input = begun_after [] input

-- an unfinished last line is a line too, if it has a byte
abbrev pub last_line : List ℕ → List (List ℕ)
last_line [] = []
last_line (byte ∷ bytes) = (byte ∷ bytes) ∷ []

-- all lines of an input that has ended
abbrev pub lines : List ℕ → List (List ℕ)
lines input = whole_lines input ++ last_line (begun_line input)

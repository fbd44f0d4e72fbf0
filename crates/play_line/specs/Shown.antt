-- The part of a line that is printed: everything before its comment and its expectation (this project's own).
use Rattle.std.specs.Prelude.{ℕ, ◌==◌, ◌||◌, ◌&&◌, not, Bool, true, false, List, [], ◌∷◌, ◌++◌, if◌then◌else◌}
use Rattle.play_line.specs.Bytes.{is_blank}

-- the text between the bytes so far and the next one
abbrev pub gap_text : Bool → List ℕ → List ℕ
gap_text true (byte ∷ bytes) = 32 ∷ []
gap_text true [] = []
gap_text false done = []

-- The bytes after `done`. There was a blank after the last one if `gap`. The next byte is in a text if `quoted`, and
-- follows a backslash there if `escaped`.
abbrev pub shown_after : List ℕ → Bool → Bool → Bool → List ℕ → List ℕ
shown_after done gap quoted escaped [] = done
shown_after done gap quoted escaped (byte ∷ bytes) =
    if not quoted && (byte == 35 || byte == 61) then done
    else if not quoted && is_blank byte then shown_after done true quoted escaped bytes
    else shown_after ((done ++ gap_text gap done) ++ byte ∷ []) false
    (if quoted then escaped || not (byte == 34) else byte == 34) (quoted && (not escaped && byte == 92)) bytes

-- the words of a line as they are written, with one space between each two
abbrev pub shown : List ℕ → List ℕ
shown line = shown_after [] false false false line

-- JSON strings can be read back.
use Rattle.std.specs.Prelude.{◌≡◌, ℕ, ◌<◌, List, ◌∷◌, ◌++◌, flat_map, All, Some}
use Rattle.std.specs.Char.{encode_utf8}
use Rattle.json.specs.Text.{content, plain}
use Rattle.play_text.specs.Strings.{escaped}

-- A reader that follows RFC 8259 gets each byte as the character with its number, whatever follows the string.
abbrev pub IsReadBack : Type 0
IsReadBack =
    (bytes after : List ℕ) → All (λ byte. byte < 256) bytes
    → content plain (escaped bytes ++ 34 ∷ after) ≡ Some (flat_map encode_utf8 bytes)

-- The output formats of a player, and the colours of two of them (this project's own).
use Rattle.std.specs.Prelude.{ℕ, zero, suc, Bool, true, false, List, [], ◌∷◌, ◌++◌, take, drop, codes, if◌then◌else◌}
use Rattle.play_text.specs.Bytes.{begins_with, seen}
use Rattle.play_text.specs.declared.bytes.ByteForm.{ByteForm}
use Rattle.play_text.specs.declared.bytes.ByteForm.TheVariants.{Digits, Cut, Texts}
use Rattle.play_text.specs.declared.form.Form.{Form}
use Rattle.play_text.specs.declared.form.Form.TheVariants.{Plain, Quiet, Coloured, QuietColoured, Json}

-- only replies and differences
abbrev pub is_quiet : Form → Bool
is_quiet Quiet = true
is_quiet QuietColoured = true
is_quiet _ = false

abbrev pub is_coloured : Form → Bool
is_coloured Coloured = true
is_coloured QuietColoured = true
is_coloured _ = false

abbrev pub is_json : Form → Bool
is_json Json = true
is_json _ = false

-- How the bytes of replies are printed: with texts if the script has used one. The quiet formats and JSON, which
-- programs compare, print all digits.
abbrev pub byte_form : Form → Bool → ByteForm
byte_form Plain texts = if texts then Texts else Cut
byte_form Coloured texts = if texts then Texts else Cut
byte_form Quiet texts = Digits
byte_form QuietColoured texts = Digits
byte_form Json texts = Digits

-- ---- colours, by SGR (ECMA-48 section 8.3.117): ESC [ 3 COLOUR m, and ESC [ 0 m ends them

abbrev pub red : List ℕ
red = 27 ∷ codes "[31m"

abbrev pub green : List ℕ
green = 27 ∷ codes "[32m"

abbrev pub yellow : List ℕ
yellow = 27 ∷ codes "[33m"

abbrev pub ended : List ℕ
ended = 27 ∷ codes "[0m"

-- one of these, if there are colours
abbrev pub if_coloured : Form → List ℕ → List ℕ
if_coloured form code = if is_coloured form then code else []

-- ---- the colours of the output for a line

-- the position of the first `dropped `, or of the end of the text
abbrev pub drops_at : List ℕ → ℕ
drops_at [] = zero
drops_at (byte ∷ bytes) = if begins_with (byte ∷ bytes) (codes "dropped ") then zero else suc (drops_at bytes)

-- an error is red, and every other reply green
abbrev pub reply_colour : List ℕ → List ℕ
reply_colour reply = if begins_with reply (codes "error ") then red else green

-- an empty part has no colour
abbrev pub part_text : List ℕ → ByteForm → List ℕ → List ℕ
part_text colour form [] = []
part_text colour form (byte ∷ bytes) = colour ++ seen form (byte ∷ bytes) ++ ended

-- the reply, and why packets were dropped
abbrev pub parts_text : ByteForm → ℕ → List ℕ → List ℕ
parts_text form at reply =
    part_text (reply_colour reply) form (take at reply) ++ part_text yellow Digits (drop at reply)

abbrev pub coloured_reply : Bool → ByteForm → List ℕ → List ℕ
coloured_reply true form reply = parts_text form (drops_at reply) reply
coloured_reply false form reply = seen form reply

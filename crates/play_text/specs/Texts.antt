-- The output for a line of a script (this project's own).
use Rattle.std.specs.Prelude.{ℕ, Bool, true, false, List, [], ◌++◌, if◌then◌else◌, codes, decimal, Option, Some, None, is_some}
use Rattle.play_line.specs.Faults.{misread_words}
use Rattle.play_line.specs.declared.fault.SyntaxError.{SyntaxError}
use Rattle.play_text.specs.Bytes.{difference, seen}
use Rattle.play_text.specs.Forms.{byte_form, is_quiet, is_coloured, is_json, if_coloured, red, ended, coloured_reply}
use Rattle.play_text.specs.Pieces.{number_or}
use Rattle.play_text.specs.Strings.{string_text}
use Rattle.play_text.specs.declared.form.Form.{Form}

-- a text, if there is one
abbrev pub if_there : Bool → List ℕ → Option (List ℕ)
if_there true text = Some text
if_there false text = None

-- ---- readable texts

-- the line with its number
abbrev pub head_text : Bool → ℕ → List ℕ → List ℕ
head_text true number line = []
head_text false number line = decimal number ++ codes "  " ++ line ++ codes " => "

-- The line and its output. Bytes may be printed as texts if `texts`.
abbrev pub line_text : Form → Bool → ℕ → List ℕ → List ℕ → List ℕ
line_text form texts number line reply =
    head_text (is_quiet form) number line ++ coloured_reply (is_coloured form) (byte_form form texts) reply ++ codes
    "\n"

abbrev pub differs_text : Form → Bool → List ℕ → ℕ → List ℕ → List ℕ → List ℕ
differs_text form texts name number wanted reply =
    if_coloured form red ++ name ++ codes ":" ++ decimal number ++ codes ": expected "
    ++ seen (byte_form form texts) wanted ++ codes ", got " ++ seen (byte_form form texts) reply
    ++ difference (byte_form form texts) wanted reply ++ if_coloured form ended ++ codes "\n"

-- empty, if the expectation was met or there was none
abbrev pub difference_text : Form → Bool → List ℕ → ℕ → Option (List ℕ) → Bool → List ℕ → List ℕ
difference_text form texts name number (Some wanted) false reply = differs_text form texts name number wanted reply
difference_text form texts name number _ met reply = []

abbrev pub lines_text : Form → Bool → List ℕ → ℕ → List ℕ → Option (List ℕ) → Bool → List ℕ → List ℕ → List ℕ
lines_text form texts name number line wanted met reply below =
    line_text form texts number line reply ++ below ++ difference_text form texts name number wanted met reply

-- ---- texts for programs

-- the expectation, and whether it was met
abbrev pub expected_text : Option (List ℕ) → Bool → List ℕ
expected_text None met = codes ",\"expected\":null,\"met\":null}\n"
expected_text (Some wanted) met =
    codes ",\"expected\":" ++ string_text wanted
    ++ codes ",\"met\":" ++ (if met then codes "true" else codes "false") ++ codes "}\n"

abbrev pub outcome_object : List ℕ → ℕ → List ℕ → Option (List ℕ) → Bool → List ℕ → List ℕ → List ℕ
outcome_object name number line wanted met reply below =
    codes "{\"number\":" ++ decimal number ++ codes ",\"file\":" ++ string_text name
    ++ codes ",\"line\":" ++ string_text line ++ codes ",\"reply\":" ++ string_text reply
    ++ codes ",\"below\":" ++ string_text below ++ expected_text wanted met

abbrev pub fault_object : List ℕ → ℕ → Option ℕ → List ℕ → List ℕ
fault_object name number column what =
    codes "{\"number\":" ++ decimal number ++ codes ",\"file\":" ++ string_text name
    ++ codes ",\"column\":" ++ number_or column (codes "null") ++ codes ",\"fault\":" ++ string_text what ++ codes "}\n"

-- ---- in each format

-- the error in a line, or in a byte of it
abbrev pub spot_fault : Form → List ℕ → ℕ → Option ℕ → List ℕ → List ℕ
spot_fault form name number column what =
    if is_json form then fault_object name number column what
    else if_coloured form red ++ name ++ codes ":" ++ decimal number ++ (if is_some column then codes ":" else [])
    ++ number_or column [] ++ codes ": " ++ what ++ if_coloured form ended ++ codes "\n"

abbrev pub fault_text : Form → List ℕ → ℕ → List ℕ → List ℕ
fault_text form name number what = spot_fault form name number None what

-- bytes that can't be parsed, with their column
abbrev pub line_error_text : Form → List ℕ → ℕ → SyntaxError → List ℕ
line_error_text form name number error = spot_fault form name number (Some error.column) (misread_words error.fault)

-- the output for a line and the notes below it, and the expectation, if it differs from the output
abbrev pub outcome_text : Form → Bool → List ℕ → ℕ → List ℕ → Option (List ℕ) → Bool → List ℕ → List ℕ → List ℕ
outcome_text form texts name number line wanted met reply below =
    if is_json form then outcome_object name number line wanted met reply below
    else lines_text form texts name number line wanted met reply below

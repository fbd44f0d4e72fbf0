-- The parts of a line of a commented script (this project's own).
use Rattle.std.specs.Prelude.{ℕ, ◌+◌, ◌-◌, ◌==◌, ◌||◌, Bool, false, List, [], ◌∷◌, length, take, drop, get_or, position, if◌then◌else◌, nat_lt, Option, Some, None, Result, Ok, Err}
use Rattle.flat_model.specs.Machine.Count.{more_by}
use Rattle.play_line.specs.Line.{expanded}
use Rattle.play_line.specs.Shown.{shown}
use Rattle.play_line.specs.declared.fault.SyntaxError.{SyntaxError}
use Rattle.play_packet.specs.Builds.{named}
use Rattle.play_line.specs.declared.line.TheConstants.{LONGEST}

-- a text without a space at its end, or at its beginning
abbrev pub untailed : List ℕ → List ℕ
untailed text = if get_or text (length text - 1) 0 == 32 then take (length text - 1) text else text

abbrev pub unheaded : List ℕ → List ℕ
unheaded text = if get_or text 0 0 == 32 then drop 1 text else text

-- ---- texts

-- a quote, before any comment
abbrev pub quote_at : List ℕ → Option ℕ → Bool
quote_at line (Some at) = get_or line at 0 == 34
quote_at line None = false

-- the line contains a text in quotes
abbrev pub has_text : List ℕ → Bool
has_text line = quote_at line (position (λ byte. byte == 34 || byte == 35) line)

-- ---- an expectation

-- cut at a `=` that is followed by `>`
abbrev pub front_at : List ℕ → Option ℕ → List ℕ
front_at text (Some at) = if get_or text (at + 1) 0 == 62 then take at text else text
front_at text None = text

abbrev pub back_at : List ℕ → Option ℕ → Option (List ℕ)
back_at text (Some at) = if get_or text (at + 1) 0 == 62 then Some (drop (at + 2) text) else None
back_at text None = None

-- what comes before `=>`, the first `=` of the text
abbrev pub asked : List ℕ → List ℕ
asked text = front_at text (position (λ byte. byte == 61) text)

-- what comes after it
abbrev pub expected : List ℕ → Option (List ℕ)
expected text = back_at text (position (λ byte. byte == 61) text)

-- ---- kinds of lines

pub data Reading : Type 0 where
  Nothing : Reading  -- a blank line, or only a comment
  TooLong : Reading  -- more than 262,144 bytes
  Faulty : (error : SyntaxError) → Reading  -- bytes that can't be read, or words that name no packet
  -- the line as it's written, its plain line, and the expected reply
  Asks : (shown plain : List ℕ) (wanted : Option (List ℕ)) → Reading

abbrev pub unheaded_option : Option (List ℕ) → Option (List ℕ)
unheaded_option None = None
unheaded_option (Some text) = Some (unheaded text)

-- without words and an expectation, the line is empty
abbrev pub reading_of : List ℕ → List ℕ → Option (List ℕ) → Reading
reading_of shown [] None = Nothing
reading_of shown [] (Some wanted) = Asks shown [] (Some wanted)
reading_of shown (byte ∷ bytes) wanted = Asks shown (byte ∷ bytes) wanted

-- the words of a line, with the bytes of a packet instead of the words that describe it, and the expectation
abbrev pub reading_words : List ℕ → Result (List ℕ) SyntaxError → Option (List ℕ) → Reading
reading_words shown (Ok words) wanted = reading_of shown words wanted
reading_words shown (Err error) wanted = Faulty error

-- a line as it's written, and the plain line of a part of it
abbrev pub reading_plain : List ℕ → List ℕ → Result (List ℕ) SyntaxError → Reading
reading_plain line part (Ok text) =
    reading_words (shown line) (named part (untailed (asked text))) (unheaded_option (expected text))
reading_plain line part (Err error) = Faulty error

-- a line whose time or host was parsed before: this part is parsed, and the whole line is printed
abbrev pub reading_part : List ℕ → List ℕ → Reading
reading_part line part =
    if nat_lt LONGEST (length line) then TooLong
    else reading_plain line part (expanded part)

-- an error in a part of a line that follows `before` bytes
abbrev pub shifted : ℕ → SyntaxError → SyntaxError
shifted before error = record error { column = more_by before error.column }

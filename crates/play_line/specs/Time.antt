-- The time that passes before a line, written at its beginning: `+0.5s`, like in packetdrill (this project's own).
use Rattle.std.specs.Prelude.{ℕ, ◌+◌, ◌*◌, ◌==◌, ◌||◌, List, length, take, drop, position, codes, bytes_eq, nat_lt, if◌then◌else◌, Option, Some, None, Result, Ok, Err}
use Rattle.play_line.specs.Bytes.{digits_value, front, is_blank, is_next, place_or_end, skip}
use Rattle.play_line.specs.Line.{column_at, is_end}
use Rattle.play_line.specs.declared.bytes.Class.TheVariants.{Decimal}
use Rattle.play_line.specs.declared.fault.Fault.TheVariants.{NoTime}
use Rattle.play_line.specs.declared.fault.SyntaxError.{SyntaxError}
use Rattle.play_line.specs.declared.time.Timed.{Timed}
use Rattle.play_line.specs.declared.time.TheConstants.{MOST_TICKS, MOST_WORD}

-- a line without its time
pub record TimedView : Type 0 where
  pub ticks : ℕ  -- how many pass first, each half a second
  pub part : List ℕ  -- the line after the time and the blanks that follow it

-- the ticks that the text after the whole seconds adds
abbrev pub half_of : List ℕ → Option ℕ
half_of word =
    if bytes_eq word (codes "s") || bytes_eq word (codes ".0s") then Some 0
    else if bytes_eq word (codes ".5s") then Some 1 else None

-- at most the number of ticks that a line `tick` can have
abbrev pub ticks_by : ℕ → Option ℕ → Option ℕ
ticks_by seconds (Some half) = if nat_lt MOST_TICKS (2 * seconds + half) then None else Some (2 * seconds + half)
ticks_by seconds None = None

-- the ticks for a word after `+`: whole seconds in decimal digits, then `s`, `.0s` or `.5s`
abbrev pub ticks_in : List ℕ → Option ℕ
ticks_in word =
    if front Decimal word == 0 || nat_lt MOST_WORD (length word) then None
    else ticks_by (digits_value (take (front Decimal word) word)) (half_of (drop (front Decimal word) word))

-- how many bytes come before the first blank
abbrev pub word_end : List ℕ → ℕ
word_end left = place_or_end (position (λ byte. is_blank byte) left) left

-- the column is that of `+`
abbrev pub no_time : List ℕ → List ℕ → Result TimedView SyntaxError
no_time line at = Err (record { fault = NoTime; column = column_at line (length at) })

-- a time, and a line after it that isn't empty
abbrev pub with_time : List ℕ → List ℕ → Option ℕ → List ℕ → Result TimedView SyntaxError
with_time line at (Some n) part =
    if is_end part then no_time line at else Ok (record { ticks = n; part = part })
with_time line at None part = no_time line at

-- the text after the leading blanks of a line
abbrev pub timed_at : List ℕ → List ℕ → Result TimedView SyntaxError
timed_at line at =
    if is_next 43 at
    then with_time line at (ticks_in (take (word_end (drop 1 at)) (drop 1 at)))
    (skip (drop (word_end (drop 1 at)) (drop 1 at)))
    else Ok (record { ticks = 0; part = line })

-- the time at the beginning of a line after `+`, and the line; or the error in it
abbrev pub timed : List ℕ → Result TimedView SyntaxError
timed line = timed_at line (skip line)

-- ---- the values in the code

abbrev pub timed_or : Result Timed SyntaxError → Result TimedView SyntaxError
timed_or (Ok t) = Ok (record { ticks = t.ticks; part = t.part.now })
timed_or (Err error) = Err error

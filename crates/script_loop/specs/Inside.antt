-- The state of the loop between two bytes of a script (this project's own).
use Rattle.std.specs.Prelude.{◌≡◌, ◌≢◌, ◌⊎◌, ◌≤◌, ◌+◌, ◌-◌, ◌*◌, ℕ, List, [], ◌∷◌, ◌++◌, length, Option, Some, None, Result, Ok, Err}
use Rattle.std.specs.Io.KnownBytes.{Appends}
use Rattle.flat_model.specs.Scripts.Lines.{whole_lines, begun_line}
use Rattle.script_loop.specs.Printed.{Prints}
use Rattle.script_loop.specs.Serves.{GoesTooFar, StaysWithin}
use Rattle.script_loop.specs.declared.serve.TheConstants.{HELD, LONGEST, MOST_LINES}
use Rattle.script_loop.specs.declared.fault.RunFault.{RunFault}
use Rattle.script_loop.specs.declared.fault.RunFault.TheVariants.{Read, Write, Memory, TooManyLines, BadSizes, BadConfig}

-- All whole lines so far have their replies, the state went from `begin` to `now`, and this line is unfinished.
pub record Answered {S : Type 0} (gives : S → List ℕ → List ℕ → S → Type 0) (begin now : S) (seen line : List ℕ)
    (count : ℕ) (written : List ℕ) : Type 0 where
  pub begun : line ≡ begun_line seen
  pub counted : count ≡ length (whole_lines seen)
  pub within : StaysWithin seen
  pub printed : Prints gives begin (whole_lines seen) written now
  pub last : count ≡ MOST_LINES → line ≡ []

-- how many more bytes may follow
abbrev pub budget : ℕ → List ℕ → ℕ
budget count line = (MOST_LINES - count) * (LONGEST + 1) + (LONGEST + 1 - length line)

-- no byte of these ends a line
abbrev pub EndsNoLine : List ℕ → Type 0
EndsNoLine [] = Unit {0}
EndsNoLine (byte ∷ bytes) = (byte ≢ 10) × EndsNoLine bytes

-- the number of lines so far, and the line that is unfinished, are within the limits
pub record FitsLimits (n : ℕ) (line : List ℕ) : Type 0 where
  pub count : n ≤ MOST_LINES
  pub short : length line ≤ LONGEST

-- the piece may end the line, and there is space for its reply
pub record CanTake (n : ℕ) (line held piece : List ℕ) : Type 0 where
  pub within : FitsLimits n line
  pub text : length held ≤ HELD
  pub part : EndsNoLine piece

-- Bytes that don't end a line are within the limits: none of them comes after the last line that is allowed, or makes
-- the line too long.
abbrev pub HasRoom : ℕ → List ℕ → List ℕ → Type 0
HasRoom count line part = (part ≡ []) ⊎ ((count ≢ MOST_LINES) × (length line + length part ≤ LONGEST))

-- A byte of the piece exceeds a limit, after those seen and those before it in the piece, which don't end a line.
pub record BreaksLimit (seen piece : List ℕ) : Type 0 where
  pub front : List ℕ
  pub byte : ℕ
  pub rest : List ℕ
  pub cut : piece ≡ front ++ byte ∷ rest
  pub within : StaysWithin (seen ++ front)
  pub far : GoesTooFar (seen ++ front) byte
  pub same : whole_lines (seen ++ front) ≡ whole_lines seen

-- What a piece does, after the bytes seen. The reply to the line that it ends is appended to the text.
abbrev pub TakesPiece : {S : Type 0} → (S → List ℕ → List ℕ → S → Type 0) → S → S → List ℕ → List ℕ → List ℕ
    → List ℕ → List ℕ → List ℕ → Option ℕ → Type 0
TakesPiece gives begin now seen piece printed before after line (Some count) =
    (reply : List ℕ) × (after ≡ before ++ reply)
    × Answered gives begin now (seen ++ piece) line count (printed ++ reply)
TakesPiece gives begin now seen piece printed before after line None =
    BreaksLimit seen piece × (after ≡ before) × Prints gives begin (whole_lines seen) printed now

-- A writer accepted the part of a text before the part that is left at `Ok`, and a prefix of it at `Err(Write)`, which
-- is the only error.
abbrev pub Flushes : Option (List ℕ) → Option (List ℕ) → List ℕ → List ℕ → Result Unit RunFault → Type 0
Flushes before after text left (Ok done) = (sent : List ℕ) × (text ≡ sent ++ left) × Appends before after sent
Flushes before after text left (Err Write) =
    (sent unsent : List ℕ) × (text ≡ sent ++ unsent) × Appends before after sent
Flushes before after text left (Err Read) = ⊥
Flushes before after text left (Err Memory) = ⊥
Flushes before after text left (Err TooManyLines) = ⊥
Flushes before after text left (Err BadSizes) = ⊥
Flushes before after text left (Err BadConfig) = ⊥

-- What a chunk of bytes does, after the bytes seen. The replies in `held` aren't written yet.
abbrev pub TakesChunk : {S : Type 0} → (S → List ℕ → List ℕ → S → Type 0) → S → S → List ℕ → List ℕ → List ℕ
    → Option (List ℕ) → Option (List ℕ) → List ℕ → List ℕ → Result ℕ RunFault → Type 0
TakesChunk gives begin now seen chunk written before after held line (Ok count) =
    (more : List ℕ) × Appends before after more
    × Answered gives begin now (seen ++ chunk) line count ((written ++ more) ++ held)
TakesChunk gives begin now seen chunk written before after held line (Err Write) =
    (front rest more unwritten : List ℕ) × (chunk ≡ front ++ rest) × Appends before after more
    × StaysWithin (seen ++ front)
    × Prints gives begin (whole_lines (seen ++ front)) ((written ++ more) ++ unwritten) now
TakesChunk gives begin now seen chunk written before after held line (Err TooManyLines) =
    (front : List ℕ) × (byte : ℕ) × (rest more : List ℕ) × (chunk ≡ front ++ byte ∷ rest) × StaysWithin (seen ++ front)
    × GoesTooFar (seen ++ front) byte × Appends before after more
    × Prints gives begin (whole_lines (seen ++ front)) (written ++ more) now
TakesChunk gives begin now seen chunk written before after held line (Err Read) = ⊥
TakesChunk gives begin now seen chunk written before after held line (Err Memory) = ⊥
TakesChunk gives begin now seen chunk written before after held line (Err BadSizes) = ⊥
TakesChunk gives begin now seen chunk written before after held line (Err BadConfig) = ⊥

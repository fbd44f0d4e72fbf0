-- The effects of serving a script, by its outcome (this project's own).
use Rattle.std.specs.Prelude.{◌≡◌, ◌≢◌, ℕ, ◌<◌, ◌⊎◌, List, [], ◌∷◌, ◌++◌, length, take, slice_index, Option, Result, Ok, Err}
use Rattle.std.specs.Io.KnownBytes.{Consumes, Appends, IsAtEnd}
use Rattle.flat_model.specs.Scripts.Lines.{whole_lines, begun_line, lines}
use Rattle.script_loop.specs.Printed.{Prints}
use Rattle.script_loop.specs.declared.serve.TheConstants.{LONGEST, MOST_LINES}
use Rattle.script_loop.specs.declared.fault.RunFault.{RunFault}
use Rattle.script_loop.specs.declared.fault.RunFault.TheVariants.{Read, Write, Memory, TooManyLines, BadSizes, BadConfig}

-- ---- limits

-- After this input the byte comes after the last line that is allowed, or makes a line too long.
abbrev pub GoesTooFar : List ℕ → ℕ → Type 0
GoesTooFar input byte = ((length (whole_lines input) ≡ MOST_LINES) × (begun_line input ≡ []))
    ⊎ ((length (begun_line input) ≡ LONGEST) × (byte ≢ 10))

-- no byte of the input exceeds a limit after those before it
abbrev pub StaysWithin : List ℕ → Type 0
StaysWithin input = (k : ℕ) → k < length input → GoesTooFar (take k input) (slice_index input k) → ⊥

-- ---- outcomes

-- The reader delivered the bytes read, and the writer accepted those written, if they record it.
pub record ReadsAndWrites (unread rest : Option (List ℕ)) (read : List ℕ) (before after : Option (List ℕ))
    (written : List ℕ) : Type 0 where
  pub consumed : Consumes unread rest read
  pub appended : Appends before after written

-- The machine went from the old state to the new one, each reply being one that it `gives`. The reader had the bytes
-- `unread` left and has `rest`, and the writer held those `before` and holds those `after`.
abbrev pub Serves : {S : Type 0} → (S → List ℕ → List ℕ → S → Type 0) → S → S
    → Option (List ℕ) → Option (List ℕ) → Option (List ℕ) → Option (List ℕ) → Result Unit RunFault → Type 0
-- all lines got their replies
Serves gives old new unread rest before after (Ok done) =
    (input written : List ℕ) × ReadsAndWrites unread rest input before after written × IsAtEnd rest × StaysWithin input
    × Prints gives old (lines input) written new
-- each whole line got its reply, and an unfinished line didn't
Serves gives old new unread rest before after (Err Read) =
    (input written : List ℕ) × ReadsAndWrites unread rest input before after written × StaysWithin input
    × Prints gives old (whole_lines input) written new
-- a prefix of the replies to the whole lines was written, or to all lines if the input has ended
Serves gives old new unread rest before after (Err Write) =
    (input more written unwritten : List ℕ) × ReadsAndWrites unread rest (input ++ more) before after written
    × StaysWithin input
    × (Prints gives old (whole_lines input) (written ++ unwritten) new
    ⊎ ((more ≡ []) × IsAtEnd rest × Prints gives old (lines input) (written ++ unwritten) new))
-- each whole line before the byte that exceeds a limit got its reply
Serves gives old new unread rest before after (Err TooManyLines) =
    (input : List ℕ) × (byte : ℕ) × (more written : List ℕ)
    × ReadsAndWrites unread rest (input ++ byte ∷ more) before after written × StaysWithin input × GoesTooFar input byte
    × Prints gives old (whole_lines input) written new
-- nothing was read or written
Serves gives old new unread rest before after (Err Memory) = ReadsAndWrites unread rest [] before after [] × (new ≡ old)
Serves gives old new unread rest before after (Err BadSizes) =
    ReadsAndWrites unread rest [] before after [] × (new ≡ old)
Serves gives old new unread rest before after (Err BadConfig) =
    ReadsAndWrites unread rest [] before after [] × (new ≡ old)

-- serving never returns an error of boot
abbrev pub IsServed : Result Unit RunFault → Type 0
IsServed (Err BadSizes) = ⊥
IsServed (Err BadConfig) = ⊥
IsServed (Err Read) = Unit {0}
IsServed (Err Write) = Unit {0}
IsServed (Err Memory) = Unit {0}
IsServed (Err TooManyLines) = Unit {0}
IsServed (Ok done) = Unit {0}

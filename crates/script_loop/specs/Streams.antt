-- How many failures a reader or a writer has returned, if it records them, and which part of a text a writer accepted
-- (this project's own).
use Rattle.std.specs.Prelude.{◌≡◌, ℕ, zero, suc, ◌+◌, List, ◌++◌, Option, Some, None, Result, Ok, Err}
use Rattle.std.specs.Io.KnownBytes.{Appends}
use Rattle.script_loop.specs.declared.fault.RunFault.{RunFault}
use Rattle.script_loop.specs.declared.fault.RunFault.TheVariants.{Read, Write, Memory, TooManyLines, BadSizes, BadConfig}

-- this many more than before, if it is recorded
abbrev pub MoreBy : ℕ → Option ℕ → Option ℕ → Type 0
MoreBy more None new = Unit {0}
MoreBy more (Some n) None = ⊥
MoreBy more (Some n) (Some m) = m ≡ n + more

-- a read that returns an error failed
abbrev pub read_failures : {E : Type 0} → Result ℕ E → ℕ
read_failures (Ok n) = 0
read_failures (Err e) = 1

-- accepting none of some bytes is a failure
abbrev pub taking_failures : ℕ → ℕ
taking_failures zero = 1
taking_failures (suc n) = 0

-- a write of some bytes failed if it returns an error, or accepts none of them
abbrev pub write_failures : {E : Type 0} → Result ℕ E → ℕ
write_failures (Ok n) = taking_failures n
write_failures (Err e) = 1

-- the reader failed once if the outcome is `Read`, and otherwise not
abbrev pub reader_failures : Result Unit RunFault → ℕ
reader_failures (Err Read) = 1
reader_failures other = 0

-- the writer failed once if the outcome is `Write`, and otherwise not
abbrev pub writer_failures : {T : Type 0} → Result T RunFault → ℕ
writer_failures (Err Write) = 1
writer_failures other = 0

-- A writer accepted all of the text at `Ok`, and a prefix of it at `Err(Write)`, which is the only error.
abbrev pub Sends : Option (List ℕ) → Option (List ℕ) → List ℕ → Result Unit RunFault → Type 0
Sends before after text (Ok done) = Appends before after text
Sends before after text (Err Write) =
    (written unwritten : List ℕ) × (text ≡ written ++ unwritten) × Appends before after written
Sends before after text (Err Read) = ⊥
Sends before after text (Err Memory) = ⊥
Sends before after text (Err TooManyLines) = ⊥
Sends before after text (Err BadSizes) = ⊥
Sends before after text (Err BadConfig) = ⊥

-- What is read from a stream into a buffer.
use Rattle.std.specs.Prelude.{◌≡◌, ℕ, List, ◌++◌, Option}
use Rattle.std.specs.Io.KnownBytes.{Consumes}

-- The stream, with `old` left to read, gave more bytes. They follow the bytes that the buffer had.
pub record Fills (old : Option (List ℕ)) (buffer : List ℕ) (new : Option (List ℕ)) (filled : List ℕ) : Type 0 where
  pub more : List ℕ
  pub after : filled ≡ buffer ++ more
  pub read : Consumes old new more

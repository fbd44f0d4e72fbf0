-- The words of a line, one after another (this project's own).
use Rattle.std.specs.Prelude.{ℕ, List, [], Option, Some, None}
use Rattle.std.specs.Borrow.{Bor}
use Rattle.flat_model.specs.Scripts.Grammar.{words}

-- the words in the rest of a line
abbrev pub left : Option (Bor (List ℕ)) → List (List ℕ)
left None = []
left (Some text) = words text.now

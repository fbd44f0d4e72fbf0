-- Facts by cases (this project's own). They are records, so that a proof finds their parts from the fact itself.
use Rattle.std.specs.Prelude.{◌≡◌, Bool, true, false, Option, Some, None}

-- P if the test passes, Q if it doesn't
pub record Choice (test : Bool) (P Q : Type 0) : Type 0 where
  pub yes : test ≡ true → P
  pub no : test ≡ false → Q

-- P if there is no value, Q of the value if there is one
pub record Case {T : Type 0} (o : Option T) (P : Type 0) (Q : T → Type 0) : Type 0 where
  pub none : o ≡ None → P
  pub some : (x : T) → o ≡ Some x → Q x

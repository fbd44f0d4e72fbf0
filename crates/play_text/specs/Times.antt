-- Times in words (this project's own).
use Rattle.std.specs.Prelude.{ℕ, ◌+◌, ◌/◌, ◌%◌, List, [], ◌∷◌, ◌++◌, codes, decimal}

-- the six digits of a number below 1,000,000
unfoldable pub six_digits : ℕ → List ℕ
six_digits n =
    (48 + n / 100000 % 10) ∷ (48 + n / 10000 % 10) ∷ (48 + n / 1000 % 10) ∷ (48 + n / 100 % 10)
    ∷ (48 + n / 10 % 10) ∷ (48 + n % 10) ∷ []

-- nanoseconds as seconds with six decimals
unfoldable pub time_text : ℕ → List ℕ
time_text t = decimal (t / 1_000_000_000) ++ codes "." ++ six_digits (t / 1_000 % 1_000_000)

-- The premise of the law of a wire without end, by what the second host has seen.
use Rattle.std.specs.Prelude.{◌≡◌, ◌⊎◌, ℕ, ◌+◌, ◌<◌, List, [], ◌∷◌, map, Option, Some, ⊤}
use Rattle.params.specs.declared.TheConstants.{FRAGMENT_TICKS}
use Rattle.flat_model.specs.Machine.Event.{Event, Comes, Tick}
use Rattle.flat_model.specs.Runs.Run.{Turn}

-- a packet of the first host that arrived: its send's number, and how often the clock has ticked since
pub record Seen : Type 0 where
  pub number : ℕ
  pub age : ℕ

abbrev pub Member : List Seen → Seen → Type 0
Member [] x = ⊥
Member (y ∷ seen) x = (y ≡ x) ⊎ Member seen x

-- one tick later
abbrev pub older : Seen → Seen
older x = record x { age = x.age + 1 }

-- what has been seen after an event; a packet of the first has the number of its send as its label
abbrev pub sees : Event → Option ℕ → List Seen → List Seen
sees (Comes packet) (Some n) seen = record { number = n; age = 0 } ∷ seen
sees Tick label seen = map older seen
sees _ _ seen = seen

-- packets seen fewer than 60 ticks ago come from sends fewer than 65,536 away from this one
abbrev pub IsNear : ℕ → List Seen → Type 0
IsNear n seen = (x : Seen) → Member seen x → x.age < FRAGMENT_TICKS → (x.number < n + 65536) × (n < x.number + 65536)

-- a turn with its label
pub record Labelled : Type 0 where
  pub turn : Turn
  pub label : Option ℕ

abbrev pub IsNearTo : Event → Option ℕ → List Seen → Type 0
IsNearTo (Comes packet) (Some n) seen = IsNear n seen
IsNearTo _ _ seen = ⊤

-- the same for each turn, one after another
abbrev pub AreNear : List Seen → List Labelled → Type 0
AreNear seen [] = ⊤
AreNear seen (l ∷ later) =
    IsNearTo l.turn.event l.label seen × AreNear (sees l.turn.event l.label seen) later

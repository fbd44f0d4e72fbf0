-- The request of a line to the wire (this project's own).
use Rattle.std.specs.Prelude.{◌≡◌, ◌⊎◌, ◌<◌, ◌^◌, ℕ, List, [], ◌∷◌, codes, drop, get_or, Option, Some, None}
use Rattle.std.specs.List.{find}
use Rattle.std.specs.Str.Parse.{IsNumeral, digits_value, without_leading_plus}
use Rattle.flat_model.specs.Scripts.Grammar.{words, IsNumber}
use Rattle.play_wire.specs.Verbs.{IsOneNumber, IsTickCount}
use Rattle.play_wire.specs.declared.carries.Bound.{Bound}
use Rattle.play_wire.specs.declared.carries.Bound.TheVariants.{Times, Quiet}
use Rattle.play_forms.specs.Near.{has_name}
use Rattle.play_forms.specs.Table.{wire_commands}
use Rattle.play_forms.specs.declared.command.Command.{Command}
use Rattle.play_forms.specs.declared.command.Command.TheVariants as command

pub data WireAsk : Type 0 where
  Host : (name : List ℕ) (settings : List (List ℕ)) → WireAsk  -- a host of this name joins, with this link and settings
  Wire : (names : List (List ℕ)) → WireAsk  -- the hosts of these names are joined
  Carry : (bound : Bound) → WireAsk  -- what waits for the links passes
  Collect : WireAsk  -- what waits for the links goes on the wire
  Deliver : WireAsk  -- what is due comes
  Tick : (n : ℕ) → WireAsk  -- this many ticks at each host
  Seed : (seed : ℕ) → WireAsk  -- the choices start with this seed
  Drop : (at : ℕ) → WireAsk  -- a packet under way is lost
  Repeat : (at : ℕ) → WireAsk  -- it goes twice
  Swap : (at other : ℕ) → WireAsk  -- two change places
  Impair : (kind : Command) (words : List (List ℕ)) → WireAsk  -- a chance or a delay is set, by these words
  Show : WireAsk  -- what is under way is shown
  Summary : WireAsk  -- the counters of each host

-- once, or N times; until nothing is left, and at most 1,000 or N times
abbrev pub IsBound : List (List ℕ) → Bound → Type 0
IsBound args (Times n) = ((args ≡ []) × (n ≡ 1)) ⊎ IsOneNumber 1000000 args n
IsBound args (Quiet n) =
    ((args ≡ codes "all" ∷ []) × (n ≡ 1000))
    ⊎ ((word : List ℕ) × (args ≡ codes "all" ∷ word ∷ []) × IsNumber 1000000 word n)

-- decimal digits of a number of 64 bits, with or without a plus before them
abbrev pub IsSeed : List (List ℕ) → ℕ → Type 0
IsSeed args seed =
    (word : List ℕ) × (args ≡ word ∷ []) × IsNumeral 10 (without_leading_plus word)
    × (digits_value 10 (without_leading_plus word) < 2 ^ 64) × (seed ≡ digits_value 10 (without_leading_plus word))

abbrev pub ArePlaces : List (List ℕ) → ℕ → ℕ → Type 0
ArePlaces args at other =
    (first second : List ℕ) × (args ≡ first ∷ second ∷ []) × IsNumber 65535 first at × IsNumber 65535 second other

-- the words after a command are this request
abbrev pub AsksAfter : Command → List (List ℕ) → WireAsk → Type 0
-- a name that is missing is an empty word
AsksAfter command.Host args (Host name settings) = (name ≡ get_or args 0 []) × (settings ≡ drop 1 args)
AsksAfter command.Wire args (Wire names) = names ≡ args
AsksAfter command.Carry args (Carry bound) = IsBound args bound
AsksAfter command.Collect args Collect = args ≡ []
AsksAfter command.Deliver args Deliver = args ≡ []
AsksAfter command.Tick args (Tick n) = IsTickCount args n
AsksAfter command.Seed args (Seed seed) = IsSeed args seed
AsksAfter command.Drop args (Drop at) = IsOneNumber 65535 args at
AsksAfter command.Swap args (Swap at other) = ArePlaces args at other
AsksAfter command.Repeat args (Repeat at) = IsOneNumber 65535 args at
-- words that aren't a place are a chance
AsksAfter command.Repeat args (Impair kind words) =
    ((at : ℕ) → ¬ IsOneNumber 65535 args at) × (kind ≡ command.Repeat) × (words ≡ args)
AsksAfter command.Loss args (Impair kind words) = (kind ≡ command.Loss) × (words ≡ args)
AsksAfter command.Reorder args (Impair kind words) = (kind ≡ command.Reorder) × (words ≡ args)
AsksAfter command.Delay args (Impair kind words) = (kind ≡ command.Delay) × (words ≡ args)
AsksAfter command.ShowWire args Show = args ≡ codes "wire" ∷ []
AsksAfter command.Summary args Summary = args ≡ []
AsksAfter _ _ _ = ⊥

-- the line has this request
abbrev pub WritesWire : List ℕ → WireAsk → Type 0
WritesWire plain ask =
    (asked : Command) × (word : List ℕ) × (args : List (List ℕ)) × (words plain ≡ word ∷ args)
    × (find (has_name word) wire_commands ≡ Some asked) × AsksAfter asked args ask

-- the request of a line, if it has one
abbrev pub AsksWire : List ℕ → Option WireAsk → Type 0
AsksWire plain (Some ask) = WritesWire plain ask
AsksWire plain None = (ask : WireAsk) → ¬ WritesWire plain ask

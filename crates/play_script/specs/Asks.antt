-- The request of a plain line of a play script (this project's own).
use Rattle.std.specs.Prelude.{◌≡◌, ◌⊎◌, ℕ, ◌<◌, true, List, [], ◌∷◌, codes, Option, Some, None}
use Rattle.flat_model.specs.Machine.Event.{Event, Set_limit}
use Rattle.flat_model.specs.Scripts.Grammar.{words, IsNumber, WritesDescriptor}
use Rattle.flat_model.specs.Scripts.Script as script
use Rattle.flat_model.specs.Scripts.Script.{all_events}
use Rattle.play_pcap.specs.Asks.{IsAsked}
use Rattle.play_pcap.specs.declared.ask.Details.{Details}
use Rattle.play_script.specs.Settings.{has_dashes}
use Rattle.play_show.specs.Topics.{topic_asked}
use Rattle.play_show.specs.declared.topic.Topic.{Topic}

pub data Ask : Type 0 where
  Call : (event : Event) → Ask  -- one event of the machine
  Ticks : (n : ℕ) → Ask  -- this many ticks
  Show : (topic : Topic) → Ask  -- a query about the host
  Capture : (name : List ℕ) (details : Details) → Ask  -- the packets of a capture, in the file of this name
  Settings : (named : List (List ℕ)) → Ask  -- a new host: names of settings, each with its value

-- this many ticks, from 1 to 65,535
abbrev pub IsTicks : List ℕ → ℕ → Type 0
IsTicks plain n = (digits : List ℕ) × (words plain ≡ codes "tick" ∷ digits ∷ []) × IsNumber 65535 digits n × (0 < n)

-- the line sets the size of a descriptor's receive queue, from 1 to 65,535 bytes
abbrev pub IsLimit : List ℕ → ℕ → ℕ → Type 0
IsLimit plain fd limit =
    (f n : List ℕ) × (words plain ≡ codes "setsockopt" ∷ f ∷ codes "rcvbuf" ∷ n ∷ [])
    × WritesDescriptor f fd × IsNumber 65535 n limit × (0 < limit)

-- the line requests one event: it is a line of `bsdudp run`, or sets the size of a receive queue
abbrev pub Calls : List ℕ → Event → Type 0
Calls plain event =
    script.Asks all_events plain event
    ⊎ ((fd limit : ℕ) × (event ≡ Set_limit fd limit) × IsLimit plain fd limit)

-- the line makes this request
abbrev pub Writes : List ℕ → Ask → Type 0
Writes plain (Call event) = Calls plain event
Writes plain (Ticks n) = IsTicks plain n
Writes plain (Show topic) = topic_asked plain ≡ Some topic
Writes plain (Capture name details) = IsAsked plain name details
Writes plain (Settings named) = (has_dashes plain ≡ true) × (named ≡ words plain)

-- its request, if it has one
abbrev pub AsksFor : List ℕ → Option Ask → Type 0
AsksFor plain (Some ask) = Writes plain ask
AsksFor plain None = (ask : Ask) → ¬ Writes plain ask

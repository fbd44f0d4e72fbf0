-- The meaning of the code's own types (this project's own).
use Rattle.std.specs.Prelude.{ℕ, ◌≤◌, List, ◌++◌, codes, if◌then◌else◌, Option, Some, None}
use Rattle.flat_model.specs.Machine.Event.{Set_limit}
use Rattle.flat_model.specs.Scripts.Grammar.{words}
use Rattle.flat_model.specs.Scripts.Texts.{hex_text}
use Rattle.params.specs.declared.TheConstants.{IP_MAX_PACKET}
use Rattle.request.specs.Requests.{event_of, room_of}
use Rattle.play_pcap.specs.Events.{IsOrdered}
use Rattle.play_text.specs.Texts.{if_there}
use Rattle.play_script.specs.Asks as asks
use Rattle.play_script.specs.Lines.{Reading, Nothing, TooLong, Faulty, Asks}
use Rattle.play_script.specs.declared.ask.Ask.{Ask}
use Rattle.play_script.specs.declared.ask.Ask.TheVariants.{Call, Limit, Ticks, Show, Capture, Settings}
use Rattle.play_script.specs.declared.line.Kind.{Kind}
use Rattle.play_script.specs.declared.line.Kind.TheVariants as kind
use Rattle.play_script.specs.declared.line.Line.{Line}

-- ---- lines

-- the expectation of a line
abbrev pub expected_on : Line → Option (List ℕ)
expected_on line = if_there line.expects line.wanted

-- the plain line of a line: its words, or `rx` and the packet that they describe
abbrev pub plain_line : Line → List ℕ
plain_line line = if line.named then codes "rx " ++ hex_text line.packet else line.words

-- a line of this kind
abbrev pub is_reading : Kind → Line → Reading
is_reading kind.Nothing line = Nothing
is_reading kind.TooLong line = TooLong
is_reading (kind.Faulty error) line = Faulty error
is_reading kind.Asks line = Asks line.shown (plain_line line) (expected_on line)

-- ---- requests

abbrev pub ask_of : Ask → asks.Ask
ask_of (Call request) = asks.Call (event_of request)
ask_of (Limit fd limit) = asks.Call (Set_limit fd limit)
ask_of (Ticks n) = asks.Ticks n
ask_of (Show topic) = asks.Show topic
ask_of (Capture capture) = asks.Capture capture.name.now capture.details
ask_of (Settings plain) = asks.Settings (words plain.now)

-- its request, if it has one
abbrev pub asked_by : Option Ask → Option asks.Ask
asked_by (Some ask) = Some (ask_of ask)
asked_by None = None

-- no packet exceeds the maximum length, and no range of records ends before it begins
abbrev pub IsSoundAsk : Ask → Type 0
IsSoundAsk (Call request) = room_of request ≤ IP_MAX_PACKET
IsSoundAsk (Limit fd limit) = Unit {0}
IsSoundAsk (Ticks n) = Unit {0}
IsSoundAsk (Show topic) = Unit {0}
IsSoundAsk (Capture capture) = IsOrdered capture.details.range
IsSoundAsk (Settings plain) = Unit {0}

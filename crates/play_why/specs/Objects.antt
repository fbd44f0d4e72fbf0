-- A record as a JSON object (RFC 8259; the members are this project's own). The strings of `packet`, `became` and
-- `values` are English, and no definition says which they are.
use Rattle.std.specs.Prelude.{◌≡◌, ℕ, ◌-◌, Bool, List, [], ◌∷◌, ◌++◌, codes, decimal, flat_map, if◌then◌else◌, Option, Some, None}
use Rattle.params.specs.declared.TheConstants.{PROTOCOL_UDP, SOCKADDR_BYTES, UDP_RECEIVE_SPACE}
use Rattle.flat_model.specs.Scripts.Grammar.{address_text}
use Rattle.play_text.specs.Pieces.{number_or}
use Rattle.play_text.specs.Strings.{string_text}
use Rattle.play_text.specs.Times.{time_text}
use Rattle.play_text.specs.Words.{cause_words}
use Rattle.play_why.specs.declared.blame.Blame.{Blame}
use Rattle.play_why.specs.declared.blame.Blame.TheVariants.{Packet, Stack, Copy, Capture, Card, Host}
use Rattle.play_why.specs.declared.ends.Ends.{Ends}
use Rattle.play_why.specs.declared.finding.Finding.{Finding}
use Rattle.play_why.specs.declared.layout.Layout.{Layout}
use Rattle.play_why.specs.declared.layout.Layout.TheVariants.{Lines, Objects}
use Rattle.play_why.specs.declared.outcome.Outcome.{Outcome}
use Rattle.play_why.specs.declared.outcome.Outcome.TheVariants.{Delivered, Kept, Refused, Offload, Cut, Dropped}
use Rattle.play_why.specs.declared.values.Value.{Value}
use Rattle.play_why.specs.declared.values.Value.TheVariants as value
use Rattle.play_why.specs.declared.verdict.Verdict.{Verdict}

-- the causes for which the packet was dropped
abbrev pub cause_in : Option Finding → List ℕ
cause_in None = []
cause_in (Some finding) = cause_words finding.why

abbrev pub causes_in : List (Option Finding) → List ℕ
causes_in = flat_map cause_in

-- who is to blame for each
abbrev pub blame_words : Blame → List ℕ
blame_words Packet = codes "packet"
blame_words Stack = codes "stack"
blame_words Copy = codes "copy"
blame_words Capture = codes "capture"
blame_words Card = codes "card"
blame_words Host = codes "host"

abbrev pub fault_word : Option Finding → List ℕ
fault_word None = []
fault_word (Some finding) = blame_words finding.blame

abbrev pub faults_in : List (Option Finding) → List ℕ
faults_in = flat_map fault_word

-- what happened to the packet
abbrev pub outcome_words : Outcome → List ℕ
outcome_words Delivered = codes "delivered"
outcome_words Kept = codes "kept"
outcome_words Refused = codes "refused"
outcome_words Offload = codes "offload"
outcome_words Cut = codes "cut"
outcome_words Dropped = codes "dropped"

-- where the packet comes from and where it goes
unfoldable pub ends_members : Option Ends → List ℕ
ends_members None =
    codes ",\"src\":null,\"sport\":null,\"dst\":null,\"dport\":null,\"proto\":null,\"id\":null"
ends_members (Some e) =
    codes ",\"src\":\"" ++ address_text e.source ++ codes "\",\"sport\":" ++ number_or e.source_port (codes "null")
    ++ codes ",\"dst\":\"" ++ address_text e.destination ++ codes "\",\"dport\":"
    ++ number_or e.destination_port (codes "null") ++ codes ",\"proto\":" ++ decimal e.protocol ++ codes ",\"id\":"
    ++ decimal e.id

-- the number in the packet that shows the first cause, and the right one
abbrev pub first_found : List (Option Finding) → Option Finding
first_found [] = None
first_found (Some finding ∷ findings) = Some finding
first_found (None ∷ findings) = first_found findings

abbrev pub got_of : Value → Option ℕ
got_of (value.Short arrived least) = Some arrived
got_of (value.Version version) = Some version
got_of (value.HeaderWords words) = Some words
got_of (value.Sums found right) = Some found
got_of (value.Lengths named arrived) = Some named
got_of (value.Elsewhere to ours) = None
got_of (value.Carried offset len) = None
got_of (value.Protocol protocol) = Some protocol
got_of (value.Payload len) = Some len
got_of (value.Port port) = Some port
got_of value.NoneLeft = None

abbrev pub want_of : Value → Option ℕ
want_of (value.Short arrived least) = Some least
want_of (value.Version version) = Some 4
want_of (value.HeaderWords words) = Some 5
want_of (value.Sums found right) = Some right
want_of (value.Lengths named arrived) = Some arrived
want_of (value.Elsewhere to ours) = None
want_of (value.Carried offset len) = None
want_of (value.Protocol protocol) = Some PROTOCOL_UDP
want_of (value.Payload len) = Some (UDP_RECEIVE_SPACE - SOCKADDR_BYTES)
want_of (value.Port port) = None
want_of value.NoneLeft = None

abbrev pub got_in : Option Finding → Option ℕ
got_in None = None
got_in (Some finding) = got_of finding.value

abbrev pub want_in : Option Finding → Option ℕ
want_in None = None
want_in (Some finding) = want_of finding.value

unfoldable pub value_members : Option Finding → List ℕ
value_members first =
    codes ",\"got\":" ++ number_or (got_in first) (codes "null") ++ codes ",\"want\":"
    ++ number_or (want_in first) (codes "null")

unfoldable pub first_members : ℕ → ℕ → Outcome → List ℕ
first_members number time outcome =
    codes "{\"number\":" ++ decimal number ++ codes ",\"time\":" ++ time_text time
    ++ codes ",\"verdict\":\"" ++ outcome_words outcome ++ codes "\""

unfoldable pub word_members : List ℕ → List ℕ → List ℕ
word_members packet became = codes ",\"packet\":" ++ string_text packet ++ codes ",\"became\":" ++ string_text became

unfoldable pub cause_members : List ℕ → List ℕ → List ℕ → List ℕ
cause_members cause values fault =
    codes ",\"cause\":" ++ string_text cause ++ codes ",\"values\":" ++ string_text values
    ++ codes ",\"fault\":" ++ string_text fault

-- whether the checksum was filled in, and the record in which the host refused the packet
unfoldable pub last_members : Bool → Option ℕ → List ℕ
last_members filled refused =
    codes ",\"filled\":" ++ (if filled then codes "true" else codes "false") ++ codes ",\"refused\":"
    ++ number_or refused (codes "null") ++ codes "}\n"

-- the object of a record with this verdict
pub record IsObject (time : ℕ) (v : Verdict) (text : List ℕ) : Type 0 where
  pub packet : List ℕ
  pub became : List ℕ
  pub values : List ℕ
  pub is :
      text
      ≡ first_members v.number time v.outcome ++ ends_members v.ends ++ word_members packet became
      ++ value_members (first_found v.findings) ++ cause_members (causes_in v.findings) values (faults_in v.findings)
      ++ last_members v.filled v.refused

-- the output for a record; the lines aren't specified
abbrev pub IsPrinted : Layout → ℕ → Verdict → List ℕ → Type 0
IsPrinted Lines time v text = Unit {0}
IsPrinted Objects time v text = IsObject time v text

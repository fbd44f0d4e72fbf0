-- The effects of playing a capture (this project's own).
use Rattle.std.specs.Prelude.{◌≡◌, ℕ, ◌+◌, ◌-◌, ◌/◌, ◌<◌, ◌≤◌, suc, Bool, List, [], ◌∷◌, ◌++◌, length, take, drop, map, min, max, replicate, nat_lt, if◌then◌else◌, Option, Some, None, Result, Ok, Err}
use Rattle.std.specs.Borrow.{Bor}
use Rattle.flat_model.specs.Machine.Count.{more_by}
use Rattle.capture.specs.Frames.{packet_in_frame}
use Rattle.capture.specs.Records.{Captured, Reads, Whole, nanoseconds}
use Rattle.capture.specs.Seen.{captured}
use Rattle.capture.specs.declared.pcap.header.Header.{Header}
use Rattle.capture.specs.declared.pcap.link.NoPacket.{NoPacket}
use Rattle.capture.specs.declared.pcap.reader.Record.{Record}
use Rattle.capture.specs.declared.pcap.link_type.LinkType.{LinkType}
use Rattle.play_pcap.specs.Acts.{Act, Arrives, Passes}
use Rattle.play_pcap.specs.declared.ask.Details.{Details}
use Rattle.play_pcap.specs.declared.ask.Range.{Range}
use Rattle.play_pcap.specs.declared.fault.CaptureFault.{CaptureFault}
use Rattle.play_pcap.specs.declared.fault.CaptureFault.TheVariants.{Memory, TooFew, Bad}
use Rattle.play_pcap.specs.declared.moves.Course.{Course}
use Rattle.play_pcap.specs.declared.moves.Move.{Move}
use Rattle.play_pcap.specs.declared.moves.Moves.{Moves}
use Rattle.play_pcap.specs.declared.moves.Tally.{Tally}
use Rattle.play_pcap.specs.declared.wire.RecordPlace.{RecordPlace}

-- ---- a record

-- an IPv4 packet that a machine accepts
abbrev pub taken : Result (List ℕ) NoPacket → Option (List ℕ)
taken (Ok packet) = if nat_lt 65_535 (length packet) then None else Some packet
taken (Err none) = None

-- the packet in a record
abbrev pub packet_in_record : LinkType → List ℕ → Option (List ℕ)
packet_in_record link bytes = taken (packet_in_frame link bytes)

abbrev pub seen_packet : Option (Bor (List ℕ)) → Option (List ℕ)
seen_packet None = None
seen_packet (Some packet) = Some packet.now

-- when a record's packet was captured, in nanoseconds since 1970
abbrev pub time_of : Header → Captured → ℕ
time_of h c = nanoseconds h.resolution c.seconds c.fraction

-- How many ticks have passed before a record is played: the half seconds since the first one, 65,535 at most, or none.
abbrev pub due : Course → Captured → ℕ
due k c = if k.ticks then min ((time_of k.header c - k.begin) / 500_000_000) 65_535 else 0

-- the place of the record of this number: its time counts from the capture's first record
abbrev pub record_place : Course → ℕ → Captured → RecordPlace
record_place k number c = record { number = number; time = time_of k.header c - k.origin }

-- ---- all records

-- what a record's packet adds before the rest; a record without a packet adds nothing
abbrev pub put_before : Option (List ℕ) → RecordPlace → ℕ → List Act → List Act → List Act
put_before (Some packet) place n after skipped = replicate n Passes ++ Arrives place packet ∷ after
put_before None place n after skipped = skipped

-- the acts of these records, the first of which has this number, after this many ticks
unfoldable pub record_acts : Course → ℕ → ℕ → List Captured → List Act
record_acts k number passed [] = []
record_acts k number passed (c ∷ cs) =
    put_before (packet_in_record k.header.link c.bytes) (record_place k number c) (due k c - passed)
    (record_acts k (more_by 1 number) (max passed (due k c)) cs) (record_acts k (more_by 1 number) passed cs)

-- the records of a range
abbrev pub selected : {A : Type 0} → Option Range → List A → List A
selected None xs = xs
selected (Some r) xs = take (r.last - (r.first - 1)) (drop (r.first - 1) xs)

-- the number of the first of them
abbrev pub first_of : Option Range → ℕ
first_of None = 1
first_of (Some r) = r.first

abbrev pub IsOrdered : Option Range → Type 0
IsOrdered None = Unit {0}
IsOrdered (Some r) = (0 < r.first) × (r.first ≤ r.last)

abbrev pub HasRange : Option Range → ℕ → Type 0
HasRange None n = Unit {0}
HasRange (Some r) n = r.last ≤ n

-- the time of the first record
abbrev pub begin_of : Header → List Captured → ℕ
begin_of h [] = 0
begin_of h (c ∷ cs) = time_of h c

-- of a capture whose first record has the time `origin`
abbrev pub course_of : Bool → Header → ℕ → List Captured → Course
course_of ticks h origin cs = record { header = h; ticks = ticks; origin = origin; begin = begin_of h cs }

-- the acts of these records of a capture, the first of which has this number
abbrev pub played : Bool → Header → ℕ → ℕ → List Captured → List Act
played ticks h origin number cs = record_acts (course_of ticks h origin cs) number 0 cs

-- the acts of a capture, one after another: packets arrive, and ticks pass
abbrev pub capture_acts : Details → Whole → List Act
capture_acts d w =
    played d.ticks w.header (begin_of w.header w.records) (first_of d.range) (selected d.range w.records)

-- the records of the range, if the capture has them all
abbrev pub Selects : Option Range → List Record → Option (Bor (List Record)) → Type 0
Selects range rs None = HasRange range (length rs) → ⊥
Selects range rs (Some part) = HasRange range (length rs) × (part.now ≡ selected range rs)

-- ---- some of the records

pub record Going : Type 0 where
  pub course : Course
  pub number : ℕ
  pub passed : ℕ
  pub rest : List Captured

abbrev pub going : Moves → Going
going m = record { course = m.course; number = m.number; passed = m.passed; rest = map captured m.rest.now }

abbrev pub acts_left : Going → List Act
acts_left g = record_acts g.course g.number g.passed g.rest

-- the next packet with its ticks, and what remains after it
abbrev pub Moves_on : Going → Option Move → Going → Type 0
Moves_on old None new = (acts_left old ≡ []) × (new.passed ≡ old.passed)
Moves_on old (Some m) new =
    (acts_left old ≡ replicate m.ticks Passes ++ Arrives m.place m.packet.now ∷ acts_left new)
    × (length m.packet.now ≤ 65_535) × (new.passed ≡ old.passed + m.ticks) × (length new.rest < length old.rest)

-- ---- the result

-- how many packets arrived, and how many ticks passed
abbrev pub came : List Act → ℕ
came [] = 0
came (Arrives place packet ∷ acts) = suc (came acts)
came (Passes ∷ acts) = came acts

abbrev pub ticks_in : List Act → ℕ
ticks_in [] = 0
ticks_in (Arrives place packet ∷ acts) = ticks_in acts
ticks_in (Passes ∷ acts) = suc (ticks_in acts)

abbrev pub tally_of : ℕ → List Act → Tally
tally_of n acts = record { packets = came acts; others = n - came acts; ticks = ticks_in acts }

-- the acts happen one after another
abbrev pub Goes : {S : Type 0} → (S → Act → S → Type 0) → List Act → S → S → Type 0
Goes go [] old new = new ≡ old
Goes {S = S} go (act ∷ acts) old new = (mid : S) × go old act mid × Goes go acts mid new

-- The effect of playing a file: all acts of its records, or none at all.
abbrev pub PlaysFile : {S : Type 0} → (S → Act → S → Type 0) → Details → List ℕ → Result Tally CaptureFault → S → S
    → Type 0
PlaysFile go d file (Ok tally) old new =
    (w : Whole) × Reads file (Ok w) × HasRange d.range (length w.records) × Goes go (capture_acts d w) old new
    × (tally ≡ tally_of (length (selected d.range w.records)) (capture_acts d w))
PlaysFile go d file (Err (Bad fault)) old new = Reads file (Err fault) × (new ≡ old)
PlaysFile go d file (Err TooFew) old new =
    (w : Whole) × Reads file (Ok w) × (HasRange d.range (length w.records) → ⊥) × (new ≡ old)
PlaysFile go d file (Err Memory) old new = new ≡ old
PlaysFile go d file (Err _) old new = ⊥

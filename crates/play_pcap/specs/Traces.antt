-- The capture of a run: the packets that arrived and left (this project's own).
use Rattle.std.specs.Prelude.{◌≡◌, ℕ, ◌+◌, ◌-◌, ◌*◌, ◌/◌, ◌%◌, ◌^◌, ◌<◌, ◌≤◌, Bool, true, false, List, [], ◌++◌, length, map, min, codes, decimal, if◌then◌else◌, Option}
use Rattle.std.specs.Io.KnownBytes.{Appends}
use Rattle.flat_model.specs.Scripts.Texts.{hex_text}
use Rattle.capture.specs.File.{file_header_bytes, header_for}
use Rattle.capture.specs.Records.{Captured, Whole, record_bytes, records_bytes}
use Rattle.capture.specs.declared.pcap.header.Order.TheVariants.{Little}
use Rattle.capture.specs.declared.pcap.link_type.LinkType.{LinkType}
use Rattle.play_pcap.specs.Acts.{Act, Arrives, Passes}
use Rattle.play_pcap.specs.declared.wire.RecordPlace.{RecordPlace}
use Rattle.play_text.specs.Times.{time_text}

-- how many ticks have passed, whether each record so far was written whole, and what was written, if the writer's
-- model records it
pub record Traced : Type 0 where
  pub ticks : ℕ
  pub whole : Bool
  pub wrote : Option (List ℕ)

-- A packet or a frame that passed: after this many ticks, by the line of this number.
pub record Pass : Type 0 where
  pub ticks : ℕ
  pub line : ℕ
  pub packet : List ℕ

-- Its record. Its time is half a second for each tick, and a microsecond for each line, 499,999 at most.
abbrev pub record_of : Pass → Captured
record_of p = record {
  seconds = p.ticks / 2;
  fraction = p.ticks % 2 * 500_000 + min p.line 499_999;
  original = length p.packet;
  bytes = p.packet;
}

abbrev pub pass_bytes : Pass → List ℕ
pass_bytes p = record_bytes Little (record_of p)

abbrev pub passes_bytes : List Pass → List ℕ
passes_bytes ps = records_bytes Little (map record_of ps)

abbrev pub pass_at : ℕ → ℕ → List ℕ → Pass
pass_at ticks line packet = record { ticks = ticks; line = line; packet = packet }

-- the numbers of a pass fit the fields of a record
pub record IsPass (p : Pass) : Type 0 where
  pub ticks : p.ticks < 2 ^ 32
  pub short : length p.packet ≤ 65_535

-- the contents of a file of these packets or frames
abbrev pub file_of : LinkType → List Pass → Whole
file_of link ps = record { header = header_for link; records = map record_of ps }

-- one more tick
abbrev pub later : ℕ → ℕ
later n = min (n + 1) (2 ^ 32 - 1)

-- ---- what is written

-- the bytes were written, or a prefix of them
abbrev pub Sent : Bool → Option (List ℕ) → Option (List ℕ) → List ℕ → Type 0
Sent true before after bytes = Appends before after bytes
Sent false before after bytes = (front rest : List ℕ) × (bytes ≡ front ++ rest) × Appends before after front

abbrev pub SentAfter : Bool → Bool → Option (List ℕ) → Option (List ℕ) → List ℕ → Type 0
SentAfter true whole before after bytes = Sent whole before after bytes
SentAfter false whole before after bytes = (whole ≡ false) × (after ≡ before)

-- The bytes were written, if all before them were. Once a write has failed, nothing more is written.
abbrev pub Keeps : Traced → Traced → List ℕ → Type 0
Keeps old new bytes = SentAfter old.whole new.whole old.wrote new.wrote bytes

-- before the header of the file
abbrev pub unwritten : Option (List ℕ) → Traced
unwritten wrote = record { ticks = 0; whole = true; wrote = wrote }

-- ---- a capture whose link type may be chosen until something passes

pub record WireTraced : Type 0 where
  pub traced : Traced
  pub link : LinkType
  pub headed : Bool

-- the header, if it wasn't written yet
abbrev pub header_due : WireTraced → List ℕ
header_due t = if t.headed then [] else file_header_bytes (header_for t.link)

-- ---- a capture as a script

-- a comment with the number and the time of the record whose packet comes next
abbrev pub place_line : RecordPlace → List ℕ
place_line place =
    codes "# record " ++ decimal place.number ++ codes ", " ++ time_text place.time ++ codes " s\n"

-- the lines of a script that request this
abbrev pub act_lines : Act → List ℕ
act_lines (Arrives place packet) = place_line place ++ codes "rx " ++ hex_text packet ++ codes "\n"
act_lines Passes = codes "tick\n"

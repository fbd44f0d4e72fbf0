-- A reader of captures, and its steps.
use Rattle.std.specs.Prelude.{◌≡◌, ◌⊎◌, ℕ, ◌+◌, ◌^◌, ◌-◌, ◌<◌, ◌≤◌, min, List, [], ◌∷◌, ◌++◌, length, drop, Option, Some, None, Result, Ok, Err}
use Rattle.std.specs.Int.{w32}
use Rattle.std.specs.List.{flat_map}
use Rattle.std.specs.Io.KnownBytes.{Consumes, IsAtEnd}
use Rattle.capture.specs.File.{number_of}
use Rattle.capture.specs.Records.{Captured, FitsFields, IsCut, record_bytes}
use Rattle.capture.specs.declared.pcap.header.Header.{Header}
use Rattle.capture.specs.declared.pcap.header.Order.{Order}
use Rattle.capture.specs.declared.pcap.fault.Fault as classic
use Rattle.capture.specs.Blocks.{Part, block_bytes, head_of, next_of}
use Rattle.capture.specs.declared.pcapng.fault.Fault as blocks
use Rattle.capture.specs.Faults.{block_fault_at, classic_fault_at, fault_at}
use Rattle.capture.specs.Feeds.{Fills}
use Rattle.capture.specs.Packets.{IsInside, Known, Packet, classic_packet, found_in, taken}
use Rattle.capture.specs.declared.blocks.Found.{Found}
use Rattle.capture.specs.declared.fault.FaultAt.{FaultAt}
use Rattle.capture.specs.declared.fault.Why.TheVariants.{NotRead, TooLong, TooMany}
use Rattle.capture.specs.declared.feed.TheConstants.{LONGEST_RECORD}
use Rattle.capture.specs.declared.section.Step.{Step}
use Rattle.capture.specs.declared.section.Step.TheVariants as steps

-- ---- classic files

-- the number of captured bytes, according to a record's header
abbrev pub captured_in : Order → List ℕ → ℕ
captured_in o bytes = number_of o w32 (drop 8 bytes)

-- why the bytes that were read aren't a record; `ended` says that the stream has ended
abbrev pub ClassicFails : Order → List ℕ → Type 0 → FaultAt → Type 0
ClassicFails o front ended s =
    (s.why ≡ NotRead)
    ⊎ ((s ≡ fault_at TooLong 8) × (16 ≤ length front) × (LONGEST_RECORD < 16 + captured_in o front))
    ⊎ ((f : classic.Fault) × (s ≡ classic_fault_at f) × IsCut f.why o front f.offset × ended)

-- the buffer holds a whole record, or the stream has ended
abbrev pub IsRecord : Order → List ℕ → Type 0 → Type 0
IsRecord o buffer ended =
    ((length buffer < 16) × ended)
    ⊎ ((16 ≤ length buffer) × (length buffer ≤ 16 + captured_in o buffer) × (length buffer < 16 + captured_in o buffer →
    ended))

abbrev pub IsLoaded : Order → Option (List ℕ) → Option (List ℕ) → List ℕ → Result (Unit {0}) FaultAt → Type 0
IsLoaded o old new buffer (Ok done) = Consumes old new buffer × IsRecord o buffer (IsAtEnd new)
IsLoaded o old new buffer (Err s) = Consumes old new buffer × ClassicFails o buffer (IsAtEnd new) s

-- what was read from a stream of records: the end, a record, or why there is no record
abbrev pub ClassicReads : Header → Option (List ℕ) → Option (List ℕ) → List ℕ → Result (Option Found) FaultAt → Type 0
ClassicReads h old new buffer (Ok None) = Consumes old new buffer × (buffer ≡ []) × IsAtEnd new
ClassicReads h old new buffer (Ok (Some f)) =
    (r : Captured) × FitsFields r × Consumes old new buffer × (buffer ≡ record_bytes h.order r)
    × (found_in buffer f ≡ classic_packet h r)
ClassicReads h old new buffer (Err s) = Consumes old new buffer × ClassicFails h.order buffer (IsAtEnd new) s

-- ---- pcapng files

-- what a block changes, and the packet in it
abbrev pub IsTaken : Known → Part → Known → Option Packet → Type 0
IsTaken k b new p = (next_of k.order (block_bytes b) ≡ Ok b) × (taken k b ≡ Ok (new, p))

-- blocks without a packet, one after another
abbrev pub Passes : Known → List Part → Known → Type 0
Passes k [] new = new ≡ k
Passes k (b ∷ bs) new = (mid : Known) × IsTaken k b mid None × Passes mid bs new

abbrev pub blocks_bytes : List Part → List ℕ
blocks_bytes bs = flat_map block_bytes bs

-- the bytes have the length that the head of the block gives
abbrev pub IsLong : Option Order → List ℕ → Type 0
IsLong o front = (p : Order) × (n : ℕ) × (head_of o front ≡ Ok (p, n)) × (n ≤ length front)

-- why the bytes that were read aren't a block: by the head, by the whole block or because the stream has ended, or by
-- the body
abbrev pub BlockFails : Option Order → List ℕ → Type 0 → FaultAt → Type 0
BlockFails o front ended s =
    (s.why ≡ NotRead)
    ⊎ ((p : Order) × (n : ℕ) × (head_of o front ≡ Ok (p, n)) × (LONGEST_RECORD < n) × (s ≡ fault_at TooLong 4))
    ⊎ ((f : blocks.Fault) × (12 ≤ length front) × (head_of o front ≡ Err f) × (s ≡ block_fault_at f))
    ⊎ ((f : blocks.Fault) × (next_of o front ≡ Err f) × (ended ⊎ IsLong o front) × (s ≡ block_fault_at f))

abbrev pub BodyFails : Known → List ℕ → FaultAt → Type 0
BodyFails k front s =
    (b : Part) × (front ≡ block_bytes b) × (next_of k.order front ≡ Ok b) × (taken k b ≡ Err s.why) × (s.at ≡ 0)

-- the buffer holds a whole block, or the stream has ended
abbrev pub IsBlockRead : Option Order → List ℕ → Type 0 → Type 0
IsBlockRead o buffer ended =
    ((length buffer < 12) × ended)
    ⊎ ((p : Order) × (n : ℕ) × (head_of o buffer ≡ Ok (p, n)) × (12 ≤ length buffer) × (length buffer ≤ n)
    × (length buffer < n → ended))

abbrev pub BlockLoads : Option Order → Option (List ℕ) → List ℕ → Option (List ℕ) → List ℕ → Result (Unit {0}) FaultAt
    → Type 0
BlockLoads o old held new buffer (Ok done) = Fills old held new buffer × IsBlockRead o buffer (IsAtEnd new)
BlockLoads o old held new buffer (Err s) =
    Fills old held new buffer × BlockFails o buffer (IsAtEnd new) s

-- the result of reading one block, whose first bytes may be in the buffer already
abbrev pub BlockReads : Known → Option (List ℕ) → List ℕ → Known → Option (List ℕ) → List ℕ → Result Step FaultAt
    → Type 0
BlockReads k old held new now buffer (Ok steps.Ended) =
    Fills old held now buffer × (buffer ≡ []) × IsAtEnd now × (new ≡ k)
BlockReads k old held new now buffer (Ok steps.Passed) =
    (b : Part) × Fills old held now buffer × (buffer ≡ block_bytes b) × IsTaken k b new None
BlockReads k old held new now buffer (Ok (steps.Packet f)) =
    (b : Part) × Fills old held now buffer × (buffer ≡ block_bytes b) × IsTaken k b new (Some (found_in buffer f))
BlockReads k old held new now buffer (Err s) =
    Fills old held now buffer × (BlockFails k.order buffer (IsAtEnd now) s ⊎ BodyFails k buffer s)

-- a packet's bytes are inside the buffer
abbrev pub StepInside : ℕ → Result Step FaultAt → Type 0
StepInside n (Ok (steps.Packet f)) = IsInside n (Some f)
StepInside n (Ok steps.Ended) = Unit {0}
StepInside n (Ok steps.Passed) = Unit {0}
StepInside n (Err s) = Unit {0}

-- an offset moved forward by these bytes, at most the largest 64-bit number
abbrev pub further : ℕ → List ℕ → ℕ
further offset bytes = min (offset + length bytes) (2 ^ 64 - 1)

-- blocks without a packet were skipped, and these bytes follow them
pub record Passed (k : Known) (offset : ℕ) (old : Option (List ℕ)) (held : List ℕ) (mid : Known) (at : ℕ)
    (now : Option (List ℕ)) (bytes : List ℕ) : Type 0 where
  pub blocks : List Part
  pub pass : Passes k blocks mid
  pub read : Fills old held now (blocks_bytes blocks ++ bytes)
  pub offset_is : at ≡ further offset (blocks_bytes blocks)

-- the result of reading the blocks up to the next packet
abbrev pub BlocksRead : Known → ℕ → Option (List ℕ) → List ℕ → Known → ℕ → Option (List ℕ) → List ℕ
    → Result (Option Found) FaultAt → Type 0
BlocksRead k offset old held new at now buffer (Ok None) =
    Passed k offset old held new at now buffer × (buffer ≡ []) × IsAtEnd now
BlocksRead k offset old held new at now buffer (Ok (Some f)) =
    (mid : Known) × (b : Part) × Passed k offset old held mid at now buffer × (buffer ≡ block_bytes b)
    × IsTaken mid b new (Some (found_in buffer f))
BlocksRead k offset old held new at now buffer (Err s) =
    (mid : Known) × Passed k offset old held mid at now buffer
    × (BlockFails mid.order buffer (IsAtEnd now) s ⊎ BodyFails mid buffer s ⊎ (s ≡ fault_at TooMany 0))

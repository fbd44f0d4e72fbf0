-- The blocks of a pcapng file (draft-ietf-opsawg-pcapng, sections 3.1 and 4.1): each has a type, its total length, a
-- body and again its total length. Numbers are in the byte order of the block's section, which the section's header
-- gives.
use Rattle.std.specs.Prelude.{◌≡◌, ℕ, ◌+◌, ◌-◌, ◌%◌, ◌^◌, ◌<◌, ◌⊎◌, List, ◌++◌, length, take, drop, Option, Some, None, Result, Ok, Err, nat_lt, not, ◌==◌, if◌then◌else◌}
use Rattle.std.specs.Int.{w32}
use Rattle.capture.specs.File.{number, number_of}
use Rattle.capture.specs.declared.pcap.header.Order.{Order}
use Rattle.capture.specs.declared.pcap.header.Order.TheVariants.{Little, Big}
use Rattle.capture.specs.declared.pcapng.block.TheConstants.{SECTION_HEADER, BYTE_ORDER_MAGIC}
use Rattle.capture.specs.declared.pcapng.fault.Fault.{Fault}
use Rattle.capture.specs.declared.pcapng.fault.Why.{Why}
use Rattle.capture.specs.declared.pcapng.fault.Why.TheVariants.{BlockCut, BadMagic, NoSection, BadLength, LengthsDiffer}

-- a block: the order of its numbers, its type, and its body
pub record Part : Type 0 where
  pub order : Order
  pub kind : ℕ
  pub body : List ℕ

-- the bytes of a block
abbrev pub size : Part → ℕ
size b = 12 + length b.body

abbrev pub block_bytes : Part → List ℕ
block_bytes b = number b.order w32 b.kind ++ (number b.order w32 (size b) ++ (b.body ++ number b.order w32 (size b)))

-- the magic number of a section's header, as a host of the other byte order reads it
abbrev pub MAGIC_TURNED : ℕ
MAGIC_TURNED = 0x4d3c2b1a

abbrev pub fault : Why → ℕ → Fault
fault why offset = record { why = why; offset = offset }

-- the byte order that a section's header gives, by its magic number read with the low byte first
abbrev pub marked : ℕ → Result Order Fault
marked n =
    if n == BYTE_ORDER_MAGIC then Ok Little else
    if n == MAGIC_TURNED then Ok Big else Err (fault BadMagic 8)

-- the order of the block that begins these bytes, which are at least 12. The type of a section's header is the
-- same in both orders
abbrev pub order_at : Option Order → List ℕ → Result Order Fault
order_at None bytes =
    if number_of Little w32 bytes == SECTION_HEADER then marked (number_of Little w32 (drop 8 bytes))
    else Err (fault NoSection 0)
order_at (Some o) bytes =
    if number_of o w32 bytes == SECTION_HEADER then marked (number_of Little w32 (drop 8 bytes)) else Ok o

-- what follows a block's type and its first length
abbrev pub after : List ℕ → List ℕ
after bytes = drop 4 (drop 4 bytes)

-- the block of a total length that begins these bytes
abbrev pub of_length : Order → ℕ → List ℕ → Result Part Fault
of_length o total bytes =
    if nat_lt total 12 then Err (fault BadLength 4) else
    if not (total % 4 == 0) then Err (fault BadLength 4) else
    if nat_lt (length bytes) total then Err (fault BlockCut 4) else
    if number_of o w32 (drop (total - 12) (after bytes)) == total
    then Ok (record { order = o; kind = number_of o w32 bytes; body = take (total - 12) (after bytes) })
    else Err (fault LengthsDiffer (total - 4))

abbrev pub of_order : Result Order Fault → List ℕ → Result Part Fault
of_order (Err f) bytes = Err f
of_order (Ok o) bytes = of_length o (number_of o w32 (drop 4 bytes)) bytes

-- the order and the total length of the block that begins these bytes, which are at least 12
abbrev pub head_of_total : Order → ℕ → Result (Order × ℕ) Fault
head_of_total o total =
    if nat_lt total 12 then Err (fault BadLength 4) else
    if not (total % 4 == 0) then Err (fault BadLength 4) else Ok (o, total)

abbrev pub head_in : Result Order Fault → List ℕ → Result (Order × ℕ) Fault
head_in (Err f) bytes = Err f
head_in (Ok o) bytes = head_of_total o (number_of o w32 (drop 4 bytes))

unfoldable pub head_of : Option Order → List ℕ → Result (Order × ℕ) Fault
head_of o bytes = head_in (order_at o bytes) bytes

-- the block at the beginning of these bytes in a section of this order; or why it can't be read, with the offset of
-- what is wrong
unfoldable pub next_of : Option Order → List ℕ → Result Part Fault
next_of o bytes = if nat_lt (length bytes) 12 then Err (fault BlockCut 0) else of_order (order_at o bytes) bytes

-- ---- a block as it's written

-- a section's header begins with the magic number in its own order; another block is in the order of its section
abbrev pub IsInOrder : Option Order → Part → Type 0
IsInOrder o b = ((b.kind ≡ SECTION_HEADER) × ((rest : List ℕ) × (b.body ≡ number b.order w32 BYTE_ORDER_MAGIC ++ rest)))
    ⊎ (((b.kind ≡ SECTION_HEADER) → ⊥) × (o ≡ Some b.order))

-- the numbers fit, and the body is filled up to a multiple of 4
pub record IsBlock (b : Part) : Type 0 where
  pub kind : b.kind < 2 ^ 32
  pub size : size b < 2 ^ 32
  pub filled : length b.body % 4 ≡ 0

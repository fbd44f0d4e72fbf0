-- What contracts see of a region (this project's own layout; the sizes are those of a 32-bit 4.4BSD, TCP/IP
-- Illustrated, volume 2, section 2.2).
use Rattle.std.specs.Prelude.{◌≡◌, ℕ, ◌+◌, ◌*◌, ◌<◌, ◌≤◌, if◌then◌else◌, is_some, IsSome, Some, None, Option, option_map, List, length, take, drop, replicate, slice_index_or, slice_set}
use Rattle.params.specs.declared.TheConstants.{MAX_CLUSTERS, MAX_MBUFS, MBUF_HEADER, MCLBYTES, MSIZE, PACKET_START}
use Rattle.raw_cells.specs.Over.{over}
use Rattle.raw_cells.specs.declared.head.Change.{Change}
use Rattle.raw_cells.specs.declared.head.Change.TheVariants.{Next, NextPacket, Data, PacketLen, Arrival, NoPacket}
use Rattle.raw_cells.specs.declared.head.Head.{Head}
use Rattle.raw_cells.specs.declared.head.PacketHeader.{PacketHeader}
use Rattle.raw_cells.specs.declared.part.Part.{Part}
use Rattle.raw_cells.specs.declared.part.Buffer.{Buffer}
use Rattle.raw_cells.specs.declared.part.Buffer.TheVariants.{Mbuf, Cluster}

-- the head of each mbuf, all bytes of the block (the mbufs' first and then the clusters'), and the number of clusters
pub record Cells : Type 0 where
  pub heads : List Head
  pub bytes : List ℕ
  pub clusters : ℕ

-- the head that zero bytes encode: both links are mbuf 0
abbrev pub zero_head : Head
zero_head = record { next = Some 0; next_packet = Some 0; len = 0; start = 0; kind = 0; packet = None; cluster = None }

-- how many bytes of the mbuf the head takes; the rest is its data area
abbrev pub head_size : Head → ℕ
head_size h = if is_some h.cluster then 32 else (if is_some h.packet then PACKET_START else MBUF_HEADER)

-- the link differs from the number that encodes "none"
abbrev pub IsLink : Option ℕ → Type 0
IsLink None = Unit {0}
IsLink (Some k) = k < 0xffffffff

-- both links can be stored
abbrev pub IsHead : Head → Type 0
IsHead h = IsLink h.next × IsLink h.next_packet

abbrev pub cell_head : Cells → ℕ → Head
cell_head c i = slice_index_or c.heads i zero_head

abbrev pub region_size : ℕ → ℕ → ℕ
region_size mbufs clusters = MSIZE * mbufs + MCLBYTES * clusters

-- a new region: every byte is 0
abbrev pub zero_cells : ℕ → ℕ → Cells
zero_cells mbufs clusters =
    record { heads = replicate mbufs zero_head; bytes = replicate (region_size mbufs clusters) 0; clusters = clusters }

-- what is true of every region
pub record IsSized (c : Cells) : Type 0 where
  pub block : length c.bytes ≡ region_size (length c.heads) c.clusters
  pub mbufs : (0 < length c.heads) × (length c.heads ≤ MAX_MBUFS)
  pub clusters : c.clusters ≤ MAX_CLUSTERS

-- the offset in the block at which an mbuf or a cluster begins
abbrev pub origin : Cells → Buffer → ℕ
origin c (Mbuf i) = MSIZE * i
origin c (Cluster i) = MSIZE * length c.heads + MCLBYTES * i

-- the offset in the block at which a part begins
abbrev pub place : Cells → Part → ℕ
place c p = origin c p.buffer + p.start

-- the n bytes from offset s are in a cluster, or in the data area of an mbuf that refers to no cluster
abbrev pub IsCellRoom : Cells → Buffer → ℕ → ℕ → Type 0
IsCellRoom c (Mbuf i) s n =
    (i < length c.heads) × ((cell_head c i).cluster ≡ None) × (head_size (cell_head c i) ≤ s) × (s + n ≤ MSIZE)
IsCellRoom c (Cluster i) s n = (i < c.clusters) × (s + n ≤ MCLBYTES)

abbrev pub IsCellPart : Cells → Part → Type 0
IsCellPart c p = IsCellRoom c p.buffer p.start p.len

-- the bytes of a part
abbrev pub read : Cells → Part → List ℕ
read c p = take p.len (drop (place c p) c.bytes)

-- c with ws as the bytes of a part, and the heads unchanged. Bytes of ws that don't fit are dropped
abbrev pub cells_written : Cells → Part → List ℕ → Cells
cells_written c p ws = record c { bytes = over c.bytes (place c p) (take p.len ws) }

-- c with a new head for mbuf i, whose first bytes are then b
abbrev pub with_head : Cells → ℕ → Head → List ℕ → Cells
with_head c i h b = record { heads = slice_set c.heads i h; bytes = over c.bytes (MSIZE * i) b; clusters = c.clusters }

-- mbuf i has a new head, which takes some bytes at the beginning of the mbuf; every other byte and head is unchanged
abbrev pub SetsCellHead : Cells → Cells → ℕ → Head → Type 0
SetsCellHead old new i h = (b : List ℕ) × (length b ≡ head_size h) × (new ≡ with_head old i h b)

-- ---- changes to a head
abbrev pub with_packet_len : Head → ℕ → Head
with_packet_len h n = record h { packet = option_map {T = PacketHeader} (λ p. record p { len = n }) h.packet }

abbrev pub with_arrival : Head → ℕ → Head
with_arrival h n = record h { packet = option_map {T = PacketHeader} (λ p. record p { arrival = n }) h.packet }

-- the head after a change
abbrev pub changed : Head → Change → Head
changed h (Next next) = record h { next = next }
changed h (NextPacket next) = record h { next_packet = next }
changed h (Data start len) = record h { len = len; start = start }
changed h (PacketLen n) = with_packet_len h n
changed h (Arrival n) = with_arrival h n
changed h NoPacket = record h { packet = None }

-- a new link can be stored, and a packet header that is changed is there
abbrev pub IsChange : Head → Change → Type 0
IsChange h (Next next) = IsLink next
IsChange h (NextPacket next) = IsLink next
IsChange h (Data start len) = Unit {0}
IsChange h (PacketLen n) = IsSome h.packet
IsChange h (Arrival n) = IsSome h.packet
IsChange h NoPacket = Unit {0}

-- The encoding of a head in the first bytes of its mbuf, low bytes first (this project's own).
use Rattle.std.specs.Prelude.{◌≡◌, ℕ, ◌+◌, ◌*◌, ◌/◌, ◌%◌, ◌<◌, ◌≤◌, ◌==◌, if◌then◌else◌, is_some, Option, Some, None, List, map, length, get_or}
use Rattle.std.specs.List.{range_with_len}
use Rattle.params.specs.declared.TheConstants.{MSIZE, MAX_MBUFS, MAX_CLUSTERS}
use Rattle.raw_cells.specs.Cells.{Cells, region_size}
use Rattle.raw_cells.specs.declared.head.Head.{Head}
use Rattle.raw_cells.specs.declared.head.PacketHeader.{PacketHeader}
use Rattle.raw_cells.specs.declared.region.Region.TheInside.{Inside}

abbrev pub little_u16_at : List ℕ → ℕ → ℕ
little_u16_at bs i = get_or bs i 0 + get_or bs (i + 1) 0 * 0x100

abbrev pub little_u32_at : List ℕ → ℕ → ℕ
little_u32_at bs i =
    get_or bs i 0 + get_or bs (i + 1) 0 * 0x100 + get_or bs (i + 2) 0 * 0x10000 + get_or bs (i + 3) 0 * 0x1000000

-- the link that a number encodes
abbrev pub link_of : ℕ → Option ℕ
link_of n = if n == 0xffffffff then None else Some n

-- bit 1 of the flags: there is a packet header
abbrev pub packet_header_in : List ℕ → ℕ → ℕ → Option PacketHeader
packet_header_in bs at flags =
    if flags / 2 % 2 == 0 then None
    else Some (record { len = little_u32_at bs at; arrival = little_u32_at bs (at + 4) })

-- bit 0 of the flags: the data is in a cluster
abbrev pub cluster_in : List ℕ → ℕ → ℕ → Option ℕ
cluster_in bs at flags = if flags % 2 == 0 then None else Some (little_u32_at bs at)

abbrev pub head_flags : Head → ℕ
head_flags h = (if is_some h.cluster then 1 else 0) + 2 * (if is_some h.packet then 1 else 0)

-- the head with these flags, if the mbuf begins at byte o
unfoldable pub head_by : List ℕ → ℕ → ℕ → Head
head_by bs o flags = record {
  next = link_of (little_u32_at bs (o + 0));
  next_packet = link_of (little_u32_at bs (o + 4));
  len = little_u32_at bs (o + 8);
  start = little_u32_at bs (o + 12);
  kind = little_u16_at bs (o + 16);
  packet = packet_header_in bs (o + 20) flags;
  cluster = cluster_in bs (o + 28) flags;
}

abbrev pub cell_head_in : List ℕ → ℕ → Head
cell_head_in bs o = head_by bs o (little_u16_at bs (o + 18))

abbrev pub heads_in : ℕ → List ℕ → List Head
heads_in n bs = map (λ i. cell_head_in bs (MSIZE * i)) (range_with_len 0 n)

abbrev pub cells_of : Inside → Cells
cells_of r = record { heads = heads_in r.mbufs r.block; bytes = r.block; clusters = r.clusters }

abbrev pub IsRegion : Inside → Type 0
IsRegion r =
    (length r.block ≡ region_size r.mbufs r.clusters) × (0 < r.mbufs) × (r.mbufs ≤ MAX_MBUFS)
    × (r.clusters ≤ MAX_CLUSTERS)

-- The machine of the chain script: slots of chains over a pool, as lists (this project's own).
use Rattle.std.specs.Prelude.{◌≡◌, ℕ, ◌+◌, ◌-◌, ◌<◌, ◌≤◌, ◌==◌, max, Bool, true, false, not, ◌&&◌, ◌||◌, nat_lt, nat_le, List, [], length, replicate, sum, sum_by, count_by, map, fold, is_some, Option, Some, None, slice_set, slice_index_or}
use Rattle.std.specs.List.{AllByRecursion, range_with_len}
use Rattle.flat_model.specs.Amounts.Layout.{Room, user, wire, is_cluster}
use Rattle.params.specs.declared.TheConstants.{MHLEN, IP_MAX_PACKET}
use Rattle.flat_model.specs.declared.usage.Mbstat.{Mbstat}
use Rattle.mbuf_chain.specs.Chain.{Entry, ChainView, alone, flat_bytes, refers}
use Rattle.mbuf_chain.specs.Owners.{times_among}
use Rattle.chain_ops.specs.declared.copym.Extent.{Extent}
use Rattle.chain_ops.specs.declared.copym.Extent.TheVariants.{All, Part}
use Rattle.chain_ops.specs.Extents.{extent_copied}
use Rattle.chain_ops.specs.Pulls.{pull_need}
use Rattle.chain_ops.specs.Prepends.{prepend_need}
use Rattle.chain_ops.specs.Splits.{split_need}
use Rattle.chain_ops.specs.Writes.{is_writable, copyback_need}
use Rattle.chain_script.specs.declared.caller.TheConstants.{SLOTS}
use Rattle.chain_script.specs.Lines.{Request, User, Wire, Copy, Prepend, Pull_up, Adjust, Split, Join, Write_over, Read_out, Show, Free, Ask_usage}

-- a chain in a slot; it is in no train
pub record Slot : Type 0 where
  pub header : Bool
  pub entries : List Entry

pub record Machine : Type 0 where
  pub mbufs : ℕ
  pub clusters : ℕ
  pub slots : List (Option Slot)

-- all slots are empty
abbrev pub booted : ℕ → ℕ → Machine
booted mbufs clusters = record { mbufs = mbufs; clusters = clusters; slots = replicate SLOTS None }

-- ---- the slots
abbrev pub slot_at : Machine → ℕ → Option Slot
slot_at b i = slice_index_or b.slots i None

abbrev pub entries_in : Option Slot → List Entry
entries_in None = []
entries_in (Some s) = s.entries

abbrev pub entries_at : Machine → ℕ → List Entry
entries_at b i = entries_in (slot_at b i)

abbrev pub is_headed : Option Slot → Bool
is_headed None = false
is_headed (Some s) = s.header

abbrev pub header_at : Machine → ℕ → Bool
header_at b i = is_headed (slot_at b i)

-- the chain in the terms of `chain_ops`
abbrev pub view_at : Machine → ℕ → ChainView
view_at b i = record { front = alone (header_at b i); entries = entries_at b i; cells = [] }

abbrev pub length_at : Machine → ℕ → ℕ
length_at b i = length (flat_bytes (entries_at b i))

abbrev pub with_slot : Machine → ℕ → Bool → List Entry → Machine
with_slot b i header es = record b { slots = slice_set b.slots i (Some (record { header = header; entries = es })) }

abbrev pub emptied : Machine → ℕ → Machine
emptied b i = record b { slots = slice_set b.slots i None }

-- ---- the pool
abbrev pub mbufs_held : Machine → ℕ
mbufs_held b = sum_by (λ s. length (entries_in s)) b.slots

abbrev pub times_referred : Machine → ℕ → ℕ
times_referred b c = sum_by (λ s. count_by (refers c) (entries_in s)) b.slots

abbrev pub clusters_free : Machine → ℕ
clusters_free b = count_by (λ c. times_referred b c == 0) (range_with_len 0 b.clusters)

-- fewer mbufs or clusters than this are free
abbrev pub lacks : Machine → ℕ → ℕ → Bool
lacks b mbufs clusters = nat_lt b.mbufs (mbufs_held b + mbufs) || nat_lt (clusters_free b) clusters

abbrev pub lacks_rooms : Machine → List Room → Bool
lacks_rooms b rooms = lacks b (length rooms) (count_by is_cluster rooms)

-- these clusters are free, each listed once
pub record AreFreeIn (b : Machine) (cs : List ℕ) : Type 0 where
  pub exist : AllByRecursion (λ c. c < b.clusters) cs
  pub free : AllByRecursion (λ c. times_referred b c ≡ 0) cs
  pub once : (c : ℕ) → times_among c cs ≤ 1

abbrev pub counts_of_clusters : Machine → List ℕ
counts_of_clusters b = map (times_referred b) (range_with_len 0 b.clusters)

abbrev pub slots_usage : Machine → Mbstat
slots_usage b = record {
  free_mbufs = b.mbufs - mbufs_held b;
  mbufs = b.mbufs;
  free_clusters = clusters_free b;
  clusters = b.clusters;
  refs = sum (counts_of_clusters b);
  most = fold max 0 (counts_of_clusters b);
}

-- ---- the faults, in order
abbrev pub is_held : Machine → ℕ → Bool
is_held b i = is_some (slot_at b i)

-- the slots are as the request needs them, if `held` says which of them have a chain
abbrev pub slots_fit : (ℕ → Bool) → Request → Bool
slots_fit held (User slot bytes) = not (held slot)
slots_fit held (Wire slot bytes) = not (held slot)
slots_fit held (Copy to slot extent) = held slot && not (held to)
slots_fit held (Prepend slot bytes) = held slot
slots_fit held (Pull_up slot n) = held slot
slots_fit held (Adjust slot n) = held slot
slots_fit held (Split to slot at) = held slot && not (held to)
slots_fit held (Join slot other) = held slot && (held other && not (slot == other))
slots_fit held (Write_over slot off bytes) = held slot
slots_fit held (Read_out slot off len) = held slot
slots_fit held (Show slot) = held slot
slots_fit held (Free slot) = held slot
slots_fit held Ask_usage = true

abbrev pub has_slots : Machine → Request → Bool
has_slots b request = slots_fit (is_held b) request

abbrev pub is_range : Extent → ℕ → Bool
is_range All n = true
is_range (Part off len) n = nat_lt 0 len && nat_le (off + len) n

-- the condition of the request holds, if `size` says how many bytes are in each slot
abbrev pub lengths_fit : (ℕ → ℕ) → Request → Bool
lengths_fit size (Copy to slot extent) = is_range extent (size slot)
lengths_fit size (Prepend slot bytes) =
    nat_lt 0 (length bytes) && (nat_le (length bytes) MHLEN && nat_le (length bytes + size slot) IP_MAX_PACKET)
lengths_fit size (Split to slot at) = nat_lt at (size slot)
lengths_fit size (Join slot other) = nat_le (size slot + size other) IP_MAX_PACKET
lengths_fit size (Write_over slot off bytes) = nat_le (off + length bytes) IP_MAX_PACKET
lengths_fit size (Read_out slot off len) = nat_le (off + len) (size slot)
lengths_fit size request = true

abbrev pub is_in_range : Machine → Request → Bool
is_in_range b request = lengths_fit (length_at b) request

abbrev pub hits_shared : Machine → Request → Bool
hits_shared b (Write_over slot off bytes) = not (is_writable (times_referred b) (entries_at b slot) off (length bytes))
hits_shared b request = false

abbrev pub is_too_long : Request → Bool
is_too_long (Pull_up slot n) = nat_lt MHLEN n
is_too_long request = false

abbrev pub is_too_short : Machine → Request → Bool
is_too_short b (Pull_up slot n) = nat_lt (length_at b slot) n
is_too_short b request = false

abbrev pub lacks_buffers : Machine → Request → Bool
lacks_buffers b (User slot bytes) = lacks_rooms b (user (length bytes))
lacks_buffers b (Wire slot bytes) = lacks_rooms b (wire (length bytes))
lacks_buffers b (Copy to slot extent) = lacks b (length (extent_copied extent (header_at b slot) (entries_at b slot))) 0
lacks_buffers b (Prepend slot bytes) = lacks b (prepend_need (view_at b slot) (length bytes)) 0
lacks_buffers b (Pull_up slot n) = lacks b (pull_need (view_at b slot) n) 0
lacks_buffers b (Split to slot at) = lacks b (split_need (header_at b slot) (entries_at b slot) at) 0
lacks_buffers b (Write_over slot off bytes) = lacks b (copyback_need (entries_at b slot) off bytes) 0
lacks_buffers b request = false

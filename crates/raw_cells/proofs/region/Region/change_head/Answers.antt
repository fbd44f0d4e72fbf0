use Rattle.std.proofs.Common.{◌≡◌, ◌<◌, ◌≤◌, ◌∙◌, ℕ, length, ◌%◌, ◌+◌, ◌*◌, ap, arith, refl}
use Rattle.raw_cells.specs.declared.head.Change.TheVariants.{Next, NextPacket, Data, PacketLen, Arrival, NoPacket}
use Rattle.raw_cells.specs.declared.head.PacketHeader.{PacketHeader}
use Rattle.raw_cells.specs.declared.head.Head.{Head}
use Rattle.raw_cells.specs.declared.region.Region.TheInside.{Inside}
use Rattle.raw_cells.specs.Cells.{Cells, IsSized, SetsCellHead}
use Rattle.raw_cells.specs.Inside.Layout.{IsRegion, cells_of, link_of}
use Rattle.raw_cells.proofs.Patches.{room_at, low_change, packet_change, field_kept, field_sized, arrival_set, data_set, flags_read, next_packet_set, next_set, packet_dropped, packet_len_set}
use Rattle.raw_cells.proofs.region.Region.change_head.Goals as goal

room : (r : Inside) {v : Cells} {i : ℕ} → IsRegion r → cells_of r ≡ v → i < length v.heads
    → 128 * i + 32 ≤ length r.block
room r {v} {i} is shown lt = room_at r is v shown i lt

sized : (r : Inside) {v : Cells} {i : ℕ} (h : Head) (t : Cells) → IsRegion r → cells_of r ≡ v → i < length v.heads
    → SetsCellHead v t i h → IsSized t
sized r {v} {i} h t is shown lt = field_sized r is v shown i lt _ _

pub slice_mut-requires : goal.slice_mut-requires
slice_mut-requires c = omega (arith, room c.self.inside c.self.invariant c.self.view_is c.requires.index)

pub returns-in-Next-clause-change : goal.returns-in-Next-clause-change
returns-in-Next-clause-change c =
    low_change c.self.inside c.self.invariant c.args.self.now c.self.view_is c.args.index c.requires.index
    c.args.change (Next c.in-Next.next) (cc) 0 4 (128 * c.args.index) c.put_u32.new.bytes (omega arith) (omega arith)
    c.put_u32.ensures.len
    (λ room. next_set c.self.inside.block (128 * c.args.index) c.put_u32.new.bytes room c.in-Next.next
    c.put_u32.ensures.len (ap link_of c.put_u32.ensures.value ∙ c.link_number.ensures))

pub returns-in-Next-clause-sized : goal.returns-in-Next-clause-sized
returns-in-Next-clause-sized c =
    sized c.self.inside _ _ c.self.invariant c.self.view_is c.requires.index (returns-in-Next-clause-change c)

pub slice_mut-requires-in-NextPacket : goal.slice_mut-requires-in-NextPacket
slice_mut-requires-in-NextPacket c = omega (arith, room c.self.inside c.self.invariant c.self.view_is c.requires.index)

pub returns-in-NextPacket-clause-change : goal.returns-in-NextPacket-clause-change
returns-in-NextPacket-clause-change c =
    low_change c.self.inside c.self.invariant c.args.self.now c.self.view_is c.args.index c.requires.index
    c.args.change (NextPacket c.in-NextPacket.next) (cc) 4 4 (128 * c.args.index + 4)
    c.put_u32-in-NextPacket.new.bytes (omega arith) (omega arith) c.put_u32-in-NextPacket.ensures.len
    (λ room. next_packet_set c.self.inside.block (128 * c.args.index) c.put_u32-in-NextPacket.new.bytes room
    c.in-NextPacket.next c.put_u32-in-NextPacket.ensures.len
    (ap link_of c.put_u32-in-NextPacket.ensures.value ∙ c.link_number-in-NextPacket.ensures))

pub returns-in-NextPacket-clause-sized : goal.returns-in-NextPacket-clause-sized
returns-in-NextPacket-clause-sized c =
    sized c.self.inside _ _ c.self.invariant c.self.view_is c.requires.index (returns-in-NextPacket-clause-change c)

pub slice_mut-requires-in-Data : goal.slice_mut-requires-in-Data
slice_mut-requires-in-Data c = omega (arith, room c.self.inside c.self.invariant c.self.view_is c.requires.index)

pub invariant_of-self-in-Data : goal.invariant_of-self-in-Data
invariant_of-self-in-Data c =
    field_kept c.self.inside c.self.invariant c.args.self.now c.self.view_is c.args.index c.requires.index 8 8 _
    c.put_data.new.bytes (omega arith) c.put_data.ensures.long (omega arith)

pub returns-in-Data-clause-change : goal.returns-in-Data-clause-change
returns-in-Data-clause-change c =
    low_change c.self.inside c.self.invariant c.args.self.now c.self.view_is c.args.index c.requires.index
    c.args.change (Data c.in-Data.start c.in-Data.len) (cc) 8 8 (128 * c.args.index + 8) c.put_data.new.bytes
    (omega arith) (omega arith) c.put_data.ensures.long
    (λ room. data_set c.self.inside.block (128 * c.args.index) c.put_data.new.bytes room c.in-Data.len c.in-Data.start
    c.put_data.ensures.long c.put_data.ensures.len c.put_data.ensures.start)

pub returns-in-Data-clause-sized : goal.returns-in-Data-clause-sized
returns-in-Data-clause-sized c =
    sized c.self.inside _ _ c.self.invariant c.self.view_is c.requires.index (returns-in-Data-clause-change c)

pub slice_mut-requires-in-PacketLen : goal.slice_mut-requires-in-PacketLen
slice_mut-requires-in-PacketLen c = omega (arith, room c.self.inside c.self.invariant c.self.view_is c.requires.index)

pub returns-in-PacketLen-clause-change : goal.returns-in-PacketLen-clause-change
returns-in-PacketLen-clause-change c =
    packet_change c.self.inside c.self.invariant c.args.self.now c.self.view_is c.args.index c.requires.index
    c.args.change (PacketLen c.in-PacketLen.len) (cc) (λ (p : PacketHeader). record p { len = c.in-PacketLen.len })
    refl 20 4 (128 * c.args.index + 20) c.put_u32-in-PacketLen.new.bytes (omega arith) (λ some. some) c.requires.possible
    (omega arith) c.put_u32-in-PacketLen.ensures.len
    (λ room. packet_len_set c.self.inside.block (128 * c.args.index) c.put_u32-in-PacketLen.new.bytes room
    c.in-PacketLen.len c.put_u32-in-PacketLen.ensures.len c.put_u32-in-PacketLen.ensures.value)

pub returns-in-PacketLen-clause-sized : goal.returns-in-PacketLen-clause-sized
returns-in-PacketLen-clause-sized c =
    sized c.self.inside _ _ c.self.invariant c.self.view_is c.requires.index (returns-in-PacketLen-clause-change c)

pub slice_mut-requires-in-Arrival : goal.slice_mut-requires-in-Arrival
slice_mut-requires-in-Arrival c = omega (arith, room c.self.inside c.self.invariant c.self.view_is c.requires.index)

pub returns-in-Arrival-clause-change : goal.returns-in-Arrival-clause-change
returns-in-Arrival-clause-change c =
    packet_change c.self.inside c.self.invariant c.args.self.now c.self.view_is c.args.index c.requires.index
    c.args.change (Arrival c.in-Arrival.arrival) (cc) (λ (p : PacketHeader). record p { arrival = c.in-Arrival.arrival })
    refl 24 4 (128 * c.args.index + 24) c.put_u32-in-Arrival.new.bytes (omega arith) (λ some. some) c.requires.possible
    (omega arith) c.put_u32-in-Arrival.ensures.len
    (λ room. arrival_set c.self.inside.block (128 * c.args.index) c.put_u32-in-Arrival.new.bytes room
    c.in-Arrival.arrival c.put_u32-in-Arrival.ensures.len c.put_u32-in-Arrival.ensures.value)

pub returns-in-Arrival-clause-sized : goal.returns-in-Arrival-clause-sized
returns-in-Arrival-clause-sized c =
    sized c.self.inside _ _ c.self.invariant c.self.view_is c.requires.index (returns-in-Arrival-clause-change c)

pub slice_mut-requires-in-NoPacket : goal.slice_mut-requires-in-NoPacket
slice_mut-requires-in-NoPacket c = omega (arith, room c.self.inside c.self.invariant c.self.view_is c.requires.index)

pub returns-in-NoPacket-clause-change : goal.returns-in-NoPacket-clause-change
returns-in-NoPacket-clause-change c =
    low_change c.self.inside c.self.invariant c.args.self.now c.self.view_is c.args.index c.requires.index
    c.args.change NoPacket (cc) 18 2 (128 * c.args.index + 18) c.clear_packet.new.bytes (omega arith) (omega arith)
    c.clear_packet.ensures.len
    (λ room. packet_dropped c.self.inside.block (128 * c.args.index) c.clear_packet.new.bytes room
    c.clear_packet.ensures.len c.clear_packet.ensures.packet (c.clear_packet.ensures.cluster
    ∙ ap (λ (x : ℕ). x % 2) (flags_read c.self.inside.block (128 * c.args.index + 18) _
    c.slice_mut-in-NoPacket.ensures.value)))

pub returns-in-NoPacket-clause-sized : goal.returns-in-NoPacket-clause-sized
returns-in-NoPacket-clause-sized c =
    sized c.self.inside _ _ c.self.invariant c.self.view_is c.requires.index (returns-in-NoPacket-clause-change c)

use Rattle.std.proofs.Common.{◌∙◌, ap, ◌%◌, ◌/◌, is_some}
use Rattle.raw_cells.specs.Inside.Layout.{head_by, link_of}
use Rattle.raw_cells.specs.declared.head.PacketHeader.{PacketHeader}
use Rattle.raw_cells.proofs.Encoded.{low_bit, high_bit, packet_back, cluster_back}
use Rattle.raw_cells.proofs.layout.encode.Goals as goal

pub returns-clause-decoded : goal.returns-clause-decoded
unfolding head_by
returns-clause-decoded c =
    let h = c.args.head.now in let a = is_some h.cluster in let b = is_some h.packet in
    let flags = c.bytes_u16-flags.ensures ∙ c.flags.ensures in
    let packet = packet_back h.packet _ _ _ _ (ap (λ f. f / 2 % 2) flags ∙ high_bit a b)
    (c.bytes_u32-total.ensures ∙ ap (λ (p : PacketHeader). p.len) c.unwrap_or-packet.ensures)
    (c.bytes_u32-arrival.ensures ∙ ap (λ (p : PacketHeader). p.arrival) c.unwrap_or-packet.ensures) in
    let cluster =
    cluster_back h.cluster _ _ _ (ap (λ f. f % 2) flags ∙ low_bit a b)
    (c.bytes_u32-cluster.ensures ∙ c.unwrap_or.ensures) in
    λ t. record {
      next = (ap link_of c.bytes_u32-next.ensures ∙ c.link_number.ensures) t;
      next_packet = (ap link_of c.bytes_u32-next_packet.ensures ∙ c.link_number-2.ensures) t;
      len = c.bytes_u32-len.ensures t;
      start = c.bytes_u32-start.ensures t;
      kind = c.bytes_u16-kind.ensures t;
      packet = packet t;
      cluster = cluster t;
    }

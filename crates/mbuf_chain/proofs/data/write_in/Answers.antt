use Rattle.std.proofs.Common.{length, sym, ap, subst, ◌∙◌}
use Rattle.mbuf_pool.specs.Cells.{Buffer, over}
use Rattle.mbuf_pool.specs.Store.{with_bytes, bytes_in, IsRoom}
use Rattle.mbuf_chain.specs.Inside.Cells.{buffer_of}
use Rattle.mbuf_chain.proofs.Heads.{shown_at}
use Rattle.mbuf_chain.proofs.Made.{counted_at}
use Rattle.mbuf_chain.proofs.Writes.{room_of, place_written, written}
use Rattle.mbuf_chain.proofs.data.write_in.Goals as goal

pub write-requires-clause-room : goal.write-requires-clause-room
write-requires-clause-room c =
    let s = c.args.store.now in
    let at = c.args.at in
    subst (λ (b : Buffer). IsRoom s b c.args.start (length c.args.bytes.now))
    (sym (c.buffer_of.ensures ∙ ap (buffer_of at.cell) c.requires.cluster))
    (room_of s c.args.first c.args.start (length c.args.bytes.now) at
    (shown_at c.requires.can.place)
    (λ d is. counted_at d c.requires.can.place is) c.requires.low
    c.requires.high)

pub returns : goal.returns
returns c =
    let s = c.args.store.now in
    let at = c.args.at in
    written s c.write.new.store c.args.first c.args.start c.args.bytes.now at c.requires.can
    (place_written s c.write.new.store at.cell c.args.start c.args.bytes.now
    (shown_at c.requires.can.place).out
    (λ d is. counted_at d c.requires.can.place is)
    (c.write.ensures.change ∙ ap (λ (b : Buffer). with_bytes s b (over (bytes_in s b) c.args.start c.args.bytes.now))
    (c.buffer_of.ensures ∙ ap (buffer_of at.cell) c.requires.cluster)))
    c.write.ensures.store

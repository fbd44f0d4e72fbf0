use Rattle.std.proofs.Common.{◌≡◌, ℕ, ◌+◌, ◌%◌, ◌<◌, List, length, arith, ap, sym, refl, ◌∙◌, false, subst, [], ◌∷◌}
use Rattle.std.specs.Prelude.{sum_by}
use Rattle.flat_model.specs.Fragments.Cuts.{part, Part}
use Rattle.mbuf_chain.specs.Chain.{ChainView, Entry, PoolView, chain_of}
use Rattle.mbuf_chain.proofs.Laws.Owners.{moves_trans, moves_nothing}
use Rattle.mbuf_chain.proofs.Laws.Trains.{beside_adds, apart_adds}
use Rattle.mbuf_chain.specs.Owners.{Moves}
use Rattle.mbuf_chain.specs.Train.{numbers, queued_packets, QueuedPacket}
use Rattle.std.specs.List.{insert}
use Rattle.chain_ops.specs.Copies.{copied}
use Rattle.chain_ops.specs.Cursors.{IsCursor}
use Rattle.ip_out.specs.declared.head.IpHead.{IpHead}
use Rattle.ledger.specs.Accounts.{item_of}
use Rattle.ip_out.specs.Packets.{part_head, part_need}
use Rattle.ip_out.specs.Inside.{head_entry, parts_to}
use Rattle.ip_out.proofs.Outputs.{later_is, need_copied, kept_moves, held_later, later_more, parts_more, need_among, part_some, offset_unit}
use Rattle.ip_out.proofs.Counting.{mul_more}
use Rattle.ip_out.proofs.fragments.later.Goals.{After-advance-from}
use Rattle.ip_out.proofs.fragments.later.Goals as goal

-- ---- the part that is copied
some : (c : After-advance-from) → 0 < (part c.args.n c.args.cut.chunk c.parts.i).size
some c =
    part_some c.args.n c.args.cut.chunk c.parts.i c.requires.chunk
    (c.requires.inside c.parts.i (omega arith) (omega arith))

copy : (c : After-advance-from)
    → copied false (chain_of c.parts.pool c.args.chain.now).entries c.advance-from.result.off c.min-size.result
    ≡ copied false (chain_of c.args.pool.now c.args.chain.now).entries
    (20 + (part c.args.n c.args.cut.chunk c.parts.i).offset) (part c.args.n c.args.cut.chunk c.parts.i).size
copy c =
    let off : c.advance-from.result.off ≡ 20 + (part c.args.n c.args.cut.chunk c.parts.i).offset =
    omega (arith, c.advance-from.ensures.off, c.parts.invariant.after) in
    λ k. copied false ((kept_moves c.args.chain.now c.parts.invariant.later.moves c.requires.live).0 k).entries (off k)
    (c.min-size.ensures k)

pub returns-in_default-clause-err : goal.returns-in_default-clause-err
returns-in_default-clause-err c =
    let at = (goal.at.returns-in_default-clause-err c).After-advance-from in
    let v : ChainView = chain_of c.args.pool.now c.args.chain.now in
    omega (
      arith,
      c.in_default.ensures.err,
      held_later c.parts.invariant.later,
      c.parts.invariant.later.moves.mbufs,
      ap (λ (es : List Entry). length es) (copy at),
      need_copied c.copy_weight.ensures v (part c.args.n c.args.cut.chunk c.parts.i) c.requires.datagram.bytes
          (some at),
      need_among v c.args.n c.args.cut.chunk c.parts.i c.args.cut.count (omega arith) (omega arith),
    )

pub returns-in_default-clause-same : goal.returns-in_default-clause-same
returns-in_default-clause-same c =
    let q : PoolView = c.parts.pool in
    let freed : Moves c.fragment.new.pool (numbers c.fragment.new.pool c.parts.train) c.free.new.pool [] =
    c.free.ensures in
    let back : Moves q (numbers q c.parts.train) c.free.new.pool [] =
    subst (λ (s : PoolView). Moves s (numbers s c.parts.train) c.free.new.pool []) c.in_default.ensures.same freed in
    moves_nothing (moves_trans c.parts.invariant.later.moves back)

pub advance-from-requires-clause-cursor : goal.advance-from-requires-clause-cursor
advance-from-requires-clause-cursor c =
    let kept = kept_moves c.args.chain.now c.parts.invariant.later.moves c.requires.live in
    subst (λ (w : ChainView). IsCursor w c.parts.from) (sym kept.0) c.parts.invariant.cursor

pub fragment-requires-clause-unit : goal.fragment-requires-clause-unit
fragment-requires-clause-unit c =
    ap (λ (h : IpHead). h.offset % 8) c.head_of.ensures ∙ offset_unit c.parts.i c.args.cut.chunk c.requires.unit

pub insert-requires-clause-held : goal.insert-requires-clause-held
insert-requires-clause-held c = (beside_adds c.parts.train c.in-Ok.ensures.ok.adds c.parts.invariant.later.held).held

pub insert-requires-clause-apart : goal.insert-requires-clause-apart
insert-requires-clause-apart c = apart_adds c.parts.train c.in-Ok.ensures.ok.adds c.parts.invariant.later.held

pub parts-preserved : goal.parts-preserved
parts-preserved c =
    let at = (goal.at.parts-preserved c).After-advance-from in
    let v : ChainView = chain_of c.args.pool.now c.args.chain.now in
    let i : ℕ = c.parts.i in
    let p : Part = part c.args.n c.args.cut.chunk i in
    let head : head_entry c.head_of.result
    ∷ copied false (chain_of c.parts.pool c.args.chain.now).entries c.advance-from.result.off c.min-size.result
    ≡ head_entry (part_head c.args.head p) ∷ copied false v.entries (20 + p.offset) p.size =
    (λ k. head_entry (c.head_of.ensures k) ∷ copy at k) in
    let new : QueuedPacket =
    record { number = c.in-Ok.packet; entries = (chain_of c.fragment.new.pool c.in-Ok.packet).entries; tag = 0 } in
    let end : insert (queued_packets c.fragment.new.pool c.parts.train) c.len-end.result new
    ≡ insert (queued_packets c.fragment.new.pool c.parts.train) c.parts.train.len new =
    ap (λ (k : ℕ). insert (queued_packets c.fragment.new.pool c.parts.train) k new) c.len-end.ensures in
    let item = ap item_of head ∙ later_is c.copy_weight.ensures v c.args.head p c.requires.datagram.bytes (some at) in
    let more = parts_more c.args.n c.args.cut.chunk i (omega arith) in
    record {
      later =
          later_more p c.parts.invariant.later c.in-Ok.ensures.ok refl item more
          (c.insert.ensures.queued_packets ∙ end) c.insert.ensures.held c.insert.ensures.moves;
      cursor = subst (λ (w : ChainView). IsCursor w c.advance-from.result)
          (kept_moves c.args.chain.now c.parts.invariant.later.moves c.requires.live).0 c.advance-from.ensures.cursor;
      after = omega (arith, c.advance-from.ensures.off, mul_more i c.args.cut.chunk, c.requires.chunk);
    }

pub returns-clause-enough : goal.returns-clause-enough
returns-clause-enough c =
    let e : c.parts.i ≡ c.args.cut.count = omega arith in
    omega (
      arith,
      held_later c.parts.invariant.later,
      c.parts.invariant.later.moves.mbufs,
      ap (λ (k : ℕ). sum_by (part_need (chain_of c.args.pool.now c.args.chain.now))
          (parts_to c.args.n c.args.cut.chunk k)) e,
      c.laws.ensures.few,
    )

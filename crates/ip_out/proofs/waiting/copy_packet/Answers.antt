use Rattle.std.proofs.Common.{◌≤◌, ℕ, List, length, Option, Some, IfSome, sym, ap, ◌∙◌, subst, arith}
use Rattle.ip_out.proofs.Found.{nth_found}
use Rattle.ip_out.proofs.waiting.copy_packet.Goals as goal

pub copy_all-requires : goal.copy_all-requires
copy_all-requires c =
    subst (λ (o : Option (List ℕ)). IfSome o (λ bytes. length bytes ≤ length c.args.buffer.now))
    (nth_found c.args.pool.now c.args.train.now c.args.i c.place_at-at.result.index c.pieces_at.result c.requires.held
    (omega (arith, c.len.ensures, c.if-i-len.false)) c.place_at-at.ensures.index c.pieces_at.ensures)
    c.requires.fits

pub returns-clause-packet : goal.returns-clause-packet
returns-clause-packet c =
    ap Some c.copy_all.ensures.copied
    ∙ sym (nth_found c.args.pool.now c.args.train.now c.args.i c.place_at-at.result.index c.pieces_at.result
    c.requires.held
    (omega (arith, c.len.ensures, c.if-i-len.false)) c.place_at-at.ensures.index c.pieces_at.ensures)

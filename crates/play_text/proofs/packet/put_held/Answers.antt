use Rattle.std.proofs.Common.{ℕ, ◌++◌, codes, ap, ◌∙◌}
use Rattle.std.specs.Fmt.{decimal}
use Rattle.play_text.specs.Pieces.{range_text}
use Rattle.play_text.proofs.packet.put_held.Goals as goal

pub returns-clause-items : goal.returns-clause-items
returns-clause-items g c =
    c.put.ensures.items
    ∙ ap (λ (n : ℕ). c.args.text.now
    ++ (codes "    fragment kept: " ++ range_text c.args.head.offset c.args.carried ++ codes " of datagram "
    ++ decimal n ++ codes ", more to come\n")) c.from.ensures

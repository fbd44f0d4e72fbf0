use Rattle.play_text.proofs.ByteLemmas.{apart_is}
use Rattle.play_text.proofs.bytes.put_first_apart.Goals as goal

pub returns-then-are_apart-clause-items : goal.returns-then-are_apart-clause-items
returns-then-are_apart-clause-items g c =
    apart_is c.args.first.now c.args.second.now c.alike-same.result c.are_apart.result _ _ c.alike-same.ensures.is
    c.are_apart.ensures c.if-are_apart.true c.put_from.ensures.items

use Rattle.std.proofs.Common.{arith, sym, true, false}
use Rattle.std.proofs.lemmas.Bool.{lt-ltb, le-ltb}
use Rattle.flat_plain.proofs.Filling.{meets_at, meets_empty}
use Rattle.flat_plain.proofs.rooms.+meets_from.Goals as goal

pub returns-in-empty-clause-number : goal.returns-in-empty-clause-number
returns-in-empty-clause-number t c = sym (meets_empty c.args.rooms.now c.args.at c.args.a c.args.b c.in-empty.len_below)

pub returns-then-max-min-clause-number : goal.returns-then-max-min-clause-number
returns-then-max-min-clause-number t c =
    sym (meets_at c.args.rooms.now _ c.args.at c.args.a c.args.b c.size.result c.meets_from-later.result true
    c.in-len1-up.len_at_least c.size.ensures (lt-ltb _ _ (omega (arith, c.max.ensures, c.min.ensures)))
    c.meets_from-later.ensures.number)

pub returns-else-max-min-clause-number : goal.returns-else-max-min-clause-number
returns-else-max-min-clause-number t c =
    sym (meets_at c.args.rooms.now _ c.args.at c.args.a c.args.b c.size.result c.meets_from-later.result false
    c.in-len1-up.len_at_least c.size.ensures (le-ltb _ _ (omega (arith, c.max.ensures, c.min.ensures)))
    c.meets_from-later.ensures.number)

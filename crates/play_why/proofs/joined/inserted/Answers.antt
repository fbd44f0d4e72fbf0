use Rattle.std.proofs.Common.{refl, sym, ◌∙◌}
use Rattle.play_why.specs.Joined.{as_fragment, spot_held}
use Rattle.play_why.proofs.JoinLemmas.{lies_inside, lies_outside}
use Rattle.play_why.proofs.joined.inserted.Goals as goal

pub returns-then-is_between : goal.returns-then-is_between
returns-then-is_between c =
    λ map e o. c.inserted_inside.ensures
    ∙ lies_inside map (as_fragment c.args.offset c.args.bytes.now) c.args.k c.args.first (spot_held c.args.old) refl e
    (sym c.if-is_between.ensures) o

pub returns-else-is_between : goal.returns-else-is_between
returns-else-is_between c =
    λ map e o. c.inserted_outside.ensures
    ∙ lies_outside map (as_fragment c.args.offset c.args.bytes.now) c.args.k (spot_held c.args.old) e
    (sym c.if-is_between.ensures)

use Rattle.std.proofs.Common.{ℕ, ◌+◌, ap}
use Rattle.flat_model.specs.Fragments.Overlay.{first_owned}
use Rattle.play_why.proofs.joined.first_owned.Goals as goal

pub returns : goal.returns
unfolding first_owned
returns c = ap (λ (n : ℕ). c.args.offset + n) c.staying.ensures.number

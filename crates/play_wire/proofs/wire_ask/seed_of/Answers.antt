use Rattle.script_loop.specs.Left.{left}
use Rattle.play_wire.proofs.WireLemmas.{no_seed}
use Rattle.play_wire.proofs.wire_ask.seed_of.Goals as goal

pub returns-in_err-seed_in : goal.returns-in_err-seed_in
returns-in_err-seed_in c = rw c.from_residual.ensures (no_seed (left c.args.rest) c.in_err-seed_in.ensures)

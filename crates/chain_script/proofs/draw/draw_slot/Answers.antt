use Rattle.std.proofs.Common.{sym}
use Rattle.chain_script.proofs.Drawn.{drawn_kept}
use Rattle.chain_script.proofs.draw.draw_slot.Goals as goal

pub returns-in-Ok-outcome-clause-drawn : goal.returns-in-Ok-outcome-clause-drawn
returns-in-Ok-outcome-clause-drawn g c =
    let outcome = rw c.in-Ok-outcome.is at (rw c.in-Ok.ensures.ok at c.serve_script-outcome.ensures.served) in
    (_, outcome, rw (sym c.ok.ensures.value) at (drawn_kept _ c.draw-drawn.result c.draw-drawn.ensures))

pub returns-in-Err-clause-drawn : goal.returns-in-Err-clause-drawn
returns-in-Err-clause-drawn g c =
    (_, rw c.in-Err.is at (rw c.in-Ok.ensures.ok at c.serve_script-outcome.ensures.served), tt)

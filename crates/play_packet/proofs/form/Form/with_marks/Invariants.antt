use Rattle.std.proofs.Common.{◌≡◌, length}
use Rattle.play_packet.specs.Forms.{form_after}
use Rattle.play_packet.proofs.form.Form.with_marks.Given as goal

abbrev pub invariant-loop-rounds : goal.invariant-loop-rounds
invariant-loop-rounds l = form_after l.rounds l.text l.form l.place ≡ form_after (length l.text) l.text l.fn.self l.at

abbrev pub decreases-loop-rounds : goal.decreases-loop-rounds
decreases-loop-rounds l = l.rounds

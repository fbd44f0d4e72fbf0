use Rattle.std.proofs.Common.{None, Some, refl, arith}
use Rattle.flat_model.specs.Machine.Event.{Transmit}
use Rattle.flat_model.specs.Machine.Replies.{given_reply}
use Rattle.callers.proofs.laws_on_a_wire.give.Goals as goal

pub returns-in-Some-clause-given : goal.returns-in-Some-clause-given
returns-in-Some-clause-given c = record {
  turn = record { event = Transmit; reply = given_reply (Some c.in-Some.len) c.tx.new.buffer };
  is_tx = refl;
  calls = (tt, c.tx.new.self, c.in-Some.ensures.step, refl);
  out = λ long. refl;
}

pub returns-in-None-clause-given : goal.returns-in-None-clause-given
returns-in-None-clause-given c = record {
  turn = record { event = Transmit; reply = given_reply None c.tx.new.buffer };
  is_tx = refl;
  calls = (tt, c.tx.new.self, c.in-None.ensures.step, refl);
  out = λ long. absurd (omega arith);
}

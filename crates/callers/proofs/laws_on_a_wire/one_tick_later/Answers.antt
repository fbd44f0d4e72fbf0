-- The law of age, for the two calls.
use Rattle.std.proofs.Common.{[], ◌∷◌, refl, arith}
use Rattle.flat_model.specs.Machine.Event.{Tick, Done}
use Rattle.net_stack.specs.Stack.{state_of}
use Rattle.callers.specs.Runs.{arrives}
use Rattle.callers.specs.declared.laws_on_a_wire.TheConstants.{FIRST}
use Rattle.callers.proofs.Calls.{are_bytes}
use Rattle.callers.proofs.RunCalls.{ticks_left}
use Rattle.callers.proofs.laws_on_a_wire.one_tick_later.Goals as goal

pub returns : goal.returns
returns c =
    ticks_left c.age_law.ensures FIRST c.args.packet.now (state_of c.tick.new.self)
    (c.calls_are_run.ensures FIRST c.in_ok-stack.stack c.tick.new.self
    (arrives c.args.packet.now ∷ record { event = Tick; reply = Done } ∷ []) c.in_ok-stack.ensures.booted.1 (
      (are_bytes c.args.packet.now (λ k. omega (arith, c.type_inv.packet k)), c.requires),
      c.rx.new.self,
      c.rx.ensures,
      (tt, c.tick.new.self, c.tick.ensures, refl),
    ))

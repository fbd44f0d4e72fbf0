use Rattle.std.proofs.Common.{arith, length-take-le}
use Rattle.flat_model.specs.declared.counter.Counter.TheVariants.{IpReclaimed, Nobufs}
use Rattle.net_stack.specs.Stack.{state_of}
use Rattle.callers.proofs.Parts.{both_parts, delivered, unchanged}
use Rattle.callers.proofs.laws_on_a_wire.pass_parts.Goals as goal

pub pass_both-requires-clause-parts : goal.pass_both-requires-clause-parts
pass_both-requires-clause-parts c =
    (both_parts c.args.bytes.now _ _ c.args.first.now c.send.new.stack c.give-one_len.new.stack
    c.give-two_len.new.stack c.is_drained.new.stack c.args.second.now c.send.ensures.0 c.requires.first
    c.send.ensures.1 c.give-one_len.ensures.given c.give-two_len.ensures.given
    (c.is_drained.ensures c.if-not-is_drained.false)
    (omega (
      arith,
      c.if-one_len-lt16.false,
      length-take-le c.give-one_len.result c.give-one_len.new.buffer
          c.give-one_len.ensures.fits,
    ))
    (omega (
      arith,
      c.if-two_len-lt16.false,
      length-take-le c.give-two_len.result c.give-two_len.new.buffer
          c.give-two_len.ensures.fits,
    )) c.requires.second c.laws.ensures.stack.consistent).parts

pub returns : goal.returns
returns c = λ e.
    delivered c.args.bytes.now _ _ (state_of c.args.second.now) (state_of c.pass_both.new.stack)
    (both_parts c.args.bytes.now _ _ c.args.first.now c.send.new.stack c.give-one_len.new.stack
    c.give-two_len.new.stack c.is_drained.new.stack c.args.second.now c.send.ensures.0 c.requires.first
    c.send.ensures.1 c.give-one_len.ensures.given c.give-two_len.ensures.given
    (c.is_drained.ensures c.if-not-is_drained.false)
    (omega (
      arith,
      c.if-one_len-lt16.false,
      length-take-le c.give-one_len.result c.give-one_len.new.buffer
          c.give-one_len.ensures.fits,
    ))
    (omega (
      arith,
      c.if-two_len-lt16.false,
      length-take-le c.give-two_len.result c.give-two_len.new.buffer
          c.give-two_len.ensures.fits,
    )) c.requires.second c.laws.ensures.stack.consistent) c.pass_both.ensures
    (unchanged IpReclaimed _ _ _ _ c.counters-before.ensures.0 c.counters-after.ensures.0
    (c.is_unchanged.ensures c.if-not-is_unchanged.false))
    (unchanged Nobufs _ _ _ _ c.counters-before.ensures.0 c.counters-after.ensures.0 (c.is_unchanged-2.ensures e))

use Rattle.std.proofs.Common.{None, Some, rules}
use Rattle.net_stack.specs.Stack.{state_of}
use Rattle.play_why.proofs.ports.Ports.bind.Goals as goal

pub returns-in_ok-push : goal.returns-in_ok-push
returns-in_ok-push c = record {
  fewer = c.make_space.new.self;
  bound = Some c.in-Some.bound;
  freed = state_of c.make_space.new.machine;
  makes = c.make_space.ensures;
  tries = c.in-Some.ensures;
  bound_is = search rules;
  only = c.make_space.ensures.only;
}

pub returns-in_default : goal.returns-in_default
returns-in_default c = record {
  fewer = c.make_space.new.self;
  bound = None;
  freed = state_of c.make_space.new.machine;
  makes = c.make_space.ensures;
  tries = c.in_default.ensures;
  bound_is = search rules;
  only = c.make_space.ensures.only;
}

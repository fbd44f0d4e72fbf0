-- The law of the definitions, of the machine that the stack shows.
use Rattle.std.proofs.Common.{arith}
use Rattle.net_stack.specs.Stack.{state_of}
use Rattle.net_stack.proofs.Limits.{limited_run}
use Rattle.net_stack.proofs.laws.stacks_isolate_sockets.Goals as goal

pub returns-clause-holds : goal.returns-clause-holds
returns-clause-holds c config s l =
    let at = c.sockets_are_isolated.ensures.run config l.turns (state_of s) l.boots (limited_run config s l) in
    c.sockets_are_isolated.ensures.holds (state_of s) at.0 at.1

pub returns-clause-send : goal.returns-clause-send
returns-clause-send c config s t fd to bytes me reply l found room turn =
    let at = c.sockets_are_isolated.ensures.run config l.turns (state_of s) l.boots (limited_run config s l) in
    c.sockets_are_isolated.ensures.send (state_of s) (state_of t) fd to bytes me reply at.0 at.1 found
    (record { limits = room.limits; mbufs = omega (arith, room.mbufs); clusters = omega (arith, room.clusters) }) turn

pub returns-clause-arrival : goal.returns-clause-arrival
returns-clause-arrival c config s t packet to l for fit room turn =
    let at = c.sockets_are_isolated.ensures.run config l.turns (state_of s) l.boots (limited_run config s l) in
    c.sockets_are_isolated.ensures.arrival (state_of s) (state_of t) packet _ to at.0 at.1 for fit room turn

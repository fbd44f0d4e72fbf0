-- The three calls, one after another.
use Rattle.callers.proofs.LimitedCalls.{opened_with_limit}
use Rattle.callers.proofs.echo_host.open_limited.Goals as goal

pub returns : goal.returns
returns c =
    opened_with_limit c.args.stack.now c.socket.new.self c.set_receive_limit.new.self c.bind.new.self c.in_ok-fd.fd
    c.requires.boots c.requires.starts c.in_ok-fd.ensures c.in_ok-set_receive_limit.ensures c.in_ok-bind.ensures

use Rattle.net_stack.proofs.Boot.{none_table}
use Rattle.net_stack.proofs.host.Host.end_new.Goals as goal

pub end-requires : goal.end-requires
end-requires c = none_table c.args.self.pool c.args.self.reass.datagrams c.requires.reass

pub end-requires-2-clause-out : goal.end-requires-2-clause-out
end-requires-2-clause-out c = c.requires.out c.end.new.pool

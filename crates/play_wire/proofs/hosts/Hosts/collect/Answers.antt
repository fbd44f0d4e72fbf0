use Rattle.play_wire.proofs.hosts.Hosts.collect.Goals as goal

pub returns-clause-collects : goal.returns-clause-collects
returns-clause-collects g c = (
  c.send.ensures.0,
  c.send.ensures.1,
  (
    c.set_ok.ensures.reply_line,
    c.set_ok.ensures.below,
  ),
)

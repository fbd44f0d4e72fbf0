use Rattle.play_wire.proofs.hosts.Hosts.deliver.Goals as goal

pub returns-clause-delivers : goal.returns-clause-delivers
returns-clause-delivers g c = (
  c.bring.ensures.0,
  c.bring.ensures.1,
  (
    c.set_ok.ensures.reply_line,
    c.set_ok.ensures.below,
  ),
)

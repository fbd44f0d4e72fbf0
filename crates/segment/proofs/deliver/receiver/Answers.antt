use Rattle.segment.specs.Inside.{flying}
use Rattle.segment.proofs.Apart.{only_found}
use Rattle.segment.proofs.deliver.receiver.Goals as goal

pub returns-else-ip : goal.returns-else-ip
returns-else-ip c =
    only_found c.args.directory.now.configs.items (flying c.args.frame.now) c.in_ok-ip.ip c.find.result
    c.args.directory.now.apart c.in_ok-ip.ensures c.if-ip.false c.find.ensures

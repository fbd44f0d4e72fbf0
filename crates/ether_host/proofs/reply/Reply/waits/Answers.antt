use Rattle.ether_host.proofs.Parts.{waits_some}
use Rattle.ether_host.proofs.reply.Reply.waits.Goals as goal

pub returns : goal.returns
returns c = waits_some c.args.self.now c.args.self.now.left

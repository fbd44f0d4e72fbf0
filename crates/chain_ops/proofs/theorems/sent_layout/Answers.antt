use Rattle.chain_ops.proofs.Sent.{sent_placed}
use Rattle.chain_ops.proofs.theorems.sent_layout.Goals as goal

pub returns : goal.returns
returns c = sent_placed

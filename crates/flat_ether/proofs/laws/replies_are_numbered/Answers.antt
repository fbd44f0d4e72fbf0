use Rattle.flat_ether.proofs.Counts.{numbered_next}
use Rattle.flat_ether.proofs.Replies.{echo_numbered, error_numbered}
use Rattle.flat_ether.proofs.laws.replies_are_numbered.Goals as goal

pub returns-clause-next : goal.returns-clause-next
returns-clause-next c = λ config link. numbered_next config link

pub returns-clause-echo : goal.returns-clause-echo
returns-clause-echo c = λ config. echo_numbered config

pub returns-clause-error : goal.returns-clause-error
returns-clause-error c = λ config. error_numbered config

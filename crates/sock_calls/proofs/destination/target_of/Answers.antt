use Rattle.sock_calls.proofs.destination.target_of.Goals as goal

pub returns-in-Some : goal.returns-in-Some
returns-in-Some c = λ rest queues b at. rw c.in-Some.is (c.check_destination_of.ensures rest queues b at)

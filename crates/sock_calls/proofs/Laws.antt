-- The laws that crates above may cite.

-- A step on other chains leaves the sockets the same.
pub use Rattle.sock_calls.proofs.Frames.{Kept, kept}
-- One step of the parts after another.
pub use Rattle.sock_calls.proofs.Frames.{keeps_trans}
-- What the receive queues weigh is what their chains weigh.
pub use Rattle.sock_calls.proofs.Weights.{queue_weight, socks_weigh}
-- A chain has the weight of its layout.
pub use Rattle.sock_calls.proofs.Arriving.{placed_weight}
-- A chain that loses bytes at an end weighs what it weighed.
pub use Rattle.sock_calls.proofs.Storing.{only_weighs, without_weighs}
-- A packet of 101 to 207 bytes takes two mbufs.
pub use Rattle.sock_calls.proofs.TwoMbufs.{two_plain, two_weigh}
-- A packet whose datagram has a fault is dropped.
pub use Rattle.sock_calls.proofs.Whole.{refused}
-- Two counts of a cluster in a list agree; a cluster without references is free.
pub use Rattle.sock_calls.proofs.Going.{bag_of_times, free_each}
-- A send that doesn't fail for lack of buffers is the machine's send, and so is one that is retried without the
-- unfinished datagrams.
pub use Rattle.sock_calls.proofs.Tested.{sends_at_once, sends_again}

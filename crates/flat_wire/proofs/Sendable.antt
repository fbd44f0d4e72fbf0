-- The properties of a send to the link.
use Rattle.std.specs.Prelude.{◌≢◌, ℕ, ◌<◌, ◌≤◌, length}
use Rattle.flat_model.specs.Machine.Sending.{Sending}
use Rattle.flat_model.specs.Machine.State.{loopback, limited_broadcast}

-- its numbers are in range, and its destination is on the wire
pub record IsSendable (mtu : ℕ) (x : Sending) : Type 0 where
  pub id : x.id < 65536
  pub source : x.source < 4294967296
  pub ip : x.to.ip < 4294967296
  pub to_port : x.to.port < 65536
  pub port : x.port < 65536
  pub short : length x.bytes ≤ 9216
  pub not_loopback : x.to.ip ≢ loopback
  pub not_limited_broadcast : x.to.ip ≢ limited_broadcast

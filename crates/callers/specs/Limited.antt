-- What the caller in `src/echo_host.rt` knows of a socket with a receive limit (this project's own).
use Rattle.std.specs.Prelude.{◌≡◌, ℕ, Some}
use Rattle.flat_model.specs.Machine.Send.{need_to}
use Rattle.flat_model.specs.Machine.State.{Socket, socket_at}
use Rattle.flat_model.specs.Runs.Isolation.{PoolHasRoom}
use Rattle.net_stack.specs.Isolation.{IsLimited}
use Rattle.net_stack.specs.Stack.{StackView, state_of}
use Rattle.callers.specs.declared.echo_host.TheConstants.{HOST}

-- Since boot each limit was set while its queue was empty. The socket is open, and the pool has room for what its limit
-- allows and for a send of four bytes to any address.
pub record IsOpenedWithLimit (fd : ℕ) (s : StackView) : Type 0 where
  pub limited : IsLimited HOST s
  pub me : Socket
  pub found : socket_at fd (state_of s) ≡ Some me
  pub room : (ip : ℕ) → PoolHasRoom (need_to (state_of s).config ip 4) (state_of s)

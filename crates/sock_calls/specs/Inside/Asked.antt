-- The results of queries, from the parts of the sockets.
use Rattle.std.specs.Prelude.{ℕ, Bool, not, ◌==◌, List, length, Option, None, Some, Result, Ok, Err}
use Rattle.flat_model.specs.declared.errno.Errno.{Errno}
use Rattle.flat_model.specs.declared.errno.Errno.TheVariants.{BadDescriptor}
use Rattle.mbuf_chain.specs.Chain.{PoolView}
use Rattle.pcb_table.specs.declared.block.Block.{Block}
use Rattle.sockbuf.specs.SockBuf.{SockBufView}
use Rattle.sock_calls.specs.declared.questions.SocketName.{SocketName}
use Rattle.sock_calls.specs.Sockets.{queues_of}

-- the name in a control block
abbrev pub name_of_block : Option Block → Result SocketName Errno
name_of_block None = Err BadDescriptor
name_of_block (Some b) = Ok (record {
  local = b.local;
  port = b.port;
  peer = b.peer;
  broadcast = b.broadcast;
  reuse_port = b.reuse_port;
})

-- the size of the receive queue in a control block
abbrev pub limit_of_block : Option Block → Result ℕ Errno
limit_of_block None = Err BadDescriptor
limit_of_block (Some b) = Ok b.receive_limit

-- a datagram waits in the queue at the place
abbrev pub waits_at : PoolView → List SockBufView → ℕ → Bool
waits_at p bs k = not (length (queues_of p bs k) == 0)

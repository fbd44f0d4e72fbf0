-- How the calls change a block (volume 2 chapter 22), and the cached connection.
use Rattle.std.specs.Prelude.{ℕ, Bool, false, if◌then◌else◌, ◌==◌, Option, Some, None, is_some}
use Rattle.flat_model.specs.declared.address.Addr.{Addr}
use Rattle.flat_model.specs.declared.option.Opt.{Opt}
use Rattle.flat_model.specs.declared.option.Opt.TheVariants.{Broadcast, ReusePort}
use Rattle.pcb_table.specs.declared.block.Block.{Block}
use Rattle.pcb_table.specs.declared.block.Connection.{Connection}

-- a new socket's (section 22.4)
abbrev pub unbound_block : ℕ → Block
unbound_block fd =
    record {
      fd = fd;
      local = None;
      port = None;
      peer = None;
      broadcast = false;
      reuse_port = false;
      receive_limit = 0;
    }

abbrev pub block_with_option : Opt → Bool → Block → Block
block_with_option Broadcast on b = record b { broadcast = on }
block_with_option ReusePort on b = record b { reuse_port = on }

-- `sbreserve` (chapter 16)
abbrev pub limited_block : ℕ → Block → Block
limited_block limit b = record b { receive_limit = limit }

-- section 22.7
abbrev pub bound_block : Option ℕ → ℕ → Block → Block
bound_block local port b = record b { local = local; port = Some port }

-- section 22.8
abbrev pub connected_block : ℕ → ℕ → Addr → Block → Block
connected_block local port peer b = record b { local = Some local; port = Some port; peer = Some peer }

-- section 22.9
abbrev pub disconnected_block : Block → Block
disconnected_block b = if is_some b.peer then record b { local = None; peer = None } else b

-- ---- the connection that may be remembered (chapter 23)

abbrev pub connection_by : ℕ → Option ℕ → Option ℕ → Option Addr → Option Connection
connection_by fd (Some ip) (Some port) (Some peer) =
    Some (record { fd = fd; local = record { ip = ip; port = port }; peer = peer })
connection_by fd _ _ _ = None

-- if all four are set
abbrev pub connection_of : Block → Option Connection
connection_of b = connection_by b.fd b.local b.port b.peer

-- unless it is that of the descriptor
abbrev pub forgotten : ℕ → Option Connection → Option Connection
forgotten fd None = None
forgotten fd (Some c) = if c.fd == fd then None else Some c

-- When the blocks of a table are apart (this project's own).
use Rattle.std.specs.Prelude.{ℕ, ◌+◌, ◌<◌, ◌≤◌, ◌≡◌, Bool, ◌==◌, ◌&&◌, List, [], count_by, Some, is_some, is_none}
use Rattle.params.specs.declared.TheConstants.{FIRST_DESCRIPTOR, MAX_SOCKETS}
use Rattle.flat_model.specs.Machine.State.{Socket}
use Rattle.flat_model.specs.Sockets.Lookup.{matches, wildcards}
use Rattle.flat_model.specs.declared.address.Addr.{Addr}
use Rattle.flat_model.specs.declared.lookup_key.LookupKey.{LookupKey}
use Rattle.pcb_table.specs.Table.{socket_with}
use Rattle.pcb_table.specs.declared.block.Block.{Block}

-- a block as a socket with an empty queue
abbrev pub plain : Block → Socket
plain b = socket_with (λ _. []) b

abbrev pub does_match : LookupKey → Block → Bool
does_match q b = matches q (plain b)

abbrev pub has_score : ℕ → LookupKey → Block → Bool
has_score k q b = does_match q b && (wildcards q (plain b) == k)

abbrev pub has_fd : ℕ → Block → Bool
has_fd fd b = b.fd == fd

-- all four set
abbrev pub four : ℕ → ℕ → Addr → LookupKey
four local port peer = record { local = Some local; port = Some port; peer = Some peer }

abbrev pub has_four : ℕ → ℕ → Addr → Block → Bool
has_four local port peer b = has_score 0 (four local port peer) b

-- connected, and without a port
abbrev pub lacks_port : Block → Bool
lacks_port b = is_some b.peer && is_none b.port

-- Descriptors are 3 to 66. No two blocks have the same descriptor, nor all four values set and equal, and a
-- connected block has a port.
pub record AreApart (bs : List Block) : Type 0 where
  pub fds : (fd : ℕ) → count_by (has_fd fd) bs ≤ 1
  pub least : (fd : ℕ) → 0 < count_by (has_fd fd) bs → FIRST_DESCRIPTOR ≤ fd
  pub most : (fd : ℕ) → 0 < count_by (has_fd fd) bs → fd < FIRST_DESCRIPTOR + MAX_SOCKETS
  pub ports : count_by lacks_port bs ≡ 0
  pub fours : (local port : ℕ) (peer : Addr) → count_by (has_four local port peer) bs ≤ 1

-- The capacity of a receive queue (`sbspace` and `sbappendaddr` of volume 2, chapter 16): at most 41,600 bytes,
-- including 16 for each sender's address, and 83,200 bytes of memory for them. A socket with a limit of its own holds
-- at most that many bytes, and twice as much memory (`sbreserve`).
use Rattle.std.specs.Prelude.{ℕ, zero, suc, ◌+◌, ◌*◌, Bool, nat_le, ◌&&◌, List, length, sum_by}
use Rattle.params.specs.declared.TheConstants.{MSIZE, MCLBYTES, SOCKADDR_BYTES, UDP_RECEIVE_SPACE, UDP_RECEIVE_MEMORY}
use Rattle.flat_model.specs.Amounts.Weight.{Weight}
use Rattle.flat_model.specs.Machine.State.{Datagram}

-- the bytes of its datagrams, 16 more for each
abbrev pub bytes_queued : List Datagram → ℕ
bytes_queued queue = sum_by (λ d. SOCKADDR_BYTES + length d.item.bytes) queue

-- the memory for them: 128 bytes for each mbuf, and 2048 for each reference to a cluster
abbrev pub memory_queued : List Datagram → ℕ
memory_queued queue = sum_by (λ d. MSIZE * d.item.weight.mbufs + MCLBYTES * length d.item.weight.bag) queue

-- the memory of a weight
abbrev pub memory_of : Weight → ℕ
memory_of w = MSIZE * w.mbufs + MCLBYTES * length w.bag

-- the memory that a queue of this limit may have (`sb_mbmax`)
abbrev pub memory_limit : ℕ → ℕ
memory_limit limit = 2 * limit

-- Whether a datagram of n bytes that takes this much memory fits. Without a limit of the socket's own, its own mbufs
-- don't count yet, as in the book. With a limit they count, and so does the mbuf for the sender's address (this
-- project's own).
abbrev pub fits : ℕ → List Datagram → ℕ → ℕ → Bool
fits zero queue n memory =
    nat_le (SOCKADDR_BYTES + n + bytes_queued queue) UDP_RECEIVE_SPACE
    && nat_le (SOCKADDR_BYTES + n + memory_queued queue) UDP_RECEIVE_MEMORY
fits (suc less) queue n memory =
    nat_le (SOCKADDR_BYTES + n + bytes_queued queue) (suc less)
    && nat_le (MSIZE + memory + memory_queued queue) (memory_limit (suc less))

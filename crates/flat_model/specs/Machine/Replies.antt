-- The replies that correspond to the results of the calls (this project's own).
use Rattle.std.specs.Prelude.{ℕ, ◌≤◌, List, length, take, Option, Some, None, Result, Ok, Err}
use Rattle.flat_model.specs.Machine.Event.{Reply, Done, Opened, Sent, Received, Given, Refused}
use Rattle.flat_model.specs.declared.address.Addr.{Addr}
use Rattle.flat_model.specs.declared.errno.Errno.{Errno}

-- `bind`, `connect`, `close` and `setsockopt`
abbrev pub done_reply : Result Unit Errno → Reply
done_reply (Ok done) = Done
done_reply (Err errno) = Refused errno

-- `socket`, with the descriptor
abbrev pub opened_reply : Result ℕ Errno → Reply
opened_reply (Ok fd) = Opened fd
opened_reply (Err errno) = Refused errno

-- `sendto` and `send`, with the number of bytes
abbrev pub sent_reply : Result ℕ Errno → Reply
sent_reply (Ok n) = Sent n
sent_reply (Err errno) = Refused errno

-- `recvfrom`, with the sender and how many bytes it wrote to the front of the buffer
abbrev pub received_reply : Result (Addr × ℕ) Errno → List ℕ → Reply
received_reply (Ok got) room = Received got.0 (take got.1 room)
received_reply (Err errno) room = Refused errno

-- the buffer has space for these bytes
abbrev pub FitsRoom : Result (Addr × ℕ) Errno → List ℕ → Type 0
FitsRoom (Ok got) room = got.1 ≤ length room
FitsRoom (Err errno) room = Unit {0}

-- `tx`, with how many bytes of a packet it wrote to the front of the buffer
abbrev pub given_reply : Option ℕ → List ℕ → Reply
given_reply (Some n) room = Given (Some (take n room))
given_reply None room = Given None

-- The reply of the reference machine that a reply represents (this project's own).
use Rattle.std.specs.Prelude.{ℕ, List, length, Option, Some, None}
use Rattle.std.specs.Borrow.{Bor}
use Rattle.flat_model.specs.Machine.Event as event
use Rattle.request.specs.declared.reply.Reply.{Reply}
use Rattle.request.specs.declared.reply.Reply.TheVariants.{Done, Opened, Sent, Received, Given, Counted, Shown, Refused}

-- the packet of a reference
abbrev pub packet_behind : Option (Bor (List ℕ)) → Option (List ℕ)
packet_behind (Some packet) = Some packet.now
packet_behind None = None

abbrev pub reply_of : Reply → event.Reply
reply_of Done = event.Done
reply_of (Opened fd) = event.Opened fd
reply_of (Sent n) = event.Sent n
reply_of (Received sender bytes) = event.Received sender bytes.now
reply_of (Given packet) = event.Given (packet_behind packet)
reply_of (Counted counters) = event.Counted counters
reply_of (Shown usage) = event.Shown usage
reply_of (Refused errno) = event.Refused errno

-- the number of bytes in a reply
abbrev pub len_of : Reply → ℕ
len_of Done = 0
len_of (Opened fd) = 0
len_of (Sent n) = 0
len_of (Received sender bytes) = length bytes.now
len_of (Given (Some packet)) = length packet.now
len_of (Given None) = 0
len_of (Counted counters) = 0
len_of (Shown usage) = 0
len_of (Refused errno) = 0

-- The event that a request represents (this project's own).
use Rattle.std.specs.Prelude.{ℕ, length}
use Rattle.flat_model.specs.Machine.Event as event
use Rattle.request.specs.declared.request.Request.{Request}
use Rattle.request.specs.declared.request.Request.TheVariants.{Socket, Bind, Connect, Send, Receive, Close, SetOption, Packet, Transmit, Tick, Counters, Usage}

abbrev pub event_of : Request → event.Event
event_of Socket = event.Open
event_of (Bind fd address) = event.Bind fd address
event_of (Connect fd address) = event.Connect fd address
event_of (Send fd to bytes) = event.Send fd to bytes.now
event_of (Receive fd most) = event.Receive fd most
event_of (Close fd) = event.Close fd
event_of (SetOption fd option on) = event.Set_option fd option on
event_of (Packet bytes) = event.Comes bytes.now
event_of Transmit = event.Transmit
event_of Tick = event.Tick
event_of Counters = event.Ask_counters
event_of Usage = event.Ask_usage

-- the number of bytes that a request contains, or asks to receive
abbrev pub room_of : Request → ℕ
room_of Socket = 0
room_of (Bind fd address) = 0
room_of (Connect fd address) = 0
room_of (Send fd to bytes) = length bytes.now
room_of (Receive fd most) = most
room_of (Close fd) = 0
room_of (SetOption fd option on) = 0
room_of (Packet bytes) = length bytes.now
room_of Transmit = 0
room_of Tick = 0
room_of Counters = 0
room_of Usage = 0

-- The view of the parts of the sockets (this project's own).
use Rattle.sock_calls.specs.declared.parts.Parts.{Parts}
use Rattle.sock_calls.specs.Sockets.{SocksView, from_three}

abbrev pub socks_of : Parts → SocksView
socks_of s = record { pcbs = s.pcbs; queues = from_three s.queues }

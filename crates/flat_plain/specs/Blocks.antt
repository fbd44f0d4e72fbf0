-- A control block of the programs as a socket of the definitions, with an empty queue (this project's own).
use Rattle.std.specs.Prelude.{false, [], List, map}
use Rattle.flat_model.specs.Machine.State.{Socket}
use Rattle.flat_plain.specs.declared.lookup.Pcb.{Pcb}

abbrev pub socket_of : Pcb → Socket
socket_of b =
    record {
      fd = b.fd;
      local = b.local;
      port = b.port;
      peer = b.peer;
      broadcast = false;
      reuse_port = b.reuse_port;
      limit = 0;
      queue = [];
    }

abbrev pub sockets_of : List Pcb → List Socket
sockets_of blocks = map socket_of blocks

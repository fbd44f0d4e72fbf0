-- A queue of the programs as a queue of the definitions. The values of its bytes and the numbers of its clusters have
-- no effect on its limits, so all are 0 here (this project's own).
use Rattle.std.specs.Prelude.{List, map, replicate}
use Rattle.flat_model.specs.Machine.State.{Datagram}
use Rattle.flat_plain.specs.declared.queues.Waiting.{Waiting}

abbrev pub plain_datagram : Waiting → Datagram
plain_datagram w = record {
  sender = record { ip = 0; port = 0 };
  item = record { bytes = replicate w.len 0; weight = record { mbufs = w.mbufs; bag = replicate w.references 0 } };
}

abbrev pub plain_queue : List Waiting → List Datagram
plain_queue queue = map plain_datagram queue

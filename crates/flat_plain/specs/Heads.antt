-- A head of the programs as a head of the definitions (this project's own).
use Rattle.flat_model.specs.Packets.Header as Header
use Rattle.flat_plain.specs.declared.headers.Head.{Head}

abbrev pub plain_head : Head → Header.Head
plain_head h =
    record {
      id = h.id;
      more = h.more;
      offset = h.offset;
      protocol = h.protocol;
      source = h.source;
      destination = h.destination;
    }

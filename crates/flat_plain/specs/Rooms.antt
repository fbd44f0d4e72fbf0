-- A room of the programs as a room of the definitions (this project's own).
use Rattle.std.specs.Prelude.{List, map}
use Rattle.flat_model.specs.Amounts.Layout as Layout
use Rattle.flat_plain.specs.declared.rooms.Room.{Room}
use Rattle.flat_plain.specs.declared.rooms.Room.TheVariants.{InMbuf, InCluster}

abbrev pub plain_room : Room → Layout.Room
plain_room (InMbuf size) = Layout.Plain size
plain_room (InCluster size) = Layout.Cluster size

abbrev pub rooms_of : List Room → List Layout.Room
rooms_of rooms = map plain_room rooms

-- The events of playing a capture (this project's own).
use Rattle.std.specs.Prelude.{ℕ, List}
use Rattle.flat_model.specs.Machine.Event.{Event, Comes, Tick}
use Rattle.play_pcap.specs.declared.wire.RecordPlace.{RecordPlace}

-- the packet of the record at this place arrives, or half a second passes
pub data Act : Type 0 where
  Arrives : (place : RecordPlace) (packet : List ℕ) → Act
  Passes : Act

-- the same for a machine, which has no records
abbrev pub act_event : Act → Event
act_event (Arrives place packet) = Comes packet
act_event Passes = Tick

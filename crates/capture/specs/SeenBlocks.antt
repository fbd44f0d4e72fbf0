-- The types in memory, as the contracts see them.
use Rattle.capture.specs.Blocks.{Part}
use Rattle.capture.specs.declared.pcapng.block.Block.{Block}
use Rattle.capture.specs.Bodies.{Enhanced, Plain}
use Rattle.capture.specs.declared.pcapng.body.EnhancedPacket.{EnhancedPacket}
use Rattle.capture.specs.declared.pcapng.body.SimplePacket.{SimplePacket}

abbrev pub part : Block → Part
part b = record { order = b.order; kind = b.kind; body = b.body.now }

abbrev pub enhanced : EnhancedPacket → Enhanced
enhanced p = record { interface = p.interface; ticks = p.ticks; original = p.original_len; bytes = p.bytes.now }

abbrev pub plain : SimplePacket → Plain
plain p = record { original = p.original_len; bytes = p.bytes.now }

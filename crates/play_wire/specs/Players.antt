-- The state of a player (this project's own).
use Rattle.segment.specs.Inside.{view}
use Rattle.play_script.specs.declared.printer.Printer.{Printer}
use Rattle.play_wire.specs.Inside.{play_with}
use Rattle.play_wire.specs.Reports.{WirePlay}
use Rattle.play_wire.specs.declared.player.Player.{Player}

module _ {T : Type 0} where
  abbrev pub wire_now : Player T → WirePlay
  wire_now p = play_with (view p.hosts.segment) p.hosts.names.items p.printer

  -- the same with another printer
  abbrev pub wire_printing : Player T → Printer → WirePlay
  wire_printing p printer = wire_now (record p { printer = printer })

-- The state of a player (this project's own).
use Rattle.std.specs.declared.io.traits.Write as Write
use Rattle.net_stack.specs.Stack.{state_of}
use Rattle.script_loop.specs.declared.streams.Sink as Sink
use Rattle.play_script.specs.Inside.{play_of}
use Rattle.play_script.specs.Reports.{Play}
use Rattle.play_script.specs.declared.player.Player.{Player}
use Rattle.play_script.specs.declared.printer.Printer.{Printer}

module _ {T F : Type 0} {sink : Sink.Ghosts T} {write : Write.Ghosts T} where
  abbrev pub play_now : Player T F sink write → Play
  play_now p = play_of (state_of p.captured.stack) p.captured.capture.trace p.config p.head p.printer

  -- the same with another printer
  abbrev pub printing : Player T F sink write → Printer → Play
  printing p printer = play_now (record p { printer = printer })

use Rattle.std.proofs.Common.{Bool, ap}
use Rattle.net_stack.specs.Stack.{state_of}
use Rattle.play_script.specs.Inside.{play_of}
use Rattle.play_script.proofs.player.Player.wait.Goals as goal

pub returns-clause-waited : goal.returns-clause-waited
returns-clause-waited g c =
    let now = c.args.self.now in
    let after = c.wait.new.self in record {
      does = c.wait.ensures.does;
      captured = c.wait.ensures.captured;
      is =
          ap (λ (h : Bool). play_of (state_of after.stack) after.capture.trace now.config h now.printer)
          c.both-self.ensures;
    }

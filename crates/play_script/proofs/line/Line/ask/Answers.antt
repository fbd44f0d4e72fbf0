use Rattle.std.proofs.Common.{◌++◌, List, codes, subst, ℕ}
use Rattle.flat_model.specs.Scripts.Texts.{hex_text}
use Rattle.play_script.specs.Asks.{Writes}
use Rattle.play_script.specs.Views.{ask_of}
use Rattle.play_script.proofs.line.Line.ask.Goals as goal

pub returns-then-self-clause-asks : goal.returns-then-self-clause-asks
returns-then-self-clause-asks c = rw c.if-self.true
    (subst (λ (packet : List ℕ). Writes (codes "rx " ++ hex_text packet) (ask_of c.packet_ask.result))
    c.bytes_of.ensures.is c.packet_ask.ensures.writes)

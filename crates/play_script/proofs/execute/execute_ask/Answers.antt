use Rattle.std.proofs.Common.{ap, refl}
use Rattle.flat_model.specs.Scripts.Grammar.{words}
use Rattle.play_script.specs.Views.{ask_of}
use Rattle.play_script.proofs.execute.execute_ask.Goals as goal

pub returns-in-Settings : goal.returns-in-Settings
returns-in-Settings g c = ((words c.in-Settings.field-0.now, ap ask_of c.in-Settings.is), refl)

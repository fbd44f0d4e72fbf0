use Rattle.std.proofs.Common.{length, Result}
use Rattle.flat_model.specs.Scripts.Grammar.{words}
use Rattle.flat_model.specs.declared.config.Config.{Config}
use Rattle.play_script.specs.Settings.{SetsAll, drafted}
use Rattle.play_script.specs.declared.fault.SettingFault.{SettingFault}
use Rattle.play_script.proofs.settings.settings_of.Given as goal

abbrev pub invariant-pairs : goal.invariant-pairs
invariant-pairs l =
    (outcome : Result Config SettingFault) → SetsAll l.draft (words l.text) outcome
    → SetsAll (drafted l.fn.config) (words l.fn.plain) outcome

abbrev pub decreases-pairs : goal.decreases-pairs
decreases-pairs l = length (words l.text)

-- Settings with which no machine can be booted.
use Rattle.std.proofs.Common.{◌≡◌, ℕ, Bool, true, false, List, Ok, Err, inr}
use Rattle.std.proofs.lemmas.Bool.{false≢true}
use Rattle.flat_model.specs.declared.config.Config.{Config}
use Rattle.play_script.specs.Settings.{IsSet}
use Rattle.play_script.specs.declared.fault.SettingFault.{SettingFault}
use Rattle.play_script.specs.Reports.{IsSettingRefused, IsSettled}

pub Settled-refused : (head : Bool) (old new : Config) (named : List (List ℕ)) (fault : SettingFault) → head ≡ true
    → IsSet old named (Ok new) → IsSettingRefused new fault → IsSettled head old named (Err fault)
Settled-refused true old new named fault h set refused = inr (new, set, refused)
Settled-refused false old new named fault h set refused = absurd (false≢true h)

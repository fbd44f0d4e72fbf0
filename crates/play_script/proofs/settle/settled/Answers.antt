use Rattle.std.proofs.Common.{◌≡◌, true, rules}
use Rattle.flat_model.specs.Scripts.Grammar.{words}
use Rattle.play_script.proofs.SettingLemmas.{Settled-refused}
use Rattle.play_script.proofs.settle.settled.Goals as goal

pub returns-in-Err : goal.returns-in-Err
returns-in-Err c =
    let head : c.args.head ≡ true = search rules in
    Settled-refused c.args.head c.args.config c.in_ok-config.config (words c.args.plain.now) c.refusal_of.result head
    c.in_ok-config.ensures
    (c.refusal_of.ensures c.in_ok-config.config c.in-Err.ensures)

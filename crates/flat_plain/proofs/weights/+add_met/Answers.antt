use Rattle.std.proofs.Common.{sym, ◌∙◌, ap, arith, true, false}
use Rattle.std.proofs.lemmas.Bool.{lt-ltb, le-ltb}
use Rattle.flat_model.proofs.Laws.{both-nothing}
use Rattle.flat_plain.specs.Weights.{plain_weight}
use Rattle.flat_plain.proofs.Weighing.{met_none, met_step}
use Rattle.flat_plain.proofs.weights.+add_met.Goals as goal
use Rattle.flat_plain.proofs.weights.+add_met.Goals.{then-max-min+in_ok-add-in-len1-up, else-max-min}

pub returns-in-empty : goal.returns-in-empty
returns-in-empty t c = met_none c.args.entries.now c.args.at c.args.a c.args.b _ c.in-empty.len_below

pub returns-in_ok-add_met-in-len1-up : goal.returns-in_ok-add_met-in-len1-up
returns-in_ok-add_met-in-len1-up t c = elim c.if-max-min.branch [
  | then-max-min+in_ok-add-in-len1-up w ↦
      met_step c.args.entries.now _ c.args.at c.args.a c.args.b true _ _ _ c.in-len1-up.len_at_least
      (lt-ltb _ _ (omega (arith, w.if-max-min, c.max.ensures, c.min.ensures)))
      (ap plain_weight w.weight-is ∙ w.in_ok-add-in-len1-up.ensures) c.in_ok-add_met-in-len1-up.ensures
  | else-max-min w ↦ met_step c.args.entries.now _ c.args.at c.args.a c.args.b false _ _ _ c.in-len1-up.len_at_least
      (le-ltb _ _ (omega (arith, w.if-max-min, c.max.ensures, c.min.ensures)))
      (ap plain_weight w.weight-is ∙ sym (both-nothing (plain_weight c.args.weight.now)))
      c.in_ok-add_met-in-len1-up.ensures
]

use Rattle.std.proofs.Common.{◌∙◌, sym, ◌∷◌, [], ◌++◌, List, arith, ap, refl}
use Rattle.std.proofs.lemmas.Grind.{common_steps}
use Rattle.flat_model.specs.declared.config.Config.{Config}
use Rattle.net_stack.specs.Stack.{StackView}
use Rattle.segment.specs.Chances.{no_chances}
use Rattle.segment.specs.Tallies.{nothing_counted}
use Rattle.segment.specs.declared.tally.Tally.{Tally}
use Rattle.segment.specs.declared.chances.Chances.{Chances}
use Rattle.segment.proofs.segment.Segment.join.Goals as goal

pub returns-in-Ok : goal.returns-in-Ok
returns-in-Ok c = record {
  few = omega arith;
  apart = grind (arith, common_steps);
  is_config = c.in-Ok.ensures.booted.0;
  stack = c.in-Ok.stack;
  started = c.in-Ok.ensures.booted.1;
  configs = c.add.ensures ∙ ap (λ (xs : List Config). xs ++ c.args.config ∷ []) c.reserve.ensures.same;
  stacks =
      c.push_reserved.ensures.items
      ∙ ap (λ (xs : List StackView). xs ++ c.in-Ok.stack ∷ []) c.reserve-else-is_err.ensures.items;
  bare = sym c.is_ether.ensures ∙ c.if-is_ether.false;
  links = refl;
  flight = refl;
  room = refl;
  chances =
      c.push_reserved-in-Ok.ensures.items
      ∙ ap (λ (xs : List Chances). xs ++ no_chances ∷ []) c.reserve-else-is_err-2.ensures.items;
  tallies =
      c.push_reserved-in-Ok-2.ensures.items
      ∙ ap (λ (xs : List Tally). xs ++ nothing_counted ∷ []) c.reserve-else-is_err-3.ensures.items;
  random = refl;
}

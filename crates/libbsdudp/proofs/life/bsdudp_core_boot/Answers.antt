use Rattle.std.proofs.Common.{Option, Err, sym, subst, refl, ◌∙◌}
use Rattle.flat_model.specs.Machine.State.{IsConfig}
use Rattle.flat_model.specs.declared.config.Config.{Config}
use Rattle.net_stack.specs.Stack.{StackView}
use Rattle.net_stack.specs.declared.stack.BootFault.TheVariants.{Memory}
use Rattle.libbsdudp.specs.Answers.{no_stack}
use Rattle.libbsdudp.specs.Life.{IsBooted}
use Rattle.libbsdudp.proofs.Answered.{held_stack, no_stack_in}
use Rattle.libbsdudp.proofs.life.bsdudp_core_boot.Goals as goal

pub returns-then-is_live : goal.returns-then-is_live
returns-then-is_live c =
    let s = held_stack c.args.handle.now (sym c.is_live.ensures ∙ c.if-is_live.true) in
    subst (λ (b : Option StackView). IsBooted b c.args.config.now no_stack b) (sym s.1) (refl, refl)

pub returns : goal.returns
returns c =
    subst (λ (b : Option StackView). IsBooted b c.args.config.now (lib.IntN.negsuc 11) b)
    (sym (no_stack_in c.args.handle.now (sym c.is_live.ensures ∙ c.if-is_live.false)))
    (record {
      reported = Err Memory;
      boots = subst (λ (k : Config). IsConfig k) c.config.ensures c.in-Ok.ensures.booted.0;
      is = refl;
      leaves = refl;
    })

use Rattle.std.proofs.Common.{◌≡◌, ◌-◌, ◌≤◌, false, length, drop, codes, sym, ap, ◌∙◌, arith}
use Rattle.std.proofs.lemmas.List.{length-drop, take_all}
use Rattle.play_text.specs.Bytes.{begins_with}
use Rattle.play_text.proofs.ColourLemmas.{step}
use Rattle.play_text.proofs.colour.drops_at.Goals as goal

pub loop-at-preserved : goal.loop-at-preserved
loop-at-preserved c =
    let reply = c.args.reply.now in
    let at = c.loop-at.at in
    let most : length (drop at reply) ≤ length reply - at = omega (arith, length-drop at reply) in
    let none : begins_with (drop at reply) (codes "dropped ") ≡ false =
    ap (λ t. begins_with t (codes "dropped ")) (sym (take_all (length reply - at) (drop at reply) most))
    ∙ sym c.is_drop.ensures ∙ c.if-is_drop.false in
    record {
      is = c.loop-at.invariant.is ∙ step reply at (omega (arith, c.loop-at-test.true)) none;
      most = omega (arith, c.loop-at-test.true);
    }

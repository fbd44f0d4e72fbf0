use Rattle.std.proofs.Common.{◌++◌, Some, refl, ap, ◌∙◌}
use Rattle.flat_model.specs.declared.usage.Mbstat.{Mbstat}
use Rattle.chain_script.specs.Machines.{slots_usage}
use Rattle.chain_script.specs.Steps.{Shown, chain_answer_text}
use Rattle.chain_script.specs.Inside.Slots.{machine_of}
use Rattle.chain_script.proofs.Shown.{usage_is}
use Rattle.chain_script.proofs.show.usage.Goals as goal

pub returns : goal.returns
returns c =
    let u = c.usage.ensures in
    let same =
    usage_is c.args.pool.now c.args.chains.now c.usage.result c.requires.fits u.mbufs u.free_mbufs u.clusters
    u.free_clusters u.references u.greatest in (
      Shown (slots_usage (machine_of c.args.pool.now c.args.chains.now)),
      (refl, refl),
      c.put_usage.ensures ∙ ap (λ (s : Mbstat). c.args.text.now ++ chain_answer_text (Some (Shown s))) same,
    )

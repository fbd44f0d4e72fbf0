use Rattle.std.proofs.Common.{arith, ◌≡◌, ◌∷◌, [], ◌++◌, ℕ, take, sym, ap, ◌∙◌, refl}
use Rattle.std.proofs.lemmas.List.{take_more, take_more_set, take_all, length-set}
use Rattle.flat_model.specs.Machine.Count.{all_counters}
use Rattle.flat_model.specs.declared.counter.TheConstants.{COUNTERS}
use Rattle.flat_model.specs.declared.counter.Counter.{Counter}
use Rattle.flat_model.specs.declared.counter.Counter.TheVariants.{IpTotal}
use Rattle.flat_model.proofs.counter.Counter.all.Goals as goal

pub loop-i-init : goal.loop-i-init
loop-i-init c = (refl, refl)

pub loop-i-preserved : goal.loop-i-preserved
loop-i-preserved c = (
  length-set c.loop-i.all c.loop-i.i _ ∙ c.loop-i.invariant.0,
  take_more_set c.loop-i.all c.loop-i.i c.counter_at.result (omega (arith, c.loop-i.invariant.0, c.loop-i-test.true))
      ∙ ap (λ l. l ++ c.counter_at.result ∷ []) c.loop-i.invariant.1
      ∙ ap (λ (x : Counter). take c.loop-i.i all_counters ++ x ∷ []) c.counter_at.ensures
      ∙ sym (take_more all_counters c.loop-i.i IpTotal c.loop-i-test.true),
)

pub returns : goal.returns
returns c =
    let at : COUNTERS ≡ c.loop-i.i = omega (arith, c.loop-i-test.false, c.loop-i.auto.i-end) in
    sym (take_all COUNTERS c.loop-i.all (omega (arith, c.loop-i.invariant.0)))
    ∙ ap (λ (n : ℕ). take n c.loop-i.all) at ∙ c.loop-i.invariant.1
    ∙ take_all c.loop-i.i all_counters c.loop-i-test.false

use Rattle.std.proofs.Common.{ℕ, ap}
use Rattle.rand_pcg.specs.Lcg.{Lcg}
use Rattle.segment.specs.Chances.{drawn}
use Rattle.segment.proofs.chances.draw.Goals as goal

pub returns-clause-value : goal.returns-clause-value
unfolding drawn
returns-clause-value c = ap (λ (p : ℕ × Lcg). p.0) c.next_word.ensures

pub returns-clause-after : goal.returns-clause-after
unfolding drawn
returns-clause-after c = ap (λ (p : ℕ × Lcg). p.1) c.next_word.ensures

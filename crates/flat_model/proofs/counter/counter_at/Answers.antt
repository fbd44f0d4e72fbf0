use Rattle.std.specs.Borrow.{Bor}
use Rattle.std.proofs.Common.{ℕ, List, sym}
use Rattle.std.proofs.lemmas.List.{get_or-map}
use Rattle.flat_model.specs.declared.counter.Counter.{Counter}
use Rattle.flat_model.specs.declared.counter.Counter.TheVariants.{IpTotal}
use Rattle.flat_model.proofs.counter.counter_at.Goals as goal

pub returns : goal.returns
returns c = sym (get_or-map (λ (e : Counter × Bor (List ℕ)). e.0) c.args.named.now c.args.index _ IpTotal c.requires)

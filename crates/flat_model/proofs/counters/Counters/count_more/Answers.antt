use Rattle.std.proofs.Common.{rules, ◌≡◌, length}
use Rattle.flat_model.specs.declared.counter.TheConstants.{COUNTERS}
use Rattle.flat_model.proofs.Machine.Counting.{counts_is}
use Rattle.flat_model.proofs.counters.Counters.count_more.Goals as goal

pub returns : goal.returns
returns c =
    let long : length c.args.self.now.values ≡ COUNTERS = search rules in
    counts_is c.args.counter c.args.more c.args.self.now c.saturating_add.result long (search rules)

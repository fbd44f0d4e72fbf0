use Rattle.std.proofs.Common.{◌≤◌, length, rules, List, Option, refl, sym, subst}
use Rattle.std.proofs.lemmas.Option.{slice_get_past}
use Rattle.flat_model.specs.declared.counter.Counter.{Counter}
use Rattle.flat_model.specs.Machine.Count.{all_counters}
use Rattle.libbsdudp.specs.Queries.{IsValue}
use Rattle.libbsdudp.proofs.asks.counter.Goals as goal

pub returns-in-None : goal.returns-in-None
returns-in-None c =
    let past : length c.all.result ≤ c.args.which = search (rules, c.in-None.ensures.lookup) in
    let none =
    slice_get_past all_counters c.args.which
    (subst (λ (all : List Counter). length all ≤ c.args.which) c.all.ensures past) in
    record {
      reported = c.counters-counters.result;
      step = c.counters-counters.ensures;
      value =
          subst (λ (o : Option Counter). IsValue o c.counters-counters.result (lib.IntN.negsuc 21) c.args.value.now
          c.args.value.now) (sym none) (refl, refl);
    }

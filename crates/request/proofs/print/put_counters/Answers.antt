use Rattle.request.proofs.CountLemmas.{all_texts}
use Rattle.request.proofs.print.put_counters.Goals as goal

pub returns-clause-items : goal.returns-clause-items
returns-clause-items g c =
    all_texts c.args.text.now c.loop-counter.text c.args.counters.now c.all-counter-items.result
    c.loop-counter.counter-index c.all-counter-items.ensures c.loop-counter-test.false
    c.loop-counter.invariant.items

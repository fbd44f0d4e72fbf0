use Rattle.net_stack.specs.Stack.{state_of}
use Rattle.play_why.proofs.KeptLemmas.{none_unfinished, one_more_unfinished}
use Rattle.play_why.proofs.parts.is_unfinished.Goals as goal

pub places-init : goal.places-init
places-init c = none_unfinished c.args.key (state_of c.args.machine.now).unfinished

pub places-preserved : goal.places-preserved
places-preserved c =
    one_more_unfinished c.places.i c.args.key (state_of c.args.machine.now).unfinished c.places.found c.or_has_key-found.result
    c.places.invariant c.or_has_key-found.ensures

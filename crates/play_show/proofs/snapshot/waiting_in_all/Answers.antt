use Rattle.std.proofs.Common.{◌<◌, ◌≢◌, ◌∙◌, sym, length, arith, get_or-set_other, get_or-set_same, below_more}
use Rattle.std.proofs.lemmas.List.{get_or-replicate, length-set}
use Rattle.net_stack.specs.Stack.{state_of}
use Rattle.play_show.proofs.Waiting.{nothing_waits}
use Rattle.play_show.proofs.snapshot.waiting_in_all.Goals as goal

pub places-preserved : goal.places-preserved
places-preserved c = record {
  len = length-set c.places.waiting c.places.place c.waiting_in.result ∙ c.places.invariant.len;
  counts = below_more _ _
      (λ k h. let ne : k ≢ c.places.place = omega arith in rw get_or-set_other (c.places.invariant.counts k h))
      (let lt : c.places.place < length c.places.waiting = omega (arith, c.places.invariant.len, c.places-test.true) in
      rw get_or-set_same c.waiting_in.ensures);
}

pub returns-else-readable-ne0 : goal.returns-else-readable-ne0
returns-else-readable-ne0 c k less =
    get_or-replicate 64 k 0 0 less
    ∙ sym (nothing_waits (state_of c.args.machine.now) (omega (arith, c.readable.ensures, c.if-readable-ne0.false)) k less)

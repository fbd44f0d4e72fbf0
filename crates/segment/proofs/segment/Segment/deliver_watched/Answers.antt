use Rattle.std.proofs.Common.{◌≡◌, List, length, map, ap, refl, subst, ◌∙◌}
use Rattle.std.specs.Prelude.{slice_get}
use Rattle.net_stack.specs.Runs.{AreCalls}
use Rattle.segment.specs.Chances.{shuffled}
use Rattle.segment.specs.Flying.{Flying, comes}
use Rattle.segment.specs.Inside.{flying, view}
use Rattle.segment.specs.Segment.{AtEach, leaving, received_in}
use Rattle.segment.specs.Tallies.{with_received}
use Rattle.segment.specs.declared.tally.Tally.{Tally}
use Rattle.segment.proofs.segment.Segment.deliver_watched.Goals as goal

pub returns : goal.returns
returns g c =
    let old = view c.args.self.now in
    let due : map flying c.shuffle.new.due.items ≡ (leaving old).0 =
    c.shuffle.ensures.due ∙ ap (λ (fs : List Flying). (shuffled old.chances fs old.random).0) c.leave.ensures.due in
    let now : map flying c.as_slice-2.result.now ≡ (leaving old).0 = ap (map flying) c.as_slice-2.ensures.value ∙ due in
    record {
      configs = refl;
      room = c.leave.ensures.room;
      links = refl;
      chances = ap (λ v. v.items) c.shuffle.ensures.chances;
      flight = c.leave.ensures.early;
      random =
          c.shuffle.ensures.after ∙ ap (λ (fs : List Flying). (shuffled old.chances fs old.random).1)
          c.leave.ensures.due;
      tallies =
          subst (λ (ts : List Tally). AtEach
          (λ place t u. u ≡ with_received (length (received_in place (slice_get old.configs place) (leaving old).0)) t)
          ts c.deliver_all.new.tallies.items) (ap (λ v. v.items) c.shuffle.ensures.tallies)
          (subst (λ (fs : List Flying). AtEach
          (λ place t u. u ≡ with_received (length (received_in place (slice_get old.configs place) fs)) t)
          c.shuffle.new.self.tallies.items c.deliver_all.new.tallies.items) now c.deliver_all.ensures.counted);
      hosts =
          subst (λ (fs : List Flying). AtEach
          (λ place s t. AreCalls s (comes (received_in place (slice_get old.configs place) fs)) t) old.stacks
          c.deliver_all.new.stacks.items) now c.deliver_all.ensures.hosts;
    }

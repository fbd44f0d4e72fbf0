use Rattle.std.proofs.Common.{◌≡◌, ◌-◌, ℕ, subst, sym, ap, ◌∙◌, arith}
use Rattle.mbuf_chain.proofs.Laws.Owners.{moves_trans}
use Rattle.ip_reass.specs.Fragments.{fragments, queued, queued_end, AllEnd}
use Rattle.ip_reass.specs.Inside.Walks.{after, queued_at}
use Rattle.ip_reass.proofs.Walks.{AllEnd-remove}
use Rattle.ip_reass.proofs.Counted.{held_removed, held_cut}
use Rattle.ip_reass.proofs.Steps.{IsNext, length-queued, fragments_freed, clearing_more, cleared_all, cleared_whole, cleared_cut}
use Rattle.ip_reass.proofs.queue.clear.Goals.{After-begins-begin, After-ends-limit}
use Rattle.ip_reass.proofs.queue.clear.Goals as goal

-- ---- the next fragment
next : (c : After-begins-begin)
    → IsNext c.fragments.pool c.fragments.train (after c.args.front) c.begins-begin.result
next c = record {
  within =
      omega (
        arith,
        c.in-Some.ensures.0,
        c.in-Some.ensures.1.within,
        length-queued c.fragments.pool c.fragments.train c.fragments.invariant.held,
      );
  begin =
      ap (λ (n : ℕ). (queued_at (queued c.fragments.pool c.fragments.train) n).offset) (sym c.in-Some.ensures.0)
      ∙ sym c.begins-begin.ensures;
}

end : (c : After-ends-limit)
    → queued_end (queued_at (queued c.fragments.pool c.fragments.train) (after c.args.front)) ≡ c.ends-limit.result
end c =
    ap (λ (n : ℕ). queued_end (queued_at (queued c.fragments.pool c.fragments.train) n)) (sym c.in-Some.ensures.0)
    ∙ sym c.ends-limit.ensures

pub returns-then-end-begin-clause-queue : goal.returns-then-end-begin-clause-queue
returns-then-end-begin-clause-queue c =
    let here = next (goal.at.returns-then-end-begin-clause-queue c).After-begins-begin in
    cleared_whole c.fragments.invariant.clearing here.within (omega (arith, here.begin))

-- ---- it's freed
pub fragments-preserved : goal.fragments-preserved
fragments-preserved c =
    let at = goal.at.fragments-preserved c in
    let here = next at.After-begins-begin in
    record {
      front = c.free_after.ensures.left.front;
      few = omega arith;
      held = c.free_after.ensures.left.held;
      small =
          subst (AllEnd 65515) (sym (fragments_freed c.fragments.pool c.free_after.new.pool c.fragments.train
          c.free_after.new.train (after c.args.front) c.free_after.ensures.queue)) (AllEnd-remove 65515 (fragments
          c.fragments.pool c.fragments.train) (after c.args.front) c.fragments.invariant.small);
      counted =
          omega (
            arith,
            c.fragments.invariant.counted,
            held_removed c.free_after.new.pool c.free_after.new.train here (end at.After-ends-limit)
                c.free_after.ensures.queue,
          );
      clearing =
          clearing_more c.fragments.invariant.clearing here.within (omega (arith, here.begin))
          (omega (arith, end at.After-ends-limit)) c.free_after.ensures.queue;
      moves = moves_trans c.fragments.invariant.moves c.free_after.ensures.left.moves;
    }

pub overflow_add-gone : goal.overflow_add-gone
overflow_add-gone c =
    let at = goal.at.overflow_add-gone c in
    let removed =
    held_removed c.free_after.new.pool c.free_after.new.train (next at.After-begins-begin) (end at.After-ends-limit)
    c.free_after.ensures.queue in
    omega (arith, c.requires.few, c.fragments.invariant.counted, removed)

-- ---- it's cut
pub returns-then-end-limit-clause-queue : goal.returns-then-end-limit-clause-queue
returns-then-end-limit-clause-queue c =
    let at = goal.at.returns-then-end-limit-clause-queue c in
    let here = next at.After-begins-begin in
    cleared_cut (c.args.end - c.begins-begin.result) c.fragments.invariant.clearing here.within (omega (arith, here.begin))
    (omega (arith, end at.After-ends-limit)) (omega (arith, here.begin)) c.trim_after.ensures.queue

pub returns-then-end-limit-clause-gone : goal.returns-then-end-limit-clause-gone
returns-then-end-limit-clause-gone c =
    let at = goal.at.returns-then-end-limit-clause-gone c in
    omega (
      arith,
      c.fragments.invariant.counted,
      held_cut c.trim_after.new.pool c.trim_after.new.train c.args.end (next at.After-begins-begin)
          (omega (arith, end at.After-ends-limit)) c.trim_after.ensures.queue,
    )

pub overflow_add-result : goal.overflow_add-result
overflow_add-result c =
    let at = goal.at.overflow_add-result c in
    let cut =
    held_cut c.trim_after.new.pool c.trim_after.new.train c.args.end (next at.After-begins-begin)
    (omega (arith, end at.After-ends-limit)) c.trim_after.ensures.queue in
    omega (arith, c.requires.few, c.fragments.invariant.counted, cut)

-- ---- none is left
pub returns-clause-queue : goal.returns-clause-queue
returns-clause-queue c =
    cleared_all c.fragments.invariant.clearing
    (omega (arith, length-queued c.fragments.pool c.fragments.train c.fragments.invariant.held))

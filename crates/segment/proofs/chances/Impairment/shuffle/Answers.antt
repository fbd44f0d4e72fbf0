use Rattle.std.proofs.Common.{◌+◌, ◌-◌, ◌∙◌, ap, cond, sym, arith}
use Rattle.std.specs.Prelude.{nat_lt, swap, vec_capacity, vec_len}
use Rattle.segment.specs.Chances.{chances_at, drawn}
use Rattle.segment.proofs.Frames.{shuffled_next}
use Rattle.segment.proofs.chances.Impairment.shuffle.Goals as goal
use Rattle.segment.proofs.chances.Impairment.shuffle.Goals.{then-turns, else-turns}

pub loop-at-preserved : goal.loop-at-preserved
loop-at-preserved c =
    let inv = c.loop-at.invariant in
    let i = c.loop-at.at in
    let frame = c.index.result.now in
    let turn =
    c.turns.ensures.value ∙ ap (λ v. nat_lt (drawn c.loop-at.self.random).0 (chances_at v.items frame.sender).reorder)
    inv.chances in
    elim c.if-turns.branch [
      | then-turns w ↦ record {
        left =
            shuffled_next c.args.self.now.chances.items (c.saturating_sub-at-end.result - (i + 1))
            (c.saturating_sub-at-end.result - i) i c.loop-at.due.items c.if-turns.due.items frame
            c.loop-at.self.random c.turns.new.self.random c.turns.result _ (omega arith)
            (omega (arith, inv.len, inv.end)) c.index.ensures turn c.turns.ensures.after
            (ap (λ v. v.items) w.due-is ∙ w.swap.ensures.items
            ∙ ap (λ b. cond b (swap c.loop-at.due.items i (i + 1)) c.loop-at.due.items)
            (sym w.if-turns.true)) inv.left;
        len = ap (λ v. vec_len v) w.due-is ∙ w.swap.ensures.len ∙ inv.len;
        end = inv.end;
        chances = c.turns.ensures.chances ∙ inv.chances;
        tallies = c.turns.ensures.tallies ∙ inv.tallies;
        room = ap (λ v. vec_capacity v) w.due-is ∙ w.swap.ensures.capacity ∙ inv.room;
      }
      | else-turns w ↦ record {
        left =
            shuffled_next c.args.self.now.chances.items (c.saturating_sub-at-end.result - (i + 1))
            (c.saturating_sub-at-end.result - i) i c.loop-at.due.items c.if-turns.due.items frame
            c.loop-at.self.random c.turns.new.self.random c.turns.result _ (omega arith)
            (omega (arith, inv.len, inv.end)) c.index.ensures turn c.turns.ensures.after
            (ap (λ v. v.items) w.due-is ∙ ap (λ b. cond b (swap c.loop-at.due.items i (i + 1)) c.loop-at.due.items)
            (sym w.if-turns.false)) inv.left;
        len = ap (λ v. vec_len v) w.due-is ∙ inv.len;
        end = inv.end;
        chances = c.turns.ensures.chances ∙ inv.chances;
        tallies = c.turns.ensures.tallies ∙ inv.tallies;
        room = ap (λ v. vec_capacity v) w.due-is ∙ inv.room;
      }
    ]

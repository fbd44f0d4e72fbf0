use Rattle.std.proofs.Common.{◌≡◌, ◌∙◌, List, ℕ, [], ◌∷◌, ap, subst, sym, refl, arith}
use Rattle.std.specs.Prelude.{if◌then◌else◌}
use Rattle.net_stack.specs.Runs.{AreCalls}
use Rattle.net_stack.specs.Stack.{StackView}
use Rattle.segment.specs.Flying.{comes}
use Rattle.segment.specs.Inside.{arriving_at, flying}
use Rattle.segment.proofs.Delivering.{left_at, past_at, set_at}
use Rattle.segment.proofs.deliver.hand_at.Goals as goal
use Rattle.segment.proofs.deliver.hand_at.Goals.{else-at-len-via-then-at-len+else-is_for, else-at-len-via-else-at-len}

pub returns-then-is_for : goal.returns-then-is_for
returns-then-is_for g c =
    let f = flying c.args.frame.now in
    let s : StackView = c.index_mut.result.now in
    let t : StackView = c.hand_over.new.stack in
    let all : arriving_at c.args.at.place c.args.directory.now.configs.items f ≡ c.bytes.result.now ∷ [] =
    c.is_for.ensures ∙ ap (λ b. if b then f.packet ∷ [] else []) c.if-is_for.true
    ∙ ap (λ (p : List ℕ). p ∷ []) (sym c.bytes.ensures.is) in
    set_at (λ x y. AreCalls x (comes (arriving_at c.args.at.place c.args.directory.now.configs.items f)) y)
    c.args.at.place c.args.stacks.now.items s t s (omega (arith, c.if-at-len.true, c.len.ensures))
    c.index_mut.ensures.value
    (subst (λ (ps : List (List ℕ)). AreCalls s (comes ps) t) (sym all) c.hand_over.ensures)

pub returns-else-at-len : goal.returns-else-at-len
returns-else-at-len g c =
    let f = flying c.args.frame.now in
    elim c.else-at-len.branch [
      | else-at-len-via-then-at-len+else-is_for w ↦
          let none : arriving_at c.args.at.place c.args.directory.now.configs.items f ≡ [] =
          w.is_for.ensures ∙ ap (λ b. if b then f.packet ∷ [] else []) w.if-is_for.false in
          left_at (λ x y. AreCalls x (comes (arriving_at c.args.at.place c.args.directory.now.configs.items f)) y)
          c.args.at.place c.args.stacks.now.items
          (λ x. subst (λ (ps : List (List ℕ)). AreCalls x (comes ps) x) (sym none) refl)
      | else-at-len-via-else-at-len w ↦ past_at
          (λ x y. AreCalls x (comes (arriving_at c.args.at.place c.args.directory.now.configs.items f)) y)
          c.args.at.place c.args.stacks.now.items (omega (arith, w.if-at-len.false, c.len.ensures))
    ]

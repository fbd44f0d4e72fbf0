use Rattle.std.proofs.Common.{◌≡◌, ℕ, ◌∙◌, ◌+◌, ◌-◌, subst, sym, arith}
use Rattle.segment.specs.Inside.{view}
use Rattle.segment.specs.Segment.{AreCarried}
use Rattle.segment.proofs.Carries.{carried_end, carried_more, carried_none}
use Rattle.segment.proofs.segment.Segment.carry_all.Goals as goal

sub_zero : (n : ℕ) → n - 0 ≡ n
sub_zero n = omega arith

pub loop-init : goal.loop-init
loop-init c = λ last h. subst (λ n. AreCarried n (view c.args.self.now) last) (sub_zero c.args.most) h

pub loop-preserved : goal.loop-preserved
loop-preserved c = λ last h.
    c.loop.invariant last
    (carried_more (c.args.most - c.loop.counter) (c.args.most - (c.loop.counter + 1)) (view c.loop.self)
    (view c.carry.new.self) last (omega arith) (sym c.is_quiet.ensures ∙ c.if-is_quiet.false) c.carry.ensures h)

pub returns-then-is_quiet-clause-carried : goal.returns-then-is_quiet-clause-carried
returns-then-is_quiet-clause-carried c =
    c.loop.invariant (view c.loop.self)
    (carried_none (c.args.most - c.loop.counter) (view c.loop.self) (sym c.is_quiet.ensures ∙ c.if-is_quiet.true))

pub returns-clause-carried : goal.returns-clause-carried
returns-clause-carried c =
    c.loop.invariant (view c.loop.self) (carried_end (c.args.most - c.loop.counter) (view c.loop.self) (omega arith))

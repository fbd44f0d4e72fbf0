use Rattle.std.proofs.Common.{◌≡◌, List, None, ◌∙◌, refl, sym, subst}
use Rattle.pcb_table.specs.declared.block.Block.{Block}
use Rattle.pcb_table.specs.Inside.Search.{from_port}
use Rattle.pcb_table.proofs.Passed.{walked_from}
use Rattle.pcb_table.proofs.Searching.{Walked, best_here, best_seen, none_best, walk_begins, walk_gets, walk_shortens, walk_skips, walk_stays}
use Rattle.pcb_table.proofs.search.best.Goals as goal
use Rattle.pcb_table.proofs.search.best.Goals.{After-from_port}

pub returns-in_default : goal.returns-in_default
returns-in_default c = none_best c.args.key c.args.blocks.now c.in_default.is

pub loop-key-init : goal.loop-key-init
loop-key-init c =
    subst (λ (bs : List Block). Walked c.args.key c.args.blocks.now bs None 3) (sym c.as_slice-rest.ensures.value)
    (walk_begins c.args.key c.args.blocks.now)

-- the blocks left, from the first with the port
left : (c : After-from_port) → c.from_port.result.now ≡ from_port c.in-Some.port c.loop-key.rest.now
left c = c.from_port.ensures ∙ walked_from _ _ _ _ _ _ _ c.as_slice-rest.ensures.value c.loop-key.invariant

pub returns-then-wildcards-eq0 : goal.returns-then-wildcards-eq0
returns-then-wildcards-eq0 c =
    best_here _ _ _ _ _ _ _ _ c.in-Some.is (left (goal.at.returns-then-wildcards-eq0 c).After-from_port)
    c.in-len1-up.len_at_least (sym c.agrees.ensures ∙ c.if-agrees.true)
    (sym c.wildcards-wildcards.ensures ∙ c.if-wildcards-eq0.true) c.loop-key.invariant

pub loop-key-smaller-then-wildcards-fewest : goal.loop-key-smaller-then-wildcards-fewest
loop-key-smaller-then-wildcards-fewest c =
    walk_shortens _ _ _ _ (left (goal.at.loop-key-smaller-then-wildcards-fewest c).After-from_port)
    c.in-len1-up.len_at_least refl

pub loop-key-smaller-else-wildcards-fewest : goal.loop-key-smaller-else-wildcards-fewest
loop-key-smaller-else-wildcards-fewest c =
    walk_shortens _ _ _ _ (left (goal.at.loop-key-smaller-else-wildcards-fewest c).After-from_port)
    c.in-len1-up.len_at_least refl

pub loop-key-smaller : goal.loop-key-smaller
loop-key-smaller c =
    walk_shortens _ _ _ _ (left (goal.at.loop-key-smaller c).After-from_port) c.in-len1-up.len_at_least refl

pub loop-key-preserved-then-wildcards-fewest : goal.loop-key-preserved-then-wildcards-fewest
loop-key-preserved-then-wildcards-fewest c =
    walk_gets _ _ _ _ _ _ _ _ _ _ _ _ c.in-Some.is
    (left (goal.at.loop-key-preserved-then-wildcards-fewest c).After-from_port)
    c.in-len1-up.len_at_least refl (sym c.agrees.ensures ∙ c.if-agrees.true) c.wildcards-wildcards.ensures
    c.if-wildcards-eq0.false c.if-wildcards-fewest.true refl refl c.loop-key.invariant

pub loop-key-preserved-else-wildcards-fewest : goal.loop-key-preserved-else-wildcards-fewest
loop-key-preserved-else-wildcards-fewest c =
    walk_stays _ _ _ _ _ _ _ _ _ _ _ _ c.in-Some.is
    (left (goal.at.loop-key-preserved-else-wildcards-fewest c).After-from_port)
    c.in-len1-up.len_at_least refl (sym c.agrees.ensures ∙ c.if-agrees.true) c.wildcards-wildcards.ensures
    c.if-wildcards-eq0.false c.if-wildcards-fewest.false refl refl c.loop-key.invariant

pub loop-key-preserved : goal.loop-key-preserved
loop-key-preserved c =
    walk_skips _ _ _ _ _ _ _ _ _ _ _ c.in-Some.is (left (goal.at.loop-key-preserved c).After-from_port)
    c.in-len1-up.len_at_least refl (sym c.agrees.ensures ∙ c.if-agrees.false) refl refl c.loop-key.invariant

pub returns : goal.returns
returns c =
    best_seen _ _ _ _ _ _ _ c.in-Some.is (left (goal.at.returns c).After-from_port) c.in_default-from_port.len_below
    c.loop-key.invariant

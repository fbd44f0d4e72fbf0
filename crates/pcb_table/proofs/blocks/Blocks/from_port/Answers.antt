use Rattle.std.proofs.Common.{◌≡◌, ℕ, ◌+◌, ◌-◌, eqb, List, drop, take, length, Option, Some, None, arith, ap, refl, sym, subst, ◌∙◌}
use Rattle.std.specs.Option.{option_eq}
use Rattle.flat_model.specs.Sockets.Lookup.{are_same}
use Rattle.pcb_table.specs.declared.block.Block.{Block}
use Rattle.pcb_table.specs.Inside.Changed.{unbound_block}
use Rattle.pcb_table.specs.Inside.Search.{from_port}
use Rattle.pcb_table.proofs.Passed.{from_after, from_found, from_none}
use Rattle.pcb_table.proofs.blocks.Blocks.from_port.Goals as goal
use Rattle.pcb_table.proofs.blocks.Blocks.from_port.Goals.{After-others_from}

-- the test of a block's port
same_port : (port : ℕ) (own : Option ℕ) → are_same own (Some port) ≡ option_eq eqb own (Some port)
same_port port None = refl
same_port port (Some own) = refl

-- the blocks from the next one on, in the slice
skipped : (c : After-others_from) → from_port c.args.port (drop (c.places.at + c.others_from.result) c.as_slice-blocks.result.now)
    ≡ from_port c.args.port (drop c.places.at c.as_slice-blocks.result.now)
skipped c =
    subst (λ (cs : List Block). from_port c.args.port (drop (c.places.at + c.others_from.result) cs)
    ≡ from_port c.args.port (drop c.places.at cs)) (sym (c.as_slice-blocks.ensures.value ∙ c.self.view_is))
    c.others_from.ensures.skipped

pub returns-then-eq : goal.returns-then-eq
returns-then-eq c =
    let bs = c.as_slice-blocks.result.now in
    from_found c.args.port bs (c.places.at + c.others_from.result) (unbound_block 0) c.if-next-blocks.false
    (same_port c.args.port _ ∙ sym c.eq.ensures ∙ c.if-eq.true)
    ∙ skipped (goal.at.returns-then-eq c).After-others_from
    ∙ c.places.invariant ∙ ap (λ (cs : List Block). from_port c.args.port (drop c.args.passed cs))
    (c.as_slice-blocks.ensures.value ∙ c.self.view_is)

pub returns-then-next-blocks : goal.returns-then-next-blocks
returns-then-next-blocks c =
    let bs = c.as_slice-blocks.result.now in
    let none : length bs - length bs ≡ 0 = omega arith in
    ap (λ n. take n (drop (length bs) bs)) none
    ∙ from_none c.args.port bs (c.places.at + c.others_from.result) c.if-next-blocks.true
    ∙ skipped (goal.at.returns-then-next-blocks c).After-others_from
    ∙ c.places.invariant ∙ ap (λ (cs : List Block). from_port c.args.port (drop c.args.passed cs))
    (c.as_slice-blocks.ensures.value ∙ c.self.view_is)

pub places-preserved : goal.places-preserved
places-preserved c =
    from_after c.args.port c.as_slice-blocks.result.now (c.places.at + c.others_from.result) (unbound_block 0)
    c.if-next-blocks.false (same_port c.args.port _ ∙ sym c.eq.ensures ∙ c.if-eq.false)
    ∙ skipped (goal.at.places-preserved c).After-others_from ∙ c.places.invariant

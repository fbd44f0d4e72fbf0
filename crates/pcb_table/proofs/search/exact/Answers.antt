use Rattle.std.proofs.Common.{ap, sym, ◌∙◌}
use Rattle.std.specs.Prelude.{option_copied}
use Rattle.pcb_table.specs.Inside.Search.{youngest_block}
use Rattle.pcb_table.proofs.Exactly.{exact_is, exact_none, exact_not}
use Rattle.pcb_table.proofs.search.exact.Goals as goal

pub returns-then-not-indexes_sockets : goal.returns-then-not-indexes_sockets
returns-then-not-indexes_sockets c = c.exact_by_walk.ensures ∙ ap (youngest_block 0 c.args.key) c.as_slice-all.ensures.value

pub returns-in_default : goal.returns-in_default
returns-in_default c =
    sym (exact_none c.args.key c.args.blocks.now (sym c.best.ensures ∙ ap option_copied c.in_default.is))

pub returns-then-wildcards-eq0 : goal.returns-then-wildcards-eq0
returns-then-wildcards-eq0 c =
    sym (exact_is c.args.key c.args.blocks.now c.in-Some.block.now (sym c.best.ensures ∙ ap option_copied c.in-Some.is)
    (sym c.wildcards.ensures ∙ c.if-wildcards-eq0.true))

pub returns-else-wildcards-eq0 : goal.returns-else-wildcards-eq0
returns-else-wildcards-eq0 c =
    sym (exact_not c.args.key c.args.blocks.now c.in-Some.block.now (sym c.best.ensures ∙ ap option_copied c.in-Some.is)
    (λ e. c.if-wildcards-eq0.false (c.wildcards.ensures ∙ e)))

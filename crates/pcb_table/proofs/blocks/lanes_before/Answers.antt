use Rattle.std.proofs.Common.{◌≡◌, ℕ, ◌+◌, ◌^◌, ◌%◌, ◌≤◌, ◌==◌, Bool, not, eqb, cond, List, length, map, replicate, sym, ap, arith, ◌∙◌}
use Rattle.std.specs.List.{prefix_len}
use Rattle.std.proofs.lemmas.Bool.{ne_eqb}
use Rattle.std.proofs.lemmas.Simd.{bitmask_splat, first_set_mask_l, length-chunk, run_in_chunk_fails, run_in_chunk_le}
use lib.Count.{count_trailing_zeros}
use lib.Lanes.{chunk, mask_l, top, zip2}
use mir.Syntax.{w16}
use mir.Val.{hbits}
use Rattle.pcb_table.proofs.blocks.lanes_before.Goals as goal

-- how many lanes come before the first whose bit is set: all sixteen, if none is
abbrev lanes_clear : ℕ → ℕ
lanes_clear mask = cond (eqb mask 0) 16 (count_trailing_zeros 64 mask)

some_set : (mask : ℕ) → (mask ≡ 0 → ⊥) → count_trailing_zeros 64 mask ≡ lanes_clear mask
some_set mask h = sym (ap (λ (b : Bool). cond b 16 (count_trailing_zeros 64 mask)) (ne_eqb mask 0 h))

-- the bits of the lanes that have the port
abbrev mask_of : List ℕ → ℕ → ℕ → ℕ
mask_of ports at port =
    mask_l (map (top (hbits w16)) (zip2 (λ a b. cond (a == b) 65535 0) (chunk at 16 ports) (replicate 16 port)))
    % 2 ^ 64

clear_is : (ports : List ℕ) (at port : ℕ) → at + 16 ≤ length ports
    → lanes_clear (mask_of ports at port) ≡ prefix_len (λ x. not (x == port)) (chunk at 16 ports)
clear_is ports at port within =
    let v = chunk at 16 ports in
    let long = length-chunk at 16 ports within in
    ap lanes_clear (bitmask_splat w16 (λ a b. a == b) v 16 port long (omega arith))
    ∙ first_set_mask_l (λ x. x == port) v 16 long (omega arith)

pub returns-then-mask-eq0-clause-passes : goal.returns-then-mask-eq0-clause-passes
returns-then-mask-eq0-clause-passes c =
    run_in_chunk_fails (λ x. x == c.args.port) c.args.ports.now c.args.at 16 16 0 c.requires
    (ap lanes_clear (sym c.if-mask-eq0.true) ∙ clear_is c.args.ports.now c.args.at c.args.port c.requires)

pub returns-else-mask-eq0-clause-passes : goal.returns-else-mask-eq0-clause-passes
returns-else-mask-eq0-clause-passes c =
    run_in_chunk_fails (λ x. x == c.args.port) c.args.ports.now c.args.at 16 _ 0 c.requires
    (some_set _ c.if-mask-eq0.false ∙ clear_is c.args.ports.now c.args.at c.args.port c.requires)

pub returns-else-mask-eq0-clause-most : goal.returns-else-mask-eq0-clause-most
returns-else-mask-eq0-clause-most c =
    run_in_chunk_le (λ x. x == c.args.port) c.args.ports.now c.args.at 16 _ 0 c.requires
    (some_set _ c.if-mask-eq0.false ∙ clear_is c.args.ports.now c.args.at c.args.port c.requires)

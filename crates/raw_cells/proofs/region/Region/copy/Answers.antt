use Rattle.std.proofs.Common.{ℕ, List, sym, subst, ap, ◌∙◌, ◌≡◌, ◌≤◌, ◌+◌, ◌-◌, ◌++◌, take, drop, arith, length, take_all, length-take-le, length-drop, append_assoc}
use Rattle.std.specs.List.{copy_within}
use Rattle.raw_cells.specs.Over.{over}
use Rattle.raw_cells.specs.Cells.{Cells, IsCellPart, IsSized, cells_written, place, read}
use Rattle.raw_cells.specs.Inside.Layout.{cells_of}
use Rattle.raw_cells.proofs.Over.{over_is, length_over, over_all}
use Rattle.raw_cells.proofs.Parts.{part_written, part_within, region_sized}
use Rattle.raw_cells.proofs.Laws.{sized_written}
use Rattle.raw_cells.proofs.region.Region.copy.Goals as goal

-- copying within a list is a write over it
copied : (bs : List ℕ) (a d n l : ℕ) → l ≡ length bs → a + n ≤ length bs → d + n ≤ length bs
    → over bs 0 (take l (copy_within (take l bs) a (a + n) d)) ≡ over bs d (take n (take n (drop a bs)))
copied bs a d n l e from to =
    let ws = take n (drop a bs) in
    let long : length ws ≡ n = length-take-le n (drop a bs) (omega (arith, length-drop a bs)) in
    let whole : take l bs ≡ bs = take_all l bs (omega arith) in
    let k : a + n - a ≡ n = omega arith in
    let new = over bs d ws in
    let is : copy_within (take l bs) a (a + n) d ≡ new =
    (λ i. copy_within (whole i) a (a + n) d) ∙ (λ i. take d bs ++ take (k i) (drop a bs) ++ drop (d + k i) bs)
    ∙ append_assoc (take d bs) ws (drop (d + n) bs) ∙ ap (λ m. take d bs ++ (ws ++ drop (d + m) bs)) (sym long)
    ∙ sym (over_is bs d ws (omega arith)) in
    let count : length new ≡ length bs = length_over bs d ws (omega arith) in
    ap (λ m. over bs 0 (take l m)) is ∙ ap (over bs 0) (take_all l new (omega arith))
    ∙ over_all bs new count ∙ ap (over bs d) (sym (take_all n ws (omega arith)))

pub returns-clause-change : goal.returns-clause-change
returns-clause-change c =
    let r = c.self.inside in let from = c.args.from in let to = c.args.to in
    let is_from = subst (λ (v : Cells). IsCellPart v from) (sym c.self.view_is) c.requires.from in
    let is_to = subst (λ (v : Cells). IsCellPart v to) (sym c.self.view_is) c.requires.to in
    let ws = take from.len (drop (place (cells_of r) from) r.block) in
    let done : over r.block 0 (take c.len-len.result c.copy_within.new.self)
    ≡ over r.block (place (cells_of r) to) (take to.len ws) =
    let at = c.start-at.result in let dest = c.start-dest.result in let n = from.len in
    let at_is : at ≡ place (cells_of r) from =
    c.start-at.ensures.at ∙ ap (λ (v : Cells). place v from) (sym c.self.view_is) in
    let dest_is : dest ≡ place (cells_of r) to =
    c.start-dest.ensures.at ∙ ap (λ (v : Cells). place v to) (sym c.self.view_is) in
    let n_to = c.requires.len in
    ap (λ l. over r.block 0 (take c.len-len.result l))
    (c.copy_within.ensures.after ∙ ap (λ s. copy_within s at (at + n) dest) c.slice_mut.ensures.value)
    ∙ copied r.block at dest n c.len-len.result c.len-len.ensures
    (omega (arith, part_within r c.self.invariant from is_from, at_is))
    (omega (arith, part_within r c.self.invariant to is_to, dest_is, n_to))
    ∙ (λ t. over r.block (dest_is t) (take (n_to t) (take n (drop (at_is t) r.block)))) in
    (λ t. cells_of (record r { block = done t }))
    ∙ part_written r c.self.invariant to is_to ws
    ∙ ap (λ (v : Cells). cells_written v to (read v from)) c.self.view_is

pub returns-clause-sized : goal.returns-clause-sized
returns-clause-sized c =
    let r = c.self.inside in let from = c.args.from in let to = c.args.to in
    subst IsSized (sym (returns-clause-change c))
    (sized_written c.args.self.now to (read c.args.self.now from)
    (subst IsSized c.self.view_is (region_sized r c.self.invariant)) c.requires.to)

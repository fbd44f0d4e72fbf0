use Rattle.std.proofs.Common.{◌≤◌, ◌+◌, ◌*◌, ◌∙◌, ap, sym, subst, length}
use Rattle.raw_cells.specs.Cells.{Cells, IsCellPart, origin, place}
use Rattle.raw_cells.specs.Inside.Layout.{cells_of}
use Rattle.raw_cells.specs.declared.part.Buffer.{Buffer}
use Rattle.raw_cells.proofs.Heads.{length-heads}
use Rattle.raw_cells.proofs.Parts.{part_within}
use Rattle.raw_cells.proofs.region.Region.start.Goals as goal

pub returns-in-Mbuf-clause-within : goal.returns-in-Mbuf-clause-within
returns-in-Mbuf-clause-within c =
    let p = c.args.part in
    subst (λ (v : Cells). place v p + p.len ≤ length v.bytes) c.self.view_is
    (part_within c.self.inside c.self.invariant p
    (subst (λ (v : Cells). IsCellPart v p) (sym c.self.view_is) c.requires))

pub returns-in-Mbuf-clause-at : goal.returns-in-Mbuf-clause-at
returns-in-Mbuf-clause-at c = let w = c.in-Mbuf in
    ap (λ (b : Buffer). origin (cells_of c.self.inside) b + c.args.part.start) (sym w.is)
    ∙ ap (λ (v : Cells). place v c.args.part) c.self.view_is

pub returns-in-Cluster-clause-at : goal.returns-in-Cluster-clause-at
returns-in-Cluster-clause-at c =
    let r = c.self.inside in let w = c.in-Cluster in
    ap (λ k. 128 * k + 2048 * w.index + c.args.part.start) (sym (length-heads r.mbufs r.block))
    ∙ ap (λ (b : Buffer). origin (cells_of r) b + c.args.part.start) (sym w.is)
    ∙ ap (λ (v : Cells). place v c.args.part) c.self.view_is

pub returns-in-Cluster-clause-within : goal.returns-in-Cluster-clause-within
returns-in-Cluster-clause-within c =
    let p = c.args.part in
    subst (λ (v : Cells). place v p + p.len ≤ length v.bytes) c.self.view_is
    (part_within c.self.inside c.self.invariant p
    (subst (λ (v : Cells). IsCellPart v p) (sym c.self.view_is) c.requires))

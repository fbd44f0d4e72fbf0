use Rattle.std.proofs.Common.{Bool, List, [], ◌∷◌, ◌++◌, if◌then◌else◌, sym, subst}
use Rattle.std.proofs.lemmas.List.{append-nil}
use Rattle.flat_model.specs.Fragments.Overlay.{Fragment}
use Rattle.play_why.specs.Joined.{IsReassembled, as_fragment}
use Rattle.play_why.proofs.JoinLemmas.{table_more}
use Rattle.play_why.proofs.joined.insert_fitting.Goals as goal

pub returns-then-fits-clause-table : goal.returns-then-fits-clause-table
returns-then-fits-clause-table c =
    λ fs table. let f = as_fragment c.args.offset c.args.bytes.now in
    subst (λ (so : Bool). IsReassembled c.insert.new.spots c.insert.result (fs ++ (if so then f ∷ [] else [])))
    c.if-fits.ensures
    (table_more c.args.spots.now c.insert.new.spots c.args.reach c.insert.result f fs c.insert.ensures.map
    c.insert.ensures.reach
    table)

pub returns-else-fits-clause-table : goal.returns-else-fits-clause-table
returns-else-fits-clause-table c =
    λ fs table. let f = as_fragment c.args.offset c.args.bytes.now in
    subst (λ (so : Bool). IsReassembled c.args.spots.now c.args.reach (fs ++ (if so then f ∷ [] else [])))
    c.if-fits.ensures
    (subst (λ (gs : List Fragment). IsReassembled c.args.spots.now c.args.reach gs) (sym (append-nil fs)) table)

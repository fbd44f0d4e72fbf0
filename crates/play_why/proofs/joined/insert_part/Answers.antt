use Rattle.std.proofs.Common.{ℕ, Bool, List, [], ◌++◌, if◌then◌else◌, sym, subst}
use Rattle.std.proofs.lemmas.List.{append-nil}
use Rattle.flat_model.specs.Fragments.Overlay.{Fragment}
use Rattle.play_why.specs.Joined.{IsReassembled, fitting}
use Rattle.play_why.proofs.joined.insert_part.Goals as goal

pub returns-then-same_key-clause-table : goal.returns-then-same_key-clause-table
returns-then-same_key-clause-table c =
    λ fs table. let part = fitting c.args.part.now.offset c.args.part.now.bytes.items in
    subst (λ (so : Bool). IsReassembled c.insert_fitting.new.spots c.insert_fitting.result
    (fs ++ (if so then part else [])))
    c.if-same_key.ensures
    (subst (λ (bytes : List ℕ). IsReassembled c.insert_fitting.new.spots c.insert_fitting.result
    (fs ++ fitting c.args.part.now.offset bytes)) c.as_slice.ensures.value (c.insert_fitting.ensures.table fs table))

pub returns-else-same_key-clause-table : goal.returns-else-same_key-clause-table
returns-else-same_key-clause-table c =
    λ fs table. let part = fitting c.args.part.now.offset c.args.part.now.bytes.items in
    subst (λ (so : Bool). IsReassembled c.args.spots.now c.args.reach (fs ++ (if so then part else [])))
    c.if-same_key.ensures
    (subst (λ (gs : List Fragment). IsReassembled c.args.spots.now c.args.reach gs) (sym (append-nil fs)) table)

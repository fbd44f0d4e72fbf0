use Rattle.std.proofs.Common.{List, ℕ, ◌++◌, ◌/◌, ap, ◌∙◌, append_assoc, codes}
use Rattle.std.specs.Prelude.{decimal}
use Rattle.play_text.proofs.bytes.put_from.Goals as goal

pub returns-clause-items : goal.returns-clause-items
returns-clause-items g c =
    let rest : List ℕ = decimal (c.args.same / 2) ++ codes " on" in
    c.put_byte_on.ensures.items ∙ ap (λ (t : List ℕ). t ++ rest) c.append.ensures.items
    ∙ append_assoc c.args.text.now (codes ", which differ from byte ") rest

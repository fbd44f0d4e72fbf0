use Rattle.std.proofs.Common.{List, ℕ, ◌++◌, ap₂, ◌∙◌}
use Rattle.play_text.specs.Bytes.{apart_text}
use Rattle.play_text.proofs.bytes.put_replies_apart.Goals as goal

pub returns-clause-items : goal.returns-clause-items
returns-clause-items g c =
    c.put_first_apart.ensures.items
    ∙ ap₂ (λ (a b : List ℕ). c.args.text.now ++ apart_text a b) c.bytes_word-first.ensures c.bytes_word-second.ensures

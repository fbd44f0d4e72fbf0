use Rattle.std.proofs.Common.{ℕ, List, ◌++◌, ap₂, ◌∙◌}
use Rattle.play_why.specs.Joined.{datagram_bytes, fitting, fragments_of}
use Rattle.play_why.proofs.JoinLemmas.{bytes_are}
use Rattle.play_why.proofs.joined.Joined.join.Goals as goal

pub returns : goal.returns
returns c =
    let kept = fragments_of c.args.key c.args.parts.now in
    c.put_bytes.ensures
    ∙ bytes_are c.insert_fitting-end.new.spots c.insert_fitting-end.result _
    (c.insert_fitting-end.ensures.table kept c.insert_parts-reach.ensures.table)
    ∙ ap₂ (λ (offset : ℕ) (carried : List ℕ). datagram_bytes (kept ++ fitting offset carried)) c.offset_of.ensures
    c.carried_of.ensures.is

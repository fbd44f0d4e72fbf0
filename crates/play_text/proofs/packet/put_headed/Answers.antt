use Rattle.std.proofs.Common.{ℕ, ◌++◌, sym, ap, ◌∙◌}
use Rattle.flat_plain.specs.Heads.{plain_head}
use Rattle.play_text.specs.Packets.{fragment_text}
use Rattle.play_text.proofs.PacketLemmas.{headed_fragment}
use Rattle.play_text.proofs.packet.put_headed.Goals as goal

pub returns-then-is_fragment-clause-items : goal.returns-then-is_fragment-clause-items
returns-then-is_fragment-clause-items g c =
    headed_fragment (plain_head c.args.head) c.args.packet.now _ _ (sym c.is_fragment.ensures ∙ c.if-is_fragment.true)
    (c.put_fragment.ensures.items ∙ ap (λ (n : ℕ). c.args.text.now ++ fragment_text (plain_head c.args.head) n)
    c.carried_by.ensures)

use Rattle.play_text.proofs.FrameLemmas.{frame_said}
use Rattle.play_text.proofs.frame.put_headed.Goals as goal

pub returns-clause-items : goal.returns-clause-items
returns-clause-items g c =
    frame_said c.args.frame.now c.body_of.result.now c.args.text.now _ _ _ _ _ c.mac_at.ensures c.mac_at-2.ensures
    c.u16_at.ensures c.body_of.ensures c.put_frame_way.ensures.items c.put_body.ensures.items

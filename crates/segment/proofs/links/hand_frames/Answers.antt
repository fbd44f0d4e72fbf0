use Rattle.std.proofs.Common.{◌≡◌, ◌∙◌, sym, ap, arith}
use Rattle.flat_ether.specs.declared.link.Link.{Link}
use Rattle.ether_host.specs.declared.layer.LinkLayer.{LinkLayer}
use Rattle.net_stack.specs.Stack.{StackView}
use Rattle.segment.specs.Frames.{frame_goes_to}
use Rattle.ether_host.specs.Inside.{link_seen}
use Rattle.ether_host.specs.View.{halves}
use Rattle.segment.specs.Inside.{flying}
use Rattle.segment.proofs.Framing.{more_received, receive_goes, receive_not}
use Rattle.segment.proofs.links.hand_frames.Goals as goal
use Rattle.segment.proofs.links.hand_frames.Goals.{then-is_addressed, else-is_addressed}

pub loop-at-preserved : goal.loop-at-preserved
loop-at-preserved g c =
    let frame = c.index-due-at.result in
    let mac = (link_seen c.args.link.now).link.mac in
    let is : frame_goes_to c.args.place mac (flying frame) ≡ c.is_addressed.result =
    ap (λ (l : Link). frame_goes_to c.args.place l.mac (flying frame)) (sym c.link.ensures)
    ∙ sym c.is_addressed.ensures in
    let now = halves c.loop-at.stack (link_seen c.loop-at.link) in
    more_received c.args.place mac c.loop-at.at c.args.due.now frame
    (halves c.args.stack.now (link_seen c.args.link.now))
    now
    (halves c.if-is_addressed.stack (link_seen c.if-is_addressed.link))
    (omega arith) c.index-due-at.is c.loop-at.invariant
    (elim c.if-is_addressed.branch [
      | then-is_addressed w ↦ receive_goes c.args.place mac (flying frame) now
          (halves w.hand_over.new.stack (link_seen w.hand_over.new.link))
          (halves c.if-is_addressed.stack (link_seen c.if-is_addressed.link)) w.bytes.result.now
          (is ∙ w.if-is_addressed.true) w.bytes.ensures.is
          (ap (λ (s : StackView). halves s (link_seen c.if-is_addressed.link)) w.stack-is
          ∙ ap (λ (l : LinkLayer). halves w.hand_over.new.stack (link_seen l)) w.link-is) w.hand_over.ensures
      | else-is_addressed w ↦ receive_not c.args.place mac (flying frame) now
          (halves c.if-is_addressed.stack (link_seen c.if-is_addressed.link)) (is ∙ w.if-is_addressed.false)
          (ap (λ (s : StackView). halves s (link_seen c.if-is_addressed.link)) w.stack-is
          ∙ ap (λ (l : LinkLayer). halves c.loop-at.stack (link_seen l)) w.link-is)
    ])

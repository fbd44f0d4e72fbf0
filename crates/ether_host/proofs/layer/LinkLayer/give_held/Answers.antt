use Rattle.std.proofs.Common.{◌≡◌, ℕ, ◌<◌, List, length, map, Some, refl, sym, ap, ◌∙◌, arith, rules}
use Rattle.flat_ether.specs.Frames.{frame}
use Rattle.flat_ether.specs.Links.{Gives, WaitingPacket, LinkState, first_ready}
use Rattle.flat_ether.specs.declared.neighbour.Neighbour.{Neighbour}
use Rattle.ether_host.specs.Inside.{link_seen}
use Rattle.ether_host.specs.Buffers.{held_in}
use Rattle.ether_host.specs.declared.buffer.PacketBuffer.{PacketBuffer}
use Rattle.ether_host.proofs.Tables.{held_remove}
use Rattle.ether_host.proofs.Giving.{held_given}
use Rattle.ether_host.proofs.layer.LinkLayer.give_held.Goals as goal

pub returns : goal.returns
returns c =
    let s : LinkState = link_seen c.args.self.now in
    let ps : List PacketBuffer = c.args.self.now.held.items in
    let found : first_ready s.neighbours s.held ≡ Some (c.in_ok-at.at, c.in_ok-at.mac) =
    ap (λ (ns : List Neighbour). first_ready ns (map held_in ps)) (sym c.as_slice.ensures.value)
    ∙ ap (λ (hs : List PacketBuffer). first_ready c.as_slice.result.now (map held_in hs))
    (sym c.as_slice-2.ensures.value) ∙ sym c.first_ready.ensures.is ∙ c.in_ok-at.was in
    let long : length c.as_slice-2.result.now ≡ length ps = ap length c.as_slice-2.ensures.value in
    let within : c.in_ok-at.at < length ps = omega (arith, c.in_ok-at.ensures.within) in
    let left : map held_in c.drop_at.new.held.items ≡ _ =
    ap (map held_in) c.drop_at.ensures.items ∙ held_remove ps c.in_ok-at.at in
    let given =
    held_given s ps c.in_ok-at.at c.in_ok-at.mac c.index-waiting.result.now refl found within c.index-waiting.ensures in
    record {
      frame =
          ap (λ (f : List ℕ). Some f) (c.framed.ensures.frame
          ∙ ap (frame c.in_ok-at.mac s.link.mac 0x0800) (c.put_body.ensures ∙ c.bytes-bytes.ensures.is))
          ∙ sym (ap (λ (g : Gives). g.0) given);
      link = ap (λ (hs : List WaitingPacket). record s { held = hs }) left ∙ sym (ap (λ (g : Gives). g.1) given);
      fits = search rules;
    }

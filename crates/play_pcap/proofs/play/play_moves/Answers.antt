use Rattle.std.proofs.Common.{ℕ, arith}
use Rattle.std.proofs.lemmas.List.{length-map}
use Rattle.capture.specs.Seen.{captured}
use Rattle.play_pcap.proofs.Goes.{goes_move, came_move, ticked_move}
use Rattle.play_pcap.proofs.play.play_moves.Goals as goal

pub loop-next-preserved : goal.loop-next-preserved
loop-next-preserved g c =
    let is = c.in-Some.ensures.is in
    let n : ℕ = c.in-Some.next.ticks in
    let came = came_move n c.in-Some.next.place c.in-Some.next.packet.now _ _ is.0 in
    let ticked = ticked_move n c.in-Some.next.place c.in-Some.next.packet.now _ _ is.0 in
    let packets = c.loop-next.invariant.packets in
    let ticks = c.loop-next.invariant.ticks in
    let most = c.loop-next.invariant.most in
    let old = length-map c.loop-next.moves.rest.now captured in
    let new = length-map c.next_move.new.self.rest.now captured in record {
      goes = λ end rest. c.loop-next.invariant.goes end
          (goes_move g.X.Wire.may_go n c.in-Some.next.place c.in-Some.next.packet.now _ _ _ _ _ end is.0
          c.tick_all.ensures c.rx.ensures rest);
      packets = omega (arith, came, packets);
      ticks = omega (arith, ticked, ticks, is.2);
      passed = c.next_move.ensures.passed;
      most = omega (arith, most, old, new, is.3);
    }

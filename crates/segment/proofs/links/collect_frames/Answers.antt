use Rattle.std.proofs.Common.{◌≡◌, ◌<◌, ◌≤◌, ℕ, length, map, sym, ap, subst, arith}
use Rattle.flat_ether.specs.Hosts.{Host}
use Rattle.ether_host.specs.Inside.{link_seen}
use Rattle.ether_host.specs.View.{halves}
use Rattle.segment.specs.Flying.{sent_by}
use Rattle.segment.specs.Frames.{frames_below, frames_given, hosts_of}
use Rattle.segment.specs.Inside.{AreSentBy}
use Rattle.segment.specs.declared.links.TheConstants.{FRAMES}
use Rattle.segment.proofs.Entering.{more_enter, sent_moved}
use Rattle.segment.proofs.Framing.{all_gone, below_by, below_past, one_gone, past_gone}
use Rattle.segment.proofs.links.collect_frames.Goals as goal
use Rattle.segment.proofs.links.collect_frames.Goals.{then-place-len, else-place-len}

abbrev gives_so : ℕ → Host → Host → Type 0
gives_so place h k = k ≡ (frames_given FRAMES h).1

pub loop-place-preserved : goal.loop-place-preserved
loop-place-preserved g c =
    let inv = c.loop-place.invariant in
    let place = c.loop-place.place in
    let old = hosts_of c.args.stacks.now.items (map link_seen c.args.links.now.items) in
    let stacks = c.loop-place.stacks.items in
    let links = c.loop-place.links.items in
    let now = c.if-place-len in
    elim c.if-place-len.branch [
      | then-place-len w ↦
          let s = w.index_mut.result.now in
          let l = w.index_mut-then-place-len.result.now in
          let within : place < length stacks = omega (arith, c.len.ensures, w.if-place-len.true) in
          let near : place < length c.args.links.now.items = omega (arith, inv.end) in
          let given : AreSentBy c.loop-place.flight c.loop-place.impairment
          (sent_by place (frames_given FRAMES (halves s (link_seen l))).0) now.flight now.impairment =
          sent_moved c.loop-place.flight c.loop-place.impairment _ w.take_frames.new.flight now.flight
          w.take_frames.new.impairment now.impairment w.flight-is w.impairment-is w.take_frames.ensures.sent in
          record {
            gone =
                one_gone inv.gone s w.take_frames.new.stack l w.take_frames.new.link within near
                w.index_mut.ensures.value w.index_mut-then-place-len.ensures.value w.take_frames.ensures.host
                (ap (λ v. v.items) w.stacks-is) (ap (λ v. v.items) w.links-is);
            sent =
                more_enter inv.sent given
                (below_by place gives_so old stacks links s l inv.gone.walked within (omega (arith, inv.gone.links))
                w.index_mut.ensures.value w.index_mut-then-place-len.ensures.value);
            end = inv.end;
          }
      | else-place-len w ↦
          let past : length stacks ≤ place = omega (arith, c.len.ensures, w.if-place-len.false) in
          let none = below_past place gives_so old stacks links inv.gone.walked past in
          record {
            gone = past_gone inv.gone past (ap (λ v. v.items) w.stacks-is) (ap (λ v. v.items) w.links-is);
            sent =
                sent_moved c.args.flight.now c.args.impairment.now _ c.loop-place.flight now.flight
                c.loop-place.impairment now.impairment w.flight-is w.impairment-is
                (subst (λ fs. AreSentBy c.args.flight.now c.args.impairment.now fs c.loop-place.flight
                c.loop-place.impairment) (sym none) inv.sent);
            end = inv.end;
          }
    ]

pub returns-clause-sent : goal.returns-clause-sent
returns-clause-sent g c =
    let old = hosts_of c.args.stacks.now.items (map link_seen c.args.links.now.items) in
    let all : c.loop-place.place ≡ length c.args.links.now.items = omega (arith, c.loop-place.invariant.end) in
    subst (λ n. AreSentBy c.args.flight.now c.args.impairment.now (frames_below old n) c.loop-place.flight
    c.loop-place.impairment) all c.loop-place.invariant.sent

pub returns-clause-hosts : goal.returns-clause-hosts
returns-clause-hosts g c = all_gone c.loop-place.invariant.gone (omega (arith, c.loop-place.invariant.end))

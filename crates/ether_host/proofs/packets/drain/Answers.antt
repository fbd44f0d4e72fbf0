use Rattle.std.proofs.Common.{◌≡◌, ℕ, ◌≤◌, List, [], Some, take, drop, sym, ap, ◌∙◌, arith}
use Rattle.flat_model.specs.Amounts.Weight.{Item}
use Rattle.flat_model.specs.Machine.State.{State}
use Rattle.flat_ether.specs.Hosts.{Drained, drained, with_output_left}
use Rattle.net_stack.specs.Stack.{state_of}
use Rattle.ether_host.specs.Inside.{link_seen}
use Rattle.ether_host.proofs.Giving.{ended, same_rest, stayed, went}
use Rattle.ether_host.proofs.packets.drain.Goals.{In-Some-send}
use Rattle.ether_host.proofs.packets.drain.Goals as goal

-- a packet is sent
sent : (c : In-Some-send) → drained (state_of c.args.stack.now).output (link_seen c.args.layer.now)
    ≡ record {
      frame = Some (take c.in-Some-send.len c.send.new.buffer);
      output = (state_of c.take.new.stack).output;
      link = link_seen c.send.new.self;
    }
sent c =
    went _ (state_of c.loop-len.stack) (state_of c.take.new.stack) (take c.in-Some.len (drop 14 c.take.new.buffer))
    (link_seen c.loop-len.layer) (link_seen c.send.new.self) c.loop-len.invariant.same c.in-Some.ensures.step
    c.in-Some-send.ensures.link _ c.in-Some-send.ensures.frame

pub returns-in-Some-send-clause-frame : goal.returns-in-Some-send-clause-frame
returns-in-Some-send-clause-frame c =
    sym (ap (λ (d : Drained). d.frame) (sent (goal.at.returns-in-Some-send-clause-frame c).In-Some-send))

pub returns-in-Some-send-clause-link : goal.returns-in-Some-send-clause-link
returns-in-Some-send-clause-link c =
    sym (ap (λ (d : Drained). d.link) (sent (goal.at.returns-in-Some-send-clause-link c).In-Some-send))

pub returns-in-Some-send-clause-stack : goal.returns-in-Some-send-clause-stack
returns-in-Some-send-clause-stack c =
    let t : State = state_of c.take.new.stack in
    sym (
    ap (λ (d : Drained). with_output_left (state_of c.args.stack.now) d.output)
    (sent (goal.at.returns-in-Some-send-clause-stack c).In-Some-send)
    ∙ c.loop-len.invariant.rest t.output
    ∙ same_rest (state_of c.loop-len.stack) t (take c.in-Some.len (drop 14 c.take.new.buffer)) c.in-Some.ensures.step
    t.output
    )

pub loop-len-preserved : goal.loop-len-preserved
loop-len-preserved c =
    let s : State = state_of c.loop-len.stack in
    let t : State = state_of c.take.new.stack in
    let p : List ℕ = take c.in-Some.len (drop 14 c.take.new.buffer) in
    let config : t.config.mtu ≡ s.config.mtu =
    ap (λ (x : State). x.config.mtu) (sym (same_rest s t p c.in-Some.ensures.step [])) in
    let mtu : s.config.mtu ≤ 1500 = c.loop-len.invariant.mtu in
    let room : 1514 ≤ _ = c.loop-len.invariant.room in
    record {
      same =
          stayed _ s t p (link_seen c.loop-len.layer) (link_seen c.send.new.self) c.loop-len.invariant.same
          c.in-Some.ensures.step
          c.in_default-send.ensures.link c.in_default-send.ensures.frame;
      rest = λ items. c.loop-len.invariant.rest items ∙ same_rest s t p c.in-Some.ensures.step items;
      mtu = omega arith;
      room = omega arith;
    }

pub returns-clause-link : goal.returns-clause-link
returns-clause-link c =
    let e = ended (state_of c.loop-len.stack) (state_of c.take.new.stack) c.in_default.ensures.step in
    sym (ap (λ (d : Drained). d.link)
    (c.loop-len.invariant.same ∙ ap (λ (items : List Item). drained items (link_seen c.loop-len.layer)) e.1))

pub returns-clause-stack : goal.returns-clause-stack
returns-clause-stack c =
    let s : State = state_of c.loop-len.stack in
    let e = ended s (state_of c.take.new.stack) c.in_default.ensures.step in
    e.0 ∙ ap (with_output_left s) e.1 ∙ sym (c.loop-len.invariant.rest [])
    ∙ sym (ap (λ (d : Drained). with_output_left (state_of c.args.stack.now) d.output)
    (c.loop-len.invariant.same ∙ ap (λ (items : List Item). drained items (link_seen c.loop-len.layer)) e.1))

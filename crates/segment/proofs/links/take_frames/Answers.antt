use Rattle.std.proofs.Common.{◌≡◌, ◌∙◌, ◌-◌, ◌+◌, [], ◌∷◌, ◌++◌, List, ℕ, Bool, Some, None, take, sym, ap, subst, arith}
use Rattle.std.specs.Prelude.{if◌then◌else◌, vec_capacity}
use Rattle.std.proofs.lemmas.List.{length-map, take_all}
use Rattle.flat_ether.specs.Hosts.{Host}
use Rattle.ether_host.specs.Inside.{link_seen}
use Rattle.ether_host.specs.View.{halves}
use Rattle.segment.specs.Flying.{Flying, sent_by}
use Rattle.segment.specs.Frames.{frames_given, gives_short}
use Rattle.segment.specs.Inside.{AreSentBy, flying, under_way}
use Rattle.segment.specs.declared.links.TheConstants.{FRAMES}
use Rattle.segment.proofs.Entering.{more_enter, none_enter}
use Rattle.segment.proofs.Framing.{given_end, given_none, sent_one, so_far_end, so_far_more}
use Rattle.segment.proofs.links.take_frames.Goals as goal

less : (n : ℕ) → n ≡ n - 0
less n = omega arith

pub loop-init : goal.loop-init
loop-init g c =
    let h = halves c.args.stack.now (link_seen c.args.link.now) in
    let flight = c.args.flight.now in
    record {
      given = [];
      so_far = ap (λ n. frames_given n h) (less FRAMES);
      sent =
          none_enter (vec_capacity flight.frames) (under_way flight) c.args.impairment.now
          (sym (take_all (vec_capacity flight.frames) (under_way flight)
          (omega (arith, flight.frames.ok, length-map flight.frames.items flying))));
    }

pub loop-preserved : goal.loop-preserved
loop-preserved g c =
    let inv = c.loop.invariant in
    let first = halves c.args.stack.now (link_seen c.args.link.now) in
    let h = halves c.loop.stack (link_seen c.loop.link) in
    let k = halves c.give.new.stack (link_seen c.give.new.link) in
    let hand = c.give.new.self in
    let f = take hand.len hand.room.value in
    let step : (Some f, k) ≡ gives_short h =
    ap (λ (b : Bool). (if b then Some f else None, k)) (sym c.if-not-give.false) ∙ c.give.ensures.step in
    let is : flying hand ≡ record { sender = c.args.sender; packet = f; wait = 0 } =
    ap (λ n. record { sender = n; packet = f; wait = hand.wait }) c.give.ensures.sender
    ∙ ap (λ n. record { sender = c.args.sender; packet = f; wait = n }) c.give.ensures.wait in
    record {
      given = inv.given ++ f ∷ [];
      so_far =
          so_far_more FRAMES first (FRAMES - c.loop.counter) (FRAMES - (c.loop.counter + 1)) h k inv.given f inv.so_far
          (omega arith) step;
      sent =
          more_enter inv.sent c.send.ensures
          (sent_one c.args.sender inv.given f
          ∙ ap (λ (x : Flying). sent_by c.args.sender inv.given ++ x ∷ []) (sym is));
    }

-- no frame is left
ended : (g : _) (c : goal.Then-not-give g) → frames_given FRAMES (halves c.args.stack.now (link_seen c.args.link.now))
    ≡ (c.loop.invariant.given, halves c.give.new.stack (link_seen c.give.new.link))
ended g c =
    let h = halves c.loop.stack (link_seen c.loop.link) in
    let k = halves c.give.new.stack (link_seen c.give.new.link) in
    let hand = c.give.new.self in
    so_far_end FRAMES (halves c.args.stack.now (link_seen c.args.link.now)) (FRAMES - c.loop.counter) h k
    c.loop.invariant.given c.loop.invariant.so_far
    (given_end (FRAMES - c.loop.counter) (FRAMES - (c.loop.counter + 1)) h k (omega arith)
    (ap (λ (b : Bool). (if b then Some (take hand.len hand.room.value) else None, k)) (sym c.if-not-give.true)
    ∙ c.give.ensures.step))

given_then : (g : _) (c : goal.Then-not-give g)
    → c.loop.invariant.given ≡ (frames_given FRAMES (halves c.args.stack.now (link_seen c.args.link.now))).0
given_then g c = ap (λ (r : List (List ℕ) × Host). r.0) (sym (ended g c))

pub returns-then-not-give-clause-host : goal.returns-then-not-give-clause-host
returns-then-not-give-clause-host g c = ap (λ (r : List (List ℕ) × Host). r.1) (sym (ended g c))

pub returns-then-not-give-clause-sent : goal.returns-then-not-give-clause-sent
returns-then-not-give-clause-sent g c =
    subst (λ fs. AreSentBy c.args.flight.now c.args.impairment.now (sent_by c.args.sender fs) c.loop.flight
    c.loop.impairment) (given_then g c) c.loop.invariant.sent

-- the maximum number of frames was taken
full : (g : _) (c : goal.After-loop g) → frames_given FRAMES (halves c.args.stack.now (link_seen c.args.link.now))
    ≡ (c.loop.invariant.given, halves c.loop.stack (link_seen c.loop.link))
full g c =
    let h = halves c.loop.stack (link_seen c.loop.link) in
    so_far_end FRAMES (halves c.args.stack.now (link_seen c.args.link.now)) (FRAMES - c.loop.counter) h h
    c.loop.invariant.given c.loop.invariant.so_far (given_none (FRAMES - c.loop.counter) h (omega arith))

given_all : (g : _) (c : goal.After-loop g)
    → c.loop.invariant.given ≡ (frames_given FRAMES (halves c.args.stack.now (link_seen c.args.link.now))).0
given_all g c = ap (λ (r : List (List ℕ) × Host). r.0) (sym (full g c))

pub returns-clause-host : goal.returns-clause-host
returns-clause-host g c = ap (λ (r : List (List ℕ) × Host). r.1) (sym (full g c))

pub returns-clause-sent : goal.returns-clause-sent
returns-clause-sent g c =
    subst (λ fs. AreSentBy c.args.flight.now c.args.impairment.now (sent_by c.args.sender fs) c.loop.flight
    c.loop.impairment) (given_all g c) c.loop.invariant.sent

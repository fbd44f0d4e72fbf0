use Rattle.std.proofs.Common.{◌≡◌, ℕ, List, [], take, drop, refl, sym, ap, ◌∙◌, subst, arith, ◌+◌, ◌≤◌, true}
use Rattle.std.proofs.lemmas.List.{drop_all, take_all}
use Rattle.flat_model.specs.Fragments.Overlay.{Fragment}
use Rattle.flat_model.specs.Fragments.Whole.{IsWhole}
use Rattle.ip_reass.specs.Inside.Steps.{IsInserted}
use Rattle.ip_reass.specs.Fragments.{bytes_held, fragment_of, fragments, map_of}
use Rattle.ip_reass.specs.Inside.Walks.{AllAbove, AllUpto, arrived, reach}
use Rattle.ip_reass.proofs.Counted.{held_after}
use Rattle.ip_reass.proofs.Inserts.{Inserted, Settled, IsLast, appended, is_last, inserted_in}
use Rattle.ip_reass.proofs.Walks.{length-fragments, upto_reach}
use Rattle.ip_reass.proofs.Whole.{held_most, open_stops, gap_stops, whole_held}
use Rattle.ip_reass.proofs.queue.append.Goals.{After-from, After-insert}
use Rattle.ip_reass.proofs.queue.append.Goals as goal

all : (c : After-insert) → Settled c.args.pool.now c.args.datagram.now.fragments c.args.datagram.now.fragments.len 0
    c.args.chain (arrived c.args.pool.now c.args.chain c.args.span.offset c.args.span.more) c.insert.new.pool
    c.insert.new.self
all c =
    appended c.args.pool.now c.insert.new.pool c.args.datagram.now.fragments c.insert.new.self c.args.chain
    c.len-place.result c.args.span.offset c.new-tag.result.bits c.args.span.more c.len-place.ensures
    c.requires.can.queue.held c.new-tag.ensures.half c.new-tag.ensures.odd c.insert.ensures.queued_packets
    c.insert.ensures.moves

inserted : (c : After-insert) → Inserted c.args.pool.now c.args.datagram.now.fragments
    (arrived c.args.pool.now c.args.chain c.args.span.offset c.args.span.more) c.insert.new.pool c.insert.new.self
inserted c =
    let l = length-fragments c.args.pool.now c.args.datagram.now.fragments c.requires.can.queue.held in
    let fs : List Fragment = fragments c.args.pool.now c.args.datagram.now.fragments in
    let whole : take c.args.datagram.now.fragments.len fs ≡ fs =
    take_all c.args.datagram.now.fragments.len fs (omega (arith, l)) in
    let none : drop c.args.datagram.now.fragments.len fs ≡ [] =
    drop_all c.args.datagram.now.fragments.len fs (omega (arith, l)) in
    inserted_in c.args.pool.now c.insert.new.pool c.args.datagram.now.fragments c.insert.new.self
    c.args.datagram.now.fragments.len 0 c.args.chain
    (arrived c.args.pool.now c.args.chain c.args.span.offset c.args.span.more) c.requires.can.queue
    (subst (AllUpto c.args.span.offset) (sym whole)
    (upto_reach c.args.span.offset 0 fs c.requires.can.queue.apart c.requires.past))
    (subst (AllAbove c.args.span.offset) (sym none) tt)
    (omega (arith, c.requires.past, ap (reach 0) whole)) c.requires.can.some c.requires.can.small (all c)

whole_of : (c : After-insert) → IsLast c.insert.new.pool c.insert.new.self c.len-place.result
    (fragment_of (arrived c.args.pool.now c.args.chain c.args.span.offset c.args.span.more))
whole_of c =
    is_last c.args.pool.now c.insert.new.pool c.args.datagram.now.fragments c.insert.new.self c.len-place.result
    c.args.chain (arrived c.args.pool.now c.args.chain c.args.span.offset c.args.span.more) c.requires.can.queue.held
    c.len-place.ensures
    (subst (λ (n : ℕ). Settled c.args.pool.now c.args.datagram.now.fragments n 0 c.args.chain
    (arrived c.args.pool.now c.args.chain c.args.span.offset c.args.span.more) c.insert.new.pool
    c.insert.new.self) (sym c.len-place.ensures) (all c))

counted : (c : After-insert) → c.from.result + c.len-len.result
    ≡ bytes_held (fragments c.insert.new.pool c.insert.new.self)
counted c =
    omega (
      arith,
      c.from.ensures,
      c.requires.can.counted,
      c.len-len.ensures,
      held_after c.args.pool.now c.insert.new.pool c.args.datagram.now.fragments c.insert.new.self
          c.args.datagram.now.fragments.len (arrived c.args.pool.now c.args.chain c.args.span.offset c.args.span.more)
          c.requires.can.queue.held (all c).queue_is refl,
    )

is_inserted : (c : After-insert) → IsInserted c.args.pool.now c.args.datagram.now c.args.chain
    (arrived c.args.pool.now c.args.chain c.args.span.offset c.args.span.more) true c.insert.new.pool
    (record (c.args.datagram.now) { fragments = c.insert.new.self; bytes = c.from.result + c.len-len.result })
is_inserted c = record {
  same = refl;
  covered = (inserted c).covered;
  map = (inserted c).map_is;
  inserted = (inserted c).queue_is;
  none = tt;
  queue = record { held = c.insert.ensures.held; apart = (inserted c).apart; small = (inserted c).small };
  counted = counted c;
  moves = c.insert.ensures.moves;
}

end_is : (c : After-insert) → reach 0 (fragments c.insert.new.pool c.insert.new.self)
    ≡ c.args.span.offset + c.len-len.result
end_is c = omega (arith, (whole_of c).end, c.len-len.ensures)

pub returns-then-span-clause-inserted : goal.returns-then-span-clause-inserted
returns-then-span-clause-inserted c = is_inserted (goal.at.returns-then-span-clause-inserted c).After-insert

pub returns-then-span-clause-whole : goal.returns-then-span-clause-whole
returns-then-span-clause-whole c =
    let at = (goal.at.returns-then-span-clause-whole c).After-insert in
    open_stops (fragments c.insert.new.pool c.insert.new.self) c.len-place.result (inserted at).apart (whole_of at).len
    ((whole_of at).more ∙ c.if-span.true)

pub returns-then-bytes-span-clause-inserted : goal.returns-then-bytes-span-clause-inserted
returns-then-bytes-span-clause-inserted c = is_inserted (goal.at.returns-then-bytes-span-clause-inserted c).After-insert

pub returns-then-bytes-span-clause-whole : goal.returns-then-bytes-span-clause-whole
returns-then-bytes-span-clause-whole c =
    let at = (goal.at.returns-then-bytes-span-clause-whole c).After-insert in
    gap_stops (fragments c.insert.new.pool c.insert.new.self) (inserted at).apart
    (omega (arith, counted at, end_is at, c.if-bytes-span.true))

pub returns-clause-inserted : goal.returns-clause-inserted
returns-clause-inserted c = is_inserted (goal.at.returns-clause-inserted c).After-insert

pub returns-clause-whole : goal.returns-clause-whole
returns-clause-whole c =
    let at = (goal.at.returns-clause-whole c).After-insert in
    subst (λ (n : ℕ). IsWhole (map_of (fragments c.insert.new.pool c.insert.new.self)) n) (sym (counted at))
    (whole_held (fragments c.insert.new.pool c.insert.new.self) c.len-place.result (inserted at).apart (whole_of at).len
    ((whole_of at).more ∙ c.if-span.false) (omega (arith, counted at, end_is at, c.if-bytes-span.false)))

-- the count of its bytes
few : (c : After-from) → c.from.result + c.len-len.result ≤ 65515
few c =
    omega (
      arith,
      c.from.ensures,
      c.requires.can.counted,
      held_most 0 (fragments c.args.pool.now c.args.datagram.now.fragments) c.requires.can.queue.apart,
      c.requires.past,
      c.len-len.ensures,
      c.requires.can.small,
    )

pub overflow_add-bytes : goal.overflow_add-bytes
overflow_add-bytes c = omega (arith, few (goal.at.overflow_add-bytes c).After-from)

pub overflow_cast-datagram : goal.overflow_cast-datagram
overflow_cast-datagram c = omega (arith, few (goal.at.overflow_cast-datagram c).After-from)

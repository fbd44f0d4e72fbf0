use Rattle.std.proofs.Common.{refl, sym, ap, ◌∙◌, arith, ℕ, ◌+◌, ◌-◌, ◌++◌, ◌∷◌, take, drop, ◌≡◌}
use Rattle.ip_reass.specs.Fragments.{QueuedFragment, bytes_held, fragment_of, fragments, cut, cut_to, queued, queued_end}
use Rattle.ip_reass.specs.Inside.Walks.{arrived, after, reach}
use Rattle.ip_reass.proofs.Counted.{held_as, fragments_as}
use Rattle.ip_reass.proofs.Inserts.{Covered, covered_in, Inserted, inserted_in, Settled, reaches}
use Rattle.ip_reass.proofs.Whole.{held_within}
use Rattle.ip_reass.proofs.queue.insert_between.Goals.{After-from, After-insert_trimmed-gone}
use Rattle.ip_reass.proofs.queue.insert_between.Goals as goal

none : (c : goal.After-free_chain)
    → Covered c.args.pool.now c.args.datagram.now.fragments c.args.chain
    (fragment_of (arrived c.args.pool.now c.args.chain c.args.span.offset c.args.span.more)) c.free_chain.new.self
none c =
    covered_in c.args.pool.now c.free_chain.new.self c.args.datagram.now.fragments (after c.walk_to-before.result.front)
    c.args.chain (fragment_of (arrived c.args.pool.now c.args.chain c.args.span.offset c.args.span.more))
    c.requires.queue c.requires.live c.requires.apart
    c.walk_to-before.ensures.upto c.walk_to-before.ensures.above (omega arith) c.free_chain.ensures

pub returns-then-len-lost-clause-inserted : goal.returns-then-len-lost-clause-inserted
returns-then-len-lost-clause-inserted c = record {
  same = refl;
  covered = (none c).covered;
  map = tt;
  inserted = tt;
  none = (none c).queue_is;
  queue = (none c).is;
  counted =
      c.requires.counted ∙ sym (held_as c.args.pool.now c.free_chain.new.self c.args.datagram.now.fragments
      c.args.datagram.now.fragments (none c).queue_is);
  moves = (none c).moves;
}

pub insert_trimmed-gone-requires-clause-clear : goal.insert_trimmed-gone-requires-clause-clear
insert_trimmed-gone-requires-clause-clear c =
    let q = c.requires.queue in
    record {
      at = record { front = c.walk_to-before.ensures.front; held = q.held };
      small = q.small;
      few = held_within (fragments c.args.pool.now c.args.datagram.now.fragments) q.apart q.small;
    }

abbrev came : (c : After-insert_trimmed-gone) → QueuedFragment
came c = arrived c.args.pool.now c.args.chain c.args.span.offset c.args.span.more

done : (c : After-insert_trimmed-gone)
    → Settled c.args.pool.now c.args.datagram.now.fragments (after c.walk_to-before.result.front)
    c.saturating_sub-lost.result c.args.chain (came c) c.insert_trimmed-gone.new.pool c.insert_trimmed-gone.new.train
done c =
    let here = came c in
    let i = after c.walk_to-before.result.front in
    let were = queued c.args.pool.now c.args.datagram.now.fragments in
    record {
      queue_is =
          c.insert_trimmed-gone.ensures.queue
          ∙ ap (λ (n : ℕ). take i were ++ cut n here ∷ cut_to (queued_end here) (drop i were))
          (sym c.saturating_sub-lost.ensures);
      moves = c.insert_trimmed-gone.ensures.left.moves;
    }

some : (c : After-insert_trimmed-gone)
    → Inserted c.args.pool.now c.args.datagram.now.fragments (came c) c.insert_trimmed-gone.new.pool
    c.insert_trimmed-gone.new.train
some c =
    inserted_in c.args.pool.now c.insert_trimmed-gone.new.pool c.args.datagram.now.fragments
    c.insert_trimmed-gone.new.train (after c.walk_to-before.result.front) c.saturating_sub-lost.result c.args.chain
    (came c) c.requires.queue
    c.walk_to-before.ensures.upto c.walk_to-before.ensures.above (omega arith) (omega arith) c.requires.small (done c)

counted : (c : After-from)
    → c.from.result + (c.len-len.result - c.saturating_sub-lost.result) - c.insert_trimmed-gone.result
    ≡ bytes_held (fragments c.insert_trimmed-gone.new.pool c.insert_trimmed-gone.new.train)
counted c =
    omega (
      arith,
      c.from.ensures,
      c.requires.counted,
      c.insert_trimmed-gone.ensures.gone,
      c.saturating_sub-lost.ensures,
      c.len-len.ensures,
    )

pub returns-clause-inserted : goal.returns-clause-inserted
returns-clause-inserted c =
    let at = goal.at.returns-clause-inserted c in
    let now = some at.After-insert_trimmed-gone in
    record {
      same = refl;
      covered = now.covered;
      map = now.map_is;
      inserted = now.queue_is;
      none = tt;
      queue = record { held = c.insert_trimmed-gone.ensures.left.held; apart = now.apart; small = now.small };
      counted = counted at.After-from;
      moves = c.insert_trimmed-gone.ensures.left.moves;
    }

pub overflow_cast-datagram : goal.overflow_cast-datagram
overflow_cast-datagram c =
    let at = goal.at.overflow_cast-datagram c in
    let now = some at.After-insert_trimmed-gone in
    omega (
      arith,
      counted at.After-from,
      held_within (fragments c.insert_trimmed-gone.new.pool c.insert_trimmed-gone.new.train) now.apart now.small,
    )

pub overflow_add-bytes : goal.overflow_add-bytes
overflow_add-bytes c =
    omega (
      arith,
      c.from.ensures,
      c.requires.counted,
      held_within (fragments c.args.pool.now c.args.datagram.now.fragments) c.requires.queue.apart
          c.requires.queue.small,
      c.len-len.ensures,
      c.requires.small,
    )

pub returns-then-len-lost-clause-reach : goal.returns-then-len-lost-clause-reach
returns-then-len-lost-clause-reach c =
    let same : fragments c.free_chain.new.self c.args.datagram.now.fragments
    ≡ fragments c.args.pool.now c.args.datagram.now.fragments =
    fragments_as c.args.pool.now c.free_chain.new.self c.args.datagram.now.fragments c.args.datagram.now.fragments
    (none c).queue_is in
    omega (arith, ap (reach 0) same)

pub returns-clause-reach : goal.returns-clause-reach
returns-clause-reach c =
    reaches _ _ _ _ _ _ _ _ (omega (arith, c.saturating_sub-lost.ensures, c.walk_to-before.ensures.end))
    (omega (arith, c.len-len.ensures)) (done (goal.at.returns-clause-reach c).After-insert_trimmed-gone)

use Rattle.std.proofs.Common.{◌≡◌, ℕ, ◌+◌, ◌-◌, length, ◌∙◌, sym, subst, arith}
use Rattle.flat_model.specs.Fragments.Whole.{IsWhole}
use Rattle.ip_reass.specs.Fragments.{fragments, map_of}
use Rattle.ip_reass.specs.Inside.Walks.{fragment_at}
use Rattle.ip_reass.proofs.Walks.{length-fragments, more_at}
use Rattle.ip_reass.proofs.Whole.{open_stops, gap_stops, whole_held}
use Rattle.ip_reass.proofs.queue.whole.Goals.{After-more}
use Rattle.ip_reass.proofs.queue.whole.Goals as goal

-- the last fragment
len_is : (c : After-more)
    → c.len.result - 1 + 1 ≡ length (fragments c.args.pool.now c.args.datagram.now.fragments)
len_is c =
    omega (
      arith,
      c.len.ensures,
      c.requires.some,
      length-fragments c.args.pool.now c.args.datagram.now.fragments c.requires.queue.held,
    )

more_is : (c : After-more)
    → (fragment_at (fragments c.args.pool.now c.args.datagram.now.fragments) (c.len.result - 1)).more ≡ c.more.result
more_is c =
    sym (more_at c.args.pool.now c.args.datagram.now.fragments (c.len.result - 1) c.tag_of.result.bits
    c.requires.queue.held (omega (arith, c.len.ensures, c.requires.some)) c.tag_of.ensures) ∙ sym c.more.ensures

pub returns-then-more-clause-whole : goal.returns-then-more-clause-whole
returns-then-more-clause-whole c =
    let at = (goal.at.returns-then-more-clause-whole c).After-more in
    open_stops (fragments c.args.pool.now c.args.datagram.now.fragments) (c.len.result - 1) c.requires.queue.apart
    (len_is at) (more_is at ∙ c.if-more.true)

pub returns-then-bytes-end_of_last-clause-whole : goal.returns-then-bytes-end_of_last-clause-whole
returns-then-bytes-end_of_last-clause-whole c =
    gap_stops (fragments c.args.pool.now c.args.datagram.now.fragments) c.requires.queue.apart
    (omega (arith, c.from-bytes.ensures, c.requires.counted, c.end_of_last.ensures, c.if-bytes-end_of_last.true))

pub returns-clause-whole : goal.returns-clause-whole
returns-clause-whole c =
    let at = (goal.at.returns-clause-whole c).After-more in
    subst (λ (n : ℕ). IsWhole (map_of (fragments c.args.pool.now c.args.datagram.now.fragments)) n)
    (sym (c.from-bytes.ensures ∙ c.requires.counted))
    (whole_held (fragments c.args.pool.now c.args.datagram.now.fragments) (c.len.result - 1) c.requires.queue.apart
    (len_is at) (more_is at ∙ c.if-more.false)
    (omega (arith, c.from-bytes.ensures, c.requires.counted, c.end_of_last.ensures, c.if-bytes-end_of_last.false)))

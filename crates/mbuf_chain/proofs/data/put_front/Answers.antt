use Rattle.std.proofs.Common.{refl, arith, length}
use Rattle.mbuf_chain.proofs.Grows.{FitsBefore, ReadyBefore, fits_before, ready_before}
use Rattle.mbuf_chain.proofs.Heads.{shown_at}
use Rattle.mbuf_chain.proofs.data.put_front.Goals as goal
use Rattle.mbuf_chain.proofs.data.put_front.Goals.{After-head-head, After-write_in}

pub head-head-requires : goal.head-head-requires
head-head-requires c = (shown_at c.requires.can.place).out

-- the bytes fit in front of those of the mbuf
fits : (c : After-head-head) → FitsBefore c.args.store.now c.args.at c.head-head.result (length c.args.bytes.now)
fits c = fits_before c.requires.can.place c.head-head.ensures.value c.requires.fits

pub overflow_cast-added : goal.overflow_cast-added
overflow_cast-added c = omega (arith, (fits (goal.at.overflow_cast-added c).After-head-head).few)

pub overflow_sub-start : goal.overflow_sub-start
overflow_sub-start c = omega (arith, (fits (goal.at.overflow_sub-start c).After-head-head).less)

pub write_in-requires-clause-low : goal.write_in-requires-clause-low
write_in-requires-clause-low c = (fits (goal.at.write_in-requires-clause-low c).After-head-head).low

pub write_in-requires-clause-high : goal.write_in-requires-clause-high
write_in-requires-clause-high c = (fits (goal.at.write_in-requires-clause-high c).After-head-head).high

pub overflow_add-head : goal.overflow_add-head
overflow_add-head c = omega (arith, (fits (goal.at.overflow_add-head c).After-head-head).most)

-- they are written, and the mbuf is ready for its new length
ready : (c : After-write_in)
    → ReadyBefore c.args.store.now c.write_in.new.store c.args.first (length c.args.bytes.now) c.args.at
    c.head-head.result c.args.bytes.now
ready c = ready_before c.requires.can.place c.head-head.ensures.value c.requires.fits refl c.write_in.ensures

pub resize-requires-clause-place : goal.resize-requires-clause-place
resize-requires-clause-place c = (ready (goal.at.resize-requires-clause-place c).After-write_in).place

pub resize-requires-clause-low : goal.resize-requires-clause-low
resize-requires-clause-low c = (ready (goal.at.resize-requires-clause-low c).After-write_in).low

pub resize-requires-clause-high : goal.resize-requires-clause-high
resize-requires-clause-high c = (ready (goal.at.resize-requires-clause-high c).After-write_in).high

pub returns : goal.returns
returns c =
    record {
      pool = c.resize.ensures.pool;
      change = (ready (goal.at.returns c).After-write_in).done c.resize.new.store c.resize.ensures.change;
    }

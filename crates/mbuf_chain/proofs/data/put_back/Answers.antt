use Rattle.std.proofs.Common.{refl, arith, length}
use Rattle.mbuf_chain.proofs.Grows.{FitsAfter, ReadyAfter, fits_after, ready_after}
use Rattle.mbuf_chain.proofs.Heads.{shown_at}
use Rattle.mbuf_chain.proofs.data.put_back.Goals as goal
use Rattle.mbuf_chain.proofs.data.put_back.Goals.{After-head-head, After-write_in}

pub head-head-requires : goal.head-head-requires
head-head-requires c = (shown_at c.requires.can.place).out

-- the bytes fit behind those of the mbuf
fits : (c : After-head-head) → FitsAfter c.args.store.now c.args.at c.head-head.result (length c.args.bytes.now)
fits c = fits_after c.requires.can.place c.head-head.ensures.value c.requires.fits

pub overflow_add-end : goal.overflow_add-end
overflow_add-end c = let f = fits (goal.at.overflow_add-end c).After-head-head in omega (arith, f.high, f.small)

pub write_in-requires-clause-low : goal.write_in-requires-clause-low
write_in-requires-clause-low c = (fits (goal.at.write_in-requires-clause-low c).After-head-head).low

pub write_in-requires-clause-high : goal.write_in-requires-clause-high
write_in-requires-clause-high c = (fits (goal.at.write_in-requires-clause-high c).After-head-head).high

pub overflow_add-head : goal.overflow_add-head
overflow_add-head c = let f = fits (goal.at.overflow_add-head c).After-head-head in omega (arith, f.high, f.small)

-- they are written, and the mbuf is ready for its new length
ready : (c : After-write_in)
    → ReadyAfter c.args.store.now c.write_in.new.store c.args.first (length c.args.bytes.now) c.args.at
    c.head-head.result c.args.bytes.now
ready c = ready_after c.requires.can.place c.head-head.ensures.value c.requires.fits refl c.write_in.ensures

pub resize-requires-clause-place : goal.resize-requires-clause-place
resize-requires-clause-place c = (ready (goal.at.resize-requires-clause-place c).After-write_in).place

pub resize-requires-clause-low : goal.resize-requires-clause-low
resize-requires-clause-low c = (ready (goal.at.resize-requires-clause-low c).After-write_in).low

pub resize-requires-clause-high : goal.resize-requires-clause-high
resize-requires-clause-high c = (ready (goal.at.resize-requires-clause-high c).After-write_in).high

pub returns : goal.returns
returns c =
    record {
      pool = c.resize.ensures.pool;
      change = (ready (goal.at.returns c).After-write_in).done c.resize.new.store c.resize.ensures.change;
    }

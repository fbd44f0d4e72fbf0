use Rattle.std.proofs.Common.{arith, sym, take, drop}
use Rattle.mbuf_chain.specs.Chain.{entry_in}
use Rattle.mbuf_chain.specs.Inside.Cells.{pool_of}
use Rattle.mbuf_chain.proofs.Bytes.{run_length}
use Rattle.mbuf_chain.proofs.Grows.{FitsAfter, ReadyAfter, fits_after, ready_after}
use Rattle.mbuf_chain.proofs.Heads.{shown_at}
use Rattle.mbuf_chain.proofs.data.append.Goals as goal
use Rattle.mbuf_chain.proofs.data.append.Goals.{After-head-head, After-copy_in}

pub head-head-requires : goal.head-head-requires
head-head-requires c = (shown_at c.requires.can.place).out

-- the bytes fit behind those of the mbuf
fits : (c : After-head-head) → FitsAfter c.args.store.now c.args.at c.head-head.result c.args.count
fits c = fits_after c.requires.can.place c.head-head.ensures.value c.requires.fits

pub overflow_add-head : goal.overflow_add-head
overflow_add-head c = let f = fits (goal.at.overflow_add-head c).After-head-head in omega (arith, f.high, f.small)

pub copy_in-requires-clause-low : goal.copy_in-requires-clause-low
copy_in-requires-clause-low c = (fits (goal.at.copy_in-requires-clause-low c).After-head-head).low

pub copy_in-requires-clause-high : goal.copy_in-requires-clause-high
copy_in-requires-clause-high c = (fits (goal.at.copy_in-requires-clause-high c).After-head-head).high

pub overflow_add-head-2 : goal.overflow_add-head-2
overflow_add-head-2 c = let f = fits (goal.at.overflow_add-head-2 c).After-head-head in omega (arith, f.high, f.small)

-- they are copied, and the mbuf is ready for its new length
ready : (c : After-copy_in)
    → ReadyAfter c.args.store.now c.copy_in.new.store c.args.first c.args.count c.args.at c.head-head.result
    (take c.args.count (drop c.args.skip (entry_in (pool_of c.args.store.now) c.args.other c.args.from).bytes))
ready c =
    ready_after c.requires.can.place c.head-head.ensures.value c.requires.fits
    (sym (run_length _ _ _ c.requires.within)) c.copy_in.ensures

pub resize-requires-clause-place : goal.resize-requires-clause-place
resize-requires-clause-place c = (ready (goal.at.resize-requires-clause-place c).After-copy_in).place

pub resize-requires-clause-low : goal.resize-requires-clause-low
resize-requires-clause-low c = (ready (goal.at.resize-requires-clause-low c).After-copy_in).low

pub resize-requires-clause-high : goal.resize-requires-clause-high
resize-requires-clause-high c = (ready (goal.at.resize-requires-clause-high c).After-copy_in).high

pub returns : goal.returns
returns c =
    record {
      pool = c.resize.ensures.pool;
      change = (ready (goal.at.returns c).After-copy_in).done c.resize.new.store c.resize.ensures.change;
    }

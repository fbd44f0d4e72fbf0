use Rattle.std.proofs.Common.{◌≡◌, ℕ, List, length, true, ap, sym, ◌∙◌, arith}
use Rattle.flat_model.specs.Sockets.Fits.{fits, memory_of}
use Rattle.flat_model.specs.Machine.State.{Datagram}
use Rattle.mbuf_chain.specs.Chain.{ChainView, chain_of, string}
use Rattle.mbuf_chain.proofs.Laws.Owners.{times-append, live_first}
use Rattle.ledger.specs.Accounts.{entries_weight, weight_at}
use Rattle.ledger.proofs.Laws.{enough_mbufs}
use Rattle.sock_calls.specs.Sockets.{from_three, queues_of, queued_chains}
use Rattle.sock_calls.specs.Inside.Parts.{socks_of}
use Rattle.sock_calls.proofs.Delivered.{Tested, limit_at, freed, tested, joined, full_end, lacking_end, fitting_end}
use Rattle.sock_calls.proofs.Copies.{named_at, descriptor_of}
use Rattle.sock_calls.proofs.parts.Parts.append.Goals as goal
use Rattle.sock_calls.proofs.parts.Parts.append.Goals.{After-reserve}

pub fits_at-requires : goal.fits_at-requires
fits_at-requires g c = descriptor_of c.args.self.now.pcbs c.args.fd c.requires.fit.socks.apart c.requires.opened

pub returns-then-not-fits_at-clause-appended : goal.returns-then-not-fits_at-clause-appended
returns-then-not-fits_at-clause-appended g c =
    let p = c.args.pool.now in
    let w = c.args.waiting.now in
    full_end c.args.datagram.sender (record {
      fit = c.requires.fit;
      named = named_at c.args.self.now.pcbs c.args.fd;
      limited = limit_at c.args.self.now.pcbs c.args.fd c.limit-limit.result c.limit-limit.ensures;
      full = ap (λ (n : ℕ). fits c.limit-limit.result (queues_of p (from_three c.args.self.now.queues) c.args.fd) n
          (memory_of (weight_at p c.args.datagram.chain))) (sym c.len-len.ensures)
          ∙ ap (fits c.limit-limit.result (queues_of p (from_three c.args.self.now.queues) c.args.fd)
          c.len-len.result) (sym c.memory_of-memory.ensures.value)
          ∙ sym (c.if-not-fits_at.ensures p c.requires.fit.socks.each);
      freed = c.free_chain.ensures;
      unfinished = λ s. g.met.R.Waiting.unfinished_same p c.free_chain.new.self w s;
      waiting = λ s. g.met.R.Reclaim.owned_same p c.free_chain.new.self w s;
      counters = c.count_ended.ensures;
    })

pub returns-then-not-fits_at-clause-waits : goal.returns-then-not-fits_at-clause-waits
returns-then-not-fits_at-clause-waits g c =
    g.met.R.Reclaim.ready_same c.args.pool.now c.free_chain.new.self c.args.waiting.now
    (freed c.requires.fit c.free_chain.ensures).same c.requires.waits

-- ---- the datagram fits, and the pool was tested
room : (g : _) (c : After-reserve g)
    → fits c.limit-limit.result (queues_of c.args.pool.now (from_three c.args.self.now.queues) c.args.fd)
    (length (string (chain_of c.args.pool.now c.args.datagram.chain)))
    (memory_of (weight_at c.args.pool.now c.args.datagram.chain)) ≡ true
room g c =
    ap (λ (n : ℕ). fits c.limit-limit.result
    (queues_of c.args.pool.now (from_three c.args.self.now.queues) c.args.fd) n
    (memory_of (weight_at c.args.pool.now c.args.datagram.chain))) (sym c.len-len.ensures)
    ∙ ap (fits c.limit-limit.result (queues_of c.args.pool.now (from_three c.args.self.now.queues) c.args.fd)
    c.len-len.result) (sym c.memory_of-memory.ensures.value)
    ∙ sym (c.if-not-fits_at.ensures c.args.pool.now c.requires.fit.socks.each)

after : (g : _) (c : After-reserve g)
    → Tested c.args.pool.now c.args.datagram.chain (g.R.Reclaim.owned c.args.pool.now c.args.waiting.now)
    (socks_of c.args.self.now) c.reserve.new.pool (g.R.Reclaim.owned c.reserve.new.pool c.reserve.new.waiting)
after g c = tested c.requires.fit c.reserve.ensures.moves

pub free_chain-requires-then-not-reserve : goal.free_chain-requires-then-not-reserve
free_chain-requires-then-not-reserve g c =
    live_first c.reserve.new.pool c.args.datagram.chain _
    (after g (goal.at.free_chain-requires-then-not-reserve g c).After-reserve).fit.owned

pub returns-then-not-reserve-clause-appended : goal.returns-then-not-reserve-clause-appended
returns-then-not-reserve-clause-appended g c =
    let r = c.free_chain-then-not-reserve.new.self in
    lacking_end c.args.datagram.sender
    (record { fit = c.requires.fit; moves = c.reserve.ensures.moves; reserves = c.if-not-reserve.ensures.reserves })
    (named_at c.args.self.now.pcbs c.args.fd)
    (limit_at c.args.self.now.pcbs c.args.fd c.limit-limit.result c.limit-limit.ensures)
    (room g (goal.at.returns-then-not-reserve-clause-appended g c).After-reserve) c.free_chain-then-not-reserve.ensures
    (λ s. g.met.R.Waiting.unfinished_same c.reserve.new.pool r c.reserve.new.waiting s)
    (λ s. g.met.R.Reclaim.owned_same c.reserve.new.pool r c.reserve.new.waiting s)
    c.count_ended-then-not-reserve.ensures

pub returns-then-not-reserve-clause-waits : goal.returns-then-not-reserve-clause-waits
returns-then-not-reserve-clause-waits g c =
    let x = after g (goal.at.returns-then-not-reserve-clause-waits g c).After-reserve in
    g.met.R.Reclaim.ready_same c.reserve.new.pool c.free_chain-then-not-reserve.new.self c.reserve.new.waiting
    (freed x.fit c.free_chain-then-not-reserve.ensures).same c.reserve.ensures.ready

pub append_at-requires : goal.append_at-requires
append_at-requires g c =
    let x = after g (goal.at.append_at-requires g c).After-reserve in
    let q = c.reserve.new.pool in
    let ys = g.R.Reclaim.owned q c.reserve.new.waiting in
    record {
      each = x.fit.socks.each;
      descriptor = descriptor_of c.args.self.now.pcbs c.args.fd c.requires.fit.socks.apart c.requires.opened;
      owned = λ k. omega (
        arith,
        x.fit.owned k,
        times-append k ys (queued_chains q (from_three c.args.self.now.queues)),
      );
      free = omega (arith, enough_mbufs q 1 0 (sym c.if-not-reserve.ensures.answer) (omega arith));
      len = c.len-len.ensures ∙ ap (λ (v : ChainView). length (string v)) (sym x.chain);
      memory = c.memory_of-memory.ensures.value
          ∙ ap (λ (v : ChainView). memory_of (entries_weight v.entries)) (sym x.chain);
      bound = c.memory_of-memory.ensures.bound;
      fits = ap (λ (ds : List Datagram). fits c.limit-limit.result ds c.len-len.result c.memory_of-memory.result)
          (x.shows c.args.fd)
          ∙ sym (c.if-not-fits_at.ensures c.args.pool.now c.requires.fit.socks.each);
    }

pub returns-clause-appended : goal.returns-clause-appended
returns-clause-appended g c =
    fitting_end c.args.datagram.sender
    (record { fit = c.requires.fit; moves = c.reserve.ensures.moves; reserves = c.if-not-reserve.ensures.reserves })
    (named_at c.args.self.now.pcbs c.args.fd)
    (limit_at c.args.self.now.pcbs c.args.fd c.limit-limit.result c.limit-limit.ensures) c.requires.opened
    (room g (goal.at.returns-clause-appended g c).After-reserve) c.append_at.ensures.steps c.append_at.ensures.here
    (λ s. g.met.R.Waiting.unfinished_same c.reserve.new.pool c.append_at.new.pool c.reserve.new.waiting s)
    (λ s. g.met.R.Reclaim.owned_same c.reserve.new.pool c.append_at.new.pool c.reserve.new.waiting s)

pub returns-clause-waits : goal.returns-clause-waits
returns-clause-waits g c =
    let x = after g (goal.at.returns-clause-waits g c).After-reserve in
    g.met.R.Reclaim.ready_same c.reserve.new.pool c.append_at.new.pool c.reserve.new.waiting
    (joined c.reserve.new.pool c.append_at.new.pool c.args.datagram.chain
    (g.R.Reclaim.owned c.reserve.new.pool c.reserve.new.waiting) (from_three c.args.self.now.queues)
    (from_three c.append_at.new.self) x.fit.owned c.append_at.ensures.steps.moves).same c.reserve.ensures.ready

use Rattle.std.proofs.Common.{◌-◌, ap, arith}
use Rattle.mbuf_chain.specs.Chain.{Front}
use Rattle.mbuf_chain.proofs.Laws.Owners.{moves_trans}
use Rattle.ip_reass.proofs.ArriveLemmas.{good_small}
use Rattle.ip_reass.proofs.ArriveBytes.{Fits, at_once, end_accounts, fits_is, inserted_len, stored}
use Rattle.ip_reass.proofs.table.Reass.arrive_bytes.Goals.{After-count}
use Rattle.ip_reass.proofs.table.Reass.arrive_bytes.Goals as goal

fits_here : (c : After-count) → Fits c.args.pool.now c.args.head c.args.packet.now
fits_here c = fits_is c.args.pool.now c.args.head c.args.packet.now c.requires.fits

pub insert_or_begin-requires : goal.insert_or_begin-requires
insert_or_begin-requires c =
    let s = stored c.args.self.now c.requires.ready c.store_carried-chain.ensures.2.adds in
    let fits = fits_here (goal.at.insert_or_begin-requires c).After-count in
    let len =
    inserted_len c.args.packet.now c.store_carried-chain.ensures.0 fits.many c.store_carried-chain.ensures.2 in
    record {
      ready = s.ready;
      owned = s.owned;
      headed = ap (λ (f : Front). f.header) c.store_carried-chain.ensures.2.front;
      some = omega (arith, len, fits.many);
      small =
          omega (arith, len, fits.total, good_small c.args.head (c.args.head.total - 20) fits.good);
    }

pub returns-clause-arrives : goal.returns-clause-arrives
returns-clause-arrives c =
    let fits = fits_here (goal.at.returns-clause-arrives c).After-count in
    at_once c.args.pool.now c.store_carried-chain.new.pool c.args.self.now c.args.counters.now c.count.new.self
    c.args.packet.now c.args.head c.store_carried-chain.ensures.0 c.store_carried-chain.result c.insert_or_begin.result
    c.insert_or_begin.new.pool c.insert_or_begin.new.self c.insert_or_begin.new.counters
    c.requires.ready fits c.store_carried-chain.ensures.2 c.count.ensures c.store_carried-chain.ensures.1
    c.insert_or_begin.ensures.step c.insert_or_begin.ensures.layout c.insert_or_begin.ensures.cause

pub returns-clause-accounts : goal.returns-clause-accounts
returns-clause-accounts c =
    let fits = fits_here (goal.at.returns-clause-accounts c).After-count in
    end_accounts c.args.pool.now c.store_carried-chain.new.pool c.args.self.now c.args.counters.now c.count.new.self
    c.args.packet.now c.args.head c.store_carried-chain.ensures.0 c.store_carried-chain.result c.insert_or_begin.result
    c.insert_or_begin.new.pool c.insert_or_begin.new.self c.insert_or_begin.new.counters
    c.requires.ready fits c.store_carried-chain.ensures.2 c.count.ensures c.insert_or_begin.ensures.ready
    c.insert_or_begin.ensures.moves

pub returns-clause-moves : goal.returns-clause-moves
returns-clause-moves c =
    moves_trans (stored c.args.self.now c.requires.ready c.store_carried-chain.ensures.2.adds).moves
    c.insert_or_begin.ensures.moves

use Rattle.std.proofs.Common.{ℕ, Some, ◌∙◌, sym, ap, arith}
use Rattle.std.specs.Prelude.{option_map}
use Rattle.std.proofs.lemmas.Option.{slice_get_past}
use Rattle.mbuf_chain.specs.Chain.{chain_of}
use Rattle.mbuf_chain.specs.Heads.{heads}
use Rattle.mbuf_chain.specs.Train.{numbers}
use Rattle.mbuf_chain.proofs.Trains.{live_queued}
use Rattle.mbuf_chain.proofs.train.Train.heads.Goals as goal

pub heads_of-requires : goal.heads_of-requires
heads_of-requires c = live_queued c.args.pool.now c.args.self.now c.args.i c.number.result c.requires c.number.ensures

pub returns-then-i-len : goal.returns-then-i-len
returns-then-i-len c =
    sym (ap (option_map (λ (n : ℕ). heads (chain_of c.args.pool.now n)))
    (slice_get_past (numbers c.args.pool.now c.args.self.now) c.args.i
    (omega (arith, c.requires.whole, c.len.ensures, c.if-i-len.true))))

pub returns : goal.returns
returns c =
    ap Some c.heads_of.ensures
    ∙ sym (ap (option_map (λ (n : ℕ). heads (chain_of c.args.pool.now n))) c.number.ensures)

use Rattle.mbuf_chain.proofs.Laws.Owners.{same_without, apart_first}
use Rattle.ip_reass.specs.Same.{ready_same}
use Rattle.protocols_tests.proofs.reassembly.has_bytes.Goals as goal

pub returns : goal.returns
returns g c =
    let p = c.args.pool.now in
    let q = c.free_chain.new.self in
    ready_same p q c.args.table.now
    (same_without p q c.args.chain _ (apart_first p c.args.chain _ c.requires.owned) c.free_chain.ensures)
    c.requires.ready

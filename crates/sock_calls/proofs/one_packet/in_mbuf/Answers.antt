use Rattle.std.proofs.Common.{ℕ, ◌+◌, true, ◌++◌, length, None, sym, ap, ◌∙◌, subst, arith}
use Rattle.std.specs.Prelude.{◌-◌, ◌*◌, ◌/◌}
use Rattle.mbuf_chain.specs.Chain.{Adds, Entry, HasTrailingSpace, chain_of, entry_of, with_chain}
use Rattle.mbuf_chain.specs.Steps.{one_mbuf, with_back, with_entry}
use Rattle.mbuf_chain.proofs.Laws.Owners.{live_adds}
use Rattle.mbuf_chain.proofs.Laws.Steps.{filled, new_entry}
use Rattle.chain_ops.proofs.Laws.Steps.{plain_unshared}
use Rattle.sock_calls.proofs.OnePacket.{entry, plain_string, stored_plain}
use Rattle.sock_calls.proofs.one_packet.in_mbuf.Goals as goal

pub first-at-requires : goal.first-at-requires
first-at-requires c = live_adds c.in-Ok.ensures.ok

pub put_back-requires-clause-unshared : goal.put_back-requires-clause-unshared
put_back-requires-clause-unshared c = plain_unshared c.new_plain_with.new.self
    (entry_of (chain_of c.new_plain_with.new.self c.in-Ok.chain) c.first-at.result.index)
    (ap (λ (e : Entry). e.cluster) (new_entry c.args.pool.now c.new_plain_with.new.self _ _ _ _ c.in-Ok.ensures.ok
    c.first-at.ensures.index))

pub put_back-requires-clause-fits : goal.put_back-requires-clause-fits
put_back-requires-clause-fits c =
    subst (λ (e : Entry). HasTrailingSpace e (length c.args.bytes.now))
    (sym (new_entry c.args.pool.now c.new_plain_with.new.self _ _ _ _ c.in-Ok.ensures.ok c.first-at.ensures.index))
    (omega (arith, c.requires.few))

made : (c : goal.After-put_back) → Adds c.args.pool.now c.put_back.new.self c.in-Ok.chain
    (one_mbuf true (entry (c.args.headers.now ++ c.args.bytes.now)
    (100 - (length c.args.bytes.now + 3) / 4 * 4) None) c.in-Ok.chain)
made c =
    let q = c.new_plain_with.new.self in
    let d : ℕ = c.in-Ok.chain in
    let i : ℕ = c.first-at.result.index in
    let is = new_entry c.args.pool.now q d i _ _ c.in-Ok.ensures.ok c.first-at.ensures.index in
    let put = c.put_back.ensures
    ∙ ap (λ (e : Entry). with_chain q d (with_entry (chain_of q d) i (with_back e c.args.bytes.now))) is in
    filled _ _ _ _ _ _ _ _ c.in-Ok.ensures.ok c.first-at.ensures.index put

pub returns-clause-stored : goal.returns-clause-stored
returns-clause-stored c = stored_plain c.args.headers.now c.args.bytes.now (omega arith) c.requires.few (made c)

pub returns-clause-string : goal.returns-clause-string
returns-clause-string c = plain_string c.args.headers.now c.args.bytes.now _ (made c)

use Rattle.std.proofs.Common.{sym, ap, arith}
use Rattle.std.proofs.lemmas.List.{length-take, take_rest}
use Rattle.mbuf_chain.specs.Chain.{ChainView, PoolView}
use Rattle.mbuf_chain.proofs.Laws.Accounts.{held-adds}
use Rattle.mbuf_chain.proofs.Laws.Owners.{live_adds, shown_adds}
use Rattle.chain_ops.proofs.Laws.Steps.{string_one}
use Rattle.sock_calls.proofs.TwoMbufs.{two_made}
use Rattle.sock_calls.proofs.taking.store_in_two.Goals as goal

pub slice_bounds-front-end : goal.slice_bounds-front-end
slice_bounds-front-end c = omega (arith, c.requires.many, length-take 72 c.args.bytes.now)

pub new_plain_before-requires-clause-high : goal.new_plain_before-requires-clause-high
new_plain_before-requires-clause-high c = omega (arith, length-take 72 c.args.bytes.now)

pub new_plain_before-requires-clause-free : goal.new_plain_before-requires-clause-free
new_plain_before-requires-clause-free c =
    omega (
      arith,
      c.requires.free,
      held-adds c.in-Ok.ensures.ok,
      ap (λ (p : PoolView). p.mbufs) c.in-Ok.ensures.ok.pool,
    )

pub new_plain_before-requires-clause-back : goal.new_plain_before-requires-clause-back
new_plain_before-requires-clause-back c = live_adds c.in-Ok.ensures.ok

pub new_plain_before-requires-clause-bare : goal.new_plain_before-requires-clause-bare
new_plain_before-requires-clause-bare c = ap (λ (v : ChainView). v.front) (shown_adds c.in-Ok.ensures.ok)

pub new_plain_before-requires-clause-len : goal.new_plain_before-requires-clause-len
new_plain_before-requires-clause-len c = sym (string_one _ _ _ _ _ c.in-Ok.ensures.ok)

pub returns-clause-entries : goal.returns-clause-entries
returns-clause-entries c =
    (two_made c.args.bytes.now _ c.in-Ok.ensures.ok c.new_plain_before.ensures (take_rest c.args.bytes.now 72)).0

pub returns-clause-moves : goal.returns-clause-moves
returns-clause-moves c =
    (two_made c.args.bytes.now _ c.in-Ok.ensures.ok c.new_plain_before.ensures (take_rest c.args.bytes.now 72)).1

use Rattle.std.proofs.Common.{sym, ap, ◌∙◌}
use Rattle.std.proofs.lemmas.Result.{err_from_is_err_and}
use Rattle.mbuf_chain.specs.Chain.{chain_of, string}
use Rattle.ledger.specs.Accounts.{weight_at}
use Rattle.ip_out.specs.declared.head.IpHead.{IpHead}
use Rattle.sock_calls.specs.Sockets.{with_net}
use Rattle.net_stack.specs.Inside.Arrivals.{is_ours_or_all}
use Rattle.net_stack.proofs.ArriveLemmas.{forwarded, refused}
use Rattle.net_stack.proofs.arrive.head_for_us.Goals as goal

pub returns-in_err-head-clause-err : goal.returns-in_err-head-clause-err
returns-in_err-head-clause-err c =
    let q = err_from_is_err_and c.from_residual.result c.from_residual.ensures.1 in
    let p = c.args.pool.now in
    rw (q.1, q.2) (λ us a rest held origin. refused (string (chain_of p c.args.chain.now)) origin held
    (weight_at p c.args.chain.now) (with_net p c.args.socks.now us a rest) c.in_err-head.field-0.0
    c.in_err-head.ensures.err)

pub returns-then-is_for_us-clause-ok : goal.returns-then-is_for_us-clause-ok
returns-then-is_for_us-clause-ok c = record {
  faultless = c.in_ok-head.ensures.ok.0;
  says = c.in_ok-head.ensures.ok.1;
  ours = sym c.is_for_us.ensures ∙ c.if-is_for_us.true;
}

pub returns-else-is_for_us-clause-err : goal.returns-else-is_for_us-clause-err
returns-else-is_for_us-clause-err c = λ us a rest held origin.
    let p = c.args.pool.now in
    let s = c.args.socks.now in
    forwarded (string (chain_of p c.args.chain.now)) origin held (weight_at p c.args.chain.now) (with_net p s us a rest)
    c.in_ok-head.ensures.ok.0
    (ap (λ (x : IpHead). is_ours_or_all s.pcbs.addr s.pcbs.bcast x.dst) (sym c.in_ok-head.ensures.ok.1)
    ∙ sym c.is_for_us.ensures ∙ c.if-is_for_us.false)

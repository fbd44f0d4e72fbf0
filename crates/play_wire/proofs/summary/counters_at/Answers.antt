use Rattle.std.proofs.Common.{◌∙◌, ap, sym, Some}
use Rattle.std.specs.Prelude.{option_map}
use Rattle.net_stack.specs.Stack.{StackView, state_of}
use Rattle.segment.specs.Inside.{view}
use Rattle.play_wire.proofs.ActLemmas.{put_back, set_same}
use Rattle.play_wire.proofs.HostLemmas.{counted_is}
use Rattle.play_wire.proofs.summary.counters_at.Goals as goal

pub returns-then-exchange-clause-same : goal.returns-then-exchange-clause-same
returns-then-exchange-clause-same c =
    let v = view c.args.segment.now in
    let s = c.exchange.new.stack in
    let put =
    put_back c.args.place v (view c.exchange.new.segment) (view c.exchange-then-exchange.new.segment) c.args.spare.now s
    s c.exchange-then-exchange.new.stack c.exchange-then-exchange.result (c.exchange.ensures.yes c.if-exchange.true)
    c.exchange-then-exchange.ensures in
    put.1 ∙ ap (λ xs. record v { stacks = xs }) (set_same v.stacks c.args.place s put.0)

pub returns-then-exchange-clause-is : goal.returns-then-exchange-clause-is
returns-then-exchange-clause-is c =
    let here = (c.exchange.ensures.yes c.if-exchange.true).0 in
    ap Some (counted_is _ _ c.counters-counters.ensures.0)
    ∙ sym (ap (option_map (λ (s : StackView). (state_of s).counters)) here)

pub returns-else-exchange-clause-same : goal.returns-else-exchange-clause-same
returns-else-exchange-clause-same c = (c.exchange.ensures.no c.if-exchange.false).1

pub returns-else-exchange-clause-is : goal.returns-else-exchange-clause-is
returns-else-exchange-clause-is c =
    sym (ap (option_map (λ (s : StackView). (state_of s).counters)) (c.exchange.ensures.no c.if-exchange.false).0)

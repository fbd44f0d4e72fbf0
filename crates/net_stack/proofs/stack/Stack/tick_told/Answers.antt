use Rattle.std.proofs.Common.{◌≡◌, List, length, take, ap, ◌∙◌}
use Rattle.flat_model.specs.Machine.State.{Unfinished}
use Rattle.ip_reass.specs.Expiring.{expired_among}
use Rattle.ip_reass.specs.Table.{unfinished}
use Rattle.net_stack.specs.declared.host.Host.{Host}
use Rattle.net_stack.specs.Stack.{StackView, state_of}
use Rattle.net_stack.proofs.CallLemmas.{lent_inside, lent_shows}
use Rattle.net_stack.proofs.stack.Stack.tick_told.Goals as goal
use Rattle.net_stack.proofs.stack.Stack.tick_told.Goals.{After-expiring-count}

pub expiring-count-requires : goal.expiring-count-requires
expiring-count-requires c =
    (lent_inside c.self.inside c.as_ref-host.result.now c.as_ref-host.ensures c.self.invariant).stack.reass.table

waiting : (c : After-expiring-count)
    → unfinished c.as_ref-host.result.now.pool c.as_ref-host.result.now.reass.datagrams
    ≡ (state_of c.args.self.now).unfinished
waiting c =
    let h : Host = c.as_ref-host.result.now in
    ap (λ (v : StackView). (state_of v).unfinished)
    (lent_shows c.self.inside h c.args.self.now c.as_ref-host.ensures c.self.view_is)

pub returns-clause-number : goal.returns-clause-number
returns-clause-number c =
    c.expiring-count.ensures.number
    ∙ ap (λ (us : List Unfinished). length (expired_among us))
    (waiting (goal.at.returns-clause-number c).After-expiring-count)

pub returns-clause-told : goal.returns-clause-told
returns-clause-told c =
    c.expiring-count.ensures.listed
    ∙ ap (λ (us : List Unfinished). take (length c.expiring-count.new.list) (expired_among us))
    (waiting (goal.at.returns-clause-told c).After-expiring-count)

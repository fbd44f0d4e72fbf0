use Rattle.std.proofs.Common.{◌≤◌, ◌∷◌, ℕ, List, All, sym, subst}
use Rattle.std.specs.Prelude.{Result}
use Rattle.flat_model.specs.Amounts.Weight.{times}
use Rattle.flat_model.specs.declared.counters.Why.{Why}
use Rattle.flat_model.specs.declared.fate.Reached.{Reached}
use Rattle.pcb_table.specs.Table.{Table, IsOpen}
use Rattle.sock_calls.specs.Sockets.{SocksFit, SocksView}
use Rattle.sock_calls.specs.Delivery.{NetView, net_view, IsInput}
use Rattle.sock_calls.specs.Inside.Parts.{socks_of}
use Rattle.sock_calls.proofs.Delivered.{fit_as, freed}
use Rattle.sock_calls.proofs.Arriving.{Moved, all_open, moved, delivered_to, dropped_to}
use Rattle.sock_calls.proofs.sockets.Socks.input.Goals as goal
use Rattle.sock_calls.proofs.sockets.Socks.input.Goals.{After-input, In-Deliver}

-- ---- the sockets before, in the form of their parts
fit : (g : _) (c : After-input g) → SocksFit c.args.pool.now (socks_of c.self.inside.parts)
    (c.args.chain ∷ g.R.Reclaim.owned c.args.pool.now c.args.waiting.now)
fit g c =
    subst (λ (v : SocksView). SocksFit c.args.pool.now v
    (c.args.chain ∷ g.R.Reclaim.owned c.args.pool.now c.args.waiting.now)) (sym c.self.view_is) c.requires.fit

-- what they have received is what the sockets that a caller sees have received
received : (g : _) (c : After-input g) (whole : Result Reached Why) (after : NetView)
    → IsInput (net_view c.args.pool.now (socks_of c.self.inside.parts)
    (g.R.Waiting.unfinished c.args.pool.now c.args.waiting.now)
    (g.R.Reclaim.owned c.args.pool.now c.args.waiting.now) c.args.counters.now)
    c.args.chain c.args.head.src c.args.head.dst c.args.head.proto whole after
    → IsInput (net_view c.args.pool.now c.args.self.now (g.R.Waiting.unfinished c.args.pool.now c.args.waiting.now)
    (g.R.Reclaim.owned c.args.pool.now c.args.waiting.now) c.args.counters.now)
    c.args.chain c.args.head.src c.args.head.dst c.args.head.proto whole after
received g c whole after is =
    subst (λ (v : SocksView). IsInput (net_view c.args.pool.now v
    (g.R.Waiting.unfinished c.args.pool.now c.args.waiting.now)
    (g.R.Reclaim.owned c.args.pool.now c.args.waiting.now) c.args.counters.now)
    c.args.chain c.args.head.src c.args.head.dst c.args.head.proto whole after) c.self.view_is is

-- ---- it's delivered: the datagram's chain, and what the sockets keep beside it
there : (g : _) (c : In-Deliver g)
    → SocksFit c.args.pool.now (socks_of c.self.inside.parts)
    (c.args.chain ∷ g.R.Reclaim.owned c.args.pool.now c.args.waiting.now)
    → Moved c.args.pool.now c.args.chain (g.R.Reclaim.owned c.args.pool.now c.args.waiting.now)
    (socks_of c.self.inside.parts) c.input.new.pool c.in-Deliver.chain
there g c fits = moved fits c.in-Deliver.ensures.moves

pub deliver_all-requires-clause-fit : goal.deliver_all-requires-clause-fit
deliver_all-requires-clause-fit g c =
    let at = goal.at.deliver_all-requires-clause-fit g c in
    let x = there g at.In-Deliver (fit g at.After-input) in
    fit_as x.fit c.input.ensures.blocks
    (g.met.R.Reclaim.owned_same c.args.pool.now c.input.new.pool c.args.waiting.now x.same)

pub deliver_all-requires-clause-opened : goal.deliver_all-requires-clause-opened
deliver_all-requires-clause-opened g c =
    subst (λ (l : List ℕ). All (λ (fd : ℕ). IsOpen fd c.input.new.pcbs) l) (sym c.as_slice-matching.ensures.value)
    (subst (λ (t : Table). All (λ (fd : ℕ). IsOpen fd t) c.input.new.matching.items) (sym c.input.ensures.blocks)
    (all_open c.self.inside.parts.pcbs _ _ c.input.new.matching.items c.in-Deliver.ensures.answer.matched))

pub deliver_all-requires-clause-distinct : goal.deliver_all-requires-clause-distinct
deliver_all-requires-clause-distinct g c =
    λ fd. subst (λ (l : List ℕ). times fd l ≤ 1) (sym c.as_slice-matching.ensures.value)
    (c.in-Deliver.ensures.answer.matched.once fd)

pub deliver_all-requires-clause-waits : goal.deliver_all-requires-clause-waits
deliver_all-requires-clause-waits g c =
    let at = goal.at.deliver_all-requires-clause-waits g c in
    g.met.R.Reclaim.ready_same c.args.pool.now c.input.new.pool c.args.waiting.now
    (there g at.In-Deliver (fit g at.After-input)).same c.requires.waits

pub returns-in-Deliver-clause-input : goal.returns-in-Deliver-clause-input
returns-in-Deliver-clause-input g c =
    let at = goal.at.returns-in-Deliver-clause-input g c in
    let p = c.args.pool.now in
    let q = c.input.new.pool in
    let w = c.args.waiting.now in
    let same = (there g at.In-Deliver (fit g at.After-input)).same in
    received g at.After-input _ _
    (delivered_to {h = c.args.head} (fit g at.After-input) c.in-Deliver.ensures.answer c.in-Deliver.ensures.moves
    (g.met.R.Waiting.unfinished_same p q w same) (g.met.R.Reclaim.owned_same p q w same)
    c.input.ensures.blocks c.as_slice-matching.ensures.value c.deliver_all.ensures.delivered)

-- ---- it's dropped
pub returns-in-Drop-clause-input : goal.returns-in-Drop-clause-input
returns-in-Drop-clause-input g c =
    let at = (goal.at.returns-in-Drop-clause-input g c).After-input in
    received g at _ _
    (dropped_to {h = c.args.head} c.in-Drop.why (fit g at) c.in-Drop.ensures.answer.1
    (λ s. g.met.R.Waiting.unfinished_same c.args.pool.now c.input.new.pool c.args.waiting.now s)
    (λ s. g.met.R.Reclaim.owned_same c.args.pool.now c.input.new.pool c.args.waiting.now s) c.input.ensures.blocks
    c.count_ended.ensures)

pub returns-in-Drop-clause-waits : goal.returns-in-Drop-clause-waits
returns-in-Drop-clause-waits g c =
    g.met.R.Reclaim.ready_same c.args.pool.now c.input.new.pool c.args.waiting.now
    (freed (fit g (goal.at.returns-in-Drop-clause-waits g c).After-input) c.in-Drop.ensures.answer.1.freed).same
    c.requires.waits

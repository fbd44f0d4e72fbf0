use Rattle.std.proofs.Common.{◌≡◌, ◌≤◌, ℕ, List, All, Some, refl, length, option_map, slice_index_or, sym, ap, subst, ◌∙◌, arith, rules}
use Rattle.std.proofs.lemmas.Grind.{common_steps}
use Rattle.flat_model.specs.Amounts.Weight.{times}
use Rattle.flat_model.specs.Machine.Fate.{mark}
use Rattle.flat_model.specs.Sockets.Fits.{fits}
use Rattle.flat_model.specs.declared.counters.Why.TheVariants.{UdpFullSocket}
use Rattle.flat_model.specs.declared.fate.Reached.{Reached}
use Rattle.pcb_table.specs.declared.block.Block.{Block}
use Rattle.pcb_table.specs.Table.{Table, IsOpen, block_at}
use Rattle.udp.specs.Checked.{unmatched}
use Rattle.sock_calls.specs.Sockets.{from_three, queues_of}
use Rattle.sock_calls.specs.Inside.Parts.{socks_of}
use Rattle.sock_calls.proofs.Arriving.{all_open}
use Rattle.sock_calls.proofs.Delivered.{fit_as, limit_at}
use Rattle.sock_calls.proofs.Storing.{IsBeside, beside_data, delivers_to, full_ends, lone_descriptor, lone_is, lone_open, unmatched_ends}
use Rattle.sock_calls.proofs.parts.Parts.deliver_packet.Goals as goal
use Rattle.sock_calls.proofs.parts.Parts.deliver_packet.Goals.{After-store_data-chain}

-- ---- no socket matches, or the queue of the only one is full
pub returns-then-is_empty-clause-delivered : goal.returns-then-is_empty-clause-delivered
returns-then-is_empty-clause-delivered g c =
    unmatched_ends c.no_port-why.result c.requires.fit.socks c.args.packet.now.is_checked
    c.matching_sockets.ensures.found (first_of (search rules, grind (arith, common_steps))) c.requires.wire.free
    (c.no_port-why.ensures ∙ ap (λ (t : Table). unmatched t c.args.packet.now.to.ip) c.matching_sockets.ensures.blocks)
    c.matching_sockets.ensures.blocks c.count_ended.ensures

pub is_full-requires-clause-opened : goal.is_full-requires-clause-opened
is_full-requires-clause-opened g c =
    subst (λ (t : Table). IsOpen (slice_index_or c.as_slice.result.now 0 0) t) (sym c.matching_sockets.ensures.blocks)
    (lone_open c.matching_sockets.ensures.found
    (sym c.as_slice.ensures.value ∙ lone_is c.as_slice.result.now c.in-len1.len_at_least c.in-len1.len_below))

pub is_full-requires-clause-descriptor : goal.is_full-requires-clause-descriptor
is_full-requires-clause-descriptor g c =
    lone_descriptor c.requires.fit.socks c.matching_sockets.ensures.found
    (sym c.as_slice.ensures.value ∙ lone_is c.as_slice.result.now c.in-len1.len_at_least c.in-len1.len_below)

pub mark-requires : goal.mark-requires
mark-requires g c =
    lone_descriptor c.requires.fit.socks c.matching_sockets.ensures.found
    (sym c.as_slice.ensures.value ∙ lone_is c.as_slice.result.now c.in-len1.len_at_least c.in-len1.len_below)

pub returns-then-is_full-clause-delivered : goal.returns-then-is_full-clause-delivered
returns-then-is_full-clause-delivered g c =
    let queue = queues_of c.args.pool.now (from_three c.args.self.now.queues) in
    let full = c.if-is_full.ensures c.args.pool.now c.requires.fit.socks.each refl in
    full_ends (c.mark.ensures
    ∙ ap (λ (r : Reached). mark (Some UdpFullSocket) (slice_index_or c.as_slice.result.now 0 0) r) c.nobody.ensures)
    c.requires.fit.socks c.args.packet.now.is_checked c.matching_sockets.ensures.found
    (sym c.as_slice.ensures.value ∙ lone_is c.as_slice.result.now c.in-len1.len_at_least c.in-len1.len_below)
    (limit_at c.args.self.now.pcbs (slice_index_or c.as_slice.result.now 0 0) 0
    (subst (λ (t : Table). option_map (λ (b : Block). b.receive_limit)
    (block_at (slice_index_or c.as_slice.result.now 0 0) t) ≡ Some 0)
    c.matching_sockets.ensures.blocks full.limit))
    c.requires.wire.free
    (ap (λ (l : List ℕ). fits 0 (queue (slice_index_or c.as_slice.result.now 0 0)) (length l) 0)
    (sym c.data.ensures.value) ∙ full.over)
    c.matching_sockets.ensures.blocks c.count_ended-then-is_full.ensures

-- ---- the data are in a chain of their own
beside : (g : _) (c : After-store_data-chain g)
    → IsBeside c.args.pool.now (g.R.Reclaim.owned c.args.pool.now c.args.waiting.now) (socks_of c.args.self.now)
    c.store_data-chain.new.pool c.store_data-chain.result
beside g c = beside_data c.requires.fit c.store_data-chain.ensures.moves

pub deliver_all-requires-clause-fit : goal.deliver_all-requires-clause-fit
deliver_all-requires-clause-fit g c =
    let x = beside g (goal.at.deliver_all-requires-clause-fit g c).After-store_data-chain in
    fit_as x.fit c.matching_sockets.ensures.blocks
    (g.met.R.Reclaim.owned_same c.args.pool.now c.store_data-chain.new.pool c.args.waiting.now x.same)

pub deliver_all-requires-clause-opened : goal.deliver_all-requires-clause-opened
deliver_all-requires-clause-opened g c =
    subst (λ (l : List ℕ). All (λ (fd : ℕ). IsOpen fd c.matching_sockets.new.pcbs) l) (sym c.as_slice-fds.ensures.value)
    (subst (λ (t : Table). All (λ (fd : ℕ). IsOpen fd t) c.matching_sockets.new.matching.items)
    (sym c.matching_sockets.ensures.blocks)
    (all_open c.args.self.now.pcbs _ _ c.matching_sockets.new.matching.items c.matching_sockets.ensures.found))

pub deliver_all-requires-clause-distinct : goal.deliver_all-requires-clause-distinct
deliver_all-requires-clause-distinct g c =
    λ fd. subst (λ (l : List ℕ). times fd l ≤ 1) (sym c.as_slice-fds.ensures.value)
    (c.matching_sockets.ensures.found.once fd)

pub deliver_all-requires-clause-waits : goal.deliver_all-requires-clause-waits
deliver_all-requires-clause-waits g c =
    g.met.R.Reclaim.ready_same c.args.pool.now c.store_data-chain.new.pool c.args.waiting.now
    (beside g (goal.at.deliver_all-requires-clause-waits g c).After-store_data-chain).same c.requires.waits

pub returns-clause-delivered : goal.returns-clause-delivered
returns-clause-delivered g c =
    let p = c.args.pool.now in
    let q = c.store_data-chain.new.pool in
    let w = c.args.waiting.now in
    let same = (beside g (goal.at.returns-clause-delivered g c).After-store_data-chain).same in
    delivers_to c.requires.fit c.args.packet.now.is_checked c.matching_sockets.ensures.found
    (first_of (search rules, grind (arith, common_steps))) c.store_data-chain.ensures
    (g.met.R.Waiting.unfinished_same p q w same) (g.met.R.Reclaim.owned_same p q w same)
    c.matching_sockets.ensures.blocks c.as_slice-fds.ensures.value c.deliver_all.ensures.delivered

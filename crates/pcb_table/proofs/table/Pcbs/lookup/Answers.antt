use Rattle.std.proofs.Common.{◌≡◌, ℕ, Some, None, ap, sym, subst, ◌∙◌}
use Rattle.pcb_table.specs.declared.block.Block.{Block}
use Rattle.std.specs.Prelude.{option_copied}
use Rattle.pcb_table.specs.Table.{Table, IsDescriptor, packet_key}
use Rattle.pcb_table.specs.Inside.Search.{best_block}
use Rattle.pcb_table.specs.Inside.Fields.{IsCached}
use Rattle.flat_model.specs.Sockets.Lookup as flat
use Rattle.pcb_table.specs.Found.{Finds}
use Rattle.pcb_table.proofs.Steps.{table_of}
use Rattle.pcb_table.proofs.Finding.{best_none, best_some, cached_best}
use Rattle.pcb_table.proofs.Keeping.{cached_by_best}
use Rattle.pcb_table.proofs.Places.{best_range}
use Rattle.pcb_table.proofs.table.Pcbs.lookup.Goals as goal
use Rattle.pcb_table.proofs.table.Pcbs.lookup.Goals.{Then-has_ends, In-Some-best}

-- ---- the connection of the last lookup has these ends
cached : (c : Then-has_ends) → (b : Block) × (b.fd ≡ c.in-Some.cached.fd)
    × (best_block (packet_key c.args.destination c.args.port c.args.source) c.self.inside.blocks ≡ Some b)
cached c =
    cached_best c.self.inside.blocks c.self.inside.cache c.in-Some.cached c.args.destination c.args.port c.args.source
    c.self.invariant.0 c.self.invariant.1 c.in-Some.is (sym c.has_ends.ensures ∙ c.if-has_ends.true)

pub returns-then-has_ends-clause-found : goal.returns-then-has_ends-clause-found
returns-then-has_ends-clause-found c =
    let q = packet_key c.args.destination c.args.port c.args.source in
    let found = cached (goal.at.returns-then-has_ends-clause-found c).Then-has_ends in
    subst (λ (t : Table). Finds (flat.best q) t (Some c.in-Some.cached.fd)) c.self.view_is
    (subst (λ (fd : ℕ). Finds (flat.best q)
    (table_of c.self.inside.interface c.self.inside.blocks c.self.inside.last_port) (Some fd)) found.1
    (best_some c.self.inside.interface c.self.inside.blocks c.self.inside.last_port q found.0 c.self.invariant.0
    found.2))

pub returns-then-has_ends-clause-range : goal.returns-then-has_ends-clause-range
returns-then-has_ends-clause-range c =
    let found = cached (goal.at.returns-then-has_ends-clause-range c).Then-has_ends in
    subst IsDescriptor found.1 (best_range _ c.self.inside.blocks found.0 c.self.invariant.0 found.2)

-- ---- the block that was found
best_is : (c : In-Some-best) → best_block (packet_key c.args.destination c.args.port c.args.source) c.self.inside.blocks
    ≡ Some c.in-Some-best.block.now
best_is c = sym c.best.ensures ∙ ap option_copied c.in-Some-best.is

finds : (c : In-Some-best) → Finds (flat.best (packet_key c.args.destination c.args.port c.args.source)) c.args.self.now
    (Some c.in-Some-best.block.now.fd)
finds c =
    let q = packet_key c.args.destination c.args.port c.args.source in
    subst (λ (t : Table). Finds (flat.best q) t (Some c.in-Some-best.block.now.fd)) c.self.view_is
    (best_some c.self.inside.interface c.self.inside.blocks c.self.inside.last_port q c.in-Some-best.block.now
    c.self.invariant.0 (best_is c))

range : (c : In-Some-best) → IsDescriptor c.in-Some-best.block.now.fd
range c = best_range _ c.self.inside.blocks c.in-Some-best.block.now c.self.invariant.0 (best_is c)

pub invariant_of-self : goal.invariant_of-self
invariant_of-self c =
    let items = c.self.inside.blocks in (
      c.self.invariant.0,
      subst (IsCached items) (sym c.connection.ensures ∙ c.in-Some-connection.is)
          (cached_by_best _ items c.in-Some-best.block.now (best_is (goal.at.invariant_of-self c).In-Some-best)),
      c.self.invariant.2,
    )

pub returns-in-None-clause-found : goal.returns-in-None-clause-found
returns-in-None-clause-found c =
    let q = packet_key c.args.destination c.args.port c.args.source in
    subst (λ (t : Table). Finds (flat.best q) t None) c.self.view_is
    (best_none c.self.inside.interface c.self.inside.blocks c.self.inside.last_port q
    (sym c.best.ensures ∙ ap option_copied c.in-None.is))

pub returns-then-not-indexes_sockets-clause-found : goal.returns-then-not-indexes_sockets-clause-found
returns-then-not-indexes_sockets-clause-found c =
    finds (goal.at.returns-then-not-indexes_sockets-clause-found c).In-Some-best

pub returns-then-not-indexes_sockets-clause-range : goal.returns-then-not-indexes_sockets-clause-range
returns-then-not-indexes_sockets-clause-range c =
    range (goal.at.returns-then-not-indexes_sockets-clause-range c).In-Some-best

pub returns-in_default-connection-clause-found : goal.returns-in_default-connection-clause-found
returns-in_default-connection-clause-found c = finds (goal.at.returns-in_default-connection-clause-found c).In-Some-best

pub returns-in_default-connection-clause-range : goal.returns-in_default-connection-clause-range
returns-in_default-connection-clause-range c = range (goal.at.returns-in_default-connection-clause-range c).In-Some-best

pub returns-in-Some-connection-clause-found : goal.returns-in-Some-connection-clause-found
returns-in-Some-connection-clause-found c = finds (goal.at.returns-in-Some-connection-clause-found c).In-Some-best

pub returns-in-Some-connection-clause-range : goal.returns-in-Some-connection-clause-range
returns-in-Some-connection-clause-range c = range (goal.at.returns-in-Some-connection-clause-range c).In-Some-best

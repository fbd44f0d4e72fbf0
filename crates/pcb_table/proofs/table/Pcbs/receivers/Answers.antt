use Rattle.std.proofs.Common.{◌≡◌, ℕ, List, All, map, sym, subst, ◌∙◌}
use Rattle.pcb_table.specs.Table.{Table, IsDescriptor, packet_key}
use Rattle.pcb_table.specs.Inside.Search.{receiving_blocks}
use Rattle.flat_model.specs.Sockets.Lookup as flat
use Rattle.pcb_table.specs.Found.{FindsAll}
use Rattle.pcb_table.proofs.Steps.{table_of}
use Rattle.pcb_table.proofs.Finding.{receivers_all, receivers_range}
use Rattle.pcb_table.proofs.table.Pcbs.receivers.Goals as goal

pub returns-clause-found : goal.returns-clause-found
returns-clause-found c =
    let q = packet_key c.args.destination c.args.port c.args.source in
    let named : c.receivers.new.fds.items ≡ map (λ b. b.fd) (receiving_blocks q c.self.inside.blocks) =
    c.receivers.ensures ∙ (λ k. map (λ b. b.fd) (receiving_blocks q (c.as_slice.ensures.value k))) in
    subst (λ (t : Table). FindsAll (flat.receivers q) t c.receivers.new.fds.items) c.self.view_is
    (subst (λ (fds : List ℕ). FindsAll (flat.receivers q)
    (table_of c.self.inside.interface c.self.inside.blocks c.self.inside.last_port) fds) (sym named)
    (receivers_all c.self.inside.interface c.self.inside.blocks c.self.inside.last_port q c.self.invariant.0))

pub returns-clause-range : goal.returns-clause-range
returns-clause-range c =
    let q = packet_key c.args.destination c.args.port c.args.source in
    let named : c.receivers.new.fds.items ≡ map (λ b. b.fd) (receiving_blocks q c.self.inside.blocks) =
    c.receivers.ensures ∙ (λ k. map (λ b. b.fd) (receiving_blocks q (c.as_slice.ensures.value k))) in
    subst (λ (fds : List ℕ). All IsDescriptor fds) (sym named)
    (receivers_range q c.self.inside.blocks c.self.invariant.0)

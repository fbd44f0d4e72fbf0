use Rattle.std.proofs.Common.{◌++◌, [], ◌∷◌, ap, sym, ◌∙◌}
use Rattle.pcb_table.specs.Table.{packet_key}
use Rattle.udp.proofs.Matching.{none_matches, one_matches}
use Rattle.udp.proofs.arrival.find_matching.Goals as goal

pub returns-in-Some-clause-found : goal.returns-in-Some-clause-found
returns-in-Some-clause-found c =
    one_matches c.args.pcbs.now c.args.destination (packet_key c.args.destination c.args.port c.args.source)
    (sym c.is_broadcast.ensures ∙ c.if-is_broadcast.false)
    c.in-Some.fd _ c.in-Some.ensures.found (c.push.ensures.items ∙ ap (λ fds. fds ++ c.in-Some.fd ∷ []) c.requires)

pub returns-in_default-clause-found : goal.returns-in_default-clause-found
returns-in_default-clause-found c =
    none_matches c.args.pcbs.now c.args.destination (packet_key c.args.destination c.args.port c.args.source)
    (sym c.is_broadcast.ensures ∙ c.if-is_broadcast.false)
    _ c.in_default.ensures.found c.requires

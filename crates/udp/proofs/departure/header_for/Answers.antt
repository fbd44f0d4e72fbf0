use Rattle.std.proofs.Common.{◌≡◌, ℕ, ◌+◌, ◌++◌, List, length, ap, sym, ◌∙◌, arith}
use Rattle.std.proofs.lemmas.Grind.{common_steps}
use Rattle.flat_model.specs.Packets.Checksum.{checksum}
use Rattle.flat_model.specs.Packets.Header.{not_zero, pseudo_header}
use Rattle.udp.specs.Inside.{header_bytes}
use Rattle.udp.proofs.Building.{udp_parts, written}
use Rattle.udp.proofs.departure.header_for.Goals as goal
use Rattle.udp.proofs.departure.header_for.Goals.{then-computed-eq0, else-computed-eq0}

pub returns : goal.returns
returns c =
    let s : List ℕ = c.args.bytes.now in
    let len : ℕ = length s + 8 in
    let front : List ℕ =
    pseudo_header c.args.from.ip c.args.to.ip len
    ++ header_bytes (record { source = c.args.from.port; destination = c.args.to.port; len = len; sum = 0 }) in
    let computed : c.finish-computed.result ≡ checksum (front ++ s) =
    c.finish-computed.ensures (front ++ s) (c.add.ensures front c.headers_sum-covered.ensures) in
    let sum_is : c.if-computed-eq0.stated ≡ not_zero c.finish-computed.result = elim c.if-computed-eq0.branch [
      | then-computed-eq0 w ↦ grind (arith, common_steps)
      | else-computed-eq0 w ↦ grind (arith, common_steps)
    ] in
    ap (λ (h : List ℕ). h ++ s) (c.to_bytes.ensures
    ∙ written c.args.from.ip c.args.to.ip c.args.from.port c.args.to.port s len c.if-computed-eq0.stated
    c.finish-computed.result (omega arith) sum_is computed)
    ∙ sym (udp_parts c.args.from.ip c.args.to.ip c.args.from.port c.args.to.port s)

use Rattle.std.proofs.Common.{◌≡◌, ℕ, ◌-◌, ◌≤◌, ◌++◌, List, length, take, drop, ap, ◌∙◌, arith}
use Rattle.std.proofs.lemmas.Grind.{common_steps}
use Rattle.std.proofs.lemmas.List.{take_all, length-drop}
use Rattle.flat_model.specs.Packets.Checksum.{checksum}
use Rattle.flat_model.specs.Packets.Header.{not_zero, pseudo_header, udp}
use Rattle.mbuf_chain.specs.Chain.{ChainView, chain_of, entry_of, string, with_chain}
use Rattle.mbuf_chain.specs.Steps.{overwritten, with_entry}
use Rattle.mbuf_chain.proofs.Laws.Owners.{shown_with}
use Rattle.udp.specs.Datagrams.{with_udp_header}
use Rattle.udp.specs.Inside.{header_bytes}
use Rattle.udp.proofs.Building.{built_string, long_string, written}
use Rattle.udp.proofs.departure.build.Goals as goal
use Rattle.udp.proofs.departure.build.Goals.{then-computed-eq0, else-computed-eq0}

chain_is : goal.returns-clause-chain
chain_is c =
    let v : ChainView = chain_of c.args.pool.now c.args.chain.now in
    let s : List ℕ = drop 28 (string v) in
    let len : ℕ = c.len.result - 20 in
    let at = c.first-first.ensures.index in
    let long : 28 ≤ length (string v) = long_string v 28 c.requires.headers in
    let most : take (len - 8) s ≡ s = take_all (len - 8) s (omega (arith, length-drop 28 (string v))) in
    let computed : c.cksum_chain-computed.result
    ≡ checksum (pseudo_header c.args.from.ip c.args.to.ip len
    ++ header_bytes (record { source = c.args.from.port; destination = c.args.to.port; len = len; sum = 0 }) ++ s) =
    c.cksum_chain-computed.ensures
    (pseudo_header c.args.from.ip c.args.to.ip len
    ++ header_bytes (record {
      source = c.args.from.port;
      destination = c.args.to.port;
      len = len;
      sum = 0;
    })) c.headers_sum-covered.ensures
    ∙ (λ j. checksum (pseudo_header c.args.from.ip c.args.to.ip len
    ++ header_bytes (record { source = c.args.from.port; destination = c.args.to.port; len = len; sum = 0 })
    ++ most j)) in
    let sum_is : c.if-computed-eq0.sum ≡ not_zero c.cksum_chain-computed.result = elim c.if-computed-eq0.branch [
      | then-computed-eq0 w ↦ grind (arith, common_steps)
      | else-computed-eq0 w ↦ grind (arith, common_steps)
    ] in
    let bytes : c.to_bytes.result ≡ take 8 (udp c.args.from.ip c.args.to.ip c.args.from.port c.args.to.port s) =
    c.to_bytes.ensures ∙ written c.args.from.ip c.args.to.ip c.args.from.port c.args.to.port s len c.if-computed-eq0.sum
    c.cksum_chain-computed.result (omega (arith, length-drop 28 (string v))) sum_is computed in
    c.overwrite.ensures ∙ (λ j. with_chain c.args.pool.now c.args.chain.now
    (with_entry v (at j) (overwritten (entry_of v (at j)) 20 (bytes j))))

pub returns-clause-chain : goal.returns-clause-chain
returns-clause-chain c = chain_is c

pub returns-clause-string : goal.returns-clause-string
returns-clause-string c =
    let v : ChainView = chain_of c.args.pool.now c.args.chain.now in
    ap string (shown_with c.args.pool.now c.overwrite.new.self c.args.chain.now
    (with_udp_header c.args.from.ip c.args.to.ip c.args.from.port c.args.to.port v) (chain_is c))
    ∙ built_string c.args.from.ip c.args.to.ip c.args.from.port c.args.to.port v c.requires.headers

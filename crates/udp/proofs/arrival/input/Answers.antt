use Rattle.std.proofs.Common.{◌≡◌, List, [], ◌∷◌, refl, ap, sym, subst, ◌∙◌, arith, rules}
use Rattle.std.proofs.lemmas.Grind.{common_steps}
use Rattle.mbuf_chain.specs.Chain.{chain_of, string, with_chain}
use Rattle.mbuf_chain.specs.Owners.{Moves}
use Rattle.mbuf_chain.proofs.Laws.Owners.{moves_with, moves_without, shown_with}
use Rattle.pcb_table.specs.Table.{packet_key}
use Rattle.udp.specs.declared.arrival.Outcome.{Outcome}
use Rattle.udp.specs.declared.header.Header.{Header}
use Rattle.udp.specs.Datagrams.{AreMatching, outcome_chains, without_header}
use Rattle.udp.specs.Inside.{header_in}
use Rattle.udp.proofs.Cutting.{data_of}
use Rattle.udp.proofs.arrival.input.Goals as goal

pub returns-then-head-ne-PROTOCOL_UDP-clause-moves : goal.returns-then-head-ne-PROTOCOL_UDP-clause-moves
returns-then-head-ne-PROTOCOL_UDP-clause-moves c =
    subst (λ (o : Outcome). Moves c.args.pool.now (c.args.chain ∷ []) c.drop_for.new.pool (outcome_chains o))
    (sym c.drop_for.ensures.outcome)
    (moves_without c.args.pool.now c.drop_for.new.pool c.args.chain c.requires.live c.drop_for.ensures.freed)

pub returns-in-Err-clause-moves : goal.returns-in-Err-clause-moves
returns-in-Err-clause-moves c =
    subst (λ (o : Outcome). Moves c.args.pool.now (c.args.chain ∷ []) c.drop_for-in-Err.new.pool (outcome_chains o))
    (sym c.drop_for-in-Err.ensures.outcome)
    (moves_without c.args.pool.now c.drop_for-in-Err.new.pool c.args.chain c.requires.live
    c.drop_for-in-Err.ensures.freed)

pub returns-then-is_empty-clause-moves : goal.returns-then-is_empty-clause-moves
returns-then-is_empty-clause-moves c =
    subst (λ (o : Outcome). Moves c.args.pool.now (c.args.chain ∷ []) c.drop_for-then-is_empty.new.pool
    (outcome_chains o))
    (sym c.drop_for-then-is_empty.ensures.outcome)
    (moves_without c.args.pool.now c.drop_for-then-is_empty.new.pool c.args.chain c.requires.live
    c.drop_for-then-is_empty.ensures.freed)

pub returns-clause-answer : goal.returns-clause-answer
returns-clause-answer c =
    let p = c.args.pool.now in
    let k = c.args.chain in
    let h = c.args.head in
    let s : List _ = string (chain_of p k) in
    let said : c.in-Ok.header ≡ header_in s = c.in-Ok.ensures.ok.1 in
    let cut : c.trim.new.pool ≡ with_chain p k (without_header (header_in s).len (chain_of p k)) =
    c.trim.ensures ∙ ap (λ (x : Header). with_chain p k (without_header x.len (chain_of p k))) said in
    record {
      faultless = first_of (search rules, grind (arith, common_steps));
      sender = ap (λ (x : Header). record { ip = h.src; port = x.source }) said;
      matched =
          subst (λ (x : Header). AreMatching c.args.pcbs.now h.dst
          (packet_key h.dst x.destination (record { ip = h.src; port = x.source }))
          c.find_matching.new.matching.items) said c.find_matching.ensures.found;
      some = first_of (search rules, grind (arith, common_steps));
      same = refl;
      chain = cut;
      bytes =
          ap string (shown_with p c.trim.new.pool k (without_header (header_in s).len (chain_of p k)) cut)
          ∙ data_of (header_in s).len (chain_of p k).entries;
    }

pub returns-clause-moves : goal.returns-clause-moves
returns-clause-moves c = moves_with c.args.pool.now c.trim.new.pool c.args.chain _ c.requires.live c.trim.ensures

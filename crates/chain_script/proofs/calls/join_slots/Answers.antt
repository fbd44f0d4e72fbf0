use Rattle.std.proofs.Common.{◌≡◌, ◌≢◌, ℕ, ◌+◌, ◌≤◌, length, get_or, Some, None, sym, ap, ◌∙◌, arith}
use Rattle.std.proofs.lemmas.List.{get_or-set_other, length-set}
use Rattle.mbuf_chain.specs.Chain.{chain_of, string}
use Rattle.chain_script.proofs.Joined.{join_done}
use Rattle.chain_script.proofs.SlotLemmas.{slot_is, live_slot, apart_chains}
use Rattle.chain_script.proofs.calls.join_slots.Goals as goal
use Rattle.chain_script.proofs.calls.join_slots.Goals.{In-Some, In-Some-chains}

held : (c : In-Some) → get_or c.args.chains.now c.args.slot None ≡ Some c.in-Some.first
held c =
    slot_is c.args.chains.now c.args.slot _ (Some c.in-Some.first) c.requires.within
    (sym c.index-chains-slot.is ∙ c.in-Some.is)

other : (c : In-Some-chains) → get_or c.args.chains.now c.args.other None ≡ Some c.in-Some-chains.second
other c =
    slot_is c.args.chains.now c.args.other _ (Some c.in-Some-chains.second) c.requires.other
    (sym c.index-chains-other.is ∙ c.in-Some-chains.is)

pub len-requires : goal.len-requires
len-requires c =
    live_slot c.args.pool.now c.args.chains.now c.args.slot c.in-Some.first c.requires.fits c.requires.within
    (held (goal.at.len-requires c).In-Some)

pub len-requires-2 : goal.len-requires-2
len-requires-2 c =
    live_slot c.args.pool.now c.args.chains.now c.args.other c.in-Some-chains.second c.requires.fits c.requires.other
    (other (goal.at.len-requires-2 c).In-Some-chains)

pub join-requires-clause-held : goal.join-requires-clause-held
join-requires-clause-held c =
    let first = held (goal.at.join-requires-clause-held c).In-Some in
    let ne : c.args.slot ≢ c.args.other = omega arith in
    let second = c.take-second.ensures.value in (
      c.in-Some.first,
      rw c.take-second.ensures.after (get_or-set_other c.args.chains.now c.args.other c.args.slot None None ne ∙ first),
      live_slot c.args.pool.now c.args.chains.now c.args.slot c.in-Some.first c.requires.fits c.requires.within first,
      live_slot c.args.pool.now c.args.chains.now c.args.other c.take-second.result c.requires.fits c.requires.other
          second,
      apart_chains c.args.pool.now c.args.chains.now c.args.slot c.args.other c.in-Some.first c.take-second.result
          c.requires.fits c.requires.within c.requires.other ne first second,
    )

pub returns : goal.returns
returns c =
    let at = goal.at.returns c in
    let first = held at.In-Some in
    let ne : c.args.slot ≢ c.args.other = omega arith in
    let second = c.take-second.ensures.value in
    let still : get_or c.take-second.new.chains c.args.slot None ≡ Some c.in-Some.first =
    rw c.take-second.ensures.after (get_or-set_other c.args.chains.now c.args.other c.args.slot None None ne ∙ first)
    in
    let same : c.in-Some-chains.second ≡ c.take-second.result = cc (sym (other at.In-Some-chains) ∙ second) in
    let inside : length (string (chain_of c.args.pool.now c.in-Some.first))
    + length (string (chain_of c.args.pool.now c.take-second.result)) ≤ 65535 =
    omega (arith, c.len.ensures, c.len-2.ensures, ap (λ (k : ℕ). length (string (chain_of c.args.pool.now k))) same)
    in
    let done =
    join_done c.args.pool.now c.join.new.pool c.args.chains.now c.args.slot c.args.other c.in-Some.first
    c.take-second.result c.requires.fits c.requires.within c.requires.other ne first second inside
    (c.join.ensures c.in-Some.first still) in
    rw c.take-second.ensures.after (record {
      fits = done.0;
      len = length-set c.args.chains.now c.args.other None;
      step = done.1;
    })

use Rattle.std.proofs.Common.{◌≡◌, ◌<◌, length, Some, None, get_or, refl, sym, ◌∙◌, arith}
use Rattle.std.proofs.lemmas.List.{length-set}
use Rattle.mbuf_chain.specs.Chain.{chain_of, string}
use Rattle.chain_script.proofs.Joined.{split_done, split_lacks}
use Rattle.chain_script.proofs.SlotLemmas.{slot_is, live_slot}
use Rattle.chain_script.proofs.calls.split.Goals as goal
use Rattle.chain_script.proofs.calls.split.Goals.{In-Some, In-None}

held : (c : In-Some) → get_or c.args.chains.now c.args.slot None ≡ Some c.in-Some.chain
held c =
    slot_is c.args.chains.now c.args.slot _ (Some c.in-Some.chain) c.requires.within
    (sym c.index-chains-slot.is ∙ c.in-Some.is)

empty : (c : In-None) → get_or c.args.chains.now c.args.to None ≡ None
empty c = slot_is c.args.chains.now c.args.to _ None c.requires.other (sym c.index-chains-to.is ∙ c.in-None.is)

pub len-requires : goal.len-requires
len-requires c =
    live_slot c.args.pool.now c.args.chains.now c.args.slot c.in-Some.chain c.requires.fits c.requires.within
    (held (goal.at.len-requires c).In-Some)

pub returns-in-Ok : goal.returns-in-Ok
returns-in-Ok c =
    let at = goal.at.returns-in-Ok c in
    let inside : c.args.at < length (string (chain_of c.args.pool.now c.in-Some.chain)) =
    omega (arith, c.len.ensures) in
    let done =
    split_done c.args.pool.now _ c.args.chains.now c.args.to c.args.slot c.in-Some.chain c.in-Ok.back c.args.at
    c.requires.fits c.requires.within c.requires.other (held at.In-Some) (empty at.In-None) inside
    c.in-Ok.ensures.enough c.in-Ok.ensures.ok in
    rw c.put.ensures (record {
      fits = done.0;
      len = length-set c.args.chains.now c.args.to (Some c.in-Ok.back);
      step = done.1;
    })

pub returns-in-Err : goal.returns-in-Err
returns-in-Err c =
    let at = goal.at.returns-in-Err c in
    let inside : c.args.at < length (string (chain_of c.args.pool.now c.in-Some.chain)) =
    omega (arith, c.len.ensures) in
    rw c.in-Err.ensures.same (record {
      fits = c.requires.fits;
      len = refl;
      step =
          split_lacks c.args.pool.now c.args.chains.now c.args.to c.args.slot c.in-Some.chain c.args.at c.requires.fits
          (held at.In-Some) (empty at.In-None) inside c.in-Err.ensures.err;
    })

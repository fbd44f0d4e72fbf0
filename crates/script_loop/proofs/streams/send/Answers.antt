use Rattle.std.proofs.Common.{◌++◌, List, ℕ, take, arith, rules}
use Rattle.std.proofs.KnownBytes.{Appends-trans}
use Rattle.std.proofs.lemmas.Grind.{common_steps}
use Rattle.script_loop.proofs.StreamLemmas.{MoreBy-none, MoreBy-then, MoreBy-some}
use Rattle.script_loop.proofs.streams.send.Goals as goal

pub loop-rest-init : goal.loop-rest-init
loop-rest-init g c = record { sent = search rules; counted = MoreBy-none _ }

pub loop-rest-preserved : goal.loop-rest-preserved
loop-rest-preserved g c =
    let kept = c.loop-rest.invariant.sent in
    let n : ℕ = c.in-Ok.n in
    let rest : List ℕ = c.loop-rest.rest.now in record {
      sent = (
        kept.0 ++ take n rest,
        let e = kept.1 in grind (arith, common_steps, e),
        Appends-trans _ _ _ kept.0 (take n rest) kept.2 c.in-Ok.ensures.bytes,
      );
      counted =
          MoreBy-then 0 0 0 _ _ _ (omega arith) c.loop-rest.invariant.counted
          (MoreBy-some c.in-Ok.n _ _ (omega arith) c.in-Ok.ensures.count);
    }

use Rattle.std.proofs.Common.{◌++◌, List, ℕ, take, arith}
use Rattle.std.proofs.KnownBytes.{Appends-trans}
use Rattle.std.proofs.lemmas.Grind.{common_steps}
use Rattle.play_pcap.proofs.trace.send.Goals as goal

pub loop-rest-preserved : goal.loop-rest-preserved
loop-rest-preserved g c =
    let kept = c.loop-rest.invariant in
    let n : ℕ = c.in-Ok.n in
    let rest : List ℕ = c.loop-rest.rest.now in (
      kept.0 ++ take n rest,
      let e = kept.1 in grind (arith, common_steps, e),
      Appends-trans _ _ _ kept.0 (take n rest) kept.2 c.in-Ok.ensures.bytes,
    )

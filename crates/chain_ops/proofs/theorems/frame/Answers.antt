use Rattle.std.proofs.Common.{[], ◌∷◌, refl}
use Rattle.mbuf_chain.specs.Chain.{without}
use Rattle.mbuf_chain.proofs.Laws.Owners.{moves_trans, moves_without, moves_adds, moves_after}
use Rattle.mbuf_chain.proofs.Laws.Steps.{live_without}
use Rattle.chain_ops.proofs.theorems.frame.Goals as goal

pub returns-clause-made : goal.returns-clause-made
returns-clause-made c = λ p q d f es m. moves_adds m.adds

pub returns-clause-changed : goal.returns-clause-changed
returns-clause-changed c =
    λ p q k d f es live m. moves_trans (moves_without p (without p k) k live refl) (moves_adds m.adds)

pub returns-clause-joined : goal.returns-clause-joined
returns-clause-joined c = λ p q k d f es lk ld ne m.
    moves_trans (moves_after (k ∷ []) (moves_without p (without p d) d ld refl))
    (moves_trans (moves_without (without p d) (without (without p d) k) k (live_without p (without p d) d refl k ne lk)
    refl) (moves_adds m.adds))

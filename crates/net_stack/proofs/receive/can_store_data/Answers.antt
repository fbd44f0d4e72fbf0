use Rattle.std.proofs.Common.{◌≡◌, ◌-◌, true, length, sym, subst, ◌∙◌, arith}
use Rattle.std.specs.Prelude.{◌&&◌, nat_le, nat_lt}
use Rattle.std.proofs.lemmas.Bool.{le-leb, lt-ltb}
use Rattle.mbuf_chain.specs.Chain.{free_clusters, held_mbufs}
use Rattle.ledger.specs.Reserve.{are_free}
use Rattle.chain_ops.specs.declared.store.Space.{Space}
use Rattle.sock_calls.specs.Whole.{HasOne, HasSpace}
use Rattle.net_stack.proofs.receive.can_store_data.Goals as goal
use Rattle.net_stack.proofs.receive.can_store_data.Goals.{In-InCluster}

space : (c : In-InCluster) → HasOne c.args.pool.now (length c.args.packet.now) true
space c =
    subst (λ (s : Space). HasSpace c.args.pool.now (length c.args.packet.now) s) c.in-InCluster.is c.requires.space

pub returns-in-InCluster : goal.returns-in-InCluster
returns-in-InCluster c = λ e.
    let p = c.args.pool.now in
    let has = space (goal.at.returns-in-InCluster c).In-InCluster in
    let free : are_free p 2 1 ≡ true =
    λ i. le-leb 2 (p.mbufs - held_mbufs p) (omega (arith, has.mbufs)) i
    && le-leb 1 (free_clusters p) has.clusters i in
    let long : nat_lt 100 (length c.args.packet.now) ≡ true =
    lt-ltb 100 (length c.args.packet.now) (omega (arith, has.begins)) in
    let short : nat_le (length c.args.packet.now) 2048 ≡ true = le-leb (length c.args.packet.now) 2048 has.fits in
    λ i. ((long i && short i) && (sym c.is_sound.ensures ∙ e) i) && free i

pub is_sound-requires-clause-header : goal.is_sound-requires-clause-header
is_sound-requires-clause-header c =
    omega (arith, (space (goal.at.is_sound-requires-clause-header c).In-InCluster).begins)

pub is_sound-requires-clause-most : goal.is_sound-requires-clause-most
is_sound-requires-clause-most c = omega (arith, (space (goal.at.is_sound-requires-clause-most c).In-InCluster).fits)

use Rattle.std.proofs.Common.{Bool, List, ℕ, false, length, arith, ap, ◌∙◌}
use Rattle.mbuf_chain.specs.Chain.{alone, chain_of}
use Rattle.chain_ops.specs.Copies.{copied}
use Rattle.chain_ops.specs.Makes.{Makes}
use Rattle.chain_ops.proofs.Laws.Makes.{live_made, makes_undone, makes_held, makes_mbufs}
use Rattle.ip_out.proofs.Later.{copy_is, copy_long, length_head, linked, no_header}
use Rattle.ip_out.proofs.fragments.fragment.Goals as goal
use Rattle.ip_out.proofs.fragments.fragment.Goals.{In-Ok}

copy : (c : In-Ok) → Makes c.args.pool.now c.copy_at.new.pool c.in-Ok.back (alone false)
    (copied false (chain_of c.args.pool.now c.args.chain.now).entries c.args.from.off c.args.size)
copy c =
    copy_is c.args.pool.now c.copy_at.new.pool c.args.chain.now c.in-Ok.back c.args.from.off c.args.size
    c.requires.after c.in-Ok.ensures.ok

pub returns-in_default-clause-err : goal.returns-in_default-clause-err
returns-in_default-clause-err c =
    omega (
      arith,
      c.in_default.ensures.err,
      ap (λ (t : Bool). length (copied t (chain_of c.args.pool.now c.args.chain.now).entries c.args.from.off c.args.size))
          (no_header (chain_of c.args.pool.now c.args.chain.now).front.header c.args.from.off c.requires.after),
    )

pub free_chain-requires : goal.free_chain-requires
free_chain-requires c = live_made (copy (goal.at.free_chain-requires c).In-Ok)

pub returns-then-free_mbufs-eq0-clause-err : goal.returns-then-free_mbufs-eq0-clause-err
returns-then-free_mbufs-eq0-clause-err c =
    let m = copy (goal.at.returns-then-free_mbufs-eq0-clause-err c).In-Ok in
    omega (arith, makes_held m, makes_mbufs m, c.free_mbufs.ensures.free, c.if-free_mbufs-eq0.true)

pub returns-then-free_mbufs-eq0-clause-same : goal.returns-then-free_mbufs-eq0-clause-same
returns-then-free_mbufs-eq0-clause-same c =
    makes_undone _ (copy (goal.at.returns-then-free_mbufs-eq0-clause-same c).In-Ok) c.free_chain.ensures

pub new_plain_before-requires-clause-high : goal.new_plain_before-requires-clause-high
new_plain_before-requires-clause-high c =
    omega (arith, ap (λ (xs : List ℕ). length xs) c.write_head.ensures ∙ length_head c.args.head)

pub new_plain_before-requires-clause-back : goal.new_plain_before-requires-clause-back
new_plain_before-requires-clause-back c = live_made (copy (goal.at.new_plain_before-requires-clause-back c).In-Ok)

pub new_plain_before-requires-clause-bare : goal.new_plain_before-requires-clause-bare
new_plain_before-requires-clause-bare c = (copy (goal.at.new_plain_before-requires-clause-bare c).In-Ok).front

pub new_plain_before-requires-clause-len : goal.new_plain_before-requires-clause-len
new_plain_before-requires-clause-len c =
    copy_long c.args.pool.now c.copy_at.new.pool c.args.chain.now c.in-Ok.back c.args.from.off c.args.size
    c.requires.within (copy (goal.at.new_plain_before-requires-clause-len c).In-Ok)

pub returns-clause-ok : goal.returns-clause-ok
returns-clause-ok c =
    linked c.args.pool.now c.copy_at.new.pool c.new_plain_before.new.self c.args.chain.now c.new_plain_before.result
    c.in-Ok.back c.args.from.off c.args.size c.args.head c.write_head.new.bytes c.write_head.ensures
    (copy (goal.at.returns-clause-ok c).In-Ok) c.new_plain_before.ensures

pub returns-clause-enough : goal.returns-clause-enough
returns-clause-enough c =
    let m = copy (goal.at.returns-clause-enough c).In-Ok in
    omega (arith, makes_held m, makes_mbufs m, c.free_mbufs.ensures.free, c.free_mbufs.ensures.bounds.few)

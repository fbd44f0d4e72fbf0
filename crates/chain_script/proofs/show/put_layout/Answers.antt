use Rattle.std.proofs.Common.{arith}
use Rattle.chain_script.proofs.Shown.{few_mbufs}
use Rattle.chain_script.proofs.show.put_layout.Goals as goal

pub put_mbufs-requires-clause-text : goal.put_mbufs-requires-clause-text
put_mbufs-requires-clause-text c =
    omega (
      arith,
      few_mbufs c.args.pool.now c.args.chain.now c.requires.live c.laws.ensures,
      c.requires.text,
      c.append.ensures.len,
      c.put_number.ensures.len,
    )

pub append-requires-2 : goal.append-requires-2
append-requires-2 c =
    omega (
      arith,
      few_mbufs c.args.pool.now c.args.chain.now c.requires.live c.laws.ensures,
      c.requires.text,
      c.append.ensures.len,
      c.put_number.ensures.len,
      c.put_mbufs.ensures.len,
    )

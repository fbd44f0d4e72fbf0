use Rattle.std.proofs.Common.{◌+◌, ◌≤◌, length, arith}
use Rattle.std.proofs.Math.Nat.{mul-le-mul_left}
use Rattle.play_line.proofs.line.put_copies.Goals as goal

pub append-requires : goal.append-requires
append-requires c =
    let len = length c.args.piece.now in
    let more : c.loop-copies.copies + 1 ≤ c.args.count = omega arith in
    omega (arith, c.requires, c.loop-copies.invariant.len, mul-le-mul_left len more)

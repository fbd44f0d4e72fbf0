use Rattle.std.proofs.Common.{◌≤◌, length, arith, length-take-le}
use Rattle.play_text.proofs.bytes.front_of.Goals as goal

pub slice_bounds-result-end : goal.slice_bounds-result-end
slice_bounds-result-end c =
    let h : 64 ≤ length c.args.digits.now = omega (arith, c.requires) in
    omega (arith, h, length-take-le 64 c.args.digits.now h)

pub returns-clause-len : goal.returns-clause-len
returns-clause-len c =
    let h : 64 ≤ length c.args.digits.now = omega (arith, c.requires) in
    omega (arith, h, length-take-le 64 c.args.digits.now h)

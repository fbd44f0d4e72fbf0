-- The pool has room for the limit and the send.
use Rattle.std.proofs.Common.{arith, length, ◌≡◌}
use Rattle.callers.proofs.echo_host.send_first.Goals as goal

pub send_beside-requires-clause-room : goal.send_beside-requires-clause-room
send_beside-requires-clause-room c =
    let len : length c.args.bytes.now ≡ 4 =
    first_of (assumption (c.told-bytes, c.fits-bytes), omega (arith, c.told-bytes, c.fits-bytes)) in
    (c.in-Ok.ensures.me, c.in-Ok.ensures.found, rw len (c.in-Ok.ensures.room _))

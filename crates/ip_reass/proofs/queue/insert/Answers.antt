use Rattle.std.proofs.Common.{arith}
use Rattle.ip_reass.specs.Fragments.{fragments}
use Rattle.ip_reass.proofs.Whole.{gap_stops}
use Rattle.ip_reass.proofs.queue.insert.Goals as goal

pub returns-then-bytes-end-clause-whole : goal.returns-then-bytes-end-clause-whole
returns-then-bytes-end-clause-whole c =
    gap_stops (fragments c.insert_between-2.new.pool c.insert_between-2.new.datagram.fragments)
    c.insert_between-2.ensures.inserted.queue.apart
    (omega (
      arith,
      c.insert_between-2.ensures.inserted.counted,
      c.insert_between-2.ensures.reach,
      c.end_of_last-end.ensures,
      c.if-bytes-end.true,
      c.from-bytes.ensures,
    ))

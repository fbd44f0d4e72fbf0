use Rattle.std.proofs.Common.{length, refl}
use Rattle.capture.specs.Seen.{captured}
use Rattle.capture.proofs.Loaded.{record_inside, record_read}
use Rattle.capture.proofs.classic.read_record.Goals as goal

pub returns-in-Ok-clause-reads : goal.returns-in-Ok-clause-reads
returns-in-Ok-clause-reads g c =
    let ok = c.in-Ok.ensures in
    record_read c.args.header _ _ c.load_record.new.feed.buffer c.as_slice.result.now c.in-Ok._rest.now
    (captured c.in-Ok.record) c.nanoseconds.result (length c.in-Ok.record.bytes.now) c.as_slice.ensures
    c.in_default.ensures ok.fits ok.spelled ok.sized c.nanoseconds.ensures refl

pub returns-in-Ok-clause-inside : goal.returns-in-Ok-clause-inside
returns-in-Ok-clause-inside g c =
    let ok = c.in-Ok.ensures in
    record_inside c.args.header c.load_record.new.feed.buffer c.as_slice.result.now c.in-Ok._rest.now
    (captured c.in-Ok.record) _ c.nanoseconds.result (length c.in-Ok.record.bytes.now) c.as_slice.ensures
    c.in_default.ensures.1 ok.spelled ok.sized refl

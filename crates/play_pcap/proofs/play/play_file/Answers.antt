use Rattle.std.proofs.Common.{refl}
use Rattle.capture.specs.Seen.{whole}
use Rattle.play_pcap.proofs.Playing.{range_back, played_file}
use Rattle.play_pcap.proofs.play.play_file.Goals as goal

pub returns-in_default : goal.returns-in_default
returns-in_default g c = (
  whole c.in-Ok.capture,
  c.in-Ok.ensures.found,
  λ h. c.in_default.ensures (range_back c.args.details.range c.in-Ok.capture.records.items _ c.as_slice-all.ensures.value
      h),
  refl,
)

pub returns : goal.returns
returns g c =
    played_file g.X.Wire.may_go c.args.details c.args.file.now c.in-Ok.capture.header c.in-Ok.capture.records.items
    c.as_slice-all.result.now c.in-Some.records.now c.begin_of-origin.result c.begin_of-begin.result
    c.first_of-first.result c.play_records.result _ _ c.in-Ok.ensures.found c.as_slice-all.ensures.value
    c.in-Some.ensures.0 c.in-Some.ensures.1 c.begin_of-origin.ensures c.begin_of-begin.ensures c.first_of-first.ensures
    c.play_records.ensures.goes c.play_records.ensures.tally

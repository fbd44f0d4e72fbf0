use Rattle.std.proofs.Common.{◌≡◌, length, drop, length-drop, refl, ap, ◌∙◌, arith}
use Rattle.std.proofs.lemmas.Grind.{common_steps}
use Rattle.std.proofs.Common.{drop-drop}
use Rattle.std.specs.Int.{w32}
use Rattle.capture.specs.File.{number_of}
use Rattle.capture.proofs.pcap.reader.first_record.Goals as goal

pub returns-then-rest-captured-clause-cut : goal.returns-then-rest-captured-clause-cut
returns-then-rest-captured-clause-cut c = rw c.at-then-rest-captured.ensures (
  refl,
  record {
    seconds = c.first_u32-seconds.result.0;
    fraction = c.first_u32-fraction.result.0;
    captured = c.first_u32-captured.result.0;
    original = c.first_u32-original_len.result.0;
    rest = c.first_u32-original_len.result.1.now;
    bytes_are = grind (arith, common_steps);
    seconds_fit = omega arith;
    fraction_fit = omega arith;
    captured_fit = omega arith;
    original_fit = omega arith;
    early = omega arith;
  },
)

pub returns-clause-sized : goal.returns-clause-sized
returns-clause-sized c =
    let bytes = c.args.bytes.now in
    let at : c.first_u32-fraction.result.1.now ≡ drop 8 bytes =
    c.first_u32-fraction.ensures.after ∙ ap (drop 4) c.first_u32-seconds.ensures.after ∙ drop-drop 4 4 bytes in
    let is : c.first_u32-captured.result.0 ≡ number_of c.args.order w32 (drop 8 bytes) =
    c.first_u32-captured.ensures.number ∙ ap (number_of c.args.order w32) at in
    let one = ap length c.first_u32-seconds.ensures.after ∙ length-drop 4 bytes in
    let two = ap length c.first_u32-fraction.ensures.after ∙ length-drop 4 c.first_u32-seconds.result.1.now in
    let three = ap length c.first_u32-captured.ensures.after ∙ length-drop 4 c.first_u32-fraction.result.1.now in
    let four = ap length c.first_u32-original_len.ensures.after ∙ length-drop 4 c.first_u32-captured.result.1.now in
    let after = c.split_at.ensures.back_len in
    omega (arith, is, one, two, three, four, after)

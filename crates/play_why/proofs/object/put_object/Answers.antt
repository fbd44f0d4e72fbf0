use Rattle.std.proofs.Common.{refl}
use Rattle.play_why.proofs.object.put_object.Goals as goal

pub returns : goal.returns
returns c = record {
  packet = c.bytes_of-headers.result.now;
  became = c.bytes_after_arrow-parts.result.now;
  values = c.bytes_of-shown.result.now;
  is =
      rw (
        c.put_end.ensures,
        c.put_tail.ensures.items,
        c.put_numbers.ensures.items,
        c.put_words.ensures.items,
        c.put_ends.ensures.items,
        c.put_head.ensures.items,
        c.first_of-first.ensures,
        c.bytes_of-cause.ensures.is,
        c.put_causes.ensures,
        c.bytes_of-fault.ensures.is,
        c.put_faults.ensures,
      ) refl;
}

use Rattle.std.proofs.Common.{refl, ◌∙◌}
use Rattle.play_why.proofs.parts.Parts.keep_part.Goals as goal

pub returns : goal.returns
returns c = record {
  part = record {
    key = c.args.key;
    number = c.args.number;
    offset = c.offset_of.result;
    bytes = c.in_ok-bytes.bytes;
  };
  is = record {
    key_is = refl;
    number_is = refl;
    offset = c.offset_of.ensures;
    bytes = c.in_ok-bytes.ensures.items ∙ c.carried_of.ensures.is;
  };
  kept = c.in_ok-push.ensures.items;
  lost = refl;
  numbers = refl;
}

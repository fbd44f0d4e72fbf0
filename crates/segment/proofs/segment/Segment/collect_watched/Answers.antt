use Rattle.std.proofs.Common.{ap, refl}
use Rattle.segment.proofs.segment.Segment.collect_watched.Goals as goal

pub returns : goal.returns
returns g c = record {
  configs = refl;
  room = c.collect_all.ensures.sent.same_room;
  links = refl;
  chances = ap (λ v. v.items) c.collect_all.ensures.sent.chances;
  flight = c.collect_all.ensures.sent.taken;
  random = c.collect_all.ensures.sent.random;
  tallies = c.collect_all.ensures.sent.tallies;
  hosts = c.collect_all.ensures.hosts;
}

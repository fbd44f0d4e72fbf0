use Rattle.std.proofs.Common.{◌∙◌, ap}
use Rattle.segment.specs.Segment.{all_apart}
use Rattle.segment.proofs.Apart.{one_more_apart}
use Rattle.segment.proofs.directory.Directory.add.Goals as goal

pub invariant_of-self : goal.invariant_of-self
invariant_of-self c = record {
  apart =
      ap all_apart c.push_reserved.ensures.items
      ∙ one_more_apart c.args.self.now.configs.items c.args.config c.requires.apart c.args.self.now.apart;
}

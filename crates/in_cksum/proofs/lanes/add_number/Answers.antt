use Rattle.std.proofs.Common.{◌+◌, ap, sym, ◌∙◌, arith}
use Rattle.flat_model.specs.Packets.Checksum.{fold16}
use Rattle.in_cksum.proofs.Numbers.{carry_folded, number_folded}
use Rattle.in_cksum.proofs.lanes.add_number.Goals as goal

pub returns : goal.returns
returns c = record {
  folded =
      sym (carry_folded c.add_carrying.result.0 c.add_carrying.result.1)
      ∙ ap fold16 (omega (arith, c.add_carrying.ensures.sum))
      ∙ number_folded (c.args.sum + c.args.carry) c.from_le_bytes-number.result c.args.bytes.now c.requires.long
      c.from_le_bytes-number.ensures;
  fits = c.add_carrying.ensures.fits;
}

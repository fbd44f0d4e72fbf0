use Rattle.std.proofs.Common.{◌≡◌, arith, false, ◌∙◌}
use Rattle.in_cksum.specs.Partial.{sum_of}
use Rattle.ip_out.specs.declared.head.IpHead.{IpHead}
use Rattle.ip_out.specs.Headings.{blank_bytes}
use Rattle.ip_out.proofs.Sums.{head_folded}
use Rattle.ip_out.proofs.head.checksum_of.Goals as goal

pub returns : goal.returns
returns c =
    let h : IpHead = c.args.head.now in
    let folded =
    head_folded h c.flags_of.result _ c.flags_of.ensures
    (omega (
      arith,
      c.from_be_bytes-front.ensures,
      c.from_be_bytes-carried.ensures,
      c.from.ensures,
      c.from-2.ensures,
      c.from-3.ensures,
      c.from-4.ensures,
      c.from-5.ensures,
      c.from-6.ensures,
      c.from-7.ensures,
    )) in
    let sum : c.of_words.result ≡ sum_of (blank_bytes h) =
    c.of_words.ensures ∙ (λ j. record { total = folded j; is_odd = false }) in
    c.finish.ensures (blank_bytes h) sum

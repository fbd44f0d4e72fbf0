-- The checksum of a header, from its fields as numbers.
use Rattle.std.proofs.Common.{◌≡◌, ℕ, ◌+◌, ◌*◌, ◌/◌, ◌%◌, ap, ◌∙◌, arith}
use Rattle.flat_model.specs.Packets.Checksum.{fold16, folded_sum, word_sum}
use Rattle.flat_model.proofs.Laws.{fold16-high}
use Rattle.ip_out.specs.declared.head.IpHead.{IpHead}
use Rattle.ip_out.specs.Headings.{blank_bytes, flags_of}

-- the folded sum is the same if the high halves of the addresses are added as low halves
pub head_folded : (h : IpHead) (f w : ℕ) → f ≡ flags_of h
    → w ≡ 256 * 69 + h.tos + (h.total + h.id + f) + (256 * h.ttl + h.proto) + (h.src + h.dst)
    → fold16 w ≡ folded_sum (blank_bytes h)
head_folded h f w flags is =
    let high : ℕ = h.src / 65536 + h.dst / 65536 in
    let low : ℕ =
    256 * 69 + h.tos + (h.total + h.id + flags_of h) + (256 * h.ttl + h.proto) + (h.src % 65536 + h.dst % 65536) in
    let parts : w ≡ 65536 * high + low = omega (arith, is, flags) in
    let back : high + low ≡ word_sum (blank_bytes h) = omega arith in
    ap fold16 parts ∙ fold16-high high low ∙ ap fold16 back

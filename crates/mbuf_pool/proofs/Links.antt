-- A link between free clusters is read back as it was written.
use Rattle.std.proofs.Common.{◌≡◌, ℕ, ◌<◌, ◌^◌, if◌then◌else◌, Option, Some, None, [], length, unwrap_or, sym, ap, ◌∙◌, arith, append-nil}
use Rattle.std.proofs.lemmas.Bool.{ne_eqb}
use Rattle.byteorder.specs.Endian.{little_number, little_bytes}
use Rattle.byteorder.specs.Numbers.{little_number-reads_back, length-bytes_low_first}
use Rattle.raw_cells.specs.Cells.{IsLink}
use Rattle.mbuf_pool.specs.Inside.Link.{link_from, link_in, link_bytes}

pub length-link_bytes : (link : Option ℕ) → length (link_bytes link) ≡ 4
length-link_bytes link = length-bytes_low_first 0 4 (unwrap_or link 0xffffffff)

number_back : (n : ℕ) → n < 256 ^ 4 → little_number 4 (little_bytes 4 n) ≡ n
number_back n h = ap (little_number 4) (sym (append-nil (little_bytes 4 n))) ∙ little_number-reads_back 4 n [] h

pub link_back : (link : Option ℕ) → IsLink link → link_in (link_bytes link) ≡ link
link_back None h = ap link_from (number_back 0xffffffff (omega arith))
link_back (Some k) h =
    ap link_from (number_back k (omega arith))
    ∙ ap (λ b. if b then None else Some k) (ne_eqb k 0xffffffff (λ e. absurd (omega arith)))

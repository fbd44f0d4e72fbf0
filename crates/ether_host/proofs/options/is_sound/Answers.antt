use Rattle.std.proofs.Common.{◌≡◌, ℕ, ◌+◌, ◌-◌, List, length, take, sym, ap, ◌∙◌, arith}
use Rattle.std.proofs.lemmas.Bool.{eq-eqb, le-leb}
use Rattle.flat_model.specs.Packets.Checksum.{folded_sum}
use Rattle.flat_model.specs.Packets.Header.{total_of}
use Rattle.flat_ether.specs.Options.{are_options, header_size, options_in}
use Rattle.ether_host.proofs.Plains.{five_tests, options_cut}
use Rattle.ether_host.proofs.options.is_sound.Goals as goal

pub returns-then-sum_slice : goal.returns-then-sum_slice
returns-then-sum_slice c =
    let came : List ℕ = c.args.came.now in
    let header : c.header_size-header.result ≡ header_size came = c.header_size-header.ensures.is in
    let total : c.u16_at.result ≡ total_of came = c.u16_at.ensures in
    c.are_options.ensures ∙ ap (are_options 0) (options_cut came c.header_size-header.result header)
    ∙ five_tests (le-leb (header_size came) (total_of came) (omega arith))
    (le-leb (total_of came) (length came) (omega arith))
    (le-leb (20 + (total_of came - header_size came)) 1500 (omega arith))
    (eq-eqb (folded_sum (take (header_size came) came)) 65535
    (ap (λ n. folded_sum (take n came)) (sym header) ∙ sym c.sum_slice.ensures ∙ c.if-sum_slice.true))
    (are_options 0 (options_in came))

use Rattle.std.proofs.Common.{arith}
use Rattle.play_pcap.proofs.Asking.{no_details}
use Rattle.play_pcap.proofs.ask.details_of.Goals as goal

pub returns-in_err-range-clause-is : goal.returns-in_err-range-clause-is
returns-in_err-range-clause-is c =
    rw c.from_residual.ensures
    (no_details _ c.in-Some.text _ _ c.in-Some.is c.first_word.ensures (λ e. grind (arith, e))
    c.in_err-range.ensures.is)

use Rattle.std.proofs.Common.{◌≡◌, ℕ, ◌<◌, ◌^◌, List, sym, ◌∙◌, arith}
use Rattle.std.proofs.lemmas.Fmt.{decimal_injective}
use Rattle.flat_model.specs.Scripts.Grammar.{IsNumber}
use Rattle.play_pcap.proofs.ask.range_from.Goals as goal

same_number : (word : List ℕ) (m n : ℕ) → IsNumber 4294967295 word m → IsNumber 4294967295 word n → m ≡ n
same_number word m n h k =
    let a : m < 2 ^ 64 = omega (arith, h.0) in
    let b : n < 2 ^ 64 = omega (arith, k.0) in decimal_injective m n a b (sym h.1 ∙ k.1)

pub returns-then-from-eq0-clause-is : goal.returns-then-from-eq0-clause-is
returns-then-from-eq0-clause-is c = λ r h.
    let same = same_number _ r.first c.in_ok-from.from h.begins c.in_ok-from.ensures in omega (arith, same, h.some)

pub returns-then-to-from-clause-is : goal.returns-then-to-from-clause-is
returns-then-to-from-clause-is c = λ r h.
    let first = same_number _ r.first c.in_ok-from.from h.begins c.in_ok-from.ensures in
    let last = same_number _ r.last c.in_ok-to.to h.ends c.in_ok-to.ensures in omega (arith, first, last, h.order)

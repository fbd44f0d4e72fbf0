use Rattle.std.proofs.Common.{◌≡◌, ◌<◌, ◌^◌, sym, ◌∙◌, arith}
use Rattle.std.specs.Fmt.{decimal}
use Rattle.std.proofs.lemmas.Fmt.{decimal_injective}
use Rattle.request.proofs.FormLemmas.{Receive-only}
use Rattle.request.proofs.read.receive_of.Goals as goal

pub returns-then-most-eq0 : goal.returns-then-most-eq0
returns-then-most-eq0 c = Receive-only _ (λ fd most h.
    let word : h.1 ≡ c.in_ok-fd.most.now = cc (sym h.2 ∙ c.in_ok-fd.ensures) in
    let same : decimal most ≡ decimal c.in_ok-most.most = sym h.4.1 ∙ word ∙ c.in_ok-most.ensures.1 in
    let small : most < 2 ^ 64 = omega (arith, h.4.0) in
    let zero : most ≡ c.in_ok-most.most = decimal_injective most c.in_ok-most.most small (omega arith) same in
    omega (arith, zero, h.5))

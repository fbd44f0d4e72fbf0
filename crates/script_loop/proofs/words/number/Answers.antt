use Rattle.std.proofs.Common.{◌≡◌, ◌<◌, ◌^◌, arith, sym, ap, ◌∙◌, not}
use Rattle.std.proofs.lemmas.Bool.{false≢true}
use Rattle.std.specs.Fmt.{decimal}
use Rattle.std.proofs.lemmas.Fmt.{parse-decimal, IsAscii-decimal}
use Rattle.std.proofs.lemmas.Str.{IsUtf8-from_ascii}
use Rattle.std.proofs.lemmas.Slice.Eq.{bytes_eq-Decides}
use Rattle.script_loop.proofs.words.number.Goals as goal
use Rattle.script_loop.proofs.words.number.Goals.{then-value-most-via-then-value-most, then-value-most-via-else-value-most+then-ne}

pub returns-in_default : goal.returns-in_default
returns-in_default c = λ n h.
    let small : n < 2 ^ 64 = omega (arith, h) in
    c.in_default.ensures.cases.0 (rw h.1 (IsUtf8-from_ascii (decimal n) (IsAscii-decimal n small)))

pub returns-in_default-parse : goal.returns-in_default-parse
returns-in_default-parse c = λ n h.
    let small : n < 2 ^ 32 = omega (arith, h) in
    let wide : n < 2 ^ 64 = omega arith in
    c.in_default-parse.not-Ok n
    (parse-decimal 32 n c.in-Ok.text.now c.parse.result small wide (c.in-Ok.ensures.cases.0 ∙ h.1)
    c.parse.ensures.value.0)

pub returns-then-value-most : goal.returns-then-value-most
returns-then-value-most c = λ n h.
    let small : n < 2 ^ 32 = omega (arith, h) in
    let wide : n < 2 ^ 64 = omega arith in
    let read =
    parse-decimal 32 n c.in-Ok.text.now c.parse.result small wide (c.in-Ok.ensures.cases.0 ∙ h.1)
    c.parse.ensures.value.0 in
    let same : c.in-Ok-parse.value ≡ n = cc (sym c.in-Ok-parse.is ∙ read) in
    elim c.then-value-most.branch [
      | then-value-most-via-then-value-most w ↦ omega (arith, h, same)
      | then-value-most-via-else-value-most+then-ne w ↦
          let equal : w.as_bytes.result.now ≡ c.args.word.now =
          w.as_bytes.ensures.value ∙ w.format.ensures.text ∙ ap decimal same ∙ sym h.1 in
          let yes = (bytes_eq-Decides w.as_bytes.result.now c.args.word.now).1 equal in
          false≢true (sym (w.if-ne.ensures ∙ ap not yes))
    ]

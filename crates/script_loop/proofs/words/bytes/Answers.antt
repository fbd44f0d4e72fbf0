use Rattle.std.proofs.Common.{◌≡◌, arith, inl, inr, sym, ◌∙◌}
use Rattle.std.proofs.lemmas.Bool.{false≢true}
use Rattle.std.proofs.lemmas.Slice.Eq.{bytes_eq-Decides}
use Rattle.hex.proofs.HexLemmas.{decode_of-ok}
use Rattle.script_loop.proofs.words.bytes.Goals as goal

pub returns-then-len-eq0-clause-bytes : goal.returns-then-len-eq0-clause-bytes
returns-then-len-eq0-clause-bytes c = λ bytes h.
    elim h [
      | inl dash ↦
          let same : c.args.word.now ≡ c.as_slice.result.now = dash.0 ∙ sym c.as_slice.ensures in
          false≢true (c.if-eq.ensures ∙ (bytes_eq-Decides c.args.word.now c.as_slice.result.now).1 same)
      | inr some ↦
          let size = (decode_of-ok c.args.word.now bytes some.2).2 in
          omega (arith, size, some.0, some.1, c.then-len-eq0.either)
    ]

use Rattle.std.proofs.Common.{◌≡◌, ◌∙◌, subst, sym}
use Rattle.std.specs.Str.{IsUtf8}
use Rattle.play_wire.proofs.SeedLemmas.{seed-is, seed-parsed, seed-text}
use Rattle.play_wire.proofs.wire_ask.seed_in.Goals as goal

pub returns-in_default : goal.returns-in_default
returns-in_default c = λ seed h.
    let word : h.0 ≡ c.in_ok-word.word.now = cc (sym h.1 ∙ c.in_ok-word.ensures) in
    c.in_default.ensures.cases.0 (subst IsUtf8 word (seed-text h.0 h.2))

pub returns-in_default-parse : goal.returns-in_default-parse
returns-in_default-parse c = λ seed h.
    let word : c.in_ok-word.word.now ≡ h.0 = cc (sym c.in_ok-word.ensures ∙ h.1) in
    c.in_default-parse.not-Ok _
    (seed-parsed h.0 c.in-Ok.text.now c.parse.result (c.in-Ok.ensures.cases.0 ∙ word) c.parse.ensures.value.0 h.2 h.3)

pub returns : goal.returns
returns c =
    seed-is _ c.in_ok-word.word.now c.in-Ok.text.now c.parse.result c.in-Ok-parse.seed c.in_ok-word.ensures
    c.in-Ok.ensures.cases.0 c.parse.ensures.value.0 c.in-Ok-parse.is

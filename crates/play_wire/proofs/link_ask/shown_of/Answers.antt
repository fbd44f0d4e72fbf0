use Rattle.std.proofs.Common.{◌∙◌, sym}
use Rattle.std.proofs.lemmas.Bool.{false≢true}
use Rattle.std.proofs.lemmas.Slice.Eq.{bytes_eq-Decides}
use Rattle.script_loop.specs.Left.{left}
use Rattle.play_wire.proofs.LinkLemmas.{no_shown}
use Rattle.play_wire.proofs.link_ask.shown_of.Goals as goal

pub returns : goal.returns
returns c =
    no_shown (left c.args.rest) c.in_ok-word.word.now c.in_ok-word.ensures
    (λ same. false≢true (sym c.if-eq.false ∙ c.eq.ensures
    ∙ (bytes_eq-Decides c.in_ok-word.word.now c.as_slice.result.now).1 (same ∙ sym c.as_slice.ensures)))
    (λ same. false≢true (sym c.if-eq-2.false ∙ c.eq-2.ensures
    ∙ (bytes_eq-Decides c.in_ok-word.word.now c.as_slice-2.result.now).1 (same ∙ sym c.as_slice-2.ensures)))
